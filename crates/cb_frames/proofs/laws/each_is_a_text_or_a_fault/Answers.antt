use Rattle.cb_frames.proofs.Unique.{text_has_no_fault, one_first_fault}
use Rattle.cb_frames.proofs.Decoding.{each_is, reading_is_exact}
use Rattle.cb_frames.proofs.NeverMemory.{reading_takes_no_memory}
use Rattle.cb_frames.proofs.laws.each_is_a_text_or_a_fault.Goals as goal

pub returns-clause-each : goal.returns-clause-each
returns-clause-each c = each_is

pub returns-clause-not_both : goal.returns-clause-not_both
returns-clause-not_both c = text_has_no_fault

pub returns-clause-one : goal.returns-clause-one
returns-clause-one c = one_first_fault

pub returns-clause-reading : goal.returns-clause-reading
returns-clause-reading c = reading_is_exact

pub returns-clause-memory : goal.returns-clause-memory
returns-clause-memory c = reading_takes_no_memory
