use Rattle.std.proofs.Common.{sym, ◌∙◌}
use Rattle.cb_trace.specs.Search.{found_in}
use Rattle.cb_trace.proofs.Frames.{finds_again}
use Rattle.cb_trace.proofs.joining.note_one.Goals as goal

pub returns-then-contains_key : goal.returns-then-contains_key
returns-then-contains_key c = finds_again c.args.bytes.now c.args.number (found_in c.args.first_frames.now) (sym c.contains_key.ensures ∙ c.if-contains_key.true)
