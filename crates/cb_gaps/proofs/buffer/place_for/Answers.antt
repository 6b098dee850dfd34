use Rattle.std.proofs.Common.{rules, of_calls}
use Rattle.std.proofs.lemmas.Fn.{always_returns_same}
use Rattle.cb_frames.specs.declared.frame.Unit.{Unit as Carrying}
use Rattle.cb_frames.specs.Fields.{unit_fields}
use Rattle.cb_gaps.specs.Lists.{side_of}
use Rattle.cb_gaps.proofs.Entries.{searched}
use Rattle.cb_gaps.proofs.buffer.place_for.Goals as goal

pub returns : goal.returns
returns c =
    let facts = c.binary_search_by.ensures in
    let by_side = facts.position (λ (u : Carrying). side_of (unit_fields u) c.args.first c.args.last) (always_returns_same _ _ _ (λ a r f called. search (rules, of_calls))) in
    rw c.err.ensures.value (searched c.args.first c.args.last _ c.args.kept.now.items c.binary_search_by.result c.requires c.args.kept.now.ok.0 facts.bound by_side)
