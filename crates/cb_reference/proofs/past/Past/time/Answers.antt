use Rattle.std.proofs.Common.{map, arith}
use Rattle.std.proofs.lemmas.List.{length-map}
use Rattle.cb_history.proofs.Bounds.{count_at_most}
use Rattle.cb_reference.specs.Messages.{carried_of}
use Rattle.cb_reference.proofs.past.Past.time.Goals as goal

pub counts-requires-clause-few : goal.counts-requires-clause-few
counts-requires-clause-few c = λ j. omega (arith, count_at_most (map carried_of c.seen.result.now) j, length-map c.seen.result.now carried_of, c.seen.ensures.few)
