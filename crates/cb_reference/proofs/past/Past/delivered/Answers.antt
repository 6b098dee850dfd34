use Rattle.std.proofs.Common.{map, arith}
use Rattle.std.proofs.lemmas.List.{length-map}
use Rattle.cb_history.proofs.Bounds.{count_at_most}
use Rattle.cb_reference.specs.Messages.{carried_of}
use Rattle.cb_reference.proofs.past.Past.delivered.Goals as goal

pub returns-clause-few : goal.returns-clause-few
returns-clause-few c = omega (arith, c.count.ensures, count_at_most (map carried_of c.seen.result.now) c.args.k, length-map c.seen.result.now carried_of, c.seen.ensures.few)
