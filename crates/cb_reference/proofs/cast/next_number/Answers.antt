use Rattle.std.proofs.Common.{map, arith}
use Rattle.std.proofs.lemmas.List.{length-map}
use Rattle.cb_reference.specs.Messages.{carried_of}
use Rattle.cb_history.proofs.Bounds.{count_at_most}
use Rattle.cb_reference.proofs.cast.next_number.Goals as goal

pub overflow_cast-result : goal.overflow_cast-result
overflow_cast-result c = omega (arith, c.requires, c.count.ensures, count_at_most (map carried_of c.args.seen.now) c.args.k, length-map c.args.seen.now carried_of)

pub overflow_add-result : goal.overflow_add-result
overflow_add-result c = omega (arith, c.requires, c.count.ensures, count_at_most (map carried_of c.args.seen.now) c.args.k, length-map c.args.seen.now carried_of)
