use Rattle.std.proofs.Common.{◌≡◌, Ok, subst}
use Rattle.cb_history.specs.State.{MemberState, answer_to_cast, next_in}
use Rattle.cb_reference.specs.Casting.{load_of, IsCasting}
use Rattle.cb_reference.proofs.cast.answer_cast.Goals as goal

pub returns-clause-answer : goal.returns-clause-answer
returns-clause-answer c =
    let load = load_of c.args.load in
    subst (λ (m : MemberState). answer_to_cast m load ≡ Ok (next_in m load)) c.in_ok-past.ensures c.in_ok-casting.ensures.answer

pub returns-clause-casting : goal.returns-clause-casting
returns-clause-casting c = subst (λ (m : MemberState). IsCasting m (load_of c.args.load) c.in_ok-casting.casting) c.in_ok-past.ensures c.in_ok-casting.ensures.casting
