use Rattle.std.proofs.Common.{Bool, ◌∙◌, rules, tests}
use Rattle.std.proofs.lemmas.Iterator.{YieldsList-from_slice}
use Rattle.std.proofs.lemmas.Iterator.Search.{any_from_yields_List}
use Rattle.cb_frames.specs.Fields.{Carried}
use Rattle.cb_history.specs.Facts.{casts_in, is_there}
use Rattle.cb_history.specs.State.{MemberState, facts_in}
use Rattle.cb_reference.specs.declared.casts.Message.{Message}
use Rattle.cb_reference.specs.Messages.{carried_of}
use Rattle.cb_reference.proofs.Messages.{any_carried}
use Rattle.cb_reference.proofs.arrival.cast.is_some_there.Goals as goal

pub returns : goal.returns
returns c =
    let now : MemberState = c.args.past.now in
    let test : Carried → Bool = λ (m : Carried). is_there (casts_in (facts_in now)) m.sender m.number in
    any_from_yields_List (λ (m : Message). test (carried_of m)) _ _ c.any.result c.any.ensures.ran
    (YieldsList-from_slice c.args.messages.now cc) (λ x b q k. search (rules, tests))
    ∙ any_carried test c.args.messages.now
