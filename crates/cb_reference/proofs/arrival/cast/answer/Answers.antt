use Rattle.std.proofs.Common.{◌≡◌, ◌<◌, ◌∙◌, ◌++◌, ◌∷◌, [], true, List, Ok, length, map, ap, rules}
use Rattle.std.proofs.lemmas.List.{map-append}
use Rattle.cb_frames.specs.Fields.{CastFrame}
use Rattle.cb_history.specs.Facts.{Fact, EntryFields, CastReceived, facts_of}
use Rattle.cb_history.specs.Answers.{Accepted, deliveries}
use Rattle.cb_history.specs.State.{MemberState, facts_in}
use Rattle.cb_reference.specs.declared.facts.Fact.{Fact as PlainFact}
use Rattle.cb_reference.specs.declared.facts.Fact.TheVariants as plain
use Rattle.cb_reference.specs.Facts.{fact_of}
use Rattle.cb_reference.specs.Arrivals.{answer_to_frame}
use Rattle.cb_reference.proofs.Arriving.{taken_accepts}
use Rattle.cb_reference.proofs.arrival.cast.answer.Goals as goal

pub returns-in_ok-take-in-Taken-clause-accepted : goal.returns-in_ok-take-in-Taken-clause-accepted
returns-in_ok-take-in-Taken-clause-accepted c =
    let m : MemberState = c.args.member.now in
    let frame = CastFrame c.args.cast in
    let facts : map fact_of c.in_ok-facts.facts.items ≡ facts_in m = c.in_ok-facts.ensures.facts ∙ ap (λ (es : List EntryFields). facts_of es) c.history.ensures.entries in
    let more : map fact_of c.deref-in-Taken.result.now ≡ facts_in m ++ CastReceived c.args.cast ∷ [] =
    ap (λ (fs : List PlainFact). map fact_of fs) (c.deref-in-Taken.ensures.value ∙ c.in_ok-push-in-Taken.ensures.items)
    ∙ map-append fact_of c.in_ok-facts.facts.items (plain.CastReceived c.args.cast ∷ [])
    ∙ ap (λ (fs : List Fact). fs ++ CastReceived c.args.cast ∷ []) facts in
    let judged : (answer_to_frame m frame ≡ Ok (Accepted (deliveries m.seat (facts_in m) frame) true [])) × (length m.entries < m.limit) = search rules in
    taken_accepts m c.args.bytes.now frame (answer_to_frame m frame) c.in_ok-take-in-Taken.field-0 judged.0 judged.1 (c.in_ok-take-in-Taken.ensures frame more)
