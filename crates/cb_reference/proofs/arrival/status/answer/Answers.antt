use Rattle.std.proofs.Common.{◌≡◌, ◌<◌, ◌∙◌, ◌++◌, ◌∷◌, [], true, false, List, Ok, Err, length, map, ap, subst, refl, inl}
use Rattle.std.proofs.lemmas.List.{map-append}
use Rattle.std.proofs.lemmas.Result.{err_from_is_err_and}
use Rattle.cb_frames.specs.Fields.{status_fields, StatusFrame}
use Rattle.cb_history.specs.Facts.{Fact, EntryFields, StatusReceived, facts_of}
use Rattle.cb_history.specs.Answers.{Accepted, deliveries}
use Rattle.cb_history.specs.State.{MemberState, facts_in}
use Rattle.cb_reference.specs.declared.facts.Fact.{Fact as PlainFact}
use Rattle.cb_reference.specs.declared.facts.Fact.TheVariants as plain
use Rattle.cb_reference.specs.Facts.{fact_of}
use Rattle.cb_reference.specs.declared.arrival.status.Judged.{Judged}
use Rattle.cb_reference.specs.declared.arrival.status.Judged.TheVariants as news
use Rattle.cb_reference.specs.Arrivals.{answer_to_frame, JudgesStatus}
use Rattle.cb_reference.proofs.Arriving.{taken_accepts, unchanged_accepts}
use Rattle.cb_reference.proofs.arrival.status.answer.Goals as goal

pub returns-in_ok-take-in-News-clause-accepted : goal.returns-in_ok-take-in-News-clause-accepted
returns-in_ok-take-in-News-clause-accepted c =
    let m : MemberState = c.args.member.now in
    let frame = StatusFrame (status_fields c.args.status) in
    let facts : map fact_of c.in_ok-facts.facts.items ≡ facts_in m = c.in_ok-facts.ensures.facts ∙ ap (λ (es : List EntryFields). facts_of es) c.history.ensures.entries in
    let more : map fact_of c.deref-in-News.result.now ≡ facts_in m ++ StatusReceived (status_fields c.args.status) ∷ [] =
    ap (λ (fs : List PlainFact). map fact_of fs) (c.deref-in-News.ensures.value ∙ c.in_ok-push-in-News.ensures.items)
    ∙ map-append fact_of c.in_ok-facts.facts.items (plain.StatusReceived c.args.status ∷ [])
    ∙ ap (λ (fs : List Fact). fs ++ StatusReceived (status_fields c.args.status) ∷ []) facts in
    let judged : (answer_to_frame m frame ≡ Ok (Accepted (deliveries m.seat (facts_in m) frame) true [])) × (length m.entries < m.limit) =
    subst (λ (n : MemberState). JudgesStatus n (status_fields c.args.status) (Ok news.News)) c.in_ok-past.ensures
    (subst (λ (j : Judged). JudgesStatus c.in_ok-past.past (status_fields c.args.status) (Ok j)) c.in-News.is c.in_ok-judged.ensures) in
    taken_accepts m c.args.bytes.now frame (answer_to_frame m frame) c.in_ok-take-in-News.field-0 judged.0 judged.1 (c.in_ok-take-in-News.ensures frame more)

pub returns-in-NoNews-clause-accepted : goal.returns-in-NoNews-clause-accepted
returns-in-NoNews-clause-accepted c =
    let m : MemberState = c.args.member.now in
    let frame = StatusFrame (status_fields c.args.status) in
    let judged : answer_to_frame m frame ≡ Ok (Accepted [] false []) =
    subst (λ (n : MemberState). JudgesStatus n (status_fields c.args.status) (Ok news.NoNews)) c.in_ok-past.ensures
    (subst (λ (j : Judged). JudgesStatus c.in_ok-past.past (status_fields c.args.status) (Ok j)) c.in-NoNews.is c.in_ok-judged.ensures) in
    unchanged_accepts m c.args.bytes.now [] (answer_to_frame m frame) _ judged (rw (c.new.ensures.items, c.new-in-NoNews.ensures.items) refl) refl

pub returns-in_err-judged-clause-refused : goal.returns-in_err-judged-clause-refused
returns-in_err-judged-clause-refused c =
    let exit = err_from_is_err_and c.from_residual-in_err-judged.result c.from_residual-in_err-judged.ensures.1 in
    rw (exit.1, exit.2)
    (inl (subst (λ (n : MemberState). answer_to_frame n (StatusFrame (status_fields c.args.status)) ≡ Err c.in_err-judged.field-0.0) c.in_ok-past.ensures c.in_err-judged.ensures))
