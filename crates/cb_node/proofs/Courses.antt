-- Courses of calls: one behind the other, and on top of what waits to be sent.
use Rattle.std.proofs.Common.{◌≡◌, ℕ, List, ◌++◌, [], ◌∷◌, Option, Some, None, Result, Ok, refl, sym, ap, subst, ◌∙◌, append_assoc}
use Rattle.std.specs.List.{flat_map}
use Rattle.std.proofs.lemmas.List.{append-nil, flat_map_more}
use Rattle.cb_delay.specs.declared.message.Event.{Event}
use Rattle.cb_frames.specs.Fields.{Load}
use Rattle.cb_history.specs.declared.answer.ArriveRefusal.{ArriveRefusal}
use Rattle.cb_history.specs.declared.answer.BurstDone.{BurstDone}
use Rattle.cb_history.specs.declared.answer.CastDone.{CastDone}
use Rattle.cb_history.specs.declared.answer.HelpFault.{HelpFault}
use Rattle.cb_history.specs.declared.answer.Outgoing.{Outgoing}
use Rattle.cb_history.specs.declared.answer.Ticked.{Ticked}
use Rattle.cb_history.specs.Facts.{EntryFields}
use Rattle.cb_history.specs.Group.{Identity}
use Rattle.cb_history.specs.Legal.{IsLegal, ToCast, ToTake, ToTick, and_entry}
use Rattle.cb_history.specs.State.{HasCast, HasCastBurst, HasTicked, MemberState, answer_to_help, entry_by, events_in}
use Rattle.cb_history.proofs.Prefixes.{prefix_is_legal}
use Rattle.cb_node.specs.declared.named.Named.{Named}
use Rattle.cb_node.specs.declared.refused.Refused.{Refused}
use Rattle.cb_node.specs.Course.{Answers, Asks, Bursts, Casts, Goes, HasAnswered, MayRefuse, Refuses, Stays, Takes, Ticks, Work, to_all}
use Rattle.cb_node.specs.Desk.{TakesIn}
use Rattle.cb_node.specs.Kept.{HasNamedBurst, HasNamedCast, IsKeptState, KeptState, work_of}
use Rattle.cb_node.specs.Refusing.{with_refusal}
use Rattle.cb_node.proofs.Growing.{grows}

pub and_then : (a b c : Work) → Goes a b → Goes b c → Goes a c
and_then a b _ first (Stays w) = first
and_then a b _ first (Answers w v new out then_on answered) = Answers a v new out (and_then a b v first then_on) answered
and_then a b _ first (Refuses w v bytes refusal then_on refused) = Refuses a v bytes refusal (and_then a b v first then_on) refused

-- with more that was to be sent before
abbrev pub on_top : List Outgoing → Work → Work
on_top sent w = record { member = w.member; post = sent ++ w.post; refused = w.refused }

pub goes_on_top : (sent : List Outgoing) (a b : Work) → Goes a b → Goes (on_top sent a) (on_top sent b)
goes_on_top sent a _ (Stays w) = Stays (on_top sent a)
goes_on_top sent a _ (Answers w v new out then_on answered) =
    let post = append_assoc sent v.post out in
    subst (λ (p : List Outgoing). Goes (on_top sent a) (record { member = new; post = p; refused = v.refused })) post
    (Answers (on_top sent a) (on_top sent v) new out (goes_on_top sent a v then_on) answered)
goes_on_top sent a _ (Refuses w v bytes refusal then_on refused) =
    Refuses (on_top sent a) (on_top sent v) bytes refusal (goes_on_top sent a v then_on) refused

-- ---- the events along a course

-- what an answer adds to the entries
added_by : (old new : MemberState) (out : List Outgoing) → HasAnswered old new out → (added : Option EntryFields) × (new ≡ record { seat = old.seat; limit = old.limit; entries = and_entry old.entries added })
added_by _ _ _ (Casts old new load done h) = (entry_by old (ToCast load), h.after)
added_by _ _ _ (Bursts old new load done h) = (entry_by old (ToCast load), h.after)
added_by _ _ _ (Takes old new bytes out h) = (entry_by old (ToTake bytes), h.after)
added_by _ _ _ (Ticks old new ticked h) = (entry_by old ToTick, h.after)
added_by _ _ _ (Asks m i help h) = (None, refl)

-- earlier events stay, and the history before was legal
pub record GrowsInto (old new : MemberState) : Type 0 where
  pub legal : IsLegal old.seat old.entries
  pub more : List Event
  pub events : events_in new ≡ events_in old ++ more

legal_before : (seat : Identity) (entries : List EntryFields) (added : Option EntryFields) → IsLegal seat (and_entry entries added) → IsLegal seat entries
legal_before seat entries None legal = legal
legal_before seat entries (Some e) legal = prefix_is_legal seat entries (e ∷ []) legal

answer_grows : (old new : MemberState) (out : List Outgoing) → HasAnswered old new out → IsLegal new.seat new.entries → GrowsInto old new
answer_grows old new out h legal =
    let a = added_by old new out h in
    let legal_after = subst (λ (m : MemberState). IsLegal m.seat m.entries) a.1 legal in
    let g = grows old.seat old.entries a.0 legal_after in
    record {
      legal = legal_before old.seat old.entries a.0 legal_after;
      more = g.0;
      events = ap events_in a.1 ∙ g.1;
    }

pub course_grows : (w v : Work) → Goes w v → IsLegal v.member.seat v.member.entries → GrowsInto w.member v.member
course_grows w _ (Stays same) legal = record { legal = legal; more = []; events = sym (append-nil (events_in w.member)) }
course_grows w _ (Answers first_work v new out then_on answered) legal =
    let last = answer_grows v.member new out answered legal in
    let first = course_grows w v then_on last.legal in
    record {
      legal = first.legal;
      more = first.more ++ last.more;
      events = last.events ∙ ap (λ (es : List Event). es ++ last.more) first.events ∙ append_assoc (events_in w.member) first.more last.more;
    }
course_grows w _ (Refuses first_work v bytes refusal then_on refused) legal = course_grows w v then_on legal

-- ---- courses of one call

work_of_parts : (w : Work) (member : MemberState) (post : List Outgoing) (refused : Refused) → w.member ≡ member → w.post ≡ post → w.refused ≡ refused → w ≡ record { member = member; post = post; refused = refused }
work_of_parts w member post refused m p r =
    ap (λ (x : MemberState). let v : Work = record { member = x; post = w.post; refused = w.refused } in v) m
    ∙ ap (λ (x : List Outgoing). let v : Work = record { member = member; post = x; refused = w.refused } in v) p
    ∙ ap (λ (x : Refused). let v : Work = record { member = member; post = post; refused = x } in v) r

pub goes_nowhere : (w v : Work) → v ≡ w → Goes w v
goes_nowhere w v same = subst (Goes w) (sym same) (Stays w)

pub goes_by_answer : (w v : Work) (out : List Outgoing) → HasAnswered w.member v.member out → v.post ≡ w.post ++ out → v.refused ≡ w.refused → Goes w v
goes_by_answer w v out answered post refused =
    subst (Goes w) (sym (work_of_parts v v.member (w.post ++ out) w.refused refl post refused)) (Answers w w v.member out (Stays w) answered)

pub goes_by_taking : (w v : Work) (bytes : List ℕ) → TakesIn w v bytes → Goes w v
goes_by_taking w v bytes t = goes_by_answer w v t.out (Takes w.member v.member bytes t.out t.takes) t.post t.refused

pub goes_by_refusing : (w v : Work) (bytes : List ℕ) (refusal : ArriveRefusal) → MayRefuse w.member bytes refusal → v.member ≡ w.member → v.post ≡ w.post → v.refused ≡ with_refusal w.refused refusal → Goes w v
goes_by_refusing w v bytes refusal may member post refused =
    subst (Goes w) (sym (work_of_parts v w.member w.post (with_refusal w.refused refusal) member post refused)) (Refuses w w bytes refusal (Stays w) may)

-- the same of what a kept member holds
pub goes_on_same : (old new : KeptState) → new ≡ old → Goes (work_of old) (work_of new)
goes_on_same old new same = goes_nowhere (work_of old) (work_of new) (ap work_of same)

-- a list more that is to be sent
pub posted_more : {X : Type 0} (f : X → List Outgoing) (xs ys : List X) (x : X) (out : List Outgoing) → ys ≡ xs ++ x ∷ [] → f x ≡ out → flat_map f ys ≡ flat_map f xs ++ out
posted_more {X} f xs ys x out more is = ap (flat_map f) more ∙ sym (flat_map_more f [] xs x) ∙ ap (λ (o : List Outgoing). flat_map f xs ++ o) is

-- a third member is asked
pub asks_more : (old mid new : KeptState) (sender : ℕ) (help : Outgoing) → IsKeptState old → old.fault ≡ None → mid ≡ old → answer_to_help mid.member sender ≡ Ok (Some help)
    → new.kept ≡ mid.kept → new.refused ≡ mid.refused → new.post ≡ mid.post ++ help ∷ [] → Goes (work_of old) (work_of new)
asks_more old mid new sender help is alive same asked kept refused post =
    let at : MemberState → Result (Option Outgoing) HelpFault = λ m. answer_to_help m sender in
    let asked_then : answer_to_help old.kept sender ≡ Ok (Some help) = ap at (is.whole alive ∙ ap (λ (s : KeptState). s.member) (sym same)) ∙ asked in
    let stays : new.kept ≡ old.kept = kept ∙ ap (λ (s : KeptState). s.kept) same in
    let answered : HasAnswered old.kept new.kept (help ∷ []) = subst (λ (m : MemberState). HasAnswered old.kept m (help ∷ [])) (sym stays) (Asks old.kept sender help asked_then) in
    goes_by_answer (work_of old) (work_of new) (help ∷ []) answered (post ∙ ap (λ (s : KeptState). s.post ++ help ∷ []) same) (refused ∙ ap (λ (s : KeptState). s.refused) same)

-- a cast, of what stood before it and behind it
pub named_cast : (old new : KeptState) (before after : MemberState) (load : Load) (done : CastDone) (named : Named) → old.kept ≡ before → new.kept ≡ after → HasCast before after load done
    → named.first ≡ done.name → named.count ≡ 1 → named.time ≡ done.time → new.post ≡ old.post ++ to_all done.out ∷ [] → new.refused ≡ old.refused → HasNamedCast old new load named
named_cast old new before after load done named b a cast first count time post refused = record {
  done = done;
  cast = subst (λ (m : MemberState). HasCast m new.kept load done) (sym b) (subst (λ (m : MemberState). HasCast before m load done) (sym a) cast);
  first = first;
  count = count;
  time = time;
  post = post;
  refused = refused;
}

pub named_burst : (old new : KeptState) (before after : MemberState) (load : Load) (done : BurstDone) (named : Named) → old.kept ≡ before → new.kept ≡ after → HasCastBurst before after load done
    → named.first ≡ done.first → named.count ≡ done.count → named.time ≡ done.time → new.post ≡ old.post ++ to_all done.out ∷ [] → new.refused ≡ old.refused → HasNamedBurst old new load named
named_burst old new before after load done named b a cast first count time post refused = record {
  done = done;
  cast = subst (λ (m : MemberState). HasCastBurst m new.kept load done) (sym b) (subst (λ (m : MemberState). HasCastBurst before m load done) (sym a) cast);
  first = first;
  count = count;
  time = time;
  post = post;
  refused = refused;
}

-- a tick
pub goes_by_tick : (old new : KeptState) (before after : MemberState) (ticked : Ticked) → old.kept ≡ before → new.kept ≡ after → HasTicked before after ticked
    → new.post ≡ old.post ++ ticked.out.items → new.refused ≡ old.refused → Goes (work_of old) (work_of new)
goes_by_tick old new before after ticked b a h post refused =
    let ticks : HasTicked old.kept new.kept ticked = subst (λ (m : MemberState). HasTicked m new.kept ticked) (sym b) (subst (λ (m : MemberState). HasTicked before m ticked) (sym a) h) in
    goes_by_answer (work_of old) (work_of new) ticked.out.items (Ticks old.kept new.kept ticked ticks) post refused
