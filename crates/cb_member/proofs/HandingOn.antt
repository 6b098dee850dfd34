-- What is kept to be handed on: with one fact more, with one frame more, and with fewer.
use Rattle.std.proofs.Common.{◌≡◌, ◌≢◌, ℕ, zero, suc, List, [], ◌∷◌, ◌++◌, length, map, set, Some, sym, ap, subst, ◌∙◌, arith, inl, inr, All, slice_get}
use Rattle.std.specs.List.{AllByRecursion}
use Rattle.std.proofs.lemmas.List.{length-set}
use Rattle.std.proofs.lemmas.List.Elements.{recursion_from_All}
use Rattle.cb_frames.specs.declared.frame.Range.{Range}
use Rattle.cb_frames.specs.Fields.{CastFields, HelpFields, HelpFrame}
use Rattle.cb_stability.specs.Known.{Known}
use Rattle.cb_stability.specs.Relays.{Relayed, placed, with_place, behind_stable, handed_on}
use Rattle.cb_stability.specs.Sent.{first_in}
use Rattle.cb_history.specs.Group.{Identity}
use Rattle.cb_history.specs.Facts.{Fact, CastReceived}
use Rattle.cb_history.specs.Known.{stable_of}
use Rattle.cb_history.specs.Answers.{delivered, sent_in_answer}
use Rattle.cb_history.specs.LegalFacts.{AreFactsOf}
use Rattle.cb_history.specs.RelayLaws.{IsNoCastOf, KeepsRelays, NothingIsRelayed, PutIsRelayed, RelaysAreHandedOn, RelaysStay, TrimIsRelayed}
use Rattle.cb_history.specs.StabilityLaws.{KnowsAcknowledged, sent_to, spanned_frame}
use Rattle.cb_member.specs.Relaying.{IsWithoutFrames, KeepsAllRelays, RelaysCast, TrimsRelays}
use Rattle.cb_member.proofs.Receiving.{one_value, set_at}

-- ---- no facts

one_of_all : {A : Type 0} → (P : A → Type 0) (xs : List A) (i : ℕ) (a : A) → AllByRecursion P xs → slice_get xs i ≡ Some a → P a
one_of_all P [] i a all at = absurd cc
one_of_all P (x ∷ xs) zero a all at = subst P (one_value x a at) all.0
one_of_all P (x ∷ xs) (suc i) a all at = one_of_all P xs i a all.1 at

pub none_relayed : NothingIsRelayed → (seat : Identity) (relays : List Relayed) → length relays ≡ seat.group.size → All (IsWithoutFrames seat.group.window) relays → KeepsAllRelays seat [] relays
none_relayed nothing seat relays many all = record {
  members = many;
  each = λ i r at other.
      let none = one_of_all (IsWithoutFrames seat.group.window) relays i r (recursion_from_All (IsWithoutFrames seat.group.window) relays all) at in
      nothing seat i r (ap (λ (x : Relayed). x.window) none) (ap (λ (x : Relayed). x.kept) none);
}

-- ---- a fact that is no cast of another

pub all_stay : RelaysStay → (seat : Identity) (facts : List Fact) (f : Fact) (relays : List Relayed) → AreFactsOf seat (facts ++ f ∷ []) → ((i : ℕ) → i ≢ seat.me → IsNoCastOf i f)
    → KeepsAllRelays seat facts relays → KeepsAllRelays seat (facts ++ f ∷ []) relays
all_stay stay seat facts f relays are none keeps = record {
  members = keeps.members;
  each = λ i r at other. stay seat facts f i r other are (none i other) (keeps.each i r at other);
}

-- ---- a cast of another, whose frame is put

pub put_is_relayed : PutIsRelayed → RelaysStay → (c : CastFields) (old new : List Relayed) (before after : Relayed) → slice_get old c.sender ≡ Some before → new ≡ set old c.sender after
    → after.window ≡ before.window → after.kept ≡ placed (spanned_frame c) (with_place before.window before.kept) → RelaysCast c old new
put_is_relayed put stay c old new before after at is window kept seat facts are keeps =
    let now = facts ++ CastReceived c ∷ [] in
    subst (KeepsAllRelays seat now) (sym is) (record {
      members = length-set old c.sender after ∙ keeps.members;
      each = λ i r there other. elim (set_at old c.sender i after r there) [
        | inl here ↦
            let sender_other : c.sender ≢ seat.me = subst (λ (k : ℕ). k ≢ seat.me) here.0 other in
            let has : KeepsRelays seat now c.sender after = put seat facts c before after are (keeps.each c.sender before at sender_other) window kept in
            subst (λ (x : Relayed). KeepsRelays seat now i x) (sym here.1) (subst (λ (k : ℕ). KeepsRelays seat now k after) (sym here.0) has)
        | inr elsewhere ↦ stay seat facts (CastReceived c) i r other are (λ e. elsewhere.0 (sym e)) (keeps.each i r elsewhere.1 other)
      ];
    })

-- ---- those that are stable are let go

pub trim_is_relayed : TrimIsRelayed → (known : Known) (sender number : ℕ) (old new : List Relayed) (before after : Relayed) → slice_get old sender ≡ Some before → new ≡ set old sender after
    → after.window ≡ before.window → after.kept ≡ behind_stable number before.kept
    → ((seat : Identity) (facts : List Fact) → KnowsAcknowledged seat facts known → number ≡ stable_of seat facts sender) → TrimsRelays known old new
trim_is_relayed trim known sender number old new before after at is window kept stable seat facts are knows keeps =
    subst (KeepsAllRelays seat facts) (sym is) (record {
      members = length-set old sender after ∙ keeps.members;
      each = λ i r there other. elim (set_at old sender i after r there) [
        | inl here ↦
            let sender_other : sender ≢ seat.me = subst (λ (k : ℕ). k ≢ seat.me) here.0 other in
            let most = stable seat facts knows in
            let has : KeepsRelays seat facts sender after = trim seat facts sender number before after are sender_other (omega (arith, most)) (keeps.each sender before at sender_other) window kept in
            subst (λ (x : Relayed). KeepsRelays seat facts i x) (sym here.1) (subst (λ (k : ℕ). KeepsRelays seat facts k after) (sym here.0) has)
        | inr elsewhere ↦ keeps.each i r elsewhere.1 other
      ];
    })

-- ---- a help frame is answered

pub are_sent_in_answer : RelaysAreHandedOn → (seat : Identity) (facts : List Fact) (r : Relayed) (h : HelpFields) (stable last : ℕ) (ranges : List Range) (frames : List (List ℕ)) → AreFactsOf seat facts
    → h.helper ≡ seat.me → h.sender ≢ seat.me → KeepsRelays seat facts h.sender r → stable ≡ stable_of seat facts h.sender → last ≡ delivered seat facts h.sender → ranges ≡ h.ranges
    → frames ≡ first_in ranges (handed_on r.window stable last r.kept) → map (sent_to h.requester) frames ≡ sent_in_answer seat facts (HelpFrame h)
are_sent_in_answer again seat facts r h stable last ranges frames are mine other keeps stable_is last_is asked is =
    let these : frames ≡ first_in h.ranges (handed_on r.window (stable_of seat facts h.sender) (delivered seat facts h.sender) r.kept) =
    is ∙ ap (λ (rs : List Range). first_in rs (handed_on r.window stable last r.kept)) asked
    ∙ ap (λ (n : ℕ). first_in h.ranges (handed_on r.window n last r.kept)) stable_is
    ∙ ap (λ (n : ℕ). first_in h.ranges (handed_on r.window (stable_of seat facts h.sender) n r.kept)) last_is in
    ap (map (sent_to h.requester)) these ∙ sym (again seat facts r h are mine other keeps)
