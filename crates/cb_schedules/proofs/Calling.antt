-- One call of one member keeps the invariant of a run.
use Rattle.std.proofs.Common.{◌≡◌, ◌≢◌, ℕ, ◌<◌, ◌≤◌, Bool, true, false, ◌&&◌, ◌||◌, eqb, List, [], ◌∷◌, ◌++◌, map, length, Ok, Err, refl, sym, ap, subst, ◌∙◌, arith, inl, inr, ◌⊎◌}
use Rattle.std.specs.List.{AllByRecursion, flat_map, list_any}
use Rattle.std.proofs.lemmas.Bool.{cases_eq, eq-eqb, ne_eqb}
use Rattle.std.proofs.lemmas.List.{append-nil}
use mathlib.Core.Path.{fun_ext}
use Rattle.cb_times.specs.declared.name.Name.{Name}
use Rattle.cb_frames.specs.Fields.{CastFields, Carried}
use Rattle.cb_history.specs.Read.{frame_read}
use Rattle.cb_causality.specs.Lists.{Appends}
use Rattle.cb_causality.specs.StampedMachine.{StampedStep}
use Rattle.cb_causality.specs.Extension.{Extends, Still}
use Rattle.cb_history.specs.declared.answer.Outgoing.{Outgoing}
use Rattle.cb_history.specs.Group.{Identity}
use Rattle.cb_history.specs.Facts.{EntryFields, Fact, said_by, facts_of, casts_in, is_there}
use Rattle.cb_history.specs.Answers.{own_casts}
use Rattle.cb_history.specs.Legal.{Call, ToCast, ToTake, ToTick, ToHelp, AreEntriesOf}
use Rattle.cb_history.specs.LegalFacts.{AreFactsOf}
use Rattle.cb_history.proofs.Views.{IsIn}
use Rattle.cb_history.proofs.Lists.{flat_map-append, in_front, in_back}
use Rattle.cb_history.proofs.Histories.{entries_say_legal_facts}
use Rattle.cb_history.proofs.Buffers.{cast_of_is_in, in_is_cast_of}
use Rattle.cb_schedules.specs.Schedule.{Setting, IsSetting, seat_at, SentFrame, Calls, Answer, CastAnswer, ArrivalAnswer, TickAnswer, HelpAnswer, NoSuchMember, NoSuchFrame, NoBytes, frames_sent, sent_by, GroupState, with_history}
use Rattle.cb_schedules.specs.Messages.{facts_at, stamped_lists, received_by, arrived_at, has_arrived, cast_read, sent_casts}
use Rattle.cb_schedules.specs.Honest.{member_of, IsHonest, events_of, AreTogether}
use Rattle.cb_schedules.specs.Consistent.{IsConsistent}
use Rattle.cb_schedules.proofs.Growing.{honest_stays}
use Rattle.cb_schedules.proofs.Stamping.{IsSoBefore, extends_by, together_after}
use Rattle.cb_schedules.proofs.Lists.{all_weaken, all_both}

-- ---- lists

pub any-append : {A : Type 0} (p : A → Bool) (xs ys : List A) → list_any p (xs ++ ys) ≡ (list_any p xs || list_any p ys)
any-append p [] ys = refl
any-append p (x ∷ xs) ys = ap (λ (b : Bool). p x || b) (any-append p xs ys) ∙ regroup (p x) (list_any p xs) (list_any p ys)
  where
    regroup : (a b c : Bool) → (a || (b || c)) ≡ ((a || b) || c)
    regroup true b c = refl
    regroup false b c = refl

pub or_none : (b : Bool) → (b || false) ≡ b
or_none true = refl
or_none false = refl

-- the message of this name
abbrev pub is_named : Name → Carried → Bool
is_named m x = eqb x.sender m.sender && eqb x.number m.number

-- the casts among frames that a member sends
abbrev pub casts_out : List Outgoing → List CastFields
casts_out outs = flat_map (λ out. cast_read (frame_read out.bytes)) outs

casts_sent : (i : ℕ) (outs : List Outgoing) → flat_map (λ frame. cast_read (frame_read frame.bytes)) (map (sent_by i) outs) ≡ casts_out outs
casts_sent i [] = refl
casts_sent i (out ∷ outs) = ap (λ (cs : List CastFields). cast_read (frame_read out.bytes) ++ cs) (casts_sent i outs)

all_sent : (P : List ℕ → Type 0) (i : ℕ) (outs : List Outgoing) → AllByRecursion (λ out. P out.bytes) outs → AllByRecursion (λ (frame : SentFrame). P frame.bytes) (map (sent_by i) outs)
all_sent P i [] all = tt
all_sent P i (out ∷ outs) all = (all.0, all_sent P i outs all.1)

-- nothing comes to a member by a call of another one
received_elsewhere : (j i : ℕ) (call : Call) (answer : Answer) → i ≢ j → received_by j (Calls i call) answer ≡ []
received_elsewhere j i (ToCast load) (CastAnswer (Ok c)) ne = rw (ne_eqb i j ne) refl
received_elsewhere j i (ToCast load) (CastAnswer (Err fault)) ne = refl
received_elsewhere j i (ToCast load) (ArrivalAnswer r) ne = refl
received_elsewhere j i (ToCast load) (TickAnswer r) ne = refl
received_elsewhere j i (ToCast load) (HelpAnswer r) ne = refl
received_elsewhere j i (ToCast load) NoSuchMember ne = refl
received_elsewhere j i (ToCast load) NoSuchFrame ne = refl
received_elsewhere j i (ToCast load) NoBytes ne = refl
received_elsewhere j i (ToTake bytes) (ArrivalAnswer (Ok says)) ne = rw (ne_eqb i j ne) refl
received_elsewhere j i (ToTake bytes) (ArrivalAnswer (Err refusal)) ne = refl
received_elsewhere j i (ToTake bytes) (CastAnswer r) ne = refl
received_elsewhere j i (ToTake bytes) (TickAnswer r) ne = refl
received_elsewhere j i (ToTake bytes) (HelpAnswer r) ne = refl
received_elsewhere j i (ToTake bytes) NoSuchMember ne = refl
received_elsewhere j i (ToTake bytes) NoSuchFrame ne = refl
received_elsewhere j i (ToTake bytes) NoBytes ne = refl
received_elsewhere j i ToTick answer ne = refl
received_elsewhere j i (ToHelp k) answer ne = refl

pub facts_push : (entries : List EntryFields) (e : EntryFields) (fact : Fact) → said_by e ≡ fact ∷ [] → facts_of (entries ++ e ∷ []) ≡ facts_of entries ++ fact ∷ []
facts_push entries e fact said = flat_map-append said_by entries (e ∷ []) ∙ ap (λ (fs : List Fact). facts_of entries ++ fs) (append-nil (said_by e) ∙ said)

-- ---- one call

module _ (setting : Setting) (is : IsSetting setting) (s : GroupState) (inv : IsConsistent setting s) (i : ℕ) (lt : i < setting.group.size) (call : Call) where
  abbrev pub entries : List EntryFields
  entries = s.histories i

  abbrev pub facts : List Fact
  facts = facts_of (s.histories i)

  abbrev pub seat : Identity
  seat = member_of setting.group i

  -- the state where the member has these entries and gave this answer
  abbrev pub state_with : List EntryFields → Answer → GroupState
  state_with now answer = record {
    histories = with_history s.histories i now;
    sent = s.sent ++ map (sent_by i) (frames_sent answer);
    outcomes = s.outcomes ++ record { asked = Calls i call; answer = answer; first = length s.sent; count = length (frames_sent answer) } ∷ [];
  }

  -- the history is as it was, or says one fact more
  abbrev pub Effect : List EntryFields → Type 0
  Effect now = (now ≡ entries) ⊎ ((f : Fact) × (facts_of now ≡ facts ++ f ∷ []) × IsSoBefore setting.group (facts_at s) f)

  -- what is to be shown of a call
  abbrev pub IsGood : List EntryFields → Answer → Type 0
  IsGood now answer =
      IsConsistent setting (state_with now answer) × Extends (StampedStep setting.group.size) (stamped_lists setting s) (stamped_lists setting (state_with now answer))

  module _ (now : List EntryFields) (answer : Answer) where
    abbrev pub after : ℕ → List Fact
    after = facts_at (state_with now answer)

    at_member : (P : ℕ → List EntryFields → Type 0) → P i now → ((k : ℕ) → k ≢ i → P k (s.histories k)) → (k : ℕ) → P k (with_history s.histories i now k)
    at_member P here there k = elim (cases_eq k i) [
      | inl e ↦ subst (λ (es : List EntryFields). P k es) (sym (rw (eq-eqb k i e) refl)) (subst (λ (j : ℕ). P j now) (sym e) here)
      | inr ne ↦ subst (λ (es : List EntryFields). P k es) (sym (rw (ne_eqb k i ne) refl)) (there k ne)
    ]

    pub own_now : facts_of now ≡ after i
    own_now = rw (eq-eqb i i refl) refl

    appends : (f : Fact) → facts_of now ≡ facts ++ f ∷ [] → Appends (facts_at s) after i f
    appends f e = record {
      own = sym own_now ∙ e;
      others = λ k ne. rw (ne_eqb k i ne) refl;
    }

    unchanged : now ≡ entries → facts_at s ≡ after
    unchanged e = fun_ext (at_member (λ k es. facts_of (s.histories k) ≡ facts_of es) (ap facts_of (sym e)) (λ k ne. refl))

    module _ (legal : AreEntriesOf (seat_at setting i) now) (effect : Effect now) where
      legal_facts : (f : Fact) → facts_of now ≡ facts ++ f ∷ [] → AreFactsOf seat (facts ++ f ∷ [])
      legal_facts f e = subst (AreFactsOf seat) e (entries_say_legal_facts (seat_at setting i) now legal).0

      together : AreTogether setting.group after
      together = elim effect [
        | inl same ↦ subst (AreTogether setting.group) (unchanged same) inv.together
        | inr more ↦ together_after setting.group (facts_at s) after i more.0 inv.together lt (appends more.0 more.1) (legal_facts more.0 more.1) more.2
      ]

      extends : Extends (StampedStep setting.group.size) (events_of setting.group (facts_at s)) (events_of setting.group after)
      extends = elim effect [
        | inl same ↦ Still (events_of setting.group after) (λ k. ap (λ (fs : ℕ → List Fact). events_of setting.group fs k) (unchanged same))
        | inr more ↦ extends_by setting.group (facts_at s) after i more.0 inv.together lt (appends more.0 more.1) (legal_facts more.0 more.1) more.2
      ]

      pub still_honest : (bytes : List ℕ) → IsHonest setting.group (facts_at s) bytes → IsHonest setting.group after bytes
      still_honest bytes honest = elim effect [
        | inl same ↦ subst (λ (fs : ℕ → List Fact). IsHonest setting.group fs bytes) (unchanged same) honest
        | inr more ↦ honest_stays setting.group (facts_at s) after i more.0 (appends more.0 more.1) bytes honest
      ]

      -- all that is to be shown of one call
      pub good : AllByRecursion (λ out. IsHonest setting.group after out.bytes) (frames_sent answer)
          → ((c : CastFields) → IsIn c (own_casts (facts_of now)) → IsIn c (own_casts facts) ⊎ IsIn c (casts_out (frames_sent answer)))
          → ((m : Name) → (has_arrived s i m || list_any (is_named m) (received_by i (Calls i call) answer)) ≡ is_there (casts_in (facts_of now)) m.sender m.number)
          → IsGood now answer
      good out own news = (
        record {
          legal = λ k lt_k. at_member (λ k es. k < setting.group.size → AreEntriesOf (seat_at setting k) es) (λ _. legal) (λ k ne. inv.legal k) k lt_k;
          nobody = λ k le. at_member (λ k es. setting.group.size ≤ k → es ≡ []) (λ le. absurd (omega (arith, lt, le))) (λ k ne. inv.nobody k) k le;
          together = together;
          honest = all_both (λ frame. IsHonest setting.group after frame.bytes) s.sent (map (sent_by i) (frames_sent answer))
              (all_weaken (λ frame. IsHonest setting.group (facts_at s) frame.bytes) (λ frame. IsHonest setting.group after frame.bytes) s.sent (λ frame. still_honest frame.bytes) inv.honest)
              (all_sent (IsHonest setting.group after) i (frames_sent answer) out);
          sent = λ k c there. in_is_cast_of c (sent_casts (state_with now answer)) (sent_after k c (cast_of_is_in c (own_casts (after k)) there));
          arrived = arrived_after;
        },
        extends,
      )
        where
          all_casts : sent_casts (state_with now answer) ≡ sent_casts s ++ casts_out (frames_sent answer)
          all_casts =
              flat_map-append (λ frame. cast_read (frame_read frame.bytes)) s.sent (map (sent_by i) (frames_sent answer))
              ∙ ap (λ (cs : List CastFields). sent_casts s ++ cs) (casts_sent i (frames_sent answer))

          sent_before : (k : ℕ) (c : CastFields) → IsIn c (own_casts (facts_at s k)) → IsIn c (sent_casts s ++ casts_out (frames_sent answer))
          sent_before k c there = in_front c (sent_casts s) (casts_out (frames_sent answer)) (cast_of_is_in c (sent_casts s) (inv.sent k c (in_is_cast_of c (own_casts (facts_at s k)) there)))

          sent_after : (k : ℕ) (c : CastFields) → IsIn c (own_casts (after k)) → IsIn c (sent_casts (state_with now answer))
          sent_after k c there = subst (IsIn c) (sym all_casts) (at_member (λ k es. IsIn c (own_casts (facts_of es)) → IsIn c (sent_casts s ++ casts_out (frames_sent answer)))
              (λ here. elim (own c here) [
                | inl old ↦ sent_before i c old
                | inr new ↦ in_back c (sent_casts s) (casts_out (frames_sent answer)) new
              ]) (λ k ne. sent_before k c) k there)

          all_arrived : (j : ℕ) (m : Name) → has_arrived (state_with now answer) j m ≡ (has_arrived s j m || list_any (is_named m) (received_by j (Calls i call) answer))
          all_arrived j m =
              ap (list_any (is_named m)) (flat_map-append (λ outcome. received_by j outcome.asked outcome.answer) s.outcomes
              (record { asked = Calls i call; answer = answer; first = length s.sent; count = length (frames_sent answer) } ∷ []) ∙ ap (λ (ms : List Carried). arrived_at s j ++ ms) (append-nil (received_by j (Calls i call) answer)))
              ∙ any-append (is_named m) (arrived_at s j) (received_by j (Calls i call) answer)

          arrived_after : (j : ℕ) (m : Name) → has_arrived (state_with now answer) j m ≡ is_there (casts_in (after j)) m.sender m.number
          arrived_after j m = all_arrived j m ∙ at_member (λ j es. (has_arrived s j m || list_any (is_named m) (received_by j (Calls i call) answer)) ≡ is_there (casts_in (facts_of es)) m.sender m.number)
              (news m) (λ j ne. ap (λ (ms : List Carried). has_arrived s j m || list_any (is_named m) ms) (received_elsewhere j i call answer (λ e. ne (sym e))) ∙ or_none (has_arrived s j m) ∙ inv.arrived j m) j
