-- The times in the bytes of the sent frames are the times of the events.
use Rattle.std.proofs.Common.{◌≡◌, ℕ, ◌<◌, ◌≤◌, true, cond, ◌&&◌, eqb, List, [], ◌∷◌, min, Option, Some, None, Ok, refl, sym, ap, subst, ◌∙◌, arith, inl, inr}
use Rattle.std.specs.List.{sum_by, range_with_len}
use Rattle.std.proofs.lemmas.Bool.{cond_both, eq-eqb, eqb-true, and_parts, both_ways}
use mathlib.Core.Path.{fun_ext}
use Rattle.cb_times.specs.declared.name.Name.{Name}
use Rattle.cb_frames.specs.Fields.{CastFields, CastFrame, Carried, messages_of, first_number}
use Rattle.cb_frames.proofs.Carried.{carries_some, first_is_carried}
use Rattle.cb_diffs.specs.Expansion.{greatest, expanded_field, CarrySome}
use Rattle.cb_diffs.specs.Sent as sent
use Rattle.cb_diffs.specs.Sent.{frame_of, growth_by, sent_field}
use Rattle.cb_diffs.proofs.Repeats.{sent_times_are_sums}
use Rattle.cb_history.specs.Facts.{casts_in, messages_in}
use Rattle.cb_history.specs.NameLaws.{NamesDiffer}
use Rattle.cb_history.specs.Answers.{own_casts}
use Rattle.cb_history.proofs.Views.{IsIn}
use Rattle.cb_history.proofs.Lists.{in_front, in_back, names_behind}
use Rattle.cb_history.proofs.Loads.{some_at}
use Rattle.cb_history.proofs.Times.{same_over_range}
use Rattle.cb_history.proofs.Agreement.{apart, all_at}
use Rattle.cb_history.proofs.Buffers.{cast_of_is_in, in_is_cast_of}
use Rattle.cb_schedules.specs.Schedule.{Setting, SentFrame, GroupState}
use Rattle.cb_schedules.specs.Messages.{facts_at, sent_casts, time_from_bytes}
use Rattle.cb_schedules.specs.Honest.{SaysWhatIsSo, IsHonest}
use Rattle.cb_schedules.specs.Consistent.{IsConsistent}
use Rattle.cb_schedules.proofs.Members.{own_is_there, stands_at, is_own}
use Rattle.cb_schedules.proofs.Moments.{clock}
use Rattle.cb_schedules.proofs.Sending.{sent_frame}
use Rattle.cb_history.proofs.Expanders.{one_of_a_name}

-- ---- lists

-- where all frames of one name are one, that frame is found
found : (frames : List CastFields) (c : CastFields) (sender number : ℕ) → c.sender ≡ sender → first_number c ≡ number
    → ((d : CastFields) → IsIn d frames → d.sender ≡ sender → first_number d ≡ number → d ≡ c) → IsIn c frames → frame_of frames sender number ≡ Some c
found [] c sender number s n one there = absurd there
found (x ∷ frames) c sender number s n one there =
    cond_both (eqb x.sender sender && eqb (first_number x) number) (Some x) (frame_of frames sender number) (λ (o : Option CastFields). o ≡ Some c)
    (λ yes. let names = and_parts (eqb x.sender sender) (eqb (first_number x) number) yes in ap Some (one x (inl refl) (eqb-true x.sender sender names.0) (eqb-true (first_number x) number names.1)))
    (λ no. elim there [
      | inl same ↦
          let yes : (eqb x.sender sender && eqb (first_number x) number) ≡ true =
          rw (eq-eqb x.sender sender (ap (λ (y : CastFields). y.sender) (sym same) ∙ s), eq-eqb (first_number x) number (ap first_number (sym same) ∙ n)) refl in
          absurd (both_ways (eqb x.sender sender && eqb (first_number x) number) no yes)
      | inr later ↦ found frames c sender number s n (λ d d_there. one d (inr d_there)) later
    ])

-- and what is found is one of them
is_found : (frames : List CastFields) (sender number : ℕ) (c : CastFields) → frame_of frames sender number ≡ Some c → IsIn c frames × (c.sender ≡ sender) × (first_number c ≡ number)
is_found [] sender number c is = absurd cc
is_found (x ∷ frames) sender number c is =
    cond_both (eqb x.sender sender && eqb (first_number x) number) (Some x) (frame_of frames sender number) (λ (o : Option CastFields). o ≡ Some c → IsIn c (x ∷ frames) × (c.sender ≡ sender) × (first_number c ≡ number))
    (λ yes e.
    let names = and_parts (eqb x.sender sender) (eqb (first_number x) number) yes in
    let same : x ≡ c = cc in
    (inl (sym same), ap (λ (y : CastFields). y.sender) (sym same) ∙ eqb-true x.sender sender names.0, ap first_number (sym same) ∙ eqb-true (first_number x) number names.1))
    (λ no e. let (there, s, n) = is_found frames sender number c e in (inr there, s, n)) is

-- frames that have the same ones of a name, each of them one, have the same frame there
same_found : (frames others : List CastFields) (sender number : ℕ)
    → ((c : CastFields) → IsIn c frames → c.sender ≡ sender → IsIn c others) → ((c : CastFields) → IsIn c others → c.sender ≡ sender → IsIn c frames)
    → ((c d : CastFields) → IsIn c others → IsIn d others → c.sender ≡ sender → d.sender ≡ sender → first_number c ≡ first_number d → c ≡ d)
    → frame_of frames sender number ≡ frame_of others sender number
same_found frames others sender number to from one = by_others (frame_of others sender number) refl
  where
    by_frames : (o : Option CastFields) → frame_of frames sender number ≡ o → frame_of others sender number ≡ None → frame_of frames sender number ≡ None
    by_frames None is none = is
    by_frames (Some c) is none =
        let (there, s, n) = is_found frames sender number c is in
        let here = found others c sender number s n (λ d d_there d_sender d_number. one d c d_there (to c there s) d_sender s (d_number ∙ sym n)) (to c there s) in
        absurd cc

    by_others : (o : Option CastFields) → frame_of others sender number ≡ o → frame_of frames sender number ≡ frame_of others sender number
    by_others None is = by_frames (frame_of frames sender number) refl is ∙ sym is
    by_others (Some c) is =
        let (there, s, n) = is_found others sender number c is in
        found frames c sender number s n (λ d d_there d_sender d_number. one d c (to d d_there d_sender) there d_sender s (d_number ∙ sym n)) (from c there s) ∙ sym is

-- casts that have different messages, each some, numbered from 1, are frames of different names
different_frames : (casts : List CastFields) → CarrySome casts → NamesDiffer (messages_in casts) → ((m : Carried) → IsIn m (messages_in casts) → 1 ≤ m.number) → sent.NamesDiffer casts
different_frames [] some differ positive = tt
different_frames (c ∷ casts) some differ positive = (
  low,
  none_other (frame_of casts c.sender (first_number c)) refl,
  different_frames casts some.1 (names_behind (messages_of c) (messages_in casts) differ) (λ m there. positive m (in_back m (messages_of c) (messages_in casts) there)),
)
  where
    low : 1 ≤ first_number c
    low =
        let first = first_is_carried c some.0 in
        let number = first.number_is in
        let here = positive first.found (in_front first.found (messages_of c) (messages_in casts) first.there) in
        omega (arith, number, here)

    none_other : (o : Option CastFields) → frame_of casts c.sender (first_number c) ≡ o → o ≡ None
    none_other None is = refl
    none_other (Some d) is =
        let (there, s, n) = is_found casts c.sender (first_number c) d is in
        absurd (apart c d casts (first_number c) some differ there (sym s) (omega arith) (carries_some c some.0) (omega (arith, n)) (omega (arith, n, carries_some d (some_at casts d some.1 there))))

-- ---- one moment of a run

module _ (setting : Setting) (s : GroupState) (inv : IsConsistent setting s) where
  -- every cast that was sent is an own cast of its sender
  pub sent_is_own : (c : CastFields) → IsIn c (sent_casts s) → IsIn c (own_casts (facts_at s c.sender))
  sent_is_own c there =
      let (frame, at, read) = sent_frame s.sent c there in
      let honest = all_at (λ (frame : SentFrame). IsHonest setting.group (facts_at s) frame.bytes) s.sent frame inv.honest at in
      let both : Ok honest.frame ≡ Ok (CastFrame c) = sym honest.read ∙ read in
      let same : honest.frame ≡ CastFrame c = cc in
      let so : SaysWhatIsSo setting.group (facts_at s) (CastFrame c) = subst (SaysWhatIsSo setting.group (facts_at s)) same honest.so in
      cast_of_is_in c (own_casts (facts_at s c.sender)) so

  module _ (i : ℕ) (lt : i < setting.group.size) where
    abbrev casts : List CastFields
    casts = casts_in (facts_at s i)

    -- of its own casts the frames that were sent are those that are there
    sent_is_there : (c : CastFields) → IsIn c (sent_casts s) → c.sender ≡ i → IsIn c casts
    sent_is_there c there sender = own_is_there (facts_at s i) c (subst (λ (k : ℕ). IsIn c (own_casts (facts_at s k))) sender (sent_is_own c there))

    there_is_sent : (c : CastFields) → IsIn c casts → c.sender ≡ i → IsIn c (sent_casts s)
    there_is_sent c there sender =
        let own : IsIn c (own_casts (facts_at s i)) = subst (λ (k : ℕ). IsIn c (own_casts (facts_at s k))) sender (is_own setting.group (facts_at s) inv.together i c there) in
        cast_of_is_in c (sent_casts s) (inv.sent i c (in_is_cast_of c (own_casts (facts_at s i)) own))

    same_frame : (number : ℕ) → frame_of (sent_casts s) i number ≡ frame_of casts i number
    same_frame number =
        let stands = stands_at setting.group (facts_at s) inv.together i lt in
        same_found (sent_casts s) casts i number sent_is_there there_is_sent
        (λ c d c_there d_there c_sender d_sender first. one_of_a_name casts c d stands.some stands.names c_there d_there (c_sender ∙ sym d_sender) first)

    -- so the sums over the numbers are the sums over its casts: a number at which no cast begins adds nothing
    same_field : (n k : ℕ) → sent_field (sent_casts s) i n k ≡ expanded_field casts i n k
    same_field n k =
        let stands = stands_at setting.group (facts_at s) inv.together i lt in
        ap (λ (frame : ℕ → Option CastFields). cond (eqb k i) n (min greatest (sum_by (λ t. growth_by (frame t) k) (range_with_len 1 n)))) (fun_ext same_frame)
        ∙ sent_times_are_sums casts i n k (different_frames casts stands.some stands.names stands.positive)

  -- the time from the bytes is what the sender tells
  pub time_is_clock : (m : Name) → m.sender < setting.group.size → time_from_bytes setting s m ≡ clock setting.group (facts_at s) inv.together m
  time_is_clock m lt =
      same_over_range (sent_field (sent_casts s) m.sender m.number) (expanded_field (casts_in (facts_at s m.sender)) m.sender m.number) 0 setting.group.size (λ k _. same_field m.sender lt m.number k)
