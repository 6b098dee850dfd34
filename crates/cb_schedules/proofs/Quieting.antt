-- When everything is delivered, one round more makes it stable, and then nothing changes any more.
use Rattle.std.proofs.Common.{◌≡◌, ◌≢◌, ℕ, zero, suc, ◌<◌, ◌≤◌, Bool, true, false, not, ◌&&◌, eqb, ltb, List, [], ◌∷◌, ◌++◌, Option, Some, None, Result, refl, sym, ap, subst, ◌∙◌, append_assoc, arith, inl, inr}
use Rattle.std.specs.List.{filter, list_any, range_with_len}
use Rattle.std.proofs.lemmas.Bool.{cond_both, cases_eq, cases_lt, eq-eqb, eqb-true, le-ltb, both_ways}
use Rattle.std.proofs.lemmas.List.{append-nil}
use mathlib.Core.Path.{fun_ext}
use Rattle.cb_frames.specs.declared.fault.FrameFault.{FrameFault}
use Rattle.cb_frames.specs.Fields.{Load, CastFields, StatusFields, FrameFields, CastFrame, StatusFrame, RequestFrame, HelpFrame, Carried, messages_of, last_number}
use Rattle.cb_frames.proofs.Carried.{carried_is_of_cast}
use Rattle.cb_frames.specs.Text.{text_of}
use Rattle.cb_diffs.specs.Expansion.{expanded_field}
use Rattle.cb_history.specs.declared.answer.ArriveRefusal.{ArriveRefusal}
use Rattle.cb_history.specs.declared.answer.TickRefusal.{TickRefusal}
use Rattle.cb_history.specs.declared.answer.Outgoing.{Outgoing}
use Rattle.cb_history.specs.Group.{Identity}
use Rattle.cb_history.specs.Facts.{EntryFields, TickEntry, Fact, OwnCast, CastReceived, StatusReceived, OwnStatus, status_said, facts_of, casts_in, is_there}
use Rattle.cb_history.specs.View.{view, counts}
use Rattle.cb_history.specs.Known.{value_in, known, acknowledged_of, acknowledged_by, acknowledged, stable}
use Rattle.cb_history.specs.Answers.{delivered, own_casts, is_full, are_members, is_impossible, is_repeat, is_news, ArrivalSays, frame_answer, answer_to, arrive_answer, status_of, last_status, says_the_time, is_new_status, tick_answer}
use Rattle.cb_history.specs.Legal.{Call, ToCast, ToTake, ToTick, ToHelp, arrive_entry, tick_entry, and_entry, history_after}
use Rattle.cb_history.specs.LegalFacts.{AreFactsOf}
use Rattle.cb_history.proofs.Views.{IsIn, all_in_range}
use Rattle.cb_history.proofs.Lists.{all_of, carried_there, both_false, among_is}
use Rattle.cb_history.proofs.Names.{view_holds_the_first}
use Rattle.cb_history.proofs.Walks.{view_reported}
use Rattle.cb_history.proofs.Times.{seen_is_there, all_from_range, count_grows, own_field}
use Rattle.cb_history.proofs.Statuses.{last_status_with_one_more, new_status_is_a_new_time}
use Rattle.cb_history.proofs.Prefixes.{prefix_of_facts_is_legal, last_fact_is_a_step}
use Rattle.cb_history.proofs.ReadBack.{status_read}
use Rattle.cb_history.proofs.Requests.{own_frames_have_texts}
use Rattle.cb_history.proofs.Rising.{acknowledged_parts}
use Rattle.cb_history.proofs.RisingByCasts.{one_at_most, delivered_is_known}
use Rattle.cb_history.proofs.Acknowledged.{acknowledged_is_delivered}
use Rattle.cb_history.proofs.Buffers.{cast_of_is_in}
use Rattle.cb_history.proofs.Keeping.{at_most_least, others_of, other_in, other_is, range_in}
use Rattle.cb_schedules.specs.Schedule.{Setting, IsSetting, seat_at, Step, Asked, Calls, TickAnswer, GroupState, with_history, after_asked, step_after, run_from}
use Rattle.cb_schedules.specs.Messages.{facts_at}
use Rattle.cb_schedules.specs.Honest.{SaysWhatIsSo, IsHonest}
use Rattle.cb_schedules.specs.Consistent.{IsConsistent}
use Rattle.cb_schedules.specs.Rounds.{IsNotFull}
use Rattle.cb_schedules.specs.RoundLaws.{IsNoCastStep, EverythingIsStable, EverybodyKnowsWhatIsStable, NothingChangesAnyMore, cast_count}
use Rattle.cb_schedules.proofs.Calling.{facts_push}
use Rattle.cb_schedules.proofs.Courses.{IsFair, asked_is, step_goes_on}
use Rattle.cb_schedules.proofs.Members.{own_is_there, own_sender, delivered_at_most, stands_at, inside}
use Rattle.cb_schedules.proofs.Knowing.{value_below, stable_of_is_so, own_number}
use Rattle.cb_schedules.proofs.Later.{IsLater, grows, no_cast, delivered_later, cast_count_later, later_joins}
use Rattle.cb_schedules.proofs.Waves.{Waves, AllLive}
use Rattle.cb_schedules.proofs.Asking.{status_comes}

-- ---- a status that says the time

-- after a tick with room the next status is not new
tick_tells : (seat : Identity) (limit : ℕ) (entries : List EntryFields) → AreFactsOf seat (facts_of entries) → IsNotFull (TickAnswer (tick_answer seat limit entries))
    → is_new_status seat (facts_of (history_after seat limit entries ToTick)) ≡ false
unfolding tick_answer
tick_tells seat limit entries are =
    let facts = facts_of entries in
    let said = status_of seat (facts_of entries) in
    cond_both (is_new_status seat facts && is_full limit entries) _ _
    (λ (r : Result (Bool × List Outgoing) TickRefusal). IsNotFull (TickAnswer r) → is_new_status seat (facts_of (and_entry entries (tick_entry (text_of (StatusFrame said)) r))) ≡ false)
    (λ _ room. absurd (room refl))
    (λ _ _. cond_both (is_new_status seat facts) (Some (TickEntry (text_of (StatusFrame said)))) None (λ (o : Option EntryFields). is_new_status seat (facts_of (and_entry entries o)) ≡ false)
    (λ _. subst (λ (fs : List Fact). is_new_status seat fs ≡ false) (sym (facts_push entries (TickEntry (text_of (StatusFrame said))) (OwnStatus said) (ap status_said (status_read said (own_frames_have_texts seat facts are).1))))
    ((new_status_is_a_new_time seat facts (facts ++ OwnStatus said ∷ []) (last_status_with_one_more facts (OwnStatus said) None)).1 (ap (counts seat.group.size) (sym (view_reported seat.group.size facts said)))))
    (λ old. old))

says_same : (seat : Identity) (facts after : List Fact) (last : Option StatusFields) → ((k : ℕ) → k < seat.group.size → delivered seat facts k ≡ delivered seat after k)
    → says_the_time seat facts last ≡ true → says_the_time seat after last ≡ true
says_same seat facts after None same says = absurd cc
says_same seat facts after (Some s) same says = all_from_range (λ k. eqb (value_in s.values k) (delivered seat after k)) 0 seat.group.size (λ k low high.
    let was = all_in_range (λ k. eqb (value_in s.values k) (delivered seat facts k)) 0 seat.group.size k says low high in
    eq-eqb (value_in s.values k) (delivered seat after k) (eqb-true (value_in s.values k) (delivered seat facts k) was ∙ same k (omega (arith, high))))

not_false_is : (b : Bool) → not b ≡ false → b ≡ true
not_false_is true e = refl
not_false_is false e = absurd cc

still_says : (seat : Identity) (facts after : List Fact) → ((k : ℕ) → k < seat.group.size → delivered seat facts k ≡ delivered seat after k) → last_status after None ≡ last_status facts None
    → is_new_status seat facts ≡ false → is_new_status seat after ≡ false
still_says seat facts after same last old =
    let says = says_same seat facts after (last_status facts None) same (not_false_is (says_the_time seat facts (last_status facts None)) old) in
    ap not (ap (says_the_time seat after) last ∙ says)

-- nor is it while no count changes
old_stays : (seat : Identity) (facts : List Fact) (f : Fact) → AreFactsOf seat (facts ++ f ∷ []) → ((k : ℕ) → k < seat.group.size → delivered seat facts k ≡ delivered seat (facts ++ f ∷ []) k)
    → is_new_status seat facts ≡ false → is_new_status seat (facts ++ f ∷ []) ≡ false
old_stays seat facts (OwnCast c) are same old = still_says seat facts (facts ++ OwnCast c ∷ []) same (last_status_with_one_more facts (OwnCast c) None) old
old_stays seat facts (CastReceived c) are same old = still_says seat facts (facts ++ CastReceived c ∷ []) same (last_status_with_one_more facts (CastReceived c) None) old
old_stays seat facts (StatusReceived s) are same old = still_says seat facts (facts ++ StatusReceived s ∷ []) same (last_status_with_one_more facts (StatusReceived s) None) old
old_stays seat facts (OwnStatus s) are same old = absurd (both_ways (is_new_status seat facts) old (last_fact_is_a_step seat facts (OwnStatus s) are).new)

all_old : (seat : Identity) (facts more : List Fact) → AreFactsOf seat (facts ++ more) → ((k : ℕ) → k < seat.group.size → delivered seat (facts ++ more) k ≤ delivered seat facts k)
    → is_new_status seat facts ≡ false → is_new_status seat (facts ++ more) ≡ false
all_old seat facts [] are most old = subst (λ (fs : List Fact). is_new_status seat fs ≡ false) (sym (append-nil facts)) old
all_old seat facts (f ∷ more) are most old =
    let joined : (facts ++ f ∷ []) ++ more ≡ facts ++ f ∷ more = append_assoc facts (f ∷ []) more in
    let all : AreFactsOf seat ((facts ++ f ∷ []) ++ more) = subst (AreFactsOf seat) (sym joined) are in
    let few : (k : ℕ) → k < seat.group.size → delivered seat ((facts ++ f ∷ []) ++ more) k ≤ delivered seat facts k = λ k lt. subst (λ (fs : List Fact). delivered seat fs k ≤ delivered seat facts k) (sym joined) (most k lt) in
    let rise : (k : ℕ) → delivered seat (facts ++ f ∷ []) k ≤ delivered seat ((facts ++ f ∷ []) ++ more) k = λ k. grows (λ fs. delivered seat fs k) (λ fs g. count_grows seat.group.size fs g k) (facts ++ f ∷ []) more in
    let one = old_stays seat facts f (prefix_of_facts_is_legal seat (facts ++ f ∷ []) more all) (λ k lt. let here = few k lt in let up = rise k in omega (arith, here, up, count_grows seat.group.size facts f k)) old in
    subst (λ (fs : List Fact). is_new_status seat fs ≡ false) joined
    (all_old seat (facts ++ f ∷ []) more all (λ k lt. let here = few k lt in omega (arith, here, count_grows seat.group.size facts f k)) one)

-- ---- a member's messages count themselves

-- so what is delivered of it is known to be delivered by it
own_column_is_known : (seat : Identity) (facts : List Fact) (k : ℕ) → AreFactsOf seat facts → delivered seat facts k ≤ acknowledged_of seat facts k k
own_column_is_known seat facts k are = elim (cases_lt 0 (delivered seat facts k)) [
  | inr none ↦ omega (arith, none)
  | inl some ↦
      let last : Carried = record { sender = k; number = delivered seat facts k; payload = [] } in
      let found = among_is (view seat.group.size facts) last ((view_holds_the_first seat facts last are).1 (omega (arith, some), omega arith)) in
      let most = one_at_most (λ m. eqb m.sender k) (λ m. expanded_field (casts_in facts) m.sender m.number k) (view seat.group.size facts) found.0 found.1 (eq-eqb found.0.sender k found.2) in
      let own : expanded_field (casts_in facts) found.0.sender found.0.number k ≡ delivered seat facts k =
      ap (λ (j : ℕ). expanded_field (casts_in facts) j found.0.number k) found.2 ∙ own_field (casts_in facts) k found.0.number ∙ found.3 in
      let parts = acknowledged_parts seat facts k k in
      omega (arith, most, own, parts)
]

-- ---- a quiet group

-- Everything is delivered everywhere, every other member knows it of each, and every member's last status says its time.
pub record IsQuiet (setting : Setting) (facts : ℕ → List Fact) : Type 0 where
  pub everywhere : (j i : ℕ) → j < setting.group.size → i < setting.group.size → delivered (seat_at setting j) (facts j) i ≡ delivered (seat_at setting i) (facts i) i
  pub known_there : (m j i : ℕ) → m < setting.group.size → j < setting.group.size → i < setting.group.size → m ≢ j → delivered (seat_at setting j) (facts j) i ≤ acknowledged_of (seat_at setting m) (facts m) j i
  pub reported : (j : ℕ) → j < setting.group.size → is_new_status (seat_at setting j) (facts j) ≡ false

-- a round from where everything is delivered ends so
module _ (setting : Setting) (s t : GroupState) (inv : IsConsistent setting s) (w : Waves AllLive setting s t) (all : (j i : ℕ) → j < setting.group.size → i < setting.group.size → delivered (seat_at setting j) (facts_at s j) i ≡ cast_count setting s i) where
  s_to_end : IsLater s t
  s_to_end = later_joins s w.asking t w.to_asking (later_joins w.asking w.answered t w.to_answered w.to_end)

  count_is : (i : ℕ) → i < setting.group.size → cast_count setting t i ≡ cast_count setting s i
  count_is i lt = cast_count_later setting s t inv w.end_consistent s_to_end i lt

  still_delivered : (j i : ℕ) → j < setting.group.size → i < setting.group.size → delivered (seat_at setting j) (facts_at t j) i ≡ cast_count setting t i
  still_delivered j i lt_j lt_i =
      let low = delivered_later s t s_to_end (seat_at setting j) j i in
      let most = delivered_at_most setting.group (facts_at t) w.end_consistent.together j i lt_j lt_i in
      omega (arith, low, most, all j i lt_j lt_i, count_is i lt_i)

  then_reported : (j : ℕ) → j < setting.group.size → is_new_status (seat_at setting j) (facts_at t j) ≡ false
  then_reported j lt =
      let k = w.ticks j lt tt in
      let reported = tick_tells (seat_at setting j) setting.limit (k.now.histories j) (k.consistent.together.legal j lt) k.room in
      let next_reported : is_new_status (seat_at setting j) (facts_at k.next j) ≡ false = subst (λ (es : List EntryFields). is_new_status (seat_at setting j) (facts_of es) ≡ false) (sym k.history) reported in
      let to_end = later_joins k.next w.asking t k.after (later_joins w.asking w.answered t w.to_answered w.to_end) in
      let m = to_end.facts j in
      subst (λ (fs : List Fact). is_new_status (seat_at setting j) fs ≡ false) (sym m.is)
      (all_old (seat_at setting j) (facts_at k.next j) m.more (subst (AreFactsOf (seat_at setting j)) m.is (w.end_consistent.together.legal j lt)) (λ i lt_i.
      let now = delivered_later s k.now k.before (seat_at setting j) j i in
      let tick = delivered_later k.now k.next k.step (seat_at setting j) j i in
      subst (λ (fs : List Fact). delivered (seat_at setting j) fs i ≤ delivered (seat_at setting j) (facts_at k.next j) i) m.is
      (omega (arith, still_delivered j i lt lt_i, count_is i lt_i, all j i lt lt_i, now, tick))) next_reported)

  -- its status tells member m how far j has got with the others, and its messages how far with itself
  then_known : (m j i : ℕ) → m < setting.group.size → j < setting.group.size → i < setting.group.size → m ≢ j → delivered (seat_at setting j) (facts_at t j) i ≤ acknowledged_of (seat_at setting m) (facts_at t m) j i
  then_known m j i lt_m lt_j lt_i ne = elim (cases_eq i j) [
    | inl own ↦
        let told = own_column_is_known (seat_at setting m) (facts_at t m) j (w.end_consistent.together.legal m lt_m) in
        subst (λ (k : ℕ). delivered (seat_at setting j) (facts_at t j) k ≤ acknowledged_of (seat_at setting m) (facts_at t m) j k) (sym own) (omega (arith, told, still_delivered m j lt_m lt_j))
    | inr other ↦
        let comes = (status_comes AllLive setting s t inv w j m lt_j lt_m tt tt ne).1 i lt_i other in
        omega (arith, comes, all j i lt_j lt_i, still_delivered j i lt_j lt_i, count_is i lt_i)
  ]

  pub round_makes_quiet : IsQuiet setting (facts_at t)
  round_makes_quiet = record { everywhere = still_delivered; known_there = then_known; reported = then_reported }

-- ---- it is stable

filter_none : (p : CastFields → Bool) (casts : List CastFields) → ((c : CastFields) → IsIn c casts → p c ≡ false) → filter p casts ≡ []
filter_none p [] each = refl
filter_none p (c ∷ casts) each = rw (each c (inl refl)) (filter_none p casts (λ d later. each d (inr later)))

-- one of two members is another one
another : (size i : ℕ) → 2 ≤ size → (k : ℕ) × (k < size) × (k ≢ i)
another size zero two = (1, omega (arith, two), (λ e. absurd (omega (arith, e))))
another size (suc i) two = (0, omega (arith, two), (λ e. absurd (omega (arith, e))))

module _ (setting : Setting) (s : GroupState) (inv : IsConsistent setting s) (quiet : IsQuiet setting (facts_at s)) where
  stable_is : (i : ℕ) → i < setting.group.size → stable (seat_at setting i) (facts_at s i) ≡ delivered (seat_at setting i) (facts_at s i) i
  stable_is i lt =
      let are = inv.together.legal i lt in
      let most = (acknowledged_is_delivered (seat_at setting i) (facts_at s i) are).1 in
      let (k, lt_k, ne) = another setting.group.size i are.group.size.two_or_more in
      let low = at_most_least (acknowledged (seat_at setting i) (facts_at s i)) (others_of setting.group.size i) (delivered (seat_at setting i) (facts_at s i) i) k (other_in setting.group.size i k lt_k ne) (λ j there.
      let other = other_is setting.group.size i j there in
      omega (arith, quiet.everywhere j i other.0 lt, quiet.known_there i j i lt other.0 lt (λ e. other.1 (sym e)))) in
      omega (arith, most, low)

  pub everybody_knows_what_is_stable : EverybodyKnowsWhatIsStable setting s
  everybody_knows_what_is_stable j i lt_j lt =
      let (k, lt_k, ne) = another setting.group.size i (inv.together.legal i lt).group.size.two_or_more in
      let most = stable_of_is_so setting.group (facts_at s) inv.together j i k lt_j lt lt_k ne in
      let low = at_most_least (λ l. acknowledged_by (seat_at setting j) (facts_at s j) l i) (others_of setting.group.size i) (cast_count setting s i) k (other_in setting.group.size i k lt_k ne) (λ l there.
      let lt_l = (other_is setting.group.size i l there).0 in
      cond_both (eqb l j) (delivered (seat_at setting j) (facts_at s j) i) (acknowledged_of (seat_at setting j) (facts_at s j) l i) (λ (n : ℕ). cast_count setting s i ≤ n)
      (λ _. omega (arith, quiet.everywhere j i lt_j lt))
      (λ other. omega (arith, quiet.everywhere l i lt_l lt, quiet.known_there j l i lt_j lt_l lt (λ e. both_ways (eqb l j) other (eq-eqb l j (sym e)))))) in
      omega (arith, most, low, quiet.everywhere k i lt_k lt)

  pub everything_is_stable : EverythingIsStable setting s
  everything_is_stable i lt = (
    stable_is i lt,
    filter_none (λ c. ltb (stable (seat_at setting i) (facts_at s i)) (last_number c)) (own_casts (facts_at s i)) (λ c own.
        let sender = own_sender setting.group (facts_at s) inv.together i c own in
        let number = own_number setting.group (facts_at s) inv.together c (subst (λ (k : ℕ). IsIn c (own_casts (facts_at s k))) (sym sender) own) in
        let most : last_number c ≤ delivered (seat_at setting i) (facts_at s i) i = subst (λ (k : ℕ). last_number c ≤ delivered (seat_at setting k) (facts_at s k) k) sender number in
        le-ltb (stable (seat_at setting i) (facts_at s i)) (last_number c) (omega (arith, most, stable_is i lt))),
  )

  -- ---- and no arrival changes anything

  module _ (i : ℕ) (lt : i < setting.group.size) where
    -- how many casts of k, each member has
    most_of : (j k : ℕ) → j < setting.group.size → k < setting.group.size → delivered (seat_at setting j) (facts_at s j) k ≤ delivered (seat_at setting i) (facts_at s i) k
    most_of j k lt_j lt_k = omega (arith, quiet.everywhere j k lt_j lt_k, quiet.everywhere i k lt lt_k)

    repeats : (c : CastFields) → SaysWhatIsSo setting.group (facts_at s) (CastFrame c) → is_repeat (facts_at s i) (CastFrame c) ≡ true
    repeats c so =
        let own = cast_of_is_in c (own_casts (facts_at s c.sender)) so in
        let there = own_is_there (facts_at s c.sender) c own in
        let lt_c = inside setting.group (facts_at s) inv.together c.sender c there in
        let number = own_number setting.group (facts_at s) inv.together c own in
        all_of (λ (m : Carried). is_there (casts_in (facts_at s i)) m.sender m.number) (messages_of c) (λ m has.
        let of = carried_is_of_cast c m has in
        let high = of.high in
        let low = (stands_at setting.group (facts_at s) inv.together c.sender lt_c).positive m (carried_there (casts_in (facts_at s c.sender)) c m there has) in
        subst (λ (k : ℕ). is_there (casts_in (facts_at s i)) k m.number ≡ true) (sym of.sender_is)
        (seen_is_there (seat_at setting i) (casts_in (facts_at s i)) (view setting.group.size (facts_at s i)) (own_casts (facts_at s i)) c.sender m.number
        (stands_at setting.group (facts_at s) inv.together i lt) low (omega (arith, high, number, quiet.everywhere i c.sender lt lt_c))))

    none_in_list : (p : ℕ → Bool) (ks : List ℕ) → ((k : ℕ) → IsIn k ks → p k ≡ false) → list_any p ks ≡ false
    none_in_list p [] each = refl
    none_in_list p (k ∷ ks) each = both_false (p k) (list_any p ks) (each k (inl refl)) (none_in_list p ks (λ l later. each l (inr later)))

    and_false : (a b : Bool) → b ≡ false → (a && b) ≡ false
    and_false true b e = e
    and_false false b e = refl

    no_news : (t : StatusFields) → SaysWhatIsSo setting.group (facts_at s) (StatusFrame t) → is_news (seat_at setting i) (facts_at s i) t ≡ false
    no_news t so = elim (cases_eq t.sender i) [
      | inl own ↦ rw (eq-eqb t.sender i own) refl
      | inr other ↦
          let value = λ (k : ℕ). value_below (delivered (seat_at setting t.sender) (facts_at s t.sender)) t.values k so.reached in
          and_false (not (eqb t.sender i)) _
          (both_false (list_any (λ k. not (eqb k i) && ltb (known (facts_at s i) k) (value_in t.values k)) (range_with_len 0 setting.group.size))
          (list_any (λ k. not (eqb k t.sender) && ltb (acknowledged_of (seat_at setting i) (facts_at s i) t.sender k) (value_in t.values k)) (range_with_len 0 setting.group.size))
          (none_in_list (λ k. not (eqb k i) && ltb (known (facts_at s i) k) (value_in t.values k)) (range_with_len 0 setting.group.size) (λ k there.
          let small = range_in 0 setting.group.size k there in
          let said = value k in
          and_false (not (eqb k i)) (ltb (known (facts_at s i) k) (value_in t.values k)) (le-ltb (known (facts_at s i) k) (value_in t.values k)
          (omega (arith, said, most_of t.sender k so.member (omega (arith, small)), delivered_is_known (seat_at setting i) (facts_at s i) k (inv.together.legal i lt))))))
          (none_in_list (λ k. not (eqb k t.sender) && ltb (acknowledged_of (seat_at setting i) (facts_at s i) t.sender k) (value_in t.values k)) (range_with_len 0 setting.group.size) (λ k there.
          let small = range_in 0 setting.group.size k there in
          let said = value k in
          and_false (not (eqb k t.sender)) (ltb (acknowledged_of (seat_at setting i) (facts_at s i) t.sender k) (value_in t.values k)) (le-ltb (acknowledged_of (seat_at setting i) (facts_at s i) t.sender k) (value_in t.values k)
          (omega (arith, said, quiet.known_there i t.sender k lt so.member (omega (arith, small)) (λ e. other (sym e))))))))
    ]

    abbrev Unchanged : List ℕ → Result ArrivalSays ArriveRefusal → Type 0
    Unchanged bytes r = and_entry (s.histories i) (arrive_entry bytes r) ≡ s.histories i

    frame_changes_nothing : (bytes : List ℕ) (frame : FrameFields) → SaysWhatIsSo setting.group (facts_at s) frame → Unchanged bytes (frame_answer (seat_at setting i) setting.limit (s.histories i) (facts_at s i) frame)
    frame_changes_nothing bytes (CastFrame c) so =
        cond_both (not (eqb c.group setting.group.number)) _ _ (Unchanged bytes) (λ _. refl)
        (λ _. cond_both (not (are_members setting.group.size (CastFrame c))) _ _ (Unchanged bytes) (λ _. refl)
        (λ _. cond_both (is_impossible (seat_at setting i) (facts_at s i) (CastFrame c)) _ _ (Unchanged bytes) (λ _. refl)
        (λ _. cond_both (is_repeat (facts_at s i) (CastFrame c)) _ _ (Unchanged bytes) (λ _. refl) (λ new. absurd (both_ways (is_repeat (facts_at s i) (CastFrame c)) new (repeats c so))))))
    frame_changes_nothing bytes (StatusFrame t) so =
        cond_both (not (eqb t.group setting.group.number)) _ _ (Unchanged bytes) (λ _. refl)
        (λ _. cond_both (not (are_members setting.group.size (StatusFrame t))) _ _ (Unchanged bytes) (λ _. refl)
        (λ _. cond_both (is_impossible (seat_at setting i) (facts_at s i) (StatusFrame t)) _ _ (Unchanged bytes) (λ _. refl)
        (λ _. cond_both (is_news (seat_at setting i) (facts_at s i) t && is_full setting.limit (s.histories i)) _ _ (Unchanged bytes) (λ _. refl)
        (λ _. cond_both (is_news (seat_at setting i) (facts_at s i) t) _ _ (Unchanged bytes) (λ news. absurd (both_ways (is_news (seat_at setting i) (facts_at s i) t) (no_news t so) news)) (λ _. refl)))))
    frame_changes_nothing bytes (RequestFrame r) so =
        cond_both (not (eqb r.group setting.group.number)) _ _ (Unchanged bytes) (λ _. refl)
        (λ _. cond_both (not (are_members setting.group.size (RequestFrame r))) _ _ (Unchanged bytes) (λ _. refl)
        (λ _. cond_both (is_impossible (seat_at setting i) (facts_at s i) (RequestFrame r)) _ _ (Unchanged bytes) (λ _. refl) (λ _. refl)))
    frame_changes_nothing bytes (HelpFrame h) so =
        cond_both (not (eqb h.group setting.group.number)) _ _ (Unchanged bytes) (λ _. refl)
        (λ _. cond_both (not (are_members setting.group.size (HelpFrame h))) _ _ (Unchanged bytes) (λ _. refl)
        (λ _. cond_both (is_impossible (seat_at setting i) (facts_at s i) (HelpFrame h)) _ _ (Unchanged bytes) (λ _. refl) (λ _. refl)))

    arrival_changes_nothing : (bytes : List ℕ) → IsHonest setting.group (facts_at s) bytes → history_after (seat_at setting i) setting.limit (s.histories i) (ToTake bytes) ≡ s.histories i
    unfolding arrive_answer
    arrival_changes_nothing bytes honest =
        subst (λ (r : Result FrameFields FrameFault). Unchanged bytes (answer_to (seat_at setting i) setting.limit (s.histories i) r)) (sym honest.read) (frame_changes_nothing bytes honest.frame honest.so)

    tick_changes_nothing : history_after (seat_at setting i) setting.limit (s.histories i) ToTick ≡ s.histories i
    unfolding tick_answer
    tick_changes_nothing =
        let said = text_of (StatusFrame (status_of (seat_at setting i) (facts_at s i))) in
        cond_both (is_new_status (seat_at setting i) (facts_at s i) && is_full setting.limit (s.histories i)) _ _
        (λ (r : Result (Bool × List Outgoing) TickRefusal). and_entry (s.histories i) (tick_entry said r) ≡ s.histories i) (λ _. refl)
        (λ _. cond_both (is_new_status (seat_at setting i) (facts_at s i)) (Some (TickEntry said)) None (λ (o : Option EntryFields). and_entry (s.histories i) o ≡ s.histories i)
        (λ new. absurd (both_ways (is_new_status (seat_at setting i) (facts_at s i)) (quiet.reported i lt) new)) (λ _. refl))

    same_with : (now : List EntryFields) → now ≡ s.histories i → (k : ℕ) → with_history s.histories i now k ≡ s.histories k
    same_with now same k = cond_both (eqb k i) now (s.histories k) (λ (es : List EntryFields). es ≡ s.histories k) (λ e. same ∙ ap s.histories (sym (eqb-true k i e))) (λ _. refl)

    call_changes_nothing : (call : Call) → IsFair setting s call → ((load : Load) → call ≡ ToCast load → ⊥) → (k : ℕ) → (after_asked setting s (Calls i call)).histories k ≡ s.histories k
    call_changes_nothing (ToCast load) fair none k = absurd (none load refl)
    call_changes_nothing (ToTake bytes) fair none k = same_with (history_after (seat_at setting i) setting.limit (s.histories i) (ToTake bytes)) (arrival_changes_nothing bytes fair) k
    call_changes_nothing ToTick fair none k = same_with (history_after (seat_at setting i) setting.limit (s.histories i) ToTick) tick_changes_nothing k
    call_changes_nothing (ToHelp l) fair none k = same_with (s.histories i) refl k

  step_changes_nothing : (step : Step) → IsNoCastStep step → (k : ℕ) → (step_after setting s step).histories k ≡ s.histories k
  unfolding step_after
  step_changes_nothing step none =
      asked_is setting s inv.honest (λ (asked : Asked). ((j : ℕ) (load : Load) → asked ≡ Calls j (ToCast load) → ⊥) → (k : ℕ) → (after_asked setting s asked).histories k ≡ s.histories k)
      (λ i call lt fair no_casts. call_changes_nothing i lt call fair (λ load e. no_casts i load (ap (Calls i) e)))
      (λ _ k. refl) (λ _ k. refl) (λ _ k. refl) step (no_cast setting s.sent step none)

pub quiet_stays : (setting : Setting) → IsSetting setting → (s : GroupState) → IsConsistent setting s → IsQuiet setting (facts_at s) → NothingChangesAnyMore setting s
unfolding run_from
quiet_stays setting is s inv quiet [] k all = refl
quiet_stays setting is s inv quiet (step ∷ steps) k all =
    let same = step_changes_nothing setting s inv quiet step all.0 in
    let histories : (step_after setting s step).histories ≡ s.histories = fun_ext same in
    let still : IsQuiet setting (facts_at (step_after setting s step)) = subst (λ (hs : ℕ → List EntryFields). IsQuiet setting (λ j. facts_of (hs j))) (sym histories) quiet in
    quiet_stays setting is (step_after setting s step) (step_goes_on setting is s inv step).0 still steps k all.1 ∙ same k
