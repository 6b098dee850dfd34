-- What a message depends on, by its time: with all that there it is delivered, and who can tell the time has heard of it.
use Rattle.std.proofs.Common.{◌≡◌, ◌≢◌, ℕ, ◌<◌, ◌≤◌, true, sym, ap, subst, ◌∙◌, arith, inl, inr}
use Rattle.std.proofs.lemmas.Bool.{cases_eq}
use Rattle.cb_times.specs.declared.name.Name.{Name}
use Rattle.cb_frames.specs.Fields.{Carried}
use Rattle.cb_diffs.specs.Expansion.{expanded_field}
use Rattle.cb_causality.specs.HappenedBefore.{HappenedBefore}
use Rattle.cb_causality.specs.StampedMachine.{erased}
use Rattle.cb_causality.proofs.Stamps.{times_count_the_past}
use Rattle.cb_history.specs.Facts.{casts_in, messages_in, is_there}
use Rattle.cb_history.specs.View.{is_expanded, view}
use Rattle.cb_history.specs.Known.{known}
use Rattle.cb_history.specs.Answers.{delivered, own_casts}
use Rattle.cb_history.proofs.Views.{IsIn}
use Rattle.cb_history.proofs.Times.{own_field, seen_is_there}
use Rattle.cb_history.proofs.Rising.{known_parts}
use Rattle.cb_history.proofs.RisingByCasts.{one_at_most}
use Rattle.cb_history.proofs.Delivering.{in_field}
use Rattle.cb_history.proofs.Runs.{message_there, expanded_are_there, expanded_up_to_the_count}
use Rattle.cb_schedules.specs.Schedule.{Setting, seat_at, GroupState}
use Rattle.cb_schedules.specs.Messages.{facts_at}
use Rattle.cb_schedules.specs.Honest.{events_of}
use Rattle.cb_schedules.specs.Consistent.{IsConsistent}
use Rattle.cb_schedules.specs.RoundLaws.{cast_count, expanded_at}
use Rattle.cb_schedules.proofs.Members.{stands_at, is_own, time_is_senders}
use Rattle.cb_schedules.proofs.Moments.{clock, has_clock}
use Rattle.cb_schedules.proofs.Closing.{seen_number, closed_is_seen}
use Rattle.cb_schedules.proofs.Headlines.{cast_stands}
use Rattle.cb_schedules.proofs.Later.{IsLater, own_casts_later}
use Rattle.cb_schedules.proofs.Repairing.{is_one_of_the_casts}

-- how many casts of member x the time of message n of sender i counts, as its sender tells it
abbrev pub counted_there : GroupState → ℕ → ℕ → ℕ → ℕ
counted_there s i n x = expanded_field (casts_in (facts_at s i)) i n x

-- Where message n of another sender is expanded with member j, and so is all of third members that its time counts, it is delivered.
pub expanded_is_delivered : (setting : Setting) (s : GroupState) → IsConsistent setting s → (j i n : ℕ) → j < setting.group.size → 1 ≤ n → n ≤ expanded_at s j i
    → ((x k : ℕ) → x < setting.group.size → x ≢ i → x ≢ j → 1 ≤ k → k ≤ cast_count setting s x → k ≤ counted_there s i n x → k ≤ expanded_at s j x)
    → n ≤ delivered (seat_at setting j) (facts_at s j) i
expanded_is_delivered setting s inv j i n lt low high each =
    (seen_number setting.group (facts_at s) inv.together j (record { sender = i; number = n }) lt
    (closed_is_seen setting.group (facts_at s) inv.together j (record { sender = i; number = n }) (record { here = there i n low high; past = past }))).1
  where
    there : (x k : ℕ) → 1 ≤ k → k ≤ expanded_at s j x → is_there (casts_in (facts_at s j)) x k ≡ true
    there x k low high = expanded_are_there (casts_in (facts_at s j)) x k low high

    past : (earlier : Name) → HappenedBefore (erased (events_of setting.group (facts_at s))) earlier (record { sender = i; number = n }) → is_there (casts_in (facts_at s j)) earlier.sender earlier.number ≡ true
    past earlier before =
        let m : Name = record { sender = i; number = n } in
        let one = is_one_of_the_casts setting s inv before.from.member earlier (cast_stands setting s inv earlier (before.from, before.cast_earlier)) in
        let cast = one.2 in
        let counts = (times_count_the_past setting.group.size (events_of setting.group (facts_at s)) inv.together.stamped m (clock setting.group (facts_at s) inv.together m)
        (has_clock setting.group (facts_at s) inv.together j m (there i n low high)) earlier.sender earlier.number one.1).1 (inr before) in
        let at = in_field setting.group.size (counted_there s i n) earlier.sender one.0 in
        elim (cases_eq earlier.sender i) [
          | inl own ↦
              let is : counted_there s i n earlier.sender ≡ n = ap (counted_there s i n) own ∙ own_field (casts_in (facts_at s i)) i n in
              subst (λ (x : ℕ). is_there (casts_in (facts_at s j)) x earlier.number ≡ true) (sym own) (there i earlier.number one.1 (omega (arith, counts, at, is, high)))
          | inr other ↦ elim (cases_eq earlier.sender j) [
            | inl mine ↦
                let made : earlier.number ≤ cast_count setting s j = subst (λ (x : ℕ). earlier.number ≤ cast_count setting s x) mine cast in
                subst (λ (x : ℕ). is_there (casts_in (facts_at s j)) x earlier.number ≡ true) (sym mine)
                (seen_is_there (seat_at setting j) (casts_in (facts_at s j)) (view setting.group.size (facts_at s j)) (own_casts (facts_at s j)) j earlier.number (stands_at setting.group (facts_at s) inv.together j lt) one.1 made)
            | inr third ↦ there earlier.sender earlier.number one.1 (each earlier.sender earlier.number one.0 other third one.1 cast (omega (arith, counts, at)))
          ]
        ]

-- Who has expanded a message has heard of all that its time counts; the time stays the same.
pub counted_is_heard_of : (setting : Setting) (s t : GroupState) → IsConsistent setting s → IsConsistent setting t → IsLater s t → (j i n x : ℕ) → j < setting.group.size → 1 ≤ n → n ≤ expanded_at s j i
    → counted_there t i n x ≤ known (facts_at s j) x
counted_is_heard_of setting s t inv inv_t later j i n x lt low high =
    let casts = casts_in (facts_at s j) in
    let m = message_there (casts_in (facts_at s j)) i n (expanded_are_there (casts_in (facts_at s j)) i n low high) in
    let up_to : m.found.number ≤ expanded_at s j m.found.sender = subst (λ (k : ℕ). k ≤ expanded_at s j m.found.sender) (sym m.number_is) (subst (λ (k : ℕ). n ≤ expanded_at s j k) (sym m.sender_is) high) in
    let expanded = (expanded_up_to_the_count (casts_in (facts_at s j)) m.found).1 up_to in
    let same = time_is_senders setting.group (facts_at t) inv_t.together j (facts_at s j) m.found x (inv.together.legal j lt)
    (λ c there. subst (IsIn c) (sym (own_casts_later s t later c.sender)) (is_own setting.group (facts_at s) inv.together j c there)) m.there expanded in
    let most = one_at_most (is_expanded (casts_in (facts_at s j))) (λ (y : Carried). expanded_field (casts_in (facts_at s j)) y.sender y.number x) (messages_in (casts_in (facts_at s j))) m.found m.there expanded in
    let parts = known_parts (facts_at s j) x in
    let all : counted_there t m.found.sender m.found.number x ≤ known (facts_at s j) x = omega (arith, same, most, parts) in
    subst (λ (k : ℕ). counted_there t i k x ≤ known (facts_at s j) x) m.number_is (subst (λ (k : ℕ). counted_there t k m.found.number x ≤ known (facts_at s j) x) m.sender_is all)
