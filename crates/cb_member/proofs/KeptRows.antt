-- Members with a history, and without, by worked examples.
use Rattle.std.proofs.Common.{◌≡◌, ℕ, [], ◌∷◌, refl}
use Rattle.cb_history.specs.Facts.{CastEntry, TickEntry}
use Rattle.cb_member.specs.Kept.{Kept, gone, limit_for, limit_of}
use Rattle.cb_member.specs.KeptCalls.{behind}

a_limit_stands : limit_for 5 (TickEntry [] ∷ []) ≡ 5
a_limit_stands = refl

without_a_history_there_is_room_for_one_more : limit_for 0 (TickEntry [] ∷ TickEntry [] ∷ []) ≡ 3
without_a_history_there_is_room_for_one_more = refl

of_a_history_nothing_is_gone : (kept : Kept) → gone {X = ℕ} (record kept { limit = 5 }) (1 ∷ 2 ∷ []) ≡ []
of_a_history_nothing_is_gone kept = refl

without_one_all_is_gone : (kept : Kept) → gone {X = ℕ} (record kept { limit = 0 }) (1 ∷ 2 ∷ []) ≡ 1 ∷ 2 ∷ []
without_one_all_is_gone kept = refl

of_a_history_all_is_there_after_each_part : (before after : Kept) → behind before (record after { limit = 5 }) ≡ record after { limit = 5 }
of_a_history_all_is_there_after_each_part before after = refl

without_one_a_part_adds_to_those_before : (before after : Kept)
    → (behind (record before { entries = TickEntry [] ∷ [] }) (record after { limit = 0; entries = CastEntry [] ∷ [] })).entries ≡ TickEntry [] ∷ CastEntry [] ∷ []
without_one_a_part_adds_to_those_before before after = refl

a_limit_is_the_histories : (kept : Kept) → limit_of (record kept { limit = 5 }) (TickEntry [] ∷ []) ≡ 5
a_limit_is_the_histories kept = refl
