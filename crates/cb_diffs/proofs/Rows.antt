-- Worked times: two messages of member 0 in one frame, two of member 1 that follows them, and one more of member 1.
use Rattle.std.proofs.Common.{◌≡◌, ◌≢◌, ℕ, zero, suc, ◌+◌, ◌-◌, ◌<◌, List, [], ◌∷◌, get_or, min, refl, arith}
use Rattle.cb_times.specs.Order.{field}
use Rattle.cb_frames.specs.declared.frame.Change.{Change}
use Rattle.cb_frames.specs.declared.frame.TheConstants.{LAST_NUMBER}
use Rattle.cb_frames.specs.Fields.{One, Many, CastFields, first_number, last_number, growth_in}
use Rattle.cb_diffs.specs.Expansion.{greatest, expanded_time, last_in, kept_time, Expands}
use Rattle.cb_diffs.specs.Sent.{sent_time}

-- 0.1 and 0.2 of group 7
abbrev two : CastFields
two = record { group = 7; sender = 0; number = 1; changes = []; load = Many ((0x68 ∷ 0x69 ∷ []) ∷ (0x79 ∷ 0x6f ∷ []) ∷ []) }

-- 1.1 and 1.2, by which member 1 has delivered both
abbrev after_two : CastFields
after_two = record { group = 7; sender = 1; number = 1; changes = record { field = 0; amount = 2 } ∷ []; load = Many ((0x61 ∷ []) ∷ (0x62 ∷ []) ∷ []) }

-- and 1.3, which comes alone
abbrev alone : CastFields
alone = record { group = 7; sender = 1; number = 3; changes = []; load = One (0x63 ∷ []) }

abbrev frames : List CastFields
frames = two ∷ after_two ∷ alone ∷ []

-- the time of each message: the changes of a frame count once, and in its own field each message has its number
time_of_0_1 : expanded_time 3 frames 0 1 ≡ 1 ∷ 0 ∷ 0 ∷ []
unfolding first_number
time_of_0_1 = refl

time_of_0_2 : expanded_time 3 frames 0 2 ≡ 2 ∷ 0 ∷ 0 ∷ []
unfolding first_number
time_of_0_2 = refl

time_of_1_1 : expanded_time 3 frames 1 1 ≡ 2 ∷ 1 ∷ 0 ∷ []
unfolding first_number
time_of_1_1 = refl

time_of_1_2 : expanded_time 3 frames 1 2 ≡ 2 ∷ 2 ∷ 0 ∷ []
unfolding first_number
time_of_1_2 = refl

time_of_1_3 : expanded_time 3 frames 1 3 ≡ 2 ∷ 3 ∷ 0 ∷ []
unfolding first_number
time_of_1_3 = refl

-- so they do where a frame was sent twice
sent_twice : sent_time 3 (two ∷ after_two ∷ after_two ∷ []) 1 2 ≡ 2 ∷ 2 ∷ 0 ∷ []
unfolding first_number
sent_twice = refl

-- the last number of a sender is that of the last message of its last frame
last_of_0 : last_in frames 0 ≡ 2
unfolding last_number
last_of_0 = refl

last_of_both : last_in (two ∷ after_two ∷ []) 1 ≡ 2
unfolding last_number
last_of_both = refl

-- of the time of 1.1 that of 1.2 is kept
kept_of_both : kept_time after_two (2 ∷ 1 ∷ 0 ∷ []) ≡ 2 ∷ 2 ∷ 0 ∷ []
unfolding last_number
kept_of_both = refl

of_members : (k : ℕ) (d : Change) → k < 1 → (get_or after_two.changes k d).field < 3
of_members zero d lt = omega arith
of_members (suc k) d lt = absurd (omega (arith, lt))

others_grow : (k : ℕ) → k < 3 → k ≢ 1 → field (2 ∷ 1 ∷ 0 ∷ []) k ≡ min greatest (field (0 ∷ 0 ∷ 0 ∷ []) k + growth_in after_two.changes k)
others_grow zero lt ne = refl
others_grow (suc zero) lt ne = absurd (ne refl)
others_grow (suc (suc zero)) lt ne = refl
others_grow (suc (suc (suc k))) lt ne = absurd (omega (arith, lt))

-- the second frame is expanded behind the first
expands : Expands ((2 ∷ 0 ∷ 0 ∷ []) ∷ (0 ∷ 0 ∷ 0 ∷ []) ∷ (0 ∷ 0 ∷ 0 ∷ []) ∷ []) after_two (2 ∷ 1 ∷ 0 ∷ []) ((2 ∷ 0 ∷ 0 ∷ []) ∷ (2 ∷ 2 ∷ 0 ∷ []) ∷ (0 ∷ 0 ∷ 0 ∷ []) ∷ [])
unfolding first_number last_number
expands = record {
  members = record { sender = omega arith; changes = of_members };
  some = omega arith;
  next = refl;
  grown = record { size = refl; own = refl; others = others_grow };
  kept = refl;
}

-- the last message of a burst may have the greatest number
abbrev at_the_end : CastFields
at_the_end = record { group = 7; sender = 2; number = LAST_NUMBER - 1; changes = []; load = Many ([] ∷ [] ∷ []) }

ends_at_the_greatest : last_number at_the_end ≡ LAST_NUMBER
unfolding last_number
ends_at_the_greatest = refl
