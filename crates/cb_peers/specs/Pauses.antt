-- Attempts, with growing pauses. Times are in milliseconds.
use Rattle.std.specs.Prelude.{◌≡◌, ℕ, ◌+◌, ◌*◌, min, refl}
use Rattle.cb_peers.specs.declared.attempts.Attempts.{Attempts}

-- the next one is due at once
abbrev pub none_made : Attempts
none_made = record { due = 0; pause = 10 }

-- each pause is twice the one before, and at most a second
abbrev pub pause_behind : ℕ → ℕ
pause_behind pause = min 1000 (2 * pause)

-- one failed now; a time stays at the greatest that there is
abbrev pub with_failure : Attempts → ℕ → Attempts
with_failure attempts now = record { due = min 18446744073709551615 (now + attempts.pause); pause = pause_behind attempts.pause }

-- the times of attempts that fail at once, from time 100 on
row_first : with_failure none_made 100 ≡ record { due = 110; pause = 20 }
row_first = refl

row_second : with_failure (with_failure none_made 100) 110 ≡ record { due = 130; pause = 40 }
row_second = refl

row_longest : with_failure (record { due = 0; pause = 640 }) 5000 ≡ record { due = 5640; pause = 1000 }
row_longest = refl

row_stays : with_failure (record { due = 0; pause = 1000 }) 5000 ≡ record { due = 6000; pause = 1000 }
row_stays = refl
