-- What an outlet answered to the frames that it was offered, and which of them go to whom.
use Rattle.std.specs.Prelude.{ℕ, ◌+◌, nat_lt, List, [], ◌∷◌, Option, Some, None, Bool, true, false, ◌==◌, ◌||◌, if◌then◌else◌, Result, Ok, Err}
use Rattle.cb_history.specs.declared.answer.Outgoing.{Outgoing}
use Rattle.cb_links.specs.declared.link.LinkFault.{LinkFault}
use Rattle.cb_links.specs.declared.link.LinkFault.TheVariants as faults
use Rattle.cb_links.specs.declared.link.Offered.{Offered}
use Rattle.cb_links.specs.declared.link.Unsent.{Unsent}
use Rattle.cb_links.specs.Counts.{held}

abbrev pub nothing_offered : Unsent
nothing_offered = record { offered = 0; failures = 0; refused = 0 }

-- how often the device has failed, and how often memory was refused, with one more fault
abbrev pub failures_with : ℕ → LinkFault → ℕ
failures_with n faults.Device = held (n + 1)
failures_with n faults.NoMemory = n

abbrev pub refused_with : ℕ → LinkFault → ℕ
refused_with n faults.Device = n
refused_with n faults.NoMemory = held (n + 1)

-- the outcome of offering a frame to one member, which was answered so
abbrev pub outcome_of : Result Unit LinkFault → Offered
outcome_of (Ok taken) = record { failures = 0; refused = false }
outcome_of (Err faults.Device) = record { failures = 1; refused = false }
outcome_of (Err faults.NoMemory) = record { failures = 0; refused = true }

-- the outcome of offering it to two, and to several
abbrev pub both : Offered → Offered → Offered
both o p = record { failures = held (o.failures + p.failures); refused = o.refused || p.refused }

abbrev pub at_all : List Offered → Offered
at_all [] = outcome_of (Ok tt)
at_all (o ∷ outcomes) = both o (at_all outcomes)

-- what is answered of a frame with this outcome: a device that failed comes before memory that was refused
abbrev pub answer_of : Offered → Result Unit LinkFault
answer_of o = if nat_lt 0 o.failures then Err faults.Device else if o.refused then Err faults.NoMemory else Ok tt

-- one more frame was offered, and got this answer
abbrev pub with_answer : Unsent → Result Unit LinkFault → Unsent
with_answer u (Ok taken) = record { offered = held (u.offered + 1); failures = u.failures; refused = u.refused }
with_answer u (Err fault) = record { offered = held (u.offered + 1); failures = failures_with u.failures fault; refused = refused_with u.refused fault }

-- Frames that were lost: at each the device failed, which was counted, or memory was refused.
abbrev pub lost_of : Unsent → ℕ
lost_of u = held (u.failures + u.refused)

-- a frame goes to this member: it is for all, or for it
abbrev pub is_for : ℕ → Option ℕ → Bool
is_for member None = true
is_for member (Some to) = to == member

-- the bytes of those of the frames that go to this member, in order
abbrev pub bytes_for : ℕ → List Outgoing → List (List ℕ)
bytes_for member [] = []
bytes_for member (f ∷ frames) = if is_for member f.to then f.bytes ∷ bytes_for member frames else bytes_for member frames
