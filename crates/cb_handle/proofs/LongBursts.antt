-- More payloads than a burst may have are refused so, whatever they are.
use Rattle.std.proofs.Common.{◌≡◌, ◌≢◌, ℕ, ◌+◌, ◌<◌, Bool, true, false, List, [], ◌∷◌, length, drop, Result, Err, refl, sym, ap, subst, ◌∙◌, arith, inl}
use Rattle.std.specs.Prelude.{◌==◌, nat_lt, if◌then◌else◌}
use Rattle.std.proofs.lemmas.Bool.{lt-ltb, ne_eqb}
use Rattle.cb_frames.specs.declared.frame.TheConstants.{MOST_MESSAGES}
use Rattle.cb_frames.specs.Fields.{Load, CastFields, payloads_of}
use Rattle.cb_history.specs.declared.answer.BurstRefusal.TheVariants as bursts
use Rattle.cb_history.specs.Answers.{cast_answer}
use Rattle.cb_history.specs.CastFault.{CastFault, EmptyBurst, BurstTooLong}
use Rattle.cb_history.specs.Facts.{EntryFields}
use Rattle.cb_history.specs.Group.{Identity}
use Rattle.cb_member.specs.Casting.{RefusesBurstExactly}
use Rattle.cb_handle.specs.declared.held.Held.{Held}
use Rattle.cb_handle.specs.Calling.{OnEach}
use Rattle.cb_handle.specs.Payloads.{burst_in, payloads_in}

as_many : (bytes lengths : List ℕ) → length (payloads_in bytes lengths) ≡ length lengths
as_many bytes [] = refl
as_many bytes (len ∷ lengths) = let rest = as_many (drop len bytes) lengths in omega (arith, rest)

by_rules : (empty many : Bool) (rest : Result CastFields CastFault) → empty ≡ false → many ≡ true → (if empty then Err EmptyBurst else if many then Err BurstTooLong else rest) ≡ Err BurstTooLong
by_rules true many rest none on = absurd cc
by_rules false false rest none on = absurd cc
by_rules false true rest none on = refl

too_long : (seat : Identity) (limit : ℕ) (entries : List EntryFields) (load : Load) → MOST_MESSAGES < length (payloads_of load) → cast_answer seat limit entries load ≡ Err BurstTooLong
unfolding cast_answer
too_long seat limit entries load many =
    let n = length (payloads_of load) in
    let some : n ≢ 0 = λ zero. absurd (omega (arith, many, zero)) in
    by_rules (n == 0) (nat_lt MOST_MESSAGES n) _ (ne_eqb n 0 some) (lt-ltb MOST_MESSAGES n many)

pub too_many_payloads : (held : Held) (bytes lengths : List ℕ) → MOST_MESSAGES < length lengths → OnEach held (λ m. RefusesBurstExactly m (burst_in bytes lengths) bursts.BurstTooLong)
too_many_payloads held bytes lengths many entries stands =
    let n = as_many bytes lengths in
    inl (too_long held.kept.core.seat _ entries (burst_in bytes lengths) (omega (arith, n, many)))
