-- Only a burst's kind gives a burst: what is read of other bytes carries one payload, where it is a cast.
use Rattle.std.proofs.Common.{◌≢◌, ℕ, cond, eqb, List, ◌∷◌, Result, Ok, Err}
use Rattle.std.specs.Prelude.{IfOk}
use Rattle.std.proofs.lemmas.Bool.{cond_both, ne_eqb}
use Rattle.cb_frames.specs.declared.fault.FrameFault.{FrameFault}
use Rattle.cb_frames.specs.declared.fault.FrameFault.TheVariants.{UnknownKind}
use Rattle.cb_frames.specs.Fields.{IsOne, CastFields, StatusFields, RequestFields, HelpFields, FrameFields, CastFrame, StatusFrame, RequestFrame, HelpFrame}
use Rattle.cb_frames.specs.Text.{cast_kind, burst_kind, status_kind, request_kind, help_kind}
use Rattle.cb_frames.specs.Fault.{length_rule}
use Rattle.cb_frames.specs.Reading.{◌>>=◌, field_at, payload_at, head_at, cast_at, status_at, request_at, help_at, frame_at}
use Rattle.cb_frames.proofs.Fronts.{bind_cases}

abbrev pub CarriesOne : FrameFields → Type 0
CarriesOne (CastFrame c) = IsOne c.load
CarriesOne (StatusFrame s) = Unit {0}
CarriesOne (RequestFrame r) = Unit {0}
CarriesOne (HelpFrame h) = Unit {0}

abbrev IsOneRead : Result CastFields FrameFault → Type 0
IsOneRead r = IfOk r (λ c. IsOne c.load)

cast_carries_one : (bytes : List ℕ) → IsOneRead (cast_at bytes)
unfolding cast_at
cast_carries_one bytes =
    bind_cases (head_at bytes) _ IsOneRead
    (λ head e. bind_cases (field_at (length_rule 0) head.1) _ IsOneRead
    (λ size e. bind_cases (payload_at size.0 size.1) _ IsOneRead (λ payload e. tt) (λ fault e. tt))
    (λ fault e. tt))
    (λ fault e. tt)

of_cast : (r : Result CastFields FrameFault) → IsOneRead r → IfOk (r >>= λ c. Ok (CastFrame c)) CarriesOne
of_cast (Ok c) one = one
of_cast (Err fault) one = tt

of_status : (r : Result StatusFields FrameFault) → IfOk (r >>= λ s. Ok (StatusFrame s)) CarriesOne
of_status (Ok s) = tt
of_status (Err fault) = tt

of_request : (r : Result RequestFields FrameFault) → IfOk (r >>= λ q. Ok (RequestFrame q)) CarriesOne
of_request (Ok q) = tt
of_request (Err fault) = tt

of_help : (r : Result HelpFields FrameFault) → IfOk (r >>= λ h. Ok (HelpFrame h)) CarriesOne
of_help (Ok h) = tt
of_help (Err fault) = tt

pub others_carry_one : (kind : ℕ) (fields : List ℕ) → kind ≢ burst_kind → IfOk (frame_at (kind ∷ fields)) CarriesOne
unfolding frame_at
others_carry_one kind fields no_burst =
    let Goal : Result FrameFields FrameFault → Type 0 = λ r. IfOk r CarriesOne in
    let help = cond (eqb kind help_kind) (help_at fields >>= λ h. Ok (HelpFrame h)) (Err UnknownKind) in
    let request = cond (eqb kind request_kind) (request_at fields >>= λ r. Ok (RequestFrame r)) help in
    let status = cond (eqb kind status_kind) (status_at fields >>= λ s. Ok (StatusFrame s)) request in
    rw (ne_eqb kind burst_kind no_burst)
    (cond_both (eqb kind cast_kind) (cast_at fields >>= λ c. Ok (CastFrame c)) status Goal
    (λ is. of_cast (cast_at fields) (cast_carries_one fields))
    (λ no. cond_both (eqb kind status_kind) (status_at fields >>= λ s. Ok (StatusFrame s)) request Goal
    (λ is. of_status (status_at fields))
    (λ no. cond_both (eqb kind request_kind) (request_at fields >>= λ r. Ok (RequestFrame r)) help Goal
    (λ is. of_request (request_at fields))
    (λ no. cond_both (eqb kind help_kind) (help_at fields >>= λ h. Ok (HelpFrame h)) (Err UnknownKind) Goal
    (λ is. of_help (help_at fields))
    (λ no. tt)))))
