-- How many messages a frame carries is what its kind's fields say.
use Rattle.std.proofs.Common.{◌≡◌, ◌≢◌, ℕ, Bool, true, false, cond, eqb, List, [], ◌∷◌, length, Result, Ok, Err, refl, sym, ap, ◌∙◌, arith}
use Rattle.std.proofs.lemmas.Bool.{ne_eqb}
use Rattle.cb_frames.specs.declared.fault.FrameFault.{FrameFault}
use Rattle.cb_frames.specs.declared.fault.FrameFault.TheVariants.{UnknownKind}
use Rattle.cb_frames.specs.Fields.{CastFields, StatusFields, RequestFields, HelpFields, CastFrame, StatusFrame, RequestFrame, HelpFrame}
use Rattle.cb_frames.specs.Text.{cast_kind, burst_kind, status_kind, request_kind, help_kind}
use Rattle.cb_frames.specs.Reading.{◌>>=◌, cast_at, burst_at, status_at, request_at, help_at, frame_at, count_read}
use Rattle.cb_frames.specs.Parts.{carried_count}
use Rattle.cb_frames.proofs.Carried.{carries_payloads}

of_casts : (r : Result CastFields FrameFault) → count_read (r >>= λ c. Ok (CastFrame c)) ≡ carried_count r
of_casts (Ok c) = carries_payloads c
of_casts (Err fault) = refl

of_statuses : (r : Result StatusFields FrameFault) → count_read (r >>= λ s. Ok (StatusFrame s)) ≡ 0
of_statuses (Ok s) = refl
of_statuses (Err fault) = refl

of_requests : (r : Result RequestFields FrameFault) → count_read (r >>= λ q. Ok (RequestFrame q)) ≡ 0
of_requests (Ok q) = refl
of_requests (Err fault) = refl

of_helps : (r : Result HelpFields FrameFault) → count_read (r >>= λ h. Ok (HelpFrame h)) ≡ 0
of_helps (Ok h) = refl
of_helps (Err fault) = refl

pub cast_counted : (text : List ℕ) (kind : ℕ) (fields : List ℕ) → text ≡ kind ∷ fields → kind ≡ cast_kind → carried_count (cast_at fields) ≡ count_read (frame_at text)
unfolding frame_at
cast_counted text kind fields parts is = sym (ap (λ (t : List ℕ). count_read (frame_at t)) (parts ∙ ap (λ (k : ℕ). k ∷ fields) is) ∙ of_casts (cast_at fields))

pub burst_counted : (text : List ℕ) (kind : ℕ) (fields : List ℕ) → text ≡ kind ∷ fields → kind ≡ burst_kind → carried_count (burst_at fields) ≡ count_read (frame_at text)
unfolding frame_at
burst_counted text kind fields parts is = sym (ap (λ (t : List ℕ). count_read (frame_at t)) (parts ∙ ap (λ (k : ℕ). k ∷ fields) is) ∙ of_casts (burst_at fields))

pub nothing_counted : (text : List ℕ) → length text ≡ 0 → 0 ≡ count_read (frame_at text)
unfolding frame_at
nothing_counted [] none = refl
nothing_counted (b ∷ bytes) none = absurd (omega (arith, none))

by_kind : (status request help : Bool) (fields : List ℕ)
    → count_read (cond status (status_at fields >>= λ s. Ok (StatusFrame s)) (cond request (request_at fields >>= λ r. Ok (RequestFrame r))
    (cond help (help_at fields >>= λ h. Ok (HelpFrame h)) (Err UnknownKind)))) ≡ 0
by_kind true request help fields = of_statuses (status_at fields)
by_kind false true help fields = of_requests (request_at fields)
by_kind false false true fields = of_helps (help_at fields)
by_kind false false false fields = refl

pub others_counted : (text : List ℕ) (kind : ℕ) (fields : List ℕ) → text ≡ kind ∷ fields → kind ≢ cast_kind → kind ≢ burst_kind → 0 ≡ count_read (frame_at text)
unfolding frame_at
others_counted text kind fields parts no_cast no_burst =
    sym (ap (λ (t : List ℕ). count_read (frame_at t)) parts ∙ rw (ne_eqb kind cast_kind no_cast, ne_eqb kind burst_kind no_burst) (by_kind (eqb kind status_kind) (eqb kind request_kind) (eqb kind help_kind) fields))
