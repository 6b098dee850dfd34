-- What `confer expand` answers to one line, where these casts were accepted before.
use Rattle.std.specs.Prelude.{ℕ, ◌+◌, Bool, not, ◌&&◌, List, [], ◌∷◌, ◌++◌, codes, map, min, nat_lt, ◌==◌, if◌then◌else◌, Result, Ok, Err}
use Rattle.std.specs.List.{list_all}
use Rattle.std.specs.Fmt.{decimal}
use Rattle.hex.specs.declared.error.FromHexError.{FromHexError}
use Rattle.hex.specs.Hex.{decode_of}
use Rattle.cb_times.specs.Time.{text_of}
use Rattle.cb_frames.specs.declared.fault.FrameFault.{FrameFault}
use Rattle.cb_frames.specs.Fields.{CastFields, FrameFields, CastFrame, StatusFrame, RequestFrame, HelpFrame, Carried, messages_of, first_number}
use Rattle.cb_frames.specs.Reading.{frame_at}
use Rattle.cb_diffs.specs.declared.expander.ExpandFault.TheVariants as expands
use Rattle.cb_diffs.specs.Expansion.{greatest, expanded_time, last_in}
use Rattle.confer_text.specs.Texts.{payload_text}
use Rattle.confer_expand.specs.declared.refusal.Refusal.{Refusal}
use Rattle.confer_expand.specs.declared.refusal.Refusal.TheVariants as refusals
use Rattle.confer_expand.specs.Refusals.{refusal_text}

infixl 10 ◌>>=◌
abbrev pub ◌>>=◌ : {A B : Type 0} → Result A Refusal → (A → Result B Refusal) → Result B Refusal
(Ok x) >>= f = f x
(Err e) >>= f = Err e

-- ---- what is refused, in this order

abbrev pub or_bad_hex : Result (List ℕ) FromHexError → Result (List ℕ) Refusal
or_bad_hex (Ok bytes) = Ok bytes
or_bad_hex (Err fault) = Err refusals.BadHex

abbrev pub cast_or_refusal : Result FrameFields FrameFault → Result CastFields Refusal
cast_or_refusal (Ok (CastFrame c)) = Ok c
cast_or_refusal (Ok (StatusFrame s)) = Err refusals.NotACast
cast_or_refusal (Ok (RequestFrame r)) = Err refusals.NotACast
cast_or_refusal (Ok (HelpFrame h)) = Err refusals.NotACast
cast_or_refusal (Err fault) = Err (refusals.Frame fault)

abbrev pub are_members : ℕ → CastFields → Bool
are_members size c = nat_lt c.sender size && list_all (λ d. nat_lt d.field size) c.changes

-- the cast, where it is of this group and its sender's next one
abbrev pub accept : ℕ → ℕ → List CastFields → CastFields → Result CastFields Refusal
accept group size accepted c =
    if not (c.group == group) then Err refusals.OtherGroup else
    if not (are_members size c) then Err (refusals.Expand expands.BadMember) else
    if first_number c == last_in accepted c.sender + 1 then Ok c else
    Err (refusals.Expand (expands.NotNext (min greatest (last_in accepted c.sender + 1)) (first_number c)))

-- the cast that the line is, or why it is refused
unfoldable pub outcome : ℕ → ℕ → List CastFields → List ℕ → Result CastFields Refusal
outcome group size accepted line = do
  bytes ← or_bad_hex (decode_of line)
  c ← cast_or_refusal (frame_at bytes)
  accept group size accepted c

-- ---- what is printed

-- the message's name, its time, which adds up these casts, and its payload
abbrev pub message_text : ℕ → List CastFields → Carried → List ℕ
message_text size casts m =
    decimal m.sender ++ codes "." ++ decimal m.number ++ codes " "
    ++ text_of (expanded_time size casts m.sender m.number) ++ codes " " ++ payload_text m.payload

-- a text for each message of an accepted cast, with which its time adds up those accepted before; one for a refusal
abbrev pub answer_texts : ℕ → List CastFields → Result CastFields Refusal → List (List ℕ)
answer_texts size accepted (Ok c) = map (message_text size (accepted ++ c ∷ [])) (messages_of c)
answer_texts size accepted (Err refusal) = (codes "refused " ++ refusal_text refusal) ∷ []

-- the casts that are accepted after the line
abbrev pub accepted_after : List CastFields → Result CastFields Refusal → List CastFields
accepted_after accepted (Ok c) = accepted ++ c ∷ []
accepted_after accepted (Err refusal) = accepted
