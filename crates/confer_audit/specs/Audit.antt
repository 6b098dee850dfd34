-- What `confer audit` prints, and where it stops.
use Rattle.std.specs.Prelude.{◌≡◌, ◌≢◌, ℕ, Bool, true, false, List, [], ◌∷◌, ◌++◌, codes, Option, IfSome}
use Rattle.std.specs.List.{flat_map}
use Rattle.std.specs.Io.KnownBytes.{Appends}
use Rattle.hex.specs.Hex.{encode_lower}
use Rattle.cb_frames.specs.Fields.{Load, One, Many}
use Rattle.cb_schedules.specs.Schedule.{Setting, Step, CastStep, ArriveStep, TickStep, HelpStep}
use Rattle.cb_world.specs.World.{WorldState}
use Rattle.cb_trace.specs.declared.fault.AuditFault.{AuditFault}
use Rattle.cb_trace.specs.declared.fault.AuditFault.TheVariants as audits
use Rattle.cb_trace.specs.Text.{HistoryFields}
use Rattle.cb_trace.specs.Bounds.{IsTrace, IsFirstBadLine}
use Rattle.cb_trace.specs.Auditing.{IsAudited, SaysFault}
use Rattle.cb_trace.specs.FaultText.{audit_fault_text}
use Rattle.confer_text.specs.declared.fault.LinesFault.TheVariants.{Read, Write, TooLong, NoMemory}
use Rattle.confer_audit.specs.declared.fault.TraceInputFault.{TraceInputFault}
use Rattle.confer_audit.specs.declared.fault.TraceInputFault.TheVariants.{Lines, BadTrace}
use Rattle.confer_text.specs.Texts.{parameter_text}
use Rattle.confer_text.specs.Streams.{IsWithinLimit, IsTooLong, WritesSome}

-- ---- the script of a joint order

-- a payload's digits, or a dash for none
abbrev pub digits_text : List ℕ → List ℕ
digits_text [] = codes "-"
digits_text (byte ∷ bytes) = encode_lower (byte ∷ bytes)

-- a payload behind a space
abbrev pub payload_word : List ℕ → List ℕ
payload_word payload = codes " " ++ digits_text payload

-- the payloads of a load, each behind a space
abbrev pub load_text : Load → List ℕ
load_text (One payload) = payload_word payload
load_text (Many payloads) = flat_map payload_word payloads

-- how the line of a step begins that casts the load
abbrev pub cast_verb : Load → List ℕ
cast_verb (One payload) = codes "cast "
cast_verb (Many payloads) = codes "burst "

unfoldable pub step_text : Step → List ℕ
step_text (CastStep i load) = parameter_text (cast_verb load) i ++ load_text load ++ codes "\n"
step_text (ArriveStep j number) = parameter_text (codes "arrive ") j ++ parameter_text (codes " ") number ++ codes "\n"
step_text (TickStep i) = parameter_text (codes "tick ") i ++ codes "\n"
step_text (HelpStep j i) = parameter_text (codes "help ") j ++ parameter_text (codes " ") i ++ codes "\n"

-- the group, and how many entries a history may have
unfoldable pub first_text : Setting → List ℕ
first_text s =
    parameter_text (codes "group ") s.group.number ++ parameter_text (codes " size ") s.group.size
    ++ parameter_text (codes " window ") s.group.window ++ parameter_text (codes " history ") s.limit ++ codes "\n"

-- a line for the group, and one for each step
unfoldable pub script_text : WorldState → List ℕ
script_text w = first_text w.setting ++ flat_map step_text w.steps

-- ---- answers

-- The steps are those of a joint order of the histories, their run has just these histories, and so the headline holds of them; this is
-- their script.
pub record PrintsScript (histories : List HistoryFields) (text : List ℕ) : Type 0 where
  pub run_is : WorldState
  pub audited : IsAudited histories run_is
  pub text_is : text ≡ script_text run_is

unfoldable pub refusal_text : AuditFault → List ℕ
refusal_text refusal = codes "no " ++ audit_fault_text refusal ++ codes "\n"

-- what the audit refuses, which is not want of memory
pub record Refuses (histories : List HistoryFields) (refusal : AuditFault) : Type 0 where
  pub fault : SaysFault histories refusal
  pub known : refusal ≢ audits.NoMemory

-- why there is none
pub record PrintsRefusal (histories : List HistoryFields) (text : List ℕ) : Type 0 where
  pub refusal : AuditFault
  pub refuses : Refuses histories refusal
  pub text_is : text ≡ refusal_text refusal

-- what is printed of histories, and whether the audit said no
abbrev pub Prints : List HistoryFields → Bool → List ℕ → Type 0
Prints histories false text = PrintsScript histories text
Prints histories true text = PrintsRefusal histories text

-- the bytes are a trace, and this is printed of its histories
pub record PrintsOf (bytes : List ℕ) (refused : Bool) (text : List ℕ) : Type 0 where
  pub histories : List HistoryFields
  pub trace : IsTrace histories bytes
  pub prints : Prints histories refused text

-- so much of the input, where it can be known
pub record Answers (refused : Bool) (input before now : Option (List ℕ)) : Type 0 where
  pub limit : IsWithinLimit input
  pub text : List ℕ
  pub written : Appends before now text
  pub prints : IfSome input (λ bytes. PrintsOf bytes refused text)

-- ---- faults

-- why nothing is printed of the bytes
abbrev pub IsNoTrace : List ℕ → TraceInputFault → Type 0
IsNoTrace bytes (Lines NoMemory) = Unit {0}
IsNoTrace bytes (Lines fault) = ⊥
IsNoTrace bytes (BadTrace line) = IsFirstBadLine bytes line

-- What stands written where an audit stops by this fault: nothing, unless its answer was being written. A trace that is too long is so, and
-- one with a bad line is within the limit, and this is its first bad line.
abbrev pub StopsAuditing : TraceInputFault → Option (List ℕ) → Option (List ℕ) → Option (List ℕ) → Type 0
StopsAuditing (Lines Read) input before now = now ≡ before
StopsAuditing (Lines Write) input before now = WritesSome before now
StopsAuditing (Lines TooLong) input before now = IsTooLong input × (now ≡ before)
StopsAuditing (Lines NoMemory) input before now = now ≡ before
StopsAuditing (BadTrace line) input before now = IsWithinLimit input × IfSome input (λ bytes. IsFirstBadLine bytes line) × (now ≡ before)
