-- A legal history is what calls add without a limit, with at most so many entries as a history can have.
use Rattle.std.specs.Prelude.{◌≡◌, ◌==◌, ℕ, ◌+◌, ◌≤◌, ◌<◌, ◌↔◌, nat_lt, List, [], ◌∷◌, ◌++◌, length, Some, Result, Ok, Err, if◌then◌else◌}
use Rattle.cb_frames.specs.declared.frame.TheConstants.{LONGEST_PAYLOAD, MOST_MESSAGES}
use Rattle.cb_frames.specs.Fields.{Load, payloads_of, load_bytes, CastFields}
use Rattle.cb_history.specs.CastFault.{CastFault, EmptyBurst, BurstTooLong, PayloadTooLong, WindowFull, HistoryFull}
use Rattle.cb_history.specs.Group.{Identity, IsIdentity}
use Rattle.cb_history.specs.Facts.{EntryFields, Fact, facts_of}
use Rattle.cb_history.specs.Known.{stable}
use Rattle.cb_history.specs.Answers.{is_full, delivered, next_cast, cast_answer}
use Rattle.cb_history.specs.Legal.{longest_history, Call, OfBytes, entry_of, history_after, AreEntriesOf, IsLegal}
use Rattle.cb_history.specs.LegalFacts.{IsStep, AreLegalFacts, AreFactsOf}

-- the limit is all that legality adds
abbrev pub LimitIsAdded : Type 0
LimitIsAdded = (seat : Identity) (entries : List EntryFields) → IsLegal seat entries ↔ (AreEntriesOf seat entries × (length entries ≤ longest_history))

-- each entry is the one that some call adds with the greatest limit
pub data AreAddedInLimit (seat : Identity) : List EntryFields → Type 0 where
  NoneAdded : AreAddedInLimit seat []
  OneAdded : (entries : List EntryFields) (call : Call) (e : EntryFields) → AreAddedInLimit seat entries → OfBytes call → entry_of seat longest_history entries call ≡ Some e → AreAddedInLimit seat (entries ++ e ∷ [])

-- and that is legality
abbrev pub LegalIsAddedInLimit : Type 0
LegalIsAddedInLimit = (seat : Identity) (entries : List EntryFields) → IsIdentity seat → IsLegal seat entries ↔ AreAddedInLimit seat entries

-- each fact is a step from those before it, of which there are fewer than a history can have
pub data AreStepsInLimit (seat : Identity) : List Fact → Type 0 where
  NoStepInLimit : AreStepsInLimit seat []
  OneStepInLimit : (facts : List Fact) (f : Fact) → AreStepsInLimit seat facts → length facts < longest_history → IsStep seat facts f → AreStepsInLimit seat (facts ++ f ∷ [])

-- these are the legal facts that a history has room for
abbrev pub LegalFactsInLimit : Type 0
LegalFactsInLimit = (seat : Identity) (facts : List Fact) → (AreLegalFacts seat facts × (length facts ≤ longest_history)) ↔ AreStepsInLimit seat facts

-- the answer to a cast where only what is stable fills the window
abbrev pub answer_by_stable : Identity → ℕ → List EntryFields → Load → Result CastFields CastFault
answer_by_stable seat limit entries load =
    if length (payloads_of load) == 0 then Err EmptyBurst else
    if nat_lt MOST_MESSAGES (length (payloads_of load)) then Err BurstTooLong else
    if nat_lt LONGEST_PAYLOAD (length (load_bytes load)) then Err PayloadTooLong else
    if nat_lt (stable seat (facts_of entries) + seat.group.window) (delivered seat (facts_of entries) seat.me + length (payloads_of load)) then Err WindowFull else
    if is_full limit entries then Err HistoryFull else
    Ok (next_cast seat (facts_of entries) load)

-- that numbers end changes no answer of a member with a legal history
abbrev pub LegalAnswersByStable : Type 0
LegalAnswersByStable = (seat : Identity) (limit : ℕ) (entries : List EntryFields) (load : Load) → IsLegal seat entries → cast_answer seat limit entries load ≡ answer_by_stable seat limit entries load

-- a call of bytes keeps entries legal, whatever limit it is made with
abbrev pub CallsKeepEntries : Type 0
CallsKeepEntries = (seat : Identity) (limit : ℕ) (entries : List EntryFields) (call : Call) → AreEntriesOf seat entries → OfBytes call → AreEntriesOf seat (history_after seat limit entries call)

-- and such entries say legal facts, one each
abbrev pub EntriesSayLegalFacts : Type 0
EntriesSayLegalFacts = (seat : Identity) (entries : List EntryFields) → AreEntriesOf seat entries → AreFactsOf seat (facts_of entries) × (length (facts_of entries) ≡ length entries)
