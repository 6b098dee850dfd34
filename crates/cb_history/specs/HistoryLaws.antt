-- Legal histories: their prefixes, what calls make of them, what their entries say, and that what is sent has a text.
use Rattle.std.specs.Prelude.{◌≡◌, ℕ, ◌+◌, ◌<◌, ◌≤◌, List, [], ◌∷◌, ◌++◌, length, map, take, drop, Ok}
use Rattle.std.specs.List.{AllByRecursion}
use Rattle.cb_frames.specs.declared.frame.TheConstants.{LAST_NUMBER, MOST_RANGES}
use Rattle.cb_frames.specs.declared.frame.Range.{Range}
use Rattle.cb_frames.specs.Fields.{Load, payloads_of, CastFields, StatusFields, FrameFields, Carried, CastFrame, StatusFrame, RequestFrame}
use Rattle.cb_frames.specs.Text.{IsLoad, KeepsLoadRules, text_of}
use Rattle.cb_history.specs.Read.{frame_read}
use Rattle.cb_frames.specs.Laws.{CanBeWritten}
use Rattle.cb_times.specs.declared.name.Name.{Name}
use Rattle.cb_history.specs.Group.{Identity}
use Rattle.cb_history.specs.Facts.{EntryFields, CastEntry, ArriveEntry, TickEntry, Fact, said_by, facts_of}
use Rattle.cb_history.specs.View.{view}
use Rattle.cb_history.specs.Known.{missing, ranges_of}
use Rattle.cb_history.specs.Answers.{delivered, next_cast, status_of}
use Rattle.cb_history.specs.Legal.{longest_history, Call, OfBytes, history_after, IsLegal}
use Rattle.cb_history.specs.LegalFacts.{AreFactsOf, IsStep}

-- the entries before any place of a legal history are a legal history
abbrev pub PrefixIsLegal : Type 0
PrefixIsLegal = (seat : Identity) (entries more : List EntryFields) → IsLegal seat (entries ++ more) → IsLegal seat entries

-- the facts before any place of legal facts are legal facts
abbrev pub PrefixOfFactsIsLegal : Type 0
PrefixOfFactsIsLegal = (seat : Identity) (facts more : List Fact) → AreFactsOf seat (facts ++ more) → AreFactsOf seat facts

-- the last of legal facts is a step from those before it
abbrev pub LastFactIsAStep : Type 0
LastFactIsAStep = (seat : Identity) (facts : List Fact) (f : Fact) → AreFactsOf seat (facts ++ f ∷ []) → IsStep seat facts f

-- a call of bytes keeps a history legal, whatever limit it is made with
abbrev pub CallsKeepLegal : Type 0
CallsKeepLegal =
    (seat : Identity) (limit : ℕ) (entries : List EntryFields) (call : Call) → limit ≤ longest_history → IsLegal seat entries → OfBytes call → IsLegal seat (history_after seat limit entries call)

-- the facts of a legal history are each a step from those before it
abbrev pub LegalHistoriesSayLegalFacts : Type 0
LegalHistoriesSayLegalFacts = (seat : Identity) (entries : List EntryFields) → IsLegal seat entries → AreFactsOf seat (facts_of entries)

-- every entry of a legal history says one fact, so there are as many facts as entries
abbrev pub EachEntrySaysOneFact : Type 0
EachEntrySaysOneFact = (seat : Identity) (entries : List EntryFields) → IsLegal seat entries → AllByRecursion (λ e. length (said_by e) ≡ 1) entries × (length (facts_of entries) ≡ length entries)

-- What the entry says by its kind, and that its bytes are the one text of it: an own cast, a received frame, an own status.
abbrev pub SaysItsText : EntryFields → Type 0
SaysItsText (CastEntry frame) = (c : CastFields) × (frame_read frame ≡ Ok (CastFrame c)) × (frame ≡ text_of (CastFrame c))
SaysItsText (ArriveEntry frame delivered) = (f : FrameFields) × (frame_read frame ≡ Ok f) × (frame ≡ text_of f)
SaysItsText (TickEntry status) = (s : StatusFields) × (frame_read status ≡ Ok (StatusFrame s)) × (status ≡ text_of (StatusFrame s))

-- so what is sent again has the bytes that were sent first
abbrev pub EntriesSayTheirTexts : Type 0
EntriesSayTheirTexts = (seat : Identity) (entries : List EntryFields) → IsLegal seat entries → AllByRecursion SaysItsText entries

abbrev pub name_of : Carried → Name
name_of m = record { sender = m.sender; number = m.number }

-- the names of an arrival's entry are those of the messages that the view has more by it
abbrev pub ArrivalsNameDeliveries : Type 0
ArrivalsNameDeliveries = (seat : Identity) (entries : List EntryFields) (frame : List ℕ) (delivered : List Name) → IsLegal seat (entries ++ ArriveEntry frame delivered ∷ [])
    → delivered ≡ map name_of (drop (length (view seat.group.size (facts_of entries))) (view seat.group.size (facts_of (entries ++ ArriveEntry frame delivered ∷ []))))

-- The next cast of a load that keeps the rules, where numbers are left for its messages, the status and each request for what is
-- missing have a text.
abbrev pub OwnFramesHaveTexts : Type 0
OwnFramesHaveTexts = (seat : Identity) (facts : List Fact) → AreFactsOf seat facts
    → ((load : Load) → KeepsLoadRules (delivered seat facts seat.me + 1) load → delivered seat facts seat.me + length (payloads_of load) ≤ LAST_NUMBER → IsLoad load
    → CanBeWritten (CastFrame (next_cast seat facts load)))
    × CanBeWritten (StatusFrame (status_of seat facts))
    × ((i : ℕ) (r : Range) (ranges : List Range) → i < seat.group.size → ranges_of (missing seat facts i) ≡ r ∷ ranges
    → CanBeWritten (RequestFrame (record { group = seat.group.number; requester = seat.me; asked = i; ranges = take MOST_RANGES (r ∷ ranges) })))
