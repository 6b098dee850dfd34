-- What was answered before there were help frames, and what is answered now.
use Rattle.std.specs.Prelude.{◌≡◌, ◌≢◌, ℕ, ◌<◌, true, List, [], ◌∷◌, Ok}
use Rattle.cb_frames.specs.Fields.{Load, StatusFields, FrameFields, StatusFrame}
use Rattle.cb_frames.specs.Text.{help_kind}
use Rattle.cb_history.specs.Read.{frame_read}
use Rattle.cb_history.specs.Group.{Identity}
use Rattle.cb_history.specs.Facts.{EntryFields, Fact, facts_of}
use Rattle.cb_history.specs.Known.{acknowledged, stable}
use Rattle.cb_history.specs.Answers.{is_news, cast_answer, arrive_answer, tick_answer}
use Rattle.cb_history.specs.Legal.{IsLegal}
use Rattle.cb_history.specs.BeforeHelpers.{frame_before, facts_before, acknowledged_before, stable_before, cast_answer_before, is_news_before, arrive_answer_before, tick_answer_before, IsLegalBefore}

-- a history that was legal is legal
abbrev pub LegalBeforeIsLegal : Type 0
LegalBeforeIsLegal = (seat : Identity) (entries : List EntryFields) → IsLegalBefore seat entries → IsLegal seat entries

-- the bytes do not begin as a help frame
abbrev pub IsNoHelp : List ℕ → Type 0
IsNoHelp [] = Unit {0}
IsNoHelp (kind ∷ bytes) = kind ≢ help_kind

-- such bytes are read as they were, and what was a frame is the same one
abbrev pub ReadAsBefore : Type 0
ReadAsBefore = (bytes : List ℕ) → (IsNoHelp bytes → frame_read bytes ≡ frame_before bytes) × ((f : FrameFields) → frame_before bytes ≡ Ok f → frame_read bytes ≡ Ok f)

-- entries say what they said
abbrev pub FactsAsBefore : Type 0
FactsAsBefore = (entries : List EntryFields) → facts_of entries ≡ facts_before entries

-- as much of this member's casts is acknowledged and stable
abbrev pub StableAsBefore : Type 0
StableAsBefore = (seat : Identity) (facts : List Fact) → ((k : ℕ) → acknowledged seat facts k ≡ acknowledged_before seat facts k) × (stable seat facts ≡ stable_before seat facts)

-- so casts and ticks are answered as they were
abbrev pub CastsAsBefore : Type 0
CastsAsBefore = (seat : Identity) (limit : ℕ) (entries : List EntryFields) (load : Load) → cast_answer seat limit entries load ≡ cast_answer_before seat limit entries load

abbrev pub TicksAsBefore : Type 0
TicksAsBefore = (seat : Identity) (limit : ℕ) (entries : List EntryFields) → tick_answer seat limit entries ≡ tick_answer_before seat limit entries

-- a status that was news is news
abbrev pub NewsBeforeIsNews : Type 0
NewsBeforeIsNews = (seat : Identity) (facts : List Fact) (s : StatusFields) → seat.me < seat.group.size → is_news_before seat facts s ≡ true → is_news seat facts s ≡ true

-- and arrivals are answered as they were, but for help frames and for statuses that are news now and were not
abbrev pub ArrivalsAsBefore : Type 0
ArrivalsAsBefore = (seat : Identity) (limit : ℕ) (entries : List EntryFields) (bytes : List ℕ) → IsNoHelp bytes
    → ((s : StatusFields) → frame_read bytes ≡ Ok (StatusFrame s) → is_news seat (facts_of entries) s ≡ is_news_before seat (facts_of entries) s)
    → arrive_answer seat limit entries bytes ≡ arrive_answer_before seat limit entries bytes
