-- The code of each refusal.
use Rattle.std.specs.Prelude.{ℕ, Result, Ok, Err}
use Rattle.cb_frames.specs.declared.fault.FrameFault.{FrameFault}
use Rattle.cb_frames.specs.declared.fault.FrameFault.TheVariants as frames
use Rattle.cb_history.specs.declared.answer.NewFault.TheVariants as news
use Rattle.cb_history.specs.declared.answer.CastRefusal.{CastRefusal}
use Rattle.cb_history.specs.declared.answer.CastRefusal.TheVariants as casts
use Rattle.cb_history.specs.declared.answer.BurstRefusal.{BurstRefusal}
use Rattle.cb_history.specs.declared.answer.BurstRefusal.TheVariants as bursts
use Rattle.cb_history.specs.declared.answer.ArriveRefusal.{ArriveRefusal}
use Rattle.cb_history.specs.declared.answer.ArriveRefusal.TheVariants as arrivals
use Rattle.cb_history.specs.declared.answer.TickRefusal.{TickRefusal}
use Rattle.cb_history.specs.declared.answer.TickRefusal.TheVariants as ticks
use Rattle.cb_history.specs.declared.answer.HelpFault.{HelpFault}
use Rattle.cb_history.specs.declared.answer.HelpFault.TheVariants as helps
use Rattle.cb_history.specs.declared.answer.MissingFault.{MissingFault}
use Rattle.cb_history.specs.declared.answer.MissingFault.TheVariants as missings
use Rattle.cb_handle.specs.declared.held.LoadedRefusal.{LoadedRefusal}
use Rattle.cb_handle.specs.declared.held.LoadedRefusal.TheVariants as loadeds
use Rattle.cb_handle.specs.declared.held.NoneThere.{NoneThere}
use Rattle.cb_handle.specs.declared.held.OpenFault.{OpenFault}
use Rattle.cb_handle.specs.declared.held.OpenFault.TheVariants as opens
use Rattle.cb_handle.specs.declared.held.PayloadsRefusal.{PayloadsRefusal}
use Rattle.cb_handle.specs.declared.held.PayloadsRefusal.TheVariants as payloads
use Rattle.cb_handle_journal.specs.declared.fault.LineRefusal.{LineRefusal}
use Rattle.cb_handle_journal.specs.declared.fault.LineRefusal.TheVariants as lines
use Rattle.cb_handle_journal.specs.declared.fault.ResumeFault.{ResumeFault}
use Rattle.cb_handle_journal.specs.declared.fault.ResumeFault.TheVariants as resumes
use Rattle.jolunza.specs.declared.code.TheConstants.{DONE, NO_MEMORY, BAD_GROUP, BAD_MEMBER, BAD_LIMIT, PAYLOAD_TOO_LONG, WINDOW_FULL, HISTORY_FULL, OTHER_GROUP, IMPOSSIBLE, TOO_FAR, MALFORMED, NONE_THERE, OVERLAP, EMPTY_BURST, BURST_TOO_LONG, NO_HEAD, BAD_LINE, TOO_LONG, NOT_LEGAL}

abbrev pub open_code : OpenFault → ℕ
open_code opens.BadGroup = BAD_GROUP
open_code (opens.BadNew news.BadMember) = BAD_MEMBER
open_code (opens.BadNew news.BadLimit) = BAD_LIMIT
open_code (opens.BadNew news.NoMemory) = NO_MEMORY

abbrev pub cast_code : CastRefusal → ℕ
cast_code casts.PayloadTooLong = PAYLOAD_TOO_LONG
cast_code casts.WindowFull = WINDOW_FULL
cast_code casts.HistoryFull = HISTORY_FULL
cast_code casts.NoMemory = NO_MEMORY

abbrev pub burst_code : BurstRefusal → ℕ
burst_code bursts.EmptyBurst = EMPTY_BURST
burst_code bursts.BurstTooLong = BURST_TOO_LONG
burst_code bursts.PayloadTooLong = PAYLOAD_TOO_LONG
burst_code bursts.WindowFull = WINDOW_FULL
burst_code bursts.HistoryFull = HISTORY_FULL
burst_code bursts.NoMemory = NO_MEMORY

abbrev pub payloads_code : PayloadsRefusal → ℕ
payloads_code payloads.NotThere = NONE_THERE
payloads_code (payloads.Refused refusal) = burst_code refusal

-- of bytes that are read for their sender alone
abbrev pub frame_code : FrameFault → ℕ
frame_code frames.NoMemory = NO_MEMORY
frame_code fault = MALFORMED

abbrev pub arrive_code : ArriveRefusal → ℕ
arrive_code (arrivals.Malformed fault) = MALFORMED
arrive_code arrivals.OtherGroup = OTHER_GROUP
arrive_code arrivals.BadMember = BAD_MEMBER
arrive_code arrivals.Impossible = IMPOSSIBLE
arrive_code arrivals.Overlap = OVERLAP
arrive_code arrivals.TooFar = TOO_FAR
arrive_code arrivals.HistoryFull = HISTORY_FULL
arrive_code arrivals.NoMemory = NO_MEMORY

abbrev pub loaded_code : LoadedRefusal → ℕ
loaded_code loadeds.NotLoaded = NONE_THERE
loaded_code (loadeds.Refused refusal) = arrive_code refusal

abbrev pub tick_code : TickRefusal → ℕ
tick_code ticks.HistoryFull = HISTORY_FULL
tick_code ticks.NoMemory = NO_MEMORY

abbrev pub help_code : HelpFault → ℕ
help_code helps.BadMember = BAD_MEMBER
help_code helps.NoMemory = NO_MEMORY

abbrev pub missing_code : MissingFault → ℕ
missing_code missings.BadMember = BAD_MEMBER
missing_code missings.NoMemory = NO_MEMORY

abbrev pub reading_code : NoneThere → ℕ
reading_code fault = NONE_THERE

abbrev pub resume_code : ResumeFault → ℕ
resume_code resumes.NoHead = NO_HEAD
resume_code (resumes.BadLine line) = BAD_LINE
resume_code resumes.BadLimit = BAD_LIMIT
resume_code resumes.TooLong = TOO_LONG
resume_code (resumes.NotLegal line) = NOT_LEGAL
resume_code resumes.NoMemory = NO_MEMORY

abbrev pub line_code : LineRefusal → ℕ
line_code lines.NoneThere = NONE_THERE
line_code lines.NoMemory = NO_MEMORY

-- what is answered where nothing is told but that it is done
abbrev pub answer_code : {R : Type 0} → (R → ℕ) → Result (Unit {0}) R → ℕ
answer_code code_of (Ok done) = DONE
answer_code code_of (Err refusal) = code_of refusal
