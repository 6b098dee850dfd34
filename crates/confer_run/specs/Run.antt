-- What `confer run` prints of the histories of a conference in threads, and where it stops.
use Rattle.std.specs.Prelude.{◌≡◌, ◌≢◌, ℕ, suc, Bool, true, false, List, [], ◌∷◌, ◌++◌, All, codes, map, Option, Some, None}
use Rattle.std.specs.Io.KnownBytes.{Appends}
use Rattle.cb_history.specs.Group.{Parameters}
use Rattle.cb_lock.specs.declared.closing.CloseFault.{CloseFault}
use Rattle.cb_lock.specs.declared.closing.CloseFault.TheVariants as closings
use Rattle.cb_threads.specs.declared.group.GroupFault.{GroupFault}
use Rattle.cb_threads.specs.declared.group.GroupFault.TheVariants as groups
use Rattle.cb_links.specs.declared.link.LinkFault.{LinkFault}
use Rattle.cb_links.specs.declared.link.LinkFault.TheVariants as devices
use Rattle.cb_threads.specs.declared.report.WorkerFault.{WorkerFault}
use Rattle.cb_threads.specs.declared.report.WorkerFault.TheVariants as workers
use Rattle.cb_threads.specs.declared.report.MemberReport.{MemberReport}
use Rattle.cb_threads.specs.declared.report.Tally.{Tally}
use Rattle.cb_links.specs.declared.channel.ChannelInlet.{ChannelInlet}
use Rattle.cb_links.specs.declared.channel.ChannelOutlet.{ChannelOutlet}
use Rattle.cb_links.specs.declared.tcp.TcpInlet.{TcpInlet}
use Rattle.cb_links.specs.declared.tcp.TcpOutlet.{TcpOutlet}
use Rattle.std.specs.declared.net.tcp.TcpStream.{TcpStream}
use Rattle.cb_links.specs.declared.udp.UdpInlet.{UdpInlet}
use Rattle.cb_links.specs.declared.udp.UdpOutlet.{UdpOutlet}
use Rattle.cb_threads.specs.Groups.{tally_in}
use Rattle.cb_threads.specs.Reports.{EachHandsBack, IsTally}
use Rattle.cb_world.specs.World.{WorldState}
use Rattle.cb_trace.specs.declared.fault.AuditFault.{AuditFault}
use Rattle.cb_trace.specs.Text.{HistoryFields}
use Rattle.cb_trace.specs.Bounds.{IsTextOf}
use Rattle.cb_trace.specs.declared.fault.AuditFault.TheVariants as audits
use Rattle.cb_trace.specs.FaultText.{audit_fault_text}
use Rattle.cb_trace.specs.Auditing.{IsAudited, AreLegalHistories, SaysFault}
use Rattle.confer_run.specs.declared.fault.RunFault.{RunFault}
use Rattle.confer_run.specs.declared.fault.RunFault.TheVariants as faults
use Rattle.confer_run.specs.declared.fault.ThreadFault.{ThreadFault}
use Rattle.confer_run.specs.declared.fault.ThreadFault.TheVariants as threads
use Rattle.confer_run.specs.declared.participant.Participant.{Participant}
use Rattle.cb_threads.specs.declared.pace.Every.{Every}
use Rattle.confer_run.specs.declared.setting.LinkKind.{LinkKind}
use Rattle.confer_run.specs.declared.setting.LinkKind.TheVariants as links
use Rattle.confer_run.specs.declared.setting.RunSetting.{RunSetting}
use Rattle.confer_text.specs.Texts.{parameter_text}
use Rattle.confer_text.specs.Streams.{WritesPart}

-- the group of a conference
abbrev pub group_of : RunSetting → Parameters
group_of setting = record { number = 7; size = setting.size; window = setting.window }

-- what became of a member of a conference, over a link with these ends
abbrev pub Report : Type 0 → Type 0 → Type 0
Report I O = MemberReport I O Every Participant

-- ---- the members' lines

-- what a member did
unfoldable pub done_text : ℕ → Tally → List ℕ
done_text me tally =
    parameter_text (codes "member ") me ++ parameter_text (codes " casts ") tally.casts
    ++ parameter_text (codes " deliveries ") tally.deliveries ++ parameter_text (codes " entries ") tally.entries

-- its line, with the frames that were lost and the answers that were shown before their question
unfoldable pub member_line : ℕ → Tally → ℕ → ℕ → List ℕ
member_line me tally lost orphans =
    done_text me tally ++ parameter_text (codes " lost ") lost ++ parameter_text (codes " orphans ") orphans ++ codes "\n"

-- the answers that a participant was shown before their question
abbrev pub orphans_of : Option Participant → ℕ
orphans_of (Some participant) = participant.orphans
orphans_of None = 0

-- the line of a member's report
abbrev pub report_line : {I O : Type 0} → ℕ → Report I O → List ℕ
report_line me report = member_line me (tally_in report) report.lost (orphans_of report.talker)

-- a line for each report, of the members from this one on
abbrev pub report_lines : {I O : Type 0} → ℕ → List (Report I O) → List ℕ
report_lines me [] = []
report_lines me (report ∷ reports) = report_line me report ++ report_lines (suc me) reports

-- the counts of each history
abbrev pub AreCounts : List HistoryFields → List Tally → Type 0
AreCounts [] [] = Unit {0}
AreCounts [] (tally ∷ tallies) = ⊥
AreCounts (h ∷ histories) [] = ⊥
AreCounts (h ∷ histories) (tally ∷ tallies) = IsTally h.entries tally × AreCounts histories tallies

-- no worker of these members failed to run
abbrev pub EachRan : {I O : Type 0} → List (Report I O) → Type 0
EachRan reports = All (λ report. report.fault ≡ None) reports

-- ---- the last line

-- what the audit of the histories said
abbrev pub IsAuditLine : List HistoryFields → Bool → List ℕ → Type 0
IsAuditLine histories false line = (line ≡ codes "audit yes\n") × ((w : WorldState) × IsAudited histories w)
IsAuditLine histories true line =
    (refusal : AuditFault) × SaysFault histories refusal × (refusal ≢ audits.NoMemory) × (line ≡ codes "audit no " ++ (audit_fault_text refusal ++ codes "\n"))

-- behind these lines
pub record EndsWithAudit (lines : List ℕ) (histories : List HistoryFields) (refused : Bool) (text : List ℕ) : Type 0 where
  pub last : List ℕ
  pub parts : text ≡ lines ++ last
  pub said : IsAuditLine histories refused last

-- ---- all of it

-- the trace of the histories, which nothing refuses
abbrev pub IsTraceText : List HistoryFields → Bool → List ℕ → Type 0
IsTraceText histories refused text = (refused ≡ false) × IsTextOf histories text

-- the trace of the histories; or, where none is asked for, these lines and what the audit of the histories said
abbrev pub Shows : Bool → List ℕ → List HistoryFields → Bool → List ℕ → Type 0
Shows true lines histories refused text = IsTraceText histories refused text
Shows false lines histories refused text = EndsWithAudit lines histories refused text

-- Each member has a report with the counts of its history, which is legal, and with all parts that it ran with: all workers of each ran.
-- The lines are those of the reports.
pub record ShowsReports {I O : Type 0} (setting : RunSetting) (reports : List (Report I O)) (refused : Bool) (text : List ℕ) : Type 0 where
  pub histories : List HistoryFields
  pub legal : AreLegalHistories (group_of setting) histories
  pub counts : AreCounts histories (map tally_in reports)
  pub ran : EachRan reports
  pub parts : EachHandsBack reports
  pub shows : Shows setting.trace (report_lines 0 reports) histories refused text

-- so of the members that ran over these links
abbrev pub ShowsOver : {I O : Type 0} → List (I × O) → RunSetting → Bool → List ℕ → Type 0
ShowsOver {I} {O} links setting refused text = (reports : List (Report I O)) × ShowsReports setting reports refused text

-- and over links of this kind
abbrev pub ShowsBy : LinkKind → RunSetting → Bool → List ℕ → Type 0
ShowsBy links.Channel setting refused text = (reports : List (Report ChannelInlet ChannelOutlet)) × ShowsReports setting reports refused text
ShowsBy links.Udp setting refused text = (reports : List (Report UdpInlet UdpOutlet)) × ShowsReports setting reports refused text
ShowsBy links.Tcp setting refused text = (reports : List (Report (TcpInlet TcpStream) (TcpOutlet TcpStream))) × ShowsReports setting reports refused text

abbrev pub ShowsRun : RunSetting → Bool → List ℕ → Type 0
ShowsRun setting refused text = ShowsBy setting.link setting refused text

-- which was written
pub record PrintsRun (setting : RunSetting) (refused : Bool) (before now : Option (List ℕ)) : Type 0 where
  pub text : List ℕ
  pub written : Appends before now text
  pub shown : ShowsRun setting refused text

-- ---- which fault it stops by

-- the fault of a run for one of its links, of a worker, and of closing a shared member: whatever is wrong with receipts is the same to a run
abbrev pub fault_of_link : LinkFault → ThreadFault
fault_of_link devices.Device = threads.NoLink
fault_of_link devices.NoMemory = threads.NoMemory

abbrev pub fault_of_worker : WorkerFault → ThreadFault
fault_of_worker workers.NoThread = threads.NoThread
fault_of_worker workers.NoMemory = threads.NoMemory

abbrev pub fault_of_closing : CloseFault → ThreadFault
fault_of_closing closings.NoMemory = threads.NoMemory
fault_of_closing (closings.SeatsMissing claimed entries) = threads.BadReceipts
fault_of_closing closings.OtherMember = threads.BadReceipts
fault_of_closing (closings.ReceiptMismatch place) = threads.BadReceipts

-- that of a group: the plan of a run is never bad
abbrev pub IsFaultOfGroup : GroupFault → ThreadFault → Type 0
IsFaultOfGroup groups.BadPlan fault = ⊥
IsFaultOfGroup groups.NoThread fault = fault ≡ threads.NoThread
IsFaultOfGroup groups.NoMemory fault = fault ≡ threads.NoMemory
IsFaultOfGroup (groups.Close member refusal) fault = fault ≡ fault_of_closing refusal

-- ---- where it stops

-- a beginning of such a text was written
pub record PrintsPart (setting : RunSetting) (before now : Option (List ℕ)) : Type 0 where
  pub refused : Bool
  pub text : List ℕ
  pub shown : ShowsRun setting refused text
  pub part : WritesPart before now text

-- what stands written where a conference stops by this fault: nothing, unless its text was being written
abbrev pub StopsRun : RunSetting → RunFault → Option (List ℕ) → Option (List ℕ) → Type 0
StopsRun setting faults.Write before now = PrintsPart setting before now
StopsRun setting (faults.Threads fault) before now = now ≡ before
