-- What a run did, by its exit status.
use Rattle.std.specs.Prelude.{◌≡◌, ℕ, Bool, false, List, ◌⊎◌, Option, IfSome, if◌then◌else◌}
use Rattle.std.specs.Io.KnownBytes.{Appends}
use Rattle.clap.specs.Words.{Text}
use Rattle.confer.specs.declared.cli.fault.Fault.{Fault}
use Rattle.confer.specs.declared.cli.fault.Fault.TheVariants as faults
use Rattle.confer_run.specs.declared.setting.RunSetting.{RunSetting}
use Rattle.confer_expand.specs.Lines.{output_of, is_refused}
use Rattle.confer_expand.specs.Runs.{Stops}
use Rattle.confer_text.specs.Streams.{WritesPart}
use Rattle.confer_text.specs.Streams.{IsWithinLimit}
use Rattle.confer_play.specs.ScriptText.{WritesRun}
use Rattle.confer_play.specs.Play.{StopsPlaying}
use Rattle.confer_audit.specs.Audit.{Answers, StopsAuditing}
use Rattle.confer_run.specs.Run.{PrintsRun, StopsRun}
use Rattle.confer_run.specs.declared.fault.RunFault.{RunFault}
use Rattle.confer.specs.declared.cli.run.Carried.{Carried}
use Rattle.confer.specs.declared.cli.run.Carried.TheVariants as carried
use Rattle.confer.specs.Cli.Orders.{OrdersExpand, OrdersPlay, OrdersAudit, OrdersRun, RefusesWords}
use Rattle.confer.specs.Cli.Statuses.{status_of, said_of, run_status, run_said}

-- the words order an expansion, and the whole input was expanded
pub record Expanded (words : List Text) (refused : Bool) (input before now : Option (List ℕ)) : Type 0 where
  pub group : ℕ
  pub size : ℕ
  pub ordered : OrdersExpand words group size
  pub text : IfSome input (λ bytes. Appends before now (output_of group size bytes))
  pub refusal : IfSome input (λ bytes. refused ≡ is_refused group size bytes)

-- the words order a script to be run, which no run refuses; the script was within the limit, and the text of its run was written
pub record Played (words : List Text) (refused : Bool) (input before now : Option (List ℕ)) : Type 0 where
  pub ordered : OrdersPlay words
  pub refusal : refused ≡ false
  pub limit : IsWithinLimit input
  pub written : WritesRun input before now

-- the words order an audit; the trace was within the limit, and the answer was written
pub record Audited (words : List Text) (refused : Bool) (input before now : Option (List ℕ)) : Type 0 where
  pub ordered : OrdersAudit words
  pub answers : Answers refused input before now

abbrev pub Done : List Text → Bool → Option (List ℕ) → Option (List ℕ) → Option (List ℕ) → Type 0
Done words refused input before now =
    Expanded words refused input before now ⊎ Played words refused input before now ⊎ Audited words refused input before now

-- the words are refused, and nothing is read or written; or they order an expansion, a script to be run or an audit, which stops
abbrev pub StoppedBy : List Text → Fault → Option (List ℕ) → Option (List ℕ) → Option (List ℕ) → Option (List ℕ) → Type 0
StoppedBy words (faults.Lines fault) input left before now =
    (group size : ℕ) × OrdersExpand words group size × IfSome input (λ bytes. Stops group size bytes fault left before now)
StoppedBy words (faults.Play fault) input left before now = OrdersPlay words × StopsPlaying fault input before now
StoppedBy words (faults.Audit fault) input left before now = OrdersAudit words × StopsAuditing fault input before now
StoppedBy words fault input left before now = RefusesWords words fault × (left ≡ input) × (now ≡ before)

-- what the words order was done, or they order a conference in threads, and nothing was read or written
abbrev pub CarriesOut : List Text → Carried → Option (List ℕ) → Option (List ℕ) → Option (List ℕ) → Option (List ℕ) → Type 0
CarriesOut words (carried.Done refused) input left before now = Done words refused input before now
CarriesOut words (carried.LeftToThreads setting) input left before now = OrdersRun words setting × (left ≡ input) × (now ≡ before)

-- the words order a conference in threads; nothing is read, written or said
pub record LeavesToThreads (words : List Text) (input left before now silent said : Option (List ℕ)) : Type 0 where
  pub setting : RunSetting
  pub ordered : OrdersRun words setting
  pub unread : left ≡ input
  pub unwritten : now ≡ before
  pub unsaid : said ≡ silent

-- the run ends with status 0 or 1, and says nothing, or stops by a fault, which it says
abbrev pub Ends : List Text → ℕ → Option (List ℕ) → Option (List ℕ) → Option (List ℕ) → Option (List ℕ) → Option (List ℕ) → Option (List ℕ) → Type 0
Ends words status input left before now silent said =
    ((refused : Bool) × (status ≡ (if refused then 1 else 0)) × Done words refused input before now × (said ≡ silent))
    ⊎ ((fault : Fault) × (status ≡ status_of fault) × StoppedBy words fault input left before now
    × IfSome (said_of fault) (WritesPart silent said))

-- A conference in threads was run, audited and printed; or it stopped by a fault of its own, which is said, with what stands written then.
abbrev pub EndsRun : RunSetting → ℕ → Option (List ℕ) → Option (List ℕ) → Option (List ℕ) → Option (List ℕ) → Type 0
EndsRun setting status before now silent said =
    ((refused : Bool) × (status ≡ (if refused then 1 else 0)) × PrintsRun setting refused before now × (said ≡ silent))
    ⊎ ((fault : RunFault) × (status ≡ run_status fault) × StopsRun setting fault before now × WritesPart silent said (run_said fault))

-- the words order such a conference
pub record EndsRunning (words : List Text) (status : ℕ) (before now silent said : Option (List ℕ)) : Type 0 where
  pub setting : RunSetting
  pub ordered : OrdersRun words setting
  pub ended : EndsRun setting status before now silent said

-- any run: without threads, or with
abbrev pub EndsAny : List Text → ℕ → Option (List ℕ) → Option (List ℕ) → Option (List ℕ) → Option (List ℕ) → Option (List ℕ) → Option (List ℕ) → Type 0
EndsAny words status input left before now silent said =
    Ends words status input left before now silent said ⊎ (EndsRunning words status before now silent said × (left ≡ input))
