-- How a fault of a member's calls is printed: by its name.
use Rattle.std.specs.Prelude.{ℕ, List, ◌++◌, codes}
use Rattle.cb_frames.specs.FaultText.{fault_text}
use Rattle.cb_history.specs.declared.answer.NewFault.{NewFault}
use Rattle.cb_history.specs.declared.answer.NewFault.TheVariants as news
use Rattle.cb_history.specs.declared.answer.CastRefusal.{CastRefusal}
use Rattle.cb_history.specs.declared.answer.CastRefusal.TheVariants as casts
use Rattle.cb_history.specs.declared.answer.BurstRefusal.{BurstRefusal}
use Rattle.cb_history.specs.declared.answer.BurstRefusal.TheVariants as bursts
use Rattle.cb_history.specs.declared.answer.ArriveRefusal.{ArriveRefusal}
use Rattle.cb_history.specs.declared.answer.ArriveRefusal.TheVariants as arrivals
use Rattle.cb_history.specs.declared.answer.TickRefusal.{TickRefusal}
use Rattle.cb_history.specs.declared.answer.TickRefusal.TheVariants as ticks
use Rattle.cb_history.specs.declared.answer.MissingFault.{MissingFault}
use Rattle.cb_history.specs.declared.answer.MissingFault.TheVariants as missings
use Rattle.cb_history.specs.declared.answer.HelpFault.{HelpFault}
use Rattle.cb_history.specs.declared.answer.HelpFault.TheVariants as helps

abbrev pub new_fault_text : NewFault → List ℕ
new_fault_text news.BadMember = codes "BadMember"
new_fault_text news.BadLimit = codes "BadLimit"
new_fault_text news.NoMemory = codes "NoMemory"

abbrev pub cast_refusal_text : CastRefusal → List ℕ
cast_refusal_text casts.PayloadTooLong = codes "PayloadTooLong"
cast_refusal_text casts.WindowFull = codes "WindowFull"
cast_refusal_text casts.HistoryFull = codes "HistoryFull"
cast_refusal_text casts.NoMemory = codes "NoMemory"

abbrev pub burst_refusal_text : BurstRefusal → List ℕ
burst_refusal_text bursts.EmptyBurst = codes "EmptyBurst"
burst_refusal_text bursts.BurstTooLong = codes "BurstTooLong"
burst_refusal_text bursts.PayloadTooLong = codes "PayloadTooLong"
burst_refusal_text bursts.WindowFull = codes "WindowFull"
burst_refusal_text bursts.HistoryFull = codes "HistoryFull"
burst_refusal_text bursts.NoMemory = codes "NoMemory"

abbrev pub arrive_refusal_text : ArriveRefusal → List ℕ
arrive_refusal_text (arrivals.Malformed fault) = codes "Malformed(" ++ fault_text fault ++ codes ")"
arrive_refusal_text arrivals.OtherGroup = codes "OtherGroup"
arrive_refusal_text arrivals.BadMember = codes "BadMember"
arrive_refusal_text arrivals.Impossible = codes "Impossible"
arrive_refusal_text arrivals.Overlap = codes "Overlap"
arrive_refusal_text arrivals.TooFar = codes "TooFar"
arrive_refusal_text arrivals.HistoryFull = codes "HistoryFull"
arrive_refusal_text arrivals.NoMemory = codes "NoMemory"

abbrev pub tick_refusal_text : TickRefusal → List ℕ
tick_refusal_text ticks.HistoryFull = codes "HistoryFull"
tick_refusal_text ticks.NoMemory = codes "NoMemory"

abbrev pub missing_fault_text : MissingFault → List ℕ
missing_fault_text missings.BadMember = codes "BadMember"
missing_fault_text missings.NoMemory = codes "NoMemory"

abbrev pub help_fault_text : HelpFault → List ℕ
help_fault_text helps.BadMember = codes "BadMember"
help_fault_text helps.NoMemory = codes "NoMemory"
