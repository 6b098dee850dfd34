-- Why there is no cast, and which refusal tells it.
use Rattle.std.specs.Prelude.{◌≡◌, Option, Some, None, MatchOption, Result, Err}
use Rattle.cb_history.specs.declared.answer.CastRefusal.{CastRefusal}
use Rattle.cb_history.specs.declared.answer.CastRefusal.TheVariants as casts
use Rattle.cb_history.specs.declared.answer.BurstRefusal.{BurstRefusal}
use Rattle.cb_history.specs.declared.answer.BurstRefusal.TheVariants as bursts

pub data CastFault : Type 0 where
  EmptyBurst : CastFault
  BurstTooLong : CastFault
  PayloadTooLong : CastFault
  WindowFull : CastFault
  HistoryFull : CastFault

-- the fault that the refusal of a cast tells; want of memory is none
abbrev pub fault_told : CastRefusal → Option CastFault
fault_told casts.PayloadTooLong = Some PayloadTooLong
fault_told casts.WindowFull = Some WindowFull
fault_told casts.HistoryFull = Some HistoryFull
fault_told casts.NoMemory = None

-- and that of a burst
abbrev pub burst_fault_told : BurstRefusal → Option CastFault
burst_fault_told bursts.EmptyBurst = Some EmptyBurst
burst_fault_told bursts.BurstTooLong = Some BurstTooLong
burst_fault_told bursts.PayloadTooLong = Some PayloadTooLong
burst_fault_told bursts.WindowFull = Some WindowFull
burst_fault_told bursts.HistoryFull = Some HistoryFull
burst_fault_told bursts.NoMemory = None

-- the answer is this fault
abbrev pub IsFault : {A : Type 0} → Option CastFault → Result A CastFault → Type 0
IsFault told answer = MatchOption told ⊥ (λ fault. answer ≡ Err fault)

-- the answer is the fault that this refusal tells
abbrev pub TellsFaultOf : {A : Type 0} → CastRefusal → Result A CastFault → Type 0
TellsFaultOf refusal answer = IsFault (fault_told refusal) answer

abbrev pub TellsBurstFaultOf : {A : Type 0} → BurstRefusal → Result A CastFault → Type 0
TellsBurstFaultOf refusal answer = IsFault (burst_fault_told refusal) answer
