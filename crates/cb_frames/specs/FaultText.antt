-- How a fault is printed: by its name.
use Rattle.std.specs.Prelude.{ℕ, List, ◌++◌, codes}
use Rattle.cb_frames.specs.declared.fault.FrameFault.{FrameFault}
use Rattle.cb_frames.specs.declared.fault.FrameFault.TheVariants as faults
use Rattle.cb_frames.specs.declared.fault.StreamFault.{StreamFault}
use Rattle.cb_frames.specs.declared.fault.StreamFault.TheVariants as streams
use Rattle.cb_frames.specs.declared.fault.EncodeFault.{EncodeFault}
use Rattle.cb_frames.specs.declared.fault.EncodeFault.TheVariants as encodes

abbrev pub fault_text : FrameFault → List ℕ
fault_text faults.Short = codes "Short"
fault_text faults.UnknownKind = codes "UnknownKind"
fault_text faults.NotMinimal = codes "NotMinimal"
fault_text faults.TooLarge = codes "TooLarge"
fault_text faults.BadIndex = codes "BadIndex"
fault_text faults.ZeroNumber = codes "ZeroNumber"
fault_text faults.ZeroDifference = codes "ZeroDifference"
fault_text faults.OwnField = codes "OwnField"
fault_text faults.BadRange = codes "BadRange"
fault_text faults.EmptyBurst = codes "EmptyBurst"
fault_text faults.BurstTooLong = codes "BurstTooLong"
fault_text faults.PayloadTooLong = codes "PayloadTooLong"
fault_text faults.Trailing = codes "Trailing"
fault_text faults.NoMemory = codes "NoMemory"

abbrev pub stream_fault_text : StreamFault → List ℕ
stream_fault_text streams.BadLength = codes "BadLength"
stream_fault_text (streams.BadFrame fault) = codes "BadFrame(" ++ fault_text fault ++ codes ")"
stream_fault_text streams.NoMemory = codes "NoMemory"

abbrev pub encode_fault_text : EncodeFault → List ℕ
encode_fault_text encodes.PayloadTooLong = codes "PayloadTooLong"
encode_fault_text encodes.BadField = codes "BadField"
encode_fault_text encodes.NoMemory = codes "NoMemory"
