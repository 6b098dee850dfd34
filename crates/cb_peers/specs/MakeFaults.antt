-- Why a link was not made: its text, and what an error of the system says.
use Rattle.std.specs.Prelude.{ℕ, ℤ, pos, ◌==◌, ◌||◌, if◌then◌else◌, List, Option, Some, codes}
use Rattle.std.specs.declared.io.ErrorKind.{ErrorKind}
use Rattle.std.specs.declared.io.ErrorKind.TheVariants as kinds
use Rattle.cb_peers.specs.declared.make_fault.MakeFault.{MakeFault}
use Rattle.cb_peers.specs.declared.make_fault.MakeFault.TheVariants as faults

abbrev pub make_fault_text : MakeFault → List ℕ
make_fault_text faults.BadMember = codes "BadMember"
make_fault_text faults.BadAddresses = codes "BadAddresses"
make_fault_text faults.AddressInUse = codes "AddressInUse"
make_fault_text faults.NoRoute = codes "NoRoute"
make_fault_text faults.TooManyFiles = codes "TooManyFiles"
make_fault_text faults.Denied = codes "Denied"
make_fault_text faults.NoMemory = codes "NoMemory"
make_fault_text faults.Device = codes "Device"

-- the kinds of error that say why
abbrev pub fault_of_kind : ErrorKind → MakeFault
fault_of_kind kinds.AddrInUse = faults.AddressInUse
fault_of_kind kinds.AddrNotAvailable = faults.NoRoute
fault_of_kind kinds.NetworkUnreachable = faults.NoRoute
fault_of_kind kinds.HostUnreachable = faults.NoRoute
fault_of_kind kinds.NetworkDown = faults.NoRoute
fault_of_kind kinds.PermissionDenied = faults.Denied
fault_of_kind kinds.OutOfMemory = faults.NoMemory
fault_of_kind _ = faults.Device

-- The numbers of the system for no descriptor left, in the process and in all, have no kind.
abbrev pub fault_of_error : Option ℤ → ErrorKind → MakeFault
fault_of_error (Some (pos number)) kind = if (number == 24) || (number == 23) then faults.TooManyFiles else fault_of_kind kind
fault_of_error _ kind = fault_of_kind kind
