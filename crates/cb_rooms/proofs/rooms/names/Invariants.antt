use Rattle.std.proofs.Common.{◌≡◌, map}
use Rattle.std.specs.Prelude.{string_bytes}
use Rattle.cb_rooms.proofs.rooms.names.Given as goal

abbrev pub invariant-loop-room : goal.invariant-loop-room
invariant-loop-room l = map (λ name. name.now) l.names.items ≡ map string_bytes (map (λ room. room.now) l.yielded)
