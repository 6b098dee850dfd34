use Rattle.std.proofs.Common.{◌≡◌}
use Rattle.std.specs.Prelude.{flat_map, string_bytes}
use Rattle.cb_rooms.proofs.conference.joined.Given as goal

abbrev pub invariant-loop-line : goal.invariant-loop-line
invariant-loop-line l = string_bytes l.text ≡ flat_map (λ line. string_bytes line.now) l.yielded
