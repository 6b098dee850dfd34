use Rattle.std.proofs.Common.{◌≡◌, ℕ, [], length, Some}
use Rattle.std.specs.Prelude.{slice_get}
use Rattle.cb_history.specs.State.{MemberState}
use Rattle.cb_world.proofs.world.members_of.Given as goal

-- the members so far, each without entries
abbrev pub invariant-loop-me : goal.invariant-loop-me
invariant-loop-me l = record {
  many : length l.members.items ≡ l.me;
  new : (i : ℕ) (m : MemberState) → slice_get l.members.items i ≡ Some m → m ≡ record { seat = record { group = l.group; me = i }; limit = l.limit; entries = [] };
}
