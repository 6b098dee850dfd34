use Rattle.std.proofs.Common.{◌≡◌, ◌++◌, drop, map}
use Rattle.cb_remote.specs.Offering.{end_of}
use Rattle.cb_remote.proofs.ends.Ends.new.Given as goal

-- with the ends to come they are all
abbrev pub invariant-loop-address : goal.invariant-loop-address
invariant-loop-address l = l.to.items ++ map end_of (drop l.address-index l.others) ≡ map end_of l.others
