use Rattle.std.proofs.Common.{◌≡◌, ◌≤◌, length, map}
use Rattle.cb_delay.specs.Index.{HasShape, Tells}
use Rattle.cb_delay.proofs.index.Index.place_the_stale.Given as goal

abbrev pub decreases-loop-sender : goal.decreases-loop-sender
decreases-loop-sender l = l.self.stale

abbrev pub invariant-loop-sender : goal.invariant-loop-sender
invariant-loop-sender l = record {
  shape : HasShape (length l.lists) l.self;
  placed : Tells (map (λ list. list.items) l.lists) l.self;
  last : l.self.last ≡ l.fn.self.last;
  counts : l.fn.self.looked ≤ l.self.looked;
}
