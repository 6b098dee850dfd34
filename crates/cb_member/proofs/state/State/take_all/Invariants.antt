use Rattle.cb_member.specs.Reception.{spares_of}
use Rattle.cb_member.specs.Taking.{IsTakingIn, OnlyTakesIn, TakesSoFar}
use Rattle.cb_member.proofs.state.State.take_all.Given as goal

-- a cast of the sender is taken in, and what was taken so far is held
abbrev pub invariant-messages : goal.invariant-messages
invariant-messages l = record {
  taking : IsTakingIn l.sender l.self;
  so_far : TakesSoFar l.sender l.fn.self l.self;
  only : OnlyTakesIn l.fn.self l.self;
}

-- each one that is taken had a spare
abbrev pub decreases-messages : goal.decreases-messages
decreases-messages l = spares_of l.sender l.self.reception
