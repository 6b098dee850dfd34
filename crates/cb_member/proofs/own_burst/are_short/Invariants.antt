use Rattle.std.proofs.Common.{◌≡◌, ◌+◌, length, drop}
use Rattle.std.specs.List.{concat}
use Rattle.cb_frames.specs.declared.frame.TheConstants.{LONGEST_PAYLOAD}
use Rattle.cb_frames.specs.Laws.{IsBytes}
use Rattle.cb_member.proofs.Bursting.{lent}
use Rattle.cb_member.proofs.own_burst.are_short.Given as goal

-- what is used up are the bytes so far, and these are bytes
abbrev pub invariant-loop-payload : goal.invariant-loop-payload
invariant-loop-payload l = record {
  used : length (concat (lent l.payloads)) + l.room ≡ LONGEST_PAYLOAD + length (concat (lent (drop l.payload-index l.payloads)));
  bytes : IsBytes (concat (lent (drop l.payload-index l.payloads))) → IsBytes (concat (lent l.payloads));
}
