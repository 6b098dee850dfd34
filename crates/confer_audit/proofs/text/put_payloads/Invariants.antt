use Rattle.std.proofs.Common.{◌≡◌, ◌++◌, drop}
use Rattle.std.specs.List.{flat_map}
use Rattle.confer_audit.specs.Audit.{payload_word}
use Rattle.confer_audit.proofs.text.put_payloads.Given as goal

abbrev pub invariant-loop-payload : goal.invariant-loop-payload
invariant-loop-payload l =
    l.out.items ++ flat_map payload_word (drop l.payload-index l.payloads)
    ≡ l.fn.out.items ++ flat_map payload_word l.payloads
