use Rattle.std.proofs.Common.{◌≡◌, ◌∙◌, arith, List, ℕ, ◌<◌, Option, Some, None, get_or, sym}
use Rattle.std.specs.Prelude.{IfSome, option_map}
use Rattle.cb_rooms.specs.declared.line.Line.{Line}
use Rattle.cb_rooms.specs.Line.{fields_of, IsPayload}
use Rattle.cb_rooms.specs.Reading.{line_at}
use Rattle.cb_rooms.proofs.Decoding.{read_is_payload, payload_is_read}
use Rattle.cb_rooms.proofs.line.Line.read.Goals as goal

read_right : (bytes : List ℕ) (result : Option Line) → ((i : ℕ) → get_or bytes i 0 < 256) → option_map fields_of result ≡ line_at bytes
    → IfSome result (λ line. IsPayload (fields_of line) bytes)
read_right bytes None fits e = tt
read_right bytes (Some line) fits e = read_is_payload bytes (fields_of line) fits (sym e)

pub returns-clause-payload : goal.returns-clause-payload
returns-clause-payload c = read_right c.args.payload.now c.line.result (λ i. omega (arith, c.type_inv.payload i)) c.line.ensures

pub returns-clause-found : goal.returns-clause-found
returns-clause-found c line p = c.line.ensures ∙ payload_is_read line c.args.payload.now p
