use Rattle.cb_rooms.proofs.Decoding.{one_payload, one_line, read_is_payload, payload_is_read}
use Rattle.cb_rooms.proofs.laws.one_payload.Goals as goal

pub returns-clause-payload : goal.returns-clause-payload
returns-clause-payload c = one_payload

pub returns-clause-line : goal.returns-clause-line
returns-clause-line c = one_line

pub returns-clause-reading : goal.returns-clause-reading
returns-clause-reading c bytes line fits = (read_is_payload bytes line fits, payload_is_read line bytes)
