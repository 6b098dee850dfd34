use Rattle.std.proofs.Common.{◌≡◌, true, length, ap, sym, subst, arith}
use Rattle.std.proofs.lemmas.Grind.{common_steps}
use Rattle.cb_rooms.specs.Line.{fields_of, is_text, Says, payload_of}
use Rattle.cb_rooms.specs.Compose.{text_of}
use Rattle.cb_rooms.proofs.Payloads.{keeps, says}
use Rattle.cb_rooms.proofs.conference.Conference.compose.Goals as goal

pub returns-clause-payload : goal.returns-clause-payload
returns-clause-payload c =
    let line = fields_of c.args.line.now in
    let bytes = c.in_ok-payload.field-0.items in
    let visible : is_text (text_of line) ≡ true = grind (arith, common_steps) in
    let rules = keeps line (c.place_fault.ensures.placed c.in_default.is) visible in
    let is : bytes ≡ payload_of line = c.in_ok-payload.ensures in
    record {
      rules = rules;
      says = subst (Says line) (sym is) (says line rules c.payload_length.ensures.numbers);
      short = omega (arith, ap length is, c.payload_length.ensures.exact, c.if-payload_length-gt-LONGEST_PAYLOAD.false);
    }
