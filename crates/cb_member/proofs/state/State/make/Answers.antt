use Rattle.std.proofs.Common.{ℕ, List, ap, subst, sym, ◌∙◌, ◌∷◌, ◌++◌, length}
use Rattle.std.specs.List.{flat_map}
use Rattle.cb_varint.specs.Reading.{spelling}
use Rattle.cb_frames.specs.Fields.{One, CastFields, CastFrame, cast_fields}
use Rattle.cb_frames.specs.Text.{KeepsCastRules, cast_kind, cast_numbers, text_of}
use Rattle.cb_delay.specs.declared.message.Message.{Message}
use Rattle.cb_history.proofs.Written.{next_keeps}
use Rattle.cb_member.specs.Casting.{next_messages}
use Rattle.cb_member.proofs.Casting.{text_ends}
use Rattle.cb_member.proofs.state.State.make.Goals as goal

pub cast_text-requires-clause-rules : goal.cast_text-requires-clause-rules
cast_text-requires-clause-rules c =
    let state = c.requires.state in
    let is = c.in_ok-cast.ensures state.facts state.legal state.keeps (One c.args.payload.now) in
    let next = subst (λ (x : CastFields). KeepsCastRules x) (sym is)
    (next_keeps c.args.self.now.seat state.facts (One c.args.payload.now) tt state.legal.group.size.at_most_sixty_four state.legal.member) in
    record { sender = next.sender; number = next.number; changes = next.changes; load = tt }

pub payload_in-requires : goal.payload_in-requires
payload_in-requires c =
    let cast = cast_fields c.in_ok-cast.cast in
    let payload = c.args.payload.now in
    (cast_kind ∷ flat_map spelling (cast_numbers cast) ++ spelling (length payload), c.in_ok-out.ensures ∙ text_ends cast payload)

pub message_of-requires-clause-next : goal.message_of-requires-clause-next
message_of-requires-clause-next c facts are keeps = c.in_ok-cast.ensures facts are
    (record { delivered = keeps.delivered; received = keeps.received; knows = keeps.knows; sent = keeps.sent; relayed = keeps.relayed }) (One c.in_ok-payload_in.field-0)

pub returns-clause-made : goal.returns-clause-made
returns-clause-made c facts are keeps =
    let load = One c.args.payload.now in
    let out = c.in_ok-out.ensures ∙ ap (λ (cast : CastFields). text_of (CastFrame cast)) (c.in_ok-cast.ensures facts are keeps load) in
    record {
      messages = ap (λ (others : List Message). c.in_ok-first.first ∷ others) c.new-others.ensures.items ∙ c.in_ok-first.ensures facts are (record { delivered = keeps.delivered; received = keeps.received; knows = keeps.knows; sent = keeps.sent; relayed = keeps.relayed })
          ∙ ap (λ (bytes : List ℕ). next_messages c.args.self.now.seat facts (One bytes)) c.in_ok-payload_in.ensures;
      out = out;
      sent = c.in_ok-sent.ensures ∙ out;
    }
