use Rattle.std.proofs.Common.{◌≡◌, ◌∙◌, ℕ, List, ◌+◌, ◌<◌, ◌++◌, ap, arith, drop, length, refl}
use Rattle.std.proofs.lemmas.List.{get_or-set_same, length-set}
use Rattle.cb_times.specs.Order.{field}
use Rattle.cb_frames.specs.Fields.{Many}
use Rattle.cb_member.proofs.Bursting.{all_messages, one_message_more}
use Rattle.cb_member.proofs.Casting.{own_left_for, stamp, stamped, stamped_is_next, time_has_me}
use Rattle.cb_member.proofs.state.State.messages_of.Goals as goal

pub add_one-requires-clause-member : goal.add_one-requires-clause-member
add_one-requires-clause-member c =
    let state = c.requires.state in
    omega (arith, time_has_me c.args.self.now state.facts state.legal state.keeps, c.me-me.ensures.me, c.loop-payload.invariant.fields)

pub add_one-requires-clause-room : goal.add_one-requires-clause-room
add_one-requires-clause-room c =
    let state = c.requires.state in
    let left = own_left_for c.args.self.now state.facts (length c.args.payloads.now) state.legal state.keeps (omega (arith, c.loop-payload-test.true)) c.requires.room in
    let at = ap (field c.args.self.now.delivery.time) c.me-me.ensures.me in
    omega (arith, left, at, c.loop-payload.invariant.counted, c.loop-payload-test.true)

pub get-requires : goal.get-requires
get-requires c =
    let state = c.requires.state in
    let me = c.me-me.result in
    let long = ap (λ (time : List ℕ). length time) c.add_one.ensures ∙ length-set c.loop-payload.time me (field c.loop-payload.time me + 1) in
    omega (arith, time_has_me c.args.self.now state.facts state.legal state.keeps, c.me-me.ensures.me, c.loop-payload.invariant.fields, long)

pub loop-payload-preserved : goal.loop-payload-preserved
loop-payload-preserved c =
    let state = c.requires.state in
    let me = c.me-me.result in
    let time = c.loop-payload.time in
    let here : me < length time = omega (arith, time_has_me c.args.self.now state.facts state.legal state.keeps, c.me-me.ensures.me, c.loop-payload.invariant.fields) in
    let at : field c.add_one.new.self me ≡ field time me + 1 = ap (λ (ns : List ℕ). field ns me) c.add_one.ensures ∙ get_or-set_same time me (field time me + 1) 0 here in
    let long : length c.add_one.new.self ≡ length time = ap (λ (ns : List ℕ). length ns) c.add_one.ensures ∙ length-set time me (field time me + 1) in
    let made : record { name = record { sender = me; number = c.get.result }; time = c.in_ok-copy.field-0; payload = c.in_ok-another.field-0 } ≡ stamp me time c.payload-item.result =
    rw (c.get.ensures.field ∙ at, c.in_ok-copy.ensures.equal ∙ c.add_one.ensures, c.in_ok-another.ensures) refl in
    let more = one_message_more me time c.args.payloads.now c.loop-payload.payload-index c.payload-item.result c.loop-payload.messages.items c.push-in-loop-payload.new.self.items
    (stamped me c.args.self.now.delivery.time c.args.payloads.now) _ c.loop-payload-test.true c.payload-item.is made c.in_ok-push.ensures.items c.loop-payload.invariant.so_far in
    record {
      so_far = ap (λ (ns : List ℕ). c.push-in-loop-payload.new.self.items ++ stamped me ns (drop (c.loop-payload.payload-index + 1) c.args.payloads.now)) c.add_one.ensures ∙ more;
      fields = long ∙ c.loop-payload.invariant.fields;
      counted = omega (arith, at, c.loop-payload.invariant.counted);
    }

pub returns : goal.returns
returns c facts are keeps =
    all_messages c.me-me.result c.loop-payload.time c.args.payloads.now c.loop-payload.payload-index c.loop-payload.messages.items _ (omega (arith, c.loop-payload-test.false)) c.loop-payload.invariant.so_far
    ∙ ap (λ (me : ℕ). stamped me c.args.self.now.delivery.time c.args.payloads.now) c.me-me.ensures.me
    ∙ stamped_is_next c.args.self.now facts (Many c.args.payloads.now) are keeps
