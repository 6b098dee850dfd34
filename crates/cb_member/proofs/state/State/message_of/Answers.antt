use Rattle.std.proofs.Common.{◌≡◌, ◌∙◌, ℕ, List, [], ◌∷◌, set, ◌+◌, length, ap, arith}
use Rattle.cb_times.specs.Order.{field}
use Rattle.cb_delay.specs.declared.message.Message.{Message}
use Rattle.cb_frames.specs.Fields.{CastFields}
use Rattle.cb_member.proofs.Casting.{time_has_me, own_left, message_is_next}
use Rattle.cb_member.proofs.state.State.message_of.Goals as goal

pub add_one-requires-clause-member : goal.add_one-requires-clause-member
add_one-requires-clause-member c =
    let state = c.requires.state in
    omega (arith, time_has_me c.args.self.now state.facts state.legal state.keeps, c.me.ensures.me, ap (λ (time : List ℕ). length time) c.in_ok-time.ensures.equal)

pub add_one-requires-clause-room : goal.add_one-requires-clause-room
add_one-requires-clause-room c =
    let state = c.requires.state in
    let at : field c.in_ok-time.time c.me.result ≡ field c.args.self.now.delivery.time c.args.self.now.seat.me =
    ap (λ (time : List ℕ). field time c.me.result) c.in_ok-time.ensures.equal ∙ ap (field c.args.self.now.delivery.time) c.me.ensures.me in
    omega (arith, own_left c.args.self.now state.facts state.legal state.keeps c.requires.room, at)

pub returns : goal.returns
returns c facts are keeps =
    let is = c.requires.next facts are keeps in
    let me = c.args.self.now.seat.me in
    let counted : c.add_one.new.self ≡ set c.in_ok-time.time me (field c.in_ok-time.time me + 1) =
    c.add_one.ensures ∙ ap (λ (k : ℕ). set c.in_ok-time.time k (field c.in_ok-time.time k + 1)) c.me.ensures.me in
    ap (λ (time : List ℕ). let m : Message = record { name = record { sender = c.args.cast.now.sender; number = c.args.cast.now.number }; time = time; payload = c.args.payload } in m ∷ []) counted
    ∙ message_is_next c.args.self.now facts c.args.payload c.in_ok-time.time c.args.cast.now.sender c.args.cast.now.number are keeps c.in_ok-time.ensures.equal
    (ap (λ (x : CastFields). x.sender) is) (ap (λ (x : CastFields). x.number) is)
