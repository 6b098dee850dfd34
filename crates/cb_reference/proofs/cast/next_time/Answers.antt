use Rattle.std.proofs.Common.{◌≡◌, ◌+◌, ◌<◌, ◌∙◌, ℕ, List, length, set, ap, sym, arith}
use Rattle.std.proofs.lemmas.List.FromFn.{length-map-range_with_len}
use Rattle.cb_times.specs.Order.{field}
use Rattle.cb_history.specs.Group.{Identity}
use Rattle.cb_history.specs.View.{count, counts}
use Rattle.cb_history.specs.State.{MemberState, view_in}
use Rattle.cb_history.proofs.Delivering.{in_field}
use Rattle.cb_reference.proofs.Casting.{counts_are_small, counts_one_more}
use Rattle.cb_reference.proofs.cast.next_time.Goals as goal

pub add_one-requires-clause-member : goal.add_one-requires-clause-member
add_one-requires-clause-member c =
    let m : MemberState = c.args.past.now in
    let me : c.me-me.result ≡ m.seat.me = c.me-me.ensures.me ∙ ap (λ (s : Identity). s.me) c.seat.ensures.seat ∙ ap (λ (n : MemberState). n.seat.me) c.member.ensures.member in
    let long : length c.in_ok-time.time ≡ m.seat.group.size = ap (λ (ns : List ℕ). length ns) c.in_ok-time.ensures ∙ length-map-range_with_len (count (view_in m)) 0 m.seat.group.size in
    omega (arith, me, long, c.member.ensures.state.legal.member)

pub add_one-requires-clause-room : goal.add_one-requires-clause-room
add_one-requires-clause-room c =
    let m : MemberState = c.args.past.now in
    let me : c.me-me.result ≡ m.seat.me = c.me-me.ensures.me ∙ ap (λ (s : Identity). s.me) c.seat.ensures.seat ∙ ap (λ (n : MemberState). n.seat.me) c.member.ensures.member in
    let at : field c.in_ok-time.time c.me-me.result ≡ count (view_in m) m.seat.me =
    ap (λ (ns : List ℕ). field ns c.me-me.result) c.in_ok-time.ensures ∙ ap (λ (k : ℕ). field (counts m.seat.group.size (view_in m)) k) me
    ∙ in_field m.seat.group.size (count (view_in m)) m.seat.me c.member.ensures.state.legal.member in
    omega (arith, at, counts_are_small m m.seat.me c.member.ensures.state)

pub returns : goal.returns
returns c = λ first sender_is.
    let m : MemberState = c.args.past.now in
    let me : c.me-me.result ≡ m.seat.me = c.me-me.ensures.me ∙ ap (λ (s : Identity). s.me) c.seat.ensures.seat ∙ ap (λ (n : MemberState). n.seat.me) c.member.ensures.member in
    let now = counts m.seat.group.size (view_in m) in
    let member : first.sender < m.seat.group.size = omega (arith, sender_is, c.member.ensures.state.legal.member) in
    c.add_one.ensures ∙ ap (λ (ns : List ℕ). set ns c.me-me.result (field ns c.me-me.result + 1)) c.in_ok-time.ensures
    ∙ ap (λ (k : ℕ). set now k (field now k + 1)) (me ∙ sym sender_is) ∙ counts_one_more m.seat.group.size (view_in m) first member
