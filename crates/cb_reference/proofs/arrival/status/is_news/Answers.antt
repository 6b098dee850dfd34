use Rattle.std.proofs.Common.{◌≡◌, ◌≢◌, ◌∙◌, ◌&&◌, ℕ, Bool, false, not, eqb, ltb, List, ap, sym, arith}
use Rattle.std.specs.List.{list_any, range_with_len}
use Rattle.std.proofs.lemmas.Bool.{ne_eqb}
use Rattle.cb_frames.specs.declared.frame.Change.{Change}
use Rattle.cb_history.specs.Known.{known, acknowledged_of, value_in}
use Rattle.cb_history.specs.State.{MemberState, facts_in}
use Rattle.cb_reference.proofs.arrival.status.is_news.Goals as goal

-- a status of another that tells of no more casts is news where it tells of more deliveries
pub returns-else-tells_of_casts : goal.returns-else-tells_of_casts
returns-else-tells_of_casts c =
    let m : MemberState = c.args.past.now in
    let sender = c.args.status.now.sender in
    let casts : List Change → Bool = λ (values : List Change). list_any (λ (k : ℕ). not (eqb k m.seat.me) && ltb (known (facts_in m) k) (value_in values k)) (range_with_len 0 m.seat.group.size) in
    let deliveries : List Change → Bool = λ (values : List Change). list_any (λ (i : ℕ). not (eqb i sender) && ltb (acknowledged_of m.seat (facts_in m) sender i) (value_in values i)) (range_with_len 0 m.seat.group.size) in
    let other : sender ≢ m.seat.me = omega (arith, c.if-status-me.true, c.me.ensures.me) in
    let no_casts : casts c.args.status.now.values.items ≡ false = ap casts (sym c.deref.ensures.value) ∙ sym c.tells_of_casts.ensures ∙ c.if-tells_of_casts.false in
    let told : c.tells_of_deliveries.result ≡ deliveries c.args.status.now.values.items = c.tells_of_deliveries.ensures ∙ ap deliveries c.deref-else-tells_of_casts.ensures.value in
    rw (ne_eqb sender m.seat.me other, no_casts) told
