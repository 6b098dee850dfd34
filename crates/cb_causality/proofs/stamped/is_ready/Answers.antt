use Rattle.std.proofs.Common.{◌≡◌, ℕ, ◌+◌, ◌<◌, ◌≤◌, length, arith, eq-eqb, sym, ◌∙◌, lt_of_lt_of_le}
use Rattle.std.proofs.lemmas.Bool.{ltb-true, lt-ltb, le-leb, false≢true}
use Rattle.cb_times.specs.Order.{field}
use Rattle.cb_causality.specs.StampedMachine.{counts_of}
use Rattle.cb_causality.proofs.Ready.{IsFieldReady, field_from_ready, ready_from_fields, sender_inside, fields_more, sender_field_ready, other_field_ready}
use Rattle.cb_causality.proofs.stamped.is_ready.Goals as goal
use Rattle.cb_causality.proofs.stamped.is_ready.Goals.{then-k-sender, else-k-sender}

pub returns-then-not-allowed : goal.returns-then-not-allowed
returns-then-not-allowed c = (
  (λ t. absurd (false≢true t)),
  (λ ready.
      let now : ℕ → ℕ = counts_of c.args.events.now in
      let field_ready : IsFieldReady c.args.sender (field c.args.time.now) now c.loop-k.k =
      field_from_ready c.args.sender c.args.time.now now ready c.loop-k.k in
      elim c.if-k-sender.branch [
        | then-k-sender w ↦
            let next : c.get-stamped.result ≡ c.count-delivered.result + 1 =
            omega (arith, field_ready.next w.if-k-sender.true, c.get-stamped.ensures.field, c.count-delivered.ensures.counts) in
            absurd (false≢true (sym c.if-not-allowed.true ∙ w.allowed-is ∙ eq-eqb c.get-stamped.result (c.count-delivered.result + 1) next))
        | else-k-sender w ↦
            let less : c.get-stamped.result ≤ c.count-delivered.result =
            omega (arith, field_ready.other w.if-k-sender.false, c.get-stamped.ensures.field, c.count-delivered.ensures.counts) in
            absurd (false≢true (sym c.if-not-allowed.true ∙ w.allowed-is ∙ le-leb c.get-stamped.result c.count-delivered.result less))
      ]),
)

pub loop-k-preserved : goal.loop-k-preserved
loop-k-preserved c =
    fields_more c.args.sender (field c.args.time.now) (counts_of c.args.events.now) c.loop-k.k c.loop-k.invariant
    (elim c.if-k-sender.branch [
      | then-k-sender w ↦
          sender_field_ready c.args.sender (field c.args.time.now) (counts_of c.args.events.now) c.loop-k.k c.get-stamped.result c.count-delivered.result
          w.if-k-sender.true c.get-stamped.ensures.field c.count-delivered.ensures.counts (sym w.allowed-is ∙ c.if-not-allowed.false)
      | else-k-sender w ↦
          other_field_ready c.args.sender (field c.args.time.now) (counts_of c.args.events.now) c.loop-k.k c.get-stamped.result c.count-delivered.result
          w.if-k-sender.false c.get-stamped.ensures.field c.count-delivered.ensures.counts (sym w.allowed-is ∙ c.if-not-allowed.false)
    ])

pub returns : goal.returns
returns c =
    let now : ℕ → ℕ = counts_of c.args.events.now in (
      (λ t.
          let inside : c.args.sender < length c.args.time.now = rw c.size.ensures.size at (ltb-true c.args.sender c.size.result t) in
          let whole : length c.args.time.now ≤ c.loop-k.k = rw c.size-k-end.ensures.size at c.loop-k-test.false in
          ready_from_fields c.args.sender c.args.time.now now (λ k less. c.loop-k.invariant k (lt_of_lt_of_le less whole)) inside),
      (λ ready.
          let inside : c.args.sender < length c.args.time.now = sender_inside c.args.sender c.args.time.now now ready in
          lt-ltb c.args.sender c.size.result (rw c.size.ensures.size inside)),
    )
