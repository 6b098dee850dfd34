use Rattle.std.proofs.Common.{List, ℕ, ◌≡◌, ◌<◌, ◌≤◌, get_or, length, sym, subst, arith}
use Rattle.confer_expand.proofs.Showing.{number_fits, shows_one, all_shown}
use Rattle.confer_expand.proofs.messages.show_burst.Goals as goal

pub overflow_cast-name : goal.overflow_cast-name
overflow_cast-name c =
    let within : c.loop-place.place < length c.args.burst.now.payloads.items = subst (λ (ps : List (List ℕ)). c.loop-place.place < length ps) c.deref-payload-items.ensures.value c.loop-place-test.true in
    omega (arith, number_fits c.args.burst.now c.loop-place.place c.requires.numbered within)

pub overflow_add-name : goal.overflow_add-name
overflow_add-name c =
    let within : c.loop-place.place < length c.args.burst.now.payloads.items = subst (λ (ps : List (List ℕ)). c.loop-place.place < length ps) c.deref-payload-items.ensures.value c.loop-place-test.true in
    omega (arith, number_fits c.args.burst.now c.loop-place.place c.requires.numbered within)

pub loop-place-preserved : goal.loop-place-preserved
loop-place-preserved c =
    let place = c.loop-place.place in
    let payloads = c.args.burst.now.payloads.items in
    let within : place < length payloads = subst (λ (ps : List (List ℕ)). place < length ps) c.deref-payload-items.ensures.value c.loop-place-test.true in
    let at : c.payload-item.result ≡ get_or payloads place c.payload-item.result = subst (λ (ps : List (List ℕ)). c.payload-item.result ≡ get_or ps place c.payload-item.result) c.deref-payload-items.ensures.value c.payload-item.is in
    let same : c.deref.result.now ≡ get_or payloads place c.deref.result.now = subst (λ (p : List ℕ). p ≡ get_or payloads place p) (sym c.deref.ensures) at in
    shows_one c.args.burst.now place _ c.loop-place.expansion _ _ _ _ _ _ _ _ c.deref.result.now within same c.loop-place.invariant c.show_message.ensures.time c.show_message.ensures.line c.show_message.ensures.length c.show_message.ensures.room

pub returns-clause-lines : goal.returns-clause-lines
returns-clause-lines c =
    let all : length c.args.burst.now.payloads.items ≤ c.loop-place.place = subst (λ (ps : List (List ℕ)). length ps ≤ c.loop-place.place) c.deref-payload-items.ensures.value c.loop-place-test.false in
    all_shown c.args.burst.now c.loop-place.place _ _ _ _ _ _ all c.loop-place.invariant
