-- Every run of the causal machine is a stamped run without its times.
use Rattle.std.specs.Prelude.{slice_get, count_by}
use Rattle.std.proofs.Common.{◌≡◌, ℕ, zero, suc, ◌<◌, ◌≤◌, Bool, false, cond, eqb, inl, inr, List, [], ◌∷◌, ◌++◌, length, Some, refl, sym, ◌∙◌, ap, subst, arith, eq-eqb, ne_eqb}
use Rattle.std.proofs.lemmas.List.{map_push}
use Rattle.std.proofs.lemmas.Bool.{cases_eq}
use mathlib.Core.Path.{fun_ext}
use Rattle.cb_times.specs.Order.{field}
use Rattle.cb_causality.specs.declared.event.CausalEvent.{CausalEvent}
use Rattle.cb_causality.specs.declared.event.CausalEvent.TheVariants.{Cast, Deliver}
use Rattle.cb_delay.specs.declared.message.Message.{Message}
use Rattle.cb_delay.specs.declared.message.Event.{Event}
use Rattle.cb_delay.specs.declared.message.Event.TheVariants as stamped
use Rattle.cb_causality.specs.Events.{name_of, is_of, count, next_name}
use Rattle.cb_causality.specs.HappenedBefore.{Lists}
use Rattle.cb_causality.specs.CausalMachine.{Step, Casts, Delivers, Run, Start, Then}
use Rattle.cb_causality.specs.StampedMachine.{StampedLists, without_time, without_times, erased, next_message, IsTimeOfList, StampedStep, StampedRun}
use Rattle.cb_causality.specs.Laws.{IsErasure}
use Rattle.cb_causality.proofs.Counting.{count-cons}
use Rattle.cb_causality.proofs.Places.{old_or_new}
use Rattle.cb_causality.proofs.Stamps.{run_stamped, may_deliver_is_allowed}
use Rattle.cb_causality.specs.Lists.{Appends}

-- the list of the first n values of a function
tabulate : ℕ → (ℕ → ℕ) → List ℕ
tabulate zero f = []
tabulate (suc n) f = f 0 ∷ tabulate n (λ k. f (suc k))

-- how long it is
length_tabulate : (n : ℕ) (f : ℕ → ℕ) → length (tabulate n f) ≡ n
unfolding tabulate
length_tabulate zero f = refl
length_tabulate (suc n) f = ap suc (length_tabulate n (λ k. f (suc k)))

-- what it has at a field
field_tabulate : (n : ℕ) (f : ℕ → ℕ) → ((k : ℕ) → n ≤ k → f k ≡ 0) → (k : ℕ) → field (tabulate n f) k ≡ f k
unfolding tabulate
field_tabulate zero f none k = sym (none k (omega arith))
field_tabulate (suc n) f none zero = refl
field_tabulate (suc n) f none (suc k) = field_tabulate n (λ l. f (suc l)) (λ l h. none (suc l) (omega arith)) k

-- a list in which no element passes
count_none : {X : Type 0} (test : X → Bool) (xs : List X) → ((i : ℕ) (x : X) → slice_get xs i ≡ Some x → test x ≡ false) → count_by test xs ≡ 0
count_none test [] h = refl
count_none test (x ∷ xs) h =
    let none : ◌≡◌ {A = ℕ} (cond (test x) 1 0) 0 = ap {B = ℕ} (λ (b : Bool). cond b 1 0) (h 0 x refl) in
    let rest : count_by test xs ≡ 0 = count_none test xs (λ i y e. h (suc i) y e) in
    omega (arith, count-cons test x xs)

-- each message of a run is of a member of the group
pub in_group : (size : ℕ) (lists : Lists) → Run size lists → (j a : ℕ) (e : CausalEvent) → slice_get (lists j) a ≡ Some e → (name_of e).sender < size
in_group size lists (Start _ empty) j a e stands =
    let none : slice_get [] a ≡ Some e = subst (λ (xs : List CausalEvent). slice_get xs a ≡ Some e) (empty j) stands in absurd (cc none)
in_group size lists (Then before _ run (Casts i payload inside app)) j a e stands =
    elim (old_or_new before lists i (Cast (next_name i (before i)) payload) app j a e stands) [
      | inl old ↦ in_group size before run j a e old
      | inr new ↦ rw new.2 inside
    ]
in_group size lists (Then before _ run (Delivers i m payload inside may app)) j a e stands =
    let sender_inside : m.sender < size = in_group size before run may.caster may.index (Cast m payload) may.stands in
    elim (old_or_new before lists i (Deliver m payload) app j a e stands) [
      | inl old ↦ in_group size before run j a e old
      | inr new ↦ rw new.2 sender_inside
    ]

-- so nothing is counted of those outside the group
pub none_outside : (size : ℕ) (lists : Lists) → Run size lists → (j k : ℕ) → size ≤ k → count k (lists j) ≡ 0
none_outside size lists run j k outside =
    count_none (is_of k) (lists j)
    (λ a e stands.
    let inside : (name_of e).sender < size = in_group size lists run j a e stands in
    ne_eqb (name_of e).sender k (λ same. let differ : ⊥ = omega arith in differ))

-- lists that got x at the end of member i's
pub grown : {X : Type 0} → (ℕ → List X) → ℕ → X → ℕ → List X
grown lists i x k = cond (eqb k i) (lists k ++ x ∷ []) (lists k)

-- they are the lists to which x was appended
pub grown_appends : {X : Type 0} (lists : ℕ → List X) (i : ℕ) (x : X) → Appends lists (grown lists i x) i x
unfolding grown
grown_appends lists i x = record {
  own = rw (eq-eqb i i refl);
  others = λ k other. rw (ne_eqb k i other);
}

-- and without their times they are the lists that got the event
grown_erased : (before : StampedLists) (after : Lists) (i : ℕ) (s : Event) → Appends (erased before) after i (without_time s)
    → (k : ℕ) → erased (grown before i s) k ≡ after k
grown_erased before after i s app k =
    let grows : Appends before (grown before i s) i s = grown_appends before i s in
    elim (cases_eq k i) [
      | inl here ↦
          let at_i : erased (grown before i s) i ≡ after i =
          ap without_times grows.own ∙ map_push without_time (before i) s ∙ sym app.own in
          subst (λ (j : ℕ). erased (grown before i s) j ≡ after j) (sym here) at_i
      | inr other ↦ ap without_times (grows.others k other) ∙ sym (app.others k other)
    ]

-- a step of the causal machine from the erasure of a stamped run leads to the erasure of a longer one
step_is_erasure : (size : ℕ) (stamped : StampedLists) → StampedRun size stamped → (after : Lists) → Step size (erased stamped) after → IsErasure size after
step_is_erasure size lists run after (Casts i payload inside app) =
    (grown lists i new, StampedRun.Then lists (grown lists i new) run (StampedStep.Casts i payload inside (record { time = time; appends = grown_appends lists i new; stamp = stamp })), same)
  where
    time : List ℕ
    time = tabulate size (λ k. count k (after i))

    new : Event
    new = stamped.Cast (next_message i (lists i) (tabulate size (λ k. count k (after i))) payload)

    same : (k : ℕ) → erased (grown lists i new) k ≡ after k
    same k = grown_erased lists after i new app k

    run_after : Run size after
    run_after = Then (erased lists) after (run_stamped size lists run).causal (Casts i payload inside app)

    stamp : IsTimeOfList size time (grown lists i new i)
    stamp = record {
      fields = length_tabulate size (λ k. count k (after i));
      counts = λ k.
          field_tabulate size (λ l. count l (after i)) (λ l outside. none_outside size after run_after i l outside) k
          ∙ ap (count k) (sym (same i));
    }
step_is_erasure size lists run after (Delivers j m payload inside may app) =
    let (time, allowed) = may_deliver_is_allowed size lists (run_stamped size lists run) j m payload may in
    let message : Message = record { name = m; time = time; payload = payload } in
    let new : Event = stamped.Deliver message in (
      grown lists j new,
      StampedRun.Then lists (grown lists j new) run (StampedStep.Delivers j message inside allowed (grown_appends lists j new)),
      λ k. grown_erased lists after j new app k,
    )

-- every run of the causal machine is the erasure of a stamped run
pub causal_is_erasure : (size : ℕ) (lists : Lists) → Run size lists → IsErasure size lists
causal_is_erasure size lists (Start _ empty) = ((λ k. []), StampedRun.Start (λ k. []) (λ k. refl), λ k. sym (empty k))
causal_is_erasure size lists (Then before _ run step) =
    let (earlier, earlier_run, same) = causal_is_erasure size before run in
    let all : erased earlier ≡ before = fun_ext same in
    step_is_erasure size earlier earlier_run lists (subst (λ (ls : Lists). Step size ls lists) (sym all) step)
