-- `over` takes a box apart, and makes a handle of what the box owned.
use Rattle.std.proofs.Common.{◌≡◌, ℕ, List, [], ◌∷◌, ◌++◌, ap, refl}
use base.Fml.{flft, ftrue}
use base.Fraction.{full_share}
use base.Logic.{SProp, emp, ent, id⊢}
use contract.BorrowLft.{◌⊑◌, ⊑_static}
use contract.Lifetimes.{Lfts}
use contract.Monad.{Fun, fact, fact_i}
use contract.Running.{tables}
use denote.Exit.{yes}
use denote.Param.NoDrop.{glues}
use denote.RattleType.{owns}
use denote.RawPtr.{Ptr, RawPtr, rawptr_Lawful, rawptr_vals}
use denote.Signature.{plain}
use denote.Steps.{nothing, only}
use denote.Triple.Call.{calls_at}
use denote.Triple.Clauses.{Ended, Lasts, lasts}
use denote.Triple.Spec.{triple_of}
use denote.Triple.Statement.{Contract}
use denote.Triple.Table.{framed}
use denote.Triple.Walked.{Stays, stay_dropped, walk_of}
use mathlib.Core.Bool.{true}
use mir.Val.{Val}
use prog.Memory.{Memory}
use prog.Routine.{Routine}
use prog.Wp.{WpFn}
use seplogic.Ra.Ura.{Ura}
use types.ByLocal.{alloc_all, free_all, get, lands_as, look_at, pass_all, sets}
use types.Kit.{
  ‵,
  raw,
  ◌⊛◌,
  some,
  later,
  prop,
  ◌$◌,
  ◌∵◌,
  !,
  ⋆,
  await,
  by,
  done,
  drop,
  feq_l,
  fjoin,
  fsplit,
  group,
  join,
  keep,
  move,
  pick,
  qed,
  regoal,
  split,
  use0,
  use1,
}
use types.Logic.{Logic, sem}
use types.Part.{agg}
use types.Run.{and_then, enter, no_more, of_opd, returns, true_lit}
use types.Tokens.{lft_new}
use Rattle.std.proofs.alloc.Calls.{Goes-blank}
use Rattle.std.proofs.impls.GlobalAllocator.TheImpl.Met as heap_met
use Rattle.std.proofs.raw_atomic.Walks.{leaves, proved_at}
use Rattle.std.specs.contracts.impls.GlobalAllocator.TheImpl.{dict, ghosts}
use Rattle.std.specs.declared.option.Option.TheVariants.{Some}
use Rattle.std_alloc.proofs.boxed.Box.into_raw.Met.{met}
use Rattle.std_alloc.specs.Box.Ownership.{box_owns}
use Rattle.std_alloc.specs.contracts.boxed.Box.into_raw as into_raw
use Rattle.cb_handle.proofs.Destruct++none.drop.Code.{code as nothing_dropped}
use Rattle.cb_handle.proofs.HandleValues.{Boxed, Boxed-laws, Heap, Heap-laws, Inner, Inner-laws, Shell}
use Rattle.cb_handle.proofs.HandleValues.{Passed, Passed-laws, at_one_value, made_open, no_drop, open_at, stored, stored_fits}
use Rattle.cb_handle.proofs.HeldDrop.{held_drop, held_goes}
use Rattle.cb_handle.proofs.held.Held.TheLaws as held_laws
use Rattle.cb_handle.proofs.handle.over.Code as code
use Rattle.cb_handle.proofs.handle.over.Statement.{statement}
use Rattle.cb_handle.specs.Owning.{may_free}
use Rattle.cb_handle.specs.contracts.handle.over as f

abbrev used_up : Stays f.ended.signature.params f.ended.kept
used_up = (stay_dropped (plain (λ _. Boxed)) yes, tt)

abbrev Called : Ended
Called = into_raw.ended (Passed Inner) (Passed Heap) ghosts dict no_drop held_drop

module _ {M : Type 1} {𝓤 : Ura M} (𝓛 : Logic 𝓤) (memory : Memory → SProp 𝓤) (run : Routine → Fun 𝓤) where
  abbrev Into_raw : Contract 𝓤
  Into_raw = triple_of 𝓛 (into_raw.signature (Passed Inner) (Passed Heap) ghosts dict no_drop held_drop)
      (into_raw.spec (Passed Inner) (Passed Heap) ghosts dict no_drop held_drop 𝓛 memory run)

  module _ (box : Boxed.Denot) (word : Val) (held_life heap_life : ℕ) where
    abbrev lives : Lfts 2
    lives = (held_life ∷ [], (heap_life ∷ [], tt))

    abbrev call : Into_raw.Ghost
    call = ((lives, (full_share, (full_share, tt)), tt, (box, tt), (word ∷ [], tt)), tt)

    -- Any lifetime is within both types. So a call asks for no more than the box.
    asked : ent 𝓤 (⋆ 𝓛 (‵ (flft (heap_life ∷ []) full_share) ∷ ‵ (flft (held_life ∷ []) full_share) ∷
        ‵ (Boxed.own_val box (word ∷ [])) ∷ [])) (Into_raw.pre call)
    asked =
        qed 𝓛 (‵ (flft (heap_life ∷ []) full_share) ∷ ‵ (flft (held_life ∷ []) full_share) ∷
        ‵ (Boxed.own_val box (word ∷ [])) ∷ []) ∵
        -- [the box]
        move ! (2 ∷ []) $ nothing ! $ move ! (1 ∷ 0 ∷ []) $ fjoin ! $
        -- [the tokens with the box]
        nothing ! $ move ! (2 ∷ 0 ∷ []) $ join ! $ move ! (2 ∷ 0 ∷ []) $ join ! $ join ! $
        -- [what is asked of the two lifetimes; the tokens with the box]
        nothing ! $ use0 𝓛 (raw (fact 𝓤 (heap_life ∷ [] ⊑ Heap.lives)))
        (fact_i 𝓤 _ (emp 𝓤) (⊑_static (heap_life ∷ []))) $ join ! $
        use0 𝓛 (raw (fact 𝓤 (held_life ∷ [] ⊑ Inner.lives)))
        (fact_i 𝓤 _ (emp 𝓤) (held_laws.the_within (held_life ∷ []))) $ join ! $ move ! (1 ∷ 0 ∷ []) $ join ! $ done !

  module _ (passed : (walk_of 𝓛 f.ended used_up (f.clauses 𝓛 memory run)).Ghost) where
    abbrev AtReturn : Val → SProp 𝓤
    AtReturn = (walk_of 𝓛 f.ended used_up (f.clauses 𝓛 memory run)).post passed

    -- What the box owned, at the place that it was at, is all that the result needs.
    ends : (place : Ptr)
        → ent 𝓤 (sem 𝓛 (box_owns may_free Inner place passed.0.3.0.value)) (AtReturn (stored place true))
    ends place =
        let inside = passed.0.3.0.value in
        let word = stored place true in
        let handle = open_at place inside in
        qed 𝓛 (‵ (box_owns may_free Inner place inside) ∷ []) ∵
        use0 𝓛 (raw (fact 𝓤 (handle.held ≡ Some inside))) (fact_i 𝓤 _ (emp 𝓤) refl) $ move ! (1 ∷ []) $
        use1 𝓛 (‵ (Shell.own_val handle (word ∷ []))) (made_open 𝓛 place inside) $
        -- [no token; nothing of the box; the handle; what is said of it]
        nothing ! $ nothing ! $ fjoin ! $ nothing ! $
        by ! (leaves 𝓛 f.ended used_up (f.clauses 𝓛 memory run) passed word handle (tt, tt) (tt, tt))

pub over_spec : {M : Type 1} → statement M
unfolding nothing_dropped
over_spec {M} 𝓤 𝓛 𝓜 𝓡 wired =
    let machine = tables 𝓤 𝓛.H 𝓜 𝓡 𝓡.env in
    let callee = Into_raw 𝓛 𝓜.mem 𝓡.returns in
    let inner_laws = Passed-laws Inner Inner-laws refl in
    let heap_laws = Passed-laws Heap Heap-laws refl in
    let heap_is_met = heap_met.passed 𝓡.env
    (code.calls-std_heap::GlobalAllocator::allocate 𝓡.env wired)
    (code.calls-std_heap::GlobalAllocator::deallocate 𝓡.env wired)
    (code.calls-std_heap::GlobalAllocator::grow 𝓡.env wired)
    (code.calls-std_heap::GlobalAllocator::shrink 𝓡.env wired) M 𝓤 𝓛 𝓜 𝓡 in
    let heap_goes = glues "cb_handle::Destruct++none::drop" 𝓡.env
    (code.calls-cb_handle::Destruct++none::drop 𝓡.env wired) (Passed Heap) heap_laws M 𝓤 𝓛 𝓜 𝓡 in
    let held_goes = held_goes 𝓛 𝓜 𝓡 (code.calls-cb_handle::cb_handle++held++Held+Destruct::drop 𝓡.env wired) in
    let callee_is_met = met 𝓤 𝓛 𝓜 𝓡 (code.calls-std_alloc::boxed::Box::into_raw 𝓡.env wired)
    (Passed Inner) (Passed Heap) inner_laws heap_laws ghosts dict no_drop held_drop heap_is_met heap_goes held_goes in
    proved_at 𝓛 f.ended used_up (f.clauses 𝓛 𝓜.mem 𝓡.returns) 𝓜 𝓡
    (Goes-blank 𝓛 0 (plain (λ _. Boxed)) yes (λ κs x last. tt), tt)
    f.Key.name code.function (code.unfolded 𝓤 𝓛.H 𝓜 𝓡 wired) (λ passed are.
    let box = passed.0.3.0 in
    let Runs = λ (words : List Val). prop
    (WpFn 𝓤 𝓛.H machine.C machine.Λ code.function words (AtReturn 𝓛 𝓜.mem 𝓡.returns passed)) in
    -- [the tokens with the box; no `requires`]
    qed 𝓛 ((‵ ftrue ⊛ ‵ (owns (Boxed ∷ []) passed.0.3 passed.0.4)) ∷ ‵ ftrue ∷ []) ∵ split ! $ drop ! $ fsplit ! $
    at_one_value ! Boxed Boxed-laws box passed.0.4.0 (λ word is_box box_fits. keep ! (0 ∷ []) $
    regoal ! Runs (λ i. is_box i ++ []) refl $
    enter ! _ _ _ _ _ $ alloc_all ! (λ locals. pass_all ! refl (box_fits, tt) $
    sets ! (of_opd ! (get ! refl)) refl box_fits $ lft_new ! tt (λ held_life. lft_new ! tt (λ heap_life. group ! 3 $
    let call = call 𝓛 𝓜.mem 𝓡.returns box word held_life heap_life in
    use1 𝓛 (raw (callee.pre call)) (asked 𝓛 𝓜.mem 𝓡.returns box word held_life heap_life) $
    calls_at ! (framed 𝓤 𝓛.H 𝓜 machine) callee callee_is_met call (and_then ! (get ! refl) (no_more !)) (λ answer.
    let tokens = ‵ (flft (held_life ∷ []) full_share) ⊛ ‵ (flft (heap_life ∷ []) full_share) ⊛ ‵ ftrue in
    use1 𝓛 (later (some (λ (place : Ptr). (tokens ⊛ ‵ (RawPtr.own_val place (answer ∷ []))) ⊛
    some (λ (last : Lasts Called call.0.0 call.0.3). ‵ (lasts Called call.0.0 call.0.3 last) ⊛
    ‵ (box_owns may_free Inner place box.value))))) (id⊢ 𝓤 _) $
    await ! tt $ pick ! (λ place. split ! $ split ! $ drop ! $ feq_l ! (λ is_place. pick ! (λ last. split ! $ drop ! $
    -- [the box's contents and the right to free it]
    let place_fits = ((rawptr_Lawful 𝓛).typed place (rawptr_vals place) refl).0 in
    lands_as ! (ap only is_place) refl place_fits $ sets ! (of_opd ! (get ! refl)) refl place_fits $
    sets ! (agg ! (and_then ! (get ! refl) (and_then ! (true_lit !) (no_more !)))) refl (stored_fits 𝓛 place true) $
    returns ! (look_at ! 0 refl) $ free_all ! refl $
    keep ! (0 ∷ []) $ by ! (ends 𝓛 𝓜.mem 𝓡.returns passed place))))))))))
