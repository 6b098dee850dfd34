-- `boxed` is `Box::from_raw` at the box that a handle holds.
--     From_raw     the contract that is called, at this box
--     asked        what the call asks: the heap, the box, and a lifetime for each of the two types
--     ends         the box that the call made is what `boxed` promises
use Rattle.std.proofs.Common.{◌≡◌, ℕ, List, [], ◌∷◌, ◌++◌, ap, refl}
use seplogic.Ra.Ura.{Ura}
use base.Fml.{ftrue, flft}
use base.Fraction.{full_share}
use base.Logic.{SProp, emp, ent, id⊢}
use contract.BorrowLft.{◌⊑◌, ⊑_static}
use contract.Lifetimes.{Lfts, Shares}
use contract.Monad.{Fun, fact, fact_i}
use contract.Running.{tables}
use denote.Exit.{yes}
use denote.Param.NoDrop.{glues}
use denote.RattleType.{owns}
use denote.RawPtr.{Ptr, RawPtr, rawptr_Lawful, rawptr_vals}
use denote.Signature.{plain}
use denote.Steps.{heard, nothing, only}
use denote.Triple.Call.{calls_at}
use denote.Triple.Clauses.{Ended, Lasts, lasts}
use denote.Triple.Spec.{triple_of}
use denote.Triple.Statement.{Contract}
use denote.Triple.Table.{framed}
use denote.Triple.Walked.{Goes-dropped, Stays, stay_dropped, walk_of}
use mir.Val.{Val}
use prog.Memory.{Memory}
use prog.Routine.{Routine}
use prog.Wp.{WpFn}
use types.ByLocal.{alloc_all, free_all, get, lands_as, look_at, pass_all, sets}
use types.Kit.{‵, raw, ◌⊛◌, ⋆, some, later, prop, ◌$◌, ◌∵◌, !, qed, await, by, done, drop, feq_l, fjoin, fsplit}
use types.Kit.{group, join, keep, move, pick, regoal, split, split3, use0, use1}
use types.Logic.{Logic, sem}
use types.Run.{and_then, enter, no_more, of_opd, returns}
use types.Tokens.{lft_new}
use Rattle.std.proofs.alloc.Calls.{Goes-blank}
use Rattle.std.proofs.impls.GlobalAllocator.TheImpl.Met as heap_met
use Rattle.std.proofs.raw_atomic.Walks.{leaves, proved_at}
use Rattle.std.specs.contracts.impls.GlobalAllocator.TheImpl.{dict, ghosts}
use Rattle.std_alloc.proofs.boxed.Box.from_raw.Met.{met}
use Rattle.std_alloc.specs.Box.Ownership.{box_owns}
use Rattle.std_alloc.specs.contracts.boxed.Box.from_raw as from_raw
use Rattle.cb_handle.proofs.Destruct++none.drop.Code.{code as dropped}
use Rattle.cb_handle.proofs.HandleValues.{Boxed, Boxed-laws, Heap, Heap-laws, Inner, Inner-laws, Passed, Passed-laws}
use Rattle.cb_handle.proofs.HandleValues.{at_one_value, heap_and_place, no_drop}
use Rattle.cb_handle.proofs.held.Held.TheLaws as held_type
use Rattle.cb_handle.proofs.handle.boxed.Code as code
use Rattle.cb_handle.proofs.handle.boxed.Statement.{statement}
use Rattle.cb_handle.specs.Owning.{may_free}
use Rattle.cb_handle.specs.contracts.handle.boxed as f
use Rattle.cb_handle.specs.declared.held.Held.{Held}

abbrev stays : Stays f.ended.signature.params f.ended.kept
stays = (stay_dropped (plain (λ _. Heap)) yes, (stay_dropped (plain (λ _. RawPtr)) yes, tt))

abbrev Called : Ended
Called = from_raw.ended (Passed Inner) (Passed Heap) ghosts dict no_drop

module _ {M : Type 1} {𝓤 : Ura M} (𝓛 : Logic 𝓤) (memory : Memory → SProp 𝓤) (run : Routine → Fun 𝓤) where
  abbrev From_raw : Contract 𝓤
  From_raw = triple_of 𝓛 (from_raw.signature (Passed Inner) (Passed Heap) ghosts dict no_drop)
      (from_raw.spec (Passed Inner) (Passed Heap) ghosts dict no_drop 𝓛 memory run)

  module _ (alloc : Heap.Denot) (word : Val) (place : Ptr) (inside : Held) (held_life heap_life : ℕ) where
    abbrev lives : Lfts 2
    lives = (held_life ∷ [], (heap_life ∷ [], tt))

    abbrev shares : Shares 2
    shares = (full_share, (full_share, tt))

    abbrev call : From_raw.Ghost
    call = ((lives, shares, tt, (alloc, (place, tt)), (word ∷ [], (rawptr_vals place, tt))), inside)

    -- Both types last for any lifetime. So the heap and the box are all that the call asks of its caller.
    asked : ent 𝓤 (⋆ 𝓛 (‵ (flft (heap_life ∷ []) full_share) ∷ ‵ (flft (held_life ∷ []) full_share) ∷
        ‵ (Heap.own_val alloc (word ∷ [])) ∷ ‵ (box_owns may_free Inner place inside) ∷ [])) (From_raw.pre call)
    asked =
        qed 𝓛 (‵ (flft (heap_life ∷ []) full_share) ∷ ‵ (flft (held_life ∷ []) full_share) ∷
        ‵ (Heap.own_val alloc (word ∷ [])) ∷ ‵ (box_owns may_free Inner place inside) ∷ []) ∵
        -- the two tokens
        nothing ! $ move ! (1 ∷ 0 ∷ []) $ join ! $ move ! (1 ∷ 0 ∷ []) $ join ! $ move ! (1 ∷ []) $
        -- the arguments, the tokens, the box
        use1 𝓛 (‵ (owns (Heap ∷ RawPtr ∷ []) call.0.3 call.0.4)) (heap_and_place 𝓛 alloc word place) $
        move ! (1 ∷ 0 ∷ []) $ join ! $ move ! (1 ∷ []) $
        use0 𝓛 (raw (fact 𝓤 (heap_life ∷ [] ⊑ Heap.lives))) (fact_i 𝓤 _ (emp 𝓤) (⊑_static (heap_life ∷ []))) $ join ! $
        use0 𝓛 (raw (fact 𝓤 (held_life ∷ [] ⊑ Inner.lives)))
        (fact_i 𝓤 _ (emp 𝓤) (held_type.the_within (held_life ∷ []))) $ join ! $ move ! (1 ∷ 0 ∷ []) $ join ! $ done !

  module _ (passed : (walk_of 𝓛 f.ended stays (f.clauses 𝓛 memory run)).Ghost) where
    abbrev AtReturn : Val → SProp 𝓤
    AtReturn = (walk_of 𝓛 f.ended stays (f.clauses 𝓛 memory run)).post passed

    -- A box of what lay at the place is the result that is promised.
    ends : (made : Boxed.Denot) (word : Val) → made.value ≡ passed.1
        → ent 𝓤 (sem 𝓛 (Boxed.own_val made (word ∷ []))) (AtReturn word)
    ends made word same =
        qed 𝓛 (‵ (Boxed.own_val made (word ∷ [])) ∷ []) ∵
        use0 𝓛 (raw (fact 𝓤 (made.value ≡ passed.1))) (fact_i 𝓤 _ (emp 𝓤) same) $
        nothing ! $ nothing ! $ fjoin ! $ nothing ! $ fjoin ! $ nothing ! $ move ! (0 ∷ 1 ∷ 3 ∷ 2 ∷ []) $
        by ! (leaves 𝓛 f.ended stays (f.clauses 𝓛 memory run) passed word made (tt, (tt, tt)) (tt, (tt, tt)))

pub boxed_spec : {M : Type 1} → statement M
unfolding dropped
boxed_spec {M} 𝓤 𝓛 𝓜 𝓡 wired =
    let machine = tables 𝓤 𝓛.H 𝓜 𝓡 𝓡.env in
    let callee = From_raw 𝓛 𝓜.mem 𝓡.returns in
    let inner_laws = Passed-laws Inner Inner-laws refl in
    let heap_laws = Passed-laws Heap Heap-laws refl in
    let heap_is_met = heap_met.passed 𝓡.env
    (code.calls-std_heap::GlobalAllocator::allocate 𝓡.env wired)
    (code.calls-std_heap::GlobalAllocator::deallocate 𝓡.env wired)
    (code.calls-std_heap::GlobalAllocator::grow 𝓡.env wired)
    (code.calls-std_heap::GlobalAllocator::shrink 𝓡.env wired) M 𝓤 𝓛 𝓜 𝓡 in
    let drop_is_met = glues "cb_handle::Destruct++none::drop" 𝓡.env
    (code.calls-cb_handle::Destruct++none::drop 𝓡.env wired) (Passed Heap) heap_laws M 𝓤 𝓛 𝓜 𝓡 in
    let callee_is_met = met 𝓤 𝓛 𝓜 𝓡 (code.calls-std_alloc::boxed::Box::from_raw 𝓡.env wired)
    (Passed Inner) (Passed Heap) inner_laws heap_laws ghosts dict no_drop heap_is_met drop_is_met in
    let heap_goes = Goes-blank 𝓛 0 (plain (λ _. Heap)) yes (λ κs x f. tt) in
    let place_goes = Goes-dropped 𝓛 0 (plain (λ _. RawPtr)) yes (λ κs x f. refl) in
    proved_at 𝓛 f.ended stays (f.clauses 𝓛 𝓜.mem 𝓡.returns) 𝓜 𝓡 (heap_goes, (place_goes, tt))
    f.Key.name code.function (code.unfolded 𝓤 𝓛.H 𝓜 𝓡 wired) (λ passed are.
    let alloc = passed.0.3.0 in let place = passed.0.3.1.0 in let inside = passed.1 in
    let place_good = (rawptr_Lawful 𝓛).typed place (rawptr_vals place) refl in
    let Runs = λ (words : List Val). prop
    (WpFn 𝓤 𝓛.H machine.C machine.Λ code.function words (AtReturn 𝓛 𝓜.mem 𝓡.returns passed)) in
    qed 𝓛 ((‵ ftrue ⊛ ‵ (owns (Heap ∷ RawPtr ∷ []) passed.0.3 passed.0.4)) ∷
    ‵ (box_owns may_free Inner place inside) ∷ []) ∵
    split ! $ drop ! $ fsplit ! $ at_one_value ! Heap Heap-laws alloc passed.0.4.0 (λ heap_word is_heap heap_good.
    move ! (1 ∷ []) $ fsplit ! $ feq_l ! (λ is_place. drop ! $
    regoal ! Runs (λ i. is_heap i ++ (is_place i ++ [])) refl $
    -- [the heap; the box]
    enter ! _ _ _ _ _ $ alloc_all ! (λ l. pass_all ! refl (heap_good, place_good) $
    sets ! (of_opd ! (get ! refl)) refl place_good.0 $ lft_new ! tt (λ held_life. lft_new ! tt (λ heap_life.
    let call = call 𝓛 𝓜.mem 𝓡.returns alloc heap_word place inside held_life heap_life in
    group ! 4 $
    use1 𝓛 (raw (callee.pre call)) (asked 𝓛 𝓜.mem 𝓡.returns alloc heap_word place inside held_life heap_life) $
    calls_at ! (framed 𝓤 𝓛.H 𝓜 machine) callee callee_is_met call
    (and_then ! (get ! refl) (and_then ! (get ! refl) (no_more !))) (λ result.
    let tokens = ‵ (flft (held_life ∷ []) full_share) ⊛ ‵ (flft (heap_life ∷ []) full_share) ⊛ ‵ ftrue in
    use1 𝓛 (later (some (λ (made : Boxed.Denot). (tokens ⊛ ‵ (Boxed.own_val made (result ∷ []))) ⊛
    some (λ (last : Lasts Called call.0.0 call.0.3). ‵ (lasts Called call.0.0 call.0.3 last) ⊛
    (raw (fact 𝓤 (made.value ≡ inside)) ⊛ raw (fact 𝓤 (made.alloc ≡ alloc))))))) (id⊢ 𝓤 _) $
    await ! tt $ pick ! (λ made. split ! $ move ! (1 ∷ []) $ pick ! (λ last. split3 ! $ drop ! $
    heard ! (made.value ≡ inside) (λ same. drop ! $ split ! $ drop ! $
    -- [the box that was made]
    at_one_value ! Boxed Boxed-laws made (result ∷ []) (λ word is_word good.
    lands_as ! (ap only is_word) refl good $ returns ! (look_at ! 0 refl) $ free_all ! refl $
    keep ! (0 ∷ []) $ by ! (ends 𝓛 𝓜.mem 𝓡.returns passed made word same))))))))))))
