-- `opened` tests whether the handle is open, and hands over the box where it is.
--     Making      the contract of `boxed`, which is called where it is open
--     asked       what the call asks: the heap, and the box that the handle owned
--     ends        a result that says what the handle held is what `opened` promises
--     ends_open, ends_closed      so of the box that was made, and of no box
use Rattle.std.proofs.Common.{◌≡◌, List, [], ◌∷◌, ◌++◌, ap, lit<, refl, sym, ◌∙◌}
use seplogic.Ra.Ura.{Ura}
use base.Fml.{ftrue}
use base.Logic.{SProp, emp, ent, id⊢}
use contract.Monad.{Fun, fact, fact_i}
use contract.Running.{tables}
use denote.Exit.{yes}
use denote.Param.{layout}
use denote.RattleType.{RattleType, owns}
use denote.RawPtr.{Ptr, RawPtr, rawptr_Lawful, rawptr_vals}
use denote.Signature.{plain}
use denote.Steps.{heard, nothing, only}
use denote.Triple.Call.{calls_at}
use denote.Triple.Clauses.{Lasts, lasts}
use denote.Triple.Spec.{triple_of}
use denote.Triple.Statement.{Contract}
use denote.Triple.Table.{framed}
use denote.Triple.Walked.{Stays, stay_dropped, walk_of}
use mir.Syntax.{ty_bool}
use mir.Val.{Val, of_list, vbool}
use prog.Memory.{Memory}
use prog.Routine.{Routine}
use prog.Wp.{WpFn}
use types.ByLocal.{alloc_all, env, free_all, get, get_in, lands_as, look_at, pass_all, sets}
use types.Kit.{‵, raw, ◌⊛◌, ⋆, some, later, prop, at_ret, ◌$◌, ◌∵◌, !, qed, await, by, done, drop, fjoin, fsplit}
use types.Kit.{group, join, keep, move, pick, regoal, split, use0, use1}
use types.Logic.{Logic, sem}
use types.Match.{live}
use types.Part.{agg, sub, whole}
use types.Run.{and_then, blocks, branches, enter, exec, first, fld, lit, no_more, of_opd, returns, returns_within}
use types.Run.{skips, stop}
use Rattle.std.proofs.ResultValues.{and_tt}
use Rattle.std.proofs.alloc.Calls.{Goes-blank}
use Rattle.std.proofs.cell.Inside.{Good}
use Rattle.std.proofs.option.Made.{Some-of, none_of}
use Rattle.std.proofs.raw_atomic.Walks.{leaves, proved_at}
use Rattle.std.specs.Prelude.{MatchOption}
use Rattle.std.specs.contracts.option.Option as option
use Rattle.std.specs.declared.option.Option.TheVariants.{None, Some}
use Rattle.std_alloc.specs.Box.Ownership.{box_owns}
use Rattle.cb_handle.proofs.HandleValues.{Boxed, Boxed-laws, Heap, Heap-laws, Inner, Shell}
use Rattle.cb_handle.proofs.HandleValues.{at_one_value, handle_told, heap_and_place, held_when_open, none_when_closed}
use Rattle.cb_handle.proofs.handle.boxed.Met.{met}
use Rattle.cb_handle.proofs.handle.opened.Code as code
use Rattle.cb_handle.proofs.handle.opened.Statement.{statement}
use Rattle.cb_handle.specs.Owning.{may_free}
use Rattle.cb_handle.specs.contracts.handle.boxed as boxed
use Rattle.cb_handle.specs.contracts.handle.opened as f
use Rattle.cb_handle.specs.declared.held.Held.{Held}

abbrev Perhaps : RattleType
Perhaps = option.the_row Boxed

-- the machine values of a box and of none
abbrev a_box : Val → Val
a_box word = live 1 (of_list (word ∷ []))

abbrev no_box : Val
no_box = live 0 (of_list [])

a_box_good : (word : Val) → Good (layout Boxed) word → Good (layout Perhaps) (a_box word)
a_box_good word good = (and_tt _ good.0, (record { fits = lit< tt }, (good.1, tt)))

no_box_good : Good (layout Perhaps) no_box
no_box_good = (tt, (record { fits = lit< tt }, tt))

abbrev stays : Stays f.ended.signature.params f.ended.kept
stays = (stay_dropped (plain (λ _. Heap)) yes, (stay_dropped (plain (λ _. Shell)) yes, tt))

module _ {M : Type 1} {𝓤 : Ura M} (𝓛 : Logic 𝓤) (memory : Memory → SProp 𝓤) (run : Routine → Fun 𝓤) where
  abbrev Making : Contract 𝓤
  Making = triple_of 𝓛 boxed.signature (boxed.spec 𝓛 memory run)

  module _ (alloc : Heap.Denot) (word : Val) (place : Ptr) (inside : Held) where
    abbrev call : Making.Ghost
    call = ((tt, tt, tt, (alloc, (place, tt)), (word ∷ [], (rawptr_vals place, tt))), inside)

    -- What an open handle owned is the box that the call asks for.
    asked : ent 𝓤 (⋆ 𝓛 (‵ (box_owns may_free Inner place inside) ∷ ‵ (Heap.own_val alloc (word ∷ [])) ∷ []))
        (Making.pre call)
    asked =
        qed 𝓛 (‵ (box_owns may_free Inner place inside) ∷ ‵ (Heap.own_val alloc (word ∷ [])) ∷ []) ∵ move ! (1 ∷ []) $
        use1 𝓛 (‵ (owns (Heap ∷ RawPtr ∷ []) call.0.3 call.0.4)) (heap_and_place 𝓛 alloc word place) $
        nothing ! $ join ! $ join ! $ done !

  module _ (passed : (walk_of 𝓛 f.ended stays (f.clauses 𝓛 memory run)).Ghost) where
    abbrev shell : Shell.Denot
    shell = passed.0.3.1.0

    abbrev AtReturn : Val → SProp 𝓤
    AtReturn = (walk_of 𝓛 f.ended stays (f.clauses 𝓛 memory run)).post passed

    -- A result that says what the handle held is the one that is promised.
    ends : (result : Perhaps.Denot) (word : Val)
        → MatchOption result (shell.held ≡ None) (λ box. shell.held ≡ Some box.value)
        → ent 𝓤 (sem 𝓛 (Perhaps.own_val result (word ∷ []))) (AtReturn word)
    ends result word told =
        qed 𝓛 (‵ (Perhaps.own_val result (word ∷ [])) ∷ []) ∵ use0 𝓛 (raw (fact 𝓤 _)) (fact_i 𝓤 _ (emp 𝓤) told) $
        nothing ! $ nothing ! $ fjoin ! $ nothing ! $ fjoin ! $ nothing ! $ move ! (0 ∷ 1 ∷ 3 ∷ 2 ∷ []) $
        by ! (leaves 𝓛 f.ended stays (f.clauses 𝓛 memory run) passed word result (tt, (tt, tt)) (tt, (tt, tt)))

    -- A box that holds what the handle held is such a result.
    ends_open : (made : Boxed.Denot) (word : Val) → shell.held ≡ Some made.value
        → ent 𝓤 (sem 𝓛 (Boxed.own_val made (word ∷ []))) (AtReturn (a_box word))
    ends_open made word told =
        qed 𝓛 (‵ (Boxed.own_val made (word ∷ [])) ∷ []) ∵
        use1 𝓛 (‵ (Perhaps.own_val (Some made) (a_box word ∷ []))) (Some-of 𝓛 Boxed made word) $
        by ! (ends (Some made) (a_box word) told)

    -- No box is one where the handle held nothing.
    ends_closed : shell.held ≡ None → ent 𝓤 (emp 𝓤) (AtReturn no_box)
    ends_closed told =
        qed 𝓛 [] ∵ use0 𝓛 (‵ (Perhaps.own_val None (no_box ∷ []))) (none_of 𝓛 Boxed) $ by ! (ends None no_box told)

pub opened_spec : {M : Type 1} → statement M
opened_spec 𝓤 𝓛 𝓜 𝓡 wired =
    let machine = tables 𝓤 𝓛.H 𝓜 𝓡 𝓡.env in
    let callee = Making 𝓛 𝓜.mem 𝓡.returns in
    let callee_is_met = met 𝓤 𝓛 𝓜 𝓡 (code.calls-cb_handle::handle::boxed 𝓡.env wired) in
    let heap_goes = Goes-blank 𝓛 0 (plain (λ _. Heap)) yes (λ κs x f. tt) in
    let handle_goes = Goes-blank 𝓛 0 (plain (λ _. Shell)) yes (λ κs x f. tt) in
    proved_at 𝓛 f.ended stays (f.clauses 𝓛 𝓜.mem 𝓡.returns) 𝓜 𝓡 (heap_goes, (handle_goes, tt))
    f.Key.name code.function (code.unfolded 𝓤 𝓛.H 𝓜 𝓡 wired) (λ passed are.
    let alloc = passed.0.3.0 in let shell = passed.0.3.1.0 in let place = shell.at in
    let place_good = ((rawptr_Lawful 𝓛).typed place (rawptr_vals place) refl).0 in
    let open_good : Good ty_bool (vbool shell.is_open) = (tt, tt) in
    let at_return = AtReturn 𝓛 𝓜.mem 𝓡.returns passed in
    let Runs = λ (words : List Val). prop (WpFn 𝓤 𝓛.H machine.C machine.Λ code.function words at_return) in
    qed 𝓛 ((‵ ftrue ⊛ ‵ (owns (Heap ∷ Shell ∷ []) passed.0.3 passed.0.4)) ∷ ‵ ftrue ∷ []) ∵
    split ! $ drop ! $ fsplit ! $ at_one_value ! Heap Heap-laws alloc passed.0.4.0 (λ heap_word is_heap heap_good.
    move ! (1 ∷ []) $ fsplit ! $ handle_told ! shell passed.0.4.1.0 (λ is_handle handle_good.
    regoal ! Runs (λ i. is_heap i ++ (is_handle i ++ [])) refl $ move ! (1 ∷ []) $ drop ! $
    -- [what the handle owns; the heap]
    enter ! _ _ _ _ _ $ alloc_all ! (λ l. pass_all ! refl (heap_good, (handle_good, tt)) $
    sets ! (of_opd ! (get_in ! (fld ! refl (stop !)) (sub ! 0 refl (whole !)))) refl place_good $
    sets ! (of_opd ! (get_in ! (fld ! refl (stop !)) (sub ! 1 refl (whole !)))) refl open_good $
    sets ! (of_opd ! (get ! refl)) refl open_good $ first ! $ branches ! (get ! refl)
    (λ is_open. held_when_open ! shell.is_open place shell.held is_open (λ inside is_held.
    let call = call 𝓛 𝓜.mem 𝓡.returns alloc heap_word place inside in
    group ! 2 $ use1 𝓛 (raw (callee.pre call)) (asked 𝓛 𝓜.mem 𝓡.returns alloc heap_word place inside) $
    blocks ! $ calls_at ! (framed 𝓤 𝓛.H 𝓜 machine) callee callee_is_met call
    (and_then ! (get ! refl) (and_then ! (get ! refl) (no_more !))) (λ result.
    use1 𝓛 (later (some (λ (made : Boxed.Denot). (‵ ftrue ⊛ ‵ (Boxed.own_val made (result ∷ []))) ⊛
    some (λ (last : Lasts boxed.ended call.0.0 call.0.3). ‵ (lasts boxed.ended call.0.0 call.0.3 last) ⊛
    raw (fact 𝓤 (made.value ≡ inside)))))) (id⊢ 𝓤 _) $
    await ! tt $ pick ! (λ made. split ! $ move ! (1 ∷ []) $ pick ! (λ last. split ! $ drop ! $
    heard ! (made.value ≡ inside) (λ same. split ! $ drop ! $
    -- [the box]
    at_one_value ! Boxed Boxed-laws made (result ∷ []) (λ word is_word good. lands_as ! (ap only is_word) refl good $
    sets ! (agg ! (and_then ! (lit ! tt) (and_then ! (get ! refl) (no_more !)))) refl (a_box_good word good) $
    returns_within ! at_return refl (look_at ! 0 refl) $ free_all ! refl $ keep ! (0 ∷ []) $
    by ! (ends_open 𝓛 𝓜.mem 𝓡.returns passed made word (is_held ∙ ap Some (sym same))))))))))
    (λ is_closed. none_when_closed ! shell.is_open place shell.held is_closed (λ is_none.
    skips ! $ exec ! machine.C machine.Λ (env code.function.locals l) code.Mir.t-5 (at_ret _ at_return) $
    sets ! (agg ! (and_then ! (lit ! tt) (no_more !))) refl no_box_good $
    returns ! (look_at ! 0 refl) $ free_all ! refl $ keep ! [] $
    by ! (ends_closed 𝓛 𝓜.mem 𝓡.returns passed is_none)))))))
