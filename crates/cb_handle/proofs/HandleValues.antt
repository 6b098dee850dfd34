-- A handle as the machine holds it, and what it owns. Assumes `Logic`.
--     Inner, Heap, Boxed, Shell     the types of what a box holds, of the heap, of the box, and of the handle
--     Passed, Passed-laws           a type as it is passed to a generic function
--     no_drop                       the drop of the heap, which does nothing, as it is passed
--     heap_and_place                the heap and a pointer, as a call takes them
--     stored, stored_fits           a handle's machine value, which is its pointer and its flag, has the handle's type
--     open_at, shut                 the handle that is open over a box at a place, and the one that is closed
--     made_of                       a handle is made of what stands behind it
--     made_open, made_shut          an open one of a box's contents and the right to free it, a closed one of nothing
--     at_one_value                  what is owned of a value is owned at one machine value
--     handle_told                   of a handle: its machine value, and what it owns beside its fields
--     held_when_open                of what a handle owns: a box where it is open
--     none_when_closed              and nothing is held where it is closed
use Rattle.std.proofs.Common.{◌≡◌, List, [], ◌∷◌, refl, subst}
use base.Logic.{emp, ent}
use denote.Exit.{no}
use denote.Laws.{Is, Typed, shows}
use denote.Param.{arg, layout, param}
use denote.Param.Laws.{Laws, arg_laws, param_laws}
use denote.Param.Steps.{one_value}
use denote.RattleType.{RattleType, owns}
use denote.RawPtr.{Ptr, RawPtr, rawptr_vals, null_ptr, ptr_val}
use denote.Steps.{nothing, peeks}
use denote.Struct.Laws.{makes}
use lib.Dec.{T}
use mathlib.Core.Bool.{Bool, not, false, true}
use mir.Raw.{raw}
use mir.Syntax.{Dict, dnil, impl, tcons, tnil}
use mir.Val.{Val, vbool}
use seplogic.Ra.Ura.{Ura}
use types.Kit.{Item, Goal, Seq, ‵, ◌$◌, ◌∵◌, !, qed, done, drop, feq_i, feq_l, fjoin, fsplit, move, use0, use1, use2}
use types.Logic.{Logic, sem}
use Rattle.std.proofs.alloc.Global.TheLaws as heap_type
use Rattle.std.proofs.cell.Inside.{Good}
use Rattle.std.specs.contracts.alloc.Global as heap
use Rattle.std.specs.contracts.impls.GlobalAllocator.TheImpl.{ghosts}
use Rattle.std.specs.declared.option.Option.{Option}
use Rattle.std.specs.declared.option.Option.TheVariants.{None, Some}
use Rattle.std_alloc.proofs.boxed.Box.TheLaws as box_type
use Rattle.std_alloc.specs.Box.Ownership.{box_owns}
use Rattle.std_alloc.specs.contracts.boxed.Box as box
use Rattle.cb_handle.proofs.handle.Handle.TheFields.TheLaws as field_laws
use Rattle.cb_handle.proofs.handle.Handle.TheLaws as handle_type
use Rattle.cb_handle.proofs.held.Held.TheLaws as held_type
use Rattle.cb_handle.specs.Owning.{held_at, may_free}
use Rattle.cb_handle.specs.contracts.handle.Handle as handle
use Rattle.cb_handle.specs.contracts.handle.Handle.TheFields as fields
use Rattle.cb_handle.specs.contracts.held.Held as held
use Rattle.cb_handle.specs.declared.held.Held.{Held}

abbrev pub Inner : RattleType
Inner = held.the_row

abbrev pub Inner-laws : Laws Inner
Inner-laws = held_type.the_row_laws

abbrev pub Heap : RattleType
Heap = heap.the_row

abbrev pub Heap-laws : Laws Heap
Heap-laws = heap_type.the_row_laws

abbrev pub Boxed : RattleType
Boxed = box.the_row Inner Heap ghosts

abbrev pub Boxed-laws : Laws Boxed
Boxed-laws = box_type.the_row_laws Inner Heap ghosts Inner-laws Heap-laws

abbrev pub Shell : RattleType
Shell = handle.the_row

abbrev pub Passed : RattleType → RattleType
Passed type = arg (raw (layout type)) no type

abbrev pub Passed-laws : (type : RattleType) → Laws type → raw (raw (layout type)) ≡ raw (layout type)
    → Laws (Passed type)
Passed-laws type laws bare = arg_laws (raw (layout type)) no type laws bare

-- the drop of the heap, which does nothing, as it is passed
abbrev pub no_drop : Dict
no_drop = impl ("cb_handle::Destruct++none::drop" ∷ []) (tcons (layout (Passed Heap)) tnil) dnil

abbrev pub handle_of : Ptr → Bool → Option Held → Shell.Denot
handle_of place is_open holds = record { at = place; is_open = is_open; held = holds }

abbrev pub open_at : Ptr → Held → Shell.Denot
open_at place inside = handle_of place true (Some inside)

abbrev pub shut : Shell.Denot
shut = handle_of null_ptr false None

abbrev fields_of : Ptr → Bool → fields.the_row.Denot
fields_of place is_open = record { at = place; is_open = is_open }

abbrev pub stored : Ptr → Bool → Val
stored place is_open = field_laws.lowered (fields_of place is_open)

-- What the fields own says no more than that they are stored so.
fields_say : (place : Ptr) (is_open : Bool)
    → Is fields.the_row (fields_of place is_open) (stored place is_open ∷ [])
fields_say place is_open =
    ((ptr_val place ∷ [], (vbool is_open ∷ [], tt)), (refl, (refl, (refl, tt))))

module _ {M : Type 1} {𝓤 : Ura M} (𝓛 : Logic 𝓤) where
  -- What is stored has the type of a handle.
  pub stored_fits : (place : Ptr) (is_open : Bool) → Good field_laws.mir (stored place is_open)
  stored_fits place is_open = ((field_laws.the_row_laws.lawful 𝓛).typed (fields_of place is_open)
      (stored place is_open ∷ []) (fields_say place is_open)).0

  -- The fields own nothing but a fact, so what `held_at` says is all that a handle needs.
  pub made_of : (place : Ptr) (is_open : Bool) (holds : Option Held) → ent 𝓤 (sem 𝓛 (held_at is_open place holds))
      (sem 𝓛 (Shell.own_val (handle_of place is_open holds) (stored place is_open ∷ [])))
  made_of place is_open holds =
      let shell = handle_of place is_open holds in
      let inner = fields_of place is_open in
      let words = stored place is_open ∷ [] in
      qed 𝓛 (‵ (held_at is_open place holds) ∷ []) ∵
      feq_i ! fields.the_row.Denot inner inner refl $ fjoin ! $
      use0 𝓛 (‵ (fields.the_row.own_val inner words))
      (makes fields.the_type field_laws.the_plain 𝓛 inner words (fields_say place is_open)) $
      use2 𝓛 (‵ (Shell.own_val shell words)) (field_laws.the_kept.joins M 𝓤 𝓛 shell inner words) $ done !

  -- A box's contents with the right to free it are all that an open handle needs.
  pub made_open : (place : Ptr) (inside : Held) → ent 𝓤 (sem 𝓛 (box_owns may_free Inner place inside))
      (sem 𝓛 (Shell.own_val (open_at place inside) (stored place true ∷ [])))
  made_open place inside =
      qed 𝓛 (‵ (box_owns may_free Inner place inside) ∷ []) ∵ feq_i ! Bool true true refl $ fjoin ! $
      use1 𝓛 (‵ (Shell.own_val (open_at place inside) (stored place true ∷ [])))
      (made_of place true (Some inside)) $ done !

  -- A closed handle needs nothing.
  pub made_shut : ent 𝓤 (emp 𝓤) (sem 𝓛 (Shell.own_val shut (stored null_ptr false ∷ [])))
  made_shut =
      qed 𝓛 [] ∵ feq_i ! Bool false false refl $
      use1 𝓛 (‵ (Shell.own_val shut (stored null_ptr false ∷ []))) (made_of null_ptr false None) $ done !

-- A pointer owns nothing, so the heap is all that a call which takes both is to be handed.
pub heap_and_place : {M : Type 1} {𝓤 : Ura M} (𝓛 : Logic 𝓤) (alloc : Heap.Denot) (word : Val) (place : Ptr)
    → ent 𝓤 (sem 𝓛 (Heap.own_val alloc (word ∷ [])))
    (sem 𝓛 (owns (Heap ∷ RawPtr ∷ []) (alloc, (place, tt)) (word ∷ [], (rawptr_vals place, tt))))
heap_and_place 𝓛 alloc word place = qed 𝓛 (‵ (Heap.own_val alloc (word ∷ [])) ∷ []) ∵ nothing ! $
    feq_i ! (List Val) (rawptr_vals place) (rawptr_vals place) refl $ fjoin ! $ move ! (1 ∷ 0 ∷ []) $ fjoin ! $ done !

module _ {M : Type 1} {𝓤 : Ura M} {𝓛 : Logic 𝓤}
    {K : Type 0} {Γ : List (Item 𝓤)} {G : Goal 𝓤 𝓛.H} where
  -- What is owned of a value is owned at one machine value, which has the type's layout.
  pub at_one_value : K → (type : RattleType) → Laws type → (value : type.Denot) (words : List Val)
      → ((word : Val) → words ≡ word ∷ [] → Good (layout type) word
      → Seq K 𝓛 (‵ (type.own_val value (word ∷ [])) ∷ Γ) G)
      → Seq K 𝓛 (‵ (type.own_val value words) ∷ Γ) G
  at_one_value t type laws value words rest =
      let Param = param 0 type in
      let Goes = λ (ws : List Val). Seq K 𝓛 (‵ (type.own_val value ws) ∷ Γ) G in
      peeks t Param (Is Param) (shows 𝓛 Param) value words (λ is.
      one_value (layout type)
      (λ ws. ((word : Val) → ws ≡ word ∷ [] → Good (layout type) word → Goes (word ∷ [])) → Goes ws)
      words (((param_laws 0 type laws).lawful 𝓛).typed value words is) (λ word good next. next word refl good) rest)

  -- The value of a handle says how it is stored. Beside its fields it owns what `held_at` says.
  pub handle_told : K → (shell : Shell.Denot) (words : List Val)
      → (words ≡ stored shell.at shell.is_open ∷ [] → Good handle_type.mir (stored shell.at shell.is_open)
      → Seq K 𝓛 (‵ (held_at shell.is_open shell.at shell.held) ∷ Γ) G)
      → Seq K 𝓛 (‵ (Shell.own_val shell words) ∷ Γ) G
  handle_told t shell words rest =
      peeks t Shell (Is Shell) (shows 𝓛 Shell) shell words (λ is.
      let are = handle_type.lowers.val_is shell words is in
      let typed = (handle_type.the_row_laws.lawful 𝓛).typed shell words is in
      fsplit t $ drop t $ rest are (subst (Typed (handle_type.mir ∷ [])) are typed).0)

  -- An open handle owns a box.
  pub held_when_open : K → (is_open : Bool) (at : Ptr) (holds : Option Held) → T is_open
      → ((inside : Held) → holds ≡ Some inside → Seq K 𝓛 (‵ (box_owns may_free Inner at inside) ∷ Γ) G)
      → Seq K 𝓛 (‵ (held_at is_open at holds) ∷ Γ) G
  held_when_open t is_open at None is_true rest = feq_l t (λ closed. absurd (subst T closed is_true))
  held_when_open t is_open at (Some inside) is_true rest = fsplit t $ feq_l t (λ _. rest inside refl)

  -- A closed handle holds nothing.
  pub none_when_closed : K → (is_open : Bool) (at : Ptr) (holds : Option Held) → T (not is_open)
      → (holds ≡ None → Seq K 𝓛 Γ G) → Seq K 𝓛 (‵ (held_at is_open at holds) ∷ Γ) G
  none_when_closed t is_open at None is_false rest = feq_l t (λ _. rest refl)
  none_when_closed t is_open at (Some inside) is_false rest =
      fsplit t $ feq_l t (λ opened. absurd (subst (λ (b : Bool). T (not b)) opened is_false))
