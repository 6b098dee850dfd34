-- `closed` makes a handle of nothing.
use Rattle.std.proofs.Common.{◌≡◌, [], ◌∷◌, refl}
use base.Fml.{ftrue}
use base.Logic.{emp}
use contract.Monad.{fact, fact_i}
use denote.RawPtr.{null_ptr}
use denote.Triple.Walked.{Stays}
use mathlib.Core.Bool.{false}
use types.ByLocal.{alloc_all, free_all, look_at, pass_all, sets}
use types.Kit.{‵, raw, ◌⊛◌, ◌$◌, ◌∵◌, !, by, keep, qed, split, use0}
use types.Part.{agg}
use types.Run.{and_then, enter, false_lit, lit, no_more, returns}
use Rattle.std.proofs.raw_atomic.Walks.{leaves, proved}
use Rattle.std.specs.declared.option.Option.TheVariants.{None}
use Rattle.cb_handle.proofs.HandleValues.{Shell, made_shut, shut, stored, stored_fits}
use Rattle.cb_handle.proofs.handle.closed.Code as code
use Rattle.cb_handle.proofs.handle.closed.Statement.{statement}
use Rattle.cb_handle.specs.contracts.handle.closed as f

abbrev no_parameter : Stays f.ended.signature.params f.ended.kept
no_parameter = tt

pub closed_spec : {M : Type 1} → statement M
closed_spec 𝓤 𝓛 𝓜 𝓡 wired =
    let clauses = f.clauses 𝓛 𝓜.mem 𝓡.returns in
    let word = stored null_ptr false in
    proved 𝓛 f.ended no_parameter clauses 𝓜 𝓡 tt f.Key.name code.function (code.unfolded 𝓤 𝓛.H 𝓜 𝓡 wired)
    (λ κs. tt) (λ κs. tt) (λ κs qs bounds arguments ghost are.
    -- [no token and no argument; no `requires`]
    qed 𝓛 ((‵ ftrue ⊛ ‵ ftrue) ∷ ‵ ftrue ∷ []) ∵ split ! $
    enter ! _ _ _ _ _ $ alloc_all ! (λ locals. pass_all ! refl tt $
    sets ! (agg ! (and_then ! (lit ! tt) (and_then ! (false_lit !) (no_more !)))) refl (stored_fits 𝓛 null_ptr false) $
    returns ! (look_at ! 0 refl) $ free_all ! refl $
    -- the tokens, the parameters, the handle and what is said of it
    use0 𝓛 (raw (fact 𝓤 (shut.held ≡ None))) (fact_i 𝓤 _ (emp 𝓤) refl) $
    use0 𝓛 (‵ (Shell.own_val shut (word ∷ []))) (made_shut 𝓛) $ keep ! (2 ∷ 3 ∷ 0 ∷ 1 ∷ []) $
    by ! (leaves 𝓛 f.ended no_parameter clauses ((κs, qs, bounds, arguments, tt), ghost) word shut tt tt)))
