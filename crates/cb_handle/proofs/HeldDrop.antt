-- Letting a `Held` go is what a generic function asks of the drop of its type parameter. Assumes `Logic`.
--     held_drop     the drop of a `Held`, as it is passed
--     held_goes     it asks nothing of the value, and nothing is said of it afterwards
use Rattle.std.proofs.Common.{[], ◌∷◌, refl}
use base.Fml.{ftrue, fsep}
use base.Logic.{SProp, emp, emp∗, ent, sep}
use contract.Running.{Running}
use denote.Param.Glue as drops
use denote.Steps.{nothing}
use denote.Triple.Carry.{beside, spared}
use denote.Triple.Spec.{Spec, triple_of}
use denote.Triple.Table.{run_framed, widened}
use mir.Syntax.{Callee, Dict, dnil, impl, method, no_args, tnil}
use prog.Model.{Model}
use prog.Wired.{Wired}
use seplogic.Ra.Ura.{Ura}
use types.Kit.{raw, ◌$◌, ◌∵◌, !, done, drop, fjoin, join, qed, show}
use types.Logic.{Logic, sem}
use Rattle.cb_handle.proofs.HandleValues.{Inner, Passed}
use Rattle.cb_handle.proofs.cb_handle++held++Held+Destruct.drop.Met as drop_met
use Rattle.cb_handle.proofs.cb_handle++held++Held+Destruct.drop.Symbol as drop_symbol
use Rattle.cb_handle.specs.contracts.cb_handle++held++Held+Destruct.drop as held_dropped

abbrev pub held_drop : Dict
held_drop = impl ("cb_handle::cb_handle++held++Held+Destruct::drop" ∷ []) tnil dnil

abbrev called : Callee
called = method held_drop 0 no_args

module _ {M : Type 1} {𝓤 : Ura M} (𝓛 : Logic 𝓤) where
  -- Of a value that is let go nothing is left to say.
  nothing_left : (before : SProp 𝓤) (value : Inner.Denot)
      → ent 𝓤 before (((drops.spent 𝓛 (Passed Inner)) ([], tt) (value, tt)).ensures tt tt)
  nothing_left before value = qed 𝓛 (raw before ∷ []) ∵ drop ! $
      show ! (λ (last : Unit {0} × Unit {0}). sep 𝓤 (sem 𝓛 (fsep ftrue ftrue)) (emp 𝓤)) (tt, tt) $
      nothing ! $ nothing ! $ nothing ! $ fjoin ! $ join ! $ done !

  module _ (𝓜 : Model 𝓤 𝓛.H) (𝓡 : Running 𝓤 𝓛.H 𝓜) where
    abbrev said : Spec 𝓤 held_dropped.signature
    said = held_dropped.spec 𝓛 𝓜.mem 𝓡.returns

    -- what is left of it where nothing is said of the value
    abbrev silent : Spec 𝓤 held_dropped.signature
    silent κs dropped = record {
      ghost = Unit {0};
      requires = λ _. emp 𝓤;
      ensures = λ _. ((drops.spent 𝓛 (Passed Inner)) ([], tt) dropped).ensures tt;
    }

    -- The drop is reached by its name as well as through the type parameter, and needs no lifetime.
    pub held_goes : Wired 𝓡.env drop_symbol.code → drops.Met 𝓛 𝓜 𝓡 𝓡.env (Passed Inner) held_drop
    held_goes wired call =
        let signature = held_dropped.signature in
        let run = 𝓡.run (𝓡.env called) in
        let framed = run_framed 𝓤 𝓛.H 𝓜 𝓡 (𝓡.env called) in
        let by_name = drop_met.met 𝓤 𝓛 𝓜 𝓡 wired in
        let as_called = widened 𝓤 𝓛.H (triple_of 𝓛 signature said) 𝓜 𝓡 𝓡.env (𝓡.env drop_symbol.name) (𝓡.env called)
        (drop_symbol.as_method 𝓡.env wired called refl) by_name in
        let silently = beside 𝓛 signature run framed said silent (λ κs dropped _. tt) (λ κs dropped _. emp 𝓤)
        (λ κs dropped _. emp∗ 𝓤 (emp 𝓤)) (λ κs dropped _ _. nothing_left _ dropped.0) as_called in
        spared 𝓛 signature run framed 1 (Inner.lives, tt) silent silently
        ((call.0.0, call.0.1, tt, call.0.3, call.0.4), call.1)
