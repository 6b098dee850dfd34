-- How many messages the casts of a member carry.
use Rattle.std.proofs.Common.{◌≡◌, ℕ, ◌+◌, ◌≤◌, false, eqb, ltb, List, [], ◌∷◌, ◌++◌, length, Result, Ok, sym, subst, arith, inl, inr}
use Rattle.std.specs.List.{AllByRecursion}
use Rattle.std.proofs.lemmas.Bool.{cond_both, eqb-false, ltb-false}
use Rattle.cb_frames.specs.declared.frame.TheConstants.{LAST_NUMBER, LONGEST_PAYLOAD, MOST_MESSAGES}
use Rattle.cb_frames.specs.Fields.{Load, One, Many, IsSome, payloads_of, load_bytes, CastFields}
use Rattle.cb_frames.specs.Text.{KeepsLoadRules}
use Rattle.cb_frames.proofs.Carried.{one_has_some}
use Rattle.cb_diffs.specs.Expansion.{CarrySome}
use Rattle.cb_history.specs.CastFault.{CastFault}
use Rattle.cb_history.specs.Load.{FitsFrame}
use Rattle.cb_history.specs.Group.{Identity}
use Rattle.cb_history.specs.Facts.{EntryFields, Fact, OwnCast, CastReceived, StatusReceived, OwnStatus, facts_of, cast_in, casts_in}
use Rattle.cb_history.specs.Answers.{is_full, is_too_many, next_cast, cast_answer}
use Rattle.cb_history.specs.LegalFacts.{IsStep, AreLegalFacts, NoFacts, OneFactMore}
use Rattle.cb_history.specs.Singles.{IsSingle}
use Rattle.cb_history.specs.LoadLaws.{LoadsCastFit, LoadsThereFit, CastsCarrySome}
use Rattle.cb_history.proofs.Views.{IsIn, casts_in-append}

-- ---- casts of which each carries some message

pub some_at : (casts : List CastFields) (c : CastFields) → CarrySome casts → IsIn c casts → IsSome c.load
some_at [] c some there = absurd there
some_at (d ∷ casts) c some (inl same) = subst (λ (x : CastFields). IsSome x.load) (sym same) some.0
some_at (d ∷ casts) c some (inr later) = some_at casts c some.1 later

pub some_of_all : (casts : List CastFields) → AllByRecursion IsSingle casts → CarrySome casts
some_of_all [] single = tt
some_of_all (c ∷ casts) single = (one_has_some c.load single.0, some_of_all casts single.1)

-- ---- a load that is cast

-- what a cast that was answered says of its load
pub record IsCastOfLoad (seat : Identity) (entries : List EntryFields) (load : Load) (c : CastFields) : Type 0 where
  pub fits : FitsFrame load
  pub window : is_too_many seat (facts_of entries) (length (payloads_of load)) ≡ false
  pub next : c ≡ next_cast seat (facts_of entries) load

pub answered : (seat : Identity) (limit : ℕ) (entries : List EntryFields) (load : Load) (c : CastFields) → cast_answer seat limit entries load ≡ Ok c → IsCastOfLoad seat entries load c
unfolding cast_answer
answered seat limit entries load c =
    let n = length (payloads_of load) in
    let P : Result CastFields CastFault → Type 0 = λ r. r ≡ Ok c → IsCastOfLoad seat entries load c in
    cond_both (eqb n 0) _ _ P (λ _ h. absurd cc)
    (λ some. cond_both (ltb MOST_MESSAGES n) _ _ P (λ _ h. absurd cc)
    (λ few. cond_both (ltb LONGEST_PAYLOAD (length (load_bytes load))) _ _ P (λ _ h. absurd cc)
    (λ short. cond_both (is_too_many seat (facts_of entries) n) _ _ P (λ _ h. absurd cc)
    (λ window. cond_both (is_full limit entries) _ _ P (λ _ h. absurd cc)
    (λ _ h.
    let none = eqb-false n 0 some in
    record {
      fits = record { some = omega (arith, none); few = ltb-false MOST_MESSAGES n few; short = ltb-false LONGEST_PAYLOAD (length (load_bytes load)) short };
      window = window;
      next = cc;
    })))))

pub loads_cast_fit : LoadsCastFit
loads_cast_fit seat limit entries load c h = (answered seat limit entries load c h).fits

-- a load that fits its frame keeps the rules of a frame, where numbers are left for its messages
pub fitting_keeps_rules : (first : ℕ) (load : Load) → FitsFrame load → first + length (payloads_of load) ≤ LAST_NUMBER + 1 → KeepsLoadRules first load
fitting_keeps_rules first (One payload) fits last = tt
fitting_keeps_rules first (Many payloads) fits last = record { some = fits.some; few = fits.few; last = last }

-- ---- the casts of facts

all_behind : (P : CastFields → Type 0) (casts more : List CastFields) → AllByRecursion P casts → AllByRecursion P more → AllByRecursion P (casts ++ more)
all_behind P [] more all others = others
all_behind P (c ∷ casts) more all others = (all.0, all_behind P casts more all.1 others)

abbrev pub AllFit : List CastFields → Type 0
AllFit casts = AllByRecursion (λ c. FitsFrame c.load) casts

pub some_of_fitting : (casts : List CastFields) → AllFit casts → CarrySome casts
some_of_fitting [] fit = tt
some_of_fitting (c ∷ casts) fit = (fit.0.some, some_of_fitting casts fit.1)

step_fits : (seat : Identity) (facts : List Fact) (f : Fact) → IsStep seat facts f → AllFit (cast_in f)
step_fits seat facts (OwnCast c) step = (step.load, tt)
step_fits seat facts (CastReceived c) step = (step.load, tt)
step_fits seat facts (StatusReceived s) step = tt
step_fits seat facts (OwnStatus s) step = tt

pub all_fit : (seat : Identity) (facts : List Fact) → AreLegalFacts seat facts → AllFit (casts_in facts)
all_fit seat _ NoFacts = tt
all_fit seat _ (OneFactMore facts f before step) =
    subst AllFit (sym (casts_in-append facts f)) (all_behind (λ (c : CastFields). FitsFrame c.load) (casts_in facts) (cast_in f) (all_fit seat facts before) (step_fits seat facts f step))

pub loads_there_fit : LoadsThereFit
loads_there_fit seat facts are = all_fit seat facts are.facts_are

pub casts_carry_some : CastsCarrySome
casts_carry_some seat facts are = some_of_fitting (casts_in facts) (loads_there_fit seat facts are)
