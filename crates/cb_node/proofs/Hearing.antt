-- What became of received bytes, and what a turn was hindered by.
use Rattle.std.proofs.Common.{◌≡◌, ℕ, List, Some, None, Result, Ok, Err, inr, refl, sym, ap, subst, ◌∙◌}
use Rattle.std.specs.Prelude.{MatchResult, OnOk, IfErr}
use Rattle.std.specs.Result.{result_and}
use Rattle.cb_history.specs.declared.answer.ArriveRefusal.{ArriveRefusal}
use Rattle.cb_history.specs.declared.answer.ArriveRefusal.TheVariants as arrivals
use Rattle.cb_journal.specs.declared.keeper.KeepFault.{KeepFault}
use Rattle.cb_node.specs.declared.fault.TurnFault.{TurnFault}
use Rattle.cb_node.specs.declared.fault.TurnFault.TheVariants as turns
use Rattle.cb_node.specs.declared.refused.Refused.{Refused}
use Rattle.cb_node.specs.Course.{MayRefuse, Work}
use Rattle.cb_node.specs.Desk.{HasHeard, IsHindered}
use Rattle.cb_node.specs.Kept.{KeptState, work_of}
use Rattle.cb_node.specs.Refusing.{HinderNone, hindrance, with_refusal}

-- no refusal hinders a turn as an entry does that could not be kept
not_by_keeping : (refusal : ArriveRefusal) (kept : KeepFault) → hindrance refusal ≡ Some (turns.NotKept kept) → ⊥
not_by_keeping arrivals.HistoryFull kept h = absurd cc
not_by_keeping arrivals.NoMemory kept h = absurd cc
not_by_keeping (arrivals.Malformed fault) kept h = absurd cc
not_by_keeping arrivals.OtherGroup kept h = absurd cc
not_by_keeping arrivals.BadMember kept h = absurd cc
not_by_keeping arrivals.Impossible kept h = absurd cc
not_by_keeping arrivals.Overlap kept h = absurd cc
not_by_keeping arrivals.TooFar kept h = absurd cc

-- what hinders no turn is counted elsewhere
pub none_hinders : (r : Refused) (refusal : ArriveRefusal) → hindrance refusal ≡ None → HinderNone r (with_refusal r refusal)
none_hinders r arrivals.HistoryFull h = absurd cc
none_hinders r arrivals.NoMemory h = absurd cc
none_hinders r (arrivals.Malformed fault) h = (refl, refl)
none_hinders r arrivals.OtherGroup h = (refl, refl)
none_hinders r arrivals.BadMember h = (refl, refl)
none_hinders r arrivals.Impossible h = (refl, refl)
none_hinders r arrivals.Overlap h = (refl, refl)
none_hinders r arrivals.TooFar h = (refl, refl)

-- a refusal was counted, and nothing else has changed
pub refused_work : (old mid : KeptState) (refusal : ArriveRefusal) (refused : Refused) → work_of mid ≡ work_of old → refused ≡ with_refusal mid.refused refusal
    → work_of (record mid { refused = refused }) ≡ record (work_of old) { refused = with_refusal old.refused refusal }
refused_work old mid refusal refused same counted =
    ap (λ (r : Refused). work_of (record mid { refused = r })) counted
    ∙ ap (λ (w : Work). let v : Work = record { member = w.member; post = w.post; refused = with_refusal w.refused refusal } in v) same

-- what a refusal answers
abbrev pub Answers : {U : Type 0} → ArriveRefusal → Result U TurnFault → Type 0
Answers refusal answer = MatchResult answer (λ _. hindrance refusal ≡ None) (λ fault. hindrance refusal ≡ Some fault)

pub refused_is_heard : {U : Type 0} (old new : Work) (bytes : List ℕ) (refusal : ArriveRefusal) (answer : Result U TurnFault) → MayRefuse old.member bytes refusal
    → new ≡ record old { refused = with_refusal old.refused refusal } → Answers refusal answer → OnOk answer (HasHeard old new bytes)
refused_is_heard old new bytes refusal (Ok x) may counted h = inr (record { refusal = refusal; may = may; counted = counted; hindrance_is = h })
refused_is_heard old new bytes refusal (Err fault) may counted h = tt

pub refused_hinders : {U : Type 0} (old new : KeptState) (bytes : List ℕ) (refusal : ArriveRefusal) (answer : Result U TurnFault) → MayRefuse old.kept bytes refusal
    → work_of new ≡ record (work_of old) { refused = with_refusal old.refused refusal } → Answers refusal answer → IfErr answer (IsHindered old new bytes)
refused_hinders old new bytes refusal (Ok x) may counted h = tt
refused_hinders old new bytes refusal (Err turns.HistoryFull) may counted h = record { refusal = refusal; may = may; counted = counted; hindrance_is = h }
refused_hinders old new bytes refusal (Err turns.NoMemory) may counted h = record { refusal = refusal; may = may; counted = counted; hindrance_is = h }
refused_hinders old new bytes refusal (Err (turns.NotKept kept)) may counted h = absurd (not_by_keeping refusal kept h)

pub refused_hinders_none : {U : Type 0} (old new : Refused) (refusal : ArriveRefusal) (answer : Result U TurnFault) → new ≡ with_refusal old refusal → Answers refusal answer → OnOk answer (HinderNone old new)
refused_hinders_none old new refusal (Ok x) counted h =
    let none = none_hinders old refusal h in
    (ap (λ (r : Refused). r.history_full) counted ∙ none.0, ap (λ (r : Refused). r.no_memory) counted ∙ none.1)
refused_hinders_none old new refusal (Err fault) counted h = tt

-- nothing was refused
pub same_hinders_none : (old new : Refused) → new ≡ old → HinderNone old new
same_hinders_none old new same = (ap (λ (r : Refused). r.history_full) same, ap (λ (r : Refused). r.no_memory) same)

pub hinders_none_then : (a b c : Refused) → HinderNone a b → HinderNone b c → HinderNone a c
hinders_none_then a b c first second = (second.0 ∙ first.0, second.1 ∙ first.1)

-- one behind the other, where the first hindrance is answered
and_none : {U : Type 0} (first second : Result U TurnFault) (a b c : Refused) → OnOk first (HinderNone a b) → OnOk second (HinderNone b c) → OnOk (result_and first second) (HinderNone a c)
and_none (Ok x) (Ok y) a b c one two = hinders_none_then a b c one two
and_none (Ok x) (Err fault) a b c one two = tt
and_none (Err fault) second a b c one two = tt

pub and_hinders_none : {U : Type 0} (first second both : Result U TurnFault) (a b c : Refused) → both ≡ result_and first second → OnOk first (HinderNone a b) → OnOk second (HinderNone b c) → OnOk both (HinderNone a c)
and_hinders_none {U} first second both a b c is one two =
    subst (λ (r : Result U TurnFault). OnOk r (HinderNone a c)) (sym is) (and_none first second a b c one two)

-- whatever was answered, nothing was refused
pub same_on_ok : {U : Type 0} (answer : Result U TurnFault) (old new : Refused) → new ≡ old → OnOk answer (HinderNone old new)
same_on_ok (Ok x) old new same = same_hinders_none old new same
same_on_ok (Err fault) old new same = tt

-- with nothing refused before it and behind it
pub hinders_none_between : {U : Type 0} (answer : Result U TurnFault) (a b c d : Refused) → b ≡ a → d ≡ c → OnOk answer (HinderNone b c) → OnOk answer (HinderNone a d)
hinders_none_between (Ok x) a b c d before after h = hinders_none_then a b d (same_hinders_none a b before) (hinders_none_then b c d h (same_hinders_none c d after))
hinders_none_between (Err fault) a b c d before after h = tt
