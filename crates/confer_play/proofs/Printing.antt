-- What is printed of a script, order by order.
use Rattle.std.proofs.Common.{◌≡◌, ℕ, zero, suc, ◌+◌, ◌≤◌, List, [], ◌∷◌, ◌++◌, length, map, drop, slice_get, Some, refl, sym, ap, subst, ◌∙◌, arith}
use Rattle.std.proofs.lemmas.List.{append-nil, append_assoc, drop_all}
use Rattle.cb_schedules.specs.Schedule.{Setting, IsSetting}
use Rattle.cb_world.specs.World.{WorldState}
use Rattle.confer_play.specs.declared.script.ScriptStep.{ScriptStep}
use Rattle.confer_play.specs.Playing.{ScriptOrder, order_of, new_group, Plays, NoOrders, OneAndThen, Prints, NothingMore, OneAndMore, PutsStep, PutsSteps, PutsRun, IsRunText}
use Rattle.confer_play.proofs.Scripts.{questions_come_first}

-- with what is printed of the orders that are left, the text has what is printed of all
abbrev pub Continues : WorldState → List ScriptOrder → List ℕ → ℕ → WorldState → List ScriptOrder → List ℕ → Type 0
Continues first all before number w orders text =
    (rest : List ℕ) (after : WorldState) → Prints w (suc number) orders rest after → PutsSteps first 1 all after before (text ++ rest)

pub begins : (w : WorldState) (orders : List ScriptOrder) (text : List ℕ) → Continues w orders text 0 w orders text
begins w orders text rest after prints = (rest, refl, prints)

pub goes_on : (first w next : WorldState) (all orders : List ScriptOrder) (order : ScriptOrder) (before text now : List ℕ) (number : ℕ) → Continues first all before number w (order ∷ orders) text
    → PutsStep (suc number) order w next text now → Continues first all before (suc number) next orders now
goes_on first w next all orders order before text now number whole step rest after prints =
    let (part, put, says, comes) = step in
    let one : PutsSteps first 1 all after before (text ++ (part ++ rest)) =
    whole (part ++ rest) after (OneAndMore w next after (suc number) order orders part rest comes says prints) in
    subst (PutsSteps first 1 all after before) (sym (append_assoc text part rest) ∙ sym (ap (λ (t : List ℕ). t ++ rest) put)) one

pub ends : (first w : WorldState) (all : List ScriptOrder) (before text : List ℕ) (number : ℕ) → Continues first all before number w [] text → PutsSteps first 1 all w before text
ends first w all before text number whole =
    subst (PutsSteps first 1 all w before) (append-nil text) (whole [] w (NothingMore w (suc number)))

-- ---- the steps of a script

drop_one : {X : Type 0} (xs : List X) (i : ℕ) (x : X) → slice_get xs i ≡ Some x → drop i xs ≡ x ∷ drop (suc i) xs
drop_one [] i x at = absurd (cc at)
drop_one (y ∷ ys) zero x at = let same : y ≡ x = cc in ap (λ z. z ∷ ys) same
drop_one (y ∷ ys) (suc i) x at = drop_one ys i x at

pub step_goes_on : (first w next : WorldState) (steps : List ScriptStep) (index number more : ℕ) (step : ScriptStep) (before text now : List ℕ) → slice_get steps index ≡ Some step → more ≡ suc number
    → Continues first (map order_of steps) before number w (map order_of (drop index steps)) text → PutsStep more (order_of step) w next text now
    → Continues first (map order_of steps) before more next (map order_of (drop (index + 1) steps)) now
step_goes_on first w next steps index number more step before text now at is whole put =
    let up : suc index ≡ index + 1 = omega arith in
    let left : map order_of (drop index steps) ≡ order_of step ∷ map order_of (drop (index + 1) steps) =
    ap (map order_of) (drop_one steps index step at) ∙ ap (λ (n : ℕ). order_of step ∷ map order_of (drop n steps)) up in
    subst (λ (n : ℕ). Continues first (map order_of steps) before n next (map order_of (drop (index + 1) steps)) now) (sym is)
    (goes_on first w next (map order_of steps) (map order_of (drop (index + 1) steps)) (order_of step) before text now number
    (subst (λ (orders : List ScriptOrder). Continues first (map order_of steps) before number w orders text) left whole)
    (subst (λ (n : ℕ). PutsStep n (order_of step) w next text now) is put))

pub steps_end : (first w : WorldState) (steps : List ScriptStep) (index number : ℕ) (before text : List ℕ) → length steps ≤ index
    → Continues first (map order_of steps) before number w (map order_of (drop index steps)) text → PutsSteps first 1 (map order_of steps) w before text
steps_end first w steps index number before text past whole =
    ends first w (map order_of steps) before text number (subst (λ (orders : List ScriptOrder). Continues first (map order_of steps) before number w orders text) (ap (map order_of) (drop_all index steps past)) whole)

plays : (w after : WorldState) (number : ℕ) (orders : List ScriptOrder) (text : List ℕ) → Prints w number orders text after → Plays w orders after
plays w after number [] text (NothingMore _ _) = NoOrders w
plays w after number (order ∷ orders) text (OneAndMore _ next _ _ _ _ part rest comes says prints) = OneAndThen w next after order orders comes (plays next after (suc number) orders rest prints)

run_text : (setting : Setting) (orders : List ScriptOrder) (after : WorldState) (text : List ℕ) → IsSetting setting → PutsRun (new_group setting) orders after [] text → IsRunText setting orders text
run_text setting orders after text is run =
    let (printed, members, put, prints) = run in
    record {
      printed = printed;
      members = members;
      text_is = put;
      after = after;
      prints = prints;
      questions = λ none. questions_come_first setting orders after is none (plays (new_group setting) after 1 orders printed prints);
    }

pub whole_run : (setting : Setting) (orders : List ScriptOrder) (w after : WorldState) (before text : List ℕ) → IsSetting setting → w ≡ new_group setting → before ≡ [] → PutsRun w orders after before text → IsRunText setting orders text
whole_run setting orders w after before text is new empty run =
    run_text setting orders after text is
    (subst (λ (b : List ℕ). PutsRun (new_group setting) orders after b text) empty (subst (λ (v : WorldState). PutsRun v orders after before text) new run))
