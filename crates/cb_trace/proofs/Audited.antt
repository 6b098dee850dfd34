-- The audit, from the histories in memory to its answer.
use Rattle.std.proofs.Common.{◌≡◌, ℕ, zero, suc, ◌+◌, ◌<◌, ◌≤◌, List, [], ◌∷◌, length, map, get_or, Option, Some, None, refl, sym, ap, subst, ◌∙◌, inl, inr, arith}
use Rattle.std.specs.Prelude.{slice_get, MatchOption}
use Rattle.std.proofs.lemmas.Bool.{cases_lt}
use Rattle.std.specs.Prelude.{bytes_eq, replicate}
use Rattle.std.specs.Map.{lookup}
use Rattle.std.proofs.lemmas.List.{length-map, length-replicate, get_or-replicate, get_or_past}
use Rattle.std.proofs.lemmas.Grind.{get_or_default_zero}
use Rattle.std.proofs.lemmas.Option.{slice_get_past, slice_get_within, slice_get_read}
use Rattle.cb_causality.proofs.Counting.{get_map}
use Rattle.cb_history.specs.declared.history.History.{History}
use Rattle.cb_history.specs.Group.{Parameters, AreParameters, Identity}
use Rattle.cb_history.specs.Facts.{EntryFields, entry_fields}
use Rattle.cb_history.specs.Legal.{longest_history, IsLegal}
use Rattle.cb_schedules.specs.Schedule.{Setting, IsSetting, run_from}
use Rattle.cb_schedules.specs.Headline.{Headline}
use Rattle.cb_schedules.proofs.Headlines.{each_schedule, headline_holds}
use Rattle.cb_world.specs.Steps.{step_fields}
use Rattle.cb_world.specs.World.{WorldState, run_in}
use Rattle.cb_trace.specs.declared.fault.AuditFault.TheVariants as audits
use Rattle.cb_trace.specs.declared.joining.Joining.{Joining}
use Rattle.cb_trace.specs.Text.{HistoryFields, history_fields}
use Rattle.cb_trace.specs.JointOrder.{gone, IsOrder, IsJointOrder, NothingTaken}
use Rattle.cb_trace.specs.JointRun.{IsFirstFrame, AreStepsOf, NoStep, AreLegalWithin}
use Rattle.cb_replay.specs.Replaying.{IsFirstWrong}
use Rattle.cb_trace.specs.Auditing.{seat_of, entries_in, entries_at, longest, AreOfEachMember, AreWrongMembers, IsWrongAnswer, AreLegalHistories, SaysFault, IsJoint, IsAudited, setting_of}
use Rattle.cb_trace.specs.Search.{NoneHas, HasLeft, IsFirstLeft, IsJoining, IsJoined}
use Rattle.cb_trace.proofs.Ordering.{within, greedy_orders_are_orders, joint_order_is_found}
use Rattle.cb_trace.proofs.JointRuns.{run_has_the_histories}

-- ---- histories in memory

pub history_at : (hs : List History) (k : ℕ) (x : History) → k < length hs → x ≡ get_or hs k x → slice_get (map history_fields hs) k ≡ Some (history_fields x)
history_at hs k x lt is = get_map history_fields hs k x (slice_get_read hs (length hs) k x refl lt is)

one_is : (a b : HistoryFields) → Some a ≡ Some b → a ≡ b
one_is a b e = cc

abbrev pub IsOf : Parameters → ℕ → HistoryFields → Type 0
IsOf group k h = (h.group ≡ group) × (h.me ≡ k)

pub each_more : (group : Parameters) (hs : List History) (k : ℕ) (x : History) → k < length hs → x ≡ get_or hs k x → ((i : ℕ) (h : HistoryFields) → i < k → slice_get (map history_fields hs) i ≡ Some h → IsOf group i h)
    → IsOf group k (history_fields x) → (i : ℕ) (h : HistoryFields) → i < k + 1 → slice_get (map history_fields hs) i ≡ Some h → IsOf group i h
each_more group hs k x lt is each one i h less at = elim (cases_lt i k) [
  | inl early ↦ each i h early at
  | inr late ↦
      let same : i ≡ k = omega (arith, less, late) in
      let there : slice_get (map history_fields hs) k ≡ Some h = subst (λ (j : ℕ). slice_get (map history_fields hs) j ≡ Some h) same at in
      let is_x : history_fields x ≡ h = one_is (history_fields x) h (sym (history_at hs k x lt is) ∙ there) in
      subst (λ (j : ℕ). IsOf group j h) (sym same) (subst (IsOf group k) is_x one)
]

pub all_of : (group : Parameters) (hs : List History) → AreParameters group → length hs ≡ group.size → ((i : ℕ) (h : HistoryFields) → i < length hs → slice_get (map history_fields hs) i ≡ Some h → IsOf group i h)
    → AreOfEachMember group (map history_fields hs)
all_of group hs are many each = record {
  parameters = are;
  many = length-map hs history_fields ∙ many;
  each = λ i h at. each i h (let inside = slice_get_within (map history_fields hs) i h at in let long = length-map hs history_fields in omega (arith, inside, long)) at;
}

pub not_of : (group : Parameters) (hs : List History) (k : ℕ) (x : History) → k < length hs → x ≡ get_or hs k x → ¬ IsOf group k (history_fields x) → ¬ AreOfEachMember group (map history_fields hs)
not_of group hs k x lt is wrong are = wrong (are.each k (history_fields x) (history_at hs k x lt is))

-- the group is that of the first history
pub none_other : (hs : List History) (x : History) → slice_get hs 0 ≡ Some x → ¬ AreOfEachMember x.group (map history_fields hs) → AreWrongMembers (map history_fields hs)
none_other hs x at wrong group are =
    let first : x.group ≡ group = (are.each 0 (history_fields x) (get_map history_fields hs 0 x at)).0 in
    wrong (subst (λ (g : Parameters). AreOfEachMember g (map history_fields hs)) (sym first) are)

pub none_at_all : (hs : List History) → slice_get hs 0 ≡ None → AreWrongMembers (map history_fields hs)
none_at_all [] at group are = let many : 0 ≡ group.size = are.many in let least = are.parameters.size in absurd (omega (arith, many, least))
none_at_all (x ∷ hs) at group are = absurd cc

-- ---- legal histories

pub at_least_one : (histories : List HistoryFields) → 1 ≤ longest histories
at_least_one [] = omega arith
at_least_one (h ∷ histories) = let rest = at_least_one histories in omega (arith, rest)

at_most_longest : (histories : List HistoryFields) (k : ℕ) → length (entries_at histories k) ≤ longest histories
at_most_longest [] k = omega arith
at_most_longest (h ∷ histories) zero = omega arith
at_most_longest (h ∷ histories) (suc k) = let rest = at_most_longest histories k in omega (arith, rest)

longest_most : (histories : List HistoryFields) (n : ℕ) → 1 ≤ n → ((k : ℕ) → length (entries_at histories k) ≤ n) → longest histories ≤ n
longest_most [] n one each = one
longest_most (h ∷ histories) n one each =
    let first : length h.entries ≤ n = each 0 in
    let rest = longest_most histories n one (λ k. each (suc k)) in
    omega (arith, first, rest)

module _ (group : Parameters) (histories : List HistoryFields) (are : AreLegalHistories group histories) where
  pub few_members : length histories ≤ 64
  few_members = let many = are.each.many in let most = are.each.parameters.size in omega (arith, many, most)

  beyond : (k : ℕ) → group.size ≤ k → entries_at histories k ≡ []
  beyond k le = ap entries_in (slice_get_past histories k (let many = are.each.many in omega (arith, le, many)))

  few_entries : (k : ℕ) → length (entries_at histories k) ≤ longest_history
  few_entries k = elim (cases_lt k group.size) [
    | inl lt ↦ (are.legal k lt).few
    | inr le ↦ let none = ap length (beyond k le) in omega (arith, none)
  ]

  pub limit_is : (1 ≤ longest histories) × (longest histories ≤ longest_history)
  limit_is = (at_least_one histories, longest_most histories longest_history (omega arith) few_entries)

  pub is_setting : IsSetting (setting_of group histories)
  is_setting = record { group = are.each.parameters; one_or_more = limit_is.0 }

  pub legal_within : AreLegalWithin (setting_of group histories) (entries_at histories)
  legal_within = record { legal = are.legal; nobody = beyond; few = at_most_longest histories }

  -- ---- the answer

  module _ (j : Joining) (joined : IsJoined (setting_of group histories) histories j) where
    abbrev order : List ℕ
    order = joined.joining.order

    order_is : IsOrder (entries_at histories) order
    order_is = greedy_orders_are_orders (entries_at histories) order joined.joining.greedy

    counted : (k : ℕ) → get_or j.gone.items k 0 ≡ gone order k
    counted = joined.joining.counts.each

    pub unsent : (k : ℕ) → IsFirstLeft (entries_at histories) j.gone.items k → SaysFault histories (audits.Unsent k (get_or j.gone.items k 0 + 1))
    unsent k first = (
      record {
        group = group;
        legal = are;
        order = order;
        greedy = joined.joining.greedy;
        stuck = joined.stuck;
        left = let left = first.left in let count = counted k in omega (arith, left, count);
        smallest = λ i lt.
            let most = within (entries_at histories) order order_is i in
            let none = first.smallest i lt in
            let count = counted i in
            omega (arith, most, none, count);
        place = ap (λ (n : ℕ). n + 1) (counted k);
      },
      λ joint whole.
          let all = (joint_order_is_found (entries_at histories) order joint order_is joined.stuck whole).all k in
          let left = first.left in
          let count = counted k in
          omega (arith, all, left, count),
    )

    -- the number of the next entry fits, and is read by any default
    pub few_gone : (k : ℕ) → IsFirstLeft (entries_at histories) j.gone.items k → get_or j.gone.items k 0 < longest_history
    few_gone k first = let left = first.left in let most = few_entries k in omega (arith, left, most)

    pub count_at : (k n : ℕ) → IsFirstLeft (entries_at histories) j.gone.items k → n ≡ get_or j.gone.items k n → n ≡ get_or j.gone.items k 0
    count_at k n first is =
        let inside : k < length j.gone.items = elim (cases_lt k (length j.gone.items)) [
          | inl lt ↦ lt
          | inr le ↦
              let many = joined.joining.counts.many in
              let none : entries_at histories k ≡ [] = ap entries_in (slice_get_past histories k (omega (arith, le, many))) in
              let left : get_or j.gone.items k 0 < 0 = subst (λ (es : List EntryFields). get_or j.gone.items k 0 < length es) none first.left in
              absurd (omega (arith, left))
        ] in
        is ∙ get_or_default_zero j.gone.items k n inside

    module _ (none : (k : ℕ) → ¬ HasLeft (entries_at histories) j.gone.items k) where
      joint_is : IsJointOrder (entries_at histories) order
      joint_is = record {
        order_is = order_is;
        all = λ k.
            let most = within (entries_at histories) order order_is k in
            let nothing = none k in
            let count = counted k in
            omega (arith, most, nothing, count);
      }

      is_joint : IsJoint histories (setting_of group histories) j.world.steps
      is_joint = record {
        legal = are;
        limit = refl;
        order = order;
        joint = joint_is;
        greedy = joined.joining.greedy;
        steps_are = joined.joining.steps_are;
      }

      audited_run : IsAudited histories (record { setting = setting_of group histories; steps = j.world.steps })
      audited_run = record {
        joint = is_joint;
        run = run_has_the_histories (setting_of group histories) (entries_at histories) order j.world.steps legal_within joint_is joined.joining.steps_are;
        headline = each_schedule Headline headline_holds (setting_of group histories) j.world.steps is_setting;
      }

      pub audited : IsAudited histories j.world
      audited =
          let same : record { setting = setting_of group histories; steps = j.world.steps } ≡ j.world = ap (λ (st : Setting). let w : WorldState = record { setting = st; steps = j.world.steps } in w) (sym joined.joining.setting_is) in
          subst (IsAudited histories) same audited_run

-- ---- the first wrong answer

module _ (group : Parameters) (hs : List History) (are : AreOfEachMember group (map history_fields hs)) (k : ℕ) (x : History) (lt : k < length hs) (is : x ≡ get_or hs k x) where
  is_of : IsOf group k (history_fields x)
  is_of = are.each k (history_fields x) (history_at hs k x lt is)

  inside : k < group.size
  inside = let many = are.many in let long = length-map hs history_fields in omega (arith, lt, many, long)

  pub me_inside : x.me < x.group.size
  me_inside =
      let size = ap (λ (g : Parameters). g.size) is_of.0 in
      let me = is_of.1 in
      let lt = inside in
      omega (arith, lt, me, size)

  seat_is : seat_of x.group x.me ≡ seat_of group k
  seat_is = ap (λ (g : Parameters). seat_of g x.me) is_of.0 ∙ ap (seat_of group) is_of.1

  entries_are : entries_at (map history_fields hs) k ≡ map entry_fields x.entries.items
  entries_are = ap entries_in (history_at hs k x lt is)

  pub legal_more : ((i : ℕ) → i < k → IsLegal (seat_of group i) (entries_at (map history_fields hs) i)) → IsLegal (seat_of x.group x.me) (map entry_fields x.entries.items)
      → (i : ℕ) → i < k + 1 → IsLegal (seat_of group i) (entries_at (map history_fields hs) i)
  legal_more before legal i less = elim (cases_lt i k) [
    | inl early ↦ before i early
    | inr late ↦
        let same : i ≡ k = omega (arith, less, late) in
        let here : IsLegal (seat_of group k) (entries_at (map history_fields hs) k) = subst (IsLegal (seat_of group k)) (sym entries_are) (subst (λ (s : Identity). IsLegal s (map entry_fields x.entries.items)) seat_is legal) in
        subst (λ (j : ℕ). IsLegal (seat_of group j) (entries_at (map history_fields hs) j)) (sym same) here
  ]

  pub wrong_here : (entry : ℕ) → ((i : ℕ) → i < k → IsLegal (seat_of group i) (entries_at (map history_fields hs) i)) → IsFirstWrong (seat_of x.group x.me) (map entry_fields x.entries.items) entry
      → IsWrongAnswer (map history_fields hs) x.me entry
  wrong_here entry before wrong =
      let here : IsFirstWrong (seat_of group k) (entries_at (map history_fields hs) k) entry =
      subst (λ (es : List EntryFields). IsFirstWrong (seat_of group k) es entry) (sym entries_are) (subst (λ (s : Identity). IsFirstWrong s (map entry_fields x.entries.items) entry) seat_is wrong) in
      subst (λ (m : ℕ). IsWrongAnswer (map history_fields hs) m entry) (sym is_of.1) (record { group = group; each = are; within = inside; before = before; first = here })

-- the group, which all agree on
pub all_legal : (group : Parameters) (hs : List History) → AreOfEachMember group (map history_fields hs) → ((i : ℕ) → i < length hs → IsLegal (seat_of group i) (entries_at (map history_fields hs) i))
    → AreLegalHistories group (map history_fields hs)
all_legal group hs are each = record {
  each = are;
  legal = λ i lt. each i (let many = are.many in let long = length-map hs history_fields in omega (arith, lt, many, long));
}

-- ---- the start

pub zeros : (n k : ℕ) → get_or (replicate {A = ℕ} n 0) k 0 ≡ 0
zeros n k = elim (cases_lt k n) [
  | inl lt ↦ get_or-replicate {A = ℕ} n k 0 0 lt
  | inr le ↦ get_or_past (replicate {A = ℕ} n 0) k 0 (let long = length-replicate {A = ℕ} n 0 in omega (arith, le, long))
]

pub starts_search : (group : Parameters) (limit : ℕ) (j : Joining) → j.world ≡ record { setting = record { group = group; limit = limit }; steps = [] } → j.steps.items ≡ [] → ((k : ℕ) → get_or j.gone.items k 0 ≡ 0)
    → j.first_frames.entries ≡ [] → (histories : List HistoryFields) → length j.gone.items ≡ length histories → IsJoining (record { group = group; limit = limit }) histories j
unfolding run_from
starts_search group limit j world steps zeros empty histories many = record {
  setting_is = ap (λ (w : WorldState). w.setting) world;
  order = [];
  greedy = NothingTaken;
  steps_are = subst (AreStepsOf (record { group = group; limit = limit }) (entries_at histories) []) (sym (ap (λ (w : WorldState). w.steps) world)) NoStep;
  copied = ap (map step_fields) steps ∙ sym (ap (λ (w : WorldState). w.steps) world);
  counts = record { many = many; each = zeros };
  frames = λ bytes.
      let none : NoneHas (run_in j.world).sent bytes = λ i f at. absurd (let nothing : Some f ≡ None = sym at ∙ ap (λ (w : WorldState). slice_get (run_in w).sent i) world in cc) in
      subst (λ (o : Option ℕ). MatchOption o (NoneHas (run_in j.world).sent bytes) (IsFirstFrame (run_in j.world).sent bytes)) (sym (ap (lookup (bytes_eq bytes)) empty)) none;
}
