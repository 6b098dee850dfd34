-- The entries of all lists, one after another, as one map.
use Rattle.std.proofs.Common.{◌≡◌, ◌≢◌, ℕ, zero, suc, ◌+◌, ◌<◌, ◌==◌, true, false, cond, T, List, [], ◌∷◌, ◌++◌, length, map, sym, ◌∙◌, ap, arith, Some, None, refl, count_by}
use Rattle.std.specs.Ordering.{eq_by_cmp}
use Rattle.std.specs.FinMap.{find, is_sorted}
use Rattle.std.specs.FinMap.Entries.{below_all}
use Rattle.std.proofs.lemmas.Bool.Decides.{nat_tests}
use Rattle.std.proofs.lemmas.List.Sums.{sum_by-cons}
use Rattle.cb_times.specs.declared.name.Name.{Name}
use Rattle.cb_times.proofs.Entries.{both, both_hold}
use Rattle.cb_delay.specs.declared.message.Message.{Message}
use Rattle.cb_delay.specs.Message.{name_cmp}
use Rattle.cb_delay.specs.Lists.{entries_of, all_entries, IsRunFrom, IsRun, list_of}
use Rattle.cb_delay.proofs.Names.{is_lt-sender, is_lt-number}
use Rattle.cb_delay.proofs.Runs.{found, found-other}

-- the lists are those of the senders from this one on
abbrev pub AreRunsFrom : ℕ → ℕ → List (List Message) → Type 0
AreRunsFrom size base lists = (i sender : ℕ) → base + i ≡ sender → IsRun size sender (list_of lists i)

rest_of : (size base : ℕ) (list : List Message) (lists : List (List Message)) → AreRunsFrom size base (list ∷ lists) → AreRunsFrom size (suc base) lists
rest_of size base list lists runs i sender e = runs (suc i) sender (omega (arith, e))

find-skip : (list : List Message) (others : List (Name × Message)) (name : Name) → found name list ≡ None
    → find name_cmp name (entries_of list ++ others) ≡ find name_cmp name others
find-skip [] others name none = refl
find-skip (m ∷ list) others name none =
    elim (eq_by_cmp name_cmp name m.name)
    as (λ b. cond b (Some m) (found name list) ≡ None
    → cond b (Some m) (find name_cmp name (entries_of list ++ others)) ≡ find name_cmp name others) [
      | true ↦ λ h. cc
      | false ↦ λ h. find-skip list others name h
    ] none

find-stop : (list : List Message) (others : List (Name × Message)) (name : Name) → find name_cmp name others ≡ None
    → find name_cmp name (entries_of list ++ others) ≡ found name list
find-stop [] others name none = none
find-stop (m ∷ list) others name none = ap (cond (eq_by_cmp name_cmp name m.name) (Some m)) (find-stop list others name none)

find-before : (size base : ℕ) (lists : List (List Message)) (name : Name) → AreRunsFrom size base lists → name.sender < base
    → find name_cmp name (all_entries lists) ≡ None
find-before size base [] name runs before = refl
find-before size base (list ∷ lists) name runs before =
    let run = runs 0 base (omega arith) in
    find-skip list (all_entries lists) name (found-other size base run.0 list name run.1 (λ e. omega (arith, before, e)))
    ∙ find-before size (suc base) lists name (rest_of size base list lists runs) (omega (arith, before))

-- a name is looked up in its sender's list
pub find-all_entries : (size base i : ℕ) (lists : List (List Message)) (name : Name) → AreRunsFrom size base lists → base + i ≡ name.sender
    → find name_cmp name (all_entries lists) ≡ found name (list_of lists i)
find-all_entries size base i [] name runs e = refl
find-all_entries size base zero (list ∷ lists) name runs e =
    find-stop list (all_entries lists) name (find-before size (suc base) lists name (rest_of size base list lists runs) (omega (arith, e)))
find-all_entries size base (suc i) (list ∷ lists) name runs e =
    let run = runs 0 base (omega arith) in
    find-skip list (all_entries lists) name (found-other size base run.0 list name run.1 (λ same. omega (arith, e, same)))
    ∙ find-all_entries size (suc base) i lists name (rest_of size base list lists runs) (omega (arith, e))

below_run : (size sender number : ℕ) (list : List Message) (others : List (Name × Message)) (name : Name) → IsRunFrom size sender number list
    → name.sender ≡ sender → name.number < number → T (below_all name_cmp name others)
    → T (below_all name_cmp name (entries_of list ++ others))
below_run size sender number [] others name run of before rest = rest
below_run size sender number (m ∷ list) others name run of before rest =
    both _ _ (is_lt-number name m.name (of ∙ sym run.0) (omega (arith, before, run.1)))
    (below_run size sender (suc number) list others name run.3 of (omega (arith, before)) rest)

below_later : (size sender number : ℕ) (list : List Message) (others : List (Name × Message)) (name : Name) → IsRunFrom size sender number list
    → name.sender < sender → T (below_all name_cmp name others)
    → T (below_all name_cmp name (entries_of list ++ others))
below_later size sender number [] others name run before rest = rest
below_later size sender number (m ∷ list) others name run before rest =
    both _ _ (is_lt-sender name m.name (omega (arith, before, run.0)))
    (below_later size sender (suc number) list others name run.3 before rest)

below_lists : (size base : ℕ) (lists : List (List Message)) (name : Name) → AreRunsFrom size base lists → name.sender < base
    → T (below_all name_cmp name (all_entries lists))
below_lists size base [] name runs before = tt
below_lists size base (list ∷ lists) name runs before =
    let run = runs 0 base (omega arith) in
    below_later size base run.0 list (all_entries lists) name run.1 before
    (below_lists size (suc base) lists name (rest_of size base list lists runs) (omega (arith, before)))

sorted_run : (size sender number : ℕ) (list : List Message) (others : List (Name × Message)) → IsRunFrom size sender number list
    → ((name : Name) → name.sender ≡ sender → T (below_all name_cmp name others)) → T (is_sorted name_cmp others)
    → T (is_sorted name_cmp (entries_of list ++ others))
sorted_run size sender number [] others run before rest = rest
sorted_run size sender number (m ∷ list) others run before rest =
    both_hold _ _ (below_run size sender (suc number) list others m.name run.3 run.0 (omega (arith, run.1)) (before m.name run.0))
    (sorted_run size sender (suc number) list others run.3 before rest)

-- and so all entries are in the order of their names
pub sorted-all_entries : (size base : ℕ) (lists : List (List Message)) → AreRunsFrom size base lists → T (is_sorted name_cmp (all_entries lists))
sorted-all_entries size base [] runs = tt
sorted-all_entries size base (list ∷ lists) runs =
    let run = runs 0 base (omega arith) in
    let rest = rest_of size base list lists runs in
    sorted_run size base run.0 list (all_entries lists) run.1 (λ name of. below_lists size (suc base) lists name rest (omega (arith, of)))
    (sorted-all_entries size (suc base) lists rest)

-- how many names among the entries are of the sender
abbrev pub count_in : ℕ → List (Name × Message) → ℕ
count_in sender es = count_by (λ (name : Name). name.sender == sender) (map (λ e. e.0) es)

one_counted : (a b n l k : ℕ) → a ≡ b → n ≡ l + k → cond (a == b) 1 0 + n ≡ suc l + k
one_counted a b n l k same e = grind (arith, nat_tests)

none_counted : (a b n k : ℕ) → a ≢ b → n ≡ k → cond (a == b) 1 0 + n ≡ k
none_counted a b n k differ e = grind (arith, nat_tests)

count_in-cons : (sender : ℕ) (e : Name × Message) (es : List (Name × Message))
    → count_in sender (e ∷ es) ≡ cond (e.0.sender == sender) 1 0 + count_in sender es
count_in-cons sender e es = sum_by-cons (λ (name : Name). cond (name.sender == sender) 1 0) e.0 (map (λ x. x.0) es)

count_in-run : (size sender number : ℕ) (list : List Message) (others : List (Name × Message)) → IsRunFrom size sender number list
    → count_in sender (entries_of list ++ others) ≡ length list + count_in sender others
count_in-run size sender number [] others run = omega arith
count_in-run size sender number (m ∷ list) others run =
    count_in-cons sender (m.name, m) (entries_of list ++ others)
    ∙ one_counted m.name.sender sender (count_in sender (entries_of list ++ others)) (length list) (count_in sender others) run.0
    (count_in-run size sender (suc number) list others run.3)

count_in-other : (size sender number other : ℕ) (list : List Message) (others : List (Name × Message)) → IsRunFrom size sender number list
    → sender ≢ other → count_in other (entries_of list ++ others) ≡ count_in other others
count_in-other size sender number other [] others run differ = refl
count_in-other size sender number other (m ∷ list) others run differ =
    count_in-cons other (m.name, m) (entries_of list ++ others)
    ∙ none_counted m.name.sender other (count_in other (entries_of list ++ others)) (count_in other others) (λ e. differ (sym run.0 ∙ e))
    (count_in-other size sender (suc number) other list others run.3 differ)

count_in-before : (size base sender : ℕ) (lists : List (List Message)) → AreRunsFrom size base lists → sender < base
    → count_in sender (all_entries lists) ≡ 0
count_in-before size base sender [] runs before = refl
count_in-before size base sender (list ∷ lists) runs before =
    let run = runs 0 base (omega arith) in
    count_in-other size base run.0 sender list (all_entries lists) run.1 (λ e. omega (arith, before, e))
    ∙ count_in-before size (suc base) sender lists (rest_of size base list lists runs) (omega (arith, before))

-- as many as its list has messages
pub count_in-all_entries : (size base i sender : ℕ) (lists : List (List Message)) → AreRunsFrom size base lists → base + i ≡ sender
    → count_in sender (all_entries lists) ≡ length (list_of lists i)
count_in-all_entries size base i sender [] runs e = refl
count_in-all_entries size base zero sender (list ∷ lists) runs e =
    let of : base ≡ sender = omega (arith, e) in
    let run = runs 0 sender e in
    count_in-run size sender run.0 list (all_entries lists) run.1
    ∙ ap (λ n. length list + n) (count_in-before size (suc base) sender lists (rest_of size base list lists runs) (omega (arith, of)))
    ∙ omega arith
count_in-all_entries size base (suc i) sender (list ∷ lists) runs e =
    let run = runs 0 base (omega arith) in
    count_in-other size base run.0 sender list (all_entries lists) run.1 (λ same. omega (arith, e, same))
    ∙ count_in-all_entries size (suc base) i sender lists (rest_of size base list lists runs) (omega (arith, e))
