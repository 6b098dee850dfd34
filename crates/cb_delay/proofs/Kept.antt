-- What the lists of a queue say of the queue that they are.
use Rattle.std.proofs.Common.{◌≡◌, ◌≢◌, ℕ, suc, ◌+◌, ◌-◌, ◌<◌, ◌≤◌, true, false, cond, T, List, [], ◌∷◌, ◌++◌, length, sym, ◌∙◌, ap, subst, arith, Some, None, get_or, refl, inl, inr}
use Rattle.std.specs.Prelude.{Option, IsSome, All}
use Rattle.std.specs.Ordering.{eq_by_cmp}
use Rattle.std.specs.FinMap as fin
use Rattle.std.specs.FinMap.Entries.{find-append}
use Rattle.std.proofs.Math.ListN.{set, length-set}
use Rattle.std.proofs.lemmas.List.{get_or-set_same, get_or-set_other, map-append, length-append}
use Rattle.std.proofs.lemmas.Bool.Decides.{eqb_tells}
use Rattle.cb_times.specs.Group.{IsGroupSize}
use Rattle.cb_times.specs.declared.name.Name.{Name}
use Rattle.cb_times.proofs.Entries.{value_of}
use Rattle.cb_delay.specs.declared.message.Message.{Message}
use Rattle.cb_delay.specs.Message.{name_cmp, IsOfGroup}
use Rattle.cb_delay.specs.Queue.{HasReady, IsHeld, count_of, IsFirst, FollowsLast, AreInARow, IsDelayQueue}
use Rattle.cb_delay.specs.Lists.{entries_of, all_entries, IsRun, list_of, AreLists, queue_of, HasSomeReady}
use Rattle.cb_delay.proofs.Names.{names_total, exact_names, eq_by_cmp-sender, eq_by_cmp-true}
use Rattle.cb_delay.proofs.Runs.{found, IsFound, found-below, found-above, found-within, is_found, run_push, is_at, found_at, place_of}
use Rattle.cb_delay.proofs.Entries.{AreRunsFrom, find-all_entries, sorted-all_entries, count_in, count_in-all_entries}

pub one_name : (a b : Name) → a.sender ≡ b.sender → a.number ≡ b.number → a ≡ b
one_name a b s n = λ i. record { sender = s i; number = n i }

module _ (window : ℕ) (lists : List (List Message)) (are : AreLists window lists) where
  runs_from_0 : AreRunsFrom (length lists) 0 lists
  runs_from_0 i sender e =
      let same : sender ≡ i = omega (arith, e) in
      subst (λ (x : ℕ). IsRun (length lists) sender (list_of lists x)) same (are.runs sender)

  pub sorted : T (fin.is_sorted name_cmp (all_entries lists))
  sorted = sorted-all_entries (length lists) 0 lists runs_from_0

  -- the queue has at a name what its sender's list has
  pub get-held : (name : Name) → fin.get (queue_of window lists).held name ≡ found name (list_of lists name.sender)
  get-held name =
      fin.get-from_sorted name_cmp (all_entries lists) name sorted
      ∙ find-all_entries (length lists) 0 name.sender lists name runs_from_0 (omega arith)

  pub held_of_found : (sender : ℕ) (message : Message) → message.name.sender ≡ sender
      → found message.name (list_of lists sender) ≡ Some message → IsHeld (queue_of window lists) message
  held_of_found sender message of h =
      get-held message.name ∙ ap (λ s. found message.name (list_of lists s)) of ∙ h

  pub found_of_held : (sender : ℕ) (name : Name) (message : Message) → name.sender ≡ sender
      → fin.get (queue_of window lists).held name ≡ Some message → found name (list_of lists sender) ≡ Some message
  found_of_held sender name message of h =
      sym (ap (λ s. found name (list_of lists s)) of) ∙ sym (get-held name) ∙ h

  pub count-held : (sender : ℕ) → count_of (queue_of window lists) sender ≡ length (list_of lists sender)
  count-held sender =
      ap (count_in sender) (fin.entries-from_sorted name_cmp (all_entries lists) sorted)
      ∙ count_in-all_entries (length lists) 0 sender sender lists runs_from_0 (omega arith)

  found_for : (name : Name) (message : Message) → fin.get (queue_of window lists).held name ≡ Some message
      → IsFound (length lists) name.sender (are.runs name.sender).0 (list_of lists name.sender) name message
  found_for name message h =
      is_found (length lists) name.sender (are.runs name.sender).0 (list_of lists name.sender) name message (are.runs name.sender).1
      (found_of_held name.sender name message refl h)

  in_a_row : (sender : ℕ) → AreInARow (queue_of window lists) sender
  in_a_row sender =
      let first = (are.runs sender).0 in (
        first,
        λ number.
            let name : Name = record { sender = sender; number = number } in (
              (λ some. let v = value_of (fin.get (queue_of window lists).held name) some in
                  let f = found_for name v.0 v.1 in
                  (f.from, omega (arith, f.below, count-held sender))),
              (λ within. subst (λ (o : Option Message). IsSome o) (sym (get-held name))
                  (found-within (length lists) sender first (list_of lists sender) name (are.runs sender).1 refl within.0
                  (omega (arith, within.1, count-held sender)))),
            ),
      )

  pub is_delay_queue : IsDelayQueue (queue_of window lists)
  is_delay_queue = record {
    by_name = λ name message h. let f = found_for name message h in one_name message.name name f.same_sender f.same_number;
    of_group = λ message h. (found_for message.name message h).of_group;
    in_a_row = in_a_row;
    room = λ sender. subst (λ (n : ℕ). n ≤ window) (sym (count-held sender)) (are.room sender);
  }

  -- the message at a place of a sender's list is held
  pub held_at : (sender k : ℕ) (d : Message) → k < length (list_of lists sender)
      → IsHeld (queue_of window lists) (get_or (list_of lists sender) k d)
  held_at sender k d within =
      let run = are.runs sender in
      held_of_found sender (get_or (list_of lists sender) k d)
      (is_at (length lists) sender run.0 (list_of lists sender) k d run.1 within).of_sender
      (found_at (length lists) sender run.0 (list_of lists sender) k d run.1 within)

  -- a name that follows the last one held has the number after the sender's list
  next_number : (name : Name) (x : Message) → FollowsLast (queue_of window lists) name → 0 < length (list_of lists name.sender)
      → name.number ≡ (are.runs name.sender).0 + length (list_of lists name.sender)
  next_number name x follows some =
      let run = are.runs name.sender in
      let list = list_of lists name.sender in
      let k = length list - 1 in
      let within : k < length list = omega (arith, some) in
      let here = is_at (length lists) name.sender run.0 list k x run.1 within in
      let next = follows (get_or list k x) (record {
        held = held_at name.sender k x within;
        of_sender = here.of_sender;
        greatest = λ other h of.
            let f = is_found (length lists) name.sender run.0 list other.name other run.1 (found_of_held name.sender other.name other of h) in
            omega (arith, f.below, here.numbered, within);
      }) in
      omega (arith, next, here.numbered, some)

found-next : (size sender : ℕ) (list : List Message) (name : Name) (run : IsRun size sender list)
    → (0 < length list → name.number ≡ run.0 + length list) → found name list ≡ None
found-next size sender [] name run next = refl
found-next size sender (m ∷ list) name run next = found-above size sender run.0 (m ∷ list) name run.1 (omega (arith, next (omega arith)))

run_grown : (size sender : ℕ) (list : List Message) (message : Message) (run : IsRun size sender list)
    → (0 < length list → message.name.number ≡ run.0 + length list) → message.name.sender ≡ sender → IsOfGroup size message
    → IsRun size sender (list ++ message ∷ [])
run_grown size sender [] message run next of group = (message.name.number, run_push size sender message.name.number [] message tt of (omega arith) group)
run_grown size sender (m ∷ list) message run next of group = (run.0, run_push size sender run.0 (m ∷ list) message run.1 of (next (omega arith)) group)

module _ (window : ℕ) (lists : List (List Message)) (are : AreLists window lists) (sender : ℕ) (list : List Message) where
  list_of-set : sender < length lists → list_of (set lists sender list) sender ≡ list
  list_of-set within = get_or-set_same lists sender list [] within

  list_of-set_other : (other : ℕ) → other ≢ sender → list_of (set lists sender list) other ≡ list_of lists other
  list_of-set_other other differ = get_or-set_other lists sender other list [] differ

  -- a sender's list may be exchanged for another run of that sender
  pub lists_with : sender < length lists → IsRun (length lists) sender list → length list ≤ window → AreLists window (set lists sender list)
  lists_with within run room =
      let same_length : length (set lists sender list) ≡ length lists = length-set lists sender list in
      record {
        group = subst IsGroupSize (sym same_length) are.group;
        width = are.width;
        runs = λ other. subst (λ (n : ℕ). IsRun n other (list_of (set lists sender list) other)) (sym same_length)
            (elim (eqb_tells other sender) [
              | inl at ↦
                  let to : sender ≡ other = sym at.1 in
                  subst (λ (o : ℕ). IsRun (length lists) o (list_of (set lists sender list) o)) to
                  (subst (λ (l : List Message). IsRun (length lists) sender l) (sym (list_of-set within)) run)
              | inr apart ↦
                  subst (λ (l : List Message). IsRun (length lists) other l) (sym (list_of-set_other other apart.1)) (are.runs other)
            ]);
        room = λ other.
            elim (eqb_tells other sender) [
              | inl at ↦
                  let to : sender ≡ other = sym at.1 in
                  subst (λ (o : ℕ). length (list_of (set lists sender list) o) ≤ window) to
                  (subst (λ (l : List Message). length l ≤ window) (sym (list_of-set within)) room)
              | inr apart ↦
                  subst (λ (l : List Message). length l ≤ window) (sym (list_of-set_other other apart.1)) (are.room other)
            ];
      }

  -- and then the queue holds what each look-up says
  pub queue_with : (within : sender < length lists) (with : AreLists window (set lists sender list)) (held : fin.FinMap name_cmp Message)
      → ((name : Name) → name.sender ≡ sender → found name list ≡ fin.get held name)
      → ((name : Name) → name.sender ≢ sender → found name (list_of lists name.sender) ≡ fin.get held name)
      → queue_of window (set lists sender list) ≡ record { size = length lists; window = window; held = held; looked = 0; settled = None }
  queue_with within with held here elsewhere =
      let same : (queue_of window (set lists sender list)).held ≡ held =
      fin.same_map names_total exact_names _ _ (λ name.
      get-held window (set lists sender list) with name
      ∙ elim (eqb_tells name.sender sender) [
        | inl at ↦ ap (λ o. found name (list_of (set lists sender list) o)) at.1 ∙ ap (λ l. found name l) (list_of-set within) ∙ here name at.1
        | inr apart ↦ ap (λ l. found name l) (list_of-set_other name.sender apart.1) ∙ elsewhere name apart.1
      ]) in
      let size = length-set lists sender list in
      λ i. record { size = size i; window = window; held = same i; looked = 0; settled = None }

-- holding a message appends it to its sender's list
pub lists_holding : (window : ℕ) (lists : List (List Message)) (are : AreLists window lists) (message : Message)
    → IsOfGroup (length lists) message → count_of (queue_of window lists) message.name.sender < window
    → FollowsLast (queue_of window lists) message.name
    → AreLists window (set lists message.name.sender (list_of lists message.name.sender ++ message ∷ []))
lists_holding window lists are message group room follows =
    let list = list_of lists message.name.sender in
    lists_with window lists are message.name.sender (list ++ message ∷ []) group.sender
    (run_grown (length lists) message.name.sender list message (are.runs message.name.sender)
    (next_number window lists are message.name message follows) refl group)
    (omega (arith, length-append list (message ∷ []), room, count-held window lists are message.name.sender))

pub queue_holding : (window : ℕ) (lists : List (List Message)) (are : AreLists window lists) (message : Message)
    → IsOfGroup (length lists) message → count_of (queue_of window lists) message.name.sender < window
    → FollowsLast (queue_of window lists) message.name
    → queue_of window (set lists message.name.sender (list_of lists message.name.sender ++ message ∷ []))
    ≡ record { size = length lists; window = window; held = fin.insert (queue_of window lists).held message.name message; looked = 0; settled = None }
queue_holding window lists are message group room follows =
    let list = list_of lists message.name.sender in
    let run = are.runs message.name.sender in
    let held = (queue_of window lists).held in
    queue_with window lists are message.name.sender (list ++ message ∷ []) group.sender
    (lists_holding window lists are message group room follows) (fin.insert held message.name message)
    (λ name of.
    let new = found-next (length lists) message.name.sender list message.name run (next_number window lists are message.name message follows) in
    ap (λ es. fin.find name_cmp name es) (map-append (λ (m : Message). (m.name, m)) list (message ∷ []))
    ∙ find-append name_cmp names_total (entries_of list) message.name message name new
    ∙ ap (cond (eq_by_cmp name_cmp name message.name) (Some message)) (ap (λ s. found name (list_of lists s)) (sym of) ∙ sym (get-held window lists are name))
    ∙ sym (fin.get-insert names_total held message.name message name))
    (λ name apart.
    sym (fin.get-insert names_total held message.name message name
    ∙ rw (eq_by_cmp-sender name message.name apart) (get-held window lists are name)))

-- releasing takes the front of the sender's list
run_rest : (size sender : ℕ) (first : Message) (list : List Message) → IsRun size sender (first ∷ list) → IsRun size sender list
run_rest size sender first list run = (suc run.0, run.1.3)

pub lists_releasing : (window : ℕ) (lists : List (List Message)) (are : AreLists window lists) (sender : ℕ) (first : Message) (rest : List Message)
    → sender < length lists → list_of lists sender ≡ first ∷ rest → AreLists window (set lists sender rest)
lists_releasing window lists are sender first rest within e =
    lists_with window lists are sender rest within
    (run_rest (length lists) sender first rest (subst (λ (l : List Message). IsRun (length lists) sender l) e (are.runs sender)))
    (let room : length (first ∷ rest) ≤ window = subst (λ (l : List Message). length l ≤ window) e (are.room sender) in omega (arith, room))

found-rest : (size sender : ℕ) (first : Message) (rest : List Message) (name : Name) → IsRun size sender (first ∷ rest)
    → found name rest ≡ cond (eq_by_cmp name_cmp name first.name) None (found name (first ∷ rest))
found-rest size sender first rest name run =
    elim (eq_by_cmp name_cmp name first.name)
    as (λ b. eq_by_cmp name_cmp name first.name ≡ b → found name rest ≡ cond b None (cond b (Some first) (found name rest))) [
      | true ↦ λ e. found-below size sender (suc run.0) rest name run.1.3 (omega (arith, (eq_by_cmp-true name first.name e).1, run.1.1))
      | false ↦ λ e. refl
    ] refl

pub queue_releasing : (window : ℕ) (lists : List (List Message)) (are : AreLists window lists) (sender : ℕ) (first : Message) (rest : List Message)
    → sender < length lists → list_of lists sender ≡ first ∷ rest
    → queue_of window (set lists sender rest)
    ≡ record { size = length lists; window = window; held = fin.remove (queue_of window lists).held first.name; looked = 0; settled = None }
queue_releasing window lists are sender first rest within e =
    let held = (queue_of window lists).held in
    let run = subst (λ (l : List Message). IsRun (length lists) sender l) e (are.runs sender) in
    queue_with window lists are sender rest within (lists_releasing window lists are sender first rest within e) (fin.remove held first.name)
    (λ name of.
    found-rest (length lists) sender first rest name run
    ∙ ap (cond (eq_by_cmp name_cmp name first.name) None) (ap (λ l. found name l) (sym e) ∙ ap (λ s. found name (list_of lists s)) (sym of) ∙ sym (get-held window lists are name))
    ∙ sym (fin.get-remove names_total held first.name name))
    (λ name apart.
    let differs : name.sender ≢ first.name.sender = λ same. apart (same ∙ run.1.0) in
    sym (fin.get-remove names_total held first.name name
    ∙ rw (eq_by_cmp-sender name first.name differs) (get-held window lists are name)))

-- and the front has the smallest number
pub first_held : (window : ℕ) (lists : List (List Message)) (are : AreLists window lists) (sender : ℕ) (first : Message) (rest : List Message)
    → list_of lists sender ≡ first ∷ rest → IsFirst (queue_of window lists) sender first
first_held window lists are sender first rest e =
    let run = subst (λ (l : List Message). IsRun (length lists) sender l) e (are.runs sender) in
    record {
      held = held_of_found window lists are sender first run.1.0
          (ap (λ l. found first.name l) e ∙ found_at (length lists) sender run.0 (first ∷ rest) 0 first run.1 (omega arith));
      of_sender = run.1.0;
      least = λ other h of.
          let f = is_found (length lists) sender run.0 (first ∷ rest) other.name other run.1
          (ap (λ l. found other.name l) (sym e) ∙ found_of_held window lists are sender other.name other of h) in
          omega (arith, f.from, run.1.1);
    }

-- where a sender's list is empty none of its messages is held
pub none_held : (window : ℕ) (lists : List (List Message)) (are : AreLists window lists) (sender : ℕ) (other : Message)
    → list_of lists sender ≡ [] → IsHeld (queue_of window lists) other → other.name.sender ≢ sender
none_held window lists are sender other e h of =
    let nothing : None ≡ Some other = ap (λ l. found other.name l) (sym e) ∙ found_of_held window lists are sender other.name other of h in cc

module _ (window : ℕ) (lists : List (List Message)) (are : AreLists window lists) (sender : ℕ) where
  pub all_of_group : All (IsOfGroup (length lists)) (list_of lists sender)
  all_of_group k d below =
      (is_at (length lists) sender (are.runs sender).0 (list_of lists sender) k d (are.runs sender).1 below).of_group

  -- a message of the sender's list that is ready is held and ready
  pub has_ready : (now : List ℕ) → HasSomeReady sender now (list_of lists sender) → HasReady (queue_of window lists) now sender
  has_ready now (k, x, below, at, ready) =
      let of : x.name.sender ≡ sender = subst (λ (m : Message). m.name.sender ≡ sender) at
      (is_at (length lists) sender (are.runs sender).0 (list_of lists sender) k x (are.runs sender).1 below).of_sender in (
        x,
        subst (λ (m : Message). IsHeld (queue_of window lists) m) at (held_at window lists are sender k x below),
        of,
        ready,
      )

  -- where none of the list is ready none that is held of the sender is
  pub has_none_ready : (now : List ℕ) → ¬ HasSomeReady sender now (list_of lists sender) → ¬ HasReady (queue_of window lists) now sender
  has_none_ready now none (message, held, of, ready) =
      let place = place_of (list_of lists sender) message.name message (found_of_held window lists are sender message.name message of held) in
      none (place.0, message, place.1, place.2 message, ready)
