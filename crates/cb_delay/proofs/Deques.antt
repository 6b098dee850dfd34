-- The lists of a queue as the program keeps them, each with the places reserved for it.
use Rattle.std.proofs.Common.{◌≡◌, ◌≢◌, ℕ, zero, suc, ◌+◌, ◌*◌, ◌<◌, ◌≤◌, List, [], ◌∷◌, ◌++◌, length, map, sym, ◌∙◌, ap, subst, arith, get_or, refl, All, sum_by, Global, deque_capacity, inl, inr, Some, None, Bor}
use Rattle.std.specs.declared.collections.VecDeque.{VecDeque}
use Rattle.std.specs.Prelude.{Option, IsSome, IfSome, IfNone}
use Rattle.std.specs.Option.{option_to_list}
use Rattle.std.specs.VecDeque.{deque_len}
use Rattle.std.specs.FinMap as fin
use Rattle.std.proofs.Math.ListN.{set, length-set}
use Rattle.std.proofs.lemmas.Bool.{cases_lt}
use Rattle.std.proofs.lemmas.Bool.Decides.{eqb_tells}
use Rattle.std.proofs.lemmas.List.{get_or-map, get_or-set_same, get_or-set_other, set-get_or, get_or_past, get_or_default, map-set, length-map, length-append}
use Rattle.std.proofs.lemmas.List.Sums.{sum_by-cons, sum_by-le, sum_by-set}
use Rattle.std.specs.Int.{bit_at}
use Rattle.cb_times.specs.Order.{field}
use Rattle.cb_delay.specs.declared.index.Index.{Index}
use Rattle.cb_delay.specs.Index.{IsCandidate, IsIndex, HasShape, IsFresh, LacksNext}
use Rattle.cb_delay.proofs.Telling.{told_holding, told_releasing}
use Rattle.cb_delay.proofs.Answering.{fresh_index}
use Rattle.std.proofs.Math.Nat.{mul-le-mul_right}
use Rattle.cb_times.specs.Group.{IsGroupSize, IsWindow}
use Rattle.cb_times.specs.declared.name.Name.{Name}
use Rattle.cb_delay.specs.declared.message.Message.{Message}
use Rattle.cb_delay.specs.Message.{name_cmp, IsOfGroup}
use Rattle.cb_delay.specs.Queue.{Queue, Holds, IsNew, IsHeld, IsFirst, IsDelayQueue, count_of, FollowsLast, next_name}
use Rattle.cb_delay.specs.Lists.{IsRun, AreLists, list_of, queue_of, with_looks, entries_of, all_entries}
use Rattle.cb_delay.proofs.Names.{names_total, exact_names}
use Rattle.cb_delay.proofs.Runs.{found, is_at, place_of}
use Rattle.cb_delay.proofs.Kept.{sorted, get-held, count-held, lists_holding, queue_holding, lists_releasing, queue_releasing, first_held, none_held, all_of_group, found_of_held, held_at, is_delay_queue, one_name}

abbrev pub Deque : Type 0
Deque = VecDeque Message Global

abbrev pub lists_of : List Deque → List (List Message)
lists_of deques = map (λ (d : Deque). d.items) deques

deque_len-items : (d : Deque) → deque_len d ≡ length d.items
deque_len-items d = d.ok.0

pub list_of-deques : (deques : List Deque) (i : ℕ) (d : Deque) → i < length deques → d ≡ get_or deques i d
    → list_of (lists_of deques) i ≡ d.items
list_of-deques deques i d within e = get_or-map (λ (x : Deque). x.items) deques i d [] within ∙ ap (λ (x : Deque). x.items) (sym e)

pub nil_of_length : {A : Type 0} (xs : List A) → length xs ≡ 0 → xs ≡ []
nil_of_length [] e = refl
nil_of_length (x ∷ xs) e = absurd (omega (arith, e))

pub length-lists_of : (deques : List Deque) → length (lists_of deques) ≡ length deques
length-lists_of deques = length-map deques (λ (x : Deque). x.items)

lists_of-set : (deques : List Deque) (sender : ℕ) (d : Deque) → lists_of (set deques sender d) ≡ set (lists_of deques) sender d.items
lists_of-set deques sender d = map-set (λ (x : Deque). x.items) deques sender d

-- places are reserved in each of them
abbrev pub AreReserved : ℕ → List Deque → Type 0
AreReserved window deques = All (λ (x : Deque). window ≤ deque_capacity x) deques

reserved-set : (window : ℕ) (deques : List Deque) (sender : ℕ) (d : Deque) → AreReserved window deques → sender < length deques
    → window ≤ deque_capacity d → AreReserved window (set deques sender d)
reserved-set window deques sender d reserved within room k x below =
    elim (eqb_tells k sender) [
      | inl at ↦
          let to : sender ≡ k = sym at.1 in
          subst (λ (j : ℕ). window ≤ deque_capacity (get_or (set deques sender d) j x)) to
          (subst (λ (y : Deque). window ≤ deque_capacity y) (sym (get_or-set_same deques sender d x within)) room)
      | inr apart ↦
          subst (λ (y : Deque). window ≤ deque_capacity y) (sym (get_or-set_other deques sender k d x apart.1))
          (reserved k x (omega (arith, below, length-set deques sender d)))
    ]

-- a queue that is this one but for what it holds
holds_now : {old new : Queue} {held : fin.FinMap name_cmp Message} → new ≡ record { size = old.size; window = old.window; held = held; looked = 0; settled = None } → Holds old new held
holds_now same = record { size = ap (λ (q : Queue). q.size) same; window = ap (λ (q : Queue). q.window) same; now_held = ap (λ (q : Queue). q.held) same }

-- the same of queues with looks
pub holds_seen : {old new : Queue} {held : fin.FinMap name_cmp Message} (looked looked_after : ℕ) (settled settled_after : Option (List ℕ))
    → Holds old new held → Holds (with_looks old looked settled) (with_looks new looked_after settled_after) held
holds_seen looked looked_after settled settled_after holds = record { size = holds.size; window = holds.window; now_held = holds.now_held }

pub first_seen : {queue : Queue} {sender : ℕ} {first : Message} (looked : ℕ) (settled : Option (List ℕ))
    → IsFirst queue sender first → IsFirst (with_looks queue looked settled) sender first
first_seen looked settled first = record { held = first.held; of_sender = first.of_sender; least = first.least }

pub follows_unseen : {queue : Queue} {name : Name} (looked : ℕ) (settled : Option (List ℕ))
    → FollowsLast (with_looks queue looked settled) name → FollowsLast queue name
follows_unseen looked settled follows last is = follows last (record { held = is.held; of_sender = is.of_sender; greatest = is.greatest })

pub queue_seen : {queue : Queue} (looked : ℕ) (settled : Option (List ℕ)) → IsDelayQueue queue → IsDelayQueue (with_looks queue looked settled)
queue_seen looked settled is = record { by_name = is.by_name; of_group = is.of_group; in_a_row = is.in_a_row; room = is.room }

-- an index keeps its shape where other members are stale
with_stale : (size sender stale_after : ℕ) (index : Index) → sender < size → ((i : ℕ) → i ≢ sender → bit_at stale_after i ≡ bit_at index.stale i)
    → HasShape size index → HasShape size (record index { stale = stale_after })
with_stale size sender stale_after index within others shape = record {
  some = shape.some;
  most = shape.most;
  time_size = shape.time_size;
  places_size = shape.places_size;
  waiting_size = shape.waiting_size;
  members = λ i above. others i (λ same. omega (arith, above, same, within)) ∙ shape.members i above;
  walkers = shape.walkers;
}

module _ (window : ℕ) (deques : List Deque) (kept : AreLists window (lists_of deques) × AreReserved window deques)
    (message : Message) (d : Deque) (here : d ≡ get_or deques message.name.sender d)
    (group : IsOfGroup (length (lists_of deques)) message)
    (room : count_of (queue_of window (lists_of deques)) message.name.sender < window) where
  within : message.name.sender < length deques
  within = omega (arith, length-lists_of deques, group.sender)

  reserved_here : window ≤ deque_capacity d
  reserved_here = subst (λ (x : Deque). window ≤ deque_capacity x) (sym here) (kept.1 message.name.sender d within)

  pub hold_room : deque_len d < deque_capacity d
  hold_room =
      let list = list_of-deques deques message.name.sender d within here in
      let items : length (list_of (lists_of deques) message.name.sender) ≡ length d.items = ap length list in
      omega (arith, reserved_here, room, count-held window (lists_of deques) kept.0 message.name.sender, items, deque_len-items d)

  module _ (follows : FollowsLast (queue_of window (lists_of deques)) message.name)
      (after : Deque) (items : after.items ≡ d.items ++ message ∷ []) (capacity : deque_capacity after ≡ deque_capacity d) where
    appended : lists_of (set deques message.name.sender after)
        ≡ set (lists_of deques) message.name.sender (list_of (lists_of deques) message.name.sender ++ message ∷ [])
    appended =
        lists_of-set deques message.name.sender after
        ∙ ap (λ l. set (lists_of deques) message.name.sender l)
        (items ∙ ap (λ l. l ++ message ∷ []) (sym (list_of-deques deques message.name.sender d within here)))

    pub hold_keeps : AreLists window (lists_of (set deques message.name.sender after)) × AreReserved window (set deques message.name.sender after)
    hold_keeps = (
      subst (λ (ls : List (List Message)). AreLists window ls) (sym appended)
          (lists_holding window (lists_of deques) kept.0 message group room follows),
      reserved-set window deques message.name.sender after kept.1 within (omega (arith, capacity, reserved_here)),
    )

    pub hold_index : (index : Index) (stale_after : ℕ) → IsIndex (lists_of deques) index
        → ((i : ℕ) → i ≢ message.name.sender → bit_at stale_after i ≡ bit_at index.stale i)
        → (bit_at stale_after message.name.sender ≡ 0 → bit_at index.stale message.name.sender ≡ 0)
        → (bit_at stale_after message.name.sender ≡ 0 → message.name.number ≢ field index.last message.name.sender + 1)
        → IsIndex (lists_of (set deques message.name.sender after)) (record index { stale = stale_after })
    hold_index index stale_after is others stays other =
        subst (λ (ls : List (List Message)). IsIndex ls (record index { stale = stale_after })) (sym appended) (
          subst (λ (n : ℕ). HasShape n (record index { stale = stale_after }))
              (sym (length-set (lists_of deques) message.name.sender (list_of (lists_of deques) message.name.sender ++ message ∷ [])))
              (with_stale (length (lists_of deques)) message.name.sender stale_after index group.sender others is.0),
          told_holding (lists_of deques) index.last index.places.items index.waiting.items index.ready index.stale is.1
              message.name.sender stale_after others message group.sender stays other,
        )

    pub hold_sum : (held : ℕ) → held ≡ sum_by (λ (x : Deque). deque_len x) deques
        → held + 1 ≡ sum_by (λ (x : Deque). deque_len x) (set deques message.name.sender after)
    hold_sum held is =
        let sums = sum_by-set (λ (x : Deque). deque_len x) deques message.name.sender after d within in
        let was : deque_len d ≡ deque_len (get_or deques message.name.sender d) = ap (λ (x : Deque). deque_len x) here in
        let longer : length after.items ≡ length (d.items ++ message ∷ []) = ap length items in
        omega (arith, is, sums, was, longer, length-append d.items (message ∷ []), deque_len-items d, deque_len-items after)

    pub hold_gives : Holds (queue_of window (lists_of deques)) (queue_of window (lists_of (set deques message.name.sender after))) (fin.insert (queue_of window (lists_of deques)).held message.name message)
    hold_gives = holds_now (ap (queue_of window) appended ∙ queue_holding window (lists_of deques) kept.0 message group room follows)

module _ (window : ℕ) (deques : List Deque) (kept : AreLists window (lists_of deques) × AreReserved window deques) (sender : ℕ)
    (within : sender < length deques) (d : Deque) (here : d ≡ get_or deques sender d) (after : Deque) where
  list_here : list_of (lists_of deques) sender ≡ d.items
  list_here = list_of-deques deques sender d within here

  unchanged : d.items ≡ after.items → lists_of (set deques sender after) ≡ lists_of deques
  unchanged same =
      lists_of-set deques sender after
      ∙ ap (λ l. set (lists_of deques) sender l) (sym (list_here ∙ same))
      ∙ set-get_or (lists_of deques) sender []

  within_lists : sender < length (lists_of deques)
  within_lists = omega (arith, within, length-lists_of deques)

  pub release_keeps : (taken : Option Message) → d.items ≡ option_to_list taken ++ after.items → deque_capacity after ≡ deque_capacity d
      → AreLists window (lists_of (set deques sender after)) × AreReserved window (set deques sender after)
  release_keeps taken items capacity =
      let reserved_here : window ≤ deque_capacity d = subst (λ (x : Deque). window ≤ deque_capacity x) (sym here) (kept.1 sender d within) in (
        elim taken as (λ t. d.items ≡ option_to_list t ++ after.items → AreLists window (lists_of (set deques sender after))) [
          | None ↦ λ same. subst (λ (ls : List (List Message)). AreLists window ls) (sym (unchanged same)) kept.0
          | (Some first) ↦ λ front.
              subst (λ (ls : List (List Message)). AreLists window ls) (sym (lists_of-set deques sender after))
              (lists_releasing window (lists_of deques) kept.0 sender first after.items within_lists (list_here ∙ front))
        ] items,
        reserved-set window deques sender after kept.1 within (omega (arith, capacity, reserved_here)),
      )

  pub release_first : (taken : Option Message) → d.items ≡ option_to_list taken ++ after.items
      → IfSome taken (IsFirst (queue_of window (lists_of deques)) sender)
  release_first None items = tt
  release_first (Some first) items = first_held window (lists_of deques) kept.0 sender first after.items (list_here ∙ items)

  pub release_takes : (taken : Option Message) → d.items ≡ option_to_list taken ++ after.items
      → IfSome taken (λ first. Holds (queue_of window (lists_of deques)) (queue_of window (lists_of (set deques sender after))) (fin.remove (queue_of window (lists_of deques)).held first.name))
  release_takes None items = tt
  release_takes (Some first) items =
      holds_now (ap (queue_of window) (lists_of-set deques sender after)
      ∙ queue_releasing window (lists_of deques) kept.0 sender first after.items within_lists (list_here ∙ items))

  pub release_same : (taken : Option Message) → d.items ≡ option_to_list taken ++ after.items
      → IfNone taken (Holds (queue_of window (lists_of deques)) (queue_of window (lists_of (set deques sender after))) (queue_of window (lists_of deques)).held)
  release_same None items = holds_now (ap (queue_of window) (unchanged items))
  release_same (Some first) items = tt

  pub release_none : (taken : Option Message) → (0 < deque_len d → IsSome taken)
      → IfNone taken ((other : Message) → IsHeld (queue_of window (lists_of deques)) other → other.name.sender ≢ sender)
  release_none None some =
      let empty : length d.items ≡ 0 =
      elim (cases_lt 0 (length d.items)) as (λ _. length d.items ≡ 0) [
        | inl filled ↦ let wrong = some (omega (arith, filled, deque_len-items d)) in cc
        | inr none ↦ omega (arith, none)
      ] in
      λ other. none_held window (lists_of deques) kept.0 sender other (list_here ∙ nil_of_length d.items empty)
  release_none (Some first) some = tt

  -- where nothing is taken the index is as it was, and so is the sum
  pub same_index : (index : Index) → d.items ≡ after.items → IsIndex (lists_of deques) index → IsIndex (lists_of (set deques sender after)) index
  same_index index same is = subst (λ (ls : List (List Message)). IsIndex ls index) (sym (unchanged same)) is

  pub same_sum : (held : ℕ) → d.items ≡ after.items → held ≡ sum_by (λ (x : Deque). deque_len x) deques
      → held ≡ sum_by (λ (x : Deque). deque_len x) (set deques sender after)
  same_sum held same is =
      let sums = sum_by-set (λ (x : Deque). deque_len x) deques sender after d within in
      let was : deque_len d ≡ deque_len (get_or deques sender d) = ap (λ (x : Deque). deque_len x) here in
      let long : length d.items ≡ length after.items = ap length same in
      omega (arith, is, sums, was, long, deque_len-items d, deque_len-items after)

  -- where one is, its sender is stale, and the sum is one less
  pub release_index : (index : Index) (stale_after : ℕ) → IsIndex (lists_of deques) index
      → ((i : ℕ) → i ≢ sender → bit_at stale_after i ≡ bit_at index.stale i) → bit_at stale_after sender ≡ 1
      → IsIndex (lists_of (set deques sender after)) (record index { stale = stale_after })
  release_index index stale_after is others marked =
      subst (λ (ls : List (List Message)). IsIndex ls (record index { stale = stale_after })) (sym (lists_of-set deques sender after)) (
        subst (λ (n : ℕ). HasShape n (record index { stale = stale_after })) (sym (length-set (lists_of deques) sender after.items))
            (with_stale (length (lists_of deques)) sender stale_after index within_lists others is.0),
        told_releasing (lists_of deques) index.last index.places.items index.waiting.items index.ready index.stale is.1
            sender stale_after others after.items marked,
      )

  pub release_sum : (held : ℕ) (first : Message) → d.items ≡ first ∷ after.items → held ≡ sum_by (λ (x : Deque). deque_len x) deques
      → held ≡ sum_by (λ (x : Deque). deque_len x) (set deques sender after) + 1
  release_sum held first items is =
      let sums = sum_by-set (λ (x : Deque). deque_len x) deques sender after d within in
      let was : deque_len d ≡ deque_len (get_or deques sender d) = ap (λ (x : Deque). deque_len x) here in
      let long : length d.items ≡ length (first ∷ after.items) = ap length items in
      omega (arith, is, sums, was, long, deque_len-items d, deque_len-items after)

-- a look at the front of a sender's list
module _ (window : ℕ) (deques : List Deque) (are : AreLists window (lists_of deques)) (sender : ℕ) (d : Deque)
    (list : list_of (lists_of deques) sender ≡ d.items) where
  pub front_first : (looked : ℕ) (settled : Option (List ℕ)) (front : Option (Bor Message)) → (IsSome front → 0 < deque_len d)
      → IfSome front (λ m. m.now ≡ get_or d.items 0 m.now)
      → IfSome front (λ m. IsFirst (with_looks (queue_of window (lists_of deques)) looked settled) sender m.now)
  front_first looked settled None some at = tt
  front_first looked settled (Some m) some at =
      first_seen looked settled (of_list d.items list (omega (arith, some refl, deque_len-items d)) at)
    where
      of_list : (items : List Message) → list_of (lists_of deques) sender ≡ items → 0 < length items → m.now ≡ get_or items 0 m.now
          → IsFirst (queue_of window (lists_of deques)) sender m.now
      of_list [] e filled here = absurd (omega (arith, filled))
      of_list (first ∷ rest) e filled here =
          subst (λ (x : Message). IsFirst (queue_of window (lists_of deques)) sender x) (sym here) (first_held window (lists_of deques) are sender first rest e)

  pub front_none : (front : Option (Bor Message)) → (0 < deque_len d → IsSome front)
      → IfNone front ((other : Message) → IsHeld (queue_of window (lists_of deques)) other → other.name.sender ≢ sender)
  front_none (Some m) some = tt
  front_none None some =
      let empty : length d.items ≡ 0 =
      elim (cases_lt 0 (length d.items)) as (λ _. length d.items ≡ 0) [
        | inl filled ↦ let wrong = some (omega (arith, filled, deque_len-items d)) in cc
        | inr none ↦ omega (arith, none)
      ] in
      λ other. none_held window (lists_of deques) are sender other (list ∙ nil_of_length d.items empty)

-- the candidate of a sender's list is held under the name that comes next
module _ (window : ℕ) (lists : List (List Message)) (are : AreLists window lists) (sender : ℕ) (now : List ℕ) where
  next_is_held : (message : Message) → IsCandidate sender (list_of lists sender) now message → fin.get (queue_of window lists).held (next_name now sender) ≡ Some message
  next_is_held message is =
      let (k, x, below, at, same) = is.is_in in
      let there : get_or (list_of lists sender) k x ≡ message = at ∙ same in
      let of = subst (λ (m : Message). m.name.sender ≡ sender) there (is_at (length lists) sender (are.runs sender).0 (list_of lists sender) k x (are.runs sender).1 below).of_sender in
      ap (fin.get (queue_of window lists).held) (sym (one_name message.name (next_name now sender) of is.next))
      ∙ subst (IsHeld (queue_of window lists)) there (held_at window lists are sender k x below)

  next_is_lacked : LacksNext sender (list_of lists sender) now → fin.get (queue_of window lists).held (next_name now sender) ≡ None
  next_is_lacked lacks = by_get (fin.get (queue_of window lists).held (next_name now sender)) refl
    where
      by_get : (o : Option Message) → fin.get (queue_of window lists).held (next_name now sender) ≡ o → fin.get (queue_of window lists).held (next_name now sender) ≡ None
      by_get None e = e
      by_get (Some m) e =
          let place = place_of (list_of lists sender) (next_name now sender) m (found_of_held window lists are sender (next_name now sender) m refl e) in
          let named = (is_delay_queue window lists are).by_name (next_name now sender) m e in
          absurd (lacks place.0 m place.1 (subst (λ (x : Message). x.name.number ≡ field now sender + 1) (sym (place.2 m)) (ap (λ (n : Name). n.number) named)))

  pub next_some : (result : Option (Bor Message)) → IfSome result (λ m. IsCandidate sender (list_of lists sender) now m.now)
      → IfSome result (λ m. fin.get (queue_of window lists).held (next_name now sender) ≡ Some m.now)
  next_some None is = tt
  next_some (Some m) is = next_is_held m.now is

  pub next_none : (result : Option (Bor Message)) → IfNone result (LacksNext sender (list_of lists sender) now)
      → IfNone result (fin.get (queue_of window lists).held (next_name now sender) ≡ None)
  next_none None lacks = next_is_lacked lacks
  next_none (Some m) lacks = tt

-- of a sender that the group lacks none is held
pub release_outside : (window : ℕ) (deques : List Deque) → AreLists window (lists_of deques) → (sender : ℕ) → length deques ≤ sender
    → (other : Message) → IsHeld (queue_of window (lists_of deques)) other → other.name.sender ≢ sender
release_outside window deques are sender outside other =
    none_held window (lists_of deques) are sender other
    (get_or_past (lists_of deques) sender [] (omega (arith, outside, length-lists_of deques)))

entries_of-length : (list : List Message) → length (entries_of list) ≡ length list
entries_of-length list = length-map list (λ (m : Message). let e : Name × Message = (m.name, m) in e)

sum-lengths : (deques : List Deque) → length (all_entries (lists_of deques)) ≡ sum_by (λ (d : Deque). deque_len d) deques
sum-lengths [] = refl
sum-lengths (d ∷ deques) =
    length-append (entries_of d.items) (all_entries (lists_of deques))
    ∙ omega (arith, entries_of-length d.items, deque_len-items d, sum-lengths deques, sum_by-cons (λ (x : Deque). deque_len x) d deques)

-- as many are held as the lists have messages
pub len-held : (window : ℕ) (deques : List Deque) → AreLists window (lists_of deques)
    → fin.len (queue_of window (lists_of deques)).held ≡ sum_by (λ (d : Deque). deque_len d) deques
len-held window deques are =
    fin.len-entries _ ∙ ap length (fin.entries-from_sorted name_cmp (all_entries (lists_of deques)) (sorted window (lists_of deques) are))
    ∙ sum-lengths deques

again : (deques : List Deque) (k : ℕ) (d : Deque) → k < length deques → get_or deques k d ≡ get_or deques k (get_or deques k d)
again deques k d below = get_or_default deques k d (get_or deques k d) below

-- and those are few
pub few-held : (window : ℕ) (deques : List Deque) → AreLists window (lists_of deques)
    → sum_by (λ (d : Deque). deque_len d) deques ≤ 64 * 256
few-held window deques are =
    let each : All (λ (d : Deque). deque_len d ≤ 256) deques =
    λ k d below.
    let list = list_of-deques deques k (get_or deques k d) below (again deques k d below) in
    let items : length (list_of (lists_of deques) k) ≡ length (get_or deques k d).items = ap length list in
    omega (arith, deque_len-items (get_or deques k d), items, are.room k, are.width.at_most_widest) in
    let few : length deques ≤ 64 = omega (arith, are.group.at_most_sixty_four, length-lists_of deques) in
    let most : length deques * 256 ≤ 64 * 256 = mul-le-mul_right 256 few in
    omega (arith, sum_by-le (λ (d : Deque). deque_len d) 256 deques each, most)

-- a list that was just made, with its places
abbrev pub AreFresh : ℕ → List Deque → Type 0
AreFresh window deques = All (λ (d : Deque). (d.items ≡ []) × (window ≤ deque_capacity d)) deques

empty_at : (window : ℕ) (deques : List Deque) → AreFresh window deques → (sender : ℕ) → sender < length deques
    → list_of (lists_of deques) sender ≡ []
empty_at window [] fresh sender below = absurd (omega arith)
empty_at window (d ∷ deques) fresh zero below = (fresh 0 d below).0
empty_at window (d ∷ deques) fresh (suc sender) below =
    empty_at window deques (λ k x under. fresh (suc k) x (omega (arith, under))) sender (omega (arith, below))

module _ (window : ℕ) (deques : List Deque) (fresh : AreFresh window deques) where
  no_list : (sender : ℕ) → list_of (lists_of deques) sender ≡ []
  no_list sender =
      elim (cases_lt sender (length deques)) [
        | inl below ↦ empty_at window deques fresh sender below
        | inr past ↦ get_or_past (lists_of deques) sender [] (omega (arith, past, length-lists_of deques))
      ]

  pub new_keeps : IsGroupSize (length deques) → IsWindow window → AreLists window (lists_of deques) × AreReserved window deques
  new_keeps group width =
      let same = length-lists_of deques in (
        record {
          group = subst IsGroupSize (sym same) group;
          width = width;
          runs = λ sender. subst (λ (l : List Message). IsRun (length (lists_of deques)) sender l) (sym (no_list sender)) (0, tt);
          room = λ sender. subst (λ (l : List Message). length l ≤ window) (sym (no_list sender)) (omega arith);
        },
        λ k d below. (fresh k d below).1,
      )

  pub new_index : (size : ℕ) (index : Index) → IsGroupSize size → length deques ≡ size → IsFresh size index → IsIndex (lists_of deques) index
  new_index size index group e fresh_there = fresh_index size (lists_of deques) index group (length-lists_of deques ∙ e) no_list fresh_there

  pub new_sum : 0 ≡ sum_by (λ (d : Deque). deque_len d) deques
  new_sum =
      let each : All (λ (d : Deque). deque_len d ≤ 0) deques =
      λ k d below.
      let empty : length (get_or deques k d).items ≡ 0 = ap length (fresh k d below).0 in
      omega (arith, empty, deque_len-items (get_or deques k d)) in
      omega (arith, sum_by-le (λ (d : Deque). deque_len d) 0 deques each)

  pub new_gives : (are : AreLists window (lists_of deques)) (size looked : ℕ) (settled : Option (List ℕ)) → length deques ≡ size → looked ≡ 0
      → IsNew size window (with_looks (queue_of window (lists_of deques)) looked settled)
  new_gives are size looked settled e never = record {
    none_looked = never;
    of_size = length-lists_of deques ∙ e;
    of_window = refl;
    empty = fin.same_map names_total exact_names _ _ (λ name.
        get-held window (lists_of deques) are name
        ∙ ap (λ l. found name l) (no_list name.sender)
        ∙ sym (fin.get-empty name_cmp name));
  }

-- the messages of each list are of the group
pub all_of_group_here : (window : ℕ) (deques : List Deque) → AreLists window (lists_of deques) → (n : ℕ) → n ≡ length (lists_of deques)
    → All (λ (d : Deque). All (IsOfGroup n) d.items) deques
all_of_group_here window deques are n size k d below =
    let list = list_of-deques deques k (get_or deques k d) below (again deques k d below) in
    subst (λ (m : ℕ). All (IsOfGroup m) (get_or deques k d).items) (sym size)
    (subst (λ (l : List Message). All (IsOfGroup (length (lists_of deques))) l) list (all_of_group window (lists_of deques) are k))
