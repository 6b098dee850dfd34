-- What is tracked of a delay queue stays so.
use Rattle.std.proofs.Common.{◌≡◌, ◌≢◌, ℕ, ◌+◌, ◌<◌, ◌≤◌, ◌==◌, true, false, cond, List, length, map, ◌⊎◌, sym, ◌∙◌, ap, subst, arith, Some, None, get_or, slice_index, refl, inl, inr}
use Rattle.std.specs.Prelude.{Option}
use Rattle.std.specs.Ordering.{eq_by_cmp}
use Rattle.std.specs.FinMap as fin
use Rattle.std.proofs.Math.ListN.{set, length-set}
use Rattle.std.proofs.lemmas.Bool.Decides.{eqb_tells}
use Rattle.std.proofs.lemmas.List.{get_or-set_same, get_or-set_other, length-map}
use Rattle.std.proofs.lemmas.List.Sums.{count_by-le-length}
use Rattle.cb_times.specs.declared.name.Name.{Name}
use Rattle.cb_delay.specs.declared.message.Message.{Message}
use Rattle.cb_delay.specs.Message.{name_cmp}
use Rattle.cb_delay.specs.Queue.{Queue, Holds, IsHeld, IsFirst, IsLast, FollowsLast, count_of}
use Rattle.cb_delay.proofs.Names.{names_total, eq_by_cmp-sender, eq_by_cmp-number, eq_by_cmp-true, eq_by_cmp-same}
use Rattle.cb_delay.proofs.Room.{none_is_held}
use Rattle.cb_times.specs.Group.{IsGroupSize}
use Rattle.tests_base.specs.Tracked.{IsTracked}

-- no more are held of a sender than of all
pub count_of-le : (queue : Queue) (sender : ℕ) → count_of queue sender ≤ fin.len queue.held
count_of-le queue sender =
    omega (
      arith,
      count_by-le-length (λ (name : Name). name.sender == sender) (fin.keys queue.held),
      length-map (fin.entries queue.held) (λ (e : Name × Message). e.0),
      fin.len-entries queue.held,
    )

-- who is held once a message was added is that one, or was held
pub one_of : (old new : Queue) (message : Message) → new.held ≡ fin.insert old.held message.name message
    → (m : Message) → IsHeld new m → (m ≡ message) ⊎ IsHeld old m
one_of old new message added m held =
    let at : fin.get new.held m.name ≡ cond (eq_by_cmp name_cmp m.name message.name) (Some message) (fin.get old.held m.name) =
    ap (λ (h : fin.FinMap name_cmp Message). fin.get h m.name) added ∙ fin.get-insert names_total old.held message.name message m.name in
    elim (eq_by_cmp name_cmp m.name message.name)
    as (λ b. cond b (Some message) (fin.get old.held m.name) ≡ Some m → (m ≡ message) ⊎ IsHeld old m) [
      | true ↦ λ h. let same : m ≡ message = cc in inl same
      | false ↦ λ h. inr h
    ] (sym at ∙ held)

module _ (old : Queue) (next : List ℕ) (tracked : IsTracked old next) where
  pub follows : (name : Name) → name.number ≡ slice_index next name.sender → FollowsLast old name
  follows name is last greatest =
      let of = greatest.of_sender in
      let known = tracked.last last (subst (λ (s : ℕ). IsLast old s last) (sym of) greatest) in
      let at : slice_index next last.name.sender ≡ slice_index next name.sender = ap (slice_index next) of in
      omega (arith, is, known, at)

  module _ (new : Queue) (size : new.size ≡ old.size) (window : new.window ≡ old.window) where
    -- where what is held stays, or loses messages but no last one
    kept_back : (after : List ℕ) → length after ≡ length next
        → ((m : Message) → IsHeld new m → m.name.number < slice_index after m.name.sender)
        → ((m : Message) → IsLast new m.name.sender m → m.name.number + 1 ≡ slice_index after m.name.sender)
        → IsTracked new after
    kept_back after long below last = record {
      group = subst IsGroupSize (sym size) tracked.group;
      window_is = window ∙ tracked.window_is;
      numbers = long ∙ tracked.numbers ∙ sym size;
      below = below;
      last = last;
    }

    pub tracked_same : new.held ≡ old.held → IsTracked new next
    tracked_same same =
        let back : (m : Message) → IsHeld new m → IsHeld old m = λ m. subst (λ (h : fin.FinMap name_cmp Message). fin.get h m.name ≡ Some m) same in
        let forth : (m : Message) → IsHeld old m → IsHeld new m = λ m. subst (λ (h : fin.FinMap name_cmp Message). fin.get h m.name ≡ Some m) (sym same) in
        kept_back next refl
        (λ m held. tracked.below m (back m held))
        (λ m is. tracked.last m (record {
          held = back m is.held;
          of_sender = is.of_sender;
          greatest = λ other held of. is.greatest other (forth other held) of;
        }))

    module _ (gone : Message) (taken : new.held ≡ fin.remove old.held gone.name) where
      at_name : (name : Name) → fin.get new.held name ≡ cond (eq_by_cmp name_cmp name gone.name) None (fin.get old.held name)
      at_name name = ap (λ (h : fin.FinMap name_cmp Message). fin.get h name) taken ∙ fin.get-remove names_total old.held gone.name name

      was_held : (m : Message) → IsHeld new m → IsHeld old m
      was_held m held =
          elim (eq_by_cmp name_cmp m.name gone.name)
          as (λ b. cond b None (fin.get old.held m.name) ≡ Some m → fin.get old.held m.name ≡ Some m) [
            | true ↦ λ h. absurd (let wrong : None ≡ Some m = h in cc)
            | false ↦ λ h. h
          ] (sym (at_name m.name) ∙ held)

      still_held : (m : Message) → IsHeld old m → eq_by_cmp name_cmp m.name gone.name ≡ false → IsHeld new m
      still_held m held other = at_name m.name ∙ ap (λ b. cond b None (fin.get old.held m.name)) other ∙ held

      pub tracked_releasing : (sender : ℕ) → IsFirst old sender gone → IsTracked new next
      tracked_releasing sender first =
          kept_back next refl
          (λ m held. tracked.below m (was_held m held))
          (λ m is. tracked.last m (record {
            held = was_held m is.held;
            of_sender = is.of_sender;
            greatest = λ other held of.
                elim (eq_by_cmp name_cmp other.name gone.name)
                as (λ b. eq_by_cmp name_cmp other.name gone.name ≡ b → other.name.number ≤ m.name.number) [
                  | true ↦ λ e.
                      let parts = eq_by_cmp-true other.name gone.name e in
                      let same_sender : m.name.sender ≡ sender = sym of ∙ parts.0 ∙ first.of_sender in
                      omega (arith, first.least m (was_held m is.held) same_sender, parts.1)
                  | false ↦ λ e. is.greatest other (still_held other held e) of
                ] refl;
          }))

    module _ (message : Message) (added : new.held ≡ fin.insert old.held message.name message)
        (within : message.name.sender < length next) (is_next : message.name.number ≡ slice_index next message.name.sender) where
      abbrev after : List ℕ
      after = set next message.name.sender (message.name.number + 1)

      named : (name : Name) → fin.get new.held name ≡ cond (eq_by_cmp name_cmp name message.name) (Some message) (fin.get old.held name)
      named name = ap (λ (h : fin.FinMap name_cmp Message). fin.get h name) added ∙ fin.get-insert names_total old.held message.name message name

      is_held : IsHeld new message
      is_held = named message.name ∙ ap (λ b. cond b (Some message) (fin.get old.held message.name)) (eq_by_cmp-same message.name message.name refl refl)

      of_others : (m : Message) → m.name.sender ≢ message.name.sender → IsHeld old m → IsHeld new m
      of_others m apart held =
          named m.name ∙ ap (λ b. cond b (Some message) (fin.get old.held m.name)) (eq_by_cmp-sender m.name message.name apart) ∙ held

      here : slice_index after message.name.sender ≡ message.name.number + 1
      here = get_or-set_same next message.name.sender (message.name.number + 1) 0 within

      below_now : (m : Message) → IsHeld new m → m.name.number < slice_index after m.name.sender
      below_now m held =
          elim (one_of old new message added m held) as (λ _. m.name.number < slice_index after m.name.sender) [
            | inl same ↦ subst (λ (x : Message). x.name.number < slice_index after x.name.sender) (sym same) (omega (arith, here))
            | inr was ↦
                elim (eqb_tells m.name.sender message.name.sender) as (λ _. m.name.number < slice_index after m.name.sender) [
                  | inl at ↦
                      let to : slice_index after m.name.sender ≡ slice_index after message.name.sender = ap (slice_index after) at.1 in
                      let from : slice_index next m.name.sender ≡ slice_index next message.name.sender = ap (slice_index next) at.1 in
                      omega (arith, tracked.below m was, to, from, here, is_next)
                  | inr apart ↦
                      omega (arith, tracked.below m was, get_or-set_other next message.name.sender m.name.sender (message.name.number + 1) 0 apart.1)
                ]
          ]

      last_now : (m : Message) → IsLast new m.name.sender m → m.name.number + 1 ≡ slice_index after m.name.sender
      last_now m is =
          elim (eqb_tells m.name.sender message.name.sender) as (λ _. m.name.number + 1 ≡ slice_index after m.name.sender) [
            | inl at ↦
                let to : slice_index after m.name.sender ≡ slice_index after message.name.sender = ap (slice_index after) at.1 in
                let low = is.greatest message is_held (sym at.1) in
                omega (arith, low, below_now m is.held, to, here)
            | inr apart ↦
                let was : IsHeld old m =
                elim (one_of old new message added m is.held) as (λ _. IsHeld old m) [
                  | inl same ↦ absurd (apart.1 (ap (λ (x : Message). x.name.sender) same))
                  | inr held ↦ held
                ] in
                let known = tracked.last m (record {
                  held = was;
                  of_sender = is.of_sender;
                  greatest = λ other held of. is.greatest other (of_others other (λ e. apart.1 (sym of ∙ e)) held) of;
                }) in
                omega (arith, known, get_or-set_other next message.name.sender m.name.sender (message.name.number + 1) 0 apart.1)
          ]

      pub tracked_holding : IsTracked new after
      tracked_holding = kept_back after (length-set next message.name.sender (message.name.number + 1)) below_now last_now

-- a queue that was just made is tracked
pub tracked_new : (queue : Queue) (next : List ℕ) → IsGroupSize queue.size → queue.window ≡ 12 → length next ≡ queue.size
    → queue.held ≡ fin.empty → IsTracked queue next
tracked_new queue next group window long empty = record {
  group = group;
  window_is = window;
  numbers = long;
  below = λ m held. absurd (none_is_held queue empty m held);
  last = λ m is. absurd (none_is_held queue empty m is.held);
}
