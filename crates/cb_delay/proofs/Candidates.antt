-- The candidate among the messages of one sender: the one with the number after that delivered of it.
use Rattle.std.proofs.Common.{◌≡◌, ◌≢◌, ℕ, ◌+◌, ◌<◌, ◌≤◌, List, length, sym, ◌∙◌, ap, subst, arith, get_or, refl}
use Rattle.std.proofs.lemmas.List.{get_or_default}
use Rattle.cb_times.specs.Order.{field}
use Rattle.cb_delay.specs.declared.message.Message.{Message}
use Rattle.cb_delay.specs.declared.place.Place.{Place}
use Rattle.cb_delay.specs.declared.place.Place.TheVariants.{Free, Ready, Waits}
use Rattle.cb_delay.specs.Message.{IsOfGroup}
use Rattle.cb_delay.specs.Rule.{IsReady}
use Rattle.cb_delay.specs.Lists.{IsRun, HasSomeReady}
use Rattle.cb_delay.specs.Index.{LacksNext, IsCandidate, IsPlaced}
use Rattle.cb_delay.proofs.Runs.{is_at}

module _ (size sender : ℕ) (list : List Message) (run : IsRun size sender list) where
  pub number_at : (k : ℕ) (d : Message) → k < length list → (get_or list k d).name.number ≡ run.0 + k
  number_at k d below = (is_at size sender run.0 list k d run.1 below).numbered

  module _ (now : List ℕ) (first : Message) (some : 0 < length list) (here : first ≡ get_or list 0 first) where
    front : first.name.number ≡ run.0
    front =
        let number : first.name.number ≡ (get_or list 0 first).name.number = ap (λ (m : Message). m.name.number) here in
        omega (arith, number, number_at 0 first some)

    pub lacks_before : field now sender + 1 < first.name.number → LacksNext sender list now
    lacks_before before k d below next = omega (arith, before, front, number_at k d below, next)

    module _ (ahead : ℕ) (next : field now sender + 1 ≡ first.name.number + ahead) where
      pub lacks_after : length list ≤ ahead → LacksNext sender list now
      lacks_after past k d below same = omega (arith, past, next, front, number_at k d below, same)

      pub candidate_at : (message : Message) → ahead < length list → message ≡ get_or list ahead message → IsCandidate sender list now message
      candidate_at message within at = record {
        is_in = (ahead, message, within, sym at, refl);
        next =
            let number : message.name.number ≡ (get_or list ahead message).name.number = ap (λ (m : Message). m.name.number) at in
            omega (arith, number, number_at ahead message within, next, front);
        only = λ k d below same.
            let place : ahead ≡ k = omega (arith, number_at k d below, same, next, front) in
            subst (λ (i : ℕ). get_or list i d ≡ message) place (get_or_default list ahead d message within ∙ sym at);
      }

  -- the candidate is of the sender and of the group
  pub candidate_of : (now : List ℕ) (message : Message) → IsCandidate sender list now message
      → (message.name.sender ≡ sender) × IsOfGroup size message
  candidate_of now message candidate =
      let (k, x, below, at, same) = candidate.is_in in
      let here = is_at size sender run.0 list k x run.1 below in
      let is : get_or list k x ≡ message = at ∙ same in
      (subst (λ (m : Message). m.name.sender ≡ sender) is here.of_sender, subst (IsOfGroup size) is here.of_group)

  -- what is ready comes next
  next_of : (now : List ℕ) (k : ℕ) (message : Message) → k < length list → get_or list k message ≡ message
      → IsReady sender (field message.time) (field now) → (get_or list k message).name.number ≡ field now sender + 1
  next_of now k message below at ready =
      let here = is_at size sender run.0 list k message run.1 below in
      let group = here.of_group in
      let own : field (get_or list k message).time sender ≡ field (get_or list k message).time (get_or list k message).name.sender =
      ap (field (get_or list k message).time) (sym here.of_sender) in
      let time : field (get_or list k message).time sender ≡ field message.time sender = ap (λ (m : Message). field m.time sender) at in
      omega (arith, group.own, own, time, ready.next)

  -- where the candidate does not stand at `Ready`, none of the list may be delivered
  pub none_ready_at : (now : List ℕ) (place : Place) → place ≢ Ready → IsPlaced sender list now place → ¬ HasSomeReady sender now list
  none_ready_at now Ready other placed some = other refl
  none_ready_at now Free other placed (k, x, below, at, ready) = placed k x below (next_of now k x below at ready)
  none_ready_at now (Waits member value) other placed (k, x, below, at, ready) =
      let needs = placed.needs k x below (next_of now k x below at ready) in
      let time : field (get_or list k x).time member ≡ field x.time member = ap (λ (m : Message). field m.time member) at in
      let enough : field x.time member ≤ field now member = ready.others member placed.of_other in
      omega (arith, needs, time, enough, placed.missing)

pub within_at : (sender : ℕ) (list : List Message) (now : List ℕ) (place : Place) → IsPlaced sender list now place
    → (member value : ℕ) → place ≡ Waits member value → member < length now
within_at sender list now Free placed member value same = cc
within_at sender list now Ready placed member value same = cc
within_at sender list now (Waits k v) placed member value same =
    let is : k ≡ member = cc in subst (λ (j : ℕ). j < length now) is placed.within
