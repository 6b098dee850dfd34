-- The payloads of a burst, gone through one by one.
use Rattle.std.proofs.Common.{◌≡◌, ℕ, suc, ◌+◌, ◌<◌, ◌≤◌, List, [], ◌∷◌, ◌++◌, length, map, drop, get_or, set, refl, subst, sym, ap, ◌∙◌, append_assoc, arith}
use Rattle.std.specs.List.{concat}
use Rattle.std.proofs.lemmas.List.{append-nil, drop_all, drop_more, length-append}
use denote.Ref.{Bor}
use Rattle.cb_times.specs.Order.{field}
use Rattle.cb_delay.specs.declared.message.Message.{Message}
use Rattle.cb_delay.specs.declared.message.Event.{Event}
use Rattle.cb_delay.specs.declared.message.Event.TheVariants.{Deliver}
use Rattle.cb_frames.specs.declared.frame.Burst.{Burst}
use Rattle.cb_frames.specs.Fields.{Carried, burst_fields, messages_of, numbered}
use Rattle.cb_frames.specs.Laws.{IsBytes}
use Rattle.cb_history.proofs.Replays.{one_more_byte}
use Rattle.cb_member.specs.Passing.{burst_delivered, carried_at, deliveries_at}
use Rattle.cb_member.proofs.Casting.{stamp, stamped}

pub one_and_rest : {X : Type 0} (xs : List X) (i : ℕ) (x : X) → i < length xs → x ≡ get_or xs i x → drop i xs ≡ x ∷ drop (i + 1) xs
one_and_rest {X = X} xs i x lt is = drop_more xs i x lt ∙ ap (λ (y : X). y ∷ drop (i + 1) xs) (sym is)

-- ---- those of the caller

abbrev pub lent : List (Bor (List ℕ)) → List (List ℕ)
lent payloads = map (λ payload. payload.now) payloads

-- how many bytes are left, with one less
pub bytes_left : (payloads : List (Bor (List ℕ))) (i : ℕ) (p : Bor (List ℕ)) → i < length payloads → p ≡ get_or payloads i p
    → length (concat (lent (drop i payloads))) ≡ length p.now + length (concat (lent (drop (i + 1) payloads)))
bytes_left payloads i p lt is =
    ap (λ (ps : List (Bor (List ℕ))). length (concat (lent ps))) (one_and_rest payloads i p lt is) ∙ length-append p.now (concat (lent (drop (i + 1) payloads)))

pub no_bytes_left : (payloads : List (Bor (List ℕ))) (i : ℕ) → length payloads ≤ i → length (concat (lent (drop i payloads))) ≡ 0
no_bytes_left payloads i past = ap (λ (ps : List (Bor (List ℕ))). length (concat (lent ps))) (drop_all i payloads past)

no_bytes : IsBytes []
no_bytes i = omega arith

both_are_bytes : (front back : List ℕ) → IsBytes front → IsBytes back → IsBytes (front ++ back)
both_are_bytes [] back are be = be
both_are_bytes (b ∷ front) back are be = one_more_byte b (front ++ back) (are 0) (both_are_bytes front back (λ i. are (suc i)) be)

-- all are bytes where those still to come are
pub one_of_bytes : (payloads : List (Bor (List ℕ))) (i : ℕ) (p : Bor (List ℕ)) → i < length payloads → p ≡ get_or payloads i p → IsBytes p.now
    → (IsBytes (concat (lent (drop i payloads))) → IsBytes (concat (lent payloads))) → IsBytes (concat (lent (drop (i + 1) payloads))) → IsBytes (concat (lent payloads))
one_of_bytes payloads i p lt is bytes so_far rest =
    so_far (subst (λ (ps : List (Bor (List ℕ))). IsBytes (concat (lent ps))) (sym (one_and_rest payloads i p lt is)) (both_are_bytes p.now (concat (lent (drop (i + 1) payloads))) bytes rest))

pub all_are_bytes : (payloads : List (Bor (List ℕ))) (i : ℕ) → length payloads ≤ i → (IsBytes (concat (lent (drop i payloads))) → IsBytes (concat (lent payloads))) → IsBytes (concat (lent payloads))
all_are_bytes payloads i past so_far = so_far (subst (λ (ps : List (Bor (List ℕ))). IsBytes (concat (lent ps))) (sym (drop_all i payloads past)) no_bytes)

-- the handles so far and the payloads still to come are all
pub one_handle_more : (payloads : List (Bor (List ℕ))) (i : ℕ) (p : Bor (List ℕ)) (handles more : List (List ℕ)) (handle : List ℕ) → i < length payloads → p ≡ get_or payloads i p → handle ≡ p.now
    → more ≡ handles ++ handle ∷ [] → handles ++ lent (drop i payloads) ≡ lent payloads → more ++ lent (drop (i + 1) payloads) ≡ lent payloads
one_handle_more payloads i p handles more handle lt is copied pushed so_far =
    ap (λ (hs : List (List ℕ)). hs ++ lent (drop (i + 1) payloads)) (pushed ∙ ap (λ (h : List ℕ). handles ++ h ∷ []) copied)
    ∙ append_assoc handles (p.now ∷ []) (lent (drop (i + 1) payloads))
    ∙ ap (λ (ps : List (Bor (List ℕ))). handles ++ lent ps) (sym (one_and_rest payloads i p lt is))
    ∙ so_far

pub all_handles : (payloads : List (Bor (List ℕ))) (i : ℕ) (handles : List (List ℕ)) → length payloads ≤ i → handles ++ lent (drop i payloads) ≡ lent payloads → handles ≡ lent payloads
all_handles payloads i handles past so_far =
    sym (append-nil handles) ∙ sym (ap (λ (ps : List (Bor (List ℕ))). handles ++ lent ps) (drop_all i payloads past)) ∙ so_far

-- ---- the messages of them

-- the messages so far and those still to be made are all
pub one_message_more : (me : ℕ) (time : List ℕ) (payloads : List (List ℕ)) (i : ℕ) (p : List ℕ) (messages more all : List Message) (message : Message) → i < length payloads → p ≡ get_or payloads i p
    → message ≡ stamp me time p → more ≡ messages ++ message ∷ [] → messages ++ stamped me time (drop i payloads) ≡ all
    → more ++ stamped me (set time me (field time me + 1)) (drop (i + 1) payloads) ≡ all
one_message_more me time payloads i p messages more all message lt is made pushed so_far =
    ap (λ (ms : List Message). ms ++ stamped me (set time me (field time me + 1)) (drop (i + 1) payloads)) (pushed ∙ ap (λ (m : Message). messages ++ m ∷ []) made)
    ∙ append_assoc messages (stamp me time p ∷ []) (stamped me (set time me (field time me + 1)) (drop (i + 1) payloads))
    ∙ ap (λ (ps : List (List ℕ)). messages ++ stamped me time ps) (sym (one_and_rest payloads i p lt is))
    ∙ so_far

pub all_messages : (me : ℕ) (time : List ℕ) (payloads : List (List ℕ)) (i : ℕ) (messages all : List Message) → length payloads ≤ i → messages ++ stamped me time (drop i payloads) ≡ all → messages ≡ all
all_messages me time payloads i messages all past so_far =
    sym (append-nil messages) ∙ sym (ap (λ (ps : List (List ℕ)). messages ++ stamped me time ps) (drop_all i payloads past)) ∙ so_far

-- ---- what is delivered of a received one

abbrev pub carried : ℕ → ℕ → List ℕ → Carried
carried sender number payload = record { sender = sender; number = number; payload = payload }

burst_messages : (burst : Burst) → messages_of (burst_fields burst) ≡ numbered burst.sender burst.first burst.payloads.items
unfolding messages_of
burst_messages burst = refl

-- the deliveries so far and those still to be made are all
abbrev pub SoFar : List ℕ → Burst → ℕ → List Event → Type 0
SoFar time burst i deliveries =
    deliveries ++ deliveries_at time (numbered burst.sender (burst.first + i) (drop i burst.payloads.items)) ≡ burst_delivered (burst_fields burst) time

pub none_so_far : (time : List ℕ) (burst : Burst) → SoFar time burst 0 []
none_so_far time burst =
    let first : burst.first + 0 ≡ burst.first = omega arith in
    ap (λ (n : ℕ). deliveries_at time (numbered burst.sender n burst.payloads.items)) first ∙ ap (deliveries_at time) (sym (burst_messages burst))

pub one_delivery_more : (time : List ℕ) (burst : Burst) (i : ℕ) (p : List ℕ) (deliveries more : List Event) (event : Event) → i < length burst.payloads.items → p ≡ get_or burst.payloads.items i p
    → event ≡ Deliver (carried_at time (carried burst.sender (burst.first + i) p)) → more ≡ deliveries ++ event ∷ [] → SoFar time burst i deliveries → SoFar time burst (i + 1) more
one_delivery_more time burst i p deliveries more event lt is made pushed so_far =
    let payloads = burst.payloads.items in
    let rest : ℕ → List Event = λ n. deliveries_at time (numbered burst.sender n (drop (i + 1) payloads)) in
    let next : burst.first + (i + 1) ≡ burst.first + i + 1 = omega arith in
    ap (λ (es : List Event). es ++ rest (burst.first + (i + 1))) (pushed ∙ ap (λ (e : Event). deliveries ++ e ∷ []) made)
    ∙ append_assoc deliveries (Deliver (carried_at time (carried burst.sender (burst.first + i) p)) ∷ []) (rest (burst.first + (i + 1)))
    ∙ ap (λ (n : ℕ). deliveries ++ Deliver (carried_at time (carried burst.sender (burst.first + i) p)) ∷ rest n) next
    ∙ ap (λ (ps : List (List ℕ)). deliveries ++ deliveries_at time (numbered burst.sender (burst.first + i) ps)) (sym (one_and_rest payloads i p lt is))
    ∙ so_far

pub all_deliveries : (time : List ℕ) (burst : Burst) (i : ℕ) (deliveries : List Event) → length burst.payloads.items ≤ i → SoFar time burst i deliveries → deliveries ≡ burst_delivered (burst_fields burst) time
all_deliveries time burst i deliveries past so_far =
    sym (append-nil deliveries) ∙ sym (ap (λ (ps : List (List ℕ)). deliveries ++ deliveries_at time (numbered burst.sender (burst.first + i) ps)) (drop_all i burst.payloads.items past)) ∙ so_far
