-- The facts up to the last own cast, and the next cast.
use Rattle.std.proofs.Common.{◌≡◌, ◌≢◌, ℕ, ◌+◌, ◌<◌, ◌≤◌, Bool, true, false, ◌||◌, ltb, List, [], ◌∷◌, ◌++◌, length, take, set, Option, None, Result, Err, refl, sym, ap, subst, ◌∙◌, arith, inl, inr}
use Rattle.std.specs.Borrow.{Bor}
use Rattle.std.specs.List.{list_any}
use Rattle.std.proofs.Math.Bool.{or-true}
use Rattle.std.proofs.lemmas.Bool.{cond_both, cases_eq}
use Rattle.std.proofs.lemmas.List.{length-set, get_or-set_same, get_or-set_other, ext_get_or}
use Rattle.std.proofs.lemmas.List.FromFn.{length-map-range_with_len}
use Rattle.cb_times.specs.Order.{field}
use Rattle.cb_frames.specs.declared.frame.TheConstants.{LONGEST_PAYLOAD}
use Rattle.cb_frames.specs.Carrying.{AreNumberedFrom}
use Rattle.cb_frames.specs.Fields.{Load, One, IsSome, payloads_of, CastFields, Carried, CastFrame, messages_of, first_number}
use Rattle.cb_frames.specs.Text.{KeepsCastRules, text_of}
use Rattle.cb_frames.proofs.Carried.{carried_in_order, carries_payloads}
use Rattle.cb_history.specs.declared.answer.CastRefusal.{CastRefusal}
use Rattle.cb_history.specs.declared.answer.CastRefusal.TheVariants as casts
use Rattle.cb_history.specs.declared.answer.BurstRefusal.{BurstRefusal}
use Rattle.cb_history.specs.declared.answer.BurstRefusal.TheVariants as bursts
use Rattle.cb_history.specs.CastFault.{CastFault, EmptyBurst, BurstTooLong, IsFault, fault_told, burst_fault_told}
use Rattle.cb_history.specs.Load.{FitsFrame}
use Rattle.cb_history.specs.Group.{Identity}
use Rattle.cb_history.specs.Facts.{EntryFields, Fact, facts_of}
use Rattle.cb_history.specs.View.{count, counts, view}
use Rattle.cb_history.specs.Answers.{is_full, delivered, is_own_cast, upto_last_cast, is_too_many, cast_answer, burst_done}
use Rattle.cb_history.specs.State.{MemberState, IsMemberState, facts_in, view_in, next_in, RefusesCast, RefusesBurst}
use Rattle.cb_history.proofs.Bounds.{count_at_most}
use Rattle.cb_history.proofs.Delivering.{in_field}
use Rattle.cb_history.proofs.Histories.{legal_histories_say_legal_facts}
use Rattle.cb_history.proofs.Lists.{count_own, count_other}
use Rattle.cb_history.proofs.Loads.{fitting_keeps_rules}
use Rattle.cb_history.proofs.Times.{upto_below}
use Rattle.cb_history.proofs.Written.{next_keeps}
use Rattle.cb_reference.specs.declared.cast.Head.{Head}
use Rattle.cb_reference.specs.Casting.{IsNextHead, IsOfOne}
use Rattle.cb_reference.specs.Past.{most_seen}
use Rattle.cb_reference.proofs.Bounds.{facts_at_most, seen_at_most}

any_last : (facts : List Fact) (f : Fact) → is_own_cast f ≡ true → list_any is_own_cast (facts ++ f ∷ []) ≡ true
any_last [] f h = rw h refl
any_last (g ∷ facts) f h = rw (any_last facts f h) (or-true (is_own_cast g))

any_other : (facts : List Fact) (f : Fact) → is_own_cast f ≡ false → list_any is_own_cast (facts ++ f ∷ []) ≡ list_any is_own_cast facts
any_other [] f h = rw h refl
any_other (g ∷ facts) f h = ap (λ (b : Bool). is_own_cast g || b) (any_other facts f h)

pub own_last : (facts : List Fact) (f : Fact) → is_own_cast f ≡ true → upto_last_cast (facts ++ f ∷ []) ≡ facts ++ f ∷ []
own_last [] f h = rw h refl
own_last (g ∷ facts) f h = rw (any_last facts f h, or-true (is_own_cast g)) (ap (λ (fs : List Fact). g ∷ fs) (own_last facts f h))

pub other_last : (facts : List Fact) (f : Fact) → is_own_cast f ≡ false → upto_last_cast (facts ++ f ∷ []) ≡ upto_last_cast facts
other_last [] f h = rw h refl
other_last (g ∷ facts) f h = rw (any_other facts f h, other_last facts f h) refl

-- ---- payloads

abbrev pub payload_of : Bor (List ℕ) → List ℕ
payload_of payload = payload.now

-- ---- the next cast

-- a member sees no more messages than numbers go to
pub seen_is_small : (m : MemberState) → IsMemberState m → length (view m.seat.group.size (facts_in m)) ≤ most_seen
seen_is_small m state = let room = state.room in let limit = state.at_most in omega (arith, seen_at_most m state, facts_at_most m.entries, room, limit)

pub counts_are_small : (m : MemberState) (k : ℕ) → IsMemberState m → count (view m.seat.group.size (facts_in m)) k ≤ most_seen
counts_are_small m k state = omega (arith, count_at_most (view m.seat.group.size (facts_in m)) k, seen_is_small m state)

-- and no more up to its last own cast
pub counts_upto_are_small : (m : MemberState) (k : ℕ) → IsMemberState m → count (view m.seat.group.size (upto_last_cast (facts_in m))) k ≤ most_seen
counts_upto_are_small m k state =
    omega (arith, upto_below m.seat (facts_in m) k (legal_histories_say_legal_facts m.seat m.entries state.legal).facts_are, counts_are_small m k state)

-- its next cast keeps the rules of a frame
pub next_keeps_rules : (m : MemberState) (load : Load) → IsMemberState m → FitsFrame load → KeepsCastRules (next_in m load)
next_keeps_rules m load state fits =
    let few = fits.few in
    let own : delivered m.seat (facts_in m) m.seat.me ≤ most_seen = counts_are_small m m.seat.me state in
    next_keeps m.seat (facts_in m) load (fitting_keeps_rules (delivered m.seat (facts_in m) m.seat.me + 1) load fits (omega (arith, few, own)))
    state.legal.group.size.at_most_sixty_four state.legal.member

pub next_is_made : (m : MemberState) (head : Head) (load : Load) → IsNextHead m head
    → record { group = head.group; sender = head.sender; number = head.number; changes = head.changes.items; load = load } ≡ next_in m load
next_is_made m head load is = rw (is.group_is, is.sender_is, is.number_is, is.changes_are) refl

-- ---- its time

-- one message more counts at its sender's field
pub counts_one_more : (size : ℕ) (seen : List Carried) (m : Carried) → m.sender < size → set (counts size seen) m.sender (field (counts size seen) m.sender + 1) ≡ counts size (seen ++ m ∷ [])
counts_one_more size seen m lt =
    let grown = set (counts size seen) m.sender (field (counts size seen) m.sender + 1) in
    let now = counts size (seen ++ m ∷ []) in
    let long : length grown ≡ size = length-set (counts size seen) m.sender (field (counts size seen) m.sender + 1) ∙ length-map-range_with_len (count seen) 0 size in
    ext_get_or 0 grown now (long ∙ sym (length-map-range_with_len (count (seen ++ m ∷ [])) 0 size)) (λ k within.
    let small : k < size = omega (arith, within, long) in
    elim (cases_eq k m.sender) [
      | inl e ↦
          let at : field grown m.sender ≡ field (counts size seen) m.sender + 1 =
          get_or-set_same (counts size seen) m.sender (field (counts size seen) m.sender + 1) 0 (omega (arith, lt, length-map-range_with_len (count seen) 0 size)) in
          let is : field now m.sender ≡ count seen m.sender + 1 = in_field size (count (seen ++ m ∷ [])) m.sender lt ∙ count_own seen m m.sender refl in
          let before : field (counts size seen) m.sender ≡ count seen m.sender = in_field size (count seen) m.sender lt in
          subst (λ (j : ℕ). field grown j ≡ field now j) (sym e) (at ∙ ap (λ (n : ℕ). n + 1) before ∙ sym is)
      | inr ne ↦
          get_or-set_other (counts size seen) m.sender k (field (counts size seen) m.sender + 1) 0 ne ∙ in_field size (count seen) k small
          ∙ sym (count_other seen m k (λ e. ne (sym e))) ∙ sym (in_field size (count (seen ++ m ∷ [])) k small)
    ])

-- the first message of a cast
pub record IsFirst (c : CastFields) : Type 0 where
  pub first : Carried
  pub sender_is : first.sender ≡ c.sender
  pub alone : take 1 (messages_of c) ≡ first ∷ []

pub has_first : (c : CastFields) → IsSome c.load → IsFirst c
has_first c some = first_of c (messages_of c) (carried_in_order c) (omega (arith, some, carries_payloads c)) refl
  where
    first_of : (c : CastFields) (ms : List Carried) → AreNumberedFrom c.sender (first_number c) ms → 1 ≤ length ms → messages_of c ≡ ms → IsFirst c
    first_of c [] row some is = absurd (omega (arith, some))
    first_of c (m ∷ ms) row some is = record { first = m; sender_is = row.0; alone = ap (λ (xs : List Carried). take 1 xs) is }

-- what the caller gets of the next cast, from its parts
pub done_is : (m : MemberState) (load : Load) (cast : CastFields) (count : ℕ) (time : List ℕ) → cast ≡ next_in m load → count ≡ length (payloads_of load)
    → time ≡ counts m.seat.group.size (view_in m ++ take 1 (messages_of (next_in m load)))
    → record { first = record { sender = cast.sender; number = first_number cast }; count = count; time = time; out = text_of (CastFrame cast) } ≡ burst_done m.seat (facts_in m) (next_in m load)
done_is m load cast count time same many timed = rw (same, many, timed) refl

-- ---- what is said of a cast of one message by what is said of its load

abbrev HasPayloads : Result CastFields CastFault → Type 0
HasPayloads answer = (answer ≢ Err EmptyBurst) × (answer ≢ Err BurstTooLong)

one_has_payloads : (seat : Identity) (limit : ℕ) (entries : List EntryFields) (payload : List ℕ) → HasPayloads (cast_answer seat limit entries (One payload))
unfolding cast_answer
one_has_payloads seat limit entries payload =
    cond_both (ltb LONGEST_PAYLOAD (length payload)) _ _ HasPayloads (λ _. (λ h. absurd cc, λ h. absurd cc))
    (λ _. cond_both (is_too_many seat (facts_of entries) 1) _ _ HasPayloads (λ _. (λ h. absurd cc, λ h. absurd cc))
    (λ _. cond_both (is_full limit entries) _ _ HasPayloads (λ _. (λ h. absurd cc, λ h. absurd cc))
    (λ _. (λ h. absurd cc, λ h. absurd cc))))

-- it is refused neither for want of payloads nor for too many
pub refusal_is_of_one : (m : MemberState) (payload : List ℕ) (refusal : BurstRefusal) → RefusesBurst m (One payload) refusal → IsOfOne refusal
refusal_is_of_one m payload bursts.EmptyBurst (inl told) = absurd ((one_has_payloads m.seat m.limit m.entries payload).0 told)
refusal_is_of_one m payload bursts.EmptyBurst (inr wants) = absurd (let e = wants.0 in cc)
refusal_is_of_one m payload bursts.BurstTooLong (inl told) = absurd ((one_has_payloads m.seat m.limit m.entries payload).1 told)
refusal_is_of_one m payload bursts.BurstTooLong (inr wants) = absurd (let e = wants.0 in cc)
refusal_is_of_one m payload bursts.PayloadTooLong refused = (λ e. absurd cc, λ e. absurd cc)
refusal_is_of_one m payload bursts.WindowFull refused = (λ e. absurd cc, λ e. absurd cc)
refusal_is_of_one m payload bursts.HistoryFull refused = (λ e. absurd cc, λ e. absurd cc)
refusal_is_of_one m payload bursts.NoMemory refused = (λ e. absurd cc, λ e. absurd cc)

no_fault_is_memory : (refusal : CastRefusal) → fault_told refusal ≡ None → refusal ≡ casts.NoMemory
no_fault_is_memory casts.PayloadTooLong none = absurd cc
no_fault_is_memory casts.WindowFull none = absurd cc
no_fault_is_memory casts.HistoryFull none = absurd cc
no_fault_is_memory casts.NoMemory none = refl

pub refuses_one : (m : MemberState) (load : Load) (refusal : BurstRefusal) (told : CastRefusal) → RefusesBurst m load refusal → burst_fault_told refusal ≡ fault_told told → RefusesCast m load told
refuses_one m load refusal told (inl fault) same = inl (subst (λ (o : Option CastFault). IsFault o (cast_answer m.seat m.limit m.entries load)) same fault)
refuses_one m load refusal told (inr wants) same = inr (no_fault_is_memory told (sym same ∙ ap burst_fault_told wants.0), wants.1)
