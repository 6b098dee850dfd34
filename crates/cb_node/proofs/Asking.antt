-- A tick with what it posts, and the row of help frames, one sender behind the other.
use Rattle.std.proofs.Common.{◌≡◌, ℕ, ◌+◌, ◌-◌, ◌<◌, ◌≤◌, Bool, true, false, if◌then◌else◌, List, [], ◌++◌, Option, None, Result, Err, inl, inr, refl, sym, ap, subst, ◌∙◌, append_assoc, arith}
use Rattle.std.specs.List.{range_with_len}
use Rattle.std.proofs.lemmas.List.{append-nil}
use Rattle.cb_history.specs.declared.answer.HelpFault.{HelpFault}
use Rattle.cb_history.specs.declared.answer.HelpFault.TheVariants as helps
use Rattle.cb_history.specs.declared.answer.Outgoing.{Outgoing}
use Rattle.cb_history.specs.declared.answer.Ticked.{Ticked}
use Rattle.cb_history.specs.State.{HasTicked, MemberState, RefusesHelp, answer_to_help}
use Rattle.cb_member.proofs.Telling.{row_more}
use Rattle.cb_node.specs.Course.{Work}
use Rattle.cb_node.specs.Desk.{TicksIn, frame_of, helps_for, helps_of}
use Rattle.cb_node.specs.Kept.{IsKeptState, KeptState, work_of}
use Rattle.cb_node.specs.Turning.{HasMadeTick}

-- one sender more
pub help_more : (m : MemberState) (n i : ℕ) (items new whole : List Outgoing) → i < n → new ≡ items ++ frame_of (answer_to_help m i)
    → items ++ helps_for m (range_with_len i (n - i)) ≡ whole → new ++ helps_for m (range_with_len (i + 1) (n - (i + 1))) ≡ whole
help_more m n i items new whole lt pushed h =
    let one = frame_of (answer_to_help m i) in
    let others = helps_for m (range_with_len (i + 1) (n - (i + 1))) in
    let e : helps_for m (range_with_len i (n - i)) ≡ one ++ others = rw (row_more n i lt) refl in
    rw pushed (append_assoc items one others ∙ ap (λ (out : List Outgoing). items ++ out) (sym e) ∙ h)

-- all senders are left to ask for, and none is any more
pub helps_to_ask : (m : MemberState) (items : List Outgoing) → items ++ helps_for m (range_with_len 0 (m.seat.group.size - 0)) ≡ items ++ helps_of m
helps_to_ask m items =
    let e : m.seat.group.size - 0 ≡ m.seat.group.size = omega arith in
    ap (λ (n : ℕ). items ++ helps_for m (range_with_len 0 n)) e

pub helps_asked : (m : MemberState) (n i : ℕ) (items whole : List Outgoing) → n ≤ i → items ++ helps_for m (range_with_len i (n - i)) ≡ whole → items ≡ whole
helps_asked m n i items whole past h =
    let e : 0 ≡ n - i = omega (arith, past) in
    sym (append-nil items) ∙ ap (λ (k : ℕ). items ++ helps_for m (range_with_len i k)) e ∙ h

-- what a member answers that is all kept
pub posted_help : (old mid new : KeptState) (sender : ℕ) (answer : Result (Option Outgoing) HelpFault) → IsKeptState old → old.fault ≡ None → mid ≡ old → answer_to_help mid.member sender ≡ answer
    → new.post ≡ mid.post ++ frame_of answer → new.post ≡ old.post ++ frame_of (answer_to_help old.kept sender)
posted_help old mid new sender answer is alive same asked post =
    let at : MemberState → Result (Option Outgoing) HelpFault = λ m. answer_to_help m sender in
    let answered : answer_to_help old.kept sender ≡ answer = ap at (is.whole alive ∙ ap (λ (s : KeptState). s.member) (sym same)) ∙ asked in
    post ∙ ap (λ (s : KeptState). s.post ++ frame_of answer) same ∙ ap (λ (r : Result (Option Outgoing) HelpFault). old.post ++ frame_of r) (sym answered)

not_by_memory : helps.BadMember ≡ helps.NoMemory → ⊥
not_by_memory e = absurd cc

-- the number is no other member's
pub is_bad_member : (m : MemberState) (sender : ℕ) → RefusesHelp m sender helps.BadMember → answer_to_help m sender ≡ Err helps.BadMember
is_bad_member m sender (inl answered) = answered
is_bad_member m sender (inr (by_memory, _, _)) = absurd (not_by_memory by_memory)

-- a tick, of what stood before it and behind it
pub ticks_in : (old new : KeptState) (before after : MemberState) (ticked : Ticked) → old.kept ≡ before → new.kept ≡ after → HasTicked before after ticked
    → new.post ≡ old.post ++ ticked.out.items → new.refused ≡ old.refused → TicksIn (work_of old) (work_of new)
ticks_in old new before after ticked b a h post refused = record {
  ticked = ticked;
  ticks = subst (λ (m : MemberState). HasTicked m new.kept ticked) (sym b) (subst (λ (m : MemberState). HasTicked before m ticked) (sym a) h);
  post = post;
  refused = refused;
}

-- behind it third members were asked
pub ticks_and_asks : (old mid new : KeptState) (counted asks : Bool) → TicksIn (work_of old) (work_of mid) → counted ≡ asks → counted ≡ true → new ≡ record mid { post = new.post } → new.post ≡ mid.post ++ helps_of mid.kept
    → HasMadeTick (work_of old) (work_of new) asks
ticks_and_asks old mid new counted asks t is is_true same asked = record {
  ticked = work_of mid;
  ticks_in = t;
  after = ap work_of same
      ∙ ap (λ (post : List Outgoing). let w : Work = record { member = mid.kept; post = post; refused = mid.refused } in w)
      (asked ∙ ap (λ (b : Bool). mid.post ++ (if b then helps_of mid.kept else [])) (sym is_true ∙ is));
}

-- or nobody was
pub ticks_alone : (old new : KeptState) (counted asks : Bool) → TicksIn (work_of old) (work_of new) → counted ≡ asks → counted ≡ false → HasMadeTick (work_of old) (work_of new) asks
ticks_alone old new counted asks t is is_false = record {
  ticked = work_of new;
  ticks_in = t;
  after = ap (λ (post : List Outgoing). let w : Work = record { member = new.kept; post = post; refused = new.refused } in w)
      (sym (append-nil new.post) ∙ ap (λ (b : Bool). new.post ++ (if b then helps_of new.kept else [])) (sym is_false ∙ is));
}
