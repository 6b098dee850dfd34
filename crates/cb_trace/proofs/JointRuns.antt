-- The run of an order's steps: each member has as many of its entries as have gone, and what was sent is what these sent, and requests.
use Rattle.std.proofs.Common.{◌≡◌, ◌⊎◌, ℕ, zero, suc, ◌+◌, ◌<◌, ◌≤◌, Bool, true, false, eqb, List, [], ◌∷◌, ◌++◌, length, map, take, drop, Some, refl, sym, ap, subst, ◌∙◌, inl, inr, arith, append_assoc, add-one, add-zero, if◌then◌else◌}
use Rattle.std.specs.Prelude.{slice_get}
use Rattle.std.specs.List.{AllByRecursion}
use Rattle.std.proofs.lemmas.Bool.{cases_lt, eqb-true, eqb-false, ne_eqb, lt-leb, lt-ltb}
use Rattle.std.proofs.lemmas.List.{length-take-le}
use Rattle.std.proofs.Math.Seq.{take-length}
use Rattle.std.proofs.lemmas.Option.{slice_get_within}
use Rattle.cb_frames.specs.Fields.{Load, load_bytes}
use Rattle.cb_frames.specs.Laws.{IsBytes}
use Rattle.cb_history.specs.Read.{frame_read}
use Rattle.cb_history.specs.declared.answer.Outgoing.{Outgoing}
use Rattle.cb_history.specs.Group.{Identity}
use Rattle.cb_history.specs.Facts.{EntryFields, CastEntry, ArriveEntry, TickEntry}
use Rattle.cb_history.specs.Answers.{is_full}
use Rattle.cb_history.specs.Legal.{longest_history, ToCast, ToTake, ToTick, entry_of, and_entry, history_after, IsLegal}
use Rattle.cb_history.specs.ReplayLaws.{load_said, call_of, IsAdded}
use Rattle.cb_history.proofs.Views.{IsIn}
use Rattle.cb_history.proofs.Lists.{in_front, in_back}
use Rattle.cb_history.proofs.Prefixes.{prefix_is_legal}
use Rattle.cb_history.proofs.Replays.{one_more_is_decided, entries_of_bytes_tell_bytes}
use Rattle.cb_schedules.specs.Schedule.{Setting, seat_at, Step, Schedule, SentFrame, Asked, Calls, OfNoMember, OfNoBytes, are_bytes, handed_over, asked_by, answer_of, frames_sent, sent_by, GroupState, after_asked, step_after, nothing_yet, run_from, run}
use Rattle.cb_schedules.proofs.GoingOn.{runs_go_on}
use Rattle.cb_schedules.proofs.Lists.{all_weaken, all_both, in_map}
use Rattle.cb_world.proofs.Taken.{bytes_are_bytes}
use Rattle.cb_trace.specs.JointOrder.{Histories, gone, next_entry, PutsOut, AreSentOut}
use Rattle.cb_trace.specs.JointRun.{IsStepOf, AreStepsOf, NoStep, OneStepMore, AreLegalWithin}
use Rattle.cb_trace.specs.AuditLaws.{RunHasTheHistories}
use Rattle.cb_trace.proofs.Ordering.{gone_more, gone_own, gone_at_least, sent_out_stays, one_is}
use Rattle.cb_trace.proofs.Answered.{entry_room, IsRequest, ComesWith, comes_with}

-- ---- lists

split_at : (xs : List EntryFields) (n : ℕ) (x : EntryFields) → slice_get xs n ≡ Some x → xs ≡ take n xs ++ x ∷ drop (suc n) xs
split_at [] n x e = absurd cc
split_at (y ∷ xs) zero x e = let same : y ≡ x = cc in ap (λ (z : EntryFields). z ∷ xs) same
split_at (y ∷ xs) (suc n) x e = ap (λ (zs : List EntryFields). y ∷ zs) (split_at xs n x e)

take_next : (xs : List EntryFields) (n : ℕ) (x : EntryFields) → slice_get xs n ≡ Some x → take (suc n) xs ≡ take n xs ++ x ∷ []
take_next [] n x e = absurd cc
take_next (y ∷ xs) zero x e = let same : y ≡ x = cc in ap (λ (z : EntryFields). z ∷ []) same
take_next (y ∷ xs) (suc n) x e = ap (λ (zs : List EntryFields). y ∷ zs) (take_next xs n x e)

-- ---- the invariant

-- a frame with these bytes was sent
abbrev pub IsSent : List SentFrame → List ℕ → Type 0
IsSent sent bytes = (frame : SentFrame) × IsIn frame sent × (frame.bytes ≡ bytes)

-- an entry that has gone put the bytes out, or they ask for what is missing
abbrev pub IsSentOutOrAsks : Histories → List ℕ → SentFrame → Type 0
IsSentOutOrAsks histories order frame = AreSentOut histories order frame.bytes ⊎ IsRequest frame.bytes

pub record Follows (histories : Histories) (order : List ℕ) (s : GroupState) : Type 0 where
  pub histories_are : (k : ℕ) → s.histories k ≡ take (gone order k) (histories k)
  pub all : (bytes : List ℕ) → AreSentOut histories order bytes → IsSent s.sent bytes
  pub only : AllByRecursion (IsSentOutOrAsks histories order) s.sent

starts : (histories : Histories) → Follows histories [] nothing_yet
starts histories = record {
  histories_are = λ k. refl;
  all = λ bytes out. absurd (let none : out.place < 0 = out.went in omega (arith, none));
  only = tt;
}

module _ (setting : Setting) (histories : Histories) (are : AreLegalWithin setting histories) (order : List ℕ) (k : ℕ) (e : EntryFields) (next : next_entry histories order k ≡ Some e) where
  abbrev count : ℕ
  count = gone order k

  abbrev before : List EntryFields
  before = take (gone order k) (histories k)

  abbrev me : Identity
  me = seat_at setting k

  inside : count < length (histories k)
  inside = slice_get_within (histories k) (gone order k) e next

  pub is_member : k < setting.group.size
  is_member = elim (cases_lt k setting.group.size) [
    | inl lt ↦ lt
    | inr le ↦ absurd (let none : length (histories k) ≡ 0 = ap length (are.nobody k le) in omega (arith, inside, none))
  ]

  pub legal_before : IsLegal me before × IsLegal me (before ++ e ∷ [])
  legal_before =
      let rest = drop (suc count) (histories k) in
      let parts : histories k ≡ (before ++ e ∷ []) ++ rest = split_at (histories k) count e next ∙ sym (append_assoc before (e ∷ []) rest) in
      let more : IsLegal me (before ++ e ∷ []) = prefix_is_legal me (before ++ e ∷ []) rest (subst (IsLegal me) parts (are.legal k is_member)) in
      (prefix_is_legal me before (e ∷ []) more, more)

  pub added : IsAdded me before e
  added = (one_more_is_decided me before e legal_before.0).0 legal_before.1

  long : length before ≡ count
  long = length-take-le count (histories k) (omega (arith, inside))

  room : is_full setting.limit before ≡ is_full longest_history before
  room =
      let few = are.few k in
      let most = (are.legal k is_member).few in
      lt-leb setting.limit (length before) (omega (arith, long, inside, few)) ∙ sym (lt-leb longest_history (length before) (omega (arith, long, inside, few, most)))

  entry_is : entry_of me setting.limit before (call_of e) ≡ Some e
  entry_is = entry_room me setting.limit longest_history before room (call_of e) ∙ added.1

  module _ (s : GroupState) (so : Follows histories order s) where
    now_is : s.histories k ≡ before
    now_is = so.histories_are k

    -- the step asks for the call that the entry tells
    asks : (step : Step) → IsStepOf s.sent k e step → asked_by setting s.sent step ≡ Calls k (call_of e)
    asks step of = by e refl of
      where
        by : (x : EntryFields) → e ≡ x → IsStepOf s.sent k x step → asked_by setting s.sent step ≡ Calls k (call_of x)
        by (CastEntry frame) same of =
            let load : Load = load_said (frame_read frame) in
            let bytes : IsBytes (load_bytes load) = entries_of_bytes_tell_bytes (CastEntry frame) (subst (λ (y : EntryFields). IsAdded me before y) same added).0 in
            let all : are_bytes (load_bytes load) ≡ true = bytes_are_bytes (load_bytes load) bytes in
            ap (asked_by setting s.sent) of
            ∙ ap (λ (b : Bool). if b then (if are_bytes (load_bytes load) then Calls k (ToCast load) else OfNoBytes) else OfNoMember) (lt-ltb k setting.group.size is_member)
            ∙ ap (λ (b : Bool). if b then Calls k (ToCast load) else OfNoBytes) all
        by (ArriveEntry frame names) same of =
            let first = of.1 in
            ap (asked_by setting s.sent) of.2
            ∙ ap (λ (b : Bool). if b then handed_over k (slice_get s.sent of.0) else OfNoMember) (lt-ltb k setting.group.size is_member)
            ∙ ap (handed_over k) first.stands
            ∙ ap (λ (bytes : List ℕ). Calls k (ToTake bytes)) first.bytes_are
        by (TickEntry status) same of =
            ap (asked_by setting s.sent) of
            ∙ ap (λ (b : Bool). if b then Calls k ToTick else OfNoMember) (lt-ltb k setting.group.size is_member)

    abbrev out : List Outgoing
    out = frames_sent (answer_of (seat_at setting k) setting.limit (s.histories k) (call_of e))

    out_comes : ComesWith e out
    out_comes =
        subst (λ (entries : List EntryFields). ComesWith e (frames_sent (answer_of me setting.limit entries (call_of e)))) (sym now_is)
        (comes_with me setting.limit before e entry_is)

    abbrev after : GroupState
    after = after_asked setting s (Calls k (call_of e))

    own_after : history_after me setting.limit (s.histories k) (call_of e) ≡ take (gone (order ++ k ∷ []) k) (histories k)
    own_after =
        ap (λ (entries : List EntryFields). history_after me setting.limit entries (call_of e)) now_is
        ∙ ap (and_entry before) entry_is
        ∙ sym (take_next (histories k) count e next)
        ∙ ap (λ (n : ℕ). take n (histories k)) (sym (gone_own order k ∙ add-one count))

    histories_after : (i : ℕ) → after.histories i ≡ take (gone (order ++ k ∷ []) i) (histories i)
    histories_after i = by (eqb i k) refl
      where
        by : (b : Bool) → eqb i k ≡ b → after.histories i ≡ take (gone (order ++ k ∷ []) i) (histories i)
        by true same =
            ap (λ (b : Bool). if b then history_after me setting.limit (s.histories k) (call_of e) else s.histories i) same
            ∙ own_after
            ∙ ap (λ (j : ℕ). take (gone (order ++ k ∷ []) j) (histories j)) (sym (eqb-true i k same))
        by false apart =
            let other : eqb k i ≡ false = ne_eqb k i (λ same. eqb-false i k apart (sym same)) in
            ap (λ (b : Bool). if b then history_after me setting.limit (s.histories k) (call_of e) else s.histories i) apart
            ∙ so.histories_are i
            ∙ ap (λ (n : ℕ). take n (histories i)) (sym (gone_more order k i ∙ ap (λ (b : Bool). gone order i + (if b then 1 else 0)) other ∙ add-zero (gone order i)))

    sent_out : (bytes : List ℕ) → PutsOut e bytes → IsSent after.sent bytes
    sent_out bytes puts =
        let found = out_comes.all bytes puts in
        (sent_by k found.0, in_back (sent_by k found.0) s.sent (map (sent_by k) out) (in_map (sent_by k) out found.0 found.1), found.2)

    old_sent : (bytes : List ℕ) → IsSent s.sent bytes → IsSent after.sent bytes
    old_sent bytes found = (found.0, in_front found.0 s.sent (map (sent_by k) out) found.1, found.2)

    all_after : (bytes : List ℕ) → AreSentOut histories (order ++ k ∷ []) bytes → IsSent after.sent bytes
    all_after bytes put = elim (cases_lt put.place (gone order put.member)) [
      | inl early ↦ old_sent bytes (so.all bytes (record { member = put.member; place = put.place; entry = put.entry; went = early; stands = put.stands; out = put.out }))
      | inr late ↦ by late (eqb k put.member) refl
    ]
      where
        by : gone order put.member ≤ put.place → (b : Bool) → eqb k put.member ≡ b → IsSent after.sent bytes
        by late true same =
            let one : k ≡ put.member = eqb-true k put.member same in
            let more = gone_own order put.member in
            let went : put.place < gone (order ++ put.member ∷ []) put.member = subst (λ (j : ℕ). put.place < gone (order ++ j ∷ []) put.member) one put.went in
            let place : put.place ≡ gone order put.member = omega (arith, late, went, more) in
            let stands : slice_get (histories k) (gone order k) ≡ Some put.entry = subst (λ (j : ℕ). slice_get (histories j) (gone order j) ≡ Some put.entry) (sym one) (subst (λ (n : ℕ). slice_get (histories put.member) n ≡ Some put.entry) place put.stands) in
            sent_out bytes (subst (λ (x : EntryFields). PutsOut x bytes) (one_is put.entry e (sym stands ∙ next)) put.out)
        by late false apart =
            let more = gone_more order k put.member ∙ ap (λ (b : Bool). gone order put.member + (if b then 1 else 0)) apart in
            absurd (let went = put.went in omega (arith, late, went, more))

    only_old : (frame : SentFrame) → IsSentOutOrAsks histories order frame → IsSentOutOrAsks histories (order ++ k ∷ []) frame
    only_old frame (inl put) = inl (sent_out_stays histories order (order ++ k ∷ []) frame.bytes (λ i. gone_at_least order k i) put)
    only_old frame (inr asks) = inr asks

    only_new : (o : Outgoing) → PutsOut e o.bytes ⊎ IsRequest o.bytes → IsSentOutOrAsks histories (order ++ k ∷ []) (sent_by k o)
    only_new o (inl puts) = inl (record {
      member = k;
      place = gone order k;
      entry = e;
      went = let more = gone_own order k in omega (arith, more);
      stands = next;
      out = puts;
    })
    only_new o (inr asks) = inr asks

    only_after : AllByRecursion (IsSentOutOrAsks histories (order ++ k ∷ [])) after.sent
    only_after =
        all_both (IsSentOutOrAsks histories (order ++ k ∷ [])) s.sent (map (sent_by k) out)
        (all_weaken (IsSentOutOrAsks histories order) (IsSentOutOrAsks histories (order ++ k ∷ [])) s.sent only_old so.only)
        (mapped out out_comes.only)
      where
        mapped : (os : List Outgoing) → AllByRecursion (λ (o : Outgoing). PutsOut e o.bytes ⊎ IsRequest o.bytes) os → AllByRecursion (IsSentOutOrAsks histories (order ++ k ∷ [])) (map (sent_by k) os)
        mapped [] each = tt
        mapped (o ∷ os) each = (only_new o each.0, mapped os each.1)

    pub step_follows : (step : Step) → IsStepOf s.sent k e step → Follows histories (order ++ k ∷ []) (step_after setting s step)
    unfolding step_after
    step_follows step of =
        subst (λ (asked : Asked). Follows histories (order ++ k ∷ []) (after_asked setting s asked)) (sym (asks step of))
        (record { histories_are = histories_after; all = all_after; only = only_after })

-- ---- runs

pub run_follows : (setting : Setting) (histories : Histories) → AreLegalWithin setting histories → (order : List ℕ) (steps : Schedule) → AreStepsOf setting histories order steps → Follows histories order (run setting steps)
unfolding run_from
run_follows setting histories are _ _ NoStep = starts histories
run_follows setting histories are _ _ (OneStepMore order steps k e step before next of) =
    subst (Follows histories (order ++ k ∷ [])) (sym (runs_go_on setting steps step))
    (step_follows setting histories are order k e next (run setting steps) (run_follows setting histories are order steps before) step of)

pub run_has_the_histories : RunHasTheHistories
run_has_the_histories setting histories order steps are joint so k =
    (run_follows setting histories are order steps so).histories_are k
    ∙ ap (λ (n : ℕ). take n (histories k)) (joint.all k)
    ∙ take-length (histories k)
