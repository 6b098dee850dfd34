-- A member that keeps its history is the one with the entries that are kept, before and after each call.
use Rattle.std.proofs.Common.{◌≡◌, ◌≢◌, ℕ, ◌==◌, ◌≤◌, Bool, true, false, List, [], ◌∷◌, ◌++◌, length, Option, Some, None, Result, Ok, refl, sym, ap, subst, ◌∙◌, arith, inl, inr}
use Rattle.std.specs.Prelude.{if◌then◌else◌, option_map}
use Rattle.std.proofs.lemmas.Bool.{cases_Bool, ne_eqb}
use Rattle.cb_frames.specs.Fields.{Load}
use Rattle.cb_delay.specs.declared.message.Message.{Message}
use Rattle.cb_history.specs.Answers.{ArrivalSays, arrival_says, burst_done}
use Rattle.cb_history.specs.Events.{events}
use Rattle.cb_history.specs.Facts.{CastEntry, EntryFields, TickEntry, entry_fields, facts_of}
use Rattle.cb_history.specs.Group.{Parameters}
use Rattle.cb_history.specs.Legal.{Call, ToCast, ToTake, ToTick, cast_entry, longest_history, room_for_one}
use Rattle.cb_history.specs.State.{MemberState, IsMemberState, HasCast, HasCastBurst, HasTaken, HasTicked, answer_to_arrival, answer_to_cast, answer_to_tick, entry_by, facts_in, next_in, state_after}
use Rattle.cb_history.specs.declared.answer.Arrival.{Arrival}
use Rattle.cb_history.specs.declared.answer.ArriveRefusal.{ArriveRefusal}
use Rattle.cb_history.specs.declared.answer.BurstDone.{BurstDone}
use Rattle.cb_history.specs.declared.answer.CastDone.{CastDone}
use Rattle.cb_history.specs.declared.answer.Outgoing.{Outgoing}
use Rattle.cb_history.specs.declared.history.Entry.{Entry}
use Rattle.cb_member.specs.Asked.{wants_answer, wants_entry}
use Rattle.cb_member.specs.declared.received.Received.{Received}
use Rattle.cb_member.specs.declared.received.Received.TheVariants as takens
use Rattle.cb_member.specs.declared.wanted.Taken.{Taken}
use Rattle.cb_member.specs.declared.wanted.Made.{Made}
use Rattle.cb_member.specs.declared.wanted.Told.{Told}
use Rattle.cb_member.specs.declared.wanted.Wanted.{Wanted}
use Rattle.cb_member.specs.Casting.{as_cast_done}
use Rattle.cb_member.specs.CoreCalls.{done_at}
use Rattle.cb_member.specs.CoreMember.{StandsFor}
use Rattle.cb_member.specs.Kept.{IsKept, Kept, OnEach, Stands, gone, limit_for, seat_of, state_with}
use Rattle.cb_member.specs.KeptCalls.{GoesOn, HasMade, HasReceived, HasReceivedWanting, HasTold, IsNew}
use Rattle.cb_member.specs.Member.{KeepsHistory, member_of}
use Rattle.cb_member.specs.Received.{HasReceivedFrame, HasTakenToSend, deliveries_in, received_says, sent_by}
use Rattle.cb_member.proofs.Keeping.{no_events}
use Rattle.cb_member.proofs.Limits.{is_some}

-- ---- the history that is kept

limit_with : (limit : ℕ) (es : List EntryFields) → limit ≢ 0 → limit_for limit es ≡ limit
limit_with limit es some = ap (λ (b : Bool). if b then room_for_one es else limit) (ne_eqb limit 0 some)

module _ (kept : Kept) (h : KeepsHistory kept) where
  pub some_entries : kept.limit ≢ 0
  some_entries none = let some = h.some in omega (arith, some, none)

  stands : Stands kept kept.entries
  stands = record { stands = h.history.stands; are_kept = λ _. refl }

  with_them : state_with kept kept.entries ≡ member_of kept
  with_them = ap (λ (n : ℕ). let m : MemberState = record { seat = seat_of kept; limit = n; entries = kept.entries } in m) (limit_with kept.limit kept.entries some_entries)

  -- what is so on each history is so on that one
  pub of_member : (P : MemberState → Type 0) → OnEach kept P → P (member_of kept)
  of_member P on = subst P with_them (on kept.entries stands)

  pub is_member_state : IsMemberState (member_of kept)
  is_member_state =
      let legal = h.history.stands.legal in
      let few = h.history.few in
      let most = h.most in
      record {
        legal = record { group = legal.group; member = legal.member; entries_are = legal.entries_are; few = omega (arith, few, most) };
        one_or_more = h.some;
        at_most = h.most;
        room = h.history.few;
      }

-- ---- limits

-- a limit is told by the histories that it leaves room for
limit_told : (old new : ℕ) → old ≢ 0 → ((es : List EntryFields) → limit_for new es ≡ limit_for old es) → new ≡ old
limit_told old new some same = elim (cases_Bool (new == 0)) [
  | inl zero ↦
      let none : 1 ≡ old = ap (λ (b : Bool). if b then 1 else new) (sym zero) ∙ same [] ∙ limit_with old [] some in
      let one : 2 ≡ old = ap (λ (b : Bool). if b then 2 else new) (sym zero) ∙ same (TickEntry [] ∷ []) ∙ limit_with old (TickEntry [] ∷ []) some in
      absurd (omega (arith, none, one))
  | inr on ↦ sym (limit_with new [] (is_some new on)) ∙ same [] ∙ limit_with old [] some
]

-- ---- a new one

module _ (group : Parameters) (me limit : ℕ) (kept : Kept) (new : IsNew group me limit kept) (some : 1 ≤ limit) (most : limit ≤ longest_history) where
  of_limit : kept.limit ≡ limit
  of_limit = limit_told limit kept.limit (λ none. omega (arith, some, none)) new.limit_is

  pub new_keeps_history : KeepsHistory kept
  new_keeps_history = record {
    some = omega (arith, some, of_limit);
    most = omega (arith, most, of_limit);
    history = record {
      stands = subst (λ (es : List EntryFields). StandsFor es kept.core) (sym new.entries) new.empty.stands;
      events_are = new.events ∙ sym (no_events (seat_of kept)) ∙ ap (λ (es : List EntryFields). events (seat_of kept) (facts_of es)) (sym new.entries);
      few = let none = ap (λ (es : List EntryFields). length es) new.entries in omega (arith, none);
    };
  }

  pub new_member : member_of kept ≡ record { seat = record { group = group; me = me }; limit = limit; entries = [] }
  new_member = λ i. record { seat = new.seat i; limit = of_limit i; entries = new.entries i }

-- ---- after a call

module _ (call : Call) (old new : Kept) (h : KeepsHistory old) (goes : GoesOn call old new) where
  same_limit : new.limit ≡ old.limit
  same_limit = limit_told old.limit new.limit (some_entries old h) goes.limit

  none_gone : (xs : List EntryFields) → gone new xs ≡ []
  none_gone xs = ap (λ (b : Bool). if b then xs else []) (ap (λ (n : ℕ). n == 0) same_limit ∙ ne_eqb old.limit 0 (some_entries old h))

  entries_after : new.entries ≡ (state_after (member_of old) call).entries
  entries_after = sym (ap (λ (xs : List EntryFields). xs ++ new.entries) (none_gone old.entries)) ∙ of_member old h (λ m. gone new m.entries ++ new.entries ≡ (state_after m call).entries) goes.entries

  pub after_call : member_of new ≡ state_after (member_of old) call
  after_call = λ i. record { seat = goes.seat i; limit = same_limit i; entries = entries_after i }

  pub still_keeps : IsKept new → KeepsHistory new
  still_keeps kept =
      let some = h.some in
      let most = h.most in
      record { some = omega (arith, some, same_limit); most = omega (arith, most, same_limit); history = kept (λ none. some_entries old h (sym same_limit ∙ none)) }

-- ---- casts

some_is : {A : Type 0} (a b : A) → Some a ≡ Some b → a ≡ b
some_is a b same = cc

module _ (wanted : Wanted) (load : Load) (old new : Kept) (made : Made) (h : KeepsHistory old) (m : HasMade wanted old new load made) where
  pub made_keeps : KeepsHistory new
  made_keeps = still_keeps (ToCast load) old new h m.cast.goes_on m.kept

  pub time_is_told : wants_answer wanted ≡ true → made.time ≢ None
  time_is_told want none = let told = m.told want in let e = sym told.1 ∙ none in absurd cc

  pub entry_is_told : wants_entry wanted ≡ true → made.noted ≢ None
  entry_is_told want none =
      let e = sym (ap cast_entry (of_member old h (λ m. answer_to_cast m load ≡ Ok (next_in m load)) m.cast.answer))
      ∙ of_member old h (λ x. entry_by x (ToCast load) ≡ option_map (λ frame. CastEntry frame) made.noted) (m.noted want) ∙ ap (option_map (λ (frame : List ℕ). CastEntry frame)) none in
      absurd cc

  pub made_burst : (done : BurstDone) → ((time : List ℕ) → made.time ≡ Some time → done ≡ done_at made time) → wants_answer wanted ≡ true → HasCastBurst (member_of old) (member_of new) load done
  made_burst done is want =
      let told = m.told want in
      record {
        answer = of_member old h (λ m. answer_to_cast m load ≡ Ok (next_in m load)) m.cast.answer;
        reported = is told.0 told.1 ∙ of_member old h (λ x. done_at made told.0 ≡ burst_done x.seat (facts_in x) (next_in x load)) told.2;
        after = after_call (ToCast load) old new h m.cast.goes_on;
      }

  -- of one message
  pub made_cast : (done : CastDone) → ((time : List ℕ) → made.time ≡ Some time → done ≡ as_cast_done (done_at made time)) → wants_answer wanted ≡ true → HasCast (member_of old) (member_of new) load done
  made_cast done is want =
      let told = m.told want in
      let burst = made_burst (done_at made told.0) (λ time at. ap (done_at made) (some_is told.0 time (sym told.1 ∙ at))) want in
      record { answer = burst.answer; reported = is told.0 told.1 ∙ ap as_cast_done burst.reported; after = burst.after }

  pub made_entry : (entry : Entry) → option_map (λ (frame : List ℕ). CastEntry frame) made.noted ≡ Some (entry_fields entry) → wants_entry wanted ≡ true → entry_by (member_of old) (ToCast load) ≡ Some (entry_fields entry)
  made_entry entry is want = of_member old h (λ x. entry_by x (ToCast load) ≡ option_map (λ (frame : List ℕ). CastEntry frame) made.noted) (m.noted want) ∙ is

-- ---- received bytes

-- what is sent is so whatever is delivered
same_sent : (r : Received) (messages : List Message) → sent_by (received_says r []) ≡ sent_by (received_says r messages)
same_sent (takens.Accepted delivered changed out) messages = refl
same_sent takens.Repeat messages = refl

-- what was left to be read before stays, or not: where a history is kept, that is the same
module _ (wanted : Wanted) (bytes : List ℕ) (old new : Kept) (taken : Taken × Option Entry) (h : KeepsHistory old) (t : HasReceivedWanting wanted false old new bytes taken) where
  abbrev received : HasReceived old new bytes taken.0.received
  received = subst (λ (k : Kept). HasReceived old k bytes taken.0.received) (sym t.received.2) t.received.1

  pub received_keeps : KeepsHistory new
  received_keeps = still_keeps (ToTake bytes) old new h received.goes_on t.kept

  pub received_frame : HasReceivedFrame (member_of old) (member_of new) bytes taken.0.received
  received_frame = record {
    says = t.received.1.says;
    answer = of_member old h (λ m. answer_to_arrival m bytes ≡ Ok t.received.1.says) t.received.1.answer;
    said = t.received.1.tells.said;
    count = t.received.1.tells.count;
    after = after_call (ToTake bytes) old new h received.goes_on;
  }

  -- with copies of what was delivered
  pub received_arrival : (arrival : Arrival) → arrival_says arrival ≡ received_says taken.0.received taken.0.deliveries.items → wants_answer wanted ≡ true → HasTaken (member_of old) (member_of new) bytes arrival
  unfolding received_frame
  received_arrival arrival is want =
      let says = t.received.1.says in
      let same : arrival_says arrival ≡ says = is ∙ ap (received_says taken.0.received) (t.deliveries want) ∙ t.received.1.tells.said in
      record {
        answer = received_frame.answer ∙ ap (λ (x : ArrivalSays). let r : Result ArrivalSays ArriveRefusal = Ok x in r) (sym same);
        after = received_frame.after;
      }

  -- what is to be sent
  pub received_to_send : (out : List Outgoing) → out ≡ sent_by (received_says taken.0.received []) → HasTakenToSend (member_of old) (member_of new) bytes out
  unfolding received_frame
  received_to_send out is = record {
    says = t.received.1.says;
    answer = received_frame.answer;
    sends = is ∙ same_sent taken.0.received (deliveries_in t.received.1.says) ∙ ap sent_by t.received.1.tells.said;
    after = received_frame.after;
  }

  pub received_entry : wants_entry wanted ≡ true → entry_by (member_of old) (ToTake bytes) ≡ option_map entry_fields taken.1
  received_entry want = of_member old h (λ m. entry_by m (ToTake bytes) ≡ option_map entry_fields taken.1) (t.noted want)

-- ---- ticks

module _ (wanted : Wanted) (old new : Kept) (told : Told) (h : KeepsHistory old) (t : HasTold wanted old new told) where
  pub told_keeps : KeepsHistory new
  told_keeps = still_keeps ToTick old new h t.goes_on t.kept

  pub told_ticked : HasTicked (member_of old) (member_of new) told.ticked
  told_ticked = record {
    answer = of_member old h (λ m. answer_to_tick m ≡ Ok (told.ticked.entered, told.ticked.out.items)) t.answer;
    after = after_call ToTick old new h t.goes_on;
  }

  pub told_entry : wants_entry wanted ≡ true → entry_by (member_of old) ToTick ≡ option_map entry_fields told.noted
  told_entry want = of_member old h (λ m. entry_by m ToTick ≡ option_map entry_fields told.noted) (t.noted want)
