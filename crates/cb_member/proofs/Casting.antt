-- The next cast, made from what is kept.
use Rattle.std.proofs.Common.{◌≡◌, ℕ, zero, suc, true, false, ◌+◌, ◌-◌, ◌<◌, ◌≤◌, inl, inr, List, [], ◌∷◌, ◌++◌, length, set, slice_get, take, Some, refl, sym, ap, subst, ◌∙◌, append_assoc, arith}
use Rattle.std.specs.List.{flat_map}
use Rattle.std.proofs.lemmas.Bool.{cases_Bool, cases_eq, cases_lt, le-ltb}
use Rattle.std.proofs.lemmas.List.{length-set, get_or-set_same, get_or-set_other, get_or_past, ext_get_or}
use Rattle.std.proofs.lemmas.List.FromFn.{length-map-range_with_len}
use Rattle.std.proofs.lemmas.Option.{slice_get_within}
use Rattle.cb_times.specs.Order.{field, AtMost}
use Rattle.cb_frames.specs.declared.frame.TheConstants.{LAST_NUMBER}
use Rattle.cb_frames.specs.declared.frame.Change.{Change}
use Rattle.cb_varint.specs.Reading.{spelling}
use Rattle.cb_frames.specs.Carrying.{AreNumberedFrom}
use Rattle.cb_frames.specs.Fields.{Load, One, IsSome, Carried, CastFields, CastFrame, first_number, messages_of, numbered, payloads_of}
use Rattle.cb_frames.proofs.Carried.{carried_in_order, carries_payloads}
use Rattle.cb_frames.specs.Text.{cast_kind, cast_numbers, text_of, with_load}
use Rattle.cb_delay.specs.declared.message.Message.{Message}
use Rattle.cb_diffs.specs.Differences.{differences}
use Rattle.cb_stability.specs.Sent.{room_of}
use Rattle.cb_stability.proofs.Windows.{room_for}
use Rattle.cb_history.specs.Group.{Identity}
use Rattle.cb_history.specs.Facts.{Fact}
use Rattle.cb_history.specs.View.{count, counts, view, time_of}
use Rattle.cb_history.specs.Known.{stable}
use Rattle.cb_history.specs.Answers.{delivered, is_too_many, upto_last_cast, next_cast}
use Rattle.cb_history.specs.LegalFacts.{AreFactsOf}
use Rattle.cb_history.proofs.Acknowledged.{acknowledged_is_delivered}
use Rattle.cb_history.proofs.Counts.{numbers_left, room_left_for}
use Rattle.cb_history.proofs.Lists.{count_own, count_other}
use Rattle.cb_history.proofs.Delivering.{in_field}
use Rattle.cb_history.proofs.Times.{upto_below}
use Rattle.cb_member.specs.declared.state.State.{State}
use Rattle.cb_member.specs.State.{Keeps}
use Rattle.cb_member.specs.Casting.{message_at, next_messages, next_time, time_of_last, timed}
use Rattle.cb_member.proofs.Reading.{time_long, time_at}

counts_long : (size : ℕ) (seen : List Carried) → length (counts size seen) ≡ size
counts_long size seen = length-map-range_with_len (count seen) 0 size

pub time_is_long : (state : State) (facts : List Fact) → Keeps facts state → length state.delivery.time ≡ state.seat.group.size
time_is_long state facts k = time_long state.seat facts state.delivery k.delivered

pub last_is_long : (state : State) (facts : List Fact) → Keeps facts state → length state.sending.last_cast ≡ state.seat.group.size
last_is_long state facts k = ap length k.sent.last_cast ∙ counts_long state.seat.group.size (view state.seat.group.size (upto_last_cast facts))

pub time_has_me : (state : State) (facts : List Fact) → AreFactsOf state.seat facts → Keeps facts state → state.seat.me < length state.delivery.time
time_has_me state facts are k = omega (arith, time_is_long state facts k, are.member)

pub own_delivered : (state : State) (facts : List Fact) → AreFactsOf state.seat facts → Keeps facts state → field state.delivery.time state.seat.me ≡ delivered state.seat facts state.seat.me
own_delivered state facts are k = time_at state.seat facts state.delivery state.seat.me k.delivered are.member

-- a load for whose messages there is room is not too many, and one for which there is none is
pub is_few : (state : State) (facts : List Fact) (n : ℕ) → AreFactsOf state.seat facts → Keeps facts state → 1 ≤ n → n ≤ room_of state.sending.window → is_too_many state.seat facts n ≡ false
is_few state facts n are k some room =
    let sent = k.sent.window in
    let left = (room_for state.sending.window n some).0 room in
    let near : delivered state.seat facts state.seat.me + n ≤ stable state.seat facts + state.seat.group.window = omega (arith, left.0, sent.width, sent.put, sent.trimmed, (acknowledged_is_delivered state.seat facts are).1) in
    let below : delivered state.seat facts state.seat.me + n ≤ LAST_NUMBER = omega (arith, left.1, sent.put) in
    rw (le-ltb (stable state.seat facts + state.seat.group.window) (delivered state.seat facts state.seat.me + n) near, le-ltb LAST_NUMBER (delivered state.seat facts state.seat.me + n) below) refl

pub is_many : (state : State) (facts : List Fact) (n : ℕ) → AreFactsOf state.seat facts → Keeps facts state → 1 ≤ n → room_of state.sending.window < n → is_too_many state.seat facts n ≡ true
is_many state facts n are k some room = elim (cases_Bool (is_too_many state.seat facts n)) [
  | inl many ↦ many
  | inr few ↦
      let sent = k.sent.window in
      let near = room_left_for state.seat facts n few in
      let below = numbers_left state.seat facts n few in
      let fits = (room_for state.sending.window n some).1 (omega (arith, near, sent.width, sent.put, sent.trimmed, (acknowledged_is_delivered state.seat facts are).1), omega (arith, below, sent.put)) in
      absurd (omega (arith, fits, room))
]

-- as many numbers are left as there is room
pub own_left_for : (state : State) (facts : List Fact) (n : ℕ) → AreFactsOf state.seat facts → Keeps facts state → 1 ≤ n → n ≤ room_of state.sending.window → field state.delivery.time state.seat.me + n ≤ LAST_NUMBER
own_left_for state facts n are k some room = omega (arith, own_delivered state facts are k, numbers_left state.seat facts n (is_few state facts n are k some room))

-- while there is room in the window a number is left
pub own_left : (state : State) (facts : List Fact) → AreFactsOf state.seat facts → Keeps facts state → 0 < room_of state.sending.window → field state.delivery.time state.seat.me < LAST_NUMBER
own_left state facts are k room = omega (arith, own_left_for state facts 1 are k (omega arith) (omega (arith, room)))

-- the time has only grown since the last cast
pub has_grown : (state : State) (facts : List Fact) → AreFactsOf state.seat facts → Keeps facts state → AtMost (field state.sending.last_cast) (field state.delivery.time)
has_grown state facts are kept k = elim (cases_lt k state.seat.group.size) [
  | inl lt ↦
      let before : field state.sending.last_cast k ≡ count (view state.seat.group.size (upto_last_cast facts)) k =
      ap (λ (time : List ℕ). field time k) kept.sent.last_cast ∙ in_field state.seat.group.size (count (view state.seat.group.size (upto_last_cast facts))) k lt in
      omega (arith, before, time_at state.seat facts state.delivery k kept.delivered lt, upto_below state.seat facts k are.facts_are)
  | inr ge ↦
      let none : field state.sending.last_cast k ≡ 0 = get_or_past state.sending.last_cast k 0 (omega (arith, ge, last_is_long state facts kept)) in
      omega (arith, none)
]

-- one message more counts at its sender's field
counts_one_more : (size : ℕ) (seen : List Carried) (m : Carried) → m.sender < size → set (counts size seen) m.sender (field (counts size seen) m.sender + 1) ≡ counts size (seen ++ m ∷ [])
counts_one_more size seen m lt =
    let long : length (set (counts size seen) m.sender (field (counts size seen) m.sender + 1)) ≡ size = length-set (counts size seen) m.sender (field (counts size seen) m.sender + 1) ∙ counts_long size seen in
    ext_get_or 0 (set (counts size seen) m.sender (field (counts size seen) m.sender + 1)) (counts size (seen ++ m ∷ [])) (long ∙ sym (counts_long size (seen ++ m ∷ []))) (λ k within.
    let small : k < size = omega (arith, within, long) in
    elim (cases_eq k m.sender) [
      | inl e ↦
          let at : field (set (counts size seen) m.sender (field (counts size seen) m.sender + 1)) m.sender ≡ field (counts size seen) m.sender + 1 =
          get_or-set_same (counts size seen) m.sender (field (counts size seen) m.sender + 1) 0 (omega (arith, lt, counts_long size seen)) in
          let now : field (counts size (seen ++ m ∷ [])) m.sender ≡ count seen m.sender + 1 = in_field size (count (seen ++ m ∷ [])) m.sender lt ∙ count_own seen m m.sender refl in
          let before : field (counts size seen) m.sender ≡ count seen m.sender = in_field size (count seen) m.sender lt in
          subst (λ (j : ℕ). field (set (counts size seen) m.sender (field (counts size seen) m.sender + 1)) j ≡ field (counts size (seen ++ m ∷ [])) j) (sym e)
          (at ∙ ap (λ (n : ℕ). n + 1) before ∙ sym now)
      | inr ne ↦
          get_or-set_other (counts size seen) m.sender k (field (counts size seen) m.sender + 1) 0 ne ∙ in_field size (count seen) k small
          ∙ sym (count_other seen m k (λ e. ne (sym e))) ∙ sym (in_field size (count (seen ++ m ∷ [])) k small)
    ])

-- ---- the messages of the next cast

-- the message of a payload that is cast at this time, with which there is one cast more
abbrev pub stamp : ℕ → List ℕ → List ℕ → Message
stamp me time payload = record { name = record { sender = me; number = field time me + 1 }; time = set time me (field time me + 1); payload = payload }

-- those of several, one behind the other
abbrev pub stamped : ℕ → List ℕ → List (List ℕ) → List Message
stamped me time [] = []
stamped me time (payload ∷ payloads) = stamp me time payload ∷ stamped me (set time me (field time me + 1)) payloads

stamped_timed : (size me : ℕ) (seen : List Carried) (time : List ℕ) (payloads : List (List ℕ)) → me < size → time ≡ counts size seen → stamped me time payloads ≡ timed size seen (numbered me (field time me + 1) payloads)
stamped_timed size me seen time [] lt same = refl
stamped_timed size me seen time (payload ∷ payloads) lt same =
    let m : Carried = record { sender = me; number = field time me + 1; payload = payload } in
    let next : set time me (field time me + 1) ≡ counts size (seen ++ m ∷ []) = ap (λ (ns : List ℕ). set ns me (field ns me + 1)) same ∙ counts_one_more size seen m lt in
    let long : length time ≡ size = ap length same ∙ counts_long size seen in
    let at : field (set time me (field time me + 1)) me ≡ field time me + 1 = get_or-set_same time me (field time me + 1) 0 (omega (arith, lt, long)) in
    let rest : stamped me (set time me (field time me + 1)) payloads ≡ timed size (seen ++ m ∷ []) (numbered me (field time me + 1 + 1) payloads) =
    stamped_timed size me (seen ++ m ∷ []) (set time me (field time me + 1)) payloads lt next ∙ ap (λ (n : ℕ). timed size (seen ++ m ∷ []) (numbered me (n + 1) payloads)) at in
    ap (λ (ms : List Message). stamp me time payload ∷ ms) rest
    ∙ ap (λ (ns : List ℕ). let x : Message = record { name = record { sender = me; number = field time me + 1 }; time = ns; payload = payload } in x ∷ timed size (seen ++ m ∷ []) (numbered me (field time me + 1 + 1) payloads)) next

-- from the member's time on they are the next ones
pub stamped_is_next : (state : State) (facts : List Fact) (load : Load) → AreFactsOf state.seat facts → Keeps facts state → stamped state.seat.me state.delivery.time (payloads_of load) ≡ next_messages state.seat facts load
unfolding messages_of
stamped_is_next state facts load are k =
    stamped_timed state.seat.group.size state.seat.me (view state.seat.group.size facts) state.delivery.time (payloads_of load) are.member k.delivered.waits.time
    ∙ ap (λ (n : ℕ). timed state.seat.group.size (view state.seat.group.size facts) (numbered state.seat.me (n + 1) (payloads_of load))) (own_delivered state facts are k)

-- the message of this name at the member's time and one cast more is the next one
pub message_is_next : (state : State) (facts : List Fact) (payload time : List ℕ) (sender number : ℕ) → AreFactsOf state.seat facts → Keeps facts state → time ≡ state.delivery.time
    → sender ≡ state.seat.me → number ≡ delivered state.seat facts state.seat.me + 1
    → record { name = record { sender = sender; number = number }; time = set time state.seat.me (field time state.seat.me + 1); payload = payload } ∷ [] ≡ next_messages state.seat facts (One payload)
message_is_next state facts payload time sender number are k same es en =
    rw (same, es, en ∙ ap (λ (n : ℕ). n + 1) (sym (own_delivered state facts are k))) (stamped_is_next state facts (One payload) are k)

-- ---- the first of them, and the last

pub timed_many : (size : ℕ) (seen ms : List Carried) → length (timed size seen ms) ≡ length ms
timed_many size seen [] = refl
timed_many size seen (m ∷ ms) = let rest = timed_many size (seen ++ m ∷ []) ms in omega (arith, rest)

-- as many as payloads
pub next_many : (seat : Identity) (facts : List Fact) (load : Load) → length (next_messages seat facts load) ≡ length (payloads_of load)
next_many seat facts load = timed_many seat.group.size (view seat.group.size facts) (messages_of (next_cast seat facts load)) ∙ carries_payloads (next_cast seat facts load)

abbrev last_in : List Message → List ℕ
last_in [] = []
last_in (m ∷ ms) = time_of_last m ms

timed_last : (size : ℕ) (seen : List Carried) (m : Carried) (ms : List Carried) → last_in (timed size seen (m ∷ ms)) ≡ counts size (seen ++ m ∷ ms)
timed_last size seen m [] = refl
timed_last size seen m (n ∷ ms) = timed_last size (seen ++ m ∷ []) n ms ∙ ap (counts size) (append_assoc seen (m ∷ []) (n ∷ ms))

timed_ends : (size : ℕ) (seen ms : List Carried) → 1 ≤ length ms → last_in (timed size seen ms) ≡ counts size (seen ++ ms)
timed_ends size seen [] some = absurd (omega (arith, some))
timed_ends size seen (m ∷ ms) some = timed_last size seen m ms

-- the last one has the time with all of them
pub last_is_next : (seat : Identity) (facts : List Fact) (load : Load) (first : Message) (others : List Message) → IsSome load → first ∷ others ≡ next_messages seat facts load → time_of_last first others ≡ next_time seat facts load
last_is_next seat facts load first others some are =
    let c = next_cast seat facts load in
    ap last_in are ∙ timed_ends seat.group.size (view seat.group.size facts) (messages_of c) (omega (arith, some, carries_payloads c))

-- it is found at the end of a list
last_at : (m x : Message) (ms : List Message) (i : ℕ) → i + 1 ≡ length ms → slice_get ms i ≡ Some x → time_of_last m ms ≡ x.time
last_at m x [] i end at = absurd (omega (arith, end))
last_at m x (n ∷ []) zero end at = let same : n ≡ x = cc in ap (λ (y : Message). y.time) same
last_at m x (n ∷ []) (suc i) end at = absurd (omega (arith, end))
last_at m x (n ∷ k ∷ ms) zero end at = absurd (omega (arith, end))
last_at m x (n ∷ k ∷ ms) (suc i) end at = last_at n x (k ∷ ms) i (omega (arith, end)) at

pub last_found : (m x : Message) (ms : List Message) → Some x ≡ slice_get ms (length ms - 1) → x.time ≡ time_of_last m ms
last_found m x ms at =
    let within = slice_get_within ms (length ms - 1) x (sym at) in
    sym (last_at m x ms (length ms - 1) (omega (arith, within)) (sym at))

-- so where they are lent
pub last_of : (first : Message) (others lent : List Message) (time : List ℕ) → lent ≡ others → time ≡ time_of_last first lent → time ≡ time_of_last first others
last_of first others lent time same at = at ∙ ap (time_of_last first) same

-- the first one, as an answer tells it
pub record IsFirst (seat : Identity) (facts : List Fact) (c : CastFields) (first : Message) : Type 0 where
  pub name : first.name ≡ record { sender = c.sender; number = first_number c }
  pub time : first.time ≡ counts seat.group.size (view seat.group.size facts ++ take 1 (messages_of c))

first_of : (seat : Identity) (facts : List Fact) (c : CastFields) (ms : List Carried) (first : Message) (others : List Message) → messages_of c ≡ ms → AreNumberedFrom c.sender (first_number c) ms
    → first ∷ others ≡ timed seat.group.size (view seat.group.size facts) ms → IsFirst seat facts c first
first_of seat facts c [] first others carried row are = absurd cc
first_of seat facts c (m ∷ ms) first others carried row are =
    let is : first ≡ message_at seat.group.size (view seat.group.size facts) m = cc in
    record {
      name = ap (λ (x : Message). x.name) is ∙ rw (row.0, row.1) refl;
      time = ap (λ (x : Message). x.time) is ∙ sym (ap (λ (xs : List Carried). counts seat.group.size (view seat.group.size facts ++ take 1 xs)) carried);
    }

pub first_is_next : (seat : Identity) (facts : List Fact) (load : Load) (first : Message) (others : List Message) → first ∷ others ≡ next_messages seat facts load → IsFirst seat facts (next_cast seat facts load) first
first_is_next seat facts load first others are =
    let c = next_cast seat facts load in
    first_of seat facts c (messages_of c) first others refl (carried_in_order c) are

-- ---- the cast itself

pub next_is_made : (state : State) (facts : List Fact) (load : Load) (group sender own : ℕ) (changes : List Change) → AreFactsOf state.seat facts → Keeps facts state
    → group ≡ state.seat.group.number → sender ≡ state.seat.me → own ≡ field state.delivery.time state.seat.me → changes ≡ differences state.sending.last_cast state.delivery.time state.seat.me
    → record { group = group; sender = sender; number = own + 1; changes = changes; load = load } ≡ next_cast state.seat facts load
next_is_made state facts load group sender own changes are k eg es en ec =
    rw (
      eg,
      es,
      en ∙ own_delivered state facts are k,
      ec ∙ ap (λ (ns : List ℕ). differences ns state.delivery.time state.seat.me) k.sent.last_cast
          ∙ ap (λ (ns : List ℕ). differences (time_of state.seat.group.size (upto_last_cast facts)) ns state.seat.me) k.delivered.waits.time,
    ) refl

-- a cast's text ends with the payload
pub text_ends : (c : CastFields) (payload : List ℕ)
    → text_of (CastFrame (with_load c (One payload))) ≡ (cast_kind ∷ flat_map spelling (cast_numbers c) ++ spelling (length payload)) ++ payload
unfolding text_of
text_ends c payload = ap (λ (text : List ℕ). cast_kind ∷ text) (sym (append_assoc (flat_map spelling (cast_numbers c)) (spelling (length payload)) payload))
