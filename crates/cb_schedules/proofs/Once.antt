-- In a round every member ticks once, and each frame that is sent in it arrives once at everyone it was sent to.
use Rattle.std.proofs.Common.{◌≡◌, ◌≢◌, ℕ, zero, suc, ◌+◌, ◌-◌, ◌<◌, ◌≤◌, Bool, true, false, not, cond, ◌&&◌, eqb, ltb, List, [], ◌∷◌, ◌++◌, length, drop, map, Option, Some, None, refl, sym, ap, ◌∙◌, arith, inl, inr}
use Rattle.std.specs.Prelude.{slice_get}
use Rattle.std.specs.List.{filter, range_with_len}
use Rattle.std.proofs.lemmas.Bool.{cond_both, cases_lt, cases_eq, eq-eqb, ne_eqb, lt-ltb, le-ltb}
use Rattle.std.proofs.Math.Seq.{drop-append_seam}
use Rattle.cb_schedules.specs.Schedule.{Setting, IsSetting, CastStep, ArriveStep, TickStep, HelpStep, Schedule, SentFrame, GroupState, run_from}
use Rattle.cb_schedules.specs.Consistent.{IsConsistent}
use Rattle.cb_schedules.specs.Rounds.{tick_steps, receivers, arrivals_from, arrivals_since, ticked, answered, round_steps}
use Rattle.cb_schedules.specs.RoundLaws.{ticks_of, arrivals_at, names_receiver, is_sent_to, EachTicksOnce, NothingOldArrives}
use Rattle.cb_schedules.proofs.Later.{run_is_later}
use Rattle.cb_schedules.proofs.Happening.{get_behind, ticks_cast_nothing, arrivals_cast_nothing}
use Rattle.cb_schedules.proofs.Ending.{round_ends_there}

zero_plus : (n : ℕ) → 0 + n ≡ n
zero_plus n = omega arith

and_true : (b : Bool) → (b && true) ≡ b
and_true true = refl
and_true false = refl

and_none : (b : Bool) → (b && false) ≡ false
and_none true = refl
and_none false = refl

get_before : {A : Type 0} (xs ys : List A) (k : ℕ) → k < length xs → slice_get (xs ++ ys) k ≡ slice_get xs k
get_before [] ys k less = absurd (omega (arith, less))
get_before (x ∷ xs) ys zero less = refl
get_before (x ∷ xs) ys (suc k) less = get_before xs ys k (omega (arith, less))

-- ---- how often a number stands in a list

unfoldable pub times_in : ℕ → List ℕ → ℕ
times_in j [] = 0
times_in j (i ∷ is) = cond (eqb i j) 1 0 + times_in j is

none_times : (p : ℕ → Bool) (a n j : ℕ) → j < a → times_in j (filter p (range_with_len a n)) ≡ 0
unfolding times_in
none_times p a zero j low = refl
none_times p a (suc n) j low =
    let rest = none_times p (a + 1) n j (omega (arith, low)) in
    let other : eqb a j ≡ false = ne_eqb a j (λ e. omega (arith, e, low)) in
    cond_both (p a) (a ∷ filter p (range_with_len (a + 1) n)) (filter p (range_with_len (a + 1) n)) (λ (ks : List ℕ). times_in j ks ≡ 0) (λ _. rw other (zero_plus (times_in j (filter p (range_with_len (a + 1) n))) ∙ rest)) (λ _. rest)

-- a number of a range that passes a test stands there once
pub once : (p : ℕ → Bool) (a n j : ℕ) → a ≤ j → times_in j (filter p (range_with_len a n)) ≡ cond (ltb j (a + n) && p j) 1 0
unfolding times_in
once p a zero j low = let beyond : ltb j (a + 0) ≡ false = le-ltb j (a + 0) (omega (arith, low)) in rw beyond refl
once p a (suc n) j low = elim (cases_eq a j) [
  | inl same ↦
      let here : eqb a j ≡ true = eq-eqb a j same in
      let below : ltb j (a + suc n) ≡ true = lt-ltb j (a + suc n) (omega (arith, same)) in
      let rest = none_times p (a + 1) n j (omega (arith, same)) in
      let tested : p a ≡ p j = ap p same in
      cond_both (p a) (a ∷ filter p (range_with_len (a + 1) n)) (filter p (range_with_len (a + 1) n)) (λ (ks : List ℕ). times_in j ks ≡ cond (ltb j (a + suc n) && p j) 1 0)
      (λ yes. rw (here, below, rest, sym tested ∙ yes) refl) (λ no. rw (below, rest, sym tested ∙ no) refl)
  | inr other ↦
      let away : eqb a j ≡ false = ne_eqb a j other in
      let e : a + 1 + n ≡ a + suc n = omega arith in
      let rest : times_in j (filter p (range_with_len (a + 1) n)) ≡ cond (ltb j (a + suc n) && p j) 1 0 = once p (a + 1) n j (omega (arith, low, other)) ∙ ap (λ (k : ℕ). cond (ltb j k && p j) 1 0) e in
      cond_both (p a) (a ∷ filter p (range_with_len (a + 1) n)) (filter p (range_with_len (a + 1) n)) (λ (ks : List ℕ). times_in j ks ≡ cond (ltb j (a + suc n) && p j) 1 0)
      (λ _. rw away (zero_plus (times_in j (filter p (range_with_len (a + 1) n))) ∙ rest)) (λ _. rest)
]

-- each receiver of a frame is one once
receives_once : (size from : ℕ) (to : Option ℕ) (j : ℕ) → times_in j (receivers size from to) ≡ cond (names_receiver size from to j) 1 0
unfolding times_in
receives_once size from None j = once (λ k. not (eqb k from)) 0 size j (omega arith) ∙ ap (λ (k : ℕ). cond (ltb j k && not (eqb j from)) 1 0) (zero_plus size)
receives_once size from (Some k) j = let e : cond (eqb k j) 1 0 + 0 ≡ cond (eqb k j) 1 0 = omega arith in e

-- ---- ticks

pub ticks-append : (i : ℕ) (steps more : Schedule) → ticks_of i (steps ++ more) ≡ ticks_of i steps + ticks_of i more
ticks-append i [] more = omega arith
ticks-append i (CastStep j load ∷ steps) more = ticks-append i steps more
ticks-append i (ArriveStep j number ∷ steps) more = ticks-append i steps more
ticks-append i (TickStep j ∷ steps) more = let rest = ticks-append i steps more in omega (arith, rest)
ticks-append i (HelpStep j k ∷ steps) more = ticks-append i steps more

ticks_are : (i a n : ℕ) → ticks_of i (map TickStep (range_with_len a n)) ≡ times_in i (filter (λ k. true) (range_with_len a n))
unfolding times_in
ticks_are i a zero = refl
ticks_are i a (suc n) = ap (λ (k : ℕ). cond (eqb a i) 1 0 + k) (ticks_are i (a + 1) n)

pub no_ticks_to : (i number : ℕ) (js : List ℕ) → ticks_of i (map (λ j. ArriveStep j number) js) ≡ 0
no_ticks_to i number [] = refl
no_ticks_to i number (j ∷ js) = no_ticks_to i number js

no_ticks : (setting : Setting) (i number : ℕ) (frames : List SentFrame) → ticks_of i (arrivals_from setting number frames) ≡ 0
no_ticks setting i number [] = refl
no_ticks setting i number (frame ∷ frames) =
    let here = no_ticks_to i number (receivers setting.group.size frame.from frame.to) in
    let rest = no_ticks setting i (number + 1) frames in
    let both = ticks-append i (map (λ j. ArriveStep j number) (receivers setting.group.size frame.from frame.to)) (arrivals_from setting (number + 1) frames) in
    omega (arith, here, rest, both)

pub each_ticks_once : EachTicksOnce
unfolding round_steps
each_ticks_once setting s i =
    let first = arrivals_since setting (length s.sent) (ticked setting s) in
    let second = arrivals_since setting (length (ticked setting s).sent) (answered setting s) in
    let none : ticks_of i first ≡ 0 = no_ticks setting i (length s.sent) (drop (length s.sent) (ticked setting s).sent) in
    let none_then : ticks_of i second ≡ 0 = no_ticks setting i (length (ticked setting s).sent) (drop (length (ticked setting s).sent) (answered setting s).sent) in
    let both = ticks-append i first second in
    let all = ticks-append i (tick_steps setting) (first ++ second) in
    let here : ticks_of i (tick_steps setting) ≡ cond (ltb i setting.group.size) 1 0 =
    ticks_are i 0 setting.group.size ∙ once (λ k. true) 0 setting.group.size i (omega arith) ∙ ap (λ (k : ℕ). cond (ltb i k && true) 1 0) (zero_plus setting.group.size) ∙ ap (λ (b : Bool). cond b 1 0) (and_true (ltb i setting.group.size)) in
    omega (arith, all, both, none, none_then) ∙ here

-- ---- arrivals

arrivals-append : (j number : ℕ) (steps more : Schedule) → arrivals_at j number (steps ++ more) ≡ arrivals_at j number steps + arrivals_at j number more
arrivals-append j number [] more = omega arith
arrivals-append j number (CastStep i load ∷ steps) more = arrivals-append j number steps more
arrivals-append j number (ArriveStep i n ∷ steps) more = let rest = arrivals-append j number steps more in omega (arith, rest)
arrivals-append j number (TickStep i ∷ steps) more = arrivals-append j number steps more
arrivals-append j number (HelpStep i k ∷ steps) more = arrivals-append j number steps more

no_arrivals : (j number : ℕ) (ks : List ℕ) → arrivals_at j number (map TickStep ks) ≡ 0
no_arrivals j number [] = refl
no_arrivals j number (k ∷ ks) = no_arrivals j number ks

-- of one frame: at each of its receivers
of_this : (j number : ℕ) (is : List ℕ) → arrivals_at j number (map (λ i. ArriveStep i number) is) ≡ times_in j is
unfolding times_in
of_this j number [] = refl
of_this j number (i ∷ is) = rw (eq-eqb number number refl) (ap (λ (k : ℕ). cond (eqb i j && true) 1 0 + k) (of_this j number is) ∙ ap (λ (b : Bool). cond b 1 0 + times_in j is) (and_true (eqb i j)))

of_another : (j number n : ℕ) (is : List ℕ) → n ≢ number → arrivals_at j number (map (λ i. ArriveStep i n) is) ≡ 0
of_another j number n [] ne = refl
of_another j number n (i ∷ is) ne = rw (ne_eqb n number ne) (ap (λ (b : Bool). cond b 1 0 + arrivals_at j number (map (λ i. ArriveStep i n) is)) (and_none (eqb i j)) ∙ zero_plus (arrivals_at j number (map (λ i. ArriveStep i n) is)) ∙ of_another j number n is ne)

module _ (setting : Setting) (j number : ℕ) where
  split : (base : ℕ) (frame : SentFrame) (frames : List SentFrame)
      → arrivals_at j number (arrivals_from setting base (frame ∷ frames)) ≡ arrivals_at j number (map (λ i. ArriveStep i base) (receivers setting.group.size frame.from frame.to)) + arrivals_at j number (arrivals_from setting (base + 1) frames)
  split base frame frames = arrivals-append j number (map (λ i. ArriveStep i base) (receivers setting.group.size frame.from frame.to)) (arrivals_from setting (base + 1) frames)

  -- none of a frame that stands outside
  outside : (base : ℕ) (frames : List SentFrame) → ((k : ℕ) → k < length frames → base + k ≢ number) → arrivals_at j number (arrivals_from setting base frames) ≡ 0
  outside base [] out = refl
  outside base (frame ∷ frames) out =
      let parts = split base frame frames in
      let here = of_another j number base (receivers setting.group.size frame.from frame.to) (λ e. out 0 (omega arith) (omega (arith, e))) in
      let rest = outside (base + 1) frames (λ k less e. out (suc k) (omega (arith, less)) (omega (arith, e))) in
      omega (arith, parts, here, rest)

  -- one of a frame that stands inside
  inside : (base k : ℕ) (frames : List SentFrame) (frame : SentFrame) → slice_get frames k ≡ Some frame → number ≡ base + k
      → arrivals_at j number (arrivals_from setting base frames) ≡ cond (is_sent_to setting.group.size frame j) 1 0
  inside base k [] frame at is = absurd cc
  inside base zero (first ∷ frames) frame at is =
      let parts = split base first frames in
      let same : first ≡ frame = cc in
      let e : base ≡ number = omega (arith, is) in
      let here : arrivals_at j number (map (λ i. ArriveStep i base) (receivers setting.group.size first.from first.to)) ≡ times_in j (receivers setting.group.size first.from first.to) =
      ap (λ (n : ℕ). arrivals_at j number (map (λ i. ArriveStep i n) (receivers setting.group.size first.from first.to))) e ∙ of_this j number (receivers setting.group.size first.from first.to) in
      let rest = outside (base + 1) frames (λ k less e. omega (arith, e, is)) in
      omega (arith, parts, here, rest) ∙ receives_once setting.group.size first.from first.to j ∙ ap (λ (f : SentFrame). cond (is_sent_to setting.group.size f j) 1 0) same
  inside base (suc k) (first ∷ frames) frame at is =
      let parts = split base first frames in
      let here = of_another j number base (receivers setting.group.size first.from first.to) (λ e. omega (arith, e, is)) in
      let rest = inside (base + 1) k frames frame at (omega (arith, is)) in
      omega (arith, parts, here) ∙ rest

-- ---- a round

split_round : (setting : Setting) (s : GroupState) (number j : ℕ) → arrivals_at j number (round_steps setting s)
    ≡ arrivals_at j number (arrivals_since setting (length s.sent) (ticked setting s)) + arrivals_at j number (arrivals_since setting (length (ticked setting s).sent) (answered setting s))
unfolding round_steps
split_round setting s number j =
    let first = arrivals_since setting (length s.sent) (ticked setting s) in
    let second = arrivals_since setting (length (ticked setting s).sent) (answered setting s) in
    let none = no_arrivals j number (range_with_len 0 setting.group.size) in
    let all = arrivals-append j number (tick_steps setting) (first ++ second) in
    let both = arrivals-append j number first second in
    omega (arith, none, all, both)

-- what a wave finds: the frames that were sent more
pub record Sends (s t : GroupState) : Type 0 where
  pub new : List SentFrame
  pub behind : drop (length s.sent) t.sent ≡ new
  pub sent : t.sent ≡ s.sent ++ new
  pub count : length t.sent ≡ length s.sent + length new

length-append : {A : Type 0} (xs ys : List A) → length (xs ++ ys) ≡ length xs + length ys
length-append [] ys = omega arith
length-append (x ∷ xs) ys = let rest = length-append xs ys in omega (arith, rest)

sends : (s t : GroupState) (new : List SentFrame) → t.sent ≡ s.sent ++ new → Sends s t
sends s t new is = record {
  new = new;
  behind = ap (drop (length s.sent)) is ∙ drop-append_seam s.sent new;
  sent = is;
  count = ap length is ∙ length-append s.sent new;
}

ticked_sends : (setting : Setting) (s : GroupState) → Sends s (ticked setting s)
unfolding ticked
ticked_sends setting s = let later = run_is_later setting s (tick_steps setting) (ticks_cast_nothing (range_with_len 0 setting.group.size)) in sends s (ticked setting s) later.new later.sent

answered_sends : (setting : Setting) (s : GroupState) → Sends (ticked setting s) (answered setting s)
unfolding answered
answered_sends setting s =
    let later = run_is_later setting (ticked setting s) (arrivals_since setting (length s.sent) (ticked setting s)) (arrivals_cast_nothing setting (length s.sent) (drop (length s.sent) (ticked setting s).sent)) in
    sends (ticked setting s) (answered setting s) later.new later.sent

wave_none : (setting : Setting) (s t : GroupState) (more : Sends s t) (number j : ℕ) → ((k : ℕ) → k < length more.new → length s.sent + k ≢ number) → arrivals_at j number (arrivals_since setting (length s.sent) t) ≡ 0
wave_none setting s t more number j out =
    ap (λ (frames : List SentFrame). arrivals_at j number (arrivals_from setting (length s.sent) frames)) more.behind ∙ outside setting j number (length s.sent) more.new out

wave_one : (setting : Setting) (s t : GroupState) (more : Sends s t) (number k j : ℕ) (frame : SentFrame) → slice_get t.sent number ≡ Some frame → number ≡ length s.sent + k
    → arrivals_at j number (arrivals_since setting (length s.sent) t) ≡ cond (is_sent_to setting.group.size frame j) 1 0
wave_one setting s t more number k j frame at is =
    let here : slice_get more.new k ≡ Some frame = sym (get_behind s.sent more.new k) ∙ ap (slice_get (s.sent ++ more.new)) (sym is) ∙ ap (λ (fs : List SentFrame). slice_get fs number) (sym more.sent) ∙ at in
    ap (λ (frames : List SentFrame). arrivals_at j number (arrivals_from setting (length s.sent) frames)) more.behind ∙ inside setting j number (length s.sent) k more.new frame here is

pub nothing_old_arrives : NothingOldArrives
nothing_old_arrives setting s number j old =
    let a = ticked_sends setting s in
    let b = answered_sends setting s in
    let none = wave_none setting s (ticked setting s) a number j (λ k less e. omega (arith, e, old)) in
    let more = a.count in
    let none_then = wave_none setting (ticked setting s) (answered setting s) b number j (λ k less e. omega (arith, e, old, more)) in
    omega (arith, split_round setting s number j, none, none_then)

pub arrives_once : (setting : Setting) → IsSetting setting → (s : GroupState) → IsConsistent setting s → (number j : ℕ) (frame : SentFrame) → length s.sent ≤ number
    → slice_get (run_from setting s (round_steps setting s)).sent number ≡ Some frame → arrivals_at j number (round_steps setting s) ≡ cond (is_sent_to setting.group.size frame j) 1 0
arrives_once setting is s inv number j frame new at =
    let a = ticked_sends setting s in
    let b = answered_sends setting s in
    let parts = split_round setting s number j in
    let at_end : slice_get (answered setting s).sent number ≡ Some frame = ap (λ (fs : List SentFrame). slice_get fs number) (sym (round_ends_there setting is s inv)) ∙ at in
    elim (cases_lt number (length (ticked setting s).sent)) [
      | inl early ↦
          let here : slice_get (ticked setting s).sent number ≡ Some frame = sym (get_before (ticked setting s).sent b.new number early) ∙ ap (λ (fs : List SentFrame). slice_get fs number) (sym b.sent) ∙ at_end in
          let one = wave_one setting s (ticked setting s) a number (number - length s.sent) j frame here (omega (arith, new)) in
          let none = wave_none setting (ticked setting s) (answered setting s) b number j (λ k less e. omega (arith, e, early)) in
          omega (arith, parts, none) ∙ one
      | inr late ↦
          let more = a.count in
          let none = wave_none setting s (ticked setting s) a number j (λ k less e. omega (arith, e, late, more, less)) in
          let one = wave_one setting (ticked setting s) (answered setting s) b number (number - length (ticked setting s).sent) j frame at_end (omega (arith, late)) in
          omega (arith, parts, none) ∙ one
    ]
