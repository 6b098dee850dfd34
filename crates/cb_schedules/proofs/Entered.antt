-- The calls that were entered: what they make of each history, with and without those that a restart drops, and as steps of a schedule.
use Rattle.std.proofs.Common.{◌≡◌, ◌≢◌, ℕ, ◌<◌, ◌≤◌, Bool, true, false, cond, not, ◌||◌, eqb, leb, ltb, List, [], ◌∷◌, ◌++◌, length, map, take, filter, flat_map, find, Option, Some, None, bytes_eq, slice_get, refl, sym, ap, subst, ◌∙◌, append_assoc, append-nil, arith, inl, inr}
use Rattle.std.specs.List.{position_or_len}
use Rattle.std.proofs.lemmas.Bool.{cases_eq, cases_Bool, cond_both, cond-true, cond-false, eq-eqb, ne_eqb, le-leb, leb-true, leb-false}
use Rattle.std.proofs.lemmas.List.{length-append, take-append-le, take_all, map-append}
use Rattle.std.proofs.lemmas.List.Elements.{filter-append}
use Rattle.std.proofs.lemmas.List.Folds.{find_at}
use Rattle.std.proofs.lemmas.Slice.Eq.{bytes_eq-Decides}
use Rattle.cb_frames.specs.Fields.{load_bytes}
use Rattle.cb_history.specs.Facts.{EntryFields}
use Rattle.cb_history.specs.Legal.{Call, ToCast, ToTake, ToTick, ToHelp, and_entry, entry_of, history_after}
use Rattle.cb_history.proofs.Views.{IsIn, in_filter}
use Rattle.cb_history.proofs.Lists.{flat_map-append}
use Rattle.cb_schedules.specs.Schedule.{Setting, seat_at, Schedule, SentFrame, Asked, Calls, Answer, Outcome, answer_of, are_bytes, asked_by, handed_over, frames_sent, sent_by, GroupState, after_asked, step_after, run_from, run}
use Rattle.cb_schedules.specs.Restarts.{EnteredCall, entered_call, step_for, steps_for}
use Rattle.cb_schedules.proofs.GoingOn.{runs_go_on}
use Rattle.cb_schedules.proofs.Lists.{in_flat}

-- ---- what calls make of a history

abbrev pub history_by : Setting → ℕ → List EntryFields → EnteredCall → List EntryFields
history_by setting k entries x = cond (eqb k x.member) (history_after (seat_at setting k) setting.limit entries x.call) entries

abbrev pub history_of : Setting → ℕ → List EntryFields → List EnteredCall → List EntryFields
history_of setting k entries [] = entries
history_of setting k entries (x ∷ calls) = history_of setting k (history_by setting k entries x) calls

pub history_of-push : (setting : Setting) (k : ℕ) (entries : List EntryFields) (calls : List EnteredCall) (x : EnteredCall)
    → history_of setting k entries (calls ++ x ∷ []) ≡ history_by setting k (history_of setting k entries calls) x
history_of-push setting k entries [] x = refl
history_of-push setting k entries (y ∷ calls) x = history_of-push setting k (history_by setting k entries y) calls x

pub by_own : (setting : Setting) (k : ℕ) (entries : List EntryFields) (x : EnteredCall) → k ≡ x.member → history_by setting k entries x ≡ history_after (seat_at setting k) setting.limit entries x.call
by_own setting k entries x own = rw (eq-eqb k x.member own) refl

pub by_other : (setting : Setting) (k : ℕ) (entries : List EntryFields) (x : EnteredCall) → k ≢ x.member → history_by setting k entries x ≡ entries
by_other setting k entries x other = rw (ne_eqb k x.member other) refl

pub entry_grows : (entries : List EntryFields) (o : Option EntryFields) → length entries ≤ length (and_entry entries o)
entry_grows entries None = omega arith
entry_grows entries (Some e) = omega (arith, length-append entries (e ∷ []))

-- ---- calls that may follow each other

-- a call up to whose place all is written put the frame out
pub record PutOut (written : ℕ → ℕ) (calls : List EnteredCall) (frame : SentFrame) : Type 0 where
  pub call : EnteredCall
  pub there : IsIn call calls
  pub is_written : call.place ≤ written call.member
  pub out : IsIn frame call.out

-- what can be asked of a member behind these calls: what it casts are bytes, and what arrives was put out
abbrev pub IsAskable : (ℕ → ℕ) → List EnteredCall → Call → Type 0
IsAskable written calls (ToCast load) = are_bytes (load_bytes load) ≡ true
IsAskable written calls (ToTake bytes) = (frame : SentFrame) × (frame.bytes ≡ bytes) × PutOut written calls frame
IsAskable written calls ToTick = Unit {0}
IsAskable written calls (ToHelp k) = Unit {0}

-- a member was asked this, and answered by the history that these calls make
pub record IsEntered (setting : Setting) (written : ℕ → ℕ) (calls : List EnteredCall) (x : EnteredCall) : Type 0 where
  pub member : ltb x.member setting.group.size ≡ true
  pub answered : x ≡ entered_call setting x.member (history_of setting x.member [] calls) x.call
  pub askable : IsAskable written calls x.call

pub data AreEntered (setting : Setting) (written : ℕ → ℕ) : List EnteredCall → Type 0 where
  NoCalls : AreEntered setting written []
  OneCallMore : (calls : List EnteredCall) (x : EnteredCall) → AreEntered setting written calls → IsEntered setting written calls x → AreEntered setting written (calls ++ x ∷ [])

-- more may be written
module _ (written now : ℕ → ℕ) (more : (k : ℕ) → written k ≤ now k) where
  pub put_out_still : (calls : List EnteredCall) (frame : SentFrame) → PutOut written calls frame → PutOut now calls frame
  put_out_still calls frame put = record {
    call = put.call;
    there = put.there;
    is_written = let least = put.is_written in let most = more put.call.member in omega (arith, least, most);
    out = put.out;
  }

  askable_still : (calls : List EnteredCall) (call : Call) → IsAskable written calls call → IsAskable now calls call
  askable_still calls (ToCast load) can = can
  askable_still calls (ToTake bytes) can = (can.0, can.1, put_out_still calls can.0 can.2)
  askable_still calls ToTick can = tt
  askable_still calls (ToHelp k) can = tt

  pub entered_still : (setting : Setting) (calls : List EnteredCall) → AreEntered setting written calls → AreEntered setting now calls
  entered_still setting _ NoCalls = NoCalls
  entered_still setting _ (OneCallMore calls x are is) = OneCallMore calls x (entered_still setting calls are) (record {
    member = is.member;
    answered = is.answered;
    askable = askable_still calls x.call is.askable;
  })

-- ---- without what is dropped

module _ (setting : Setting) (written : ℕ → ℕ) (j : ℕ) where
  abbrev pub keeps : EnteredCall → Bool
  keeps x = not (eqb x.member j) || leb x.place (written j)

  pub keeps_others : (x : EnteredCall) → x.member ≢ j → keeps x ≡ true
  keeps_others x other = rw (ne_eqb x.member j other) refl

  keeps_own : (x : EnteredCall) → x.member ≡ j → keeps x ≡ leb x.place (written j)
  keeps_own x own = rw (eq-eqb x.member j own) refl

  -- what is written is kept
  pub keeps_written : (x : EnteredCall) → x.place ≤ written x.member → keeps x ≡ true
  keeps_written x least = elim (cases_eq x.member j) [
    | inl own ↦ keeps_own x own ∙ le-leb x.place (written j) (subst (λ (k : ℕ). x.place ≤ written k) own least)
    | inr other ↦ keeps_others x other
  ]

  -- the other histories stay as they are
  others_stay : (k : ℕ) → k ≢ j → (entries : List EntryFields) (calls : List EnteredCall) → history_of setting k entries (filter keeps calls) ≡ history_of setting k entries calls
  others_stay k other entries [] = refl
  others_stay k other entries (x ∷ calls) =
      cond_both (keeps x) (x ∷ filter keeps calls) (filter keeps calls) (λ (kept : List EnteredCall). history_of setting k entries kept ≡ history_of setting k (history_by setting k entries x) calls)
      (λ passes. others_stay k other (history_by setting k entries x) calls)
      (λ fails. others_stay k other entries calls ∙ ap (λ (es : List EntryFields). history_of setting k es calls) (sym (by_other setting k entries x (λ own. other (own ∙ of_j fails)))))
    where
      of_j : keeps x ≡ false → x.member ≡ j
      of_j fails = elim (cases_eq x.member j) [
        | inl own ↦ own
        | inr not_own ↦ absurd (let passes = keeps_others x not_own in cc)
      ]

  place_is : (calls : List EnteredCall) (x : EnteredCall) → IsEntered setting written calls x → x.member ≡ j → x.place ≡ length (history_after (seat_at setting j) setting.limit (history_of setting j [] calls) x.call)
  place_is calls x is own =
      ap (λ (y : EnteredCall). y.place) is.answered
      ∙ ap (λ (k : ℕ). length (history_after (seat_at setting k) setting.limit (history_of setting k [] calls) x.call)) own

  cut_dropped : (w : ℕ) (entries : List EntryFields) (o : Option EntryFields) → w < length (and_entry entries o) → take w entries ≡ take w (and_entry entries o)
  cut_dropped w entries None least = refl
  cut_dropped w entries (Some e) least = sym (take-append-le w entries (e ∷ []) (omega (arith, least, length-append entries (e ∷ []))))

  module _ (calls : List EnteredCall) (x : EnteredCall) (is : IsEntered setting written calls x) (cut : history_of setting j [] (filter keeps calls) ≡ take (written j) (history_of setting j [] calls)) where
    abbrev before : List EntryFields
    before = history_of setting j [] calls

    abbrev after : List EntryFields
    after = history_after (seat_at setting j) setting.limit before x.call

    abbrev IsCutNow : Type 0
    IsCutNow = history_of setting j [] (filter keeps calls ++ filter keeps (x ∷ [])) ≡ take (written j) (history_of setting j [] (calls ++ x ∷ []))

    now : history_of setting j [] (calls ++ x ∷ []) ≡ history_by setting j before x
    now = history_of-push setting j [] calls x

    kept : keeps x ≡ true → history_of setting j [] (filter keeps calls ++ filter keeps (x ∷ [])) ≡ history_by setting j (take (written j) before) x
    kept passes =
        ap (λ (tail : List EnteredCall). history_of setting j [] (filter keeps calls ++ tail)) (ap (λ (b : Bool). cond b (x ∷ []) []) passes)
        ∙ history_of-push setting j [] (filter keeps calls) x ∙ ap (λ (es : List EntryFields). history_by setting j es x) cut

    dropped : keeps x ≡ false → history_of setting j [] (filter keeps calls ++ filter keeps (x ∷ [])) ≡ take (written j) before
    dropped fails =
        ap (λ (tail : List EnteredCall). history_of setting j [] (filter keeps calls ++ tail)) (ap (λ (b : Bool). cond b (x ∷ []) []) fails)
        ∙ ap (history_of setting j []) (append-nil (filter keeps calls)) ∙ cut

    of_other : x.member ≢ j → IsCutNow
    of_other other =
        kept (keeps_others x other) ∙ by_other setting j (take (written j) before) x (λ e. other (sym e))
        ∙ ap (take (written j)) (sym (now ∙ by_other setting j before x (λ e. other (sym e))))

    of_own : x.member ≡ j → IsCutNow
    of_own own = elim (cases_Bool (leb x.place (written j))) [
      | inl passes ↦
          let most : length after ≤ written j = let low = leb-true x.place (written j) passes in let is_place = place_is calls x is own in omega (arith, low, is_place) in
          let grows = entry_grows before (entry_of (seat_at setting j) setting.limit before x.call) in
          let whole : take (written j) before ≡ before = take_all (written j) before (omega (arith, most, grows)) in
          kept (keeps_own x own ∙ passes) ∙ ap (λ (es : List EntryFields). history_by setting j es x) whole ∙ by_own setting j before x (sym own)
          ∙ sym (take_all (written j) after most) ∙ ap (take (written j)) (sym (now ∙ by_own setting j before x (sym own)))
      | inr fails ↦
          let least : written j < length after = let high = leb-false x.place (written j) fails in let is_place = place_is calls x is own in omega (arith, high, is_place) in
          dropped (keeps_own x own ∙ fails) ∙ cut_dropped (written j) before (entry_of (seat_at setting j) setting.limit before x.call) least
          ∙ ap (take (written j)) (sym (now ∙ by_own setting j before x (sym own)))
    ]

    is_cut_now : IsCutNow
    is_cut_now = elim (cases_eq x.member j) [
      | inl own ↦ of_own own
      | inr other ↦ of_other other
    ]

  -- the own history is cut where the written entries end
  pub own_is_cut : (calls : List EnteredCall) → AreEntered setting written calls → history_of setting j [] (filter keeps calls) ≡ take (written j) (history_of setting j [] calls)
  own_is_cut _ NoCalls = sym (take_all (written j) [] (omega arith))
  own_is_cut _ (OneCallMore calls x are is) = ap (history_of setting j []) (filter-append keeps calls (x ∷ [])) ∙ is_cut_now calls x is (own_is_cut calls are)

  pub put_out_kept : (calls : List EnteredCall) (frame : SentFrame) → PutOut written calls frame → PutOut written (filter keeps calls) frame
  put_out_kept calls frame put = record {
    call = put.call;
    there = in_filter keeps calls put.call (keeps_written put.call put.is_written) put.there;
    is_written = put.is_written;
    out = put.out;
  }

  askable_kept : (calls : List EnteredCall) (call : Call) → IsAskable written calls call → IsAskable written (filter keeps calls) call
  askable_kept calls (ToCast load) can = can
  askable_kept calls (ToTake bytes) can = (can.0, can.1, put_out_kept calls can.0 can.2)
  askable_kept calls ToTick can = tt
  askable_kept calls (ToHelp k) can = tt

  -- a call that is kept was made on a history that is kept whole
  same_before : (calls : List EnteredCall) (x : EnteredCall) → AreEntered setting written calls → IsEntered setting written calls x → keeps x ≡ true → history_of setting x.member [] calls ≡ history_of setting x.member [] (filter keeps calls)
  same_before calls x are is passes = elim (cases_eq x.member j) [
    | inl own ↦
        let before = history_of setting j [] calls in
        let low = leb-true x.place (written j) (sym (keeps_own x own) ∙ passes) in
        let is_place = place_is calls x is own in
        let grows = entry_grows before (entry_of (seat_at setting j) setting.limit before x.call) in
        let same : before ≡ history_of setting j [] (filter keeps calls) = sym (own_is_cut calls are ∙ take_all (written j) before (omega (arith, low, is_place, grows))) in
        subst (λ (k : ℕ). history_of setting k [] calls ≡ history_of setting k [] (filter keeps calls)) (sym own) same
    | inr other ↦ sym (others_stay x.member other [] calls)
  ]

  pub are_kept : (calls : List EnteredCall) → AreEntered setting written calls → AreEntered setting written (filter keeps calls)
  are_kept _ NoCalls = NoCalls
  are_kept _ (OneCallMore calls x are is) =
      subst (AreEntered setting written) (sym (filter-append keeps calls (x ∷ [])))
      (cond_both (keeps x) (x ∷ []) [] (λ (tail : List EnteredCall). AreEntered setting written (filter keeps calls ++ tail))
      (λ passes. OneCallMore (filter keeps calls) x (are_kept calls are) (record {
        member = is.member;
        answered = is.answered ∙ ap (λ (es : List EntryFields). entered_call setting x.member es x.call) (same_before calls x are is passes);
        askable = askable_kept calls x.call is.askable;
      }))
      (λ fails. subst (AreEntered setting written) (sym (append-nil (filter keeps calls))) (are_kept calls are)))

  pub others_same : (k : ℕ) → k ≢ j → (calls : List EnteredCall) → history_of setting k [] (filter keeps calls) ≡ history_of setting k [] calls
  others_same k other calls = others_stay k other [] calls

-- ---- as steps of a schedule

steps_for-push : (frames : List SentFrame) (calls : List EnteredCall) (x : EnteredCall)
    → steps_for frames (calls ++ x ∷ []) ≡ steps_for frames calls ++ step_for (frames ++ flat_map (λ (y : EnteredCall). y.out) calls) x.member x.call ∷ []
steps_for-push frames [] x = ap (λ (fs : List SentFrame). step_for fs x.member x.call ∷ []) (sym (append-nil frames))
steps_for-push frames (y ∷ calls) x =
    ap (λ (steps : Schedule). step_for frames y.member y.call ∷ steps) (steps_for-push (frames ++ y.out) calls x
    ∙ ap (λ (fs : List SentFrame). steps_for (frames ++ y.out) calls ++ step_for fs x.member x.call ∷ []) (append_assoc frames y.out (flat_map (λ (z : EnteredCall). z.out) calls)))

-- an element that passes is found, or one before it
finds : {A : Type 0} (p : A → Bool) (xs : List A) (a : A) → IsIn a xs → p a ≡ true → (found : A) × (find p xs ≡ Some found) × (p found ≡ true)
finds p [] a there holds = absurd there
finds {A} p (x ∷ xs) a there holds = elim (cases_Bool (p x)) [
  | inl passes ↦ (x, ap (λ (b : Bool). cond b (Some x) (find p xs)) passes, passes)
  | inr fails ↦ elim there [
    | inl same ↦ absurd (let here : p x ≡ true = ap p (sym same) ∙ holds in cc)
    | inr later ↦ let rest = finds p xs a later holds in (rest.0, ap (λ (b : Bool). cond b (Some x) (find p xs)) fails ∙ rest.1, rest.2)
  ]
]

-- the step for a call asks for it
asks : (setting : Setting) (written : ℕ → ℕ) (calls : List EnteredCall) (i : ℕ) (call : Call) → ltb i setting.group.size ≡ true → IsAskable written calls call
    → asked_by setting (flat_map (λ (y : EnteredCall). y.out) calls) (step_for (flat_map (λ (y : EnteredCall). y.out) calls) i call) ≡ Calls i call
asks setting written calls i (ToCast load) member can = rw (member, can) refl
asks setting written calls i (ToTake bytes) member can =
    let frames = flat_map (λ (y : EnteredCall). y.out) calls in
    let test : SentFrame → Bool = λ (frame : SentFrame). bytes_eq bytes frame.bytes in
    let found = finds test frames can.0 (in_flat (λ (y : EnteredCall). y.out) calls can.2.call can.0 can.2.there can.2.out) ((bytes_eq-Decides bytes can.0.bytes).1 (sym can.1)) in
    let there : slice_get frames (position_or_len test frames) ≡ Some found.0 = sym (find_at test frames) ∙ found.1 in
    ap (λ (b : Bool). cond b (handed_over i (slice_get frames (position_or_len test frames))) Asked.OfNoMember) member
    ∙ ap (handed_over i) there ∙ ap (λ (bs : List ℕ). Calls i (ToTake bs)) (sym ((bytes_eq-Decides bytes found.0.bytes).0 found.2))
asks setting written calls i ToTick member can = rw member refl
asks setting written calls i (ToHelp k) member can = rw member refl

-- the state of a group behind these calls
pub record IsBehind (setting : Setting) (calls : List EnteredCall) (s : GroupState) : Type 0 where
  pub histories : (k : ℕ) → s.histories k ≡ history_of setting k [] calls
  pub sent : s.sent ≡ flat_map (λ (x : EnteredCall). x.out) calls
  pub asked : map (λ o. o.asked) s.outcomes ≡ map (λ (x : EnteredCall). Calls x.member x.call) calls

module _ (setting : Setting) (calls : List EnteredCall) (x : EnteredCall) (s : GroupState) (is : IsBehind setting calls s)
    (answered : x ≡ entered_call setting x.member (history_of setting x.member [] calls) x.call) where
  abbrev its_answer : Answer
  its_answer = answer_of (seat_at setting x.member) setting.limit (s.histories x.member) x.call

  history_behind : (k : ℕ) → (after_asked setting s (Calls x.member x.call)).histories k ≡ history_of setting k [] (calls ++ x ∷ [])
  history_behind k = elim (cases_eq k x.member) [
    | inl own ↦
        cond-true (eqb k x.member) _ _ (eq-eqb k x.member own)
        ∙ ap (λ (i : ℕ). history_after (seat_at setting i) setting.limit (s.histories i) x.call) (sym own)
        ∙ ap (λ (es : List EntryFields). history_after (seat_at setting k) setting.limit es x.call) (is.histories k)
        ∙ sym (history_of-push setting k [] calls x ∙ by_own setting k (history_of setting k [] calls) x own)
    | inr other ↦
        cond-false (eqb k x.member) _ _ (ne_eqb k x.member other) ∙ is.histories k
        ∙ sym (history_of-push setting k [] calls x ∙ by_other setting k (history_of setting k [] calls) x other)
  ]

  out_is : map (sent_by x.member) (frames_sent its_answer) ≡ x.out
  out_is = ap (λ (es : List EntryFields). (entered_call setting x.member es x.call).out) (is.histories x.member) ∙ sym (ap (λ (y : EnteredCall). y.out) answered)

  pub behind_answer : IsBehind setting (calls ++ x ∷ []) (after_asked setting s (Calls x.member x.call))
  behind_answer = record {
    histories = history_behind;
    sent =
        ap (λ (fs : List SentFrame). s.sent ++ fs) out_is ∙ ap (λ (fs : List SentFrame). fs ++ x.out) is.sent
        ∙ sym (flat_map-append (λ (y : EnteredCall). y.out) calls (x ∷ []) ∙ ap (λ (fs : List SentFrame). flat_map (λ (y : EnteredCall). y.out) calls ++ fs) (append-nil x.out));
    asked =
        map-append (λ (o : Outcome). o.asked) s.outcomes (record { asked = Calls x.member x.call; answer = its_answer; first = length s.sent; count = length (frames_sent its_answer) } ∷ [])
        ∙ ap (λ (all : List Asked). all ++ Calls x.member x.call ∷ []) is.asked ∙ sym (map-append (λ (y : EnteredCall). Calls y.member y.call) calls (x ∷ []));
  }

behind_step : (setting : Setting) (written : ℕ → ℕ) (calls : List EnteredCall) (x : EnteredCall) (s : GroupState) → IsBehind setting calls s → IsEntered setting written calls x
    → IsBehind setting (calls ++ x ∷ []) (step_after setting s (step_for (flat_map (λ (y : EnteredCall). y.out) calls) x.member x.call))
unfolding step_after
behind_step setting written calls x s is entered =
    let step = step_for (flat_map (λ (y : EnteredCall). y.out) calls) x.member x.call in
    subst (λ (asked : Asked). IsBehind setting (calls ++ x ∷ []) (after_asked setting s asked))
    (sym (ap (λ (fs : List SentFrame). asked_by setting fs step) is.sent ∙ asks setting written calls x.member x.call entered.member entered.askable))
    (behind_answer setting calls x s is entered.answered)

behind_nothing : (setting : Setting) → IsBehind setting [] (run setting [])
unfolding run_from
behind_nothing setting = record { histories = λ k. refl; sent = refl; asked = refl }

-- the run of the steps for these calls is behind them
pub run_is_behind : (setting : Setting) (written : ℕ → ℕ) (calls : List EnteredCall) → AreEntered setting written calls → IsBehind setting calls (run setting (steps_for [] calls))
run_is_behind setting written _ NoCalls = behind_nothing setting
run_is_behind setting written _ (OneCallMore calls x are is) =
    let step = step_for (flat_map (λ (y : EnteredCall). y.out) calls) x.member x.call in
    subst (λ (steps : Schedule). IsBehind setting (calls ++ x ∷ []) (run setting steps)) (sym (steps_for-push [] calls x))
    (subst (IsBehind setting (calls ++ x ∷ [])) (sym (runs_go_on setting (steps_for [] calls) step))
    (behind_step setting written calls x (run setting (steps_for [] calls)) (run_is_behind setting written calls are) is))
