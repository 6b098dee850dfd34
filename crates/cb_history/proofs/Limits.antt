-- A legal history is what calls add without a limit, with at most so many entries as a history can have.
use Rattle.std.proofs.Common.{refl, ◌<◌, ◌≤◌, Bool, cond, eqb, ltb, List, [], ◌∷◌, ◌++◌, length, Ok, Err, ap, arith, inl, inr}
use Rattle.std.proofs.lemmas.Bool.{cases_lt, lt-ltb}
use Rattle.std.proofs.lemmas.List.{length-append}
use Rattle.cb_history.specs.Group.{Identity}
use Rattle.cb_frames.specs.declared.frame.TheConstants.{LONGEST_PAYLOAD, MOST_MESSAGES}
use Rattle.cb_frames.specs.Fields.{payloads_of, load_bytes}
use Rattle.cb_history.specs.CastFault.{EmptyBurst, BurstTooLong, PayloadTooLong, WindowFull, HistoryFull}
use Rattle.cb_history.specs.Facts.{EntryFields, Fact, facts_of}
use Rattle.cb_history.specs.Answers.{is_full, next_cast, cast_answer}
use Rattle.cb_history.specs.Legal.{longest_history, AreLegal, NoEntries, OneMore}
use Rattle.cb_history.specs.LegalFacts.{AreLegalFacts, NoFacts, OneFactMore}
use Rattle.cb_history.specs.LimitLaws.{LimitIsAdded, AreAddedInLimit, NoneAdded, OneAdded, LegalIsAddedInLimit, AreStepsInLimit, NoStepInLimit, OneStepInLimit, LegalFactsInLimit, LegalAnswersByStable}
use Rattle.cb_history.proofs.Calls.{entry_with_room, entry_in_limit, added_below}
use Rattle.cb_history.proofs.Counts.{histories_leave_numbers}
use Rattle.cb_history.proofs.Histories.{each_entry_says_one_fact, legal_histories_say_legal_facts}

pub limit_is_added : LimitIsAdded
limit_is_added seat entries = (
  (λ legal. (record { group = legal.group; member = legal.member; entries_are = legal.entries_are }, legal.few)),
  (λ both. record { group = both.0.group; member = both.0.member; entries_are = both.0.entries_are; few = both.1 }),
)

one_fewer : {A : Type 0} (xs : List A) (x : A) → length (xs ++ x ∷ []) ≤ longest_history → length xs < longest_history
one_fewer xs x few = omega (arith, few, length-append xs (x ∷ []))

-- ---- entries

in_limit : (seat : Identity) (entries : List EntryFields) → AreLegal seat entries → length entries ≤ longest_history → AreAddedInLimit seat entries
in_limit seat _ NoEntries few = NoneAdded
in_limit seat _ (OneMore entries call e legal bytes added) few =
    let below = one_fewer entries e few in
    OneAdded entries call e (in_limit seat entries legal (omega (arith, below))) bytes (entry_in_limit seat longest_history entries call e below added)

without_limit : (seat : Identity) (entries : List EntryFields) → AreAddedInLimit seat entries → AreLegal seat entries × (length entries ≤ longest_history)
without_limit seat _ NoneAdded = (NoEntries, omega arith)
without_limit seat _ (OneAdded entries call e before bytes added) = (
  OneMore entries call e (without_limit seat entries before).0 bytes (entry_with_room seat longest_history entries call e added),
  omega (arith, added_below seat longest_history entries call e added, length-append entries (e ∷ [])),
)

pub legal_is_added_in_limit : LegalIsAddedInLimit
legal_is_added_in_limit seat entries is = (
  (λ legal. in_limit seat entries legal.entries_are legal.few),
  (λ added. let both = without_limit seat entries added in record { group = is.group; member = is.member; entries_are = both.0; few = both.1 }),
)

-- ---- facts

steps_in_limit : (seat : Identity) (facts : List Fact) → AreLegalFacts seat facts → length facts ≤ longest_history → AreStepsInLimit seat facts
steps_in_limit seat _ NoFacts few = NoStepInLimit
steps_in_limit seat _ (OneFactMore facts f before step) few =
    let below = one_fewer facts f few in OneStepInLimit facts f (steps_in_limit seat facts before (omega (arith, below))) below step

steps_without_limit : (seat : Identity) (facts : List Fact) → AreStepsInLimit seat facts → AreLegalFacts seat facts × (length facts ≤ longest_history)
steps_without_limit seat _ NoStepInLimit = (NoFacts, omega arith)
steps_without_limit seat _ (OneStepInLimit facts f before below step) = (OneFactMore facts f (steps_without_limit seat facts before).0 step, omega (arith, below, length-append facts (f ∷ [])))

pub legal_facts_in_limit : LegalFactsInLimit
legal_facts_in_limit seat facts = ((λ both. steps_in_limit seat facts both.0 both.1), (λ steps. steps_without_limit seat facts steps))

-- ---- answers

pub legal_answers_by_stable : LegalAnswersByStable
unfolding cast_answer
legal_answers_by_stable seat limit entries load legal =
    let n = length (payloads_of load) in
    let many = (each_entry_says_one_fact seat entries legal).1 in
    let few = legal.few in
    let facts = legal_histories_say_legal_facts seat entries legal in
    elim (cases_lt MOST_MESSAGES n) [
      | inl long ↦ rw (lt-ltb MOST_MESSAGES n long) refl
      | inr fits ↦
          ap (λ (b : Bool). cond (eqb n 0) (Err EmptyBurst) (cond (ltb MOST_MESSAGES n) (Err BurstTooLong) (cond (ltb LONGEST_PAYLOAD (length (load_bytes load))) (Err PayloadTooLong)
          (cond b (Err WindowFull) (cond (is_full limit entries) (Err HistoryFull) (Ok (next_cast seat (facts_of entries) load)))))))
          (histories_leave_numbers seat (facts_of entries) load facts (omega (arith, many, few)) fits)
    ]
