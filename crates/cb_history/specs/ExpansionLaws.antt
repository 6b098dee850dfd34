-- How many casts of a sender are expanded, and what one more cast expands.
use Rattle.std.specs.Prelude.{◌≡◌, ◌≢◌, ℕ, ◌+◌, ◌<◌, ◌≤◌, ◌↔◌, true, false, List, [], ◌∷◌, ◌++◌, map}
use Rattle.cb_frames.specs.Fields.{CastFields, Carried, first_number, last_number}
use Rattle.cb_history.specs.Group.{Identity}
use Rattle.cb_history.specs.Facts.{Fact, casts_in, messages_in, is_there, numbers_between}
use Rattle.cb_history.specs.View.{is_expanded}
use Rattle.cb_history.specs.Known.{greatest_of, expanded_count}
use Rattle.cb_history.specs.Answers.{delivered}
use Rattle.cb_history.specs.LegalFacts.{AreFactsOf}
use Rattle.cb_history.specs.NameLaws.{IsOneOf}
use Rattle.cb_history.specs.KnowledgeLaws.{newly_expanded}

-- the casts of a sender are there from number 1 up to as many as are expanded
abbrev pub ExpandedAreThere : Type 0
ExpandedAreThere = (casts : List CastFields) (i n : ℕ) → 1 ≤ n → n ≤ expanded_count casts i → is_there casts i n ≡ true

-- and the next one is not there
abbrev pub NextIsNotThere : Type 0
NextIsNotThere = (casts : List CastFields) (i : ℕ) → is_there casts i (expanded_count casts i + 1) ≡ false

-- as many are expanded as are there in a row from number 1
abbrev pub RunIsExpanded : Type 0
RunIsExpanded = (casts : List CastFields) (i n : ℕ) → ((k : ℕ) → 1 ≤ k → k ≤ n → is_there casts i k ≡ true) → is_there casts i (n + 1) ≡ false → expanded_count casts i ≡ n

-- a message can be expanded exactly where its number is among them
abbrev pub ExpandedUpToTheCount : Type 0
ExpandedUpToTheCount = (casts : List CastFields) (m : Carried) → (is_expanded casts m ≡ true) ↔ (m.number ≤ expanded_count casts m.sender)

-- what a member has delivered is expanded, and of its own casts just as many
abbrev pub DeliveredIsExpanded : Type 0
DeliveredIsExpanded = (seat : Identity) (facts : List Fact) → AreFactsOf seat facts
    → ((i : ℕ) → delivered seat facts i ≤ expanded_count (casts_in facts) i) × (expanded_count (casts_in facts) seat.me ≡ delivered seat facts seat.me)

-- ---- one more cast

-- it expands nothing of other senders
abbrev pub OthersExpandNothing : Type 0
OthersExpandNothing = (casts : List CastFields) (c : CastFields) (i : ℕ) → c.sender ≢ i → expanded_count (casts ++ c ∷ []) i ≡ expanded_count casts i

-- nor of its own sender where it does not carry the next message
abbrev pub AfterAGapNothingExpands : Type 0
AfterAGapNothingExpands = (casts : List CastFields) (c : CastFields) → (first_number c ≤ expanded_count casts c.sender + 1 → expanded_count casts c.sender + 1 ≤ last_number c → ⊥)
    → expanded_count (casts ++ c ∷ []) c.sender ≡ expanded_count casts c.sender

-- and else it newly expands the run behind it: its sender's messages above the count before, up to the new one
abbrev pub TheRunIsNewlyExpanded : Type 0
TheRunIsNewlyExpanded = (casts : List CastFields) (c : CastFields) (m : Carried) → IsOneOf m (newly_expanded casts c)
    ↔ (IsOneOf m (messages_in (casts ++ c ∷ [])) × (m.sender ≡ c.sender) × (expanded_count casts c.sender < m.number) × (m.number ≤ expanded_count (casts ++ c ∷ []) c.sender))

-- so the greatest value of these messages is that of the numbers of the run
abbrev pub GreatestOfTheRun : Type 0
GreatestOfTheRun = (casts : List CastFields) (c : CastFields) (value : ℕ → ℕ → ℕ) → greatest_of (map (λ m. value m.sender m.number) (newly_expanded casts c))
    ≡ greatest_of (map (value c.sender) (numbers_between (expanded_count casts c.sender) (expanded_count (casts ++ c ∷ []) c.sender)))
