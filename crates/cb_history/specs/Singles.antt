-- A cast as its singles: casts that carry its messages one by one.
use Rattle.std.specs.Prelude.{◌≡◌, ℕ, List, [], ◌∷◌, ◌++◌, length}
use Rattle.std.specs.List.{flat_map, AllByRecursion}
use Rattle.cb_frames.specs.declared.frame.Change.{Change}
use Rattle.cb_frames.specs.Fields.{One, IsOne, CastFields, Carried, messages_of, first_number}
use Rattle.cb_diffs.specs.Expansion.{expanded_field, expanded_time, CarrySome}
use Rattle.cb_history.specs.Facts.{Fact, casts_in, cast_in, messages_in, is_there}
use Rattle.cb_history.specs.View.{is_expanded, expanded_in}
use Rattle.cb_history.specs.Known.{expanded_count}
use Rattle.cb_history.specs.NameLaws.{NumberedFrom}

-- the cast carries one payload, so one message
abbrev pub IsSingle : CastFields → Type 0
IsSingle c = IsOne c.load

-- a cast of this one message of c, with these changes
abbrev pub single_of : CastFields → List Change → Carried → CastFields
single_of c changes m = record { group = c.group; sender = m.sender; number = m.number; changes = changes; load = One m.payload }

-- of some messages of c, the first with these changes and the others with none
abbrev pub singles_from : CastFields → List Change → List Carried → List CastFields
singles_from c changes [] = []
singles_from c changes (m ∷ ms) = single_of c changes m ∷ singles_from c [] ms

-- the casts that carry the messages of c one by one: the first with the changes of c
abbrev pub singles_of : CastFields → List CastFields
singles_of c = singles_from c c.changes (messages_of c)

-- each cast in turn as its singles
abbrev pub singles_among : List CastFields → List CastFields
singles_among casts = flat_map singles_of casts

abbrev pub singles_in : List Fact → List CastFields
singles_in facts = singles_among (casts_in facts)

-- ---- what they are

-- of one message the single is the cast itself
abbrev pub SinglesOfOneMessage : Type 0
SinglesOfOneMessage = (c : CastFields) → IsSingle c → singles_of c ≡ c ∷ []

-- so casts of one message each are their own singles
abbrev pub SinglesOfSingles : Type 0
SinglesOfSingles = (casts : List CastFields) → AllByRecursion IsSingle casts → singles_among casts ≡ casts

-- there are as many as messages
abbrev pub SinglesAreAsMany : Type 0
SinglesAreAsMany = (c : CastFields) → length (singles_of c) ≡ length (messages_of c)

-- they are of the sender, and their numbers rise by one from the first one of the cast on
abbrev pub SinglesAreNumbered : Type 0
SinglesAreNumbered = (c : CastFields) → NumberedFrom c.sender (first_number c) (singles_of c)

-- each carries one message
abbrev pub SinglesAreSingle : Type 0
SinglesAreSingle = (casts : List CastFields) → AllByRecursion IsSingle (singles_among casts)

-- one more fact adds those of its cast
abbrev pub SinglesWithOneMore : Type 0
SinglesWithOneMore = (facts : List Fact) (f : Fact) → singles_in (facts ++ f ∷ []) ≡ singles_in facts ++ singles_among (cast_in f)

-- ---- what they say

-- these casts carry the same messages as those: the same are there and expanded, and where each of those carries some message, at
-- the same times
pub record AreTheSame (casts others : List CastFields) : Type 0 where
  pub messages : messages_in casts ≡ messages_in others
  pub there : (i n : ℕ) → is_there casts i n ≡ is_there others i n
  pub can_be_expanded : (m : Carried) → is_expanded casts m ≡ is_expanded others m
  pub expanded : expanded_in casts ≡ expanded_in others
  pub counts : (i : ℕ) → expanded_count casts i ≡ expanded_count others i
  pub fields : CarrySome others → (i n k : ℕ) → expanded_field casts i n k ≡ expanded_field others i n k
  pub times : CarrySome others → (size i n : ℕ) → expanded_time size casts i n ≡ expanded_time size others i n

abbrev pub SinglesAreTheSame : Type 0
SinglesAreTheSame = (casts : List CastFields) → AreTheSame (singles_among casts) casts
