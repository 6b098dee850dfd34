-- What a received cast frame leaves there.
use Rattle.std.specs.Prelude.{◌≡◌, ◌↔◌, ℕ, true, List, ◌++◌, Ok, IsOk}
use Rattle.std.specs.List.{list_all}
use Rattle.cb_frames.specs.Fields.{CastFields, CastFrame, messages_of}
use Rattle.cb_history.specs.Read.{frame_read}
use Rattle.cb_history.specs.Group.{Identity}
use Rattle.cb_history.specs.Facts.{EntryFields, Fact, facts_of, casts_in, is_there}
use Rattle.cb_history.specs.Answers.{arrive_answer}
use Rattle.cb_history.specs.Legal.{ToTake, history_after}
use Rattle.cb_history.specs.LegalFacts.{AreFactsOf}
use Rattle.cb_history.specs.Singles.{singles_in}
use Rattle.cb_history.specs.BufferLaws.{IsCastOf}
use Rattle.cb_history.specs.OwnFrameLaws.{IsOfTheGroup}

-- all messages of the cast are there
abbrev pub AreThere : List CastFields → CastFields → Type 0
AreThere casts c = list_all (λ m. is_there casts m.sender m.number) (messages_of c) ≡ true

-- After a call that hands over a cast frame of the group, its messages are there if and only if the frame was not refused.
abbrev pub AcceptedIsThere : Type 0
AcceptedIsThere = (seat : Identity) (limit : ℕ) (entries : List EntryFields) (bytes : List ℕ) (c : CastFields) → AreFactsOf seat (facts_of entries)
    → frame_read bytes ≡ Ok (CastFrame c) → IsOfTheGroup seat.group (CastFrame c)
    → IsOk (arrive_answer seat limit entries bytes) ↔ AreThere (casts_in (facts_of (history_after seat limit entries (ToTake bytes)))) c

-- what is there stays
abbrev pub ThereStays : Type 0
ThereStays = (facts more : List Fact) (i n : ℕ) → is_there (casts_in facts) i n ≡ true → is_there (casts_in (facts ++ more)) i n ≡ true

-- casts that are there are of the group and of its members
abbrev pub CastsAreOfTheGroup : Type 0
CastsAreOfTheGroup = (seat : Identity) (facts : List Fact) (c : CastFields) → AreFactsOf seat facts → IsCastOf c (casts_in facts) → IsOfTheGroup seat.group (CastFrame c)

-- and so are their singles
abbrev pub SinglesAreOfTheGroup : Type 0
SinglesAreOfTheGroup = (seat : Identity) (facts : List Fact) (c : CastFields) → AreFactsOf seat facts → IsCastOf c (singles_in facts) → IsOfTheGroup seat.group (CastFrame c)
