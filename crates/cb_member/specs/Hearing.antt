-- What a member does with a received status.
use Rattle.std.specs.Prelude.{◌≡◌, ◌<◌, ◌==◌, ◌&&◌, ◌||◌, ℕ, Bool, not, nat_lt, false, List, [], ◌∷◌, ◌++◌, Result, Ok, Err}
use Rattle.std.specs.List.{list_any, range_with_len}
use Rattle.cb_times.specs.Order.{field}
use Rattle.cb_frames.specs.declared.frame.Change.{Change}
use Rattle.cb_frames.specs.Fields.{StatusFields, StatusFrame}
use Rattle.cb_stability.specs.Known.{count}
use Rattle.cb_history.specs.declared.answer.ArriveRefusal.{ArriveRefusal}
use Rattle.cb_history.specs.Facts.{Fact, StatusReceived}
use Rattle.cb_history.specs.Group.{Identity}
use Rattle.cb_history.specs.Known.{value_in}
use Rattle.cb_history.specs.Answers.{Accepted, is_impossible, is_news}
use Rattle.cb_history.specs.LegalFacts.{AreFactsOf}
use Rattle.cb_member.specs.declared.arrival.status.Judged.{Judged}
use Rattle.cb_member.specs.declared.arrival.status.Judged.TheVariants as judged
use Rattle.cb_member.specs.declared.arrival.status.Said.{Said}
use Rattle.cb_member.specs.declared.arrival.status.Verdict.{Verdict}
use Rattle.cb_member.specs.declared.knowledge.Knowledge.{Knowledge}
use Rattle.cb_member.specs.declared.state.State.{State}
use Rattle.cb_member.specs.Arriving.{Answers, Changes}
use Rattle.cb_member.specs.Knowledge.{AreValuesOf}
use Rattle.cb_member.specs.State.{IsState, Keeps, OnAll}

-- the status is of a member of the group, and so are its values
pub record CanHear (s : StatusFields) (state : State) : Type 0 where
  pub state_is : IsState state
  pub sender : s.sender < state.seat.group.size
  pub values : AreValuesOf state.seat.group.size s.values

-- and it changes what is kept
pub record IsNews (s : StatusFields) (state : State) : Type 0 where
  pub can : CanHear s state
  pub changes : OnAll state (λ facts. Changes state.seat facts (StatusFrame s))

-- what a status says to a member: how many of its casts the status' sender delivered, and whether it says more than was known, of the
-- casts of another member than this one, or of how many casts of another than its sender that one delivered
pub record IsSaid (seat : Identity) (knowledge : Knowledge) (s : StatusFields) (said : Said) : Type 0 where
  pub of_me : said.of_me ≡ value_in s.values seat.me
  pub tells : said.tells_more
      ≡ (list_any (λ k. not (k == seat.me) && nat_lt (field knowledge.known k) (value_in s.values k)) (range_with_len 0 seat.group.size)
      || list_any (λ i. not (i == s.sender) && nat_lt (count knowledge.acks s.sender i) (value_in s.values i)) (range_with_len 0 seat.group.size))

-- a value says more than was known: of the casts of its field, or of how many of them the member k delivered
abbrev pub says_more : ℕ → Knowledge → ℕ → Change → Bool
says_more me knowledge k d =
    (not (d.field == me) && nat_lt (field knowledge.known d.field) d.amount) || (not (d.field == k) && nat_lt (count knowledge.acks k d.field) d.amount)

-- the verdict is that of the definitions
pub record IsWeighed (seat : Identity) (facts : List Fact) (s : StatusFields) (verdict : Verdict) : Type 0 where
  pub impossible : verdict.is_impossible ≡ is_impossible seat facts (StatusFrame s)
  pub news : verdict.is_news ≡ is_news seat facts s

abbrev pub Weighs : State → StatusFields → Verdict → Type 0
Weighs state s verdict = OnAll state (λ facts. IsWeighed state.seat facts s verdict)

-- what the rules say of it, as the answer that follows
abbrev pub JudgesStatus : State → StatusFields → Result Judged ArriveRefusal → Type 0
JudgesStatus state s (Ok judged.News) = IsNews s state
JudgesStatus state s (Ok judged.NoNews) = OnAll state (λ facts. Answers state.seat facts (StatusFrame s) (Ok (Accepted [] false [])))
JudgesStatus state s (Err refusal) = OnAll state (λ facts. Answers state.seat facts (StatusFrame s) (Err refusal))

-- what the status says is kept with whatever was
pub record HasHeard (s : StatusFields) (old new : State) : Type 0 where
  pub seat : new.seat ≡ old.seat
  pub keeps : (facts : List Fact) → AreFactsOf old.seat (facts ++ StatusReceived s ∷ []) → Keeps facts old → Keeps (facts ++ StatusReceived s ∷ []) new
