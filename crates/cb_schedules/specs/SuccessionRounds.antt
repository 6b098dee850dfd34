-- Rounds without a silent member, and those who go on.
use Rattle.std.specs.Prelude.{◌≡◌, ◌≢◌, ℕ, ◌<◌, true, false, not, ◌||◌, nat_le, nat_lt, List, ◌++◌, map, Some}
use Rattle.std.specs.List.{list_all}
use Rattle.cb_schedules.specs.Schedule.{Schedule}
use Rattle.cb_schedules.specs.Messages.{stamped_lists, causal_lists, IsClosedArrival}
use Rattle.cb_schedules.specs.Rounds.{FindNoneFull}
use Rattle.cb_schedules.specs.HelpRounds.{help_rounds}
use Rattle.cb_schedules.specs.HelpRoundLaws.{rounds_without}
use Rattle.cb_schedules.specs.RoundLaws.{rounds_to_deliver}
use Rattle.cb_schedules.specs.RoundsAmong.{rounds_among}
use Rattle.cb_schedules.specs.Succession.{Plan, EndableGroup, IsEndable, is_listed, own_plans, Begin, has_begun, may_begin, the_rules, SuccessionStep, Happens, SuccessionState, succession}
use Rattle.cb_schedules.specs.SuccessionLaws.{HasBegun, HasEnded}

-- as many rounds without the silent member as bring to all others what one of them has
abbrev pub rounds_of : EndableGroup → ℕ → SuccessionState → Schedule
rounds_of g silent t = help_rounds g.setting silent (rounds_without g.setting) t.group

-- the state behind them; they are steps of a succession like any others
abbrev pub behind_rounds : EndableGroup → ℕ → List SuccessionStep → SuccessionState
behind_rounds g silent steps =
    succession the_rules g (steps ++ map Happens (rounds_of g silent (succession the_rules g steps)))

-- the member may begin by the plan with this text
abbrev pub MayBeginNow : EndableGroup → SuccessionState → ℕ → List ℕ → Plan → Type 0
MayBeginNow g t k text plan = may_begin g t.begun (stamped_lists g.setting t.group k) k text plan ≡ true

-- the member is not the silent one, has cast the END with this text, no END of a greater number, and has not begun
pub record GoesOnBy (g : EndableGroup) (t : SuccessionState) (silent : ℕ) (text : List ℕ) (plan : Plan) (k : ℕ) : Type 0 where
  pub member : k < g.setting.group.size
  pub lives : k ≢ silent
  pub ended : HasEnded (causal_lists g.setting t.group) k text
  pub last : list_all (λ q. nat_le q.number plan.number) (own_plans g.plan_in (stamped_lists g.setting t.group k)) ≡ true
  pub waits : has_begun t.begun k ≡ false

-- If each member that a plan lists has ended by it, each of these may begin behind the rounds, though one other member is silent.
abbrev pub ADeadMemberIsNotNeeded : Type 0
ADeadMemberIsNotNeeded =
    (g : EndableGroup) (steps : List SuccessionStep) (silent : ℕ) (text : List ℕ) (plan : Plan) (k : ℕ) → IsEndable g
    → silent < g.setting.group.size → g.plan_in text ≡ Some plan
    → ((l : ℕ) → is_listed l plan ≡ true → GoesOnBy g (succession the_rules g steps) silent text plan l)
    → FindNoneFull g.setting (succession the_rules g steps).group (rounds_of g silent (succession the_rules g steps))
    → is_listed k plan ≡ true → MayBeginNow g (behind_rounds g silent steps) k text plan

-- The plan by which b began lists the member too, each later plan that it ended by lists the one who began, and it has not begun.
pub record ComesLate (g : EndableGroup) (t : SuccessionState) (silent : ℕ) (b : Begin) (k : ℕ) : Type 0 where
  pub begun : HasBegun t b
  pub beginner_lives : b.member ≢ silent
  pub member : k < g.setting.group.size
  pub lives : k ≢ silent
  pub listed : is_listed k b.plan ≡ true
  pub later : list_all (λ q. not (nat_lt b.plan.number q.number) || is_listed b.member q) (own_plans g.plan_in (stamped_lists g.setting t.group k)) ≡ true
  pub waits : has_begun t.begun k ≡ false

-- Once somebody has begun by an earlier plan, each other one who comes late may begin by that plan behind the rounds.
abbrev pub WhoComesLateMayBegin : Type 0
WhoComesLateMayBegin =
    (g : EndableGroup) (steps : List SuccessionStep) (silent : ℕ) (b : Begin) (k : ℕ) → IsEndable g
    → silent < g.setting.group.size → ComesLate g (succession the_rules g steps) silent b k
    → FindNoneFull g.setting (succession the_rules g steps).group (rounds_of g silent (succession the_rules g steps))
    → MayBeginNow g (behind_rounds g silent steps) k b.text b.plan

-- However many are silent: a member that a plan lists, that has cast no END of a greater number and has not begun, may begin as soon as the
-- ENDs of all whom the plan lists have arrived there, with all that happened before them. Nothing else is waited for.
abbrev pub NothingElseIsWaitedFor : Type 0
NothingElseIsWaitedFor =
    (g : EndableGroup) (steps : List SuccessionStep) (text : List ℕ) (plan : Plan) (k : ℕ) → IsEndable g → g.plan_in text ≡ Some plan
    → has_begun (succession the_rules g steps).begun k ≡ false → is_listed k plan ≡ true
    → list_all (λ q. nat_le q.number plan.number) (own_plans g.plan_in (stamped_lists g.setting (succession the_rules g steps).group k)) ≡ true
    → ((l : ℕ) → is_listed l plan ≡ true → (end : HasEnded (causal_lists g.setting (succession the_rules g steps).group) l text)
    × IsClosedArrival g.setting (succession the_rules g steps).group k end.name)
    → MayBeginNow g (succession the_rules g steps) k text plan

-- the rounds among those whom a plan lists, as many as repair takes where nobody is silent
abbrev pub rounds_of_listed : EndableGroup → Plan → SuccessionState → Schedule
rounds_of_listed g plan t = rounds_among g.setting plan.list (rounds_to_deliver g.setting) t.group

-- the state behind them; they are steps of a succession like any others
abbrev pub behind_rounds_of_listed : EndableGroup → Plan → List SuccessionStep → SuccessionState
behind_rounds_of_listed g plan steps =
    succession the_rules g (steps ++ map Happens (rounds_of_listed g plan (succession the_rules g steps)))

-- the member has cast the END with this text, no END of a greater number, and has not begun
pub record WaitsFor (g : EndableGroup) (t : SuccessionState) (text : List ℕ) (plan : Plan) (k : ℕ) : Type 0 where
  pub member : k < g.setting.group.size
  pub ended : HasEnded (causal_lists g.setting t.group) k text
  pub last : list_all (λ q. nat_le q.number plan.number) (own_plans g.plan_in (stamped_lists g.setting t.group k)) ≡ true
  pub waits : has_begun t.begun k ≡ false

-- If each member that a plan lists has ended by it, each of these may begin behind the rounds among them, whoever and however many others
-- are silent.
abbrev pub SilentMembersAreNotNeeded : Type 0
SilentMembersAreNotNeeded =
    (g : EndableGroup) (steps : List SuccessionStep) (text : List ℕ) (plan : Plan) (k : ℕ) → IsEndable g → g.plan_in text ≡ Some plan
    → ((l : ℕ) → is_listed l plan ≡ true → WaitsFor g (succession the_rules g steps) text plan l)
    → FindNoneFull g.setting (succession the_rules g steps).group (rounds_of_listed g plan (succession the_rules g steps))
    → is_listed k plan ≡ true → MayBeginNow g (behind_rounds_of_listed g plan steps) k text plan
