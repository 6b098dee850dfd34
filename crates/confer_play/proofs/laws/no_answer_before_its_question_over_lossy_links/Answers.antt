use Rattle.std.proofs.Common.{ℕ}
use Rattle.cb_schedules.specs.Messages.{causal_lists}
use Rattle.cb_schedules.proofs.Headlines.{each_schedule, headline_holds}
use Rattle.confer_play.specs.Rooms.{AnswersWereComposed, HasNoOrphan, ShowsClosedArrivals, AgreeOnLines}
use Rattle.confer_play.proofs.Asking.{no_orphan, agree_on_lines}
use Rattle.confer_play.proofs.Arriving.{shows_closed_arrivals}
use Rattle.confer_play.proofs.laws.no_answer_before_its_question_over_lossy_links.Goals as goal

pub returns-clause-no_orphan : goal.returns-clause-no_orphan
returns-clause-no_orphan c =
    each_schedule (λ setting s. AnswersWereComposed (causal_lists setting s) → (j : ℕ) → HasNoOrphan (causal_lists setting s j))
    (λ setting s inv. no_orphan setting.group.size (causal_lists setting s) (headline_holds setting s inv).causal)

pub returns-clause-closed : goal.returns-clause-closed
returns-clause-closed c =
    each_schedule (λ setting s. AnswersWereComposed (causal_lists setting s) → ShowsClosedArrivals setting s)
    (λ setting s inv. shows_closed_arrivals setting s (headline_holds setting s inv))

pub returns-clause-agree : goal.returns-clause-agree
returns-clause-agree c =
    each_schedule (λ setting s. AnswersWereComposed (causal_lists setting s) → AgreeOnLines (causal_lists setting s))
    (λ setting s inv. agree_on_lines setting.group.size (causal_lists setting s) (headline_holds setting s inv).causal)
