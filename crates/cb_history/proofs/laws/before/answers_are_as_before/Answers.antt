use Rattle.cb_history.proofs.Before.{stable_as_before, casts_as_before, ticks_as_before, news_before_is_news, arrivals_as_before}
use Rattle.cb_history.proofs.laws.before.answers_are_as_before.Goals as goal

pub returns-clause-stable : goal.returns-clause-stable
returns-clause-stable c = stable_as_before

pub returns-clause-casts : goal.returns-clause-casts
returns-clause-casts c = casts_as_before

pub returns-clause-ticks : goal.returns-clause-ticks
returns-clause-ticks c = ticks_as_before

pub returns-clause-news : goal.returns-clause-news
returns-clause-news c = news_before_is_news

pub returns-clause-arrivals : goal.returns-clause-arrivals
returns-clause-arrivals c = arrivals_as_before
