use Rattle.std.proofs.Common.{◌≡◌, ◌++◌, drop}
use Rattle.confer_node.specs.Shown.{news_text}
use Rattle.confer_node.proofs.shown.put_news.Given as goal

abbrev pub invariant-loop-event : goal.invariant-loop-event
invariant-loop-event l = l.text.items ++ news_text (drop l.event-index l.news) ≡ l.fn.text.items ++ news_text l.news
