use Rattle.cb_member.proofs.Ticks.{fields_agree, news_is_new}
use Rattle.cb_member.proofs.state.State.has_news.Goals as goal

pub is_news-requires : goal.is_news-requires
is_news-requires c = fields_agree c.args.self.now c.requires.facts c.requires.keeps

pub returns : goal.returns
returns c facts are keeps =
    let state = c.args.self.now in
    news_is_new state.seat facts state.delivery state.sending c.is_news.result keeps.delivered keeps.sent c.is_news.ensures
