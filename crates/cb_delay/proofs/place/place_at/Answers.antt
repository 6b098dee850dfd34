use Rattle.cb_delay.proofs.Candidates.{candidate_of}
use Rattle.cb_delay.proofs.place.place_at.Goals as goal

pub place_of_candidate-requires-clause-group : goal.place_of_candidate-requires-clause-group
place_of_candidate-requires-clause-group c =
    (candidate_of _ c.args.sender c.args.list.now.items c.requires.run c.args.now.now c.in-Some.message.now c.in-Some.ensures.some).1

pub place_of_candidate-requires-clause-sender : goal.place_of_candidate-requires-clause-sender
place_of_candidate-requires-clause-sender c =
    (candidate_of _ c.args.sender c.args.list.now.items c.requires.run c.args.now.now c.in-Some.message.now c.in-Some.ensures.some).0

pub returns-clause-placed : goal.returns-clause-placed
returns-clause-placed c = c.place_of_candidate.ensures c.args.list.now.items c.in-Some.ensures.some
