use Rattle.std.proofs.Common.{sym, ◌∙◌}
use Rattle.cb_rooms.proofs.Readings.{holds_now, line_found, found_name}
use Rattle.cb_rooms.proofs.conference.Conference.has_line.Goals as goal

pub returns-clause-exact : goal.returns-clause-exact
returns-clause-exact c =
    let now = holds_now c.self.inside c.args.self.now c.self.view_is c.self.invariant in
    c.contains_key.ensures ∙ line_found c.self.inside.places.entries c.args.self.now.lines c.args.name now.by_names

pub returns-clause-named : goal.returns-clause-named
returns-clause-named c is =
    let now = holds_now c.self.inside c.args.self.now c.self.view_is c.self.invariant in
    let exact = c.contains_key.ensures ∙ line_found c.self.inside.places.entries c.args.self.now.lines c.args.name now.by_names in
    found_name c.args.self.now.lines c.args.self.now.lines c.args.name now.own (sym exact ∙ is)
