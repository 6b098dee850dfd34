use Rattle.std.proofs.Common.{◌∙◌}
use Rattle.cb_rooms.proofs.Readings.{holds_now, place_found}
use Rattle.cb_rooms.proofs.conference.Conference.place_of.Goals as goal

pub returns : goal.returns
returns c =
    let now = holds_now c.self.inside c.args.self.now c.self.view_is c.self.invariant in
    c.copied.ensures ∙ c.get.ensures.value ∙ place_found c.self.inside.places.entries c.args.self.now.lines c.args.name now.by_names
