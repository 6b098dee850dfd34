use Rattle.std.proofs.Common.{◌∙◌, ap, List, map, Some}
use Rattle.std.specs.Prelude.{option_map}
use Rattle.cb_rooms.specs.declared.shown.Shown.{Shown}
use Rattle.cb_rooms.specs.View.{line_in}
use Rattle.cb_rooms.proofs.Readings.{holds_now, lines_found}
use Rattle.cb_rooms.proofs.conference.Conference.lines.Goals as goal

pub returns-in_err-get : goal.returns-in_err-get
returns-in_err-get c =
    let now = holds_now c.self.inside c.args.self.now c.self.view_is c.self.invariant in
    let e = lines_found c.args.room.now c.self.inside.rooms.entries c.args.self.now.lines now.in_rooms in
    ap (option_map (λ lines. map (line_in c.args.room.now) lines.now)) c.from_residual.ensures
    ∙ ap (option_map (λ v. map (line_in c.args.room.now) v.items)) c.in_err-get.ensures.value ∙ e

pub returns : goal.returns
returns c =
    let now = holds_now c.self.inside c.args.self.now c.self.view_is c.self.invariant in
    let e = lines_found c.args.room.now c.self.inside.rooms.entries c.args.self.now.lines now.in_rooms in
    ap (λ (l : List Shown). Some (map (line_in c.args.room.now) l)) c.as_slice.ensures.value
    ∙ ap (option_map (λ v. map (line_in c.args.room.now) v.items)) c.in_ok-get.ensures.value ∙ e
