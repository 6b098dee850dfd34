-- A line that is a closed arrival is shown.
use Rattle.std.proofs.Common.{◌≡◌, ap, subst, ◌∙◌}
use Rattle.cb_times.specs.declared.name.Name.{Name}
use Rattle.cb_causality.specs.declared.event.CausalEvent.TheVariants.{Cast}
use Rattle.cb_causality.specs.Events.{payload_of, Has}
use Rattle.cb_causality.proofs.OneMessage.{one_name_one_payload}
use Rattle.cb_rooms.specs.Reading.{line_at}
use Rattle.cb_schedules.specs.Schedule.{Setting, GroupState}
use Rattle.cb_schedules.specs.Messages.{causal_lists}
use Rattle.cb_schedules.specs.Headline.{Headline}
use Rattle.confer_play.specs.Rooms.{view_of, AnswersWereComposed, Shows, ShowsClosedArrivals}
use Rattle.confer_play.proofs.Asking.{shows_all_lines}

pub shows_closed_arrivals : (setting : Setting) (s : GroupState) → Headline setting s → AnswersWereComposed (causal_lists setting s) → ShowsClosedArrivals setting s
shows_closed_arrivals setting s head composed i place j m payload line at read closed =
    let has : Has (causal_lists setting s j) m = (head.delivered j m).1 closed in
    let said : payload_of has.event ≡ payload =
    one_name_one_payload setting.group.size (causal_lists setting s) head.causal has.event (Cast m payload) (j, has.index, has.stands) (i, place, at) has.named in
    subst (λ (x : Name). Shows (view_of (causal_lists setting s j)) x line) has.named
    (shows_all_lines setting.group.size (causal_lists setting s) head.causal composed j has.index has.event line has.stands (ap line_at said ∙ read))
