use Rattle.std.proofs.Common.{◌≡◌, ◌∙◌, ap, arith}
use Rattle.std.proofs.lemmas.Result.{IfOk-weaker}
use Rattle.std.specs.List.{range_with_len}
use Rattle.cb_history.specs.Group.{Parameters}
use Rattle.cb_history.specs.Known.{missing, ranges_of}
use Rattle.cb_member.specs.Helping.{help_for_among}
use Rattle.cb_member.proofs.Asking.{among_all, may_ask_all}
use Rattle.cb_member.proofs.state.State.help.Goals as goal

pub members_below-members-requires : goal.members_below-members-requires
members_below-members-requires c =
    omega (arith, c.requires.state.legal.group.size.at_most_sixty_four, c.size.ensures.size ∙ ap (λ (g : Parameters). g.size) c.group.ensures.group)

pub ask_among-requires-clause-may : goal.ask_among-requires-clause-may
ask_among-requires-clause-may c =
    let seat = c.args.self.now.seat in
    let given : c.members_below-members.result.now ≡ range_with_len 0 seat.group.size =
    c.members_below-members.ensures ∙ ap (range_with_len 0) (c.size.ensures.size ∙ ap (λ (g : Parameters). g.size) c.group.ensures.group) in
    rw given (may_ask_all seat c.args.i c.requires.of_group c.requires.other)

pub returns : goal.returns
returns c =
    let seat = c.args.self.now.seat in
    let i = c.args.i in
    let given : c.members_below-members.result.now ≡ range_with_len 0 seat.group.size =
    c.members_below-members.ensures ∙ ap (range_with_len 0) (c.size.ensures.size ∙ ap (λ (g : Parameters). g.size) c.group.ensures.group) in
    IfOk-weaker c.ask_among.result _ _ (λ out is facts are keeps.
    let ranges = ranges_of (missing seat facts i) in
    is facts are keeps ∙ ap (help_for_among seat facts i ranges) given ∙ among_all seat facts i ranges) c.ask_among.ensures
