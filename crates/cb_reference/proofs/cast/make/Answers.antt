use Rattle.std.proofs.Common.{◌≡◌, ◌++◌, ◌∙◌, List, take, ap, subst, sym}
use Rattle.cb_frames.specs.Fields.{CastFields, Carried, CastFrame, messages_of, unit_fields}
use Rattle.cb_frames.specs.Text.{KeepsCastRules, text_of}
use Rattle.cb_history.specs.Facts.{CastEntry}
use Rattle.cb_history.specs.View.{counts}
use Rattle.cb_history.specs.State.{MemberState, view_in, next_in}
use Rattle.cb_reference.specs.Casting.{load_of}
use Rattle.cb_reference.proofs.Casting.{next_keeps_rules, has_first, done_is}
use Rattle.cb_reference.proofs.cast.make.Goals as goal

pub casting_of-requires-clause-rules : goal.casting_of-requires-clause-rules
casting_of-requires-clause-rules c =
    subst (λ (x : CastFields). KeepsCastRules x) (sym c.in_ok-cast.ensures) (next_keeps_rules c.args.past.now (load_of c.args.load) c.member.ensures.state c.requires)

pub returns : goal.returns
returns c =
    let m : MemberState = c.args.past.now in
    let load = load_of c.args.load in
    let next : CastFields = next_in m load in
    let first = has_first next c.requires.some in
    let time : c.in_ok-time.time ≡ counts m.seat.group.size (view_in m ++ take 1 (messages_of next)) =
    c.in_ok-time.ensures first.first first.sender_is ∙ ap (λ (ms : List Carried). counts m.seat.group.size (view_in m ++ ms)) (sym first.alone) in
    record {
      done = c.in_ok-casting.ensures.done ∙ done_is m load (unit_fields c.in_ok-cast.cast) c.count_of.result c.in_ok-time.time c.in_ok-cast.ensures c.count_of.ensures time;
      entry = c.in_ok-casting.ensures.entry ∙ ap (λ (x : CastFields). CastEntry (text_of (CastFrame x))) c.in_ok-cast.ensures;
    }
