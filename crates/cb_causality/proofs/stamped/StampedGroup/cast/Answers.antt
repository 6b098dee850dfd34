use Rattle.std.proofs.Common.{◌≡◌, ◌<◌, List, length, sym, ◌∙◌}
use Rattle.std.proofs.lemmas.List.{length-map}
use Rattle.cb_delay.specs.declared.message.Event.{Event}
use Rattle.cb_causality.specs.StampedGroup.{IsStampAfter}
use Rattle.cb_causality.proofs.StampedGroups.{casts_now, cast_group}
use Rattle.cb_causality.proofs.stamped.StampedGroup.cast.Goals as goal
use Rattle.cb_causality.specs.Lists.{contents, lists_in}

pub invariant_of-self-2 : goal.invariant_of-self-2
invariant_of-self-2 c =
    let lists : List (List Event) = contents c.self.inside.lists.items in
    let inside : c.args.member < length lists = rw c.self.view_is c.requires in
    let stamp : IsStampAfter (length lists) c.args.member c.in_ok-time.time (lists_in lists c.args.member) =
    let size : c.len.result ≡ length lists = c.len.ensures ∙ c.self.inside.lists.ok.0 ∙ sym (length-map c.self.inside.lists.items (λ v. v.items)) in
    rw (size, c.list_of-list.ensures, c.as_slice.ensures.value) at c.in_ok-time.ensures in
    rw (c.in_ok-append.ensures.ok, c.cast_count.ensures.counts, c.list_of-list.ensures, c.as_slice.ensures.value)
    (cast_group lists c.args.member c.args.payload c.in_ok-time.time inside c.self.invariant stamp)

pub returns-clause-cast : goal.returns-clause-cast
returns-clause-cast c =
    let lists : List (List Event) = contents c.self.inside.lists.items in
    let inside : c.args.member < length lists = rw c.self.view_is c.requires in
    let stamp : IsStampAfter (length lists) c.args.member c.in_ok-time.time (lists_in lists c.args.member) =
    let size : c.len.result ≡ length lists = c.len.ensures ∙ c.self.inside.lists.ok.0 ∙ sym (length-map c.self.inside.lists.items (λ v. v.items)) in
    rw (size, c.list_of-list.ensures, c.as_slice.ensures.value) at c.in_ok-time.ensures in
    rw (c.in_ok-append.ensures.ok, c.cast_count.ensures.counts, c.list_of-list.ensures, c.as_slice.ensures.value, ← c.self.view_is)
    (casts_now lists c.args.member c.args.payload c.in_ok-time.time inside c.self.invariant stamp)
