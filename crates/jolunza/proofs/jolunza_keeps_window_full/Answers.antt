use Rattle.std.proofs.Common.{rules, ◌≡◌, refl, nat_lt, true}
use Rattle.cb_handle.specs.Calling.{seat_held}
use Rattle.jolunza.proofs.Members.{of_one}
use Rattle.jolunza.proofs.jolunza_keeps_window_full.Goals as goal

pub returns-clause-shows : goal.returns-clause-shows
returns-clause-shows c =
    let shows = rw c.deref-2.ensures at c.keeps_window_full-answer.ensures in
    let told = rw c.deref.ensures at c.has_member-is_member.ensures in
    let is : nat_lt c.args.member (seat_held c.in-Some.held.value).group.size ≡ true = search rules in
    rw (c.in-Some.ensures.held, c.put.ensures) (refl, of_one c.in-Some.held.value c.args.member _ _ is (refl, shows))
