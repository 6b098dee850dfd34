use Rattle.std.proofs.Common.{length, refl, arith}
use Rattle.std.proofs.lemmas.List.{length-map}
use Rattle.cb_threads.specs.Groups.{IsPlan}
use Rattle.cb_threads.specs.Reports.{failures_in}
use Rattle.cb_threads.proofs.Planning.{no_memory_is_no_bad_plan, not_refused, other_fault}
use Rattle.cb_threads.proofs.Order.{as_many, tells_all}
use Rattle.cb_threads.proofs.group.run_group.Goals as goal

pub returns-in-Ok-run_lives-clause-plan : goal.returns-in-Ok-run_lives-clause-plan
returns-in-Ok-run_lives-clause-plan g c =
    let p = c.is_plan.ensures.0 c.if-not-is_plan.false in
    let plan : IsPlan c.args.group c.args.history_max (length c.args.links.items) (length c.args.paces.items) (length c.args.talkers.items) = record {
      links_are = omega (arith, p.links_are, c.len.ensures);
      paces_are = omega (arith, p.paces_are, c.len-2.ensures);
      talkers_are = omega (arith, p.talkers_are, c.len-3.ensures);
      one_or_more = p.one_or_more;
      at_most = p.at_most;
    } in
    not_refused _ _ _ _ refl refl plan

pub returns-in-Err-clause-plan : goal.returns-in-Err-clause-plan
returns-in-Err-clause-plan g c =
    let p = c.is_plan.ensures.0 c.if-not-is_plan.false in
    let plan : IsPlan c.args.group c.args.history_max (length c.args.links.items) (length c.args.paces.items) (length c.args.talkers.items) = record {
      links_are = omega (arith, p.links_are, c.len.ensures);
      paces_are = omega (arith, p.paces_are, c.len-2.ensures);
      talkers_are = omega (arith, p.talkers_are, c.len-3.ensures);
      one_or_more = p.one_or_more;
      at_most = p.at_most;
    } in
    other_fault _ _ _ _ refl refl no_memory_is_no_bad_plan plan

pub returns-in-Ok-run_lives-clause-members : goal.returns-in-Ok-run_lives-clause-members
returns-in-Ok-run_lives-clause-members g c =
    let p = c.is_plan.ensures.0 c.if-not-is_plan.false in
    omega (
      arith,
      c.in-Ok-run_lives.ensures.members,
      length-map c.in-Ok.parts.items (failures_in g.I.Inlet.failed g.O.Outlet.failed g.P.Pace.failed),
      as_many c.in-Ok.parts.items c.args.links.items c.in-Ok.ensures.links,
      p.links_are,
      c.len.ensures,
    )

pub returns-in-Ok-run_lives-clause-failures : goal.returns-in-Ok-run_lives-clause-failures
returns-in-Ok-run_lives-clause-failures g c =
    tells_all g.I.Inlet.failed g.O.Outlet.failed g.P.Pace.failed c.in-Ok.parts.items c.args.links.items c.args.paces.items c.in-Ok-run_lives.report.reports.items c.in-Ok-run_lives.ensures.failures c.in-Ok.ensures.links c.in-Ok.ensures.paces
