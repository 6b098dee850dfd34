use Rattle.cb_causality.proofs.Following.{comes_behind, keeps_the_order_inside, keeps_the_order_before}
use Rattle.cb_causality.proofs.Newcomers.{following_groups_are_one_run}
use Rattle.cb_causality.proofs.laws.groups_follow_as_one_run.Goals as goal

pub returns-clause-run : goal.returns-clause-run
returns-clause-run c = following_groups_are_one_run

pub returns-clause-behind : goal.returns-clause-behind
returns-clause-behind c = λ size earlier persons next run may next_run. comes_behind size earlier persons run may next next_run

pub returns-clause-inside : goal.returns-clause-inside
returns-clause-inside c = λ size earlier persons next run may next_run. keeps_the_order_inside size earlier persons run may next next_run

pub returns-clause-before : goal.returns-clause-before
returns-clause-before c = λ size earlier persons next run may next_run. keeps_the_order_before size earlier persons run may next next_run
