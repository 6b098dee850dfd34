use Rattle.cb_trace.proofs.Ordering.{greedy_orders_are_orders, joint_order_is_found}
use Rattle.cb_trace.proofs.OneOrder.{one_greedy_order}
use Rattle.cb_trace.proofs.laws.joint.no_joint_order_is_missed.Goals as goal

pub returns-clause-orders : goal.returns-clause-orders
returns-clause-orders c = greedy_orders_are_orders

pub returns-clause-one : goal.returns-clause-one
returns-clause-one c = one_greedy_order

pub returns-clause-found : goal.returns-clause-found
returns-clause-found c = joint_order_is_found
