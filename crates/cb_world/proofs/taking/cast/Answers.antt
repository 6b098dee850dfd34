use Rattle.std.proofs.Common.{arith, rules, tests}
use Rattle.cb_world.proofs.Taken.{bytes_are_bytes}
use Rattle.cb_world.proofs.taking.cast.Goals as goal

pub returns-in-Err : goal.returns-in-Err
returns-in-Err c = record {
  done = search (rules, tests);
  bytes = bytes_are_bytes c.args.payload.now (λ i. omega (arith, c.type_inv.payload i));
  same = tt;
  sent = tt;
}
