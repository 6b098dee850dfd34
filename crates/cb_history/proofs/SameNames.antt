-- Names are the same where sender and number are.
use Rattle.std.proofs.Common.{◌≡◌, ◌==◌, ◌&&◌, ap}
use Rattle.std.specs.Prelude.{Decides}
use Rattle.std.proofs.lemmas.Bool.{eqb-true, eq-eqb, and_parts, and_from}
use Rattle.cb_times.specs.declared.name.Name.{Name}

pub same_name : (a b : Name) → Decides (a.sender == b.sender && a.number == b.number) (a ≡ b)
same_name a b = (
  λ t. let p = and_parts (a.sender == b.sender) (a.number == b.number) t in let s = eqb-true a.sender b.sender p.0 in let n = eqb-true a.number b.number p.1 in λ i. record { sender = s i; number = n i },
  λ e. and_from (a.sender == b.sender) (a.number == b.number) (eq-eqb a.sender b.sender (ap (λ (x : Name). x.sender) e)) (eq-eqb a.number b.number (ap (λ (x : Name). x.number) e)),
)
