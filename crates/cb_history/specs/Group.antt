-- The parameters of a group, and the member whose history is looked at.
use Rattle.std.specs.Prelude.{ℕ, ◌<◌, ◌^◌, refl}
use Rattle.std.specs.Coded.{Coded, code_by, coded×, coded_ℕ}
use Rattle.cb_times.specs.Group.{IsGroupSize, IsWindow}

pub record Parameters : Type 0 where
  pub number : ℕ
  pub size : ℕ
  pub window : ℕ

-- what is true of those of every group
pub record AreParameters (p : Parameters) : Type 0 where
  pub size : IsGroupSize p.size
  pub width : IsWindow p.window
  pub number_fits : p.number < 2 ^ 32

-- how they are stored: as pairs
abbrev pub parameters_code : Coded Parameters
parameters_code = code_by (ℕ × (ℕ × ℕ)) (coded× coded_ℕ (coded× coded_ℕ coded_ℕ)) (λ p. (p.number, (p.size, p.window))) (λ x. record { number = x.0; size = x.1.0; window = x.1.1 }) (λ _. refl)

-- a member of a group
pub record Identity : Type 0 where
  pub group : Parameters
  pub me : ℕ

-- what is true of every member of a group
pub record IsIdentity (seat : Identity) : Type 0 where
  pub group : AreParameters seat.group
  pub member : seat.me < seat.group.size

abbrev pub identity_code : Coded Identity
identity_code = code_by (Parameters × ℕ) (coded× parameters_code coded_ℕ) (λ s. (s.group, s.me)) (λ x. record { group = x.0; me = x.1 }) (λ _. refl)
