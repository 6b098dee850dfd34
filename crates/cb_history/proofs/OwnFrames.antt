-- What a member sends is of its group.
use Rattle.std.proofs.Common.{◌≡◌, ℕ, Bool, true, ltb, List, [], ◌∷◌, length, refl, sym, arith}
use Rattle.std.specs.List.{AllByRecursion, list_all}
use Rattle.std.proofs.lemmas.Bool.{lt-ltb, ne_eqb, and_from}
use Rattle.std.proofs.lemmas.List.FromFn.{length-map-range_with_len}
use Rattle.cb_frames.specs.declared.frame.Change.{Change}
use Rattle.cb_diffs.specs.Differences.{change_of, is_reported, differences}
use Rattle.cb_history.specs.View.{count, view, time_of}
use Rattle.cb_history.specs.Answers.{delivered, status_of, upto_last_cast}
use Rattle.cb_history.specs.OwnFrameLaws.{OwnCastsAreOfTheGroup, OwnStatusesAreOfTheGroup, OwnRequestsAreOfTheGroup}
use Rattle.cb_history.proofs.Written.{each_from}

all_pass : (p : Change → Bool) (ds : List Change) → AllByRecursion (λ d. p d ≡ true) ds → list_all p ds ≡ true
all_pass p [] all = refl
all_pass p (d ∷ ds) all = and_from (p d) (list_all p ds) all.0 (all_pass p ds all.1)

pub own_casts_are_of_the_group : OwnCastsAreOfTheGroup
own_casts_are_of_the_group seat facts load is =
    let previous = time_of seat.group.size (upto_last_cast facts) in
    let now = time_of seat.group.size facts in
    let size : length now ≡ seat.group.size = length-map-range_with_len (count (view seat.group.size facts)) 0 seat.group.size in
    record {
      number = refl;
      members = and_from (ltb seat.me seat.group.size) (list_all (λ d. ltb d.field seat.group.size) (differences previous now seat.me)) (lt-ltb seat.me seat.group.size is.member)
          (all_pass (λ d. ltb d.field seat.group.size) (differences previous now seat.me)
          (each_from (is_reported seat.me) (change_of previous now) (λ d. ltb d.field seat.group.size ≡ true) 0 (length now) (λ k lt reported. lt-ltb k seat.group.size (omega (arith, lt, size)))));
    }

pub own_statuses_are_of_the_group : OwnStatusesAreOfTheGroup
own_statuses_are_of_the_group seat facts is =
    let value : ℕ → Change = λ k. record { field = k; amount = delivered seat facts k } in
    record {
      number = refl;
      members = and_from (ltb seat.me seat.group.size) (list_all (λ d. ltb d.field seat.group.size) (status_of seat facts).values) (lt-ltb seat.me seat.group.size is.member)
          (all_pass (λ d. ltb d.field seat.group.size) (status_of seat facts).values
          (each_from (λ d. ltb 0 d.amount) value (λ d. ltb d.field seat.group.size ≡ true) 0 seat.group.size (λ k lt reported. lt-ltb k seat.group.size (omega (arith, lt)))));
    }

pub own_requests_are_of_the_group : OwnRequestsAreOfTheGroup
own_requests_are_of_the_group seat i ranges is member other = (
  record {
    number = refl;
    members = and_from (ltb seat.me seat.group.size) (ltb i seat.group.size) (lt-ltb seat.me seat.group.size is.member) (lt-ltb i seat.group.size member);
  },
  (λ _ _. ne_eqb seat.me i (λ e. other (sym e))),
)
