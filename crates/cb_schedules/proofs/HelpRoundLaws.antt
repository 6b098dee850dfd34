-- Rounds without a silent member, behind any schedule.
use Rattle.std.proofs.Common.{ℕ, ◌*◌, ◌≤◌, refl, arith}
use Rattle.std.specs.Int.{div_ceil}
use Rattle.std.proofs.lemmas.Grind.{div_ceil_times}
use Rattle.cb_frames.specs.declared.frame.TheConstants.{MOST_FRAMES}
use Rattle.cb_schedules.specs.Schedule.{Setting, run}
use Rattle.cb_schedules.specs.HelpRounds.{help_rounds}
use Rattle.cb_schedules.specs.HelpRoundLaws.{BehindRoundsWithout, OthersHaveTheSame, OthersHaveWhatAnyHad, SoManyWithout, InTheEnd, rounds_without}
use Rattle.cb_schedules.proofs.Courses.{runs_are_consistent}
use Rattle.cb_schedules.proofs.Happening.{none_full_from}
use Rattle.cb_schedules.proofs.Outliving.{so_all_have_the_same, so_all_have_what_any_had}

abbrev asking_rounds : Setting → ℕ
asking_rounds setting = div_ceil setting.group.window MOST_FRAMES

wide : (setting : Setting) → setting.group.window ≤ asking_rounds setting * MOST_FRAMES
wide setting = (div_ceil_times setting.group.window MOST_FRAMES (omega arith)).0

pub these_are_so_many : SoManyWithout
these_are_so_many setting is =
    let bounds = div_ceil_times setting.group.window MOST_FRAMES (omega arith) in
    let one = is.group.width.one_or_more in
    let most = is.group.width.at_most_widest in
    ((λ narrow. omega (arith, bounds.0, bounds.1, one, narrow)), omega (arith, bounds.1, most))

pub others_have_the_same : BehindRoundsWithout rounds_without (InTheEnd OthersHaveTheSame)
others_have_the_same setting silent steps is lt none =
    let s = run setting steps in
    let one = is.group.width.one_or_more in
    so_all_have_the_same setting is silent lt s (runs_are_consistent setting steps is) (rounds_without setting) (none_full_from setting s (help_rounds setting silent (rounds_without setting) s) none)
    (asking_rounds setting) (wide setting) (omega (arith, one)) refl

pub others_have_what_any_had : BehindRoundsWithout rounds_without OthersHaveWhatAnyHad
others_have_what_any_had setting silent steps is lt none =
    let s = run setting steps in
    let one = is.group.width.one_or_more in
    so_all_have_what_any_had setting is silent lt s (runs_are_consistent setting steps is) (rounds_without setting) (none_full_from setting s (help_rounds setting silent (rounds_without setting) s) none)
    (asking_rounds setting) (wide setting) (omega (arith, one)) refl
