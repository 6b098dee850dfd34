-- Within which bounds a conference in threads is to be.
use Rattle.std.specs.Prelude.{◌≤◌}
use Rattle.cb_times.specs.declared.group.TheConstants.{FEWEST_MEMBERS, WIDEST_WINDOW}
use Rattle.confer_run.specs.declared.setting.RunSetting.{RunSetting}
use Rattle.confer_run.specs.declared.setting.TheConstants.{MOST_WORKING, MOST_QUESTIONS, MOST_TURNS}

-- within the bounds of a group in threads
pub record IsRunGroup (setting : RunSetting) : Type 0 where
  pub size_from : FEWEST_MEMBERS ≤ setting.size
  pub size_to : setting.size ≤ MOST_WORKING
  pub window_from : 1 ≤ setting.window
  pub window_to : setting.window ≤ WIDEST_WINDOW

-- within those of what is asked, and of turns
pub record IsRunTalk (setting : RunSetting) : Type 0 where
  pub questions_from : 1 ≤ setting.questions
  pub questions_to : setting.questions ≤ MOST_QUESTIONS
  pub turns_from : 1 ≤ setting.turns
  pub turns_to : setting.turns ≤ MOST_TURNS

-- within its bounds
pub record IsRunSetting (setting : RunSetting) : Type 0 where
  pub group : IsRunGroup setting
  pub talk : IsRunTalk setting
