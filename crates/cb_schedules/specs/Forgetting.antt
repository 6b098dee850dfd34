-- The run of a group of cores: members that keep no history.
use Rattle.std.specs.Prelude.{List, [], ◌∷◌}
use Rattle.cb_history.specs.Group.{Parameters, Identity}
use Rattle.cb_history.specs.Facts.{EntryFields}
use Rattle.cb_history.specs.Legal.{Call, room_for_one}
use Rattle.cb_schedules.specs.Schedule.{Setting, Step, Schedule, Asked, Calls, OfNoMember, OfNoFrame, OfNoBytes, Answer, NoSuchMember, NoSuchFrame, NoBytes, GroupState, answer_of, asked_by, and_answer, and_nothing, nothing_yet}
use Rattle.cb_schedules.specs.Honest.{member_of}

-- What a core answers: what the definition answers to a member that has entered all this and has room for one entry more. A call adds
-- at most one, so it is the answer without a limit. Of the entries the definition alone speaks; a core keeps none.
abbrev pub answer_of_core : Identity → List EntryFields → Call → Answer
answer_of_core seat entries call = answer_of seat (room_for_one entries) entries call

-- the group, where there is room for one entry behind these
abbrev pub with_room_behind : List EntryFields → Parameters → Setting
with_room_behind entries group = record { group = group; limit = room_for_one entries }

-- core i answers the call; what it would have entered is told on, and what it sends is sent
abbrev pub after_asked_of_cores : Parameters → GroupState → Asked → GroupState
after_asked_of_cores group s (Calls i call) =
    and_answer (with_room_behind (s.histories i) group) s i call (answer_of_core (member_of group i) (s.histories i) call)
after_asked_of_cores group s OfNoMember = and_nothing s OfNoMember NoSuchMember
after_asked_of_cores group s OfNoFrame = and_nothing s OfNoFrame NoSuchFrame
after_asked_of_cores group s OfNoBytes = and_nothing s OfNoBytes NoBytes

-- the state of cores after one step
unfoldable pub step_of_cores : Parameters → GroupState → Step → GroupState
step_of_cores group s step = after_asked_of_cores group s (asked_by (with_room_behind [] group) s.sent step)

-- the state after some steps
unfoldable pub cores_from : Parameters → GroupState → Schedule → GroupState
cores_from group s [] = s
cores_from group s (step ∷ steps) = cores_from group (step_of_cores group s step) steps

-- the run of a schedule by cores
abbrev pub run_of_cores : Parameters → Schedule → GroupState
run_of_cores group steps = cores_from group nothing_yet steps
