-- The codes as the header has them.
use Rattle.std.proofs.Common.{◌≡◌, refl}
use Rattle.std.specs.Prelude.{Ok, Err}
use Rattle.cb_frames.specs.declared.fault.FrameFault.TheVariants.{Short, NoMemory}
use Rattle.cb_history.specs.declared.answer.NewFault.TheVariants as news
use Rattle.cb_history.specs.declared.answer.CastRefusal.TheVariants as casts
use Rattle.cb_history.specs.declared.answer.BurstRefusal.TheVariants as bursts
use Rattle.cb_history.specs.declared.answer.ArriveRefusal.TheVariants as arrivals
use Rattle.cb_history.specs.declared.answer.TickRefusal.TheVariants as ticks
use Rattle.cb_history.specs.declared.answer.HelpFault.TheVariants as helps
use Rattle.cb_history.specs.declared.answer.MissingFault.TheVariants as missings
use Rattle.cb_handle.specs.declared.held.LoadedRefusal.TheVariants as loadeds
use Rattle.cb_handle.specs.declared.held.OpenFault.TheVariants as opens
use Rattle.cb_handle.specs.declared.held.PayloadsRefusal.TheVariants as payloads
use Rattle.cb_handle_journal.specs.declared.fault.LineRefusal.TheVariants as lines
use Rattle.cb_handle_journal.specs.declared.fault.ResumeFault.TheVariants as resumes
use Rattle.jolunza.specs.declared.code.TheConstants.{CLOSED, NONE_THERE}
use Rattle.jolunza.specs.Codes.{open_code, cast_code, burst_code, payloads_code, arrive_code, loaded_code, tick_code, help_code, missing_code, answer_code, resume_code, line_code, frame_code}

done : answer_code cast_code (Ok tt) ≡ 0
done = refl

closed : CLOSED ≡ 1
closed = refl

no_memory_to_open : open_code (opens.BadNew news.NoMemory) ≡ 2
no_memory_to_open = refl

no_memory_to_cast : cast_code casts.NoMemory ≡ 2
no_memory_to_cast = refl

no_memory_to_receive : arrive_code arrivals.NoMemory ≡ 2
no_memory_to_receive = refl

no_memory_to_tick : tick_code ticks.NoMemory ≡ 2
no_memory_to_tick = refl

help_asked_for : answer_code help_code (Ok tt) ≡ 0
help_asked_for = refl

no_memory_to_ask_for_help : answer_code help_code (Err helps.NoMemory) ≡ 2
no_memory_to_ask_for_help = refl

no_memory_to_look : missing_code missings.NoMemory ≡ 2
no_memory_to_look = refl

bad_group : open_code opens.BadGroup ≡ 3
bad_group = refl

bad_member_to_open : open_code (opens.BadNew news.BadMember) ≡ 4
bad_member_to_open = refl

bad_member_in_a_frame : arrive_code arrivals.BadMember ≡ 4
bad_member_in_a_frame = refl

bad_member_to_ask_for_help_with : help_code helps.BadMember ≡ 4
bad_member_to_ask_for_help_with = refl

bad_member_to_look_at : missing_code missings.BadMember ≡ 4
bad_member_to_look_at = refl

bad_limit : open_code (opens.BadNew news.BadLimit) ≡ 5
bad_limit = refl

payload_too_long : cast_code casts.PayloadTooLong ≡ 6
payload_too_long = refl

window_full : answer_code cast_code (Err casts.WindowFull) ≡ 7
window_full = refl

history_full_at_a_cast : cast_code casts.HistoryFull ≡ 8
history_full_at_a_cast = refl

history_full_at_an_arrival : arrive_code arrivals.HistoryFull ≡ 8
history_full_at_an_arrival = refl

history_full_at_a_tick : tick_code ticks.HistoryFull ≡ 8
history_full_at_a_tick = refl

other_group : arrive_code arrivals.OtherGroup ≡ 9
other_group = refl

impossible : arrive_code arrivals.Impossible ≡ 10
impossible = refl

too_far : arrive_code arrivals.TooFar ≡ 11
too_far = refl

malformed : arrive_code (arrivals.Malformed Short) ≡ 12
malformed = refl

none_there : NONE_THERE ≡ 13
none_there = refl

not_loaded : loaded_code loadeds.NotLoaded ≡ 13
not_loaded = refl

a_loaded_part_of_another_group : loaded_code (loadeds.Refused arrivals.OtherGroup) ≡ 9
a_loaded_part_of_another_group = refl

payloads_that_are_not_there : payloads_code payloads.NotThere ≡ 13
payloads_that_are_not_there = refl

overlap : arrive_code arrivals.Overlap ≡ 14
overlap = refl

empty_burst : answer_code payloads_code (Err (payloads.Refused bursts.EmptyBurst)) ≡ 15
empty_burst = refl

burst_too_long : burst_code bursts.BurstTooLong ≡ 16
burst_too_long = refl

payloads_too_long : burst_code bursts.PayloadTooLong ≡ 6
payloads_too_long = refl

window_full_for_a_burst : burst_code bursts.WindowFull ≡ 7
window_full_for_a_burst = refl

history_full_at_a_burst : burst_code bursts.HistoryFull ≡ 8
history_full_at_a_burst = refl

no_memory_for_a_burst : burst_code bursts.NoMemory ≡ 2
no_memory_for_a_burst = refl

no_head : resume_code resumes.NoHead ≡ 17
no_head = refl

bad_line : resume_code (resumes.BadLine 2) ≡ 18
bad_line = refl

too_long : resume_code resumes.TooLong ≡ 19
too_long = refl

not_legal : resume_code (resumes.NotLegal 2) ≡ 20
not_legal = refl

bad_limit_to_resume : resume_code resumes.BadLimit ≡ 5
bad_limit_to_resume = refl

no_memory_to_resume : resume_code resumes.NoMemory ≡ 2
no_memory_to_resume = refl

no_line_there : line_code lines.NoneThere ≡ 13
no_line_there = refl

no_memory_for_a_line : line_code lines.NoMemory ≡ 2
no_memory_for_a_line = refl

no_frame : frame_code Short ≡ 12
no_frame = refl

no_memory_for_a_frame : frame_code NoMemory ≡ 2
no_memory_for_a_frame = refl
