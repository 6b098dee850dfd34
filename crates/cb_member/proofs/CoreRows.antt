-- Worked calls of a core, by member 0 of group 7 with three members and a window of 4.
use Rattle.std.proofs.Common.{◌≡◌, ℕ, List, [], ◌∷◌, Ok, Err, refl}
use Rattle.cb_varint.specs.Reading.{number_at, spelling}
use Rattle.cb_frames.specs.declared.fault.FrameFault.TheVariants as faults
use Rattle.cb_frames.specs.Fields.{One, messages_of, first_number, last_number}
use Rattle.cb_frames.specs.Text.{text_of}
use Rattle.cb_frames.specs.Reading.{frame_at, head_at, cast_at, status_at, request_at, pairs_at, pair_at}
use Rattle.cb_history.specs.declared.answer.ArriveRefusal.TheVariants as arrivals
use Rattle.cb_history.specs.declared.answer.CastRefusal.TheVariants as casts
use Rattle.cb_history.specs.declared.answer.Ticked.{Ticked}
use Rattle.cb_history.specs.declared.answer.TickRefusal.TheVariants as ticks
use Rattle.cb_history.specs.declared.history.Entry.{Entry}
use Rattle.cb_history.specs.Group.{Identity}
use Rattle.cb_history.specs.Facts.{ArriveEntry, CastEntry, TickEntry}
use Rattle.cb_history.specs.View.{view, drained}
use Rattle.cb_history.specs.Answers.{cast_answer, arrive_answer, tick_answer}
use Rattle.cb_delay.specs.declared.message.Event.{Event}
use Rattle.cb_delay.specs.declared.message.Message.{Message}
use Rattle.cb_member.specs.declared.received.Received.{Received}
use Rattle.cb_member.specs.CoreRuns.{Cast, Take, Tick, history_after_all}

abbrev first : Identity
first = record { group = record { number = 7; size = 3; window = 4 }; me = 0 }

-- the frames of its "hi", and of "yo" by member 1 that had delivered it
abbrev hi : List ℕ
hi = 17 ∷ 7 ∷ 0 ∷ 1 ∷ 0 ∷ 2 ∷ 104 ∷ 105 ∷ []

abbrev yo : List ℕ
yo = 17 ∷ 7 ∷ 1 ∷ 1 ∷ 1 ∷ 0 ∷ 1 ∷ 2 ∷ 121 ∷ 111 ∷ []

-- what was out of memory adds nothing, nor what was no frame; a cast, a delivery and a status are an entry each
cast_and_delivery : (cast : List ℕ × Entry) (joined : List Event) (received : Received) (messages : List Message) (ticked : Ticked) → history_after_all first []
    (Cast (One (104 ∷ 105 ∷ [])) (Err casts.NoMemory) [] ∷ Cast (One (104 ∷ 105 ∷ [])) (Ok cast) joined ∷ Take (17 ∷ []) (Err (arrivals.Malformed faults.Short)) [] ∷ Take yo (Ok received) messages
    ∷ Tick (Err ticks.NoMemory) ∷ Tick (Ok ticked) ∷ [])
    ≡ CastEntry hi ∷ ArriveEntry yo (record { sender = 1; number = 1 } ∷ []) ∷ TickEntry (18 ∷ 7 ∷ 0 ∷ 2 ∷ 0 ∷ 1 ∷ 0 ∷ 1 ∷ []) ∷ []
unfolding cast_answer arrive_answer tick_answer view drained frame_at head_at cast_at status_at request_at pairs_at pair_at number_at text_of spelling messages_of first_number last_number
cast_and_delivery cast joined received messages ticked = refl

-- nor do a repeat and a status that says what the last one said
repeats : (cast : List ℕ × Entry) (joined : List Event) (received : Received) (messages : List Message) (ticked : Ticked) → history_after_all first []
    (Cast (One (104 ∷ 105 ∷ [])) (Ok cast) joined ∷ Take hi (Ok received) messages ∷ Tick (Ok ticked) ∷ Tick (Ok ticked) ∷ []) ≡ CastEntry hi ∷ TickEntry (18 ∷ 7 ∷ 0 ∷ 1 ∷ 0 ∷ 1 ∷ []) ∷ []
unfolding cast_answer arrive_answer tick_answer view drained frame_at head_at cast_at status_at request_at pairs_at pair_at number_at text_of spelling messages_of first_number last_number
repeats cast joined received messages ticked = refl
