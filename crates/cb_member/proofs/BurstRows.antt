-- A worked burst: 1.1 and 1.2 follow 0.1 and 0.2, and are delivered as a whole.
use Rattle.std.proofs.Common.{◌≡◌, ℕ, List, [], ◌∷◌, refl}
use Rattle.cb_frames.specs.declared.frame.Change.{Change}
use Rattle.cb_frames.specs.Fields.{Many, CastFields, messages_of}
use Rattle.cb_delay.specs.declared.message.Event.{Event}
use Rattle.cb_delay.specs.declared.message.Event.TheVariants.{Deliver}
use Rattle.cb_delay.specs.declared.message.Message.{Message}
use Rattle.cb_member.specs.Passing.{burst_delivered}

abbrev after_two : CastFields
after_two = record { group = 7; sender = 1; number = 1; changes = record { field = 0; amount = 2 } ∷ []; load = Many ((0x61 ∷ []) ∷ (0x62 ∷ []) ∷ []) }

abbrev message_of_1 : ℕ → List ℕ → List ℕ → Event
message_of_1 number time payload = Deliver (record { name = record { sender = 1; number = number }; time = time; payload = payload })

-- each has the time of the first one, but for its own number
whole_burst_is_delivered : burst_delivered after_two (2 ∷ 1 ∷ 0 ∷ []) ≡ message_of_1 1 (2 ∷ 1 ∷ 0 ∷ []) (0x61 ∷ []) ∷ message_of_1 2 (2 ∷ 2 ∷ 0 ∷ []) (0x62 ∷ []) ∷ []
unfolding messages_of
whole_burst_is_delivered = refl
