-- A worked dry run: 1.1 follows 0.1 and is held, as is 2.1, which follows 0.2 too. Once 0.1 comes, it goes, and 1.1 after it.
use Rattle.std.proofs.Common.{ℕ, List, [], ◌∷◌, refl}
use Rattle.cb_frames.specs.declared.frame.Change.{Change}
use Rattle.cb_frames.specs.Fields.{One, CastFields, Carried, messages_of, first_number, last_number}
use Rattle.cb_delay.specs.declared.message.Message.{Message}
use Rattle.cb_history.specs.View.{drained}
use Rattle.cb_member.specs.Foretelling.{AreDrained}

abbrev cast : ℕ → List Change → List ℕ → CastFields
cast sender changes payload = record { group = 7; sender = sender; number = 1; changes = changes; load = One payload }

abbrev carried : ℕ → List ℕ → Carried
carried sender payload = record { sender = sender; number = 1; payload = payload }

abbrev message : ℕ → List ℕ → List ℕ → Message
message sender time payload = record { name = record { sender = sender; number = 1 }; time = time; payload = payload }

abbrev held : List CastFields
held = cast 1 (record { field = 0; amount = 1 } ∷ []) (0x62 ∷ []) ∷ cast 2 (record { field = 0; amount = 2 } ∷ []) (0x63 ∷ []) ∷ []

none_goes_yet : AreDrained 3 held [] []
unfolding drained messages_of first_number last_number
none_goes_yet = record { more = []; drained = refl; messages_are = refl }

two_go : AreDrained 3 (cast 0 [] (0x61 ∷ []) ∷ held) [] (message 0 (1 ∷ 0 ∷ 0 ∷ []) (0x61 ∷ []) ∷ message 1 (1 ∷ 1 ∷ 0 ∷ []) (0x62 ∷ []) ∷ [])
unfolding drained messages_of first_number last_number
two_go = record { more = carried 0 (0x61 ∷ []) ∷ carried 1 (0x62 ∷ []) ∷ []; drained = refl; messages_are = refl }
