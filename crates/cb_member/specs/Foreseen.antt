-- What a cast will deliver, told before anything changes.
use Rattle.std.specs.Prelude.{◌≡◌, ℕ, ◌+◌, ◌<◌, List, [], ◌∷◌, ◌++◌}
use Rattle.cb_frames.specs.Fields.{CastFields, CastFrame, Carried}
use Rattle.cb_delay.specs.declared.message.Event.{Event}
use Rattle.cb_delay.specs.declared.message.Event.TheVariants.{Deliver}
use Rattle.cb_delay.specs.declared.message.Message.{Message}
use Rattle.cb_diffs.specs.Expansion.{expanded_time}
use Rattle.cb_gaps.specs.Buffer.{Buffer}
use Rattle.cb_history.specs.Answers.{deliveries}
use Rattle.cb_history.specs.BufferLaws.{HoldsWhatWaits}
use Rattle.cb_history.specs.Facts.{Fact, CastReceived, casts_in}
use Rattle.cb_history.specs.Group.{Identity}
use Rattle.cb_history.specs.Known.{expanded_count}
use Rattle.cb_history.specs.LegalFacts.{AreFactsOf}
use Rattle.cb_history.specs.Singles.{singles_in}
use Rattle.cb_history.specs.View.{message_in}
use Rattle.cb_member.specs.declared.arrival.course.Course.{Course}
use Rattle.cb_member.specs.declared.arrival.course.Course.TheVariants.{Early, Waits, Alone, AllAlone, LeadsOn, LetsGo}
use Rattle.cb_member.specs.declared.state.State.{State}
use Rattle.cb_member.specs.Delivery.{IsSettled}
use Rattle.cb_member.specs.Knowledge.{delivered_by}
use Rattle.cb_member.specs.Passing.{message_at}
use Rattle.cb_member.specs.State.{Keeps}
use Rattle.cb_member.specs.Taking.{IsNextOf}

-- on all facts that the state keeps and that the cast may follow these are delivered by it
abbrev pub AreDeliveries : CastFields → State → List Message → Type 0
AreDeliveries c state messages =
    (facts : List Fact) → AreFactsOf state.seat (facts ++ CastReceived c ∷ []) → Keeps facts state → messages ≡ deliveries state.seat facts (CastFrame c)

-- copies of what is delivered on the course
abbrev pub AreCopies : CastFields → Course → State → List Message → Type 0
AreCopies c (Early spares) state copies = copies ≡ []
AreCopies c (Waits time) state copies = copies ≡ []
AreCopies c (Alone time) state copies = copies ≡ message_at c time ∷ []
AreCopies c (AllAlone time deliveries) state copies = copies ≡ delivered_by deliveries.items
AreCopies c (LeadsOn time count) state copies = AreDeliveries c state copies
AreCopies c (LetsGo spares count) state copies = AreDeliveries c state copies

-- what joins the events on the course
abbrev pub JoinsEvents : CastFields → Course → List Event → List Event → Type 0
JoinsEvents c (Early spares) before after = after ≡ before
JoinsEvents c (Waits time) before after = after ≡ before
JoinsEvents c (Alone time) before after = after ≡ before ++ Deliver (message_at c time) ∷ []
JoinsEvents c (AllAlone time deliveries) before after = after ≡ before ++ deliveries.items
JoinsEvents c (LeadsOn time count) before after = Unit {0}
JoinsEvents c (LetsGo spares count) before after = Unit {0}

-- nothing has changed but what the delay queue remembers of its last answer
pub record OnlySettles (old new : State) : Type 0 where
  pub settled : IsSettled old.delivery new.delivery
  pub rest : new ≡ record old { delivery = new.delivery }

-- ---- what the cast lets be expanded

-- the messages of this sender with the numbers behind the one up to the other, in order, each as these casts tell it
abbrev pub AreNextOf : ℕ → List CastFields → ℕ → ℕ → List Message → ℕ → Type 0
AreNextOf size casts sender low [] high = low ≡ high
AreNextOf size casts sender low (x ∷ messages) high =
    (m : Carried) × IsNextOf casts sender low m × (x ≡ message_in size casts m) × AreNextOf size casts sender (low + 1) messages high

-- some of the sender's singles were taken, in order: the buffer keeps the others that are there, and this is the time of the last one
pub record HasTakenOut (seat : Identity) (facts : List Fact) (sender : ℕ) (b : Buffer) (time : List ℕ) : Type 0 where
  pub legal : AreFactsOf seat facts
  pub member : sender < seat.group.size
  pub waits : HoldsWhatWaits (singles_in facts) sender b
  pub time_is : time ≡ expanded_time seat.group.size (casts_in facts) sender b.taken

-- so it is of some facts
pub record IsTakingOut (b : Buffer) (time : List ℕ) : Type 0 where
  pub seat : Identity
  pub facts : List Fact
  pub sender : ℕ
  pub has : HasTakenOut seat facts sender b time

-- on all facts of which it is so, these are the messages of the singles that come out one after the other
abbrev pub ComeOutOf : Buffer → List ℕ → List Message → Type 0
ComeOutOf b time messages =
    (seat : Identity) (facts : List Fact) (sender : ℕ) → HasTakenOut seat facts sender b time
    → AreNextOf seat.group.size (casts_in facts) sender b.taken messages (expanded_count (casts_in facts) sender)

-- on all facts that the state keeps and that the cast may follow these messages are expanded by it
abbrev pub AreExpandedBy : CastFields → State → List Message → Type 0
AreExpandedBy c state messages =
    (facts : List Fact) → AreFactsOf state.seat (facts ++ CastReceived c ∷ []) → Keeps facts state
    → AreNextOf state.seat.group.size (casts_in (facts ++ CastReceived c ∷ [])) c.sender (expanded_count (casts_in facts) c.sender)
    messages (expanded_count (casts_in (facts ++ CastReceived c ∷ [])) c.sender)
