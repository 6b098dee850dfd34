-- What a node makes its member do: one call after the other, and of each answer what is to be sent.
use Rattle.std.specs.Prelude.{◌≡◌, ◌⊎◌, ℕ, List, [], ◌∷◌, ◌++◌, Some, None, Ok}
use Rattle.cb_frames.specs.Fields.{Load}
use Rattle.cb_history.specs.declared.answer.ArriveRefusal.{ArriveRefusal}
use Rattle.cb_history.specs.declared.answer.ArriveRefusal.TheVariants as arrivals
use Rattle.cb_history.specs.declared.answer.BurstDone.{BurstDone}
use Rattle.cb_history.specs.declared.answer.CastDone.{CastDone}
use Rattle.cb_history.specs.declared.answer.Outgoing.{Outgoing}
use Rattle.cb_history.specs.declared.answer.Ticked.{Ticked}
use Rattle.cb_history.specs.State.{MemberState, HasCast, HasCastBurst, HasTicked, RefusesArrival, answer_to_help}
use Rattle.cb_member.specs.Received.{HasTakenToSend}
use Rattle.cb_node.specs.declared.refused.Refused.{Refused}
use Rattle.cb_node.specs.Refusing.{with_refusal}

-- a frame for all others
abbrev pub to_all : List ℕ → Outgoing
to_all bytes = record { to = None; bytes = bytes }

-- One call of the member: what it holds before and after it, and what it answered to be sent. A cast's frame goes to all others.
pub data HasAnswered : MemberState → MemberState → List Outgoing → Type 0 where
  Casts : (old new : MemberState) (load : Load) (done : CastDone) → HasCast old new load done → HasAnswered old new (to_all done.out ∷ [])
  Bursts : (old new : MemberState) (load : Load) (done : BurstDone) → HasCastBurst old new load done → HasAnswered old new (to_all done.out ∷ [])
  Takes : (old new : MemberState) (bytes : List ℕ) (out : List Outgoing) → HasTakenToSend old new bytes out → HasAnswered old new out
  Ticks : (old new : MemberState) (ticked : Ticked) → HasTicked old new ticked → HasAnswered old new ticked.out.items
  Asks : (m : MemberState) (i : ℕ) (help : Outgoing) → answer_to_help m i ≡ Ok (Some help) → HasAnswered m m (help ∷ [])

-- received bytes were refused; there may be no memory to post what would be sent in answer
abbrev pub MayRefuse : MemberState → List ℕ → ArriveRefusal → Type 0
MayRefuse m bytes refusal = RefusesArrival m bytes refusal ⊎ (refusal ≡ arrivals.NoMemory)

-- the member, what is to be sent of its answers, in their order, and how many frames it refused
pub record Work : Type 0 where
  pub member : MemberState
  pub post : List Outgoing
  pub refused : Refused

-- From one to the other: each answer of the member joins what is to be sent, all of it, and each refusal is counted.
pub data Goes : Work → Work → Type 0 where
  Stays : (w : Work) → Goes w w
  Answers : (w v : Work) (new : MemberState) (out : List Outgoing) → Goes w v → HasAnswered v.member new out → Goes w (record { member = new; post = v.post ++ out; refused = v.refused })
  Refuses : (w v : Work) (bytes : List ℕ) (refusal : ArriveRefusal) → Goes w v → MayRefuse v.member bytes refusal → Goes w (record { member = v.member; post = v.post; refused = with_refusal v.refused refusal })
