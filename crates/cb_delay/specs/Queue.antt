-- What a delay queue holds.
use Rattle.std.specs.Prelude.{◌≡◌, ◌≢◌, ℕ, ◌+◌, ◌==◌, ◌<◌, ◌≤◌, ◌↔◌, List, Option, IsSome, Some, count_by, refl, slice_set}
use Rattle.std.specs.Coded.{Coded, code_by, coded×, coded_list, coded_option, coded_ℕ}
use Rattle.std.specs.FinMap as map
use Rattle.cb_times.specs.Order.{field}
use Rattle.cb_times.specs.declared.name.Name.{Name}
use Rattle.cb_delay.specs.declared.message.Message.{Message}
use Rattle.cb_delay.specs.Message.{name_cmp, IsOfGroup}
use Rattle.cb_delay.specs.Rule.{IsReady}

-- the size of the group, how many messages of one sender there is room for, and the messages held, each by its name;
-- how many comparisons with a time were made, and the time at which an answer needs no more of them
pub record Queue : Type 0 where
  pub size : ℕ
  pub window : ℕ
  pub held : map.FinMap name_cmp Message
  pub looked : ℕ
  pub settled : Option (List ℕ)

-- a queue that was just made
pub record IsNew (size window : ℕ) (queue : Queue) : Type 0 where
  pub of_size : queue.size ≡ size
  pub of_window : queue.window ≡ window
  pub empty : queue.held ≡ map.empty
  pub none_looked : queue.looked ≡ 0

-- the queue holds just this now, and its size and window are as they were
pub record Holds (old new : Queue) (held : map.FinMap name_cmp Message) : Type 0 where
  pub size : new.size ≡ old.size
  pub window : new.window ≡ old.window
  pub now_held : new.held ≡ held

abbrev pub IsHeld : Queue → Message → Type 0
IsHeld queue message = map.get queue.held message.name ≡ Some message

-- this message was taken out, and nothing else
abbrev pub Releases : Queue → Queue → Message → Type 0
Releases old new message = Holds old new (map.remove old.held message.name)

-- no message of this sender is held
abbrev pub HoldsNoneOf : Queue → ℕ → Type 0
HoldsNoneOf queue sender = (other : Message) → IsHeld queue other → other.name.sender ≢ sender

-- how many messages of a sender are held
abbrev pub count_of : Queue → ℕ → ℕ
count_of queue sender = count_by (λ name. name.sender == sender) (map.keys queue.held)

-- of the sender's messages held this one has the smallest number
pub record IsFirst (queue : Queue) (sender : ℕ) (first : Message) : Type 0 where
  pub held : IsHeld queue first
  pub of_sender : first.name.sender ≡ sender
  pub least : (other : Message) → IsHeld queue other → other.name.sender ≡ sender → first.name.number ≤ other.name.number

-- and this one the greatest
pub record IsLast (queue : Queue) (sender : ℕ) (last : Message) : Type 0 where
  pub held : IsHeld queue last
  pub of_sender : last.name.sender ≡ sender
  pub greatest : (other : Message) → IsHeld queue other → other.name.sender ≡ sender → other.name.number ≤ last.name.number

-- the name follows that of the last message held of its sender, where one is held
abbrev pub FollowsLast : Queue → Name → Type 0
FollowsLast queue name = (last : Message) → IsLast queue name.sender last → name.number ≡ last.name.number + 1

-- some message held of the sender may be delivered at this time
abbrev pub HasReady : Queue → List ℕ → ℕ → Type 0
HasReady queue now sender =
    (message : Message) × IsHeld queue message × (message.name.sender ≡ sender) × IsReady sender (field message.time) (field now)

-- no message held may be delivered at this time
abbrev pub HasNoneReady : Queue → List ℕ → Type 0
HasNoneReady queue now = (sender : ℕ) → ¬ HasReady queue now sender

-- the time once one more message of this sender is delivered
abbrev pub with_one_more : List ℕ → ℕ → List ℕ
with_one_more now sender = slice_set now sender (field now sender + 1)

-- the name of the message of this sender that comes next at this time
abbrev pub next_name : List ℕ → ℕ → Name
next_name now sender = record { sender = sender; number = field now sender + 1 }

-- of the senders with such a message this one is the smallest
pub record IsSmallestReady (queue : Queue) (now : List ℕ) (sender : ℕ) : Type 0 where
  pub ready : HasReady queue now sender
  pub smallest : (other : ℕ) → other < sender → ¬ HasReady queue now other

-- the numbers held of a sender follow one another
abbrev pub AreInARow : Queue → ℕ → Type 0
AreInARow queue sender =
    (first : ℕ) × ((number : ℕ)
    → IsSome (map.get queue.held (record { sender = sender; number = number })) ↔ ((first ≤ number) × (number < first + count_of queue sender)))

-- what is true of every queue
pub record IsDelayQueue (queue : Queue) : Type 0 where
  pub by_name : (name : Name) (message : Message) → map.get queue.held name ≡ Some message → message.name ≡ name
  pub of_group : (message : Message) → IsHeld queue message → IsOfGroup queue.size message
  pub in_a_row : (sender : ℕ) → AreInARow queue sender
  pub room : (sender : ℕ) → count_of queue sender ≤ queue.window

-- how a queue is stored: its fields as pairs
abbrev pub name_code : Coded Name
name_code = code_by (ℕ × ℕ) (coded× coded_ℕ coded_ℕ) (λ n. (n.sender, n.number)) (λ p. record { sender = p.0; number = p.1 }) (λ _. refl)

abbrev pub message_code : Coded Message
message_code =
    code_by (Name × (List ℕ × List ℕ)) (coded× name_code (coded× (coded_list coded_ℕ) (coded_list coded_ℕ)))
    (λ m. (m.name, (m.time, m.payload))) (λ p. record { name = p.0; time = p.1.0; payload = p.1.1 }) (λ _. refl)

abbrev pub queue_code : Coded Queue
queue_code =
    code_by (ℕ × (ℕ × (map.FinMap name_cmp Message × (ℕ × Option (List ℕ)))))
    (coded× coded_ℕ (coded× coded_ℕ (coded× (map.code name_code message_code) (coded× coded_ℕ (coded_option (coded_list coded_ℕ))))))
    (λ q. (q.size, (q.window, (q.held, (q.looked, q.settled)))))
    (λ p. record { size = p.0; window = p.1.0; held = p.1.1.0; looked = p.1.1.1.0; settled = p.1.1.1.1 }) (λ _. refl)
