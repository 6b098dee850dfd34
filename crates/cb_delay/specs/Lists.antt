-- How the plain queue keeps its messages: a list for each sender, in the order of the numbers.
use Rattle.std.specs.Prelude.{◌≡◌, ℕ, suc, ◌≤◌, List, [], ◌∷◌, ◌++◌, length, map, slice_index_or, Any, Option, None}
use Rattle.std.specs.FinMap.{from_sorted}
use Rattle.cb_times.specs.declared.name.Name.{Name}
use Rattle.cb_delay.specs.declared.message.Message.{Message}
use Rattle.cb_delay.specs.Message.{IsOfGroup}
use Rattle.cb_delay.specs.Queue.{Queue}
use Rattle.cb_delay.specs.Rule.{IsReady}
use Rattle.cb_times.specs.Group.{IsGroupSize, IsWindow}
use Rattle.cb_times.specs.Order.{field}

abbrev pub entries_of : List Message → List (Name × Message)
entries_of messages = map (λ m. (m.name, m)) messages

abbrev pub all_entries : List (List Message) → List (Name × Message)
all_entries [] = []
all_entries (list ∷ lists) = entries_of list ++ all_entries lists

-- the sender's messages with these numbers, from this one on
abbrev pub IsRunFrom : ℕ → ℕ → ℕ → List Message → Type 0
IsRunFrom size sender number [] = Unit {0}
IsRunFrom size sender number (m ∷ list) =
    (m.name.sender ≡ sender) × (m.name.number ≡ number) × IsOfGroup size m × IsRunFrom size sender (suc number) list

abbrev pub IsRun : ℕ → ℕ → List Message → Type 0
IsRun size sender list = (first : ℕ) × IsRunFrom size sender first list

-- the list of each sender, none for a sender that the group lacks
abbrev pub list_of : List (List Message) → ℕ → List Message
list_of lists sender = slice_index_or lists sender []

pub record AreLists (window : ℕ) (lists : List (List Message)) : Type 0 where
  pub group : IsGroupSize (length lists)
  pub width : IsWindow window
  pub runs : (sender : ℕ) → IsRun (length lists) sender (list_of lists sender)
  pub room : (sender : ℕ) → length (list_of lists sender) ≤ window

-- the queue that the lists are, but for its looks
abbrev pub queue_of : ℕ → List (List Message) → Queue
queue_of window lists = record { size = length lists; window = window; held = from_sorted (all_entries lists); looked = 0; settled = None }

-- the queue with these looks
abbrev pub with_looks : Queue → ℕ → Option (List ℕ) → Queue
with_looks queue looked settled = record queue { looked = looked; settled = settled }

-- a message of this sender's list may be delivered at this time
abbrev pub HasSomeReady : ℕ → List ℕ → List Message → Type 0
HasSomeReady sender now list = Any (λ message. IsReady sender (field message.time) (field now)) list
