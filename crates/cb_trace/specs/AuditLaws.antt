-- The laws of joint orders.
use Rattle.std.specs.Prelude.{◌≡◌, ℕ, List}
use Rattle.cb_schedules.specs.Schedule.{Setting, Schedule, run}
use Rattle.cb_trace.specs.JointOrder.{Histories, IsOrder, IsJointOrder, IsGreedy, IsStuck}
use Rattle.cb_trace.specs.JointRun.{AreStepsOf, AreLegalWithin}

-- taking the smallest member each time makes an order
abbrev pub GreedyOrdersAreOrders : Type 0
GreedyOrdersAreOrders = (histories : Histories) (order : List ℕ) → IsGreedy histories order → IsOrder histories order

-- An order in which no entry may go is a joint order, if there is any: taking an entry early never hurts.
abbrev pub JointOrderIsFound : Type 0
JointOrderIsFound = (histories : Histories) (order joint : List ℕ)
    → IsOrder histories order → IsStuck histories order → IsJointOrder histories joint → IsJointOrder histories order

-- there is one that takes the smallest member each time, up to where none may go
abbrev pub OneGreedyOrder : Type 0
OneGreedyOrder = (histories : Histories) (order other : List ℕ)
    → IsGreedy histories order → IsStuck histories order → IsGreedy histories other → IsStuck histories other → order ≡ other

-- The run of a joint order's steps has exactly these histories.
abbrev pub RunHasTheHistories : Type 0
RunHasTheHistories = (setting : Setting) (histories : Histories) (order : List ℕ) (steps : Schedule)
    → AreLegalWithin setting histories → IsJointOrder histories order → AreStepsOf setting histories order steps
    → (k : ℕ) → (run setting steps).histories k ≡ histories k
