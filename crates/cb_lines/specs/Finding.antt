-- What a function answers that reads a word or a line.
use Rattle.std.specs.Prelude.{◌≡◌, ℕ, ◌<◌, ◌^◌, List, [], ◌∷◌, Result, Ok, Err}
use Rattle.std.specs.Fmt.{decimal}
use Rattle.cb_history.specs.Group.{Parameters}
use Rattle.std.specs.List.{AllByRecursion}
use Rattle.hex.specs.Hex.{encode_lower}
use Rattle.cb_times.specs.declared.name.Name.{Name}
use Rattle.cb_lines.specs.Text.{delivered_words}
use Rattle.cb_lines.specs.Bounds.{IsFrame, IsName}
use Rattle.cb_lines.specs.declared.fault.LineFault.{LineFault}
use Rattle.cb_lines.specs.declared.fault.LineFault.TheVariants.{NoLine, NoMemory}

-- nothing that can stand there is spelled so where there is no line; where memory ran out, nothing is known
abbrev pub FindsNone : {A T : Type 0} → (A → Type 0) → (A → T) → T → LineFault → Type 0
FindsNone {A = A} Can spelling given NoLine = (a : A) → Can a → ¬ (given ≡ spelling a)
FindsNone Can spelling given NoMemory = Unit {0}

-- what is found can stand there, and it is spelled as given, the whole of it
abbrev pub Finds : {X A T : Type 0} → (A → Type 0) → (A → T) → (X → A) → T → Result X LineFault → Type 0
Finds Can spelling view given (Ok x) = Can (view x) × (given ≡ spelling (view x))
Finds Can spelling view given (Err fault) = FindsNone Can spelling given fault

-- a number of 32 bits
abbrev pub IsNumber : ℕ → Type 0
IsNumber n = n < 2 ^ 32

-- the three numbers of a group as words
abbrev pub parameter_words : Parameters → List ℕ × List ℕ × List ℕ
parameter_words g = (decimal g.number, decimal g.size, decimal g.window)

-- a frame and the names of what was delivered, and their words
abbrev pub IsArrival : List ℕ × List Name → Type 0
IsArrival a = IsFrame a.0 × AllByRecursion IsName a.1

abbrev pub arrival_words : List ℕ × List Name → List (List ℕ)
arrival_words a = encode_lower a.0 ∷ delivered_words a.1

abbrev pub lone_frame : List ℕ → List (List ℕ)
lone_frame frame = encode_lower frame ∷ []
