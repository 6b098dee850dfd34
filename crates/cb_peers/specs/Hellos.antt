-- The first bytes of a connection.
use Rattle.std.specs.Prelude.{◌≡◌, ◌≢◌, ℕ, ◌==◌, ◌&&◌, if◌then◌else◌, List, [], ◌∷◌, ◌++◌, Option, Some, None, Result, Ok, Err, codes, refl}
use Rattle.std.specs.Int.{w32, to_be_bytes}
use Rattle.cb_peers.specs.declared.hello.Hello.{Hello}
use Rattle.cb_peers.specs.declared.hello.Disagreement.{Disagreement}
use Rattle.cb_peers.specs.declared.hello.Disagreement.TheVariants as why

-- a number in four bytes, the highest first
abbrev pub word : ℕ → List ℕ
word n = to_be_bytes w32 n

-- each hello begins with these bytes
abbrev pub mark : List ℕ
mark = codes "jolunza"

abbrev pub version : ℕ
version = 1

-- the numbers of a hello
abbrev pub numbers : Hello → List ℕ
numbers h = word h.from ++ word h.to ++ word h.terms.group ++ word h.terms.size ++ word h.terms.window

-- its bytes
abbrev pub hello_text : Hello → List ℕ
hello_text h = mark ++ version ∷ numbers h

-- member 1 of group 258 calls member 2 of three, in a window of 4
row_call : hello_text (record { from = 1; to = 2; terms = record { group = 258; size = 3; window = 4 } }) ≡ 106 ∷ 111 ∷ 108 ∷ 117 ∷ 110 ∷ 122 ∷ 97 ∷ 1 ∷ 0 ∷ 0 ∷ 0 ∷ 1 ∷ 0 ∷ 0 ∷ 0 ∷ 2 ∷ 0 ∷ 0 ∷ 1 ∷ 2 ∷ 0 ∷ 0 ∷ 0 ∷ 3 ∷ 0 ∷ 0 ∷ 0 ∷ 4 ∷ []
row_call = refl

-- what bytes are read as: a hello only where they are its bytes
abbrev pub Reads : List ℕ → Result Hello Disagreement → Type 0
Reads text (Ok h) = text ≡ hello_text h
Reads text (Err why.NotOurs) = (h : Hello) → text ≢ hello_text h
Reads text (Err why.Version) = (other : ℕ) × (rest : List ℕ) × (text ≡ mark ++ other ∷ rest) × (other ≢ version)
Reads text (Err _) = ⊥

-- why the ends of a connection do not go on with it, of which one says this and the other that
abbrev pub disagreement : Hello → Hello → Option Disagreement
disagreement a b =
    if a.terms.group == b.terms.group then
    (if a.terms.size == b.terms.size then
    (if a.terms.window == b.terms.window then
    (if (a.from == b.to) && (a.to == b.from) then None else Some why.Member)
    else Some why.Window)
    else Some why.Size)
    else Some why.Group

-- the text of a disagreement: its name
abbrev pub disagreement_text : Disagreement → List ℕ
disagreement_text why.NotOurs = codes "NotOurs"
disagreement_text why.Version = codes "Version"
disagreement_text why.Group = codes "Group"
disagreement_text why.Size = codes "Size"
disagreement_text why.Window = codes "Window"
disagreement_text why.Member = codes "Member"
