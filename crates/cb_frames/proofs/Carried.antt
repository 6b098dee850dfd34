-- The messages of a cast: one for each number from its first to its last.
use Rattle.std.proofs.Common.{◌≡◌, ℕ, ◌+◌, ◌<◌, ◌≤◌, List, [], ◌∷◌, length, refl, sym, ap, ◌∙◌, arith, inl, inr, ◌⊎◌}
use Rattle.std.proofs.lemmas.Bool.{cases_eq}
use Rattle.cb_frames.specs.declared.frame.Cast.{Cast}
use Rattle.cb_frames.specs.declared.frame.Burst.{Burst}
use Rattle.cb_frames.specs.declared.frame.Unit.{Unit as Carrying}
use Rattle.cb_frames.specs.declared.frame.Unit.TheVariants as units
use Rattle.cb_frames.specs.Fields.{Load, One, Many, IsOne, IsSome, load_bytes, payloads_of, numbered, last_from, CastFields, Carried, cast_fields, burst_fields, unit_fields, messages_of, first_number, last_number}
use Rattle.cb_frames.specs.Carrying.{AreNumberedFrom, FirstIsTheNumber, CarriedInOrder, CarriedUpToTheLast, CarriesSome, CarriesNoMore, CarriesFew, IsNumberedCast, IsNumbered}
use Rattle.cb_frames.specs.declared.frame.TheConstants.{LAST_NUMBER, MOST_MESSAGES}
use Rattle.cb_frames.specs.Text.{KeepsLoadRules, KeepsCastRules}

pub first_is_number : FirstIsTheNumber
unfolding first_number
first_is_number c = refl

-- ---- payloads that are numbered one after another

numbered_in_order : (sender n : ℕ) (payloads : List (List ℕ)) → AreNumberedFrom sender n (numbered sender n payloads)
numbered_in_order sender n [] = tt
numbered_in_order sender n (payload ∷ payloads) = (refl, refl, numbered_in_order sender (n + 1) payloads)

as_many_as_payloads : (sender n : ℕ) (payloads : List (List ℕ)) → length (numbered sender n payloads) ≡ length payloads
as_many_as_payloads sender n [] = refl
as_many_as_payloads sender n (payload ∷ payloads) = omega (arith, as_many_as_payloads sender (n + 1) payloads)

numbered_up_to_the_last : (n : ℕ) (payloads : List (List ℕ)) → 1 ≤ length payloads → length payloads + n ≡ last_from n payloads + 1
numbered_up_to_the_last n [] some = absurd (omega (arith, some))
numbered_up_to_the_last n (payload ∷ []) some = omega arith
numbered_up_to_the_last n (payload ∷ next ∷ payloads) some = omega (arith, numbered_up_to_the_last (n + 1) (next ∷ payloads) (omega arith))

-- ---- what a load carries

-- a load of one payload carries some, and no more than one
pub one_has_some : (load : Load) → IsOne load → IsSome load
one_has_some (One payload) one = omega arith
one_has_some (Many payloads) one = absurd one

pub load_has_one : (load : Load) → IsOne load → length (payloads_of load) ≡ 1
load_has_one (One payload) one = refl
load_has_one (Many payloads) one = absurd one

-- which is all of its bytes
pub one_load : (load : Load) → IsOne load → load ≡ One (load_bytes load)
one_load (One payload) one = refl
one_load (Many payloads) one = absurd one

-- a load that keeps the rules carries some payloads and not too many
load_is_carried : (first : ℕ) (load : Load) → KeepsLoadRules first load → (1 ≤ length (payloads_of load)) × (length (payloads_of load) ≤ MOST_MESSAGES) × (first ≤ LAST_NUMBER → first + length (payloads_of load) ≤ LAST_NUMBER + 1)
load_is_carried first (One payload) rules = (omega arith, omega arith, λ small. omega (arith, small))
load_is_carried first (Many payloads) rules = (rules.some, rules.few, λ small. rules.last)

-- ---- the laws of the messages of a cast

pub carried_in_order : CarriedInOrder
unfolding messages_of first_number
carried_in_order c = numbered_in_order c.sender c.number (payloads_of c.load)

-- as many messages as payloads
pub carries_payloads : (c : CastFields) → length (messages_of c) ≡ length (payloads_of c.load)
unfolding messages_of
carries_payloads c = as_many_as_payloads c.sender c.number (payloads_of c.load)

pub carried_up_to_the_last : CarriedUpToTheLast
unfolding first_number last_number
carried_up_to_the_last c some = omega (arith, carries_payloads c, numbered_up_to_the_last c.number (payloads_of c.load) some)

pub carries_some : CarriesSome
carries_some c some = omega (arith, some, carried_up_to_the_last c some, carries_payloads c)

pub carries_no_more : CarriesNoMore
carries_no_more c one = omega (arith, carried_up_to_the_last c (one_has_some c.load one), carries_payloads c, load_has_one c.load one)

pub carries_few : CarriesFew
carries_few c rules =
    let load = load_is_carried c.number c.load rules.load in
    record {
      some = load.0;
      few = omega (arith, load.1, carries_payloads c);
      last = λ small. omega (arith, load.2 small, carried_up_to_the_last c load.0, carries_payloads c, first_is_number c);
    }

one_numbered : (sender n : ℕ) (load : Load) → IsOne load → numbered sender n (payloads_of load) ≡ record { sender = sender; number = n; payload = load_bytes load } ∷ []
one_numbered sender n (One payload) one = refl
one_numbered sender n (Many payloads) one = absurd one

-- the one message that a cast carries, and its number, which is the last one too
pub carries_one : (c : CastFields) → IsOne c.load → messages_of c ≡ record { sender = c.sender; number = c.number; payload = load_bytes c.load } ∷ []
unfolding messages_of
carries_one c one = one_numbered c.sender c.number c.load one

pub last_is_first : (c : CastFields) → IsOne c.load → last_number c ≡ first_number c
last_is_first c one = omega (arith, carries_some c (one_has_some c.load one), carries_no_more c one)

pub last_is_number : (c : CastFields) → IsOne c.load → last_number c ≡ c.number
last_is_number c one = omega (arith, last_is_first c one, first_is_number c)

-- ---- what a unit says of its numbers

pub cast_ends : (cast : Cast) → cast.number ≡ last_number (cast_fields cast)
cast_ends cast = omega (arith, last_is_number (cast_fields cast) tt)

pub burst_ends : (burst : Burst) → IsSome (burst_fields burst).load → burst.first + length burst.payloads.items ≡ last_number (burst_fields burst) + 1
burst_ends burst some =
    omega (arith, carries_payloads (burst_fields burst), carried_up_to_the_last (burst_fields burst) some, first_is_number (burst_fields burst))

-- a unit is numbered where its fields are
pub fields_numbered : (u : Carrying) → IsNumberedCast (unit_fields u) → IsNumbered u
fields_numbered (units.One cast) numbered = tt
fields_numbered (units.Many burst) numbered = numbered

-- as are those that keep the rules and begin with a number
pub rules_number : (c : CastFields) → KeepsCastRules c → c.number ≤ LAST_NUMBER → IsNumberedCast c
rules_number c rules small = let carried = carries_few c rules in (carried.some, carried.last small)

-- its first number is then no greater than its last
pub numbered_filled : (u : Carrying) → IsNumbered u → first_number (unit_fields u) ≤ last_number (unit_fields u)
numbered_filled (units.One cast) numbered = carries_some (cast_fields cast) (omega arith)
numbered_filled (units.Many burst) numbered = carries_some (burst_fields burst) numbered.0

-- ---- messages that are numbered one after another

-- an element of a list
abbrev pub IsIn : {A : Type 0} → A → List A → Type 0
IsIn a [] = ⊥
IsIn a (x ∷ xs) = (a ≡ x) ⊎ IsIn a xs

-- a message among those of the sender that are numbered from n up to before `end`
pub record IsWithin (sender n end : ℕ) (m : Carried) : Type 0 where
  pub sender_is : m.sender ≡ sender
  pub low : n ≤ m.number
  pub high : m.number < end

pub row_within : (sender n : ℕ) (ms : List Carried) (m : Carried) → AreNumberedFrom sender n ms → IsIn m ms → IsWithin sender n (n + length ms) m
row_within sender n [] m row there = absurd there
row_within sender n (x ∷ ms) m row (inl same) =
    let number : m.number ≡ n = ap (λ (y : Carried). y.number) same ∙ row.1 in
    record { sender_is = ap (λ (y : Carried). y.sender) same ∙ row.0; low = omega (arith, number); high = omega (arith, number) }
row_within sender n (x ∷ ms) m row (inr later) =
    let rest = row_within sender (n + 1) ms m row.2 later in
    let low = rest.low in
    let high = rest.high in
    record { sender_is = rest.sender_is; low = omega (arith, low); high = omega (arith, high) }

-- the message with a number
pub record HasNumber (ms : List Carried) (sender number : ℕ) : Type 0 where
  pub found : Carried
  pub there : IsIn found ms
  pub sender_is : found.sender ≡ sender
  pub number_is : found.number ≡ number

pub row_has : (sender n : ℕ) (ms : List Carried) (number : ℕ) → AreNumberedFrom sender n ms → n ≤ number → number < n + length ms → HasNumber ms sender number
row_has sender n [] number row low high = absurd (omega arith)
row_has sender n (x ∷ ms) number row low high =
    elim (cases_eq number n) [
      | inl e ↦ record { found = x; there = inl refl; sender_is = row.0; number_is = row.1 ∙ sym e }
      | inr ne ↦
          let rest = row_has sender (n + 1) ms number row.2 (omega (arith, low, ne)) (omega (arith, high)) in
          record { found = rest.found; there = inr rest.there; sender_is = rest.sender_is; number_is = rest.number_is }
    ]

-- no two have one number
pub row_once : (sender n : ℕ) (ms : List Carried) (m x : Carried) → AreNumberedFrom sender n ms → IsIn m ms → IsIn x ms → m.number ≡ x.number → m ≡ x
row_once sender n [] m x row there here same = absurd there
row_once sender n (y ∷ ms) m x row (inl a) (inl b) same = a ∙ sym b
row_once sender n (y ∷ ms) m x row (inl a) (inr later) same =
    let number : m.number ≡ n = ap (λ (z : Carried). z.number) a ∙ row.1 in
    let low = (row_within sender (n + 1) ms x row.2 later).low in
    absurd (omega (arith, number, low, same))
row_once sender n (y ∷ ms) m x row (inr later) (inl b) same =
    let number : x.number ≡ n = ap (λ (z : Carried). z.number) b ∙ row.1 in
    let low = (row_within sender (n + 1) ms m row.2 later).low in
    absurd (omega (arith, number, low, same))
row_once sender n (y ∷ ms) m x row (inr a) (inr b) same = row_once sender (n + 1) ms m x row.2 a b same

-- ---- the messages of a cast

-- a message of a cast is of its sender, and its number lies between the first and the last
pub record IsOfCast (c : CastFields) (m : Carried) : Type 0 where
  pub sender_is : m.sender ≡ c.sender
  pub low : first_number c ≤ m.number
  pub high : m.number ≤ last_number c

-- a cast that carries a message carries some
pub carries_some_message : (c : CastFields) (m : Carried) → IsIn m (messages_of c) → IsSome c.load
carries_some_message c m there =
    let is = row_within c.sender (first_number c) (messages_of c) m (carried_in_order c) there in
    let low = is.low in
    let high = is.high in
    omega (arith, low, high, carries_payloads c)

pub carried_is_of_cast : (c : CastFields) (m : Carried) → IsIn m (messages_of c) → IsOfCast c m
carried_is_of_cast c m there =
    let within = row_within c.sender (first_number c) (messages_of c) m (carried_in_order c) there in
    let high = within.high in
    record { sender_is = within.sender_is; low = within.low; high = omega (arith, high, carried_up_to_the_last c (carries_some_message c m there)) }

-- each number from the first to the last has a message
pub each_number_is_carried : (c : CastFields) (number : ℕ) → IsSome c.load → first_number c ≤ number → number ≤ last_number c → HasNumber (messages_of c) c.sender number
each_number_is_carried c number some low high =
    row_has c.sender (first_number c) (messages_of c) number (carried_in_order c) low (omega (arith, high, carried_up_to_the_last c some))

-- and only one
pub carried_once : (c : CastFields) (m x : Carried) → IsIn m (messages_of c) → IsIn x (messages_of c) → m.number ≡ x.number → m ≡ x
carried_once c m x there here same = row_once c.sender (first_number c) (messages_of c) m x (carried_in_order c) there here same

-- the first message, and the last
pub first_is_carried : (c : CastFields) → IsSome c.load → HasNumber (messages_of c) c.sender (first_number c)
first_is_carried c some = each_number_is_carried c (first_number c) some (omega arith) (carries_some c some)

pub last_is_carried : (c : CastFields) → IsSome c.load → HasNumber (messages_of c) c.sender (last_number c)
last_is_carried c some = each_number_is_carried c (last_number c) some (carries_some c some) (omega arith)

-- where a cast carries one message, each of them is the same one
pub carried_alone : (c : CastFields) (m x : Carried) → IsOne c.load → IsIn m (messages_of c) → IsIn x (messages_of c) → m ≡ x
carried_alone c m x one there here =
    let a = carried_is_of_cast c m there in
    let b = carried_is_of_cast c x here in
    let low = a.low in
    let high = a.high in
    let from = b.low in
    let upto = b.high in
    carried_once c m x there here (omega (arith, low, high, from, upto, carries_no_more c one))
