-- What stays to be read in front of what a call has added.
use Rattle.std.proofs.Common.{◌≡◌, ◌≢◌, ℕ, ◌==◌, Bool, true, false, List, [], ◌++◌, length, drop, map, Option, refl, sym, ap, subst, ◌∙◌}
use Rattle.std.specs.Prelude.{if◌then◌else◌}
use Rattle.std.proofs.lemmas.Bool.{ne_eqb}
use Rattle.std.proofs.lemmas.List.{drop-map, drop_at}
use Rattle.cb_delay.specs.declared.message.Event.{Event}
use Rattle.cb_history.specs.declared.history.Entry.{Entry}
use Rattle.cb_history.specs.Facts.{EntryFields, entry_fields}
use Rattle.cb_history.specs.Legal.{and_entry}
use Rattle.cb_member.specs.CoreMember.{Core}
use Rattle.cb_member.specs.Kept.{IsHistory, IsKept, Kept}
use Rattle.cb_member.specs.KeptCalls.{behind}
use Rattle.cb_member.proofs.Keeping.{joined}

-- ---- what is left to be read

left_by : {X : Type 0} → (b stays : Bool) (old added all : List X) → all ≡ old ++ added
    → (if b then drop (if stays then 0 else length old) all else all)
    ≡ (if stays then (if b then old else []) ++ (if b then drop (length old) all else all) else (if b then drop (length old) all else all))
left_by true true old added all joins = joins ∙ ap (λ xs. old ++ xs) (sym (ap (drop (length old)) joins ∙ drop_at old added (length old) refl))
left_by true false old added all joins = refl
left_by false true old added all joins = refl
left_by false false old added all joins = refl

pub count_is : {X Y : Type 0} → (stays : Bool) (n : ℕ) (counted : List X) (old : List Y) → n ≡ (if stays then 0 else length counted) → length counted ≡ length old → n ≡ (if stays then 0 else length old)
count_is stays n counted old is same = is ∙ ap (λ (k : ℕ). if stays then 0 else k) same

abbrev pub left : {X : Type 0} → ℕ → List X → List X → List X
left limit old all = if limit == 0 then drop (length old) all else all

-- of the events
pub events_stay : (limit n : ℕ) (stays : Bool) (old added all new : List Event) → new ≡ (if limit == 0 then drop n all else all) → n ≡ (if stays then 0 else length old) → all ≡ old ++ added
    → new ≡ (if stays then (if limit == 0 then old else []) ++ left limit old all else left limit old all)
events_stay limit n stays old added all new is many joins =
    is ∙ ap (λ (k : ℕ). if limit == 0 then drop k all else all) many ∙ left_by (limit == 0) stays old added all joins

fields_left : (b : Bool) (n : ℕ) (all new : List Entry) → new ≡ (if b then drop n all else all) → map entry_fields new ≡ (if b then drop n (map entry_fields all) else map entry_fields all)
fields_left true n all new is = ap (map entry_fields) is ∙ sym (drop-map entry_fields n all)
fields_left false n all new is = ap (map entry_fields) is

-- and of the entries
pub entries_stay : (limit n : ℕ) (stays : Bool) (old : List EntryFields) (all new : List Entry) (entry : Option EntryFields) → new ≡ (if limit == 0 then drop n all else all)
    → n ≡ (if stays then 0 else length old) → map entry_fields all ≡ and_entry old entry
    → map entry_fields new ≡ (if stays then (if limit == 0 then old else []) ++ left limit old (and_entry old entry) else left limit old (and_entry old entry))
entries_stay limit n stays old all new entry is many joins =
    fields_left (limit == 0) n all new is ∙ ap (λ (xs : List EntryFields). if limit == 0 then drop n xs else xs) joins
    ∙ ap (λ (k : ℕ). if limit == 0 then drop k (and_entry old entry) else and_entry old entry) many
    ∙ left_by (limit == 0) stays old (and_entry [] entry) (and_entry old entry) (sym (joined old entry))

pub is_behind : (stays : Bool) (core : Core) (limit : ℕ) (old : Kept) (entries left_entries : List EntryFields) (events left_events : List Event)
    → entries ≡ (if stays then (if limit == 0 then old.entries else []) ++ left_entries else left_entries) → events ≡ (if stays then (if limit == 0 then old.events else []) ++ left_events else left_events)
    → (let new : Kept = record { core = core; limit = limit; entries = entries; events = events } in
    let after : Kept = record { core = core; limit = limit; entries = left_entries; events = left_events } in
    new ≡ (if stays then behind old after else after))
is_behind true core limit old entries left_entries events left_events e v = λ i. record { core = core; limit = limit; entries = e i; events = v i }
is_behind false core limit old entries left_entries events left_events e v = λ i. record { core = core; limit = limit; entries = e i; events = v i }

-- a history that is kept is the one after the call
same_behind : (old after : Kept) → after.limit ≢ 0 → behind old after ≡ after
same_behind old after some = λ i. record {
  core = after.core;
  limit = after.limit;
  entries = (if ne_eqb after.limit 0 some i then old.entries else []) ++ after.entries;
  events = (if ne_eqb after.limit 0 some i then old.events else []) ++ after.events;
}

pub kept_behind : (stays : Bool) (old after new : Kept) → new ≡ (if stays then behind old after else after) → IsKept after → IsKept new
kept_behind false old after new is kept = subst IsKept (sym is) kept
kept_behind true old after new is kept = λ some.
    let over : after.limit ≢ 0 = λ zero. some (ap (λ (k : Kept). k.limit) is ∙ zero) in
    subst IsHistory (sym (is ∙ same_behind old after over)) (kept over)
