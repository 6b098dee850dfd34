-- What one more entry does to the events of a member: earlier ones stay, and others follow.
use Rattle.std.proofs.Common.{◌≡◌, ◌≤◌, List, [], ◌∷◌, ◌++◌, length, take, Option, Some, None, refl, sym, ap, subst, ◌∙◌, arith}
use Rattle.std.specs.List.{AllByRecursion}
use Rattle.std.proofs.lemmas.List.{append-nil, length-append}
use Rattle.std.proofs.lemmas.Grind.{flat_map-append}
use Rattle.std.proofs.Math.Seq.{take-append_seam}
use Rattle.cb_delay.specs.declared.message.Event.{Event}
use Rattle.cb_history.specs.EventLaws.{new_events}
use Rattle.cb_history.specs.Events.{events}
use Rattle.cb_history.specs.Facts.{EntryFields, Fact, facts_of, said_by}
use Rattle.cb_history.specs.Group.{Identity}
use Rattle.cb_history.specs.Legal.{IsLegal, and_entry}
use Rattle.cb_history.specs.LegalFacts.{AreFactsOf}
use Rattle.cb_history.proofs.Happening.{events_with_one_more}
use Rattle.cb_history.proofs.Histories.{each_entry_says_one_fact, legal_histories_say_legal_facts}

last_of : {A : Type 0} (P : A → Type 0) (xs : List A) (x : A) → AllByRecursion P (xs ++ x ∷ []) → P x
last_of P [] x all = all.0
last_of P (y ∷ xs) x all = last_of P xs x all.1

one_of : {A : Type 0} (xs : List A) → length xs ≡ 1 → (x : A) × (xs ≡ x ∷ [])
one_of [] h = absurd cc
one_of (x ∷ []) h = (x, refl)
one_of (x ∷ y ∷ xs) h = absurd (omega (arith, h))

-- the events of these entries
abbrev pub events_of : Identity → List EntryFields → List Event
events_of seat entries = events seat (facts_of entries)

one_more : (seat : Identity) (entries : List EntryFields) (e : EntryFields) → IsLegal seat (entries ++ e ∷ [])
    → (more : List Event) × (events_of seat (entries ++ e ∷ []) ≡ events_of seat entries ++ more)
one_more seat entries e legal =
    let one = one_of (said_by e) (last_of (λ (x : EntryFields). length (said_by x) ≡ 1) entries e (each_entry_says_one_fact seat (entries ++ e ∷ []) legal).0) in
    let facts : facts_of (entries ++ e ∷ []) ≡ facts_of entries ++ one.0 ∷ [] =
    flat_map-append said_by entries (e ∷ []) ∙ ap (λ (fs : List Fact). facts_of entries ++ fs) (append-nil (said_by e) ∙ one.1) in
    let are = subst (AreFactsOf seat) facts (legal_histories_say_legal_facts seat (entries ++ e ∷ []) legal) in
    (new_events seat (facts_of entries) one.0, ap (events seat) facts ∙ events_with_one_more seat (facts_of entries) one.0 are)

pub grows : (seat : Identity) (entries : List EntryFields) (added : Option EntryFields) → IsLegal seat (and_entry entries added)
    → (more : List Event) × (events_of seat (and_entry entries added) ≡ events_of seat entries ++ more)
grows seat entries None legal = ([], sym (append-nil (events_of seat entries)))
grows seat entries (Some e) legal = one_more seat entries e legal

-- so the events are as many or more, and the first of them are those before
pub more_events : (seat : Identity) (entries : List EntryFields) (added : Option EntryFields) → IsLegal seat (and_entry entries added)
    → length (events_of seat entries) ≤ length (events_of seat (and_entry entries added))
more_events seat entries added legal =
    let g = grows seat entries added legal in
    omega (arith, ap length g.1, length-append (events_of seat entries) g.0)

pub first_events : (seat : Identity) (entries : List EntryFields) (added : Option EntryFields) → IsLegal seat (and_entry entries added)
    → take (length (events_of seat entries)) (events_of seat (and_entry entries added)) ≡ events_of seat entries
first_events seat entries added legal =
    let g = grows seat entries added legal in
    ap (take (length (events_of seat entries))) g.1 ∙ take-append_seam (events_of seat entries) g.0

-- the first entries, before one more
pub first_entries : (entries : List EntryFields) (added : Option EntryFields) → take (length entries) (and_entry entries added) ≡ entries
first_entries entries None = ap (take (length entries)) (sym (append-nil entries)) ∙ take-append_seam entries []
first_entries entries (Some e) = take-append_seam entries (e ∷ [])
