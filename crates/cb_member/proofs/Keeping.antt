-- A member goes on by its definition, and what a call has added can be read, beside all that was there before where a history is kept.
use Rattle.std.proofs.Common.{◌≡◌, ◌≢◌, ℕ, ◌==◌, ◌&&◌, not, ◌≤◌, Bool, true, false, List, [], ◌∷◌, ◌++◌, length, drop, map, Option, Some, None, refl, sym, ap, subst, ◌∙◌, arith, inl, inr}
use Rattle.std.specs.Prelude.{if◌then◌else◌, nat_le}
use Rattle.std.proofs.lemmas.Bool.{cases_Bool, ne_eqb}
use Rattle.std.proofs.lemmas.List.{append-nil, drop-map, drop_all, drop_at, length-map}
use Rattle.cb_delay.specs.declared.message.Event.{Event}
use Rattle.cb_history.specs.Events.{events}
use Rattle.cb_history.specs.declared.history.Entry.{Entry}
use Rattle.cb_history.specs.Facts.{EntryFields, entry_fields, facts_of}
use Rattle.cb_history.specs.Group.{Identity}
use Rattle.cb_history.specs.Legal.{Call, and_entry}
use Rattle.cb_history.specs.State.{entry_by, events_in, state_after}
use Rattle.cb_history.specs.View.{view}
use Rattle.cb_member.specs.CoreMember.{Core, GoesOn as CoreGoesOn, StandsFor, grown_by, unlimited}
use Rattle.cb_member.specs.Kept.{IsKept, Kept, OnEach, Stands, gone, limit_for, state_with}
use Rattle.cb_member.specs.KeptCalls.{GoesOn}
use Rattle.cb_member.proofs.Limits.{is_some}

-- a call has added this entry, if any, and events behind those that were there; without a history those of before are gone
pub record Adds (call : Call) (old new : Kept) (after : List Event) (entry : Option EntryFields) : Type 0 where
  pub kept : IsKept old
  pub goes : CoreGoesOn call old.core new.core
  pub limit : new.limit ≡ old.limit
  pub events_are : new.events ≡ (if old.limit == 0 then drop (length old.events) after else after)
  pub entries_are : new.entries ≡ (if old.limit == 0 then drop (length old.entries) (and_entry old.entries entry) else and_entry old.entries entry)
  pub adds : (es : List EntryFields) → StandsFor es old.core
      → (added : List Event) × (after ≡ old.events ++ added) × (events_in (unlimited old.core.seat es) ++ added ≡ events_in (state_after (unlimited old.core.seat es) call))
  pub noted : (es : List EntryFields) → StandsFor es old.core → entry_by (unlimited old.core.seat es) call ≡ entry
  pub same : OnEach old (λ m. entry_by m call ≡ entry)
  pub fits : old.limit ≢ 0 → length (and_entry old.entries entry) ≤ old.limit

pub joined : (es : List EntryFields) (o : Option EntryFields) → es ++ and_entry [] o ≡ and_entry es o
joined es None = append-nil es
joined es (Some e) = refl

pub no_events : (seat : Identity) → events seat [] ≡ []
unfolding view
no_events seat = refl

pub new_is_kept : (core : Core) (limit : ℕ) (entries : List Entry) (told : List Event) → StandsFor [] core → entries ≡ [] → told ≡ []
    → IsKept (record { core = core; limit = limit; entries = map entry_fields entries; events = told })
new_is_kept core limit entries told empty none silent some = rw (none, silent) (record { stands = empty; events_are = sym (no_events core.seat); few = omega arith })

pub full_is : (limit : ℕ) (entries : List Entry) (full b : Bool) → full ≡ (not (limit == 0) && nat_le limit (length entries)) → full ≡ b → (not (limit == 0) && nat_le limit (length (map entry_fields entries))) ≡ b
full_is limit entries full b is on = ap (λ (n : ℕ). not (limit == 0) && nat_le limit n) (length-map entries entry_fields) ∙ sym is ∙ on

-- what is left of the events and of the entries
pub events_left : (limit n : ℕ) (old after new : List Event) → new ≡ (if limit == 0 then drop n after else after) → n ≡ length old → new ≡ (if limit == 0 then drop (length old) after else after)
events_left limit n old after new are many = are ∙ ap (λ (k : ℕ). if limit == 0 then drop k after else after) many

pub entries_left : (limit n : ℕ) (old before after new : List Entry) (entry : Option EntryFields) → new ≡ (if limit == 0 then drop n after else after) → map entry_fields after ≡ and_entry (map entry_fields before) entry
    → before ≡ old → n ≡ length before
    → map entry_fields new ≡ (if limit == 0 then drop (length (map entry_fields old)) (and_entry (map entry_fields old) entry) else and_entry (map entry_fields old) entry)
entries_left limit n old before after new entry are joins same many = left (limit == 0) are
  where
    all : map entry_fields after ≡ and_entry (map entry_fields old) entry
    all = joins ∙ ap (λ (xs : List Entry). and_entry (map entry_fields xs) entry) same

    count : n ≡ length (map entry_fields old)
    count = many ∙ ap (λ (xs : List Entry). length xs) same ∙ sym (length-map old entry_fields)

    left : (b : Bool) → new ≡ (if b then drop n after else after) → map entry_fields new ≡ (if b then drop (length (map entry_fields old)) (and_entry (map entry_fields old) entry) else and_entry (map entry_fields old) entry)
    left true e =
        ap (map entry_fields) e ∙ sym (drop-map entry_fields n after) ∙ ap (drop n) all ∙ ap (λ (k : ℕ). drop k (and_entry (map entry_fields old) entry)) count
    left false e = ap (map entry_fields) e ∙ all

-- behind what was there is the entry, if any
entry_alone : (es : List EntryFields) (entry : Option EntryFields) → drop (length es) (and_entry es entry) ≡ and_entry [] entry
entry_alone es None = drop_all (length es) es (omega arith)
entry_alone es (Some e) = drop_at es (e ∷ []) (length es) refl

module _ (call : Call) (old new : Kept) (after : List Event) (entry : Option EntryFields) (a : Adds call old new after entry) where
  abbrev seat : Identity
  seat = old.core.seat

  kept_before : new.limit ≢ 0 → old.limit ≢ 0
  kept_before some zero = some (a.limit ∙ zero)

  entered : (es : List EntryFields) → Stands old es → (state_after (state_with old es) call).entries ≡ and_entry es entry
  entered es st = ap (and_entry es) (a.same es st)

  grown : (es : List EntryFields) → StandsFor es old.core → grown_by seat es call ≡ and_entry es entry
  grown es s = ap (and_entry es) (a.noted es s)

  stands_then : (es : List EntryFields) → StandsFor es old.core → StandsFor (and_entry es entry) new.core
  stands_then es s = subst (λ (xs : List EntryFields). StandsFor xs new.core) (grown es s) (a.goes.stands es s)

  all_entries : (old.limit == 0) ≡ false → new.entries ≡ and_entry old.entries entry
  all_entries some = a.entries_are ∙ ap (λ (b : Bool). if b then drop (length old.entries) (and_entry old.entries entry) else and_entry old.entries entry) some

  last_entry : (old.limit == 0) ≡ true → new.entries ≡ and_entry [] entry
  last_entry zero =
      a.entries_are ∙ ap (λ (b : Bool). if b then drop (length old.entries) (and_entry old.entries entry) else and_entry old.entries entry) zero ∙ entry_alone old.entries entry

  all_events : (old.limit == 0) ≡ false → new.events ≡ after
  all_events some = a.events_are ∙ ap (λ (b : Bool). if b then drop (length old.events) after else after) some

  last_events : (added : List Event) → after ≡ old.events ++ added → (old.limit == 0) ≡ true → new.events ≡ added
  last_events added joins zero =
      a.events_are ∙ ap (λ (b : Bool). if b then drop (length old.events) after else after) zero ∙ ap (drop (length old.events)) joins ∙ drop_at old.events added (length old.events) refl

  gone_so : {X : Type 0} → (xs : List X) (b : Bool) → (old.limit == 0) ≡ b → gone new xs ≡ (if b then xs else [])
  gone_so xs b is = ap (λ (n : ℕ). if n == 0 then xs else []) a.limit ∙ ap (λ (b : Bool). if b then xs else []) is

  now_events : (es : List EntryFields) (st : Stands old es) → events_in (state_after (unlimited seat es) call) ≡ events_in (state_after (state_with old es) call)
  now_events es st = ap (λ (xs : List EntryFields). events seat (facts_of xs)) (grown es st.stands ∙ sym (entered es st))

  events_go_on : OnEach old (λ m. gone new (events_in m) ++ new.events ≡ events_in (state_after m call))
  events_go_on es st =
      let before : List Event = events seat (facts_of es) in
      let more = a.adds es st.stands in
      elim (cases_Bool (old.limit == 0)) [
        | inl zero ↦
            ap (λ (xs : List Event). xs ++ new.events) (gone_so before true zero) ∙ ap (λ (xs : List Event). before ++ xs) (last_events more.0 more.1 zero) ∙ more.2 ∙ now_events es st
        | inr some ↦
            let is : old.events ≡ before = (a.kept (is_some old.limit some)).events_are ∙ ap (λ (xs : List EntryFields). events seat (facts_of xs)) (sym (st.are_kept (is_some old.limit some))) in
            ap (λ (xs : List Event). xs ++ new.events) (gone_so before false some) ∙ all_events some ∙ more.1 ∙ ap (λ (xs : List Event). xs ++ more.0) is ∙ more.2 ∙ now_events es st
      ]

  entries_go_on : OnEach old (λ m. gone new m.entries ++ new.entries ≡ (state_after m call).entries)
  entries_go_on es st = elim (cases_Bool (old.limit == 0)) [
    | inl zero ↦ ap (λ (xs : List EntryFields). xs ++ new.entries) (gone_so es true zero) ∙ ap (λ (xs : List EntryFields). es ++ xs) (last_entry zero) ∙ joined es entry ∙ sym (entered es st)
    | inr some ↦
        ap (λ (xs : List EntryFields). xs ++ new.entries) (gone_so es false some) ∙ all_entries some
        ∙ ap (λ (xs : List EntryFields). and_entry xs entry) (sym (st.are_kept (is_some old.limit some))) ∙ sym (entered es st)
  ]

  pub goes_on : GoesOn call old new
  goes_on = record {
    seat = a.goes.seat;
    limit = λ es. ap (λ (n : ℕ). limit_for n es) a.limit;
    stands = λ es st. record {
      stands = subst (λ (xs : List EntryFields). StandsFor xs new.core) (sym (entered es st)) (stands_then es st.stands);
      are_kept = λ some. entered es st ∙ ap (λ (xs : List EntryFields). and_entry xs entry) (st.are_kept (kept_before some))
          ∙ sym (all_entries (ne_eqb old.limit 0 (kept_before some)));
    };
    events = events_go_on;
    entries = entries_go_on;
  }

  pub is_kept : IsKept new
  is_kept some =
      let history = a.kept (kept_before some) in
      let all = all_entries (ne_eqb old.limit 0 (kept_before some)) in
      let more = a.adds old.entries history.stands in
      record {
        stands = subst (λ (xs : List EntryFields). StandsFor xs new.core) (sym all) (stands_then old.entries history.stands);
        events_are = all_events (ne_eqb old.limit 0 (kept_before some)) ∙ more.1 ∙ ap (λ (xs : List Event). xs ++ more.0) history.events_are ∙ more.2
            ∙ ap (λ (xs : List EntryFields). events seat (facts_of xs)) (grown old.entries history.stands ∙ sym all)
            ∙ ap (λ (i : Identity). events i (facts_of new.entries)) (sym a.goes.seat);
        few = subst (λ (xs : List EntryFields). length xs ≤ new.limit) (sym all) (subst (λ (n : ℕ). length (and_entry old.entries entry) ≤ n) (sym a.limit) (a.fits (kept_before some)));
      }
