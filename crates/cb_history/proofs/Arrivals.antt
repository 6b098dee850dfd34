-- Which casts are there after one came.
use Rattle.std.proofs.Common.{◌≡◌, ℕ, true, not, ◌↔◌, eqb, ltb, List, [], ◌∷◌, ◌++◌, Result, Ok, Err, refl, sym, ap, subst, ◌∙◌, arith, inl, inr}
use Rattle.std.specs.Prelude.{IsOk}
use Rattle.std.specs.List.{list_all}
use Rattle.std.proofs.lemmas.Bool.{cond_both, eq-eqb, eqb-true, ltb-true, and_parts, both_ways, not_from_true}
use Rattle.cb_times.specs.declared.name.Name.{Name}
use Rattle.cb_frames.specs.declared.fault.FrameFault.{FrameFault}
use Rattle.cb_frames.specs.Fields.{IsSome, CastFields, FrameFields, CastFrame, messages_of, last_number}
use Rattle.cb_frames.proofs.Carried.{last_is_carried}
use Rattle.cb_history.specs.Read.{frame_read}
use Rattle.cb_history.specs.declared.answer.ArriveRefusal.{ArriveRefusal}
use Rattle.cb_history.specs.declared.answer.ArriveRefusal.TheVariants as arrivals
use Rattle.cb_history.specs.Group.{Identity, IsIdentity}
use Rattle.cb_history.specs.Facts.{EntryFields, ArriveEntry, Fact, OwnCast, CastReceived, StatusReceived, OwnStatus, facts_of, casts_in, cast_in, messages_in, is_there}
use Rattle.cb_history.specs.View.{is_among}
use Rattle.cb_history.specs.Answers.{is_full, delivered, are_members, is_impossible, is_repeat, is_overlap, is_too_far, ArrivalSays, frame_answer, answer_to, arrive_answer}
use Rattle.cb_history.specs.Legal.{arrive_entry, and_entry}
use Rattle.cb_history.specs.LegalFacts.{IsStep, AreLegalFacts, NoFacts, OneFactMore, AreFactsOf}
use Rattle.cb_history.specs.OwnFrameLaws.{IsOfTheGroup}
use Rattle.cb_history.specs.Singles.{singles_in}
use Rattle.cb_history.specs.ArrivalLaws.{AreThere, AcceptedIsThere, ThereStays, CastsAreOfTheGroup, SinglesAreOfTheGroup}
use Rattle.cb_history.proofs.Views.{IsIn, casts_in-append}
use Rattle.cb_history.proofs.Lists.{flat_map-append, in_append, in_one, in_casts_back, all_of, each_of, in_is_among}
use Rattle.cb_history.proofs.Rising.{there_more}
use Rattle.cb_history.proofs.Histories.{said_facts}
use Rattle.cb_history.proofs.ReadBack.{read_loads_fit}
use Rattle.cb_history.proofs.OwnFrames.{own_casts_are_of_the_group}
use Rattle.cb_history.proofs.Singles.{IsOf, frame_of_single}
use Rattle.cb_history.proofs.Buffers.{cast_of_is_in, in_is_cast_of}
use Rattle.cb_history.proofs.Runs.{own_is_delivered}

pub there_stays : ThereStays
there_stays facts more i n there =
    subst (λ (cs : List CastFields). is_there cs i n ≡ true) (sym (flat_map-append cast_in facts more)) (there_more (casts_in facts) (casts_in more) i n there)

-- ---- one call

-- after an answer the cast is there exactly where it was not refused
abbrev IsRight : List EntryFields → List ℕ → CastFields → Result ArrivalSays ArriveRefusal → Type 0
IsRight entries bytes c r = IsOk r ↔ AreThere (casts_in (facts_of (and_entry entries (arrive_entry bytes r)))) c

refused : (entries : List EntryFields) (bytes : List ℕ) (c : CastFields) (e : ArriveRefusal) → (AreThere (casts_in (facts_of entries)) c → ⊥) → IsRight entries bytes c (Err e)
refused entries bytes c e none = ((λ ok. absurd cc), (λ there. absurd (none there)))

taken_is_there : (entries : List EntryFields) (bytes : List ℕ) (names : List Name) (c : CastFields) → frame_read bytes ≡ Ok (CastFrame c) → AreThere (casts_in (facts_of (entries ++ ArriveEntry bytes names ∷ []))) c
taken_is_there entries bytes names c read =
    let facts : facts_of (entries ++ ArriveEntry bytes names ∷ []) ≡ facts_of entries ++ CastReceived c ∷ [] = said_facts entries bytes names (CastFrame c) read in
    let casts : casts_in (facts_of (entries ++ ArriveEntry bytes names ∷ [])) ≡ casts_in (facts_of entries) ++ c ∷ [] = ap casts_in facts ∙ casts_in-append (facts_of entries) (CastReceived c) in
    subst (λ (cs : List CastFields). AreThere cs c) (sym casts)
    (all_of (is_among (messages_in (casts_in (facts_of entries) ++ c ∷ []))) (messages_of c) (λ m there. in_is_among (messages_in (casts_in (facts_of entries) ++ c ∷ [])) m (in_casts_back (casts_in (facts_of entries)) c m there)))

impossible_is_not_there : (seat : Identity) (facts : List Fact) (c : CastFields) → AreFactsOf seat facts → IsSome c.load → is_impossible seat facts (CastFrame c) ≡ true → AreThere (casts_in facts) c → ⊥
impossible_is_not_there seat facts c are some impossible there =
    let last = last_is_carried c some in
    let number = last.number_is in
    let both = and_parts (eqb c.sender seat.me) (ltb (delivered seat facts seat.me) (last_number c)) impossible in
    let above = ltb-true (delivered seat facts seat.me) (last_number c) both.1 in
    let here : is_there (casts_in facts) last.found.sender last.found.number ≡ true = each_of (is_among (messages_in (casts_in facts))) (messages_of c) last.found there last.there in
    let own : last.found.sender ≡ seat.me = last.sender_is ∙ eqb-true c.sender seat.me both.0 in
    let bound = own_is_delivered seat facts last.found.number are (subst (λ (i : ℕ). is_there (casts_in facts) i last.found.number ≡ true) own here) in
    omega (arith, above, bound, number)

answer_is_right : (seat : Identity) (limit : ℕ) (entries : List EntryFields) (bytes : List ℕ) (c : CastFields) → AreFactsOf seat (facts_of entries) → frame_read bytes ≡ Ok (CastFrame c) → IsOfTheGroup seat.group (CastFrame c)
    → IsRight entries bytes c (frame_answer seat limit entries (facts_of entries) (CastFrame c))
answer_is_right seat limit entries bytes c are read of =
    let facts = facts_of entries in
    let P : Result ArrivalSays ArriveRefusal → Type 0 = IsRight entries bytes c in
    cond_both (not (eqb c.group seat.group.number)) _ _ P (λ other. absurd (both_ways (not (eqb c.group seat.group.number)) (not_from_true (eqb c.group seat.group.number) (eq-eqb c.group seat.group.number of.number)) other))
    (λ _. cond_both (not (are_members seat.group.size (CastFrame c))) _ _ P (λ other. absurd (both_ways (not (are_members seat.group.size (CastFrame c))) (not_from_true (are_members seat.group.size (CastFrame c)) of.members) other))
    (λ _. cond_both (is_impossible seat facts (CastFrame c)) _ _ P (λ impossible. refused entries bytes c arrivals.Impossible (impossible_is_not_there seat facts c are (read_loads_fit bytes c read).some impossible))
    (λ _. cond_both (is_repeat facts (CastFrame c)) _ _ P (λ again. ((λ _. again), (λ _. refl)))
    (λ new. cond_both (is_overlap facts (CastFrame c)) _ _ P (λ _. refused entries bytes c arrivals.Overlap (λ there. both_ways (is_repeat facts (CastFrame c)) new there))
    (λ _. cond_both (is_too_far seat facts (CastFrame c)) _ _ P (λ _. refused entries bytes c arrivals.TooFar (λ there. both_ways (is_repeat facts (CastFrame c)) new there))
    (λ _. cond_both (is_full limit entries) _ _ P (λ _. refused entries bytes c arrivals.HistoryFull (λ there. both_ways (is_repeat facts (CastFrame c)) new there))
    (λ _. ((λ _. taken_is_there entries bytes _ c read), (λ _. refl)))))))))

pub accepted_is_there : AcceptedIsThere
unfolding arrive_answer
accepted_is_there seat limit entries bytes c are read of =
    subst (λ (r : Result FrameFields FrameFault). IsRight entries bytes c (answer_to seat limit entries r)) (sym read) (answer_is_right seat limit entries bytes c are read of)

-- ---- the casts that are there

abbrev AllOfTheGroup : Identity → List Fact → Type 0
AllOfTheGroup seat facts = (c : CastFields) → IsIn c (casts_in facts) → IsOfTheGroup seat.group (CastFrame c)

one_of_the_group : (seat : Identity) (facts : List Fact) (f : Fact) → IsIdentity seat → IsStep seat facts f → (c : CastFields) → IsIn c (cast_in f) → IsOfTheGroup seat.group (CastFrame c)
one_of_the_group seat facts (OwnCast d) is step c there =
    subst (λ (x : CastFields). IsOfTheGroup seat.group (CastFrame x)) (sym (in_one c d there ∙ step.next)) (own_casts_are_of_the_group seat facts d.load is)
one_of_the_group seat facts (CastReceived d) is step c there =
    subst (λ (x : CastFields). IsOfTheGroup seat.group (CastFrame x)) (sym (in_one c d there)) (record { number = step.taken.group; members = step.taken.members })
one_of_the_group seat facts (StatusReceived s) is step c there = absurd there
one_of_the_group seat facts (OwnStatus s) is step c there = absurd there

all_of_the_group : (seat : Identity) (facts : List Fact) → IsIdentity seat → AreLegalFacts seat facts → AllOfTheGroup seat facts
all_of_the_group seat _ is NoFacts c there = absurd there
all_of_the_group seat _ is (OneFactMore facts f before step) c there =
    elim (in_append c (casts_in facts) (cast_in f) (subst (IsIn c) (casts_in-append facts f) there)) [
      | inl old ↦ all_of_the_group seat facts is before c old
      | inr new ↦ one_of_the_group seat facts f is step c new
    ]

pub casts_are_of_the_group : CastsAreOfTheGroup
casts_are_of_the_group seat facts c are there = all_of_the_group seat facts (record { group = are.group; member = are.member }) are.facts_are c (cast_of_is_in c (casts_in facts) there)

-- a single is of the group where its cast is
single_of_the_group : (seat : Identity) (d c : CastFields) → IsOf d c → IsOfTheGroup seat.group (CastFrame d) → IsOfTheGroup seat.group (CastFrame c)
single_of_the_group seat d c of is =
    let both = and_parts (ltb d.sender seat.group.size) (list_all (λ x. ltb x.field seat.group.size) d.changes) is.members in
    record { number = of.group_is ∙ is.number; members = rw (of.sender_is, both.0) (changes both.1) }
  where
    changes : list_all (λ x. ltb x.field seat.group.size) d.changes ≡ true → list_all (λ x. ltb x.field seat.group.size) c.changes ≡ true
    changes all = elim of.changes_are [
      | inl same ↦ ap (list_all (λ x. ltb x.field seat.group.size)) same ∙ all
      | inr none ↦ ap (list_all (λ x. ltb x.field seat.group.size)) none
    ]

pub singles_are_of_the_group : SinglesAreOfTheGroup
singles_are_of_the_group seat facts c are there =
    let found = frame_of_single (casts_in facts) c (cast_of_is_in c (singles_in facts) there) in
    single_of_the_group seat found.frame c found.is_of (casts_are_of_the_group seat facts found.frame are (in_is_cast_of found.frame (casts_in facts) found.there))
