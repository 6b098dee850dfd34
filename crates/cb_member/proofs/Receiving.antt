-- The singles of a received cast are kept, and the next one is taken out and told.
use Rattle.std.proofs.Common.{◌≡◌, ◌≢◌, ℕ, ◌+◌, ◌-◌, ◌<◌, ◌≤◌, List, [], ◌∷◌, ◌++◌, Bool, true, false, cond, length, length-append, set, get_or, None, Some, refl, sym, ap, subst, ◌∙◌, arith, inl, inr, ◌⊎◌, All, slice_get}
use Rattle.std.specs.Prelude.{is_some, option_map}
use Rattle.std.specs.List.{AllByRecursion}
use Rattle.std.specs.Vec.{vec_len}
use Rattle.std.specs.declared.vec.Vec.{Vec}
use Rattle.std.specs.declared.alloc.Global.{Global}
use Rattle.std.specs.Ordering.{nat_cmp}
use Rattle.std.specs.Cmp.{nat_cmp_total}
use Rattle.std.specs.FinMap as map
use Rattle.std.proofs.lemmas.Bool.{cases_eq, eq-eqb, ne_eqb}
use Rattle.std.proofs.lemmas.List.{append-nil, length-map, length-set, set-get_or, get_or-set_same, get_or-set_other}
use Rattle.std.proofs.lemmas.List.Elements.{All-append, All-pop}
use Rattle.std.proofs.lemmas.Option.{slice_get_within, slice_get-get_or, slice_get-map, slice_get_read, get_or_from_slice_get}
use Rattle.cb_frames.specs.Carrying.{IsNumberedCast}
use Rattle.cb_frames.specs.Fields.{IsSome, load_bytes, CastFields, Carried, messages_of, first_number, last_number}
use Rattle.cb_delay.specs.declared.message.Message.{Message}
use Rattle.cb_diffs.specs.Expansion.{expanded_time, IsNext as IsNextCast}
use Rattle.cb_gaps.specs.declared.buffer.Admission.{Admission}
use Rattle.cb_gaps.specs.declared.buffer.Admission.TheVariants.{Kept, Repeat, Overlap, TooFar}
use Rattle.cb_gaps.specs.Buffer.{Buffer, Admits, IsAnswer, IsAfter, IsLacking, AreLacking, IsNext, Takes}
use Rattle.cb_frames.proofs.Carried.{carried_up_to_the_last, carries_one, carries_some, first_is_number, last_is_first, one_has_some}
use Rattle.cb_history.specs.Group.{Identity}
use Rattle.cb_history.specs.Facts.{Fact, OwnCast, CastReceived, StatusReceived, OwnStatus, cast_in, casts_in, messages_in}
use Rattle.cb_history.specs.Known.{expanded_count}
use Rattle.cb_history.specs.NameLaws.{IsOneOf, NumberedFrom, ReceivedFromOthers}
use Rattle.cb_history.specs.LegalFacts.{AreFactsOf}
use Rattle.cb_history.specs.BufferLaws.{IsCastOf, AreKept, HoldsWhatWaits}
use Rattle.cb_history.specs.ExpanderLaws.{KeepsTimeOf}
use Rattle.cb_history.specs.Singles.{IsSingle, singles_of, singles_among, singles_in}
use Rattle.cb_history.proofs.Views.{IsIn}
use Rattle.cb_history.proofs.Lists.{carried_there}
use Rattle.cb_history.proofs.Prefixes.{last_fact_is_a_step}
use Rattle.cb_history.proofs.Names.{own_messages_are_own, in_is_one_of}
use Rattle.cb_history.proofs.Runs.{expanded_up_to_the_count}
use Rattle.cb_history.proofs.Buffers.{cast_of_is_in, none_begins, kept_single_waits, kept_singles_wait, lacks_still, other_singles_do_not_wait, taken_cast_is_there, all_is_taken}
use Rattle.cb_history.proofs.Expanders.{kept_times_stay, single_behind_is_next, single_tells_the_time, other_times_are_kept}
use Rattle.cb_history.proofs.Singles.{single_among, singles_are_as_many, singles_are_numbered, singles_are_the_same, singles_of_one, singles_with_one_more}
use Rattle.cb_member.specs.declared.reception.Reception.{Reception}
use Rattle.cb_member.specs.Reception.{AreSparesOf, HasReceived, HasReceivedAll, spares_in}
use Rattle.cb_member.specs.Singles.{AreSparesFor, CanKeepInTurn, KeepsSingles}
use Rattle.cb_member.specs.Taking.{CanKeep, IsReceiving, one_more, IsNextMessage, HasNoNextOf, Tells, reported}

-- ---- one element written over

pub set_at : {A : Type 0} → (xs : List A) (s i : ℕ) (after b : A) → slice_get (set xs s after) i ≡ Some b → ((i ≡ s) × (b ≡ after)) ⊎ ((i ≢ s) × (slice_get xs i ≡ Some b))
set_at xs s i after b at =
    let lt : i < length xs = omega (arith, slice_get_within (set xs s after) i b at, length-set xs s after) in
    let is : get_or (set xs s after) i b ≡ b = get_or_from_slice_get (set xs s after) i b b at in
    elim (cases_eq i s) [
      | inl e ↦ inl (e, sym is ∙ ap (λ (k : ℕ). get_or (set xs s after) k b) e ∙ get_or-set_same xs s after b (subst (λ (k : ℕ). k < length xs) e lt))
      | inr ne ↦ inr (ne, slice_get-get_or xs i b lt ∙ ap (λ x. Some x) (sym (get_or-set_other xs s i after b ne) ∙ is))
    ]

pub written_back : {A : Type 0} → (xs : List A) (i : ℕ) (a : A) → slice_get xs i ≡ Some a → set xs i a ≡ xs
written_back xs i a at = ap (set xs i) (sym (get_or_from_slice_get xs i a a at)) ∙ set-get_or xs i a

pub at_written : {A : Type 0} → (xs : List A) (i : ℕ) (a : A) → i < length xs → slice_get (set xs i a) i ≡ Some a
at_written xs i a lt =
    slice_get-get_or (set xs i a) i a (omega (arith, lt, length-set xs i a)) ∙ ap (λ x. Some x) (get_or-set_same xs i a a lt)

pub one_value : {A : Type 0} → (a b : A) → Some a ≡ Some b → a ≡ b
one_value a b e = cc

pub one_buffer : (a b : Buffer) → Some a ≡ Some b → a ≡ b
one_buffer a b e = cc

set_to_same : (bs : List Buffer) (s i : ℕ) (before after b : Buffer) → slice_get bs s ≡ Some before → after ≡ before → slice_get (set bs s after) i ≡ Some b → slice_get bs i ≡ Some b
set_to_same bs s i before after b was same at = elim (set_at bs s i after b at) [
  | inl here ↦ ap (slice_get bs) here.0 ∙ was ∙ ap (λ (x : Buffer). Some x) (sym (here.1 ∙ same))
  | inr elsewhere ↦ elsewhere.1
]

-- ---- the spares of a sender

pub within_stacks : (seat : Identity) (facts : List Fact) (taken : ℕ → ℕ) (r : Reception) (sender : ℕ) → HasReceived seat facts taken r → sender < seat.group.size → sender < length r.spares.items
within_stacks seat facts taken r sender received member =
    let stacks = received.stacks in
    omega (arith, stacks, member, length-map r.spares.items (λ (times : Vec (List ℕ) Global). times.items))

pub stack_at : (r : Reception) (sender : ℕ) (times : Vec (List ℕ) Global) → slice_get r.spares.items sender ≡ Some times → slice_get (spares_in r) sender ≡ Some times.items
stack_at r sender times at = slice_get-map (λ (v : Vec (List ℕ) Global). v.items) r.spares.items sender ∙ ap (option_map (λ (v : Vec (List ℕ) Global). v.items)) at

pub vec_at : {A : Type 0} → (items : List A) (i : ℕ) (value : A) → i < length items → value ≡ get_or items i value → slice_get items i ≡ Some value
vec_at items i value lt read = slice_get_read items (length items) i value refl lt read

-- one was taken out
pub one_spare_less : (sender : ℕ) (before now : List (List (List ℕ))) (stack rest : List (List ℕ)) (spare : List ℕ) → slice_get before sender ≡ Some stack → stack ≡ rest ++ spare ∷ []
    → now ≡ set before sender rest → length (get_or now sender []) + 1 ≡ length (get_or before sender [])
one_spare_less sender before now stack rest spare at popped is =
    let was : length (get_or before sender []) ≡ length stack = ap length (get_or_from_slice_get before sender stack [] at) in
    let left : length (get_or now sender []) ≡ length rest =
    ap (λ (xs : List (List (List ℕ))). length (get_or xs sender [])) is ∙ ap length (get_or-set_same before sender rest [] (slice_get_within before sender stack at)) in
    let longer : length stack ≡ length rest + 1 = ap length popped ∙ length-append rest (spare ∷ []) in
    omega (arith, was, left, longer)

-- ---- the cast is kept

pub received_from_other : (me : ℕ) (facts : List Fact) (c : CastFields) → ReceivedFromOthers me (facts ++ CastReceived c ∷ []) → c.sender ≢ me
received_from_other me [] c h = h.0
received_from_other me (OwnCast d ∷ facts) c h = received_from_other me facts c h
received_from_other me (CastReceived d ∷ facts) c h = received_from_other me facts c h.1
received_from_other me (StatusReceived s ∷ facts) c h = received_from_other me facts c h
received_from_other me (OwnStatus s ∷ facts) c h = received_from_other me facts c h

still_kept : (b : Buffer) (delivered : ℕ) (c : CastFields) (answer : Admission) (after : Buffer) → IsSome c.load → Admits b delivered (first_number c) (last_number c) Kept → IsAnswer b delivered c answer → IsAfter b c answer after → IsAfter b c Kept after
still_kept b delivered c Kept after some kept answered is = is
still_kept b delivered c Repeat after some kept answered is =
    let lacking = kept.0 (first_number c) (omega arith) (carries_some c some) in
    let above = lacking.not_taken in
    elim (answered (first_number c) (omega arith) (carries_some c some)) [
      | inl le ↦ absurd (omega (arith, above, le))
      | inr there ↦ absurd (lacking.not_kept there)
    ]
still_kept b delivered c Overlap after some kept answered is =
    let received = answered.some in
    let lacking = kept.0 received.number received.from received.upto in
    let above = lacking.not_taken in
    elim received.is [
      | inl le ↦ absurd (omega (arith, above, le))
      | inr there ↦ absurd (lacking.not_kept there)
    ]
still_kept b delivered c TooFar after some kept answered is =
    let near = kept.1 in
    let far = answered.1 in
    absurd (omega (arith, near, far))

-- one cast more is kept
kept_one_more : (before after : Buffer) (c : CastFields) → map.get before.kept (first_number c) ≡ None → IsAfter before c Kept after → map.len after.kept ≡ map.len before.kept + 1
kept_one_more before after c lacking is =
    let none : map.contains_key before.kept (first_number c) ≡ false = ap is_some lacking in
    ap (λ (b : Buffer). map.len b.kept) is ∙ map.len-insert nat_cmp_total before.kept (first_number c) c
    ∙ ap (λ (b : Bool). cond b (map.len before.kept) (map.len before.kept + 1)) none

-- singles that are kept one after another are as many more
kept_more : (casts : List CastFields) (i n : ℕ) (singles : List CastFields) (old new : Buffer) → HoldsWhatWaits casts i old → NumberedFrom i n singles → AllByRecursion IsSingle singles
    → ((number : ℕ) → n ≤ number → number < n + length singles → IsLacking old number) → AreKept old singles new → map.len new.kept ≡ map.len old.kept + length singles
kept_more casts i n [] old new h numbered single lacks kept =
    let same : map.len new.kept ≡ map.len old.kept = ap (λ (b : Buffer). map.len b.kept) kept in
    omega (arith, same)
kept_more casts i n (c ∷ singles) old new h numbered single lacks kept =
    let begins = numbered.1 in
    let alone = single.0 in
    let mid = kept.0 in
    let lacking = lacks (first_number c) (omega (arith, begins)) (omega (arith, begins)) in
    let waits = kept_single_waits casts i c old mid h numbered.0 alone lacking kept.1 in
    let rest : NumberedFrom i (n + 1) singles = subst (λ (k : ℕ). NumberedFrom i (k + 1) singles) (last_is_first c alone ∙ begins) numbered.2 in
    let one = kept_one_more old mid c (none_begins casts i (first_number c) old (map.get old.kept (first_number c)) h lacking refl) kept.1 in
    let more = kept_more (casts ++ c ∷ []) i (n + 1) singles mid new waits rest single.1
    (λ number low high. lacks_still number c old mid alone kept.1 (omega (arith, low, begins)) (lacks number (omega (arith, low)) (omega (arith, high)))) kept.2 in
    omega (arith, one, more)

-- they change neither what was taken nor the window
pub kept_leave : (singles : List CastFields) (old new : Buffer) → AreKept old singles new → (new.taken ≡ old.taken) × (new.window ≡ old.window)
kept_leave [] old new kept = (ap (λ (b : Buffer). b.taken) kept, ap (λ (b : Buffer). b.window) kept)
kept_leave (c ∷ singles) old new kept =
    let rest = kept_leave singles kept.0 new kept.2 in
    (rest.0 ∙ ap (λ (b : Buffer). b.taken) kept.1, rest.1 ∙ ap (λ (b : Buffer). b.window) kept.1)

-- a buffer that lacks a cast and has it in its window can keep its singles
pub can_keep_in_turn : (delivered : ℕ) (c : CastFields) (r : Reception) (b : Buffer) → IsNumberedCast c → CanKeep delivered c r → slice_get r.buffers.items c.sender ≡ Some b → CanKeepInTurn delivered (singles_of c) b
can_keep_in_turn delivered c r b is_numbered can at = subst (CanKeepInTurn delivered (singles_of c)) (one_buffer can.buffer b (sym can.at ∙ at)) (record {
  sender = c.sender;
  first = first_number c;
  upto_taken = can.upto_taken;
  numbered = singles_are_numbered c;
  numbers = let last = is_numbered.1 in omega (arith, last, singles_are_as_many c, carried_up_to_the_last c is_numbered.0);
  single = singles_of_one c;
  lacking = λ number low high. can.is_kept.0 number low (omega (arith, high, singles_are_as_many c, carried_up_to_the_last c is_numbered.0));
  near = λ number low high. let near = can.is_kept.1 in omega (arith, near, high, singles_are_as_many c, carried_up_to_the_last c is_numbered.0);
})

-- and the others once it has kept the first of them
pub can_keep_on : (delivered : ℕ) (c : CastFields) (singles : List CastFields) (old new : Buffer) → CanKeepInTurn delivered (c ∷ singles) old → IsAfter old c Kept new → CanKeepInTurn delivered singles new
can_keep_on delivered c singles old new can after =
    let begins = can.numbered.1 in
    let alone = can.single.0 in
    let taken : new.taken ≡ old.taken = ap (λ (b : Buffer). b.taken) after in
    let window : new.window ≡ old.window = ap (λ (b : Buffer). b.window) after in
    let upto = can.upto_taken in
    let numbers = can.numbers in
    record {
      sender = can.sender;
      first = can.first + 1;
      upto_taken = omega (arith, upto, taken);
      numbered = subst (λ (k : ℕ). NumberedFrom can.sender (k + 1) singles) (last_is_first c alone ∙ begins) can.numbered.2;
      numbers = omega (arith, numbers);
      single = can.single.1;
      lacking = λ number low high. lacks_still number c old new alone after (omega (arith, low, begins)) (can.lacking number (omega (arith, low)) (omega (arith, high)));
      near = λ number low high. let near = can.near number (omega (arith, low)) (omega (arith, high)) in omega (arith, near, window);
    }

-- that one it keeps
pub first_is_kept : (delivered : ℕ) (c : CastFields) (singles : List CastFields) (old new : Buffer) (answer : Admission) → CanKeepInTurn delivered (c ∷ singles) old → IsAnswer old delivered c answer → IsAfter old c answer new → IsAfter old c Kept new
first_is_kept delivered c singles old new answer can answered after =
    let begins = can.numbered.1 in
    let alone = last_is_first c can.single.0 in
    still_kept old delivered c answer new (one_has_some c.load can.single.0) (
      (λ number low high. can.lacking number (omega (arith, low, begins)) (omega (arith, high, alone, begins))),
      can.near (last_number c) (omega (arith, alone, begins)) (omega (arith, alone, begins)),
    ) answered after

pub singles_with_cast : (facts : List Fact) (f : Fact) (c : CastFields) → cast_in f ≡ c ∷ [] → singles_in (facts ++ f ∷ []) ≡ singles_in facts ++ singles_of c
singles_with_cast facts f c is =
    singles_with_one_more facts f ∙ ap (λ (cs : List CastFields). singles_in facts ++ singles_among cs) is ∙ ap (λ (cs : List CastFields). singles_in facts ++ cs) (append-nil (singles_of c))

-- one buffer has the singles of the cast and its sender's spares these more
pub record WithCast (c : CastFields) (spares : List (List ℕ)) (before after : Buffer) (stack : List (List ℕ)) (old new : Reception) : Type 0 where
  pub at : slice_get old.buffers.items c.sender ≡ Some before
  pub kept : AreKept before (singles_of c) after
  pub buffers : new.buffers.items ≡ set old.buffers.items c.sender after
  pub expander : new.expander ≡ old.expander
  pub at_stack : slice_get (spares_in old) c.sender ≡ Some stack
  pub now_spares : spares_in new ≡ set (spares_in old) c.sender (stack ++ spares)

module _ (c : CastFields) (more : List (List ℕ)) (before after : Buffer) (stack : List (List ℕ)) (old new : Reception) (w : WithCast c more before after stack old new) (delivered : ℕ) (can : CanKeep delivered c old)
    (seat : Identity) (facts : List Fact) (are : AreFactsOf seat (facts ++ CastReceived c ∷ [])) (all : HasReceivedAll seat facts old) (for : AreSparesFor c seat.group.size more) where
  abbrev singles : List CastFields
  singles = singles_in facts

  now : singles_in (facts ++ CastReceived c ∷ []) ≡ singles ++ singles_of c
  now = singles_with_cast facts (CastReceived c) c refl

  some : IsSome c.load
  some = (last_fact_is_a_step seat facts (CastReceived c) are).load.some

  lacking : AreLacking before (first_number c) (last_number c)
  lacking = subst (λ (b : Buffer). AreLacking b (first_number c) (last_number c)) (one_buffer can.buffer before (sym can.at ∙ w.at)) can.is_kept.0

  at_now : (i : ℕ) (b : Buffer) → slice_get new.buffers.items i ≡ Some b → ((i ≡ c.sender) × (b ≡ after)) ⊎ ((i ≢ c.sender) × (slice_get old.buffers.items i ≡ Some b))
  at_now i b at = set_at old.buffers.items c.sender i after b (ap (λ (bs : List Buffer). slice_get bs i) (sym w.buffers) ∙ at)

  was_at : (i : ℕ) → i ≡ c.sender → slice_get old.buffers.items i ≡ Some before
  was_at i e = ap (slice_get old.buffers.items) e ∙ w.at

  waits_before : HoldsWhatWaits singles c.sender before
  waits_before = all.waits c.sender before w.at (received_from_other seat.me facts c (own_messages_are_own seat (facts ++ CastReceived c ∷ []) are))

  spares_now : (i : ℕ) (spares : List (List ℕ)) → slice_get (spares_in new) i ≡ Some spares → ((i ≡ c.sender) × (spares ≡ stack ++ more)) ⊎ ((i ≢ c.sender) × (slice_get (spares_in old) i ≡ Some spares))
  spares_now i spares at = set_at (spares_in old) c.sender i (stack ++ more) spares (ap (λ (xs : List (List (List ℕ))). slice_get xs i) (sym w.now_spares) ∙ at)

  -- as many more spares as singles
  its_spares_now : (b : Buffer) (spares : List (List ℕ)) → b ≡ after → spares ≡ stack ++ more → AreSparesOf seat.group.size b spares
  its_spares_now b spares here its =
      let was = all.spares c.sender before stack w.at w.at_stack in
      let count = was.count in
      let many = for.many in
      let longer = kept_more singles c.sender (first_number c) (singles_of c) before after waits_before (singles_are_numbered c) (singles_of_one c)
      (λ number low high. lacking number low (omega (arith, high, singles_are_as_many c, carried_up_to_the_last c some))) w.kept in
      let kept_now : map.len b.kept ≡ map.len after.kept = ap (λ (x : Buffer). map.len x.kept) here in
      let joined : length spares ≡ length stack + length more = ap length its ∙ length-append stack more in
      record {
        count = omega (arith, longer, kept_now, count, joined, many, singles_are_as_many c);
        sizes = subst (All (λ time. length time ≡ seat.group.size)) (sym its) (All-append (λ time. length time ≡ seat.group.size) stack more was.sizes for.sizes);
      }

  pub kept_cast : HasReceived seat (facts ++ CastReceived c ∷ []) (expanded_count (casts_in facts)) new
  kept_cast = record {
    senders = ap length w.buffers ∙ length-set old.buffers.items c.sender after ∙ all.senders;
    waits = λ i b at other. subst (λ (cs : List CastFields). HoldsWhatWaits cs i b) (sym now) (elim (at_now i b at) [
      | inl here ↦ subst (λ (k : ℕ). HoldsWhatWaits (singles ++ singles_of c) k b) (sym here.0)
          (subst (HoldsWhatWaits (singles ++ singles_of c) c.sender) (sym here.1) (kept_singles_wait singles c before after waits_before lacking w.kept))
      | inr elsewhere ↦ other_singles_do_not_wait singles i c b (all.waits i b elsewhere.1 other) (λ e. elsewhere.0 (sym e))
    ]);
    taken_are = λ i b at other. elim (at_now i b at) [
      | inl here ↦ ap (λ (x : Buffer). x.taken) here.1 ∙ (kept_leave (singles_of c) before after w.kept).0 ∙ all.taken_are i before (was_at i here.0) other
      | inr elsewhere ↦ all.taken_are i b elsewhere.1 other
    ];
    windows = λ i b at. elim (at_now i b at) [
      | inl here ↦ ap (λ (x : Buffer). x.window) here.1 ∙ (kept_leave (singles_of c) before after w.kept).1 ∙ all.windows i before (was_at i here.0)
      | inr elsewhere ↦ all.windows i b elsewhere.1
    ];
    times = λ i lt other. kept_times_stay seat facts (CastReceived c ∷ []) i (expanded_count (casts_in facts) i) new.expander are (omega arith)
        (subst (KeepsTimeOf seat facts i (expanded_count (casts_in facts) i)) (sym w.expander) (all.times i lt other));
    stacks = ap length w.now_spares ∙ length-set (spares_in old) c.sender (stack ++ more) ∙ all.stacks;
    spares = λ i b spares at at_spares. elim (at_now i b at) [
      | inl here ↦ elim (spares_now i spares at_spares) [
        | inl its ↦ its_spares_now b spares here.1 its.1
        | inr elsewhere ↦ absurd (elsewhere.0 here.0)
      ]
      | inr elsewhere ↦ elim (spares_now i spares at_spares) [
        | inl its ↦ absurd (elsewhere.0 its.0)
        | inr too ↦ all.spares i b spares elsewhere.1 too.1
      ]
    ];
  }

-- ---- the next one is taken out

-- the one message of a single
abbrev pub only_message : CastFields → Carried
only_message c = record { sender = c.sender; number = first_number c; payload = load_bytes c.load }

carries_only : (c : CastFields) → IsSingle c → messages_of c ≡ only_message c ∷ []
carries_only c single = carries_one c single ∙ ap (λ (n : ℕ). let m : Carried = record { sender = c.sender; number = n; payload = load_bytes c.load } in m ∷ []) (sym (first_is_number c))

-- is one of the messages that are there
pub message_of_single : (casts : List CastFields) (c : CastFields) → IsCastOf c (singles_among casts) → IsOneOf (only_message c) (messages_in casts)
message_of_single casts c there =
    let m = only_message c in
    in_is_one_of m (messages_in casts) (subst (IsIn m) (singles_are_the_same casts).messages
    (carried_there (singles_among casts) c m (cast_of_is_in c (singles_among casts) there) (subst (IsIn m) (sym (carries_only c (single_among casts c (cast_of_is_in c (singles_among casts) there)))) (inl refl))))

-- the buffer of the sender gives its next single
pub record GivesNext (c : CastFields) (sender : ℕ) (before after : Buffer) (old : Reception) : Type 0 where
  pub at : slice_get old.buffers.items sender ≡ Some before
  pub next : IsNext before c
  pub takes : Takes before c after

pub buffer_at : (sender : ℕ) (before : Buffer) (old : Reception) → IsReceiving sender old → before ≡ get_or old.buffers.items sender before → slice_get old.buffers.items sender ≡ Some before
buffer_at sender before old r read =
    let member = r.member in
    let senders = r.received.senders in
    slice_get_read old.buffers.items (length old.buffers.items) sender before refl (omega (arith, member, senders)) read

-- what a sender's buffer keeps are singles
pub keeps_singles : (sender : ℕ) (before : Buffer) (old : Reception) → IsReceiving sender old → slice_get old.buffers.items sender ≡ Some before → KeepsSingles before
keeps_singles sender before old r at number c kept =
    let waits = r.received.waits sender before at r.other in
    let waiting = (waits.kept number c).0 kept in
    waits.single c waiting.there waiting.sender_is

some_entry : (es : List (ℕ × CastFields)) (n : ℕ) (c : CastFields) → map.find nat_cmp n es ≡ Some c → 0 < length es
some_entry [] n c h = absurd cc
some_entry (e ∷ es) n c h = omega arith

pub some_are_kept : (before : Buffer) (c : CastFields) → IsNext before c → 0 < map.len before.kept
some_are_kept before c next =
    let some = some_entry (map.entries before.kept) (first_number c) c (sym (map.get-entries before.kept (first_number c)) ∙ next.kept) in
    omega (arith, some, map.len-entries before.kept)

-- so there is a spare for it
pub some_spare_is_left : (size : ℕ) (before : Buffer) (c : CastFields) (times : Vec (List ℕ) Global) → IsNext before c → AreSparesOf size before times.items → 0 < vec_len times
some_spare_is_left size before c times next are =
    let some = some_are_kept before c next in
    let count = are.count in
    omega (arith, some, count, times.ok.0)

-- one cast less is kept
pub one_kept_less : (before after : Buffer) (c : CastFields) → IsNext before c → Takes before c after → map.len after.kept + 1 ≡ map.len before.kept
one_kept_less before after c next takes =
    let some : map.contains_key before.kept (first_number c) ≡ true = ap is_some next.kept in
    let fewer : map.len after.kept ≡ map.len before.kept - 1 = ap (λ (b : Buffer). map.len b.kept) takes ∙ map.len-remove nat_cmp_total before.kept (first_number c)
    ∙ ap (λ (b : Bool). cond b (map.len before.kept - 1) (map.len before.kept)) some in
    let there = some_are_kept before c next in
    omega (arith, fewer, there)

-- a spare of the sender's is taken out, and the cast is reported
pub record IsReported (c : CastFields) (sender : ℕ) (after : Buffer) (stack rest : List (List ℕ)) (spare : List ℕ) (old new : Reception) (message : Message) : Type 0 where
  pub at_stack : slice_get (spares_in old) sender ≡ Some stack
  pub popped : stack ≡ rest ++ spare ∷ []
  pub spares : spares_in new ≡ set (spares_in old) sender rest
  pub tells : Tells c old.expander new.expander message
  pub buffers : new.buffers.items ≡ set old.buffers.items sender after

module _ (c : CastFields) (sender : ℕ) (before after : Buffer) (old : Reception) (g : GivesNext c sender before after old)
    (seat : Identity) (facts : List Fact) (taken : ℕ → ℕ) (are : AreFactsOf seat facts) (other : sender ≢ seat.me) (received : HasReceived seat facts taken old) where
  abbrev size : ℕ
  size = seat.group.size

  abbrev all_singles : List CastFields
  all_singles = singles_in facts

  found : IsCastOf c all_singles × (c.sender ≡ sender) × HoldsWhatWaits all_singles sender after
  found = taken_cast_is_there all_singles sender c before after (received.waits sender before g.at other) g.next g.takes

  single : IsSingle c
  single = single_among (casts_in facts) c (cast_of_is_in c all_singles found.0)

  so_far : before.taken ≡ taken sender
  so_far = received.taken_are sender before g.at other

  behind : first_number c ≡ taken sender + 1
  behind = g.next.follows ∙ ap (λ (n : ℕ). n + 1) so_far

  member : sender < size
  member = omega (arith, slice_get_within old.buffers.items sender before g.at, received.senders)

  -- the spares of the sender: one for each of its singles that waits
  pub its_spares : (stack : List (List ℕ)) → slice_get (spares_in old) sender ≡ Some stack → AreSparesOf seat.group.size before stack
  its_spares stack at = received.spares sender before stack g.at at

  keeps : KeepsTimeOf seat facts c.sender (taken sender) old.expander
  keeps = subst (λ (i : ℕ). KeepsTimeOf seat facts i (taken sender) old.expander) (sym found.1) (received.times sender member other)

  pub its_turn : IsNextCast old.expander c
  its_turn = single_behind_is_next seat facts c (taken sender) old.expander are found.0 behind keeps

  pub its_size : length old.expander ≡ size
  its_size = keeps.senders

  module _ (stack rest : List (List ℕ)) (spare : List ℕ) (new : Reception) (message_is : Message) (t : IsReported c sender after stack rest spare old new message_is) where
    tells : (first_number c ≡ taken sender + 1) × (t.tells.time ≡ expanded_time size (casts_in facts) c.sender (first_number c)) × KeepsTimeOf seat facts c.sender (last_number c) new.expander
    tells = single_tells_the_time seat facts c (taken sender) t.tells.time old.expander new.expander are found.0 keeps t.tells.expands

    at_new : (i : ℕ) (b : Buffer) → slice_get new.buffers.items i ≡ Some b → ((i ≡ sender) × (b ≡ after)) ⊎ ((i ≢ sender) × (slice_get old.buffers.items i ≡ Some b))
    at_new i b at = set_at old.buffers.items sender i after b (ap (λ (bs : List Buffer). slice_get bs i) (sym t.buffers) ∙ at)

    more_here : (i : ℕ) → i ≡ sender → one_more taken sender i ≡ last_number c
    more_here i e = rw (eq-eqb i sender e) (ap (λ (k : ℕ). taken k + 1) e ∙ sym (last_is_first c single ∙ behind))

    same_there : (i : ℕ) → i ≢ sender → one_more taken sender i ≡ taken i
    same_there i ne = rw (ne_eqb i sender ne) refl

    spares_new : (i : ℕ) (spares : List (List ℕ)) → slice_get (spares_in new) i ≡ Some spares → ((i ≡ sender) × (spares ≡ rest)) ⊎ ((i ≢ sender) × (slice_get (spares_in old) i ≡ Some spares))
    spares_new i spares at = set_at (spares_in old) sender i rest spares (ap (λ (xs : List (List (List ℕ))). slice_get xs i) (sym t.spares) ∙ at)

    pub next_is_reported : IsNextMessage seat facts sender taken new message_is
    next_is_reported = record {
      carried = only_message c;
      next = record {
        there = message_of_single (casts_in facts) c found.0;
        expanded = (expanded_up_to_the_count (casts_in facts) (only_message c)).1 (
            let upto = found.2.taken in
            let is : after.taken ≡ last_number c = ap (λ (b : Buffer). b.taken) g.takes in
            let at : expanded_count (casts_in facts) c.sender ≡ expanded_count all_singles sender =
            ap (expanded_count (casts_in facts)) found.1 ∙ sym ((singles_are_the_same (casts_in facts)).counts sender) in
            omega (arith, upto, is, at, last_is_first c single));
        of_sender = found.1;
        next = behind;
      };
      message_is = t.tells.message_is ∙ ap (λ (time : List ℕ). reported c time (load_bytes c.load)) tells.1;
      received = record {
        senders = ap length t.buffers ∙ length-set old.buffers.items sender after ∙ received.senders;
        waits = λ i b at not_me. elim (at_new i b at) [
          | inl here ↦ subst (λ (k : ℕ). HoldsWhatWaits all_singles k b) (sym here.0) (subst (HoldsWhatWaits all_singles sender) (sym here.1) found.2)
          | inr elsewhere ↦ received.waits i b elsewhere.1 not_me
        ];
        taken_are = λ i b at not_me. elim (at_new i b at) [
          | inl here ↦ ap (λ (x : Buffer). x.taken) here.1 ∙ ap (λ (x : Buffer). x.taken) g.takes ∙ sym (more_here i here.0)
          | inr elsewhere ↦ received.taken_are i b elsewhere.1 not_me ∙ sym (same_there i elsewhere.0)
        ];
        windows = λ i b at. elim (at_new i b at) [
          | inl here ↦ ap (λ (x : Buffer). x.window) here.1 ∙ ap (λ (x : Buffer). x.window) g.takes ∙ received.windows sender before g.at
          | inr elsewhere ↦ received.windows i b elsewhere.1
        ];
        times = λ i lt not_me. elim (cases_eq i sender) [
          | inl e ↦ subst (λ (n : ℕ). KeepsTimeOf seat facts i n new.expander) (sym (more_here i e)) (subst (λ (k : ℕ). KeepsTimeOf seat facts k (last_number c) new.expander) (found.1 ∙ sym e) tells.2)
          | inr ne ↦ subst (λ (n : ℕ). KeepsTimeOf seat facts i n new.expander) (sym (same_there i ne))
              (other_times_are_kept seat facts c i (taken i) t.tells.time old.expander new.expander (λ h. ne (sym h ∙ found.1)) (received.times i lt not_me) t.tells.expands)
        ];
        stacks = ap length t.spares ∙ length-set (spares_in old) sender rest ∙ received.stacks;
        spares = λ i b spares at at_spares. elim (at_new i b at) [
          | inl here ↦ elim (spares_new i spares at_spares) [
            | inl its ↦
                let was = its_spares stack t.at_stack in
                let less = one_kept_less before after c g.next g.takes in
                let kept_now : map.len b.kept ≡ map.len after.kept = ap (λ (x : Buffer). map.len x.kept) here.1 in
                let count = was.count in
                let popped : length stack ≡ length rest + 1 = ap length t.popped ∙ length-append rest (spare ∷ []) in
                record {
                  count = ap length its.1 ∙ (let same : length rest ≡ map.len b.kept = omega (arith, less, kept_now, count, popped) in same);
                  sizes = subst (All (λ time. length time ≡ seat.group.size)) (sym its.1) (All-pop (λ time. length time ≡ seat.group.size) stack rest (Some spare) t.popped was.sizes).0;
                }
            | inr elsewhere ↦ absurd (elsewhere.0 here.0)
          ]
          | inr elsewhere ↦ elim (spares_new i spares at_spares) [
            | inl its ↦ absurd (elsewhere.0 its.0)
            | inr too ↦ received.spares i b spares elsewhere.1 too.1
          ]
        ];
      };
    }

-- ---- there is no next one

pub none_is_next : (sender : ℕ) (before after : Buffer) (old new : Reception) → slice_get old.buffers.items sender ≡ Some before → map.get before.kept (before.taken + 1) ≡ None → after ≡ before
    → new.buffers.items ≡ set old.buffers.items sender after → new.expander ≡ old.expander → spares_in new ≡ spares_in old → HasNoNextOf sender old new
none_is_next sender before after old new was none same buffers expander spares seat facts taken are other received =
    let was_there : (i : ℕ) (b : Buffer) → slice_get new.buffers.items i ≡ Some b → slice_get old.buffers.items i ≡ Some b = λ i b at.
    set_to_same old.buffers.items sender i before after b was same (ap (λ (bs : List Buffer). slice_get bs i) (sym buffers) ∙ at) in (
      sym (received.taken_are sender before was other) ∙ all_is_taken (singles_in facts) sender before (received.waits sender before was other) none
          ∙ (singles_are_the_same (casts_in facts)).counts sender,
      record {
        senders = ap length buffers ∙ length-set old.buffers.items sender after ∙ received.senders;
        waits = λ i b at. received.waits i b (was_there i b at);
        taken_are = λ i b at. received.taken_are i b (was_there i b at);
        windows = λ i b at. received.windows i b (was_there i b at);
        times = λ i lt not_me. subst (KeepsTimeOf seat facts i (taken i)) (sym expander) (received.times i lt not_me);
        stacks = ap length spares ∙ received.stacks;
        spares = λ i b times at at_times. received.spares i b times (was_there i b at) (ap (λ (xs : List (List (List ℕ))). slice_get xs i) (sym spares) ∙ at_times);
      },
    )

-- ---- the same numbers

pub received_alike : (seat : Identity) (facts : List Fact) (taken later : ℕ → ℕ) (r : Reception) → ((i : ℕ) → later i ≡ taken i) → HasReceived seat facts taken r → HasReceived seat facts later r
received_alike seat facts taken later r same h = record {
  senders = h.senders;
  waits = h.waits;
  taken_are = λ i b at other. h.taken_are i b at other ∙ sym (same i);
  windows = h.windows;
  times = λ i lt other. subst (λ (n : ℕ). KeepsTimeOf seat facts i n r.expander) (sym (same i)) (h.times i lt other);
  stacks = h.stacks;
  spares = h.spares;
}
