-- A reorder buffer holds what waits.
use Rattle.std.proofs.Common.{◌≡◌, ◌≢◌, ℕ, ◌+◌, ◌<◌, ◌≤◌, true, false, cond, List, [], ◌∷◌, ◌++◌, length, append_assoc, Some, None, refl, sym, ap, subst, ◌∙◌, arith, inl, inr, ◌⊎◌, ◌↔◌}
use Rattle.std.specs.Prelude.{Option}
use Rattle.std.specs.List.{AllByRecursion}
use Rattle.std.specs.Ordering.{nat_cmp, eq_by_cmp}
use Rattle.std.specs.Cmp.{nat_cmp_total}
use Rattle.std.specs.FinMap as map
use Rattle.std.proofs.lemmas.Bool.{cases_eq, cases_lt, false_from_ne_true, both_ways}
use Rattle.std.proofs.lemmas.List.{append-nil}
use Rattle.cb_times.proofs.Entries.{equal_numbers, other_numbers}
use Rattle.cb_frames.specs.declared.frame.Range.{Range}
use Rattle.cb_frames.specs.Fields.{IsSome, CastFields, first_number, last_number}
use Rattle.cb_frames.proofs.Carried.{one_has_some, last_is_first, carries_payloads, carried_up_to_the_last, carried_is_of_cast, each_number_is_carried}
use Rattle.cb_gaps.specs.declared.buffer.Admission.TheVariants.{Kept}
use Rattle.cb_gaps.specs.Buffer as buffers
use Rattle.cb_gaps.specs.Buffer.{Buffer, Covers, IsKept, IsLacking, IsAfter, IsNext}
use Rattle.cb_gaps.specs.Ranges.{AreRangesOf}
use Rattle.cb_gaps.proofs.OneList.{one_list}
use Rattle.cb_gaps.proofs.Spans.{covers_first}
use Rattle.cb_history.specs.Group.{Identity}
use Rattle.cb_history.specs.Facts.{Fact, casts_in, messages_in, is_there}
use Rattle.cb_history.specs.Known.{known, expanded_count, missing, ranges_of}
use Rattle.cb_history.specs.Answers.{delivered}
use Rattle.cb_history.specs.GapLaws.{IsMissing}
use Rattle.cb_history.specs.BufferLaws.{IsCastOf, IsWaiting, HoldsWhatWaits, NewBufferHolds, KeptCastWaits, AreKept, KeptSinglesWait, OthersDoNotWait, OtherSinglesDoNotWait, TakenCastIsThere, AllIsTaken, ReceivedIsThere, MissingIsLacked, RangesAreAskedFor}
use Rattle.cb_history.specs.NameLaws.{NumberedFrom}
use Rattle.cb_history.specs.Singles.{IsSingle, singles_of, singles_in}
use Rattle.cb_history.proofs.Views.{IsIn}
use Rattle.cb_history.proofs.Lists.{in_push, in_front, in_back, carried_there, carrier}
use Rattle.cb_history.proofs.Gaps.{ranges_of_missing}
use Rattle.cb_history.proofs.GapsLater.{lacking_is_above}
use Rattle.cb_history.proofs.Singles.{there_by_messages, counts_by_messages, singles_are_as_many, singles_are_numbered, singles_of_one, same_messages}
use Rattle.cb_history.proofs.Runs.{message_there, message_is_there, expanded_are_there, run_at_most, run_is_expanded, others_expand_nothing, count_rises}

-- ---- casts that are there

pub cast_of_is_in : (c : CastFields) (casts : List CastFields) → IsCastOf c casts → IsIn c casts
cast_of_is_in c [] h = h
cast_of_is_in c (d ∷ casts) (inl same) = inl same
cast_of_is_in c (d ∷ casts) (inr later) = inr (cast_of_is_in c casts later)

pub in_is_cast_of : (c : CastFields) (casts : List CastFields) → IsIn c casts → IsCastOf c casts
in_is_cast_of c [] h = h
in_is_cast_of c (d ∷ casts) (inl same) = inl same
in_is_cast_of c (d ∷ casts) (inr later) = inr (in_is_cast_of c casts later)

-- the cast that carries a message
pub record IsCarriedBy (casts : List CastFields) (i n : ℕ) : Type 0 where
  pub cast : CastFields
  pub there : IsIn cast casts
  pub sender_is : cast.sender ≡ i
  pub covers : Covers cast n

pub cast_carrying : (casts : List CastFields) (i n : ℕ) → is_there casts i n ≡ true → IsCarriedBy casts i n
cast_carrying casts i n h =
    let m = message_there casts i n h in
    let by = carrier casts m.found m.there in
    let of = carried_is_of_cast by.0 m.found by.2 in
    let low = of.low in
    let high = of.high in
    let number = m.number_is in
    record { cast = by.0; there = by.1; sender_is = sym of.sender_is ∙ m.sender_is; covers = (omega (arith, low, number), omega (arith, high, number)) }

-- a number that a cast covers
pub covered_is_there : (casts : List CastFields) (c : CastFields) (i n : ℕ) → IsSome c.load → IsIn c casts → c.sender ≡ i → Covers c n → is_there casts i n ≡ true
covered_is_there casts c i n some there sender covers =
    let m = each_number_is_carried c n some covers.0 covers.1 in
    message_is_there casts m.found i n (carried_there casts c m.found there m.there) (m.sender_is ∙ sender) m.number_is

waiting_is_there : (casts : List CastFields) (i taken key n : ℕ) (c : CastFields) → IsSingle c → IsWaiting casts i taken key c → Covers c n → is_there casts i n ≡ true
waiting_is_there casts i taken key n c single w covers = covered_is_there casts c i n (one_has_some c.load single) (cast_of_is_in c casts w.there) w.sender_is covers

-- what waits still does with one more cast
waits_on : (casts : List CastFields) (i taken n : ℕ) (c d : CastFields) → IsWaiting casts i taken n d → IsWaiting (casts ++ c ∷ []) i taken n d
waits_on casts i taken n c d w = record {
  there = in_is_cast_of d (casts ++ c ∷ []) (in_front d casts (c ∷ []) (cast_of_is_in d casts w.there));
  sender_is = w.sender_is;
  number_is = w.number_is;
  not_taken = w.not_taken;
}

-- what waits with one more cast did before, or is this one
pub waits_or_new : (casts : List CastFields) (i taken n : ℕ) (c d : CastFields) → IsWaiting (casts ++ c ∷ []) i taken n d → IsWaiting casts i taken n d ⊎ (d ≡ c)
waits_or_new casts i taken n c d w = elim (in_push d c casts (cast_of_is_in d (casts ++ c ∷ []) w.there)) [
  | inl old ↦ inl (record { there = in_is_cast_of d casts old; sender_is = w.sender_is; number_is = w.number_is; not_taken = w.not_taken })
  | inr same ↦ inr same
]

-- ---- what it tells

kept_is_there : (casts : List CastFields) (i number : ℕ) (buffer : Buffer) → HoldsWhatWaits casts i buffer → IsKept buffer number → is_there casts i number ≡ true
kept_is_there casts i number buffer h is =
    let waits = (h.kept (first_number is.cast) is.cast).0 is.kept in
    waiting_is_there casts i buffer.taken (first_number is.cast) number is.cast (h.single is.cast waits.there waits.sender_is) waits is.covers

pub received_is_there : ReceivedIsThere
received_is_there casts i number buffer h low = (
  λ received. elim received [
    | inl le ↦ let taken = h.taken in expanded_are_there casts i number low (omega (arith, le, taken))
    | inr kept ↦ kept_is_there casts i number buffer h kept
  ],
  λ there. elim (cases_lt buffer.taken number) [
    | inr le ↦ inl le
    | inl lt ↦
        let c = cast_carrying casts i number there in
        let single = h.single c.cast (in_is_cast_of c.cast casts c.there) c.sender_is in
        let begins : first_number c.cast ≡ number = omega (arith, c.covers.0, c.covers.1, last_is_first c.cast single) in
        inr (record {
          cast = c.cast;
          kept = (h.kept (first_number c.cast) c.cast).1 (record { there = in_is_cast_of c.cast casts c.there; sender_is = c.sender_is; number_is = refl; not_taken = omega (arith, lt, begins) });
          covers = subst (Covers c.cast) begins (covers_first c.cast (one_has_some c.cast.load single));
        })
  ],
)

-- what it lacks is not there
lacking_is_not_there : (casts : List CastFields) (i number : ℕ) (buffer : Buffer) → HoldsWhatWaits casts i buffer → IsLacking buffer number → is_there casts i number ≡ false
lacking_is_not_there casts i number buffer h lacking = false_from_ne_true (is_there casts i number) (λ there.
    let not_taken = lacking.not_taken in
    elim ((received_is_there casts i number buffer h (omega (arith, not_taken))).1 there) [
      | inl le ↦ omega (arith, le, not_taken)
      | inr kept ↦ lacking.not_kept kept
    ])

-- and no cast begins there
pub none_begins : (casts : List CastFields) (i number : ℕ) (buffer : Buffer) (o : Option CastFields) → HoldsWhatWaits casts i buffer → IsLacking buffer number → map.get buffer.kept number ≡ o → o ≡ None
none_begins casts i number buffer None h lacking is = refl
none_begins casts i number buffer (Some d) h lacking is =
    let waits = (h.kept number d).0 is in
    let begins = waits.number_is in
    let some = one_has_some d.load (h.single d waits.there waits.sender_is) in
    absurd (lacking.not_kept (record { cast = d; kept = ap (map.get buffer.kept) begins ∙ is; covers = subst (Covers d) begins (covers_first d some) }))

-- no cast that waits covers the number behind what was taken, where none begins there
next_is_not_kept : (casts : List CastFields) (i : ℕ) (buffer : Buffer) → HoldsWhatWaits casts i buffer → map.get buffer.kept (buffer.taken + 1) ≡ None → ¬ IsKept buffer (buffer.taken + 1)
next_is_not_kept casts i buffer h none is =
    let above = ((h.kept (first_number is.cast) is.cast).0 is.kept).not_taken in
    let begins : first_number is.cast ≡ buffer.taken + 1 = omega (arith, above, is.covers.0) in
    let both : None ≡ Some is.cast = sym none ∙ sym (ap (map.get buffer.kept) begins) ∙ is.kept in
    cc

-- over casts that carry the messages of the facts
module _ (seat : Identity) (facts : List Fact) (casts : List CastFields) (same : messages_in casts ≡ messages_in (casts_in facts)) (i : ℕ) (buffer : Buffer) (h : HoldsWhatWaits casts i buffer) (window : buffer.window ≡ seat.group.window) where
  lacks_what_is_missing : (number : ℕ) → buffers.IsMissing buffer (delivered seat facts i) (known facts i) number ↔ IsMissing seat facts i number
  lacks_what_is_missing number =
      let there : is_there casts i number ≡ is_there (casts_in facts) i number = there_by_messages casts (casts_in facts) i number same in
      let count : expanded_count casts i ≡ expanded_count (casts_in facts) i = counts_by_messages casts (casts_in facts) i same in (
        λ m.
            let not_taken = m.lacking.not_taken in
            let in_window = m.in_window in
            let none = lacking_is_not_there casts i number buffer h m.lacking in
            let above = lacking_is_above casts i number (omega (arith, not_taken)) none in
            record {
              above = omega (arith, above, count);
              heard_of = m.heard_of;
              in_window = omega (arith, in_window, window);
              not_there = sym there ∙ none;
            },
        λ m.
            let above = m.above in
            let taken = h.taken in
            let in_window = m.in_window in
            record {
              lacking = record { not_taken = omega (arith, above, taken, count); not_kept = λ kept. both_ways (is_there casts i number) (there ∙ m.not_there) (kept_is_there casts i number buffer h kept) };
              heard_of = m.heard_of;
              in_window = omega (arith, in_window, window);
            },
      )

  ranges_of_what_is_missing : (ranges : List Range) → AreRangesOf (buffers.IsMissing buffer (delivered seat facts i) (known facts i)) ranges → ranges ≡ ranges_of (missing seat facts i)
  ranges_of_what_is_missing ranges are =
      one_list (IsMissing seat facts i) ranges (ranges_of (missing seat facts i)) (record {
        exactly = λ n. (
          (λ some. (lacks_what_is_missing n).0 ((are.exactly n).0 some)),
          (λ m. (are.exactly n).1 ((lacks_what_is_missing n).1 m)),
        );
        filled = are.filled;
        apart = are.apart;
      }) (ranges_of_missing seat facts i)

pub missing_is_lacked : MissingIsLacked
missing_is_lacked seat facts i number buffer h window = lacks_what_is_missing seat facts (singles_in facts) (same_messages (casts_in facts)) i buffer h window number

pub ranges_of_singles_are_asked_for : RangesAreAskedFor
ranges_of_singles_are_asked_for seat facts i buffer ranges h window are = ranges_of_what_is_missing seat facts (singles_in facts) (same_messages (casts_in facts)) i buffer h window ranges are

-- ---- what changes it

pub new_buffer_holds : NewBufferHolds
new_buffer_holds window i buffer new =
    let none : (number : ℕ) → map.get buffer.kept number ≡ None = λ number. ap (λ (m : map.FinMap nat_cmp CastFields). map.get m number) new.none_kept ∙ map.get-empty nat_cmp number in
    let taken = new.none_taken in
    record {
      single = λ c there sender. absurd there;
      taken = omega (arith, taken);
      kept = λ number c. ((λ is. absurd (let e : None ≡ Some c = sym (none number) ∙ is in cc)), (λ w. absurd w.there));
    }

-- what the map has with one more cast, and with one taken out
here_or_there : (a b : ℕ) (x y : Option CastFields) → a ≡ b → cond (eq_by_cmp nat_cmp a b) x y ≡ x
here_or_there a b x y e = rw (equal_numbers a b e) refl

there_or_here : (a b : ℕ) (x y : Option CastFields) → a ≢ b → cond (eq_by_cmp nat_cmp a b) x y ≡ y
there_or_here a b x y ne = rw (other_numbers a b ne) refl

some_cast : (c d : CastFields) → Some c ≡ Some d → c ≡ d
some_cast c d e = cc

module _ (casts : List CastFields) (i : ℕ) (c : CastFields) (old : Buffer) (h : HoldsWhatWaits casts i old) where
  module _ (own : c.sender ≡ i) (lacking : IsLacking old (first_number c)) where
    with_cast : (number : ℕ) (d : CastFields) → (map.get (map.insert old.kept (first_number c) c) number ≡ Some d) ↔ IsWaiting (casts ++ c ∷ []) i old.taken number d
    with_cast number d = elim (cases_eq number (first_number c)) [
      | inl e ↦
          let now : map.get (map.insert old.kept (first_number c) c) number ≡ Some c = map.get-insert nat_cmp_total old.kept (first_number c) c number ∙ here_or_there number (first_number c) (Some c) (map.get old.kept number) e in (
            λ is. subst (IsWaiting (casts ++ c ∷ []) i old.taken number) (some_cast c d (sym now ∙ is)) (record {
              there = in_is_cast_of c (casts ++ c ∷ []) (in_back c casts (c ∷ []) (inl refl));
              sender_is = own;
              number_is = sym e;
              not_taken = let above = lacking.not_taken in omega (arith, above, e);
            }),
            λ w. elim (waits_or_new casts i old.taken number c d w) [
              | inl before ↦ absurd (let none = none_begins casts i (first_number c) old (Some d) h lacking (ap (map.get old.kept) (sym e) ∙ (h.kept number d).1 before) in cc)
              | inr same ↦ now ∙ ap (λ (x : CastFields). Some x) (sym same)
            ],
          )
      | inr ne ↦
          let now : map.get (map.insert old.kept (first_number c) c) number ≡ map.get old.kept number = map.get-insert nat_cmp_total old.kept (first_number c) c number ∙ there_or_here number (first_number c) (Some c) (map.get old.kept number) ne in (
            λ is. waits_on casts i old.taken number c d ((h.kept number d).0 (sym now ∙ is)),
            λ w. elim (waits_or_new casts i old.taken number c d w) [
              | inl before ↦ now ∙ (h.kept number d).1 before
              | inr same ↦ absurd (ne (sym w.number_is ∙ ap first_number same))
            ],
          )
    ]

  module _ (next : IsNext old c) where
    is_next : IsWaiting casts i old.taken (first_number c) c
    is_next = (h.kept (first_number c) c).0 next.kept

    single : IsSingle c
    single = h.single c is_next.there is_next.sender_is

    ends : last_number c ≡ first_number c
    ends = last_is_first c single

    -- as it carries one message, what waits behind it begins above its last number
    without_cast : (number : ℕ) (d : CastFields) → (map.get (map.remove old.kept (first_number c)) number ≡ Some d) ↔ IsWaiting casts i (last_number c) number d
    without_cast number d =
        let follows = next.follows in
        elim (cases_eq number (first_number c)) [
          | inl e ↦
              let now : map.get (map.remove old.kept (first_number c)) number ≡ None = map.get-remove nat_cmp_total old.kept (first_number c) number ∙ here_or_there number (first_number c) None (map.get old.kept number) e in (
                λ is. absurd (let both : None ≡ Some d = sym now ∙ is in cc),
                λ w. absurd (let above = w.not_taken in omega (arith, above, e, ends)),
              )
          | inr ne ↦
              let now : map.get (map.remove old.kept (first_number c)) number ≡ map.get old.kept number = map.get-remove nat_cmp_total old.kept (first_number c) number ∙ there_or_here number (first_number c) None (map.get old.kept number) ne in (
                λ is.
                    let w = (h.kept number d).0 (sym now ∙ is) in
                    let above = w.not_taken in
                    record { there = w.there; sender_is = w.sender_is; number_is = w.number_is; not_taken = omega (arith, above, follows, ne, ends) },
                λ w.
                    let above = w.not_taken in
                    now ∙ (h.kept number d).1 (record { there = w.there; sender_is = w.sender_is; number_is = w.number_is; not_taken = omega (arith, above, follows, ends) }),
              )
        ]

    all_taken : last_number c ≤ expanded_count casts i
    all_taken = run_at_most casts i (last_number c) (λ k low high. elim (cases_lt old.taken k) [
      | inl later ↦
          let follows = next.follows in
          waiting_is_there casts i old.taken (first_number c) k c single is_next (omega (arith, later, follows), high)
      | inr before ↦ let taken = h.taken in expanded_are_there casts i k low (omega (arith, before, taken))
    ])

pub kept_single_waits : KeptCastWaits
kept_single_waits casts i c old new h own single lacking after =
    let taken = h.taken in
    let rises = count_rises casts (c ∷ []) i in
    subst (HoldsWhatWaits (casts ++ c ∷ []) i) (sym after) (record {
      single = λ d there sender. elim (in_push d c casts (cast_of_is_in d (casts ++ c ∷ []) there)) [
        | inl before ↦ h.single d (in_is_cast_of d casts before) sender
        | inr this ↦ subst IsSingle (sym this) single
      ];
      taken = omega (arith, taken, rises);
      kept = with_cast casts i c old h own lacking;
    })

pub taken_cast_is_there : TakenCastIsThere
taken_cast_is_there casts i c old new h next takes =
    let w = is_next casts i c old h next in (
      w.there,
      w.sender_is,
      subst (HoldsWhatWaits casts i) (sym takes) (record { single = h.single; taken = all_taken casts i c old h next; kept = without_cast casts i c old h next }),
    )

pub others_do_not_wait : OthersDoNotWait
others_do_not_wait casts i c buffer h other =
    let taken = h.taken in
    let same = others_expand_nothing casts c i other in
    record {
      single = λ d there sender. elim (in_push d c casts (cast_of_is_in d (casts ++ c ∷ []) there)) [
        | inl before ↦ h.single d (in_is_cast_of d casts before) sender
        | inr new ↦ absurd (other (ap (λ (x : CastFields). x.sender) (sym new) ∙ sender))
      ];
      taken = omega (arith, taken, same);
      kept = λ number d. (
        (λ is. waits_on casts i buffer.taken number c d ((h.kept number d).0 is)),
        (λ w. elim (waits_or_new casts i buffer.taken number c d w) [
          | inl before ↦ (h.kept number d).1 before
          | inr new ↦ absurd (other (ap (λ (x : CastFields). x.sender) (sym new) ∙ w.sender_is))
        ]),
      );
    }

pub all_is_taken : AllIsTaken
all_is_taken casts i buffer h none =
    let taken = h.taken in
    sym (run_is_expanded casts i buffer.taken (λ k low high. expanded_are_there casts i k low (omega (arith, high, taken)))
    (lacking_is_not_there casts i (buffer.taken + 1) buffer h (record { not_taken = omega arith; not_kept = next_is_not_kept casts i buffer h none })))

-- ---- the singles of one cast

-- what a buffer lacked it lacks when a single of another number was kept
pub lacks_still : (number : ℕ) (c : CastFields) (old new : Buffer) → IsSingle c → IsAfter old c Kept new → first_number c < number → IsLacking old number → IsLacking new number
lacks_still number c old new single after other lacking =
    subst (λ (b : Buffer). IsLacking b number) (sym after) (record {
      not_taken = lacking.not_taken;
      not_kept = λ is. elim (cases_eq (first_number is.cast) (first_number c)) [
        | inl e ↦
            let now : map.get (map.insert old.kept (first_number c) c) (first_number is.cast) ≡ Some c = map.get-insert nat_cmp_total old.kept (first_number c) c (first_number is.cast) ∙ here_or_there (first_number is.cast) (first_number c) (Some c) (map.get old.kept (first_number is.cast)) e in
            let same = some_cast c is.cast (sym now ∙ is.kept) in
            let ends : last_number c ≡ last_number is.cast = ap last_number same in
            omega (arith, ends, last_is_first c single, other, is.covers.1)
        | inr ne ↦
            let now : map.get (map.insert old.kept (first_number c) c) (first_number is.cast) ≡ map.get old.kept (first_number is.cast) = map.get-insert nat_cmp_total old.kept (first_number c) c (first_number is.cast) ∙ there_or_here (first_number is.cast) (first_number c) (Some c) (map.get old.kept (first_number is.cast)) ne in
            lacking.not_kept (record { cast = is.cast; kept = sym now ∙ is.kept; covers = is.covers })
      ];
    })

kept_in_turn : (casts : List CastFields) (i n : ℕ) (singles : List CastFields) (old new : Buffer) → HoldsWhatWaits casts i old → NumberedFrom i n singles → AllByRecursion IsSingle singles
    → ((number : ℕ) → n ≤ number → number < n + length singles → IsLacking old number) → AreKept old singles new → HoldsWhatWaits (casts ++ singles) i new
kept_in_turn casts i n [] old new h numbered single lacks kept = subst (HoldsWhatWaits (casts ++ []) i) (sym kept) (subst (λ (cs : List CastFields). HoldsWhatWaits cs i old) (sym (append-nil casts)) h)
kept_in_turn casts i n (c ∷ singles) old new h numbered single lacks kept =
    let begins = numbered.1 in
    let alone = single.0 in
    let mid = kept.0 in
    let lacking = lacks (first_number c) (omega (arith, begins)) (omega (arith, begins)) in
    let one = kept_single_waits casts i c old mid h numbered.0 alone lacking kept.1 in
    let rest : NumberedFrom i (n + 1) singles = subst (λ (k : ℕ). NumberedFrom i (k + 1) singles) (last_is_first c alone ∙ begins) numbered.2 in
    subst (λ (cs : List CastFields). HoldsWhatWaits cs i new) (append_assoc casts (c ∷ []) singles)
    (kept_in_turn (casts ++ c ∷ []) i (n + 1) singles mid new one rest single.1
    (λ number low high. lacks_still number c old mid alone kept.1 (omega (arith, low, begins)) (lacks number (omega (arith, low)) (omega (arith, high)))) kept.2)

pub kept_singles_wait : KeptSinglesWait
kept_singles_wait casts c old new h lacking kept =
    kept_in_turn casts c.sender (first_number c) (singles_of c) old new h (singles_are_numbered c) (singles_of_one c)
    (λ number low high. lacking number low (omega (arith, high, singles_are_as_many c, carried_up_to_the_last c (omega (arith, low, high, singles_are_as_many c, carries_payloads c))))) kept

others_in_turn : (casts : List CastFields) (sender i n : ℕ) (others : List CastFields) (buffer : Buffer) → HoldsWhatWaits casts i buffer → sender ≢ i → NumberedFrom sender n others → HoldsWhatWaits (casts ++ others) i buffer
others_in_turn casts sender i n [] buffer h other numbered = subst (λ (cs : List CastFields). HoldsWhatWaits cs i buffer) (sym (append-nil casts)) h
others_in_turn casts sender i n (c ∷ others) buffer h other numbered =
    subst (λ (cs : List CastFields). HoldsWhatWaits cs i buffer) (append_assoc casts (c ∷ []) others)
    (others_in_turn (casts ++ c ∷ []) sender i (last_number c + 1) others buffer (others_do_not_wait casts i c buffer h (λ e. other (sym numbered.0 ∙ e))) other numbered.2)

pub other_singles_do_not_wait : OtherSinglesDoNotWait
other_singles_do_not_wait casts i c buffer h other = others_in_turn casts c.sender i (first_number c) (singles_of c) buffer h other (singles_are_numbered c)
