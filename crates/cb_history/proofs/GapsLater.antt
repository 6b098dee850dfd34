-- What one more fact does to what is missing.
use Rattle.std.proofs.Common.{◌≡◌, ℕ, ◌+◌, ◌<◌, ◌≤◌, Bool, true, false, eqb, ltb, ◌-◌, ◌&&◌, List, [], ◌∷◌, ◌++◌, refl, sym, ap, ◌∙◌, arith, inl, inr, ◌⊎◌}
use Rattle.std.specs.List.{list_any}
use Rattle.std.proofs.lemmas.Bool.{eqb-true, ltb-true, ltb-false}
use Rattle.cb_frames.specs.Fields.{CastFields, Carried, messages_of}
use Rattle.cb_history.specs.Facts.{Fact, casts_in, cast_in, messages_in, is_there}
use Rattle.cb_history.specs.View.{is_expanded, expanded_in}
use Rattle.cb_history.specs.Known.{known, expanded_count, missing}
use Rattle.cb_history.specs.Answers.{delivered}
use Rattle.cb_history.specs.GapLaws.{Has, MissingStays, MissingComes}
use Rattle.cb_history.proofs.Views.{filter_in, all_in_range, casts_in-append}
use Rattle.cb_history.proofs.Lists.{flat_map-append, or_false}
use Rattle.cb_history.proofs.Rising.{all_at_most, known_rises}
use Rattle.cb_history.proofs.Times.{count_grows}
use Rattle.cb_history.proofs.Gaps.{missing_is_exact}

-- the casts up to a message that is expanded are there
pub there_below : (casts : List CastFields) (m : Carried) (n : ℕ) → is_expanded casts m ≡ true → 1 ≤ n → n ≤ m.number → is_there casts m.sender n ≡ true
there_below casts m n expanded low high = all_in_range (is_there casts m.sender) (0 + 1) (m.number - 0) n expanded (omega (arith, low)) (omega (arith, high))

number_below : (casts : List CastFields) (m : Carried) (i n : ℕ) (b : Bool) → ltb m.number n ≡ b → is_expanded casts m ≡ true → m.sender ≡ i → 1 ≤ n → is_there casts i n ≡ false → m.number < n
number_below casts m i n true e expanded own low lacks = ltb-true m.number n e
number_below casts m i n false e expanded own low lacks =
    absurd (let there = ap (λ (k : ℕ). is_there casts k n) (sym own) ∙ there_below casts m n expanded low (ltb-false m.number n e) in cc)

-- what is not there is above what is expanded
pub lacking_is_above : (casts : List CastFields) (i n : ℕ) → 1 ≤ n → is_there casts i n ≡ false → expanded_count casts i < n
lacking_is_above casts i n low lacks =
    let most = all_at_most (λ m. eqb m.sender i) (λ m. m.number) (n - 1) (expanded_in casts)
    (λ m there own. let below = number_below casts m i n (ltb m.number n) refl (filter_in (is_expanded casts) (messages_in casts) m there).0 (eqb-true m.sender i own) low lacks in omega (arith, below)) in
    omega (arith, low, most)

-- what was there before is there still
any_front : (p : Carried → Bool) (ms more : List Carried) → list_any p (ms ++ more) ≡ false → list_any p ms ≡ false
any_front p [] more h = refl
any_front p (m ∷ ms) more h =
    let both = or_false (p m) (list_any p (ms ++ more)) h in
    rw (both.0, any_front p ms more both.1) refl

lacked_before : (facts : List Fact) (f : Fact) (i n : ℕ) → is_there (casts_in (facts ++ f ∷ [])) i n ≡ false → is_there (casts_in facts) i n ≡ false
lacked_before facts f i n lacks =
    let named : Carried → Bool = λ m. eqb m.sender i && eqb m.number n in
    any_front named (messages_in (casts_in facts)) (messages_in (cast_in f))
    (sym (ap (λ (cs : List CastFields). is_there cs i n) (casts_in-append facts f) ∙ ap (list_any named) (flat_map-append messages_of (casts_in facts) (cast_in f))) ∙ lacks)

pub missing_stays : MissingStays
missing_stays seat facts f i n before lacks =
    let was = (missing_is_exact seat facts i n).0 before in
    let above = was.above in
    let heard_of = was.heard_of in
    let in_window = was.in_window in
    (missing_is_exact seat (facts ++ f ∷ []) i n).1 (record {
      above = lacking_is_above (casts_in (facts ++ f ∷ [])) i n (omega (arith, above)) lacks;
      heard_of = omega (arith, heard_of, known_rises facts f i);
      in_window = omega (arith, in_window, count_grows seat.group.size facts f i);
      not_there = lacks;
    })

pub missing_comes : MissingComes
missing_comes seat facts f i n after = came (ltb (known facts i) n) (ltb (delivered seat facts i + seat.group.window) n) refl refl
  where
    came : (a b : Bool) → ltb (known facts i) n ≡ a → ltb (delivered seat facts i + seat.group.window) n ≡ b → Has (missing seat facts i) n ⊎ (known facts i < n) ⊎ (delivered seat facts i + seat.group.window < n)
    came true b heard far = inr (inl (ltb-true (known facts i) n heard))
    came false true heard far = inr (inr (ltb-true (delivered seat facts i + seat.group.window) n far))
    came false false heard far =
        let is = (missing_is_exact seat (facts ++ f ∷ []) i n).0 after in
        let above = is.above in
        let lacks = lacked_before facts f i n is.not_there in
        inl ((missing_is_exact seat facts i n).1 (record {
          above = lacking_is_above (casts_in facts) i n (omega (arith, above)) lacks;
          heard_of = ltb-false (known facts i) n heard;
          in_window = ltb-false (delivered seat facts i + seat.group.window) n far;
          not_there = lacks;
        }))
