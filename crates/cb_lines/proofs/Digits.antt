-- The bytes of words: each is above the space, and those of numbers and frames are above the point.
use Rattle.std.proofs.Common.{◌≡◌, ℕ, zero, suc, ◌/◌, ◌%◌, ◌<◌, ◌≤◌, ◌^◌, false, List, [], ◌∷◌, ◌++◌, length, get_or, refl, sym, ap, ◌∙◌, arith, Some, Ok, Err, Bor, append_assoc, map, ◌⊎◌, inl, inr}
use Rattle.std.specs.Prelude.{IsUtf8, IsAscii, ◌==◌, slice_index, Option, MatchOption}
use Rattle.std.specs.List.{AllByRecursion, All}
use Rattle.std.specs.Fmt.{decimal}
use Rattle.std.proofs.lemmas.Str.{IsUtf8-from_ascii, IsAscii-append}
use Rattle.std.proofs.lemmas.Str.Pattern.{IsSplitOnceResult, split_after}
use Rattle.std.proofs.lemmas.Fmt.{IsAscii-decimal, decimal_by_steps, decimal_injective}
use Rattle.std.proofs.lemmas.Bool.Decides.{nat_tests}
use Rattle.hex.specs.declared.error.FromHexError.{FromHexError}
use Rattle.hex.specs.Hex.{encode_with, encode_lower, decode_of, lower_digits, hex_digit_value}
use Rattle.hex.proofs.HexLemmas.{IsDigits-lower_digits, decode_of-encode_lower, decode_of-same}
use Rattle.cb_times.specs.declared.name.Name.{Name}
use Rattle.cb_times.specs.Name.{name_text}
use Rattle.hex.specs.declared.error.FromHexError.TheVariants as hex_faults
use Rattle.cb_lines.specs.declared.fault.LineFault.{LineFault}
use Rattle.cb_lines.specs.declared.fault.LineFault.TheVariants.{NoLine, NoMemory}
use Rattle.cb_lines.specs.Bounds.{IsFrame, IsName}
use Rattle.cb_lines.specs.Finding.{IsNumber, FindsNone}

-- each byte is above k
abbrev pub Above : ℕ → List ℕ → Type 0
Above k bytes = AllByRecursion (λ b. k < b) bytes

pub above_less : (j k : ℕ) (bytes : List ℕ) → j ≤ k → Above k bytes → Above j bytes
above_less j k [] less above = tt
above_less j k (b ∷ bytes) less above = (omega (arith, less, above.0), above_less j k bytes less above.1)

pub above_append : (k : ℕ) (front back : List ℕ) → Above k front → Above k back → Above k (front ++ back)
above_append k [] back f b = b
above_append k (x ∷ front) back f b = (f.0, above_append k front back f.1 b)

-- a byte that is not above k is none of them
pub not_among : (c k : ℕ) (bytes : List ℕ) → c ≤ k → Above k bytes → All (λ x. (x == c) ≡ false) bytes
not_among c k [] less above i d in_it = absurd (omega (arith, in_it))
not_among c k (b ∷ bytes) less above zero d in_it = grind (arith, nat_tests, above.0, less)
not_among c k (b ∷ bytes) less above (suc i) d in_it = not_among c k bytes less above.1 i d (omega (arith, in_it))

pub not_at : (c k : ℕ) (bytes : List ℕ) → c ≤ k → Above k bytes → (i : ℕ) → i < length bytes → ¬ (get_or bytes i 0 ≡ c)
not_at c k [] less above i in_it is = omega (arith, in_it)
not_at c k (b ∷ bytes) less above zero in_it is = omega (arith, above.0, is, less)
not_at c k (b ∷ bytes) less above (suc i) in_it is = not_at c k bytes less above.1 i (omega (arith, in_it)) is

-- ---- numbers

decimal_is_ascii : (n : ℕ) → n < 2 ^ 32 → IsAscii (decimal n)
decimal_is_ascii n fits = IsAscii-decimal n (omega (arith, fits))

pub decimal_is_utf8 : (n : ℕ) → n < 2 ^ 32 → IsUtf8 (decimal n)
decimal_is_utf8 n fits = IsUtf8-from_ascii (decimal n) (decimal_is_ascii n fits)

pub decimal_is_above : (n : ℕ) → n < 2 ^ 32 → Above 47 (decimal n)
decimal_is_above n fits =
    decimal_by_steps (λ (n : ℕ) (ds : List ℕ). Above 47 ds) (λ n small. (omega arith, tt)) (λ n ds big above. above_append 47 ds _ above (omega arith, tt)) n (omega (arith, fits))

-- ---- frames

digit_is_above : (c d : ℕ) → hex_digit_value c ≡ Some d → 47 < c
digit_is_above c d e = grind (arith, nat_tests)

pub frame_is_above : (bytes : List ℕ) → ((i : ℕ) → slice_index bytes i < 256) → Above 47 (encode_lower bytes)
unfolding encode_with
frame_is_above [] fits = tt
frame_is_above (b ∷ bytes) fits =
    let byte : b < 256 = fits 0 in
    let high = digit_is_above (slice_index lower_digits (b / 16)) _ (IsDigits-lower_digits (b / 16) (omega arith)) in
    let low = digit_is_above (slice_index lower_digits (b % 16)) _ (IsDigits-lower_digits (b % 16) (omega arith)) in
    (high, (low, frame_is_above bytes (λ i. fits (suc i))))

-- what the spelling of a frame is decoded to
pub frame_is_decoded : (word frame bytes : List ℕ) → IsFrame frame → word ≡ encode_lower frame → decode_of word ≡ Ok bytes → bytes ≡ frame
frame_is_decoded word frame bytes is e decoded =
    let there : decode_of word ≡ Ok frame = ap decode_of e ∙ decode_of-encode_lower frame is.bytes in
    decode_of-same word bytes frame decoded there

pub frame_is_no_error : (word frame : List ℕ) (fault : FromHexError) → IsFrame frame → word ≡ encode_lower frame → ¬ (decode_of word ≡ Err fault)
frame_is_no_error word frame fault is e refused =
    let there : decode_of word ≡ Ok frame = ap decode_of e ∙ decode_of-encode_lower frame is.bytes in
    cc (there, refused)

pub frame_is_not_found : (word : List ℕ) (fault : FromHexError) (r : LineFault) → (fault ≡ hex_faults.OutOfMemory) ⊎ (decode_of word ≡ Err fault) → (r ≡ NoLine → ¬ (fault ≡ hex_faults.OutOfMemory)) → FindsNone IsFrame encode_lower word r
frame_is_not_found word fault NoMemory why kept = tt
frame_is_not_found word fault NoLine (inl memory) kept = λ frame is e. kept refl memory
frame_is_not_found word fault NoLine (inr refused) kept = λ frame is e. frame_is_no_error word frame fault is e refused

-- ---- names

module _ (name : Name) (text : List ℕ) (is : IsName name) (e : text ≡ name_text name) where
  parts : text ≡ decimal name.sender ++ 46 ∷ decimal name.number
  parts = e ∙ append_assoc (decimal name.sender) (46 ∷ []) (decimal name.number)

  -- a name is cut at its point
  pub name_is_cut : (r : Option (Bor (List ℕ) × Bor (List ℕ))) → IsSplitOnceResult 46 text r → MatchOption r ⊥ (λ x. (x.0.now ≡ decimal name.sender) × (x.1.now ≡ decimal name.number))
  name_is_cut r cut =
      split_after 46 text (decimal name.sender) (decimal name.number) r cut (omega arith) parts
      (not_at 46 47 (decimal name.sender) (omega arith) (decimal_is_above name.sender (omega (arith, is.sender))))

-- what is found is the one that is spelled so
pub one_number : (m n : ℕ) (word : List ℕ) → IsNumber m → IsNumber n → word ≡ decimal m → word ≡ decimal n → m ≡ n
one_number m n word p q e f = decimal_injective m n (omega (arith, p)) (omega (arith, q)) (sym e ∙ f)

point_is_ascii : IsAscii (46 ∷ [])
point_is_ascii zero = omega arith
point_is_ascii (suc i) = omega arith

pub name_is_utf8 : (name : Name) → IsName name → IsUtf8 (name_text name)
name_is_utf8 name is =
    let sender = decimal_is_ascii name.sender (omega (arith, is.sender)) in
    let number = decimal_is_ascii name.number is.number in
    IsUtf8-from_ascii (name_text name) (IsAscii-append (decimal name.sender ++ 46 ∷ []) (decimal name.number) (IsAscii-append (decimal name.sender) (46 ∷ []) sender point_is_ascii) number)

pub nth_name : (words : List (Bor (List ℕ))) (names : List Name) (i : ℕ) (w : Bor (List ℕ)) → AllByRecursion IsName names → map (λ word. word.now) words ≡ map name_text names → i < length words
    → (name : Name) × IsName name × ((get_or words i w).now ≡ name_text name)
nth_name [] names i w each e in_it = absurd (omega (arith, in_it))
nth_name (x ∷ words) [] i w each e in_it = absurd (cc e)
nth_name (x ∷ words) (n ∷ names) zero w each e in_it = (n, each.0, cc e)
nth_name (x ∷ words) (n ∷ names) (suc i) w each e in_it = nth_name words names i w each.1 (cc e) (omega (arith, in_it))
