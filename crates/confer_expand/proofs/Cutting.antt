-- Lines that end in pieces of a text.
use Rattle.std.proofs.Common.{◌≡◌, ℕ, zero, suc, ◌+◌, Bool, true, false, ◌<◌, ◌≤◌, List, [], ◌∷◌, ◌++◌, length, take, drop, refl, sym, ap, ap₂, ◌∙◌, arith, append_assoc}
use Rattle.std.specs.Prelude.{◌==◌, if◌then◌else◌, slice_index, Some, None}
use Rattle.std.specs.List.{AllByRecursion}
use Rattle.std.proofs.lemmas.Bool.{eqb-true, false_from_ne_true}
use Rattle.std.proofs.lemmas.List.{append-nil, take-append-drop, drop_more, take_all}
use Rattle.memchr.specs.Find.{IsFirstByte, is_byte}
use Rattle.confer_expand.specs.Lines.{line_feed, ended, unended}

-- ---- one piece behind another

ended_by : (begun a b : List ℕ) (x : ℕ) (is : Bool) → ended [] (a ++ b) ≡ ended [] a ++ ended (unended [] a) b
    → ended (begun ++ x ∷ []) (a ++ b) ≡ ended (begun ++ x ∷ []) a ++ ended (unended (begun ++ x ∷ []) a) b
    → (if is then begun ∷ ended [] (a ++ b) else ended (begun ++ x ∷ []) (a ++ b))
    ≡ (if is then begun ∷ ended [] a else ended (begun ++ x ∷ []) a) ++ ended (if is then unended [] a else unended (begun ++ x ∷ []) a) b
ended_by begun a b x true h i = ap (λ (ls : List (List ℕ)). begun ∷ ls) h
ended_by begun a b x false h i = i

pub ended-append : (begun a b : List ℕ) → ended begun (a ++ b) ≡ ended begun a ++ ended (unended begun a) b
unfolding ended unended
ended-append begun [] b = refl
ended-append begun (x ∷ a) b = ended_by begun a b x (x == line_feed) (ended-append [] a b) (ended-append (begun ++ x ∷ []) a b)

unended_by : (begun a b : List ℕ) (x : ℕ) (is : Bool) → unended [] (a ++ b) ≡ unended (unended [] a) b
    → unended (begun ++ x ∷ []) (a ++ b) ≡ unended (unended (begun ++ x ∷ []) a) b
    → (if is then unended [] (a ++ b) else unended (begun ++ x ∷ []) (a ++ b)) ≡ unended (if is then unended [] a else unended (begun ++ x ∷ []) a) b
unended_by begun a b x true h i = h
unended_by begun a b x false h i = i

pub unended-append : (begun a b : List ℕ) → unended begun (a ++ b) ≡ unended (unended begun a) b
unfolding ended unended
unended-append begun [] b = refl
unended-append begun (x ∷ a) b = unended_by begun a b x (x == line_feed) (unended-append [] a b) (unended-append (begun ++ x ∷ []) a b)

-- ---- bytes with no line feed

pub HasNoFeed : List ℕ → Type 0
HasNoFeed bytes = AllByRecursion (λ b. (b == line_feed) ≡ false) bytes

pub ended-no_feed : (begun bytes : List ℕ) → HasNoFeed bytes → ended begun bytes ≡ []
unfolding ended HasNoFeed
ended-no_feed begun [] h = refl
ended-no_feed begun (x ∷ bytes) h = rw h.0 (ended-no_feed (begun ++ x ∷ []) bytes h.1)

pub unended-no_feed : (begun bytes : List ℕ) → HasNoFeed bytes → unended begun bytes ≡ begun ++ bytes
unfolding unended HasNoFeed
unended-no_feed begun [] h = sym (append-nil begun)
unended-no_feed begun (x ∷ bytes) h = rw h.0 (unended-no_feed (begun ++ x ∷ []) bytes h.1 ∙ append_assoc begun (x ∷ []) bytes)

no_feed_before : (bytes : List ℕ) (n : ℕ) → ((k : ℕ) → k < n → (slice_index bytes k == line_feed) ≡ false) → n ≤ length bytes → HasNoFeed (take n bytes)
unfolding HasNoFeed
no_feed_before bytes zero h le = tt
no_feed_before [] (suc n) h le = absurd (omega arith)
no_feed_before (x ∷ bytes) (suc n) h le = (h 0 (omega arith), no_feed_before bytes n (λ k lt. h (suc k) (omega arith)) (omega arith))

-- no line feed is found
pub none_found : (bytes : List ℕ) → IsFirstByte (is_byte line_feed) bytes None → HasNoFeed bytes
none_found bytes found =
    rw (← take_all (length bytes) bytes (omega arith)) (no_feed_before bytes (length bytes) (λ k lt. false_from_ne_true (slice_index bytes k == line_feed) (found k (omega arith) lt)) (omega arith))

-- a line, its line feed and what follows
cut : (bytes : List ℕ) (i : ℕ) → IsFirstByte (is_byte line_feed) bytes (Some i) → bytes ≡ take i bytes ++ (line_feed ∷ drop (i + 1) bytes)
cut bytes i found =
    let is : slice_index bytes i ≡ line_feed = eqb-true (slice_index bytes i) line_feed found.1 in
    sym (take-append-drop i bytes) ∙ ap (λ (t : List ℕ). take i bytes ++ t) (drop_more bytes i 0 found.0.high ∙ ap (λ (b : ℕ). b ∷ drop (i + 1) bytes) is)

no_feed_in_line : (bytes : List ℕ) (i : ℕ) → IsFirstByte (is_byte line_feed) bytes (Some i) → HasNoFeed (take i bytes)
no_feed_in_line bytes i found =
    let lt : i < length bytes = found.0.high in
    no_feed_before bytes i (λ k lt. false_from_ne_true (slice_index bytes k == line_feed) (found.0.before k (omega arith) lt)) (omega arith)

pub ended-line : (begun bytes : List ℕ) (i : ℕ) → IsFirstByte (is_byte line_feed) bytes (Some i)
    → ended begun bytes ≡ (begun ++ take i bytes) ∷ ended [] (drop (i + 1) bytes)
unfolding ended
ended-line begun bytes i found =
    let h = no_feed_in_line bytes i found in
    ap (ended begun) (cut bytes i found) ∙ ended-append begun (take i bytes) (line_feed ∷ drop (i + 1) bytes)
    ∙ ap₂ (λ (ls : List (List ℕ)) (t : List ℕ). ls ++ (t ∷ ended [] (drop (i + 1) bytes))) (ended-no_feed begun (take i bytes) h) (unended-no_feed begun (take i bytes) h)

pub unended-line : (begun bytes : List ℕ) (i : ℕ) → IsFirstByte (is_byte line_feed) bytes (Some i) → unended begun bytes ≡ unended [] (drop (i + 1) bytes)
unfolding unended
unended-line begun bytes i found =
    ap (unended begun) (cut bytes i found) ∙ unended-append begun (take i bytes) (line_feed ∷ drop (i + 1) bytes)
