-- What a reader knows of the whole text, and what it says of it in the end.
use Rattle.std.proofs.Common.{◌≡◌, ℕ, zero, suc, ◌+◌, ◌<◌, List, [], ◌∷◌, ◌++◌, length, map, refl, sym, ap, subst, ◌∙◌, arith, append_assoc, length-append, Err}
use Rattle.std.specs.Prelude.{slice_index}
use Rattle.std.specs.List.{AllByRecursion, Contains, flat_map}
use Rattle.std.proofs.lemmas.List.{map-append, append-nil}
use Rattle.std.proofs.lemmas.Grind.{flat_map-append}
use Rattle.cb_history.specs.Group.{Parameters, AreParameters}
use Rattle.cb_history.specs.Facts.{EntryFields, TickEntry}
use Rattle.cb_trace.specs.Text.{HistoryFields, member_line, last_line, history_lines, trace_lines}
use Rattle.cb_lines.specs.Text.{group_line, entry_line, text_of_lines}
use Rattle.cb_trace.specs.Bounds.{IsHistory, AreHistories, IsTrace, Begins, IsFirstBadLine}
use Rattle.cb_lines.specs.Bounds.{IsEntry}
use Rattle.cb_trace.specs.Reading.{Progress, AtMember, AtEntry, AtEnd, lines_to, AreWhole, IsBegun, KeepsBounds, CanFollow, GoesOn, ReadTo, Reads, progress_at, IsAtEnd as StandsAtEnd}
use Rattle.cb_lines.specs.Text.{IsCut}
use Rattle.cb_trace.specs.declared.reading.Place.{Place}
use Rattle.cb_trace.specs.declared.reading.Place.TheVariants as places
use Rattle.cb_lines.specs.declared.fault.LineFault.{LineFault}
use Rattle.cb_lines.specs.declared.fault.LineFault.TheVariants.{NoLine, NoMemory}
use Rattle.cb_trace.specs.FaultText.{fault_at}
use Rattle.cb_lines.specs.Finding.{FindsNone}
use Rattle.cb_trace.proofs.Cut.{member_is_free}
use Rattle.cb_lines.proofs.Lists.{Free, free_from_none, one_feed, has_feed, all_append, all_front, all_back}
use Rattle.cb_lines.proofs.Lines.{group_is_free, entries_are_free, Fronted, fronted, no_lines, one_line, line_more}
use Rattle.cb_trace.proofs.Following.{can_follow, is_whole, IsAtEnd}

-- ---- every progress is the beginning of a trace

abbrev empty : Parameters → HistoryFields
empty g = record { group = g; me = 0; entries = [] }

empty_is : (g : Parameters) → IsHistory g (empty g)
empty_is g = record { group_is = refl; member = record { member = omega arith; entries = omega arith }; each = tt }

abbrev ticks : ℕ → List EntryFields
ticks zero = []
ticks (suc n) = TickEntry (0 ∷ []) ∷ ticks n

ticks_are : (n : ℕ) → AllByRecursion IsEntry (ticks n)
ticks_are zero = tt
ticks_are (suc n) = (record { some = omega arith; bytes = zeros }, ticks_are n)
  where
    zeros : (i : ℕ) → slice_index (0 ∷ []) i < 256
    zeros zero = omega arith
    zeros (suc i) = omega arith

length-ticks : (n : ℕ) → length (ticks n) ≡ n
length-ticks zero = refl
length-ticks (suc n) =
    let rest = length-ticks n in
    omega (arith, rest)

whole_begins : (g : Parameters) (hs : List HistoryFields) → AreWhole g hs → Begins (group_line g ∷ flat_map history_lines hs)
whole_begins g [] w =
    (g, empty g ∷ [], history_lines (empty g) ++ last_line ∷ [], record { parameters = w.parameters; some = omega arith; few = omega arith; each = (empty_is g, tt) }, refl)
whole_begins g (h ∷ hs) w = (g, h ∷ hs, last_line ∷ [], record { parameters = w.parameters; some = omega arith; few = w.few; each = w.each }, refl)

begun_begins : (g : Parameters) (hs : List HistoryFields) (me : ℕ) (entries : List EntryFields) (left : ℕ) → IsBegun g hs me entries left → Begins (group_line g ∷ (flat_map history_lines hs ++ (member_line me (length entries + left) ∷ map entry_line entries)))
begun_begins g hs me entries left b =
    let all = entries ++ ticks left in
    let count : length all ≡ length entries + left = omega (arith, length-append entries (ticks left), length-ticks left) in
    let h : HistoryFields = record { group = g; me = me; entries = all } in
    let is : IsHistory g h = record { group_is = refl; member = record { member = b.member.member; entries = omega (arith, b.member.entries, count) }; each = all_append IsEntry entries (ticks left) b.each (ticks_are left) } in
    let front = flat_map history_lines hs in
    let begun = member_line me (length entries + left) ∷ map entry_line entries in
    let rest = map entry_line (ticks left) in
    let lines : history_lines h ≡ begun ++ rest = ap (λ (n : ℕ). member_line me n ∷ map entry_line all) count ∙ ap (λ (l : List (List ℕ)). member_line me (length entries + left) ∷ l) (map-append entry_line entries (ticks left)) in
    let middle : flat_map history_lines (hs ++ h ∷ []) ≡ (front ++ begun) ++ rest =
    flat_map-append history_lines hs (h ∷ []) ∙ ap (λ (l : List (List ℕ)). front ++ l) (append-nil (history_lines h) ∙ lines) ∙ sym (append_assoc front begun rest) in (
      g,
      hs ++ h ∷ [],
      rest ++ last_line ∷ [],
      record { parameters = b.whole.parameters; some = omega (arith, length-append hs (h ∷ [])); few = omega (arith, length-append hs (h ∷ []), b.room); each = all_append (IsHistory g) hs (h ∷ []) b.whole.each (is, tt) },
      ap (λ (l : List (List ℕ)). group_line g ∷ (l ++ last_line ∷ [])) middle ∙ ap (λ (l : List (List ℕ)). group_line g ∷ l) (append_assoc (front ++ begun) rest (last_line ∷ [])),
    )

pub begins : (p : Progress) → KeepsBounds p → Begins (lines_to p)
unfolding lines_to
begins (AtMember g hs) b = whole_begins g hs b
begins (AtEntry g hs me entries left) b = begun_begins g hs me entries left b.0
begins (AtEnd g hs) b = (g, hs, [], b, sym (append-nil (trace_lines g hs)))

-- ---- no line has a line feed

histories_are_free : (g : Parameters) (hs : List HistoryFields) → AllByRecursion (IsHistory g) hs → AllByRecursion Free (flat_map history_lines hs)
histories_are_free g [] each = tt
histories_are_free g (h ∷ hs) each = (member_is_free h.me (length h.entries) each.0.member, all_append Free (map entry_line h.entries) (flat_map history_lines hs) (entries_are_free h.entries each.0.each) (histories_are_free g hs each.1))

pub trace_is_free : (g : Parameters) (hs : List HistoryFields) → AreHistories g hs → AllByRecursion Free (trace_lines g hs)
trace_is_free g hs are = (group_is_free g are.parameters, all_append Free (flat_map history_lines hs) (last_line ∷ []) (histories_are_free g hs are.each) ((refl, (refl, (refl, tt))), tt))

progress_is_free : (p : Progress) → KeepsBounds p → AllByRecursion Free (lines_to p)
progress_is_free p bounds =
    let b = begins p bounds in
    all_front Free (lines_to p) b.2 (subst (AllByRecursion Free) b.4 (trace_is_free b.0 b.1 b.3))

-- ---- lines of a text

begins_earlier : (lines : List (List ℕ)) → Begins lines → Begins []
begins_earlier lines b = (b.0, b.1, trace_lines b.0 b.1, b.3, refl)

-- ---- what is said in the end

module _ (text rest : List ℕ) (p : Progress) (n : ℕ) (to : ReadTo text rest p n) where
  of_trace : (g : Parameters) (hs : List HistoryFields) → AreHistories g hs → text ≡ text_of_lines (trace_lines g hs) → Fronted (lines_to p) (trace_lines g hs) rest
  of_trace g hs are e = fronted (lines_to p) (trace_lines g hs) rest (progress_is_free p to.bounds) (trace_is_free g hs are) (sym e ∙ to.parts)

  -- the line that comes can't stand there
  pub bad_line : (line after : List ℕ) → IsCut rest line after → ¬ CanFollow p line → IsFirstBadLine text n
  bad_line line after cut bad =
      record {
        good = lines_to p;
        rest = rest;
        parts = to.parts;
        place = to.place;
        begins = begins p to.bounds;
        bad = λ other behind e b. bad (subst (CanFollow p) (same other behind e b) (can_follow p other to.bounds b));
        no_trace = λ hs t. no_trace t.0 hs t.1 t.2;
      }
    where
      same : (other behind : List ℕ) → rest ≡ other ++ 10 ∷ behind → Begins (lines_to p ++ other ∷ []) → other ≡ line
      same other behind e b =
          let all = all_front Free (lines_to p ++ other ∷ []) b.2 (subst (AllByRecursion Free) b.4 (trace_is_free b.0 b.1 b.3)) in
          let free = all_back Free (lines_to p) (other ∷ []) all in
          (one_feed other line behind after free.0 (free_from_none line cut.whole) (sym e ∙ cut.parts)).0

      no_trace : (g : Parameters) (hs : List HistoryFields) → AreHistories g hs → ¬ (text ≡ text_of_lines (trace_lines g hs))
      no_trace g hs are e = by f.more f.are f.free f.text
        where
          f : Fronted (lines_to p) (trace_lines g hs) rest
          f = of_trace g hs are e

          by : (more : List (List ℕ)) → trace_lines g hs ≡ lines_to p ++ more → AllByRecursion Free more → ¬ (text_of_lines more ≡ rest)
          by [] lines free t =
              let c = subst (λ (l : List ℕ). Contains l 10) (sym cut.parts ∙ sym t ∙ no_lines) (has_feed line after) in
              omega (arith, c.1)
          by (m ∷ more) lines free t =
              let one = one_feed m line (text_of_lines more) after free.0 (free_from_none line cut.whole) (sym (one_line m more) ∙ t ∙ cut.parts) in
              let there = lines ∙ ap (λ (l : List ℕ). lines_to p ++ l ∷ more) one.0 ∙ sym (append_assoc (lines_to p) (line ∷ []) more) in
              bad (can_follow p line to.bounds (g, hs, more, are, there))

  -- no line comes, and the trace is not whole, or more stands behind it
  pub bad_end : ¬ Contains rest 10 → (IsAtEnd p → ¬ (rest ≡ [])) → IsFirstBadLine text n
  bad_end none more =
      record {
        good = lines_to p;
        rest = rest;
        parts = to.parts;
        place = to.place;
        begins = begins p to.bounds;
        bad = λ line after e b. none (subst (λ (l : List ℕ). Contains l 10) (sym e) (has_feed line after));
        no_trace = λ hs t. no_trace t.0 hs t.1 t.2;
      }
    where
      no_trace : (g : Parameters) (hs : List HistoryFields) → AreHistories g hs → ¬ (text ≡ text_of_lines (trace_lines g hs))
      no_trace g hs are e = by f.more f.are f.text
        where
          f : Fronted (lines_to p) (trace_lines g hs) rest
          f = of_trace g hs are e

          by : (more : List (List ℕ)) → trace_lines g hs ≡ lines_to p ++ more → ¬ (text_of_lines more ≡ rest)
          by [] lines t = more (is_whole p g hs to.bounds are (lines ∙ append-nil (lines_to p))) (sym t ∙ no_lines)
          by (m ∷ others) lines t = none (subst (λ (l : List ℕ). Contains l 10) (sym (one_line m others) ∙ t) (has_feed m (text_of_lines others)))

  pub next_line : (line after : List ℕ) (q : Progress) → IsCut rest line after → GoesOn p q line → ReadTo text after q (n + 1)
  next_line line after q cut on =
      record {
        parts = to.parts ∙ ap (λ (l : List ℕ). text_of_lines (lines_to p) ++ l) cut.parts ∙ line_more (lines_to p) line after ∙ ap (λ (ls : List (List ℕ)). text_of_lines ls ++ after) (sym on.lines);
        bounds = on.bounds;
        place = omega (arith, to.place, ap length on.lines, length-append (lines_to p) (line ∷ []));
      }

-- ---- the first line

pub first_read : (text line after : List ℕ) (g : Parameters) → IsCut text line after → AreParameters g → line ≡ group_line g → ReadTo text after (AtMember g []) 2
unfolding lines_to
first_read text line after g cut is e =
    record {
      parts = cut.parts ∙ ap (λ (l : List ℕ). l ++ (line ++ 10 ∷ after)) (sym no_lines) ∙ line_more [] line after ∙ ap (λ (l : List ℕ). text_of_lines (l ∷ []) ++ after) e;
      bounds = record { parameters = is; few = omega arith; each = tt };
      place = omega arith;
    }

abbrev smallest : Parameters
smallest = record { number = 0; size = 2; window = 1 }

smallest_is : AreParameters smallest
smallest_is = record {
  size = record { two_or_more = omega arith; at_most_sixty_four = omega arith };
  width = record { one_or_more = omega arith; at_most_widest = omega arith };
  number_fits = omega arith;
}

-- each trace begins with no line
at_first : Begins []
at_first = begins_earlier (group_line smallest ∷ []) (whole_begins smallest [] (record { parameters = smallest_is; few = omega arith; each = tt }))

pub bad_first : (text line after : List ℕ) → IsCut text line after → ((g : Parameters) → AreParameters g → ¬ (line ≡ group_line g)) → IsFirstBadLine text 1
bad_first text line after cut bad =
    record {
      good = [];
      rest = text;
      parts = ap (λ (l : List ℕ). l ++ text) (sym no_lines);
      place = omega arith;
      begins = at_first;
      bad = λ other behind e b. bad b.0 b.3.parameters (sym (same other behind e b) ∙ sym (cc b.4));
      no_trace = λ hs t. no_trace t.0 hs t.1 t.2;
    }
  where
    same : (other behind : List ℕ) → text ≡ other ++ 10 ∷ behind → Begins (other ∷ []) → other ≡ line
    same other behind e b =
        let free = all_front Free (other ∷ []) b.2 (subst (AllByRecursion Free) b.4 (trace_is_free b.0 b.1 b.3)) in
        (one_feed other line behind after free.0 (free_from_none line cut.whole) (sym e ∙ cut.parts)).0

    no_trace : (g : Parameters) (hs : List HistoryFields) → AreHistories g hs → ¬ (text ≡ text_of_lines (trace_lines g hs))
    no_trace g hs are e =
        let one = one_feed (group_line g) line _ after (group_is_free g are.parameters) (free_from_none line cut.whole) (sym (one_line (group_line g) _) ∙ sym e ∙ cut.parts) in
        bad g are.parameters (sym one.0)

pub bad_none : (text : List ℕ) → ¬ Contains text 10 → IsFirstBadLine text 1
bad_none text none =
    record {
      good = [];
      rest = text;
      parts = ap (λ (l : List ℕ). l ++ text) (sym no_lines);
      place = omega arith;
      begins = at_first;
      bad = λ line after e b. none (subst (λ (l : List ℕ). Contains l 10) (sym e) (has_feed line after));
      no_trace = λ hs t. none (subst (λ (l : List ℕ). Contains l 10) (sym (one_line (group_line t.0) _) ∙ sym t.2) (has_feed (group_line t.0) _));
    }

pub good_end : (text : List ℕ) (g : Parameters) (hs : List HistoryFields) (n : ℕ) → ReadTo text [] (AtEnd g hs) n → IsTrace hs text
unfolding lines_to
good_end text g hs n to = (g, to.bounds, to.parts ∙ append-nil (text_of_lines (trace_lines g hs)))

-- ---- the answers of the two functions that read

-- a fault of the first line
pub first_fault : (text line after : List ℕ) (fault : LineFault) → IsCut text line after → FindsNone AreParameters group_line line fault → Reads text (Err (fault_at fault 1))
first_fault text line after NoLine cut none = bad_first text line after cut none
first_fault text line after NoMemory cut none = tt

-- a fault of a later line
pub next_fault : (text rest : List ℕ) (p : Progress) (n : ℕ) (line after : List ℕ) (fault : LineFault) → ReadTo text rest p n → IsCut rest line after → (fault ≡ NoLine → ¬ CanFollow p line) → Reads text (Err (fault_at fault n))
next_fault text rest p n line after NoLine to cut none = bad_line text rest p n to line after cut (none refl)
next_fault text rest p n line after NoMemory to cut none = tt

empty_list : (bytes : List ℕ) → length bytes ≡ 0 → bytes ≡ []
empty_list [] e = refl
empty_list (b ∷ bytes) e = absurd (omega (arith, e))

-- the last line stands, and nothing behind it
pub end_read : (text rest : List ℕ) (g : Parameters) (place : Place) (hs : List HistoryFields) (es : List EntryFields) (n : ℕ) → StandsAtEnd place → length rest ≡ 0 → ReadTo text rest (progress_at g place hs es) n → IsTrace hs text
end_read text rest g places.Member hs es n at none to = absurd at
end_read text rest g (places.Entry me left) hs es n at none to = absurd at
end_read text rest g places.End hs es n at none to =
    good_end text g hs n (subst (λ (l : List ℕ). ReadTo text l (AtEnd g hs) n) (empty_list rest none) to)

pub stands_at_end : (g : Parameters) (place : Place) (hs : List HistoryFields) (es : List EntryFields) → IsAtEnd (progress_at g place hs es) → StandsAtEnd place
stands_at_end g places.Member hs es at = at
stands_at_end g (places.Entry me left) hs es at = at
stands_at_end g places.End hs es at = tt

-- lines that make one text are the same
pub same_lines : (g k : Parameters) (a b : List HistoryFields) → AreHistories g a → AreHistories k b → text_of_lines (trace_lines g a) ≡ text_of_lines (trace_lines k b) → trace_lines g a ≡ trace_lines k b
same_lines g k a b p q e = by f.more f.are f.text
  where
    f : Fronted (trace_lines k b) (trace_lines g a) []
    f = fronted (trace_lines k b) (trace_lines g a) [] (trace_is_free k b q) (trace_is_free g a p) (e ∙ sym (append-nil (text_of_lines (trace_lines k b))))

    by : (more : List (List ℕ)) → trace_lines g a ≡ trace_lines k b ++ more → text_of_lines more ≡ [] → trace_lines g a ≡ trace_lines k b
    by [] lines t = lines ∙ append-nil (trace_lines k b)
    by (m ∷ more) lines t =
        let many = ap length (sym (one_line m more) ∙ t) in
        absurd (omega (arith, length-append m (10 ∷ text_of_lines more), many))
