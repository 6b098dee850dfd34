-- How a reader of a journal goes on, and what it answers.
use Rattle.std.proofs.Common.{◌≡◌, ℕ, ◌+◌, ◌-◌, List, [], ◌∷◌, ◌++◌, length, map, refl, sym, ap, subst, ◌∙◌, arith, append_assoc, length-append, Result, Ok, Err}
use Rattle.std.specs.List.{AllByRecursion, Contains}
use Rattle.std.proofs.lemmas.List.{map-append, append-nil, length-map}
use Rattle.cb_history.specs.Group.{Identity, IsIdentity}
use Rattle.cb_history.specs.Facts.{EntryFields}
use Rattle.cb_history.specs.LegalHistory.{seat_in}
use Rattle.cb_lines.specs.Text.{entry_line, text_of_lines, line_feed, IsCut}
use Rattle.cb_lines.specs.Bounds.{IsEntry}
use Rattle.cb_lines.specs.Finding.{FindsNone}
use Rattle.cb_lines.specs.declared.fault.LineFault.{LineFault}
use Rattle.cb_lines.specs.declared.fault.LineFault.TheVariants as lines
use Rattle.cb_lines.proofs.Lists.{Free, free_from_none, has_feed, all_append, all_front}
use Rattle.cb_lines.proofs.Lines.{no_lines, one_line, line_more}
use Rattle.cb_journal.specs.declared.fault.ReadFault.{ReadFault}
use Rattle.cb_journal.specs.declared.fault.ReadFault.TheVariants.{NoHead, BadLine, NoMemory}
use Rattle.cb_journal.specs.declared.reading.Journal.{Journal}
use Rattle.cb_journal.specs.Journal.{head_line, journal_lines, journal_text, HaveLines, IsJournal}
use Rattle.cb_journal.specs.Reading.{entries_in, Begins, IsFirstBadLine, Reads, Gives, fault_at, ReadTo}
use Rattle.cb_journal.proofs.Texts.{lines_are_free, ahead, one_journal}

-- ---- line by line

pub first_read : (text line after : List ℕ) (s : Identity) → IsCut text line after → IsIdentity s → line ≡ head_line s → ReadTo text after s [] 2
unfolding journal_text
first_read text line after s cut is e =
    record {
      parts = cut.parts ∙ ap (λ (l : List ℕ). l ++ (line ++ 10 ∷ after)) (sym no_lines) ∙ line_more [] line after ∙ ap (λ (l : List ℕ). text_of_lines (l ∷ []) ++ after) e;
      have_lines = record { seat_is = is; each = tt };
      place = omega arith;
    }

pub next_read : (text rest : List ℕ) (s : Identity) (es : List EntryFields) (n : ℕ) (line after : List ℕ) (e : EntryFields) → ReadTo text rest s es n → IsCut rest line after → IsEntry e → line ≡ entry_line e → ReadTo text after s (es ++ e ∷ []) (n + 1)
unfolding journal_text
next_read text rest s es n line after e to cut is spelled =
    record {
      parts =
          to.parts
          ∙ ap (λ (l : List ℕ). text_of_lines (journal_lines s es) ++ l) cut.parts
          ∙ line_more (journal_lines s es) line after
          ∙ ap (λ (l : List ℕ). text_of_lines (head_line s ∷ (map entry_line es ++ l ∷ [])) ++ after) spelled
          ∙ ap (λ (ls : List (List ℕ)). text_of_lines (head_line s ∷ ls) ++ after) (sym (map-append entry_line es (e ∷ [])));
      have_lines = record { seat_is = to.have_lines.seat_is; each = all_append IsEntry es (e ∷ []) to.have_lines.each (is, tt) };
      place = omega (arith, to.place, length-append es (e ∷ []));
    }

pub end_read : (text rest : List ℕ) (s : Identity) (es : List EntryFields) (n : ℕ) → ReadTo text rest s es n → ¬ Contains rest line_feed → IsJournal text s es rest
end_read text rest s es n to none = record { have_lines = to.have_lines; parts = to.parts; torn_is = none }

-- so many bytes have the whole lines
pub read_is : (text rest : List ℕ) (s : Identity) (es : List EntryFields) (n count : ℕ) → ReadTo text rest s es n → count ≡ length text → count - length rest ≡ length (journal_text s es)
read_is text rest s es n count to e =
    let all : length text ≡ length (journal_text s es) + length rest = ap length to.parts ∙ length-append (journal_text s es) rest in
    omega (arith, all, e)

-- ---- bad lines

among : (es : List EntryFields) (xs ys : List (List ℕ)) (z : List ℕ) → AllByRecursion IsEntry es → map entry_line es ≡ xs ++ z ∷ ys → (e : EntryFields) × IsEntry e × (z ≡ entry_line e)
among [] [] ys z each e = absurd (cc e)
among [] (x ∷ xs) ys z each e = absurd (cc e)
among (p ∷ es) [] ys z each e = (p, each.0, sym (cc e))
among (p ∷ es) (x ∷ xs) ys z each e = among es xs ys z each.1 (cc e)

begun : (s : Identity) (es : List EntryFields) → HaveLines s es → Begins (journal_lines s es)
begun s es h = (s, es, [], h, sym (append-nil (journal_lines s es)))

abbrev smallest : Identity
smallest = record { group = record { number = 0; size = 2; window = 1 }; me = 0 }

smallest_is : IsIdentity smallest
smallest_is = record {
  group = record {
    size = record { two_or_more = omega arith; at_most_sixty_four = omega arith };
    width = record { one_or_more = omega arith; at_most_widest = omega arith };
    number_fits = omega arith;
  };
  member = omega arith;
}

pub bad_first : (text line after : List ℕ) → IsCut text line after → FindsNone IsIdentity head_line line lines.NoLine → IsFirstBadLine text 1
bad_first text line after cut none = record {
  good = [];
  line = line;
  after = after;
  rest = text;
  parts = ap (λ (l : List ℕ). l ++ text) (sym no_lines);
  cut = cut;
  place = omega arith;
  begins = (smallest, [], journal_lines smallest [], record { seat_is = smallest_is; each = tt }, refl);
  bad = λ b. none b.0 b.3.seat_is (sym (cc b.4));
}

pub bad_line : (text rest : List ℕ) (s : Identity) (es : List EntryFields) (n : ℕ) (line after : List ℕ) → ReadTo text rest s es n → IsCut rest line after → FindsNone IsEntry entry_line line lines.NoLine → IsFirstBadLine text n
unfolding journal_text
bad_line text rest s es n line after to cut none = record {
  good = journal_lines s es;
  line = line;
  after = after;
  rest = rest;
  parts = to.parts;
  cut = cut;
  place = omega (arith, to.place, length-map es entry_line);
  begins = begun s es to.have_lines;
  bad = λ b. let k = among b.1 (map entry_line es) b.2 line b.3.each (cc b.4 ∙ append_assoc (map entry_line es) (line ∷ []) b.2) in none k.0 k.1 k.2;
}

-- a fault of the first line, and of a later one
pub first_fault : (text line after : List ℕ) (fault : LineFault) → IsCut text line after → FindsNone IsIdentity head_line line fault → Reads text (Err (fault_at fault 1))
first_fault text line after lines.NoLine cut none = bad_first text line after cut none
first_fault text line after lines.NoMemory cut none = tt

pub next_fault : (text rest : List ℕ) (s : Identity) (es : List EntryFields) (n : ℕ) (line after : List ℕ) (fault : LineFault) → ReadTo text rest s es n → IsCut rest line after → FindsNone IsEntry entry_line line fault → Reads text (Err (fault_at fault n))
next_fault text rest s es n line after lines.NoLine to cut none = bad_line text rest s es n line after to cut none
next_fault text rest s es n line after lines.NoMemory to cut none = tt

-- ---- a journal is read as the one that it is

has_head : (text : List ℕ) (s : Identity) (es : List EntryFields) (torn : List ℕ) → IsJournal text s es torn → Contains text 10
unfolding journal_text
has_head text s es torn j =
    let text_is : text ≡ head_line s ++ 10 ∷ (text_of_lines (map entry_line es) ++ torn) =
    j.parts ∙ ap (λ (l : List ℕ). l ++ torn) (one_line (head_line s) (map entry_line es)) ∙ append_assoc (head_line s) (10 ∷ text_of_lines (map entry_line es)) torn in
    subst (λ (l : List ℕ). Contains l 10) (sym text_is) (has_feed (head_line s) (text_of_lines (map entry_line es) ++ torn))

no_bad_line : (text : List ℕ) (n : ℕ) (s : Identity) (es : List EntryFields) (torn : List ℕ) → IsJournal text s es torn → ¬ IsFirstBadLine text n
unfolding journal_text
no_bad_line text n s es torn j bad =
    let b = bad.begins in
    let good = all_front Free bad.good b.2 (subst (AllByRecursion Free) b.4 (lines_are_free b.0 b.1 b.3)) in
    let more = all_append Free bad.good (bad.line ∷ []) good (free_from_none bad.line bad.cut.whole, tt) in
    let text_is = bad.parts ∙ ap (λ (l : List ℕ). text_of_lines bad.good ++ l) bad.cut.parts ∙ line_more bad.good bad.line bad.after in
    let front = ahead (bad.good ++ bad.line ∷ []) (journal_lines s es) bad.after torn more (lines_are_free s es j.have_lines) j.torn_is (sym j.parts ∙ text_is) in
    bad.bad (s, es, front.more, j.have_lines, front.are)

pub only_reading : (text : List ℕ) (r : Result Journal ReadFault) (s : Identity) (es : List EntryFields) (torn : List ℕ) → IsJournal text s es torn → Reads text r → Gives s es torn r
only_reading text (Ok journal) s es torn j read =
    let one = one_journal text (seat_in journal.history) s (entries_in journal) es read.torn torn read.is j in
    record {
      seat_is = one.0;
      entries_are = one.1;
      read_is = read.read_is ∙ ap (λ (a : Identity). length (journal_text a (entries_in journal))) one.0 ∙ ap (λ (fs : List EntryFields). length (journal_text s fs)) one.1;
      torn_is = read.torn_is ∙ ap length one.2;
    }
only_reading text (Err NoHead) s es torn j read = read (has_head text s es torn j)
only_reading text (Err (BadLine n)) s es torn j read = no_bad_line text n s es torn j read
only_reading text (Err NoMemory) s es torn j read = tt
