-- The line of a member and its words.
use Rattle.std.proofs.Common.{◌≡◌, ℕ, List, refl, ap, ◌∙◌, arith}
use Rattle.std.specs.Prelude.{◌==◌, codes}
use Rattle.std.specs.List.{slice_split}
use Rattle.cb_lines.specs.Text.{space}
use Rattle.cb_lines.proofs.Cut.{AreWords, words_are_cut, literal, number}
use Rattle.cb_lines.proofs.Lists.{Free}
use Rattle.cb_lines.proofs.Lines.{line_is_free}
use Rattle.cb_trace.specs.Text.{member_words, member_line}
use Rattle.cb_trace.specs.Bounds.{IsMember}

pub member_words_are : (me count : ℕ) → IsMember me count → AreWords (member_words me count)
member_words_are me count is =
    (literal (codes "member") refl, (number me (omega (arith, is.member)), (literal (codes "entries") refl, (number count (omega (arith, is.entries)), tt))))

pub member_line_is_cut : (me count : ℕ) (line : List ℕ) → IsMember me count → line ≡ member_line me count → slice_split (λ b. b == space) line ≡ member_words me count
unfolding member_line
member_line_is_cut me count line is e = ap (slice_split (λ b. b == space)) e ∙ words_are_cut (member_words me count) (omega arith) (member_words_are me count is)

pub member_is_free : (me count : ℕ) → IsMember me count → Free (member_line me count)
unfolding member_line
member_is_free me count is = line_is_free (member_words me count) (member_words_are me count is)
