-- The answers to lines, one after another.
use Rattle.std.proofs.Common.{◌≡◌, ℕ, ◌+◌, Bool, true, false, ◌||◌, List, [], ◌∷◌, ◌++◌, length, take, drop, refl, sym, ap, subst, ◌∙◌, append_assoc, Result, Ok, Err}
use Rattle.std.specs.Prelude.{is_err, is_ok, OnOk, if◌then◌else◌, Some, None, codes}
use Rattle.std.proofs.Math.Bool.{or-true, or-false}
use Rattle.std.proofs.lemmas.List.{append-nil}
use Rattle.memchr.specs.Find.{IsFirstByte, is_byte}
use Rattle.cb_frames.specs.declared.frame.Unit.{Unit as Carrying}
use Rattle.cb_frames.specs.Fields.{CastFields, unit_fields}
use Rattle.cb_diffs.specs.Laws.{IsKept}
use Rattle.confer_expand.specs.Answers.{outcome, answer_texts, accepted_after}
use Rattle.confer_expand.specs.Lines.{line_feed, ended, unended, as_lines, answers, any_refused, accepted_through}
use Rattle.confer_expand.specs.declared.refusal.Refusal.{Refusal}
use Rattle.confer_expand.specs.Refusals.{refusal_text}
use Rattle.confer_expand.specs.Steps.{GivesAccepted}
use Rattle.confer_expand.specs.Texts.{cast_lines}
use Rattle.confer_expand.specs.Progress.{Group, SameGroup, SameButTime, Said, Says, SaysAfter, SaysFirst}
use Rattle.confer_expand.proofs.Showing.{cast_lines_are}
use Rattle.confer_expand.proofs.Cutting.{ended-line, unended-line, ended-no_feed, unended-no_feed, none_found}

-- ---- lines behind lines

pub answers-append : (group size : ℕ) (accepted : List CastFields) (xs ys : List (List ℕ))
    → answers group size accepted (xs ++ ys) ≡ answers group size accepted xs ++ answers group size (accepted_through group size accepted xs) ys
answers-append group size accepted [] ys = refl
answers-append group size accepted (line ∷ xs) ys =
    let r = outcome group size accepted line in
    let next = accepted_after accepted r in
    ap (λ (t : List ℕ). as_lines (answer_texts size accepted r) ++ t) (answers-append group size next xs ys)
    ∙ sym (append_assoc (as_lines (answer_texts size accepted r)) (answers group size next xs) (answers group size (accepted_through group size next xs) ys))

-- the answer to a single line
one_answer : (size : ℕ) (accepted : List CastFields) (r : Result CastFields Refusal) (text : List ℕ) → answer_texts size accepted r ≡ text ∷ []
    → as_lines (answer_texts size accepted r) ++ [] ≡ text ++ line_feed ∷ []
one_answer size accepted r text is = append-nil (as_lines (answer_texts size accepted r)) ∙ ap as_lines is ∙ append-nil (text ++ line_feed ∷ [])

or_assoc : (a b d : Bool) → (a || (b || d)) ≡ ((a || b) || d)
or_assoc true b d = refl
or_assoc false b d = refl

pub refused-append : (group size : ℕ) (accepted : List CastFields) (xs ys : List (List ℕ))
    → any_refused group size accepted (xs ++ ys) ≡ (any_refused group size accepted xs || any_refused group size (accepted_through group size accepted xs) ys)
refused-append group size accepted [] ys = refl
refused-append group size accepted (line ∷ xs) ys =
    let r = outcome group size accepted line in
    let next = accepted_after accepted r in
    ap (λ (b : Bool). is_err r || b) (refused-append group size next xs ys)
    ∙ or_assoc (is_err r) (any_refused group size next xs) (any_refused group size (accepted_through group size next xs) ys)

pub through-append : (group size : ℕ) (accepted : List CastFields) (xs ys : List (List ℕ))
    → accepted_through group size accepted (xs ++ ys) ≡ accepted_through group size (accepted_through group size accepted xs) ys
through-append group size accepted [] ys = refl
through-append group size accepted (line ∷ xs) ys = through-append group size (accepted_after accepted (outcome group size accepted line)) xs ys

-- ---- what was said

pub says_nothing : (g : Group) (s : Said) → Says [] g g s s
says_nothing g s = record {
  number = refl;
  size = refl;
  after = λ accepted kept. record { text = sym (append-nil s.text); refusal = sym (or-false s.refused); kept_are = kept };
}

pub after_more : (group size : ℕ) (accepted : List CastFields) (xs ys : List (List ℕ)) (a b d : Said) (kept kept' : List (List ℕ))
    → SaysAfter group size accepted xs a b kept → SaysAfter group size (accepted_through group size accepted xs) ys b d kept'
    → SaysAfter group size accepted (xs ++ ys) a d kept'
after_more group size accepted xs ys a b d kept kept' p q =
    let through = accepted_through group size accepted xs in
    record {
      text = q.text ∙ ap (λ (t : List ℕ). t ++ answers group size through ys) p.text
          ∙ append_assoc a.text (answers group size accepted xs) (answers group size through ys)
          ∙ ap (λ (t : List ℕ). a.text ++ t) (sym (answers-append group size accepted xs ys));
      refusal = q.refusal ∙ ap (λ (r : Bool). r || any_refused group size through ys) p.refusal
          ∙ sym (or_assoc a.refused (any_refused group size accepted xs) (any_refused group size through ys))
          ∙ ap (λ (r : Bool). a.refused || r) (sym (refused-append group size accepted xs ys));
      kept_are = subst (λ (cs : List CastFields). IsKept size cs kept') (sym (through-append group size accepted xs ys)) q.kept_are;
    }

-- what the next lines say, seen from the group before
after_in : (old mid new : Group) (accepted : List CastFields) (ys : List (List ℕ)) (b d : Said) → mid.number ≡ old.number → length mid.kept ≡ length old.kept
    → Says ys mid new b d → IsKept (length old.kept) accepted mid.kept → SaysAfter old.number (length old.kept) accepted ys b d new.kept
after_in old mid new accepted ys b d number size q kept =
    subst (λ (n : ℕ). SaysAfter n (length old.kept) accepted ys b d new.kept) number
    (subst (λ (n : ℕ). IsKept n accepted mid.kept → SaysAfter mid.number n accepted ys b d new.kept) size (q.after accepted) kept)

pub says_more : (old mid new : Group) (xs ys : List (List ℕ)) (a b d : Said) → Says xs old mid a b → Says ys mid new b d → Says (xs ++ ys) old new a d
says_more old mid new xs ys a b d p q = record {
  number = q.number ∙ p.number;
  size = q.size ∙ p.size;
  after = λ accepted kept.
      let first = p.after accepted kept in
      after_more old.number (length old.kept) accepted xs ys a b d mid.kept new.kept first
      (after_in old mid new (accepted_through old.number (length old.kept) accepted xs) ys b d p.number p.size q first.kept_are);
}

-- ---- one piece

-- what the loop over a piece knows: the lines that are answered, and what is left of the piece
pub record TakenSoFar (begun₀ piece : List ℕ) (old new : Group) (before now : Said) (begun rest : List ℕ) : Type 0 where
  pub done : List (List ℕ)
  pub says : Says done old new before now
  pub lines : ended begun₀ piece ≡ done ++ ended begun rest
  pub left : unended begun₀ piece ≡ unended begun rest

pub taken_none : (begun piece : List ℕ) (g : Group) (s : Said) → TakenSoFar begun piece g g s s begun piece
taken_none begun piece g s = record { done = []; says = says_nothing g s; lines = refl; left = refl }

pub taken_more : (begun₀ piece : List ℕ) (old mid new : Group) (before now next : Said) (begun rest : List ℕ) (i : ℕ)
    → TakenSoFar begun₀ piece old mid before now begun rest → IsFirstByte (is_byte line_feed) rest (Some i)
    → Says ((begun ++ take i rest) ∷ []) mid new now next → TakenSoFar begun₀ piece old new before next [] (drop (i + 1) rest)
taken_more begun₀ piece old mid new before now next begun rest i t found says = record {
  done = t.done ++ (begun ++ take i rest) ∷ [];
  says = says_more old mid new t.done ((begun ++ take i rest) ∷ []) before now next t.says says;
  lines = t.lines ∙ ap (λ (ls : List (List ℕ)). t.done ++ ls) (ended-line begun rest i found)
      ∙ sym (append_assoc t.done ((begun ++ take i rest) ∷ []) (ended [] (drop (i + 1) rest)));
  left = t.left ∙ unended-line begun rest i found;
}

pub taken_first : (begun₀ piece : List ℕ) (old new : Group) (before now : Said) (begun rest : List ℕ)
    → TakenSoFar begun₀ piece old new before now begun rest → SaysFirst (ended begun₀ piece) old new before now
taken_first begun₀ piece old new before now begun rest t =
    record { done = t.done; later = ended begun rest; parts = t.lines; says = t.says }

pub taken_all : (begun₀ piece : List ℕ) (old new : Group) (before now : Said) (begun rest : List ℕ)
    → TakenSoFar begun₀ piece old new before now begun rest → IsFirstByte (is_byte line_feed) rest None
    → Says (ended begun₀ piece) old new before now × (unended begun₀ piece ≡ begun ++ rest)
taken_all begun₀ piece old new before now begun rest t found =
    let h = none_found rest found in (
      subst (λ (ls : List (List ℕ)). Says ls old new before now)
          (sym (append-nil t.done) ∙ ap (λ (ls : List (List ℕ)). t.done ++ ls) (sym (ended-no_feed begun rest h)) ∙ sym t.lines) t.says,
      t.left ∙ unended-no_feed begun rest h,
    )

-- ---- one line

-- a line that is accepted: its messages are printed, and that changes no more than the time
pub says_accepted : (line : List ℕ) (unit : Carrying) (old mid new : Group) (before now : Said)
    → ((accepted : List CastFields) → IsKept (length old.kept) accepted old.kept → GivesAccepted accepted line old mid (Ok unit))
    → SameGroup old mid → SameButTime mid new → now.text ≡ before.text ++ cast_lines (unit_fields unit) mid.time → now.refused ≡ before.refused
    → Says (line ∷ []) old new before now
says_accepted line unit old mid new before now gives same stays text refused = record {
  number = stays.number ∙ same.number;
  size = ap length stays.kept ∙ same.size;
  after = λ accepted kept.
      let size = length old.kept in
      let c : CastFields = unit_fields unit in
      let given = gives accepted kept in
      let is = given.0 in
      let shown : answers old.number size accepted (line ∷ []) ≡ cast_lines c mid.time =
      append-nil (as_lines (answer_texts size accepted (outcome old.number size accepted line))) ∙ ap (λ (r : Result CastFields Refusal). as_lines (answer_texts size accepted r)) is
      ∙ sym (cast_lines_are size (accepted ++ c ∷ []) c mid.time given.1.times) in
      record {
        text = text ∙ ap (λ (t : List ℕ). before.text ++ t) (sym shown);
        refusal = refused ∙ sym (or-false before.refused) ∙ ap (λ (b : Bool). before.refused || (b || false)) (sym (ap is_err is));
        kept_are = subst (λ (r : Result CastFields Refusal). IsKept size (accepted_after accepted r) new.kept) (sym is)
            (subst (IsKept size (accepted ++ c ∷ [])) (sym stays.kept) given.1.kept);
      };
}

-- a line that is refused
pub says_refused : (line : List ℕ) (refusal : Refusal) (old new : Group) (before now : Said)
    → ((accepted : List CastFields) → IsKept (length old.kept) accepted old.kept → outcome old.number (length old.kept) accepted line ≡ Err refusal)
    → new ≡ old → now.text ≡ before.text ++ codes "refused " ++ refusal_text refusal ++ line_feed ∷ [] → now.refused ≡ true
    → Says (line ∷ []) old new before now
says_refused line refusal old new before now gives same text refused = record {
  number = ap (λ (g : Group). g.number) same;
  size = ap (λ (g : Group). length g.kept) same;
  after = λ accepted kept.
      let is = gives accepted kept in
      let size = length old.kept in
      record {
        text = text ∙ append_assoc (before.text ++ codes "refused ") (refusal_text refusal) (line_feed ∷ [])
            ∙ append_assoc before.text (codes "refused ") (refusal_text refusal ++ line_feed ∷ [])
            ∙ ap (λ (t : List ℕ). before.text ++ t) (sym (append_assoc (codes "refused ") (refusal_text refusal) (line_feed ∷ [])))
            ∙ ap (λ (t : List ℕ). before.text ++ t) (sym (one_answer size accepted (outcome old.number size accepted line) (codes "refused " ++ refusal_text refusal) (ap (answer_texts size accepted) is)));
        refusal = refused ∙ sym (or-true before.refused) ∙ ap (λ (r : Result CastFields Refusal). before.refused || (is_err r || false)) (sym is);
        kept_are = subst (λ (r : Result CastFields Refusal). IsKept size (accepted_after accepted r) new.kept) (sym is)
            (subst (λ (g : Group). IsKept size accepted g.kept) (sym same) kept);
      };
}

pub on_ok : {E P : Type 0} (r : Result (Unit {0}) E) → P → OnOk r P
on_ok (Ok done) p = p
on_ok (Err e) p = tt

pub on_ok_same : {E : Type 0} (r : Result (Unit {0}) E) (items old more all : List ℕ) → items ≡ (if is_ok r then old ++ more else old) → old ++ more ≡ all → OnOk r (items ≡ all)
on_ok_same (Ok done) items old more all is same = is ∙ same
on_ok_same (Err e) items old more all is same = tt
