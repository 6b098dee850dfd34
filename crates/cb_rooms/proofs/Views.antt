-- Views of one message more, and what stands in a view.
use Rattle.std.proofs.Common.{◌≡◌, ℕ, zero, suc, ◌<◌, Bool, true, false, List, [], ◌∷◌, ◌++◌, length, Option, Some, None, refl, sym, ap, subst, ◌∙◌, arith, slice_get, ◌⊎◌, inl, inr}
use Rattle.std.specs.Prelude.{find, fold, is_some, IsSome, ◌↔◌, if◌then◌else◌, option_map, option_to_list}
use Rattle.std.specs.List.{AllByRecursion, position_or_len}
use Rattle.std.specs.Option.{option_or}
use Rattle.std.proofs.lemmas.List.{append-nil}
use Rattle.std.proofs.lemmas.List.Sums.{fold-append}
use Rattle.std.proofs.lemmas.List.Folds.{find-append, find_at}
use Rattle.std.proofs.lemmas.Option.{none-some, slice_get_within}
use Rattle.cb_times.specs.declared.name.Name.{Name}
use Rattle.cb_rooms.specs.declared.shown.Showing.TheVariants as showings
use Rattle.cb_rooms.specs.Line.{LineFields, SayLine, AnswerLine}
use Rattle.cb_rooms.specs.Reading.{line_at}
use Rattle.cb_rooms.specs.View.{ViewLine, view_line, is_same, line_named, has_line, line_said, line_showing, added, lines_after, conference_view, showing}
use Rattle.cb_rooms.specs.Laws.{StandsBefore}
use Rattle.cb_rooms.proofs.Lists.{Some-injective, all_so, all_push, is_none}
use Rattle.cb_rooms.proofs.Holding.{same_name, same_names}

abbrev Messages : Type 0
Messages = List (Name × List ℕ)

pub goes_on : (messages : Messages) (message : Name × List ℕ) → conference_view (messages ++ message ∷ []) ≡ lines_after (conference_view messages) message.0 message.1
unfolding conference_view
goes_on messages message = fold-append (λ (lines : List ViewLine) (m : Name × List ℕ). lines_after lines m.0 m.1) [] messages (message ∷ [])

-- ---- what is added

said_or_not : (lines : List ViewLine) (name : Name) (line : Option LineFields) → (line_showing lines line ≡ showings.Shown) ↔ IsSome (line_said lines name line)
said_or_not lines name None = ((λ e. absurd cc), (λ e. absurd cc))
said_or_not lines name (Some (SayLine room text)) = ((λ e. refl), (λ e. refl))
said_or_not lines name (Some (AnswerLine question text)) = by (line_named lines question)
  where
    by : (o : Option ViewLine) → ((if is_some o then showings.Shown else showings.Orphan) ≡ showings.Shown) ↔ IsSome (option_map (λ (l : ViewLine). view_line name l.room (Some question) text) o)
    by None = ((λ e. absurd cc), (λ e. absurd cc))
    by (Some l) = ((λ e. refl), (λ e. refl))

pub only_shown : (lines : List ViewLine) (name : Name) (payload : List ℕ) → (showing lines name payload ≡ showings.Shown) ↔ IsSome (added lines name payload)
unfolding showing added
only_shown lines name payload = by (has_line lines name)
  where
    by : (b : Bool) → ((if b then showings.Again else line_showing lines (line_at payload)) ≡ showings.Shown) ↔ IsSome (if b then None else line_said lines name (line_at payload))
    by true = ((λ e. absurd cc), (λ e. absurd cc))
    by false = said_or_not lines name (line_at payload)

-- what is known of a line that is added
record IsAdded (lines : List ViewLine) (name : Name) (l : ViewLine) : Type 0 where
  own : l.name ≡ name
  asked : (q : Name) → l.question ≡ Some q → (m : ViewLine) × (line_named lines q ≡ Some m) × (m.room ≡ l.room)

said : (lines : List ViewLine) (name : Name) (line : Option LineFields) (l : ViewLine) → line_said lines name line ≡ Some l → IsAdded lines name l
said lines name None l e = absurd (none-some l e)
said lines name (Some (SayLine room text)) l e =
    let new : ViewLine = record { name = name; room = room; question = None; text = text } in
    let there : IsAdded lines name new = record { own = refl; asked = λ q h. absurd (none-some q h) } in
    subst (IsAdded lines name) (Some-injective new l e) there
said lines name (Some (AnswerLine question text)) l e = by (line_named lines question) refl
  where
    by : (o : Option ViewLine) → line_named lines question ≡ o → IsAdded lines name l
    by None f = absurd (none-some l (rw f at e))
    by (Some m) f =
        let new : ViewLine = record { name = name; room = m.room; question = Some question; text = text } in
        let there : IsAdded lines name new = record {
          own = refl;
          asked = λ q h. (m, ap (line_named lines) (sym (Some-injective question q h)) ∙ f, refl);
        } in
        subst (IsAdded lines name) (Some-injective new l (rw f at e)) there

is_added : (lines : List ViewLine) (name : Name) (payload : List ℕ) (l : ViewLine) → added lines name payload ≡ Some l → (has_line lines name ≡ false) × IsAdded lines name l
unfolding added
is_added lines name payload l e = by (has_line lines name) refl
  where
    by : (b : Bool) → has_line lines name ≡ b → (has_line lines name ≡ false) × IsAdded lines name l
    by true t = absurd (none-some l (rw t at e))
    by false t = (t, said lines name (line_at payload) l (rw t at e))

-- what holds of no line, and of one line more, holds of each view
grows : (P : List ViewLine → Type 0) → P [] → ((lines : List ViewLine) (l : ViewLine) (name : Name) → P lines → has_line lines name ≡ false → IsAdded lines name l → P (lines ++ l ∷ []))
    → (messages : Messages) → P (conference_view messages)
unfolding conference_view lines_after
grows P none more messages = from messages [] none
  where
    step : (lines : List ViewLine) (name : Name) (payload : List ℕ) → P lines → (o : Option ViewLine) → added lines name payload ≡ o → P (lines ++ option_to_list o)
    step lines name payload p None e = subst P (sym (append-nil lines)) p
    step lines name payload p (Some l) e =
        let is = is_added lines name payload l e in
        more lines l name p is.0 is.1

    from : (messages : Messages) (lines : List ViewLine) → P lines → P (fold (λ (ls : List ViewLine) (m : Name × List ℕ). ls ++ option_to_list (added ls m.0 m.1)) lines messages)
    from [] lines p = p
    from (m ∷ ms) lines p = from ms (lines ++ option_to_list (added lines m.0 m.1)) (step lines m.0 m.1 p (added lines m.0 m.1) refl)

-- ---- each name once

abbrev IsOwn : List ViewLine → ViewLine → Type 0
IsOwn lines l = line_named lines l.name ≡ Some l

own_more : (lines : List ViewLine) (l : ViewLine) (name : Name) → AllByRecursion (IsOwn lines) lines → has_line lines name ≡ false → IsAdded lines name l
    → AllByRecursion (IsOwn (lines ++ l ∷ [])) (lines ++ l ∷ [])
own_more lines l name own new is =
    let test : ViewLine → ViewLine → Bool = λ a b. is_same a.name b.name in
    let last : find (test l) (l ∷ []) ≡ Some l = rw (same_name l.name) refl in
    let none : line_named lines l.name ≡ None = is_none (line_named lines l.name) (ap (has_line lines) is.own ∙ new) in
    all_push (IsOwn (lines ++ l ∷ [])) lines l
    (all_so (IsOwn lines) (IsOwn (lines ++ l ∷ [])) (λ m o. find-append (test m) lines (l ∷ []) ∙ ap (λ (x : Option ViewLine). option_or x (find (test m) (l ∷ []))) o) lines own)
    (find-append (test l) lines (l ∷ []) ∙ ap (λ (x : Option ViewLine). option_or x (find (test l) (l ∷ []))) none ∙ last)

pub one_for_each : (messages : Messages) → AllByRecursion (λ l. line_named (conference_view messages) l.name ≡ Some l) (conference_view messages)
one_for_each messages = grows (λ lines. AllByRecursion (IsOwn lines) lines) tt own_more messages

-- ---- no answer before its question

get_left : (xs ys : List ViewLine) (k : ℕ) (x : ViewLine) → slice_get xs k ≡ Some x → slice_get (xs ++ ys) k ≡ Some x
get_left [] ys k x e = absurd (none-some x e)
get_left (z ∷ xs) ys zero x e = e
get_left (z ∷ xs) ys (suc k) x e = get_left xs ys k x e

get_push : (xs : List ViewLine) (y : ViewLine) (k : ℕ) (x : ViewLine) → slice_get (xs ++ y ∷ []) k ≡ Some x → (slice_get xs k ≡ Some x) ⊎ ((k ≡ length xs) × (y ≡ x))
get_push [] y zero x e = inr (refl, Some-injective y x e)
get_push [] y (suc k) x e = absurd (none-some x e)
get_push (z ∷ xs) y zero x e = inl e
get_push (z ∷ xs) y (suc k) x e =
    elim (get_push xs y k x e) [
      | inl h ↦ inl h
      | (inr h) ↦ inr (omega (arith, h.0), h.1)
    ]

finds_name : (lines : List ViewLine) (q : Name) (m : ViewLine) → line_named lines q ≡ Some m → m.name ≡ q
finds_name [] q m e = absurd (none-some m e)
finds_name (l ∷ lines) q m e = by (is_same q l.name) refl (finds_name lines q m)
  where
    by : (b : Bool) → is_same q l.name ≡ b → (line_named lines q ≡ Some m → m.name ≡ q) → m.name ≡ q
    by true t rest = ap (λ (n : ViewLine). n.name) (sym (Some-injective l m (rw t at e))) ∙ sym (same_names q l.name t)
    by false t rest = rest (rw t at e)

abbrev Behind : List ViewLine → Type 0
Behind lines = (k : ℕ) (l : ViewLine) (q : Name) → slice_get lines k ≡ Some l → l.question ≡ Some q → StandsBefore lines k q l.room

behind_more : (lines : List ViewLine) (l : ViewLine) (name : Name) → Behind lines → has_line lines name ≡ false → IsAdded lines name l → Behind (lines ++ l ∷ [])
behind_more lines l name behind new is k x q at asks =
    elim (get_push lines l k x at) [
      | inl old ↦
          let s = behind k x q old asks in
          (s.0, s.1, s.2, get_left lines (l ∷ []) s.0 s.1 s.3, s.4, s.5)
      | (inr last) ↦
          let asked = is.asked q (ap (λ (y : ViewLine). y.question) last.1 ∙ asks) in
          let m = asked.0 in
          let j = position_or_len (λ (n : ViewLine). is_same q n.name) lines in
          let here : slice_get lines j ≡ Some m = sym (find_at (λ (n : ViewLine). is_same q n.name) lines) ∙ asked.1 in
          let before : j < length lines = slice_get_within lines j m here in
          (j, m, omega (arith, before, last.0), get_left lines (l ∷ []) j m here, finds_name lines q m asked.1, asked.2 ∙ ap (λ (y : ViewLine). y.room) last.1)
    ]

pub behind_questions : (messages : Messages) → Behind (conference_view messages)
behind_questions messages = grows Behind (λ k l q at asks. absurd (none-some l at)) behind_more messages
