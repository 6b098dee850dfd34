-- The view of a member's events, one event at a time.
use Rattle.std.proofs.Common.{◌≡◌, ℕ, zero, suc, ◌<◌, Bool, true, false, List, [], ◌∷◌, ◌++◌, take, Option, Some, None, refl, sym, ap, subst, ◌∙◌, arith, slice_get, ◌⊎◌, inl, inr}
use Rattle.std.specs.Prelude.{find, option_map, option_to_list}
use Rattle.std.specs.Option.{option_or}
use Rattle.std.proofs.lemmas.List.{map-append}
use Rattle.std.proofs.lemmas.List.Folds.{find-append}
use Rattle.std.proofs.lemmas.Option.{none-some}
use Rattle.cb_times.specs.declared.name.Name.{Name}
use Rattle.cb_causality.specs.declared.event.CausalEvent.{CausalEvent}
use Rattle.cb_causality.specs.Events.{name_of, payload_of}
use Rattle.cb_rooms.specs.Line.{LineFields, SayLine, AnswerLine}
use Rattle.cb_rooms.specs.Reading.{line_at}
use Rattle.cb_rooms.specs.View.{ViewLine, view_line, is_same, line_named, has_line, line_of, line_said, added, lines_after, conference_view}
use Rattle.cb_rooms.proofs.Lists.{Some-injective, is_none}
use Rattle.cb_rooms.proofs.Holding.{same_name, same_names}
use Rattle.cb_rooms.proofs.Views.{goes_on}
use Rattle.confer_play.specs.Rooms.{messages_in, view_of, Tells}

-- ---- the first events and one more

take_more : {X : Type 0} (xs : List X) (n : ℕ) (x : X) → slice_get xs n ≡ Some x → take (suc n) xs ≡ take n xs ++ x ∷ []
take_more [] n x e = absurd (none-some x e)
take_more (y ∷ ys) zero x e = ap (λ z. z ∷ []) (Some-injective y x e)
take_more (y ∷ ys) (suc n) x e = ap (λ zs. y ∷ zs) (take_more ys n x e)

pub take_past : {X : Type 0} (xs : List X) (n : ℕ) → slice_get xs n ≡ None → take (suc n) xs ≡ take n xs
take_past [] zero e = refl
take_past [] (suc n) e = refl
take_past (y ∷ ys) zero e = absurd (none-some y (sym e))
take_past (y ∷ ys) (suc n) e = ap (λ zs. y ∷ zs) (take_past ys n e)

pub view_step : (events : List CausalEvent) (n : ℕ) (e : CausalEvent) → slice_get events n ≡ Some e
    → view_of (take (suc n) events) ≡ lines_after (view_of (take n events)) (name_of e) (payload_of e)
view_step events n e at =
    let parts : messages_in (take (suc n) events) ≡ messages_in (take n events) ++ (name_of e, payload_of e) ∷ [] =
    ap messages_in (take_more events n e at) ∙ map-append (λ (x : CausalEvent). (name_of x, payload_of x)) (take n events) (e ∷ []) in
    ap conference_view parts ∙ goes_on (messages_in (take n events)) (name_of e, payload_of e)

-- ---- a line that is added

pub record IsNew (lines : List ViewLine) (name : Name) (payload : List ℕ) (l : ViewLine) : Type 0 where
  pub fresh : has_line lines name ≡ false
  pub line : LineFields
  pub read : line_at payload ≡ Some line
  pub made : line_of lines name line ≡ Some l

pub is_new : (lines : List ViewLine) (name : Name) (payload : List ℕ) (l : ViewLine) → added lines name payload ≡ Some l → IsNew lines name payload l
unfolding added
is_new lines name payload l e = by (has_line lines name) refl
  where
    said : (b : has_line lines name ≡ false) (o : Option LineFields) → line_at payload ≡ o → line_said lines name o ≡ Some l → IsNew lines name payload l
    said b None r h = absurd (none-some l h)
    said b (Some line) r h = record { fresh = b; line = line; read = r; made = h }

    by : (b : Bool) → has_line lines name ≡ b → IsNew lines name payload l
    by true t = absurd (none-some l (rw t at e))
    by false t = said t (line_at payload) refl (rw t at e)

pub adds : (lines : List ViewLine) (name : Name) (payload : List ℕ) (line : LineFields) → has_line lines name ≡ false → line_at payload ≡ Some line
    → added lines name payload ≡ line_of lines name line
unfolding added
adds lines name payload line fresh read = rw (fresh, read) refl

-- the line is that of the message, and says what it says
pub reported : (lines : List ViewLine) (name : Name) (line : LineFields) (l : ViewLine) → line_of lines name line ≡ Some l → (l.name ≡ name) × Tells l line
reported lines name (SayLine room text) l e =
    let same : view_line name room None text ≡ l = Some-injective (view_line name room None text) l e in
    (sym (ap (λ (x : ViewLine). x.name) same), (sym (ap (λ (x : ViewLine). x.room) same), sym (ap (λ (x : ViewLine). x.question) same), sym (ap (λ (x : ViewLine). x.text) same)))
reported lines name (AnswerLine question text) l e = by (line_named lines question) e
  where
    by : (o : Option ViewLine) → option_map (λ (x : ViewLine). view_line name x.room (Some question) text) o ≡ Some l
        → (l.name ≡ name) × Tells l (AnswerLine question text)
    by None h = absurd (none-some l h)
    by (Some m) h =
        let new : ViewLine = view_line name m.room (Some question) text in
        let same : new ≡ l = Some-injective new l h in
        (sym (ap (λ (x : ViewLine). x.name) same), (sym (ap (λ (x : ViewLine). x.question) same), sym (ap (λ (x : ViewLine). x.text) same)))

-- ---- which line a name has after one message more

pub named_stays : (lines : List ViewLine) (name : Name) (payload : List ℕ) (q : Name) (l : ViewLine) → line_named lines q ≡ Some l
    → line_named (lines_after lines name payload) q ≡ Some l
unfolding lines_after
named_stays lines name payload q l e =
    let test : ViewLine → Bool = λ (x : ViewLine). is_same q x.name in
    find-append test lines (option_to_list (added lines name payload)) ∙ ap (λ (o : Option ViewLine). option_or o (find test (option_to_list (added lines name payload)))) e

pub named_new : (lines : List ViewLine) (name : Name) (payload : List ℕ) (l : ViewLine) → added lines name payload ≡ Some l
    → line_named (lines_after lines name payload) name ≡ Some l
unfolding lines_after
named_new lines name payload l e =
    let new = is_new lines name payload l e in
    let own : l.name ≡ name = (reported lines name new.line l new.made).0 in
    let test : ViewLine → Bool = λ (x : ViewLine). is_same name x.name in
    let none : find test lines ≡ None = is_none (line_named lines name) new.fresh in
    let pass : test l ≡ true = rw own (same_name name) in
    let last : find test (l ∷ []) ≡ Some l = rw pass refl in
    find-append test lines (option_to_list (added lines name payload))
    ∙ ap (λ (o : Option ViewLine). option_or o (find test (option_to_list (added lines name payload)))) none
    ∙ ap (λ (o : Option ViewLine). find test (option_to_list o)) e ∙ last

-- a name with a line had it before, or it is the new one's
pub named_before : (lines : List ViewLine) (name : Name) (payload : List ℕ) (q : Name) (l : ViewLine) → line_named (lines_after lines name payload) q ≡ Some l
    → (line_named lines q ≡ Some l) ⊎ ((q ≡ name) × (added lines name payload ≡ Some l))
unfolding lines_after
named_before lines name payload q l e = by (find test lines) refl
  where
    test : ViewLine → Bool
    test x = is_same q x.name

    new : (o : Option ViewLine) → added lines name payload ≡ o → find test (option_to_list o) ≡ Some l → (q ≡ name) × (added lines name payload ≡ Some l)
    new None a h = absurd (none-some l h)
    new (Some m) a h = found (test m) refl
      where
        found : (b : Bool) → test m ≡ b → (q ≡ name) × (added lines name payload ≡ Some l)
        found true t =
            let same : m ≡ l = Some-injective m l (rw t at h) in
            let is = is_new lines name payload m a in
            (same_names q m.name t ∙ (reported lines name is.line m is.made).0, a ∙ ap (λ (x : ViewLine). Some x) same)
        found false t = absurd (none-some l (rw t at h))

    whole : option_or (find test lines) (find test (option_to_list (added lines name payload))) ≡ Some l
    whole = sym (find-append test lines (option_to_list (added lines name payload))) ∙ e

    by : (o : Option ViewLine) → find test lines ≡ o → (line_named lines q ≡ Some l) ⊎ ((q ≡ name) × (added lines name payload ≡ Some l))
    by (Some m) f = inl (f ∙ (rw f at whole))
    by None f = inr (new (added lines name payload) refl (rw f at whole))

-- ---- a line is that of one of the events

pub record IsLineOf (events : List CausalEvent) (n : ℕ) (q : Name) (l : ViewLine) : Type 0 where
  pub index : ℕ
  pub event : CausalEvent
  pub before : index < n
  pub stands : slice_get events index ≡ Some event
  pub named : name_of event ≡ q
  pub new : IsNew (view_of (take index events)) q (payload_of event) l

pub line_is_of : (events : List CausalEvent) (n : ℕ) (q : Name) (l : ViewLine) → line_named (view_of (take n events)) q ≡ Some l → IsLineOf events n q l
unfolding conference_view
line_is_of events (zero) q l e = absurd (none-some l e)
line_is_of events (suc n) q l e = by (λ h. line_is_of events n q l h) (slice_get events n) refl
  where
    later : IsLineOf events n q l → IsLineOf events (suc n) q l
    later is = record { index = is.index; event = is.event; before = omega (arith, is.before); stands = is.stands; named = is.named; new = is.new }

    by : (line_named (view_of (take n events)) q ≡ Some l → IsLineOf events n q l) → (o : Option CausalEvent) → slice_get events n ≡ o → IsLineOf events (suc n) q l
    by before None at = later (before (subst (λ (es : List CausalEvent). line_named (view_of es) q ≡ Some l) (take_past events n at) e))
    by before (Some x) at =
        let here : line_named (lines_after (view_of (take n events)) (name_of x) (payload_of x)) q ≡ Some l =
        subst (λ (ls : List ViewLine). line_named ls q ≡ Some l) (view_step events n x at) e in
        elim (named_before (view_of (take n events)) (name_of x) (payload_of x) q l here) [
          | inl old ↦ later (before old)
          | (inr last) ↦ record {
            index = n;
            event = x;
            before = omega arith;
            stands = at;
            named = sym last.0;
            new = subst (λ (m : Name). IsNew (view_of (take n events)) m (payload_of x) l) (sym last.0) (is_new (view_of (take n events)) (name_of x) (payload_of x) l last.1);
          }
        ]
