-- In every run of the causal machine a question stands before its answer, wherever the answer is.
use Rattle.std.proofs.Common.{◌≡◌, ℕ, zero, suc, ◌+◌, ◌<◌, ◌≤◌, Bool, true, false, List, length, take, Option, Some, None, refl, sym, ap, subst, ◌∙◌, arith, slice_get, inl, inr, eq-eqb}
use Rattle.std.specs.Prelude.{is_some}
use Rattle.std.proofs.lemmas.Bool.{cases_order}
use Rattle.std.proofs.lemmas.Option.{none-some, slice_get_within}
use Rattle.cb_times.specs.declared.name.Name.{Name}
use Rattle.cb_causality.specs.declared.event.CausalEvent.{CausalEvent}
use Rattle.cb_causality.specs.declared.event.CausalEvent.TheVariants.{Cast, Deliver}
use Rattle.cb_causality.specs.Events.{name_of, payload_of, is_of, count}
use Rattle.cb_causality.specs.HappenedBefore.{Lists, Place, IsCastAt}
use Rattle.cb_causality.specs.CausalMachine.{Run}
use Rattle.cb_causality.specs.Laws.{OneNameOnePayload}
use Rattle.cb_causality.proofs.Counting.{count_once, get_take_from, take_whole}
use Rattle.cb_causality.proofs.Names.{number_within, stands_within}
use Rattle.cb_causality.proofs.Clock.{clock}
use Rattle.cb_causality.proofs.Runs.{IsRegular, run_regular}
use Rattle.cb_causality.proofs.OneMessage.{one_name_one_payload}
use Rattle.cb_rooms.specs.declared.shown.Showing.TheVariants as showings
use Rattle.cb_rooms.specs.Line.{LineFields, SayLine, AnswerLine}
use Rattle.cb_rooms.specs.Reading.{line_at}
use Rattle.cb_rooms.specs.Compose.{compose_fault}
use Rattle.cb_rooms.specs.View.{ViewLine, line_named, has_line, line_of, line_showing, added, lines_after, showing}
use Rattle.cb_rooms.proofs.Lists.{Some-injective}
use Rattle.cb_rooms.proofs.Decoding.{payload_is_read}
use Rattle.confer_play.specs.Rooms.{view_of, HasNoOrphan, WasComposed, AnswersWereComposed, Shows, ShowsAllLines, AgreeOnLines}
use Rattle.confer_play.proofs.Views.{take_past, view_step, adds, reported, named_stays, named_new, IsLineOf, line_is_of}

-- an event that is a line, before a place of a list
pub record LineBefore (events : List CausalEvent) (place : ℕ) (q : Name) : Type 0 where
  pub index : ℕ
  pub event : CausalEvent
  pub line : LineFields
  pub before : index < place
  pub stands : slice_get events index ≡ Some event
  pub named : name_of event ≡ q
  pub read : line_at (payload_of event) ≡ Some line

has_its_line : (lines : List ViewLine) (q : Name) → has_line lines q ≡ true → (l : ViewLine) × (line_named lines q ≡ Some l)
has_its_line lines q has = by (line_named lines q) refl has
  where
    by : (o : Option ViewLine) → line_named lines q ≡ o → is_some o ≡ true → (l : ViewLine) × (line_named lines q ≡ Some l)
    by None e h = absurd (cc h)
    by (Some l) e h = (l, e)

-- where an answer has no fault, its question has a line
question_has_line : (lines : List ViewLine) (question : Name) (text : List ℕ) → compose_fault lines (AnswerLine question text) ≡ None → has_line lines question ≡ true
unfolding compose_fault
question_has_line lines question text e = by (has_line lines question) refl
  where
    by : (b : Bool) → has_line lines question ≡ b → b ≡ true
    by true h = refl
    by false h = absurd (cc (rw h at e))

module _ (size : ℕ) (lists : Lists) (run : Run size lists) (composed : AnswersWereComposed lists) where
  reg : IsRegular lists
  reg = run_regular size lists run

  one : OneNameOnePayload lists
  one = one_name_one_payload size lists run

  -- a name stands in a list once
  once : (j a b : ℕ) (e f : CausalEvent) → slice_get (lists j) a ≡ Some e → slice_get (lists j) b ≡ Some f → name_of e ≡ name_of f → a ≡ b
  once j a b e f at_e at_f same =
      let k : ℕ = (name_of e).sender in
      let sender : (name_of f).sender ≡ k = sym (ap (λ (m : Name). m.sender) same) in
      let number : (name_of e).number ≡ (name_of f).number = ap (λ (m : Name). m.number) same in
      let at_a : (name_of e).number ≡ count k (take a (lists j)) + 1 = reg.sound.in_order (record { member = j; index = a }) e at_e in
      let at_b : (name_of f).number ≡ count k (take b (lists j)) + 1 = rw sender at (reg.sound.in_order (record { member = j; index = b }) f at_f) in
      count_once (is_of k) (lists j) a b e f at_e at_f (eq-eqb k k refl) (eq-eqb (name_of f).sender k sender) (omega arith)

  -- the question of an answer that is cast stands before the cast
  asked_before : (i place : ℕ) (m : Name) (payload : List ℕ) (q : Name) (text : List ℕ) → slice_get (lists i) place ≡ Some (Cast m payload)
      → line_at payload ≡ Some (AnswerLine q text) → LineBefore (lists i) place q
  asked_before i place m payload q text at read =
      let c : WasComposed (lists i) place payload = composed i place m payload at (q, text, read) in
      let same : c.line ≡ AnswerLine q text = Some-injective c.line (AnswerLine q text) (sym (payload_is_read c.line payload c.made) ∙ read) in
      let (l, named) = has_its_line (view_of (take c.moment (lists i))) q (question_has_line (view_of (take c.moment (lists i))) q text (rw same at c.placed)) in
      let of : IsLineOf (lists i) c.moment q l = line_is_of (lists i) c.moment q l named in
      record {
        index = of.index;
        event = of.event;
        line = of.new.line;
        before = omega (arith, of.before, c.in_time);
        stands = of.stands;
        named = of.named;
        read = of.new.read;
      }

  -- where a message is delivered, what stood before its cast stands before the delivery
  brought : (j n : ℕ) (m : Name) (payload : List ℕ) (q : Name) → slice_get (lists j) n ≡ Some (Deliver m payload) → (index : ℕ) (c : IsCastAt lists (record { member = m.sender; index = index }) m)
      → LineBefore (lists m.sender) index q → LineBefore (lists j) n q
  brought j n m payload q at index c b =
      let p : Place = record { member = m.sender; index = index } in
      let d : Place = record { member = j; index = n } in
      let less : b.index < suc index = omega (arith, b.before) in
      let at_take : slice_get (take (suc index) (lists m.sender)) b.index ≡ Some b.event = get_take_from (lists m.sender) (suc index) b.index less ∙ b.stands in
      let (lowest, most) = number_within lists reg.sound m.sender (suc index) b.index b.event at_take in
      let clocks : clock lists p (name_of b.event).sender ≤ clock lists d (name_of b.event).sender = reg.closed p d m c (record { payload = payload; stands = at }) (name_of b.event).sender in
      let (k, e, within, stands, called) = stands_within lists reg.sound j (suc n) (name_of b.event).sender (name_of b.event).number lowest (omega arith) in
      let same : name_of e ≡ name_of b.event = called in
      let payloads : payload_of e ≡ payload_of b.event = one e b.event (j, k, stands) (m.sender, b.index, b.stands) same in
      record {
        index = k;
        event = e;
        line = b.line;
        before = elim (cases_order k n) [
          | inl at_n ↦
              let here : Some e ≡ Some (Deliver m payload) = sym stands ∙ ap (slice_get (lists j)) at_n ∙ at in
              let itself : name_of e ≡ m = ap name_of (Some-injective e (Deliver m payload) here) in
              let twice : b.index ≡ index = once m.sender b.index index b.event (Cast m c.payload) b.stands c.stands (sym same ∙ itself) in
              absurd (omega (arith, b.before, twice))
          | inr (inl earlier) ↦ earlier
          | inr (inr later) ↦ absurd (omega arith)
        ];
        stands = stands;
        named = same ∙ b.named;
        read = ap line_at payloads ∙ b.read;
      }

  -- the question of an answer stands before it, in each list
  pub question_before : (j n : ℕ) (e : CausalEvent) (q : Name) (text : List ℕ) → slice_get (lists j) n ≡ Some e → line_at (payload_of e) ≡ Some (AnswerLine q text)
      → LineBefore (lists j) n q
  question_before j n (Cast m payload) q text at read = asked_before j n m payload q text at read
  question_before j n (Deliver m payload) q text at read =
      let (index, c) = reg.sound.sent (record { member = j; index = n }) m (record { payload = payload; stands = at }) in
      let said : payload ≡ c.payload = one (Deliver m payload) (Cast m c.payload) (j, n, at) (m.sender, index, c.stands) refl in
      brought j n m payload q at index c (asked_before m.sender index m c.payload q text c.stands (ap line_at (sym said) ∙ read))

  -- ---- so each line is shown

  -- of the first n events, each that is a line has it
  abbrev pub ShowsFirst : ℕ → ℕ → Type 0
  ShowsFirst j n = (a : ℕ) (e : CausalEvent) (line : LineFields) → a < n → slice_get (lists j) a ≡ Some e → line_at (payload_of e) ≡ Some line
      → Shows (view_of (take n (lists j))) (name_of e) line

  question_shown : (j n : ℕ) (e : CausalEvent) (q : Name) (text : List ℕ) → slice_get (lists j) n ≡ Some e → line_at (payload_of e) ≡ Some (AnswerLine q text)
      → ShowsFirst j n → (l : ViewLine) × (line_named (view_of (take n (lists j))) q ≡ Some l)
  question_shown j n e q text at read shown =
      let b : LineBefore (lists j) n q = question_before j n e q text at read in
      let s = shown b.index b.event b.line b.before b.stands b.read in
      (s.0, subst (λ (m : Name). line_named (view_of (take n (lists j))) m ≡ Some s.0) b.named s.1)

  -- the name of an event has no line before it
  not_yet : (j n : ℕ) (e : CausalEvent) → slice_get (lists j) n ≡ Some e → has_line (view_of (take n (lists j))) (name_of e) ≡ false
  not_yet j n e at = by (has_line (view_of (take n (lists j))) (name_of e)) refl
    where
      by : (b : Bool) → has_line (view_of (take n (lists j))) (name_of e) ≡ b → b ≡ false
      by false h = refl
      by true h =
          let (l, named) = has_its_line (view_of (take n (lists j))) (name_of e) h in
          let of : IsLineOf (lists j) n (name_of e) l = line_is_of (lists j) n (name_of e) l named in
          let same : of.index ≡ n = once j of.index n of.event e of.stands at of.named in
          absurd (omega (arith, of.before, same))

  -- a line has what it adds
  made : (j n : ℕ) (e : CausalEvent) (line : LineFields) → slice_get (lists j) n ≡ Some e → line_at (payload_of e) ≡ Some line → ShowsFirst j n
      → (l : ViewLine) × (line_of (view_of (take n (lists j))) (name_of e) line ≡ Some l)
  made j n e (SayLine room text) at read shown = (record { name = name_of e; room = room; question = None; text = text }, refl)
  made j n e (AnswerLine q text) at read shown =
      let (l, named) = question_shown j n e q text at read shown in
      (record { name = name_of e; room = l.room; question = Some q; text = text }, rw named refl)

  shows_new : (j n : ℕ) (e : CausalEvent) (line : LineFields) → slice_get (lists j) n ≡ Some e → line_at (payload_of e) ≡ Some line → ShowsFirst j n
      → Shows (lines_after (view_of (take n (lists j))) (name_of e) (payload_of e)) (name_of e) line
  shows_new j n e line at read shown =
      let lines : List ViewLine = view_of (take n (lists j)) in
      let (l, new) = made j n e line at read shown in
      let more : added lines (name_of e) (payload_of e) ≡ Some l = adds lines (name_of e) (payload_of e) line (not_yet j n e at) read ∙ new in
      (l, named_new lines (name_of e) (payload_of e) l more, (reported lines (name_of e) line l new).1)

  pub shows : (j n : ℕ) → ShowsFirst j n
  shows j (zero) a e line less at read = absurd (omega (arith, less))
  shows j (suc n) a e line less at read = by (shows j n) (slice_get (lists j) n) refl
    where
      by : ShowsFirst j n → (o : Option CausalEvent) → slice_get (lists j) n ≡ o → Shows (view_of (take (suc n) (lists j))) (name_of e) line
      by first None past =
          let one_less : a < n = elim (cases_order a n) [
            | inl same ↦ absurd (none-some e (sym past ∙ ap (slice_get (lists j)) (sym same) ∙ at))
            | inr (inl lower) ↦ lower
            | inr (inr higher) ↦ absurd (omega (arith, less))
          ] in
          subst (λ (es : List CausalEvent). Shows (view_of es) (name_of e) line) (sym (take_past (lists j) n past)) (first a e line one_less at read)
      by first (Some x) last =
          let lines : List ViewLine = view_of (take n (lists j)) in
          subst (λ (ls : List ViewLine). Shows ls (name_of e) line) (sym (view_step (lists j) n x last)) (elim (cases_order a n) [
            | inl same ↦
                let here : x ≡ e = Some-injective x e (sym last ∙ ap (slice_get (lists j)) (sym same) ∙ at) in
                let new : Shows (lines_after lines (name_of e) (payload_of e)) (name_of e) line = shows_new j n e line (ap (slice_get (lists j)) (sym same) ∙ at) read first in
                subst (λ (y : CausalEvent). Shows (lines_after lines (name_of y) (payload_of y)) (name_of e) line) (sym here) new
            | inr (inl lower) ↦
                let old = first a e line lower at read in
                (old.0, named_stays lines (name_of x) (payload_of x) (name_of e) old.0 old.1, old.2)
            | inr (inr higher) ↦ absurd (omega (arith, less))
          ])

  pub shows_all_lines : (j : ℕ) → ShowsAllLines (lists j)
  shows_all_lines j place e line at read =
      subst (λ (es : List CausalEvent). Shows (view_of es) (name_of e) line) (take_whole (lists j))
      (shows j (length (lists j)) place e line (slice_get_within (lists j) place e at) at read)

  -- ---- and nothing is an orphan

  pub no_orphan : (j : ℕ) → HasNoOrphan (lists j)
  unfolding showing
  no_orphan j place e at orphan = by (line_at (payload_of e)) refl
    where
      lines : List ViewLine
      lines = view_of (take place (lists j))

      here : line_showing lines (line_at (payload_of e)) ≡ showings.Orphan
      here = rw (not_yet j place e at) at orphan

      by : (o : Option LineFields) → line_at (payload_of e) ≡ o → ⊥
      by None read = cc (rw read at here)
      by (Some (SayLine room text)) read = cc (rw read at here)
      by (Some (AnswerLine q text)) read =
          let (l, named) = question_shown j place e q text at read (shows j place) in
          cc (rw (read, named) at here)

  -- ---- and all have the same line

  -- the room of an answer is that of its question
  room_of_question : (lines : List ViewLine) (m q : Name) (text : List ℕ) (a : ViewLine) → line_of lines m (AnswerLine q text) ≡ Some a
      → (l : ViewLine) × (line_named lines q ≡ Some l) × (a ≡ record { name = m; room = l.room; question = Some q; text = text })
  room_of_question lines m q text a e = by (line_named lines q) refl
    where
      by : (o : Option ViewLine) → line_named lines q ≡ o
          → (l : ViewLine) × (line_named lines q ≡ Some l) × (a ≡ record { name = m; room = l.room; question = Some q; text = text })
      by None h = absurd (none-some a (rw h at e))
      by (Some l) h = (l, h, sym (Some-injective (record { name = m; room = l.room; question = Some q; text = text }) a (rw h at e)))

  -- with this many events before it, a line is the same as in any other view
  abbrev SameUpTo : ℕ → Type 0
  SameUpTo most = (j n k p : ℕ) (m : Name) (a b : ViewLine) → n ≤ most → line_named (view_of (take n (lists j))) m ≡ Some a
      → line_named (view_of (take p (lists k))) m ≡ Some b → a ≡ b

  same_line : (most : ℕ) → ((less : ℕ) → less < most → SameUpTo less) → SameUpTo most
  same_line most earlier j n k p m a b enough is_a is_b =
      by of_a.new.line of_a.new.made (subst (λ (x : LineFields). line_of (view_of (take of_b.index (lists k))) m x ≡ Some b) same of_b.new.made)
    where
      of_a : IsLineOf (lists j) n m a
      of_a = line_is_of (lists j) n m a is_a

      of_b : IsLineOf (lists k) p m b
      of_b = line_is_of (lists k) p m b is_b

      said : payload_of of_a.event ≡ payload_of of_b.event
      said = one of_a.event of_b.event (j, of_a.index, of_a.stands) (k, of_b.index, of_b.stands) (of_a.named ∙ sym of_b.named)

      same : of_b.new.line ≡ of_a.new.line
      same = Some-injective of_b.new.line of_a.new.line (sym of_b.new.read ∙ ap line_at (sym said) ∙ of_a.new.read)

      by : (line : LineFields) → line_of (view_of (take of_a.index (lists j))) m line ≡ Some a → line_of (view_of (take of_b.index (lists k))) m line ≡ Some b → a ≡ b
      by (SayLine room text) made_a made_b = Some-injective a b (sym made_a ∙ made_b)
      by (AnswerLine q text) made_a made_b =
          let (l, at_j, is) = room_of_question (view_of (take of_a.index (lists j))) m q text a made_a in
          let (r, at_k, is_too) = room_of_question (view_of (take of_b.index (lists k))) m q text b made_b in
          let rooms : l ≡ r = earlier of_a.index (omega (arith, of_a.before, enough)) j of_a.index k of_b.index q l r (omega arith) at_j at_k in
          is ∙ ap (λ (x : ViewLine). record { name = m; room = x.room; question = Some q; text = text }) rooms ∙ sym is_too

  same_up_to : (bound most : ℕ) → most < bound → SameUpTo most
  same_up_to (zero) most less = absurd (omega (arith, less))
  same_up_to (suc bound) most less = same_line most (λ smaller h. same_up_to bound smaller (omega (arith, h, less)))

  pub agree_on_lines : AgreeOnLines lists
  agree_on_lines j k m a b is_a is_b =
      same_up_to (suc (length (lists j))) (length (lists j)) (omega arith) j (length (lists j)) k (length (lists k)) m a b (omega arith)
      (subst (λ (es : List CausalEvent). line_named (view_of es) m ≡ Some a) (sym (take_whole (lists j))) is_a)
      (subst (λ (es : List CausalEvent). line_named (view_of es) m ≡ Some b) (sym (take_whole (lists k))) is_b)
