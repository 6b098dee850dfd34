-- What a group in threads hands out, and its members' lines.
use Rattle.std.proofs.Common.{◌≡◌, ℕ, zero, suc, ◌+◌, ◌<◌, ◌≤◌, List, [], ◌∷◌, ◌++◌, Some, None, length, map, take, drop, sym, ap, subst, get_or, ◌∙◌, arith}
use Rattle.std.proofs.lemmas.List.{append_assoc, append-nil, drop_all, drop_more, length-map, take_all}
use Rattle.std.proofs.lemmas.List.Elements.{All-nil, All-more}
use Rattle.std.specs.Prelude.{slice_get}
use Rattle.cb_history.specs.Group.{Parameters, AreParameters}
use Rattle.cb_history.specs.Legal.{IsLegal}
use Rattle.cb_history.specs.declared.history.History.{History}
use Rattle.cb_threads.specs.declared.report.Tally.{Tally}
use Rattle.cb_threads.specs.Groups.{AreKept}
use Rattle.cb_trace.specs.Text.{HistoryFields, history_fields}
use Rattle.cb_trace.specs.Auditing.{AreLegalHistories, entries_at, seat_of}
use Rattle.confer_run.specs.Run.{AreCounts, EachRan, Report, report_line, report_lines}

-- ---- the histories

kept_at : (group : Parameters) (me i : ℕ) (hs : List History) (ts : List Tally) (h : HistoryFields) → AreKept group me hs ts → slice_get (map history_fields hs) i ≡ Some h → (h.group ≡ group) × (h.me ≡ me + i)
kept_at group me i [] ts h all e = cc
kept_at group me i (g ∷ hs) [] h all e = absurd all
kept_at group me zero (g ∷ hs) (t ∷ ts) h all e =
    let same : history_fields g ≡ h = cc in
    (sym (ap (λ (x : HistoryFields). x.group) same) ∙ all.0.group_is, omega (arith, ap (λ (x : HistoryFields). x.me) same, all.0.me_is))
kept_at group me (suc i) (g ∷ hs) (t ∷ ts) h all e =
    let rest = kept_at group (suc me) i hs ts h all.1 e in
    (rest.0, omega (arith, rest.1))

kept_legal : (group : Parameters) (me i : ℕ) (hs : List History) (ts : List Tally) → AreKept group me hs ts → i < length hs → IsLegal (seat_of group (me + i)) (entries_at (map history_fields hs) i)
kept_legal group me i [] ts all within = absurd (omega (arith, within))
kept_legal group me i (g ∷ hs) [] all within = absurd all
kept_legal group me zero (g ∷ hs) (t ∷ ts) all within = subst (λ (n : ℕ). IsLegal (seat_of group n) (history_fields g).entries) (omega arith) all.0.legal
kept_legal group me (suc i) (g ∷ hs) (t ∷ ts) all within =
    subst (λ (n : ℕ). IsLegal (seat_of group n) (entries_at (map history_fields hs) i)) (omega arith) (kept_legal group (suc me) i hs ts all.1 (omega (arith, within)))

pub legal_histories : (group own : Parameters) (hs : List History) (ts : List Tally) → group ≡ own → AreParameters group → length hs ≡ group.size → AreKept group 0 hs ts → AreLegalHistories own (map history_fields hs)
legal_histories group own hs ts same parameters many kept =
    let legal : AreLegalHistories group (map history_fields hs) = record {
      each = record {
        parameters = parameters;
        many = length-map hs history_fields ∙ many;
        each = λ i h e. let at = kept_at group 0 i hs ts h kept e in (at.0, omega (arith, at.1));
      };
      legal = λ i within.
          subst (λ (n : ℕ). IsLegal (seat_of group n) (entries_at (map history_fields hs) i)) (omega arith) (kept_legal group 0 i hs ts kept (omega (arith, within, many)));
    } in
    subst (λ (p : Parameters). AreLegalHistories p (map history_fields hs)) same legal

pub counts_kept : (group : Parameters) (me : ℕ) (hs : List History) (ts : List Tally) → AreKept group me hs ts → AreCounts (map history_fields hs) ts
counts_kept group me [] [] all = tt
counts_kept group me [] (t ∷ ts) all = absurd all
counts_kept group me (g ∷ hs) [] all = absurd all
counts_kept group me (g ∷ hs) (t ∷ ts) all = (all.0.counts, counts_kept group (suc me) hs ts all.1)

-- ---- the lines

-- with the lines of those that are left, the text so far has all
abbrev pub Continues : {I O : Type 0} → List (Report I O) → ℕ → List ℕ → Type 0
Continues reports me text = text ++ report_lines me (drop me reports) ≡ report_lines 0 reports

pub continues : {I O : Type 0} (reports : List (Report I O)) (me : ℕ) (r : Report I O) (text text' : List ℕ) → me < length reports → r ≡ get_or reports me r → text' ≡ text ++ report_line me r
    → Continues reports me text → Continues reports (me + 1) text'
continues {I} {O} reports me r text text' within is e before =
    let at : drop me reports ≡ r ∷ drop (me + 1) reports = drop_more reports me r within ∙ ap (λ (x : Report I O). x ∷ drop (me + 1) reports) (sym is) in
    let rest = report_lines (me + 1) (drop (me + 1) reports) in
    let next : report_lines me (drop me reports) ≡ report_line me r ++ rest =
    ap (report_lines me) at ∙ ap (λ (n : ℕ). report_line me r ++ report_lines n (drop (me + 1) reports)) (omega arith) in
    ap (λ (t : List ℕ). t ++ rest) e ∙ append_assoc text (report_line me r) rest ∙ sym (ap (λ (t : List ℕ). text ++ t) next) ∙ before

pub all_lines : {I O : Type 0} (reports : List (Report I O)) (me : ℕ) (text : List ℕ) → length reports ≤ me → Continues reports me text → text ≡ report_lines 0 reports
all_lines {I} {O} reports me text many all =
    sym (append-nil text) ∙ ap (λ (rs : List (Report I O)). text ++ report_lines me rs) (sym (drop_all me reports many)) ∙ all

-- ---- who ran

-- no worker of the members before this one failed to run
abbrev pub RanBefore : {I O : Type 0} → List (Report I O) → ℕ → Type 0
RanBefore reports me = EachRan (take me reports)

pub ran_none : {I O : Type 0} (reports : List (Report I O)) → RanBefore reports 0
ran_none reports = All-nil (λ r. r.fault ≡ None)

pub ran_next : {I O : Type 0} (reports : List (Report I O)) (me : ℕ) (r : Report I O) → me < length reports → r ≡ get_or reports me r → r.fault ≡ None → RanBefore reports me → RanBefore reports (me + 1)
ran_next {I} {O} reports me r within is ran before =
    All-more (λ (x : Report I O). x.fault ≡ None) reports me r within before (subst (λ (x : Report I O). x.fault ≡ None) is ran)

pub all_ran : {I O : Type 0} (reports : List (Report I O)) (me : ℕ) → length reports ≤ me → RanBefore reports me → EachRan reports
all_ran reports me many ran = subst EachRan (take_all me reports many) ran
