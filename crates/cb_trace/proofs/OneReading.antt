-- No text is the trace of two lists of histories.
use Rattle.std.proofs.Common.{◌≡◌, ℕ, List, [], ◌∷◌, ◌++◌, length, map, refl, sym, ap, subst, ◌∙◌, arith, append_assoc, Result, Ok, Err, Vec}
use Rattle.std.specs.declared.alloc.Global.{Global}
use Rattle.std.specs.List.{AllByRecursion, flat_map}
use Rattle.std.specs.Fmt.{decimal}
use Rattle.std.proofs.lemmas.List.{length-map}
use Rattle.cb_history.specs.declared.history.History.{History}
use Rattle.cb_history.specs.Group.{Parameters}
use Rattle.cb_history.specs.Facts.{EntryFields}
use Rattle.cb_trace.specs.declared.fault.TraceFault.{TraceFault}
use Rattle.cb_trace.specs.declared.fault.TraceFault.TheVariants.{BadLine, NoMemory}
use Rattle.cb_trace.specs.Text.{HistoryFields, history_fields, member_words, member_line, last_line, history_lines}
use Rattle.cb_lines.specs.Text.{entry_line}
use Rattle.cb_trace.specs.Bounds.{IsMember, IsHistory, IsTrace}
use Rattle.cb_trace.specs.Reading.{Reads, Gives}
use Rattle.cb_lines.proofs.Digits.{one_number}
use Rattle.cb_trace.proofs.Cut.{member_line_is_cut}
use Rattle.cb_lines.proofs.OneLine.{one_group, same_entries}
use Rattle.cb_lines.proofs.Lists.{same_back}
use Rattle.cb_trace.proofs.Following.{one_count, last_is_no_member}
use Rattle.cb_trace.proofs.Reaching.{same_lines}

one_member : (m c n d : ℕ) → IsMember m c → IsMember n d → member_line m c ≡ member_line n d → m ≡ n
one_member m c n d p q e =
    let words : member_words m c ≡ member_words n d = sym (member_line_is_cut m c (member_line m c) p refl) ∙ member_line_is_cut n d (member_line m c) q e in
    one_number m n (decimal m) (omega (arith, p.member)) (omega (arith, q.member)) refl (cc words)

same_history : (a b : HistoryFields) → a.group ≡ b.group → a.me ≡ b.me → a.entries ≡ b.entries → a ≡ b
same_history a b group me entries =
    ap (λ (g : Parameters). history g a.me a.entries) group ∙ ap (λ (n : ℕ). history b.group n a.entries) me ∙ ap (λ (es : List EntryFields). history b.group b.me es) entries
  where
    history : Parameters → ℕ → List EntryFields → HistoryFields
    history g n es = record { group = g; me = n; entries = es }

same_histories : (g : Parameters) (a b : List HistoryFields) → AllByRecursion (IsHistory g) a → AllByRecursion (IsHistory g) b → flat_map history_lines a ++ last_line ∷ [] ≡ flat_map history_lines b ++ last_line ∷ [] → a ≡ b
same_histories g [] [] p q e = refl
same_histories g [] (y ∷ b) p q e = absurd (last_is_no_member y.me (length y.entries) (cc e))
same_histories g (x ∷ a) [] p q e = absurd (last_is_no_member x.me (length x.entries) (sym (cc e)))
same_histories g (x ∷ a) (y ∷ b) p q e =
    let line : member_line x.me (length x.entries) ≡ member_line y.me (length y.entries) = cc e in
    let me = one_member x.me (length x.entries) y.me (length y.entries) p.0.member q.0.member line in
    let many = one_count x.me (length x.entries) y.me (length y.entries) p.0.member q.0.member line in
    let tails : (map entry_line x.entries ++ flat_map history_lines a) ++ last_line ∷ [] ≡ (map entry_line y.entries ++ flat_map history_lines b) ++ last_line ∷ [] = cc e in
    let moved = sym (append_assoc (map entry_line x.entries) (flat_map history_lines a) (last_line ∷ [])) ∙ tails ∙ append_assoc (map entry_line y.entries) (flat_map history_lines b) (last_line ∷ []) in
    let entries = same_entries x.entries y.entries _ _ p.0.each q.0.each many moved in
    let behind = same_back (map entry_line x.entries) (map entry_line y.entries) _ _ (length-map x.entries entry_line ∙ many ∙ sym (length-map y.entries entry_line)) moved in
    let first = same_history x y (p.0.group_is ∙ sym q.0.group_is) me entries in
    let rest = same_histories g a b p.1 q.1 behind in
    cc (first, rest)

pub one_reading : (text : List ℕ) (a b : List HistoryFields) → IsTrace a text → IsTrace b text → a ≡ b
one_reading text a b s t =
    let lines = same_lines s.0 t.0 a b s.1 t.1 (sym s.2 ∙ t.2) in
    let group = one_group s.0 t.0 s.1.parameters t.1.parameters (cc lines) in
    same_histories t.0 a b (subst (λ (g : Parameters). AllByRecursion (IsHistory g) a) group s.1.each) t.1.each (cc lines)

pub only_reading : (text : List ℕ) (r : Result (Vec History Global) TraceFault) (histories : List HistoryFields) → IsTrace histories text → Reads text r → Gives histories r
only_reading text (Ok v) histories t read = one_reading text (map history_fields v.items) histories read t
only_reading text (Err (BadLine line)) histories t bad = bad.no_trace histories t
only_reading text (Err NoMemory) histories t read = tt
