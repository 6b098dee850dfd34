-- Parts of a turn, one behind the other, and what it hands out.
use Rattle.std.proofs.Common.{◌≡◌, ◌≤◌, ◌+◌, ◌-◌, ℕ, List, ◌++◌, [], length, take, drop, refl, sym, ap, subst, ◌∙◌, append_assoc, arith}
use Rattle.std.proofs.lemmas.List.{append-nil, drop-take, length-append, take-append-drop, take-append-le}
use Rattle.cb_delay.specs.declared.message.Event.{Event}
use Rattle.cb_history.specs.declared.answer.Outgoing.{Outgoing}
use Rattle.cb_history.specs.Facts.{EntryFields}
use Rattle.cb_history.specs.Legal.{IsLegal}
use Rattle.cb_history.specs.State.{MemberState, events_in}
use Rattle.cb_links.specs.Counts.{held}
use Rattle.cb_node.specs.declared.refused.Refused.{Refused}
use Rattle.cb_node.specs.Course.{Goes, Stays, Work}
use Rattle.cb_node.specs.Kept.{IsKeptState, KeepsUp, KeptState, work_of}
use Rattle.cb_node.specs.Turning.{CountsOn, HasGone, HasTurned, between}
use Rattle.cb_node.proofs.Courses.{and_then, course_grows, goes_on_top, on_top}
use Rattle.cb_node.proofs.Keeping.{keeps_same, keeps_then}

-- calls of which nothing was sent yet
pub by_course : (old new : KeptState) (count : ℕ) → Goes (work_of old) (work_of new) → HasGone old new count count
by_course old new count course = record { done = work_of new; sent = []; course = course; member = refl; refused = refl; post = refl; offered = omega arith }

pub by_calls : (old new : KeptState) (before after : ℕ) → Goes (work_of old) (work_of new) → after ≡ before → HasGone old new before after
by_calls old new before after course same = subst (λ (n : ℕ). HasGone old new before n) (sym same) (by_course old new before course)

pub nothing_gone : (old : KeptState) (count : ℕ) → HasGone old old count count
nothing_gone old count = by_course old old count (Stays (work_of old))

-- all that waited was sent
pub by_sending : (old new : KeptState) (before after : ℕ) → new ≡ record old { post = [] } → CountsOn before (length old.post) after → HasGone old new before after
by_sending old new before after same offered = record {
  done = work_of old;
  sent = old.post;
  course = Stays (work_of old);
  member = ap (λ (s : KeptState). s.kept) (sym same);
  refused = ap (λ (s : KeptState). s.refused) (sym same);
  post = sym (append-nil old.post) ∙ ap (λ (s : KeptState). old.post ++ s.post) (sym same);
  offered = offered;
}

work_is : (w : Work) (member : MemberState) (post : List Outgoing) (refused : Refused) → w.member ≡ member → w.post ≡ post → w.refused ≡ refused → w ≡ record { member = member; post = post; refused = refused }
work_is w member post refused m p r =
    ap (λ (x : MemberState). let v : Work = record { member = x; post = w.post; refused = w.refused } in v) m
    ∙ ap (λ (x : List Outgoing). let v : Work = record { member = member; post = x; refused = w.refused } in v) p
    ∙ ap (λ (x : Refused). let v : Work = record { member = member; post = post; refused = x } in v) r

count_on : (x y z a b c : ℕ) → held y ≡ held (x + a) → held z ≡ held (y + b) → c ≡ a + b → held z ≡ held (x + c)
count_on x y z a b c first second sum = omega (arith, first, second, sum)

pub go_on : (a b c : KeptState) (x y z : ℕ) → HasGone a b x y → HasGone b c y z → HasGone a c x z
go_on a b c x y z first second =
    let is : first.done ≡ on_top first.sent (work_of b) = work_is first.done b.kept (first.sent ++ b.post) b.refused first.member first.post first.refused in
    let course : Goes (work_of a) (on_top first.sent second.done) =
    and_then (work_of a) (on_top first.sent (work_of b)) (on_top first.sent second.done) (subst (Goes (work_of a)) is first.course)
    (goes_on_top first.sent (work_of b) second.done second.course) in
    record {
      done = on_top first.sent second.done;
      sent = first.sent ++ second.sent;
      course = course;
      member = second.member;
      refused = second.refused;
      post = ap (λ (p : List Outgoing). first.sent ++ p) second.post ∙ sym (append_assoc first.sent second.sent c.post);
      offered = count_on x y z (length first.sent) (length second.sent) (length (first.sent ++ second.sent)) first.offered second.offered (length-append first.sent second.sent);
    }

-- ---- what is handed out

parts : (old new more : List Event) (handed : ℕ) → new ≡ old ++ more → handed ≤ length old → new ≡ take handed old ++ drop handed new
parts old new more handed is within =
    sym (take-append-drop handed new) ∙ ap (λ (es : List Event). es ++ drop handed new) (ap (take handed) is ∙ take-append-le handed old more within)

pub turned : (old new : KeptState) (before after handed to : ℕ) → HasGone old new before after → new.post ≡ [] → IsKeptState old → IsKeptState new → handed ≤ old.shown → handed ≤ to → to ≡ new.shown
    → HasTurned old new before after handed to (between handed to (events_in new.member))
turned old new before after handed to gone nothing was is within rises all =
    let legal = subst (λ (m : MemberState). IsLegal m.seat m.entries) (sym gone.member) is.kept_legal in
    let g = course_grows (work_of old) gone.done gone.course legal in
    let grown : events_in new.kept ≡ events_in old.kept ++ g.more = ap events_in (sym gone.member) ∙ g.events in
    let sum : handed + (to - handed) ≡ to = omega (arith, rises) in
    let shown : between handed to (events_in new.member) ≡ drop handed (events_in new.kept) =
    sym (drop-take handed (to - handed) (events_in new.member))
    ∙ ap (drop handed) (ap (λ (n : ℕ). take n (events_in new.member)) (sum ∙ all) ∙ is.events) in
    record {
      gone = gone;
      nothing_waits = nothing;
      all = all ∙ is.shown;
      news_are = parts (events_in old.kept) (events_in new.kept) g.more handed grown (omega (arith, within, was.shown))
          ∙ ap (λ (es : List Event). take handed (events_in old.kept) ++ es) (sym shown);
    }

-- ---- what the keeper has

pub keep_on : {K : Type 0} (has : K → List EntryFields → Type 0) (k l m : K) (a b c : KeptState) → KeepsUp has k l a b → KeepsUp has l m b c → KeepsUp has k m a c
keep_on has k l m a b c first second =
    keeps_then has k l m a.fault b.fault c.fault a.kept.entries b.kept.entries c.kept.entries first second

-- nothing was done
pub keep_still : {K : Type 0} (has : K → List EntryFields → Type 0) (k : K) (a b : KeptState) → b ≡ a → KeepsUp has k k a b
keep_still has k a b same =
    keeps_same has k k a.fault b.fault a.kept.entries b.kept.entries refl (ap (λ (s : KeptState). s.fault) same) (ap (λ (s : KeptState). s.kept.entries) same)

-- nothing was kept, and all that waited was sent
pub keep_same : {K : Type 0} (has : K → List EntryFields → Type 0) (k l : K) (a b : KeptState) → l ≡ k → b ≡ record a { post = [] } → KeepsUp has k l a b
keep_same has k l a b keeper same =
    keeps_same has k l a.fault b.fault a.kept.entries b.kept.entries keeper (ap (λ (s : KeptState). s.fault) same) (ap (λ (s : KeptState). s.kept.entries) same)
