-- What is kept of a member, and what one more entry makes of that.
use Rattle.std.proofs.Common.{◌≡◌, ◌≤◌, ℕ, List, length, take, drop, Option, Some, None, option_map, sym, ap, subst, ◌∙◌, arith}
use Rattle.std.specs.declared.alloc.Global.{Global}
use Rattle.std.specs.declared.vec.Vec.{Vec}
use Rattle.std.proofs.lemmas.List.{take-append-drop}
use Rattle.std.proofs.Math.Seq.{take-length}
use Rattle.cb_history.specs.declared.answer.Outgoing.{Outgoing}
use Rattle.cb_history.specs.declared.history.Entry.{Entry}
use Rattle.cb_history.specs.Facts.{EntryFields, entry_fields}
use Rattle.cb_history.specs.Legal.{Call, IsLegal, and_entry}
use Rattle.cb_history.specs.State.{IsMemberState, MemberState, entry_by, events_in, state_after}
use Rattle.cb_history.proofs.Prefixes.{prefix_is_legal}
use Rattle.cb_node.specs.declared.desk.Desk.{Desk}
use Rattle.cb_journal.specs.declared.keeper.KeepFault.{KeepFault}
use Rattle.cb_node.specs.declared.refused.Refused.{Refused}
use Rattle.cb_node.specs.Course.{Work}
use Rattle.cb_node.specs.Desk.{IsDesk, IsEntering, and_noted, first_of, frames_in, state_in}
use Rattle.cb_node.specs.Kept.{IsKeptState, KeptState, work_of}
use Rattle.cb_node.proofs.Growing.{first_entries, first_events, more_events}

-- all entries are the first so many
pub first_is_all : (m : MemberState) (count : ℕ) → count ≡ length m.entries → first_of m count ≡ m
first_is_all m count whole =
    let with_entries : List EntryFields → MemberState = λ es. record { seat = m.seat; limit = m.limit; entries = es } in
    ap (λ (n : ℕ). with_entries (take n m.entries)) whole ∙ ap with_entries (take-length m.entries)

first_are_legal : (m : MemberState) (count : ℕ) → IsMemberState m → IsLegal m.seat (take count m.entries)
first_are_legal m count legal =
    prefix_is_legal m.seat (take count m.entries) (drop count m.entries) (subst (IsLegal m.seat) (sym (take-append-drop count m.entries)) legal.legal)

-- all of the entries of this member are kept, and it has so many events
pub whole_desk : (d : Desk) → IsMemberState d.member → d.written ≡ length d.member.entries → d.events ≡ length (events_in d.member) → IsDesk d
whole_desk d legal whole count =
    let all = first_is_all d.member d.written whole in
    record {
      legal = legal;
      kept_legal = first_are_legal d.member d.written legal;
      whole = λ _. all;
      written = whole ∙ ap (λ (m : MemberState). length m.entries) (sym all);
      shown = count ∙ ap (λ (m : MemberState). length (events_in m)) (sym all);
      events = ap (λ (n : ℕ). take n (events_in d.member)) count ∙ take-length (events_in d.member) ∙ ap events_in (sym all);
    }

-- as long as the member and what is kept of it are the same
pub still_kept : (s new : KeptState) → IsKeptState s → new.member ≡ s.member → new.kept ≡ s.kept → new.written ≡ s.written → new.shown ≡ s.shown → new.fault ≡ s.fault → IsKeptState new
still_kept s new is member kept written shown fault = record {
  legal = subst IsMemberState (sym member) is.legal;
  kept_legal = subst (λ (m : MemberState). IsLegal m.seat m.entries) (sym kept) is.kept_legal;
  whole = λ none. kept ∙ is.whole (sym fault ∙ none) ∙ sym member;
  written = written ∙ is.written ∙ ap (λ (m : MemberState). length m.entries) (sym kept);
  shown = shown ∙ is.shown ∙ ap (λ (m : MemberState). length (events_in m)) (sym kept);
  events = ap (λ (n : ℕ). take n (events_in new.member)) shown ∙ ap (λ (m : MemberState). take s.shown (events_in m)) member ∙ is.events ∙ ap events_in (sym kept);
}

-- ---- a call was made

before : (s : KeptState) (noted : Option Entry) → IsEntering s noted → IsMemberState s.member → IsMemberState (and_noted s.kept noted)
before s noted e legal = subst IsMemberState e.added legal

pub events_rise : (s : KeptState) (noted : Option Entry) → IsEntering s noted → IsMemberState s.member → s.shown ≤ length (events_in s.member)
events_rise s noted e legal =
    let more = more_events s.kept.seat s.kept.entries (option_map entry_fields noted) (before s noted e legal).legal in
    let now : length (events_in s.member) ≡ length (events_in (and_noted s.kept noted)) = ap (λ (m : MemberState). length (events_in m)) e.added in
    omega (arith, more, now, e.shown)

-- its entry could not be kept: what was kept is
pub unkept : (s new : KeptState) (noted : Option Entry) (fault : KeepFault) → IsEntering s noted → IsMemberState s.member → IsLegal s.kept.seat s.kept.entries
    → new.member ≡ s.member → new.kept ≡ s.kept → new.written ≡ s.written → new.shown ≡ s.shown → new.fault ≡ Some fault → IsKeptState new
unkept s new noted fault e legal kept_legal member kept written shown failed = record {
  legal = subst IsMemberState (sym member) legal;
  kept_legal = subst (λ (m : MemberState). IsLegal m.seat m.entries) (sym kept) kept_legal;
  whole = λ none. absurd cc;
  written = written ∙ e.written ∙ ap (λ (m : MemberState). length m.entries) (sym kept);
  shown = shown ∙ e.shown ∙ ap (λ (m : MemberState). length (events_in m)) (sym kept);
  events =
      ap (λ (n : ℕ). take n (events_in new.member)) (shown ∙ e.shown)
      ∙ ap (λ (m : MemberState). take (length (events_in s.kept)) (events_in m)) (member ∙ e.added)
      ∙ first_events s.kept.seat s.kept.entries (option_map entry_fields noted) (before s noted e legal).legal
      ∙ ap events_in (sym kept);
}

pub unkept_desk : (d new : Desk) (noted : Option Entry) (fault : KeepFault) → IsEntering (state_in d) noted → IsMemberState d.member
    → new.member ≡ d.member → new.written ≡ d.written → new.events ≡ d.events → new.fault ≡ Some fault → IsDesk new
unkept_desk d new noted fault e legal member written events failed =
    let kept : first_of new.member new.written ≡ first_of d.member d.written = ap (λ (m : MemberState). first_of m new.written) member ∙ ap (first_of d.member) written in
    unkept (state_in d) (state_in new) noted fault e legal (first_are_legal d.member d.written legal) member kept written events failed

-- behind a call of a member all of whose entries are kept
pub record CallEnters (old mid : Desk) (noted : Option Entry) : Type 0 where
  pub before : (state_in old).kept ≡ old.member
  pub kept : (state_in mid).kept ≡ old.member
  pub entering : IsEntering (state_in mid) noted

pub call_enters : (old mid : Desk) (call : Call) (noted : Option Entry) → IsDesk old → old.fault ≡ None → mid.fault ≡ old.fault → mid.written ≡ old.written → mid.events ≡ old.events
    → mid.member ≡ state_after old.member call → entry_by old.member call ≡ option_map entry_fields noted → CallEnters old mid noted
call_enters old mid call noted is alive fault written events after entry =
    let m = old.member in
    let added = option_map entry_fields noted in
    let all = is.whole alive in
    let counts : old.written ≡ length m.entries = is.written ∙ ap (λ (k : MemberState). length k.entries) all in
    let grown : mid.member ≡ and_noted m noted = after ∙ ap (λ (o : Option EntryFields). let s : MemberState = record { seat = m.seat; limit = m.limit; entries = and_entry m.entries o } in s) entry in
    let entries : take (length m.entries) (and_entry m.entries added) ≡ m.entries = first_entries m.entries added in
    let kept : first_of mid.member mid.written ≡ m =
    ap (λ (k : MemberState). first_of k mid.written) grown
    ∙ ap (λ (n : ℕ). first_of (and_noted m noted) n) (written ∙ counts)
    ∙ ap (λ (es : List EntryFields). let s : MemberState = record { seat = m.seat; limit = m.limit; entries = es } in s) entries in
    record {
      before = all;
      kept = kept;
      entering = record {
        alive = fault ∙ alive;
        added = grown ∙ ap (λ (k : MemberState). and_noted k noted) (sym kept);
        written = written ∙ counts ∙ ap (λ (k : MemberState). length k.entries) (sym kept);
        shown = events ∙ is.shown ∙ ap (λ (k : MemberState). length (events_in k)) (all ∙ sym kept);
      };
    }

-- with room made for what is to be sent, nothing has changed
pub same_desk : (old : Desk) (member : MemberState) (post : Vec (Vec Outgoing Global) Global) → member ≡ old.member → post.items ≡ old.post.items → state_in (record old { member = member; post = post }) ≡ state_in old
same_desk old member post m p =
    let s : MemberState → List (Vec Outgoing Global) → KeptState = λ x y. record { member = x; kept = first_of x old.written; post = frames_in y; written = old.written; shown = old.events; refused = old.refused; fault = old.fault } in
    ap (λ (x : MemberState). s x post.items) m ∙ ap (s old.member) p

-- what a call did of which nothing was kept is not seen
pub unentered : (old mid : Desk) (noted : Option Entry) → CallEnters old mid noted → mid.post.items ≡ old.post.items → mid.refused ≡ old.refused → work_of (state_in mid) ≡ work_of (state_in old)
unentered old mid noted e post refused =
    let w : MemberState → List (Vec Outgoing Global) → Refused → Work = λ x y z. record { member = x; post = frames_in y; refused = z } in
    ap (λ (x : MemberState). w x mid.post.items mid.refused) (e.kept ∙ sym e.before)
    ∙ ap (λ (y : List (Vec Outgoing Global)). w (state_in old).kept y mid.refused) post
    ∙ ap (w (state_in old).kept old.post.items) refused
