-- What a core knows is so of each history that it stands for, and of what a call makes of that.
use Rattle.std.proofs.Common.{◌≡◌, ℕ, ◌<◌, Bool, List, [], ◌∷◌, ◌++◌, length, Some, None, refl, sym, ap, subst, ◌∙◌, arith}
use Rattle.std.proofs.lemmas.List.{append-nil}
use Rattle.cb_stability.specs.Known.{Known}
use Rattle.cb_stability.specs.Sent.{Sent}
use Rattle.cb_history.specs.Group.{Identity, IsIdentity}
use Rattle.cb_history.specs.Facts.{Fact, EntryFields, said_by, facts_of}
use Rattle.cb_history.specs.Legal.{AreEntriesOf, Call, OfBytes, NoEntries, and_entry, room_for_one}
use Rattle.cb_history.specs.LegalFacts.{AreFactsOf}
use Rattle.cb_history.specs.State.{entry_by}
use Rattle.cb_history.proofs.Calls.{calls_keep_entries}
use Rattle.cb_history.proofs.Histories.{entries_say_legal_facts}
use Rattle.cb_history.proofs.Lists.{flat_map-append}
use Rattle.cb_member.specs.declared.knowledge.Knowledge.{Knowledge}
use Rattle.cb_member.specs.declared.sending.Sending.{Sending}
use Rattle.cb_member.specs.declared.state.State.{State}
use Rattle.cb_member.specs.Casting.{IsSameButBlock}
use Rattle.cb_member.specs.CoreMember.{Core, GoesOn, IsCore, OnEach, StandsFor, core_of, grown_by, unlimited}
use Rattle.cb_member.specs.State.{IsAlike, IsNewState, IsState, Keeps}
use Rattle.cb_member.proofs.Alike.{keeps_alike}
use Rattle.cb_member.proofs.Starting.{new_keeps}

-- ---- the histories that it stands for

same_knowledge : (a b : List ℕ) (x y : Known) → a ≡ b → x ≡ y → (let k : Knowledge = record { known = a; acks = x } in k) ≡ record { known = b; acks = y }
same_knowledge a b x y ea ex = rw (ea, ex) refl

same_sending : (w v : Sent) (a b : List ℕ) (h i : Bool) (l m : List ℕ) → w ≡ v → a ≡ b → h ≡ i → l ≡ m
    → (let s : Sending = record { window = w; last_cast = a; has_reported = h; last_reported = l } in s) ≡ record { window = v; last_cast = b; has_reported = i; last_reported = m }
same_sending w v a b h i l m ew ea eh el = rw (ew, ea, eh, el) refl

-- what states know tells all but room
alike_of : (a b : State) → core_of a ≡ core_of b → IsAlike a b
alike_of a b same = record {
  seat = sym (ap (λ (c : Core). c.seat) same);
  delivery = record {
    time = sym (ap (λ (c : Core). c.time) same);
    queue = record { size = sym (ap (λ (c : Core). c.size) same); window = sym (ap (λ (c : Core). c.width) same); now_held = sym (ap (λ (c : Core). c.waiting) same) };
  };
  reception = record { buffers = sym (ap (λ (c : Core). c.buffers) same); expander = sym (ap (λ (c : Core). c.expanded) same); spares = sym (ap (λ (c : Core). c.spares) same) };
  knowledge = same_knowledge b.knowledge.known a.knowledge.known b.knowledge.acks a.knowledge.acks (sym (ap (λ (c : Core). c.heard) same)) (sym (ap (λ (c : Core). c.acknowledged) same));
  sending = same_sending b.sending.window a.sending.window b.sending.last_cast a.sending.last_cast b.sending.has_reported a.sending.has_reported b.sending.last_reported a.sending.last_reported
      (sym (ap (λ (c : Core). c.sent) same)) (sym (ap (λ (c : Core). c.last_cast) same)) (sym (ap (λ (c : Core). c.has_reported) same)) (sym (ap (λ (c : Core). c.last_reported) same));
  relays = sym (ap (λ (c : Core). c.relays) same);
}

-- and room is all that differs between alike ones
pub same_core : (old new : State) → IsAlike old new → core_of new ≡ core_of old
same_core old new alike =
    rw (
      alike.seat,
      alike.delivery.time,
      alike.delivery.queue.size,
      alike.delivery.queue.window,
      alike.delivery.queue.now_held,
      alike.reception.buffers,
      alike.reception.expander,
      alike.reception.spares,
      alike.knowledge,
      alike.sending,
      alike.relays,
    ) refl

pub same_but_block : (old new : State) → IsSameButBlock old new → core_of new ≡ core_of old
same_but_block old new block = ap core_of block

pub keeps_of : (state : State) (entries : List EntryFields) → StandsFor entries (core_of state) → Keeps (facts_of entries) state
keeps_of state entries s = keeps_alike (facts_of entries) s.state state (alike_of s.state state s.known) s.keeps

pub facts_stand : (state : State) (entries : List EntryFields) → StandsFor entries (core_of state) → AreFactsOf state.seat (facts_of entries)
facts_stand state entries s = (entries_say_legal_facts state.seat entries s.legal).0

pub stands_for : (state : State) (entries : List EntryFields) → AreEntriesOf state.seat entries → Keeps (facts_of entries) state → StandsFor entries (core_of state)
stands_for state entries legal keeps = record { legal = legal; state = state; keeps = keeps; known = refl }

pub is_state : (state : State) → IsCore (core_of state) → IsState state
is_state state is = record { facts = facts_of is.entries; legal = facts_stand state is.entries is.stands; keeps = keeps_of state is.entries is.stands }

-- there is always room
pub one_is_left : (entries : List EntryFields) → length entries < room_for_one entries
one_is_left entries = omega arith

pub new_stands : (seat : Identity) (state : State) → IsIdentity seat → IsNewState seat state → StandsFor [] (core_of state)
new_stands seat state is new =
    let here : IsIdentity state.seat = subst (λ (s : Identity). IsIdentity s) (sym new.of_seat) is in
    stands_for state [] (record { group = here.group; member = here.member; entries_are = NoEntries }) (new_keeps seat state is new)

pub new_is_core : (seat : Identity) (state : State) → IsIdentity seat → IsNewState seat state → IsCore (core_of state)
new_is_core seat state is new = record { entries = []; stands = new_stands seat state is new }

-- ---- it goes on

pub core_goes_on : (call : Call) (old new : Core) → IsCore old → GoesOn call old new → IsCore new
core_goes_on call old new is goes = record { entries = grown_by old.seat is.entries call; stands = goes.stands is.entries is.stands }

-- where no entry is added, the history is what it was
pub goes_on_none : (call : Call) (core : Core) → OnEach core (λ m. entry_by m call ≡ None) → GoesOn call core core
goes_on_none call core none = record {
  seat = refl;
  stands = λ entries s. subst (λ (es : List EntryFields). StandsFor es core) (sym (ap (and_entry entries) (none entries s))) s;
}

-- the call adds this entry, which says this fact
pub record Grows (core : Core) (entries : List EntryFields) (call : Call) (e : EntryFields) (fact : Fact) : Type 0 where
  pub stands : StandsFor entries core
  pub bytes : OfBytes call
  pub by_call : entry_by (unlimited core.seat entries) call ≡ Some e
  pub says : said_by e ≡ fact ∷ []

module _ (core : Core) (entries : List EntryFields) (call : Call) (e : EntryFields) (fact : Fact) (g : Grows core entries call e fact) where
  legal_then : AreEntriesOf core.seat (grown_by core.seat entries call)
  legal_then = calls_keep_entries core.seat (room_for_one entries) entries call g.stands.legal g.bytes

  facts_then : facts_of (grown_by core.seat entries call) ≡ facts_of entries ++ fact ∷ []
  facts_then =
      ap (λ (es : List EntryFields). facts_of es) (ap (and_entry entries) g.by_call)
      ∙ flat_map-append said_by entries (e ∷ [])
      ∙ ap (λ (fs : List Fact). facts_of entries ++ fs) (append-nil (said_by e) ∙ g.says)

  pub facts_follow : AreFactsOf core.seat (facts_of entries ++ fact ∷ [])
  facts_follow = subst (AreFactsOf core.seat) facts_then (entries_say_legal_facts core.seat (grown_by core.seat entries call) legal_then).0

  pub stands_then : (new : State) → new.seat ≡ core.seat → Keeps (facts_of entries ++ fact ∷ []) new → StandsFor (grown_by core.seat entries call) (core_of new)
  stands_then new seat keeps =
      stands_for new (grown_by core.seat entries call) (subst (λ (i : Identity). AreEntriesOf i (grown_by core.seat entries call)) (sym seat) legal_then)
      (subst (λ (fs : List Fact). Keeps fs new) (sym facts_then) keeps)
