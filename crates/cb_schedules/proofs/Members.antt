-- What the members of a group have to do with each other, at one moment.
use Rattle.std.proofs.Common.{◌≡◌, ℕ, ◌+◌, ◌<◌, ◌≤◌, true, max, List, [], ◌∷◌, Some, refl, sym, ap, subst, ◌∙◌, arith, inl, inr}
use Rattle.std.specs.Prelude.{slice_get}
use Rattle.std.specs.List.{AllByRecursion}
use Rattle.std.proofs.lemmas.Bool.{cases_lt, eq-eqb}
use Rattle.cb_frames.specs.Fields.{CastFields, Carried, messages_of, first_number, last_number}
use Rattle.cb_frames.proofs.Carried.{carried_is_of_cast, carries_some}
use Rattle.cb_delay.specs.declared.message.Event.TheVariants.{Cast}
use Rattle.cb_diffs.specs.Expansion.{expanded_field}
use Rattle.cb_causality.proofs.Counting.{get_map}
use Rattle.cb_history.specs.Group.{Parameters}
use Rattle.cb_history.specs.Facts.{Fact, OwnCast, CastReceived, StatusReceived, OwnStatus, casts_in, messages_in, is_there}
use Rattle.cb_history.specs.View.{view, is_expanded, message_in}
use Rattle.cb_history.specs.Answers.{delivered, own_casts}
use Rattle.cb_history.specs.Events.{event_in}
use Rattle.cb_history.specs.LegalFacts.{AreFactsOf}
use Rattle.cb_history.specs.NameLaws.{NumberedFrom}
use Rattle.cb_history.specs.TimeLaws.{HaveOneNumber, SameFrames}
use Rattle.cb_history.proofs.Views.{IsIn}
use Rattle.cb_history.proofs.Lists.{carried_there, carrier, among_is, in_is_among}
use Rattle.cb_history.proofs.Names.{Stands, all_stand, view_holds_the_first}
use Rattle.cb_history.proofs.Times.{seen_is_expanded}
use Rattle.cb_history.proofs.InTime.{times_are_reached}
use Rattle.cb_history.proofs.Agreement.{one_of_a_message, times_agree}
use Rattle.cb_history.proofs.Delivering.{one_message}
use Rattle.cb_history.proofs.Buffers.{cast_of_is_in}
use Rattle.cb_history.proofs.Runs.{message_there, message_is_there, own_is_delivered}
use Rattle.cb_schedules.specs.Honest.{member_of, IsSo, events_of, AreTogether}
use Rattle.cb_schedules.proofs.Lists.{all_from, index_of}
use Rattle.cb_history.proofs.Loads.{some_at}

-- ---- casts and messages

-- a cast among these that has the message of this name
pub record HasCarrier (casts : List CastFields) (i n : ℕ) : Type 0 where
  pub cast : CastFields
  pub there : IsIn cast casts
  pub found : Carried
  pub has : IsIn found (messages_of cast)
  pub sender_is : found.sender ≡ i
  pub number_is : found.number ≡ n

pub carrier_there : (casts : List CastFields) (i n : ℕ) → is_there casts i n ≡ true → HasCarrier casts i n
carrier_there casts i n there =
    let m = message_there casts i n there in
    let (c, c_there, has) = carrier casts m.found m.there in
    record { cast = c; there = c_there; found = m.found; has = has; sender_is = m.sender_is; number_is = m.number_is }

-- own casts are casts that are there
pub own_is_there : (facts : List Fact) (c : CastFields) → IsIn c (own_casts facts) → IsIn c (casts_in facts)
own_is_there [] c there = absurd there
own_is_there (OwnCast d ∷ facts) c (inl same) = inl same
own_is_there (OwnCast d ∷ facts) c (inr later) = inr (own_is_there facts c later)
own_is_there (CastReceived d ∷ facts) c there = inr (own_is_there facts c there)
own_is_there (StatusReceived s ∷ facts) c there = own_is_there facts c there
own_is_there (OwnStatus s ∷ facts) c there = own_is_there facts c there

-- and so are their messages
pub own_message_is_there : (facts : List Fact) (m : Carried) → IsIn m (messages_in (own_casts facts)) → IsIn m (messages_in (casts_in facts))
own_message_is_there facts m own = let (c, there, has) = carrier (own_casts facts) m own in carried_there (casts_in facts) c m (own_is_there facts c there) has

pub numbered_sender : (me n : ℕ) (own : List CastFields) (c : CastFields) → NumberedFrom me n own → IsIn c own → c.sender ≡ me
numbered_sender me n [] c numbered there = absurd there
numbered_sender me n (d ∷ own) c numbered (inl same) = ap (λ (x : CastFields). x.sender) same ∙ numbered.0
numbered_sender me n (d ∷ own) c numbered (inr later) = numbered_sender me (last_number d + 1) own c numbered.2 later

-- what an entry says of a cast that is there
so_casts : (group : Parameters) (all : ℕ → List Fact) (facts : List Fact) (c : CastFields) → AllByRecursion (IsSo group all) facts → IsIn c (casts_in facts) → IsIn c (own_casts (all c.sender))
so_casts group all [] c so there = absurd there
so_casts group all (OwnCast d ∷ facts) c so (inl same) = subst (λ (x : CastFields). IsIn x (own_casts (all x.sender))) (sym same) (cast_of_is_in d (own_casts (all d.sender)) so.0)
so_casts group all (OwnCast d ∷ facts) c so (inr later) = so_casts group all facts c so.1 later
so_casts group all (CastReceived d ∷ facts) c so (inl same) = subst (λ (x : CastFields). IsIn x (own_casts (all x.sender))) (sym same) (cast_of_is_in d (own_casts (all d.sender)) so.0)
so_casts group all (CastReceived d ∷ facts) c so (inr later) = so_casts group all facts c so.1 later
so_casts group all (StatusReceived s ∷ facts) c so there = so_casts group all facts c so.1 there
so_casts group all (OwnStatus s ∷ facts) c so there = so_casts group all facts c so.1 there

-- ---- one moment

module _ (group : Parameters) (facts : ℕ → List Fact) (h : AreTogether group facts) where
  pub stands_at : (k : ℕ) → k < group.size → Stands (member_of group k) (casts_in (facts k)) (view group.size (facts k)) (own_casts (facts k))
  stands_at k lt = all_stand (member_of group k) (facts k) lt (h.legal k lt).facts_are

  pub inside : (k : ℕ) → (c : CastFields) → IsIn c (casts_in (facts k)) → k < group.size
  inside k c there = elim (cases_lt k group.size) [
    | inl lt ↦ lt
    | inr le ↦ absurd (subst (λ (fs : List Fact). IsIn c (casts_in fs)) (h.nobody k le) there)
  ]

  pub is_own : (k : ℕ) (c : CastFields) → IsIn c (casts_in (facts k)) → IsIn c (own_casts (facts c.sender))
  is_own k c there = so_casts group facts (facts k) c (h.so k) there

  pub own_sender : (i : ℕ) (c : CastFields) → IsIn c (own_casts (facts i)) → c.sender ≡ i
  own_sender i c own = numbered_sender i 1 (own_casts (facts i)) c (stands_at i (inside i c (own_is_there (facts i) c own))).own_numbers own

  -- ---- messages

  -- who has a message is a member
  pub holder_inside : (k : ℕ) (m : Carried) → IsIn m (messages_in (casts_in (facts k))) → k < group.size
  holder_inside k m there = let (c, c_there, has) = carrier (casts_in (facts k)) m there in inside k c c_there

  pub own_message_sender : (i : ℕ) (m : Carried) → IsIn m (messages_in (own_casts (facts i))) → m.sender ≡ i
  own_message_sender i m own = let (c, c_own, has) = carrier (own_casts (facts i)) m own in (carried_is_of_cast c m has).sender_is ∙ own_sender i c c_own

  -- among own casts alone each message is one of its sender's own
  pub message_is_own : (casts : List CastFields) → ((c : CastFields) → IsIn c casts → IsIn c (own_casts (facts c.sender)))
      → (m : Carried) → IsIn m (messages_in casts) → IsIn m (messages_in (own_casts (facts m.sender)))
  message_is_own casts are_own m there =
      let (c, c_there, has) = carrier casts m there in
      subst (λ (i : ℕ). IsIn m (messages_in (own_casts (facts i)))) (sym (carried_is_of_cast c m has).sender_is) (carried_there (own_casts (facts c.sender)) c m (are_own c c_there) has)

  pub message_sender_inside : (k : ℕ) (m : Carried) → IsIn m (messages_in (casts_in (facts k))) → m.sender < group.size
  message_sender_inside k m there = (stands_at k (holder_inside k m there)).small m there

  -- an own cast's message stands in its sender's view
  pub own_in_view : (i : ℕ) (m : Carried) → IsIn m (messages_in (own_casts (facts i))) → IsIn m (view group.size (facts i))
  own_in_view i m own =
      let in_casts = own_message_is_there (facts i) m own in
      let s = stands_at i (holder_inside i m in_casts) in
      let found = among_is (view group.size (facts i)) m (s.own_seen m in_casts (own_message_sender i m own)) in
      let is : found.0 ≡ m = one_message (messages_in (casts_in (facts i))) found.0 m s.names (s.there found.0 found.1) in_casts found.2 found.3 in
      subst (λ (x : Carried). IsIn x (view group.size (facts i))) is found.1

  pub own_expanded : (i : ℕ) (m : Carried) → IsIn m (messages_in (own_casts (facts i))) → is_expanded (casts_in (facts i)) m ≡ true
  own_expanded i m own =
      let s = stands_at i (holder_inside i m (own_message_is_there (facts i) m own)) in
      seen_is_expanded (member_of group i) (casts_in (facts i)) (view group.size (facts i)) (own_casts (facts i)) m s (own_in_view i m own)

  -- own casts cut a member's numbers into pieces apart: two that have one number are one
  pub own_of_a_number : (c d : CastFields) (n : ℕ) → IsIn c (own_casts (facts c.sender)) → IsIn d (own_casts (facts d.sender)) → c.sender ≡ d.sender
      → first_number c ≤ n → n ≤ last_number c → first_number d ≤ n → n ≤ last_number d → c ≡ d
  own_of_a_number c d n own own' sender low high from upto =
      let here = own_is_there (facts c.sender) c own in
      let there = own_is_there (facts c.sender) d (subst (λ (i : ℕ). IsIn d (own_casts (facts i))) (sym sender) own') in
      let stands = stands_at c.sender (inside c.sender c here) in
      one_of_a_message (casts_in (facts c.sender)) c d n stands.some stands.names here there sender low high from upto

  own_has_some : (c : CastFields) → IsIn c (own_casts (facts c.sender)) → first_number c ≤ last_number c
  own_has_some c own =
      let here = own_is_there (facts c.sender) c own in
      carries_some c (some_at (casts_in (facts c.sender)) c (stands_at c.sender (inside c.sender c here)).some here)

  -- who has own casts alone has the same frames of a sender
  pub same_frames : (casts : List CastFields) → ((c : CastFields) → IsIn c casts → IsIn c (own_casts (facts c.sender))) → (i : ℕ) → i < group.size → SameFrames casts (casts_in (facts i)) i
  same_frames casts are_own i lt =
      all_from (λ (c : CastFields). AllByRecursion (λ (d : CastFields). c.sender ≡ i → d.sender ≡ i → HaveOneNumber c d → (first_number c ≡ first_number d) × (c.changes ≡ d.changes)) (casts_in (facts i))) casts (λ c there.
      all_from (λ (d : CastFields). c.sender ≡ i → d.sender ≡ i → HaveOneNumber c d → (first_number c ≡ first_number d) × (c.changes ≡ d.changes)) (casts_in (facts i)) (λ d there' e f both.
      let own = are_own c there in
      let own' = is_own i d there' in
      let up = both.0 in
      let down = both.1 in
      let some = own_has_some c own in
      let some' = own_has_some d own' in
      let same = own_of_a_number c d (max (first_number c) (first_number d)) own own' (e ∙ sym f) (omega arith) (omega (arith, some, down)) (omega arith) (omega (arith, some', up)) in
      (ap first_number same, ap (λ (x : CastFields). x.changes) same)))

  -- and where it can tell the time of a message, it tells its sender's
  pub time_is_senders : (j : ℕ) (now : List Fact) (m : Carried) (k : ℕ) → AreFactsOf (member_of group j) now → ((c : CastFields) → IsIn c (casts_in now) → IsIn c (own_casts (facts c.sender)))
      → IsIn m (messages_in (casts_in now)) → is_expanded (casts_in now) m ≡ true → expanded_field (casts_in now) m.sender m.number k ≡ expanded_field (casts_in (facts m.sender)) m.sender m.number k
  time_is_senders j now m k are are_own there expanded =
      let own = message_is_own (casts_in now) are_own m there in
      let lt = holder_inside m.sender m (own_message_is_there (facts m.sender) m own) in
      times_agree (member_of group j) (member_of group m.sender) now (facts m.sender) m k are (h.legal m.sender lt) (same_frames (casts_in now) are_own m.sender lt) expanded (own_expanded m.sender m own)

  -- an own cast's message is cast in its sender's events, with the time that its sender tells
  pub own_event : (i : ℕ) (m : Carried) → IsIn m (messages_in (own_casts (facts i)))
      → (n : ℕ) × (slice_get (events_of group facts i) n ≡ Some (Cast (message_in group.size (casts_in (facts i)) m)))
  own_event i m own =
      let (n, at) = index_of (view group.size (facts i)) m (own_in_view i m own) in (
        n,
        get_map (event_in (member_of group i) (casts_in (facts i))) (view group.size (facts i)) n m at
            ∙ ap Some (rw (eq-eqb m.sender i (own_message_sender i m own)) refl),
      )

  -- nobody has delivered more of a member than it cast
  pub delivered_at_most : (i j : ℕ) → i < group.size → j < group.size → delivered (member_of group i) (facts i) j ≤ delivered (member_of group j) (facts j) j
  delivered_at_most i j lt lt' = elim (cases_lt 0 (delivered (member_of group i) (facts i) j)) [
    | inr none ↦ omega (arith, none)
    | inl some ↦
        let n = delivered (member_of group i) (facts i) j in
        let m : Carried = record { sender = j; number = delivered (member_of group i) (facts i) j; payload = [] } in
        let s = stands_at i lt in
        let found = among_is (view group.size (facts i)) m ((view_holds_the_first (member_of group i) (facts i) m (h.legal i lt)).1 (omega (arith, some), omega arith)) in
        let own = message_is_own (casts_in (facts i)) (is_own i) found.0 (s.there found.0 found.1) in
        let there = own_message_is_there (facts j) found.0 (subst (λ (k : ℕ). IsIn found.0 (messages_in (own_casts (facts k)))) found.2 own) in
        own_is_delivered (member_of group j) (facts j) n (h.legal j lt') (message_is_there (casts_in (facts j)) found.0 j n there found.2 found.3)
  ]

  -- no time that a member can tell says more of anybody than the message's sender had delivered
  pub told_at_most : (j : ℕ) (m : Carried) (k : ℕ) → k < group.size → IsIn m (messages_in (casts_in (facts j))) → is_expanded (casts_in (facts j)) m ≡ true
      → expanded_field (casts_in (facts j)) m.sender m.number k ≤ delivered (member_of group m.sender) (facts m.sender) k
  told_at_most j m k lt there expanded =
      let own = message_is_own (casts_in (facts j)) (is_own j) m there in
      let same = time_is_senders j (facts j) m k (h.legal j (holder_inside j m there)) (is_own j) there expanded in
      let seen = in_is_among (view group.size (facts m.sender)) m (own_in_view m.sender m own) in
      let reached = times_are_reached (member_of group m.sender) (facts m.sender) m k (h.legal m.sender (message_sender_inside j m there)) seen lt in
      omega (arith, same, reached)

  -- so none says more of a member's own casts than it made
  pub reported_at_most : (j : ℕ) (m : Carried) (k : ℕ) → k < group.size → IsIn m (messages_in (casts_in (facts j))) → is_expanded (casts_in (facts j)) m ≡ true
      → expanded_field (casts_in (facts j)) m.sender m.number k ≤ delivered (member_of group k) (facts k) k
  reported_at_most j m k lt there expanded =
      let told = told_at_most j m k lt there expanded in
      let most = delivered_at_most m.sender k (message_sender_inside j m there) lt in
      omega (arith, told, most)
