-- A message at one moment of a run: where it stands, and its time.
use Rattle.std.proofs.Common.{◌≡◌, ℕ, ◌<◌, ◌≤◌, Bool, true, false, cond, eqb, List, [], refl, sym, ap, subst, ◌∙◌, arith}
use Rattle.cb_times.specs.declared.name.Name.{Name}
use Rattle.cb_frames.specs.Fields.{CastFields, Carried, messages_of, first_number, last_number}
use Rattle.cb_frames.proofs.Carried.{carried_is_of_cast}
use Rattle.cb_delay.specs.declared.message.Message.{Message}
use Rattle.cb_delay.specs.declared.message.Event.TheVariants.{Cast, Deliver}
use Rattle.cb_diffs.specs.Expansion.{expanded_time}
use Rattle.cb_causality.specs.Events.{name_of, Has}
use Rattle.cb_causality.specs.StampedMachine.{erased, without_time, without_times, IsTimeOf}
use Rattle.cb_causality.proofs.Counting.{get_map, get_map_from}
use Rattle.cb_history.specs.Group.{Parameters, Identity}
use Rattle.cb_history.specs.Facts.{Fact, casts_in, messages_in, is_there}
use Rattle.cb_history.specs.View.{view, is_among, message_in}
use Rattle.cb_history.specs.Answers.{delivered, own_casts}
use Rattle.cb_history.specs.Events.{event_in, events}
use Rattle.cb_history.proofs.Views.{IsIn}
use Rattle.cb_history.proofs.Lists.{carried_there, among_is, in_is_among}
use Rattle.cb_history.proofs.Names.{view_is_of_casts}
use Rattle.cb_history.proofs.Runs.{message_is_there, own_is_delivered}
use Rattle.cb_schedules.specs.Honest.{member_of, events_of, AreTogether}
use Rattle.cb_schedules.proofs.Members.{carrier_there, inside, is_own, own_event, own_is_there, own_message_is_there}
use Rattle.cb_schedules.proofs.Lists.{index_of, in_by_index}

-- a message of this name
abbrev pub called : Name → Carried
called m = record { sender = m.sender; number = m.number; payload = [] }

event_name : (b : Bool) (message : Message) → name_of (without_time (cond b (Cast message) (Deliver message))) ≡ message.name
event_name true message = refl
event_name false message = refl

-- ---- the events of a view

module _ (seat : Identity) (facts : List Fact) where
  -- the list without times has a message exactly where the view does
  pub has_seen : (m : Name) → Has (without_times (events seat facts)) m → is_among (view seat.group.size facts) (called m) ≡ true
  has_seen m has =
      let (e, at_e, is_e) = get_map_from without_time (events seat facts) has.index has.event has.stands in
      let (x, at_x, is_x) = get_map_from (event_in seat (casts_in facts)) (view seat.group.size facts) has.index e at_e in
      let name : record { sender = x.sender; number = x.number } ≡ m =
      sym (event_name (eqb x.sender seat.me) (message_in seat.group.size (casts_in facts) x)) ∙ ap (λ y. name_of (without_time y)) is_x ∙ ap name_of is_e ∙ has.named in
      subst (λ (n : Name). is_among (view seat.group.size facts) (called n) ≡ true) name (in_is_among (view seat.group.size facts) x (in_by_index (view seat.group.size facts) has.index x at_x))

  pub seen_has : (m : Name) → is_among (view seat.group.size facts) (called m) ≡ true → Has (without_times (events seat facts)) m
  seen_has m among =
      let found = among_is (view seat.group.size facts) (called m) among in
      let (n, at) = index_of (view seat.group.size facts) found.0 found.1 in
      record {
        index = n;
        event = without_time (event_in seat (casts_in facts) found.0);
        stands = get_map without_time (events seat facts) n (event_in seat (casts_in facts) found.0) (get_map (event_in seat (casts_in facts)) (view seat.group.size facts) n found.0 at);
        named = event_name (eqb (found.0).sender seat.me) (message_in seat.group.size (casts_in facts) found.0)
            ∙ ap (λ (i : ℕ). record { sender = i; number = (found.0).number }) found.2 ∙ ap (λ (k : ℕ). record { sender = m.sender; number = k }) found.3;
      }

-- ---- a message that is there

module _ (group : Parameters) (facts : ℕ → List Fact) (h : AreTogether group facts) where
  -- its time, which its sender tells
  abbrev pub clock : Name → List ℕ
  clock m = expanded_time group.size (casts_in (facts m.sender)) m.sender m.number

  -- the own cast of a message that is there with some member
  pub record HasOwnCast (j : ℕ) (m : Name) : Type 0 where
    pub cast : CastFields
    pub there : IsIn cast (casts_in (facts j))
    pub own : IsIn cast (own_casts (facts m.sender))
    pub found : Carried
    pub has : IsIn found (messages_of cast)
    pub sender_is : found.sender ≡ m.sender
    pub number_is : found.number ≡ m.number
    pub low : first_number cast ≤ m.number
    pub high : m.number ≤ last_number cast
    pub member : j < group.size
    pub sender_member : m.sender < group.size

  pub own_cast_of : (j : ℕ) (m : Name) → is_there (casts_in (facts j)) m.sender m.number ≡ true → HasOwnCast j m
  own_cast_of j m there =
      let c = carrier_there (casts_in (facts j)) m.sender m.number there in
      let of = carried_is_of_cast c.cast c.found c.has in
      let low = of.low in
      let high = of.high in
      let number = c.number_is in
      let own : IsIn c.cast (own_casts (facts m.sender)) = subst (λ (i : ℕ). IsIn c.cast (own_casts (facts i))) (sym of.sender_is ∙ c.sender_is) (is_own group facts h j c.cast c.there) in
      record {
        cast = c.cast;
        there = c.there;
        own = own;
        found = c.found;
        has = c.has;
        sender_is = c.sender_is;
        number_is = c.number_is;
        low = omega (arith, low, number);
        high = omega (arith, high, number);
        member = inside group facts h j c.cast c.there;
        sender_member = inside group facts h m.sender c.cast (own_is_there (facts m.sender) c.cast own);
      }

  -- the message there, and with its sender
  pub message_here : (j : ℕ) (m : Name) (c : HasOwnCast j m) → IsIn c.found (messages_in (casts_in (facts j)))
  message_here j m c = carried_there (casts_in (facts j)) c.cast c.found c.there c.has

  pub message_of_sender : (j : ℕ) (m : Name) (c : HasOwnCast j m) → IsIn c.found (messages_in (own_casts (facts m.sender)))
  message_of_sender j m c = carried_there (own_casts (facts m.sender)) c.cast c.found c.own c.has

  -- so its sender has made it
  pub is_made : (j : ℕ) (m : Name) (c : HasOwnCast j m) → m.number ≤ delivered (member_of group m.sender) (facts m.sender) m.sender
  is_made j m c =
      own_is_delivered (member_of group m.sender) (facts m.sender) m.number (h.legal m.sender c.sender_member)
      (message_is_there (casts_in (facts m.sender)) c.found m.sender m.number (own_message_is_there (facts m.sender) c.found (message_of_sender j m c)) c.sender_is c.number_is)

  -- and its time stands with it
  pub has_clock : (j : ℕ) (m : Name) → is_there (casts_in (facts j)) m.sender m.number ≡ true → IsTimeOf (events_of group facts) m (clock m)
  has_clock j m there =
      let c = own_cast_of j m there in
      let (n, at) = own_event group facts h m.sender c.found (message_of_sender j m c) in
      record {
        member = m.sender;
        index = n;
        event = Cast (message_in group.size (casts_in (facts m.sender)) c.found);
        stands = at;
        named = ap (λ (i : ℕ). record { sender = i; number = c.found.number }) c.sender_is ∙ ap (λ (k : ℕ). record { sender = m.sender; number = k }) c.number_is;
        timed = ap (λ (i : ℕ). expanded_time group.size (casts_in (facts m.sender)) i c.found.number) c.sender_is ∙ ap (λ (k : ℕ). expanded_time group.size (casts_in (facts m.sender)) m.sender k) c.number_is;
      }

  -- what a member has delivered is there with it
  pub has_there : (j : ℕ) (m : Name) → Has (erased (events_of group facts) j) m → j < group.size → is_there (casts_in (facts j)) m.sender m.number ≡ true
  has_there j m has lt = view_is_of_casts (member_of group j) (facts j) (called m) (h.legal j lt) (has_seen (member_of group j) (facts j) m has)
