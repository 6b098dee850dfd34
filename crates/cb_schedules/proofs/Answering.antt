-- The four kinds of calls, answer by answer.
use Rattle.std.proofs.Common.{◌≡◌, ℕ, ◌<◌, ◌≤◌, Bool, true, false, not, ◌&&◌, ◌||◌, eqb, ltb, leb, List, [], ◌∷◌, ◌++◌, length, map, Option, Some, None, Result, Ok, Err, refl, sym, ap, subst, ◌∙◌, arith, inl, inr}
use Rattle.std.specs.List.{AllByRecursion, list_any}
use Rattle.std.proofs.lemmas.Bool.{cond_both, eq-eqb, eqb-true, eqb-false, ltb-false, leb-false, and_parts}
use Rattle.std.proofs.lemmas.List.{append-nil}
use Rattle.cb_times.specs.declared.name.Name.{Name}
use Rattle.cb_frames.specs.declared.frame.TheConstants.{LONGEST_PAYLOAD, MOST_MESSAGES}
use Rattle.cb_frames.specs.declared.fault.FrameFault.{FrameFault}
use Rattle.cb_frames.specs.Fields.{Load, payloads_of, load_bytes, CastFields, StatusFields, FrameFields, CastFrame, StatusFrame, RequestFrame, HelpFrame, Carried, messages_of}
use Rattle.cb_frames.specs.Text.{text_of}
use Rattle.cb_history.specs.Load.{FitsFrame}
use Rattle.cb_history.specs.Read.{frame_read}
use Rattle.cb_frames.specs.Laws.{IsBytes}
use Rattle.cb_delay.specs.declared.message.Message.{Message}
use Rattle.cb_history.specs.declared.answer.ArriveRefusal.{ArriveRefusal}
use Rattle.cb_history.specs.declared.answer.ArriveRefusal.TheVariants as arrivals
use Rattle.cb_history.specs.declared.answer.TickRefusal.{TickRefusal}
use Rattle.cb_history.specs.declared.answer.TickRefusal.TheVariants as ticks
use Rattle.cb_history.specs.declared.answer.Outgoing.{Outgoing}
use Rattle.cb_history.specs.declared.answer.HelpFault.{HelpFault}
use Rattle.cb_history.specs.CastFault.{CastFault, EmptyBurst, BurstTooLong, PayloadTooLong, WindowFull, HistoryFull}
use Rattle.cb_history.specs.Group.{Identity}
use Rattle.cb_history.specs.Facts.{EntryFields, CastEntry, ArriveEntry, TickEntry, Fact, OwnCast, CastReceived, StatusReceived, OwnStatus, cast_said, status_said, facts_of, casts_in, messages_in, is_there}
use Rattle.cb_history.specs.Helping.{help_answer}
use Rattle.cb_history.specs.Answers.{is_full, is_too_many, next_cast, cast_answer, group_of, are_members, is_impossible, is_repeat, is_overlap, is_too_far, is_change, deliveries, sent_in_answer, own_casts, ArrivalSays, Accepted, Repeat, frame_answer, answer_to, arrive_answer, status_of, is_new_status, requests, tick_answer}
use Rattle.cb_history.specs.Legal.{Call, ToCast, ToTake, ToTick, ToHelp, cast_entry, arrive_entry, tick_entry, and_entry, history_after, AreEntriesOf}
use Rattle.cb_history.specs.LegalFacts.{AreFactsOf}
use Rattle.cb_history.proofs.Views.{IsIn, casts_in-append}
use Rattle.cb_history.proofs.Lists.{in_back, in_push, messages_in-push, each_of, or_false}
use Rattle.cb_history.proofs.Walks.{own_casts-own, own_casts-other}
use Rattle.cb_history.proofs.Histories.{said_facts}
use Rattle.cb_history.proofs.Calls.{calls_keep_entries}
use Rattle.cb_history.proofs.Buffers.{cast_of_is_in, in_is_cast_of}
use Rattle.cb_history.proofs.ReadBack.{status_read}
use Rattle.cb_history.proofs.Requests.{own_frames_have_texts}
use Rattle.cb_schedules.specs.Schedule.{Setting, IsSetting, seat_at, Calls, Answer, CastAnswer, ArrivalAnswer, TickAnswer, HelpAnswer, frames_sent, answer_of, GroupState}
use Rattle.cb_schedules.specs.Messages.{facts_at, messages_read, received_by, has_arrived, cast_read, sent_casts}
use Rattle.cb_schedules.specs.Honest.{SaysWhatIsSo, IsHonest}
use Rattle.cb_schedules.specs.Consistent.{IsConsistent}
use Rattle.cb_schedules.proofs.Members.{is_own}
use Rattle.cb_schedules.proofs.Sending.{next_cast_reads, cast_is_honest, status_is_honest, requests_are_honest, asking_is_honest, resent_are_honest, sent_is_honest}
use Rattle.cb_schedules.proofs.Calling.{any-append, or_none, is_named, facts_push, after, own_now, IsGood, good, still_honest}
use Rattle.cb_schedules.proofs.Lists.{all_weaken, any_in}

-- with one more cast a message is there where it was, or is one of the cast's
there_push_is : (cs : List CastFields) (c : CastFields) (m : Name) → is_there (cs ++ c ∷ []) m.sender m.number ≡ (is_there cs m.sender m.number || list_any (is_named m) (messages_of c))
there_push_is cs c m = ap (list_any (is_named m)) (messages_in-push cs c) ∙ any-append (is_named m) (messages_in cs) (messages_of c)

-- a list that is not empty has some element
pub some_are : {A : Type 0} (xs : List A) → eqb (length xs) 0 ≡ false → 1 ≤ length xs
some_are xs some = let ne = eqb-false (length xs) 0 some in omega (arith, ne)

-- what is there already adds nothing
absorbed : (b p : Bool) → (p ≡ true → b ≡ true) → (b || p) ≡ b
absorbed true p h = refl
absorbed false true h = sym (h refl)
absorbed false false h = refl

module _ (setting : Setting) (is : IsSetting setting) (s : GroupState) (inv : IsConsistent setting s) (i : ℕ) (lt : i < setting.group.size) where
  abbrev now : List EntryFields
  now = s.histories i

  abbrev said : List Fact
  said = facts_of (s.histories i)

  abbrev me : Identity
  me = seat_at setting i

  are : AreFactsOf (seat_at setting i) (facts_of (s.histories i))
  are = inv.together.legal i lt

  -- a cast that is there is an own cast of its sender, and that one was sent
  there_is_honest : (c : CastFields) → IsIn c (casts_in said) → IsHonest setting.group (facts_at s) (text_of (CastFrame c))
  there_is_honest c there =
      let own = is_own setting.group (facts_at s) inv.together i c there in
      sent_is_honest setting.group (facts_at s) s.sent c inv.honest (cast_of_is_in c (sent_casts s) (inv.sent c.sender c (in_is_cast_of c (own_casts (facts_at s c.sender)) own)))

  -- a call that adds no entry, and brings nothing that is not there
  same_history : (call : Call) (answer : Answer) → AllByRecursion (λ out. IsHonest setting.group (facts_at s) out.bytes) (frames_sent answer)
      → ((m : Name) → (has_arrived s i m || list_any (is_named m) (received_by i (Calls i call) answer)) ≡ is_there (casts_in said) m.sender m.number) → IsGood setting is s inv i lt call now answer
  same_history call answer out news =
      good setting is s inv i lt call now answer (inv.legal i lt) (inl refl)
      (all_weaken (λ out. IsHonest setting.group (facts_at s) out.bytes) (λ out. IsHonest setting.group (after setting is s inv i lt call now answer) out.bytes) (frames_sent answer)
      (λ out. still_honest setting is s inv i lt call now answer (inv.legal i lt) (inl refl) out.bytes) out)
      (λ c there. inl there) news

  nothing_received : (m : Name) → (has_arrived s i m || false) ≡ is_there (casts_in said) m.sender m.number
  nothing_received m = or_none (has_arrived s i m) ∙ inv.arrived i m

  -- ---- a cast

  module _ (load : Load) (bytes : IsBytes (load_bytes load)) where
    abbrev cast : CastFields
    cast = next_cast (seat_at setting i) (facts_of (s.histories i)) load

    abbrev CastGood : Result CastFields CastFault → Type 0
    CastGood r = AreEntriesOf (seat_at setting i) (and_entry now (cast_entry r)) → IsGood setting is s inv i lt (ToCast load) (and_entry now (cast_entry r)) (CastAnswer r)

    refuses : (fault : CastFault) → CastGood (Err fault)
    refuses fault _ = same_history (ToCast load) (CastAnswer (Err fault)) tt nothing_received

    brings_itself : received_by i (Calls i (ToCast load)) (CastAnswer (Ok cast)) ≡ messages_of cast
    brings_itself = rw (eq-eqb i i refl) refl

    made : FitsFrame load → is_too_many me said (length (payloads_of load)) ≡ false → CastGood (Ok cast)
    made fits free legal =
        good setting is s inv i lt (ToCast load) with_cast (CastAnswer (Ok cast)) legal (inr (OwnCast cast, push, tt)) (
          cast_is_honest setting.group (facts_at s) i are load fits free (after setting is s inv i lt (ToCast load) with_cast (CastAnswer (Ok cast))) bytes
              (in_is_cast_of cast (own_casts (after setting is s inv i lt (ToCast load) with_cast (CastAnswer (Ok cast)) i))
              (subst (λ (fs : List Fact). IsIn cast (own_casts fs)) (own_now setting is s inv i lt (ToCast load) with_cast (CastAnswer (Ok cast)))
              (subst (IsIn cast) (sym all_own) (in_back cast (own_casts said) (cast ∷ []) (inl refl))))),
          tt,
        )
        (λ c there. elim (in_push c cast (own_casts said) (subst (IsIn c) all_own there)) [
          | inl old ↦ inl old
          | inr new ↦ inr (subst (IsIn c) (sym (append-nil (cast_read (frame_read (text_of (CastFrame cast)))) ∙ ap cast_read read)) (inl new))
        ])
        (λ m. ap (λ (ms : List Carried). has_arrived s i m || list_any (is_named m) ms) brings_itself
        ∙ ap (λ (b : Bool). b || list_any (is_named m) (messages_of cast)) (inv.arrived i m)
        ∙ sym (ap (λ (cs : List CastFields). is_there cs m.sender m.number) (ap casts_in push ∙ casts_in-append said (OwnCast cast)) ∙ there_push_is (casts_in said) cast m))
      where
        with_cast : List EntryFields
        with_cast = now ++ CastEntry (text_of (CastFrame cast)) ∷ []

        read : frame_read (text_of (CastFrame cast)) ≡ Ok (CastFrame cast)
        read = next_cast_reads setting.group (facts_at s) i are load fits free

        push : facts_of (now ++ CastEntry (text_of (CastFrame cast)) ∷ []) ≡ said ++ OwnCast cast ∷ []
        push = facts_push now (CastEntry (text_of (CastFrame cast))) (OwnCast cast) (ap cast_said read)

        all_own : own_casts (facts_of (now ++ CastEntry (text_of (CastFrame cast)) ∷ [])) ≡ own_casts said ++ cast ∷ []
        all_own = ap own_casts push ∙ own_casts-own said cast

    pub cast_is_good : IsGood setting is s inv i lt (ToCast load) (history_after me setting.limit now (ToCast load)) (answer_of me setting.limit now (ToCast load))
    unfolding cast_answer
    cast_is_good =
        cond_both (eqb (length (payloads_of load)) 0) _ _ CastGood (λ _. refuses EmptyBurst)
        (λ some. cond_both (ltb MOST_MESSAGES (length (payloads_of load))) _ _ CastGood (λ _. refuses BurstTooLong)
        (λ few. cond_both (ltb LONGEST_PAYLOAD (length (load_bytes load))) _ _ CastGood (λ _. refuses PayloadTooLong)
        (λ short. cond_both (is_too_many me said (length (payloads_of load))) _ _ CastGood (λ _. refuses WindowFull)
        (λ free. cond_both (is_full setting.limit now) _ _ CastGood (λ _. refuses HistoryFull)
        (λ _. made (record {
          some = some_are (payloads_of load) some;
          few = ltb-false MOST_MESSAGES (length (payloads_of load)) few;
          short = ltb-false LONGEST_PAYLOAD (length (load_bytes load)) short;
        }) free)))))
        (calls_keep_entries me setting.limit now (ToCast load) (inv.legal i lt) bytes)

  -- ---- a tick

  abbrev status : StatusFields
  status = status_of (seat_at setting i) (facts_of (s.histories i))

  abbrev outs : List Outgoing
  outs = record { to = None; bytes = text_of (StatusFrame status) } ∷ requests (seat_at setting i) (facts_of (s.histories i))

  abbrev TickGood : Result (Bool × List Outgoing) TickRefusal → Type 0
  TickGood r = AreEntriesOf (seat_at setting i) (and_entry now (tick_entry (text_of (StatusFrame status)) r)) → IsGood setting is s inv i lt ToTick (and_entry now (tick_entry (text_of (StatusFrame status)) r)) (TickAnswer r)

  goes_out : AllByRecursion (λ out. IsHonest setting.group (facts_at s) out.bytes) outs
  goes_out = (status_is_honest setting.group (facts_at s) i are, requests_are_honest setting.group (facts_at s) i are)

  reported : (b : Bool) → AreEntriesOf (seat_at setting i) (now ++ TickEntry (text_of (StatusFrame status)) ∷ []) → IsGood setting is s inv i lt ToTick (now ++ TickEntry (text_of (StatusFrame status)) ∷ []) (TickAnswer (Ok (b, outs)))
  reported b legal =
      good setting is s inv i lt ToTick with_status (TickAnswer (Ok (b, outs))) legal (inr (OwnStatus status, push, tt))
      (all_weaken (λ out. IsHonest setting.group (facts_at s) out.bytes) (λ out. IsHonest setting.group (after setting is s inv i lt ToTick with_status (TickAnswer (Ok (b, outs)))) out.bytes) outs
      (λ out. still_honest setting is s inv i lt ToTick with_status (TickAnswer (Ok (b, outs))) legal (inr (OwnStatus status, push, tt)) out.bytes) goes_out)
      (λ c there. inl (subst (IsIn c) (ap own_casts push ∙ own_casts-other said (OwnStatus status) tt) there))
      (λ m. nothing_received m ∙ sym (ap (λ (cs : List CastFields). is_there cs m.sender m.number) (ap casts_in push ∙ casts_in-append said (OwnStatus status) ∙ append-nil (casts_in said))))
    where
      with_status : List EntryFields
      with_status = now ++ TickEntry (text_of (StatusFrame status)) ∷ []

      push : facts_of (now ++ TickEntry (text_of (StatusFrame status)) ∷ []) ≡ said ++ OwnStatus status ∷ []
      push = facts_push now (TickEntry (text_of (StatusFrame status))) (OwnStatus status) (ap status_said (status_read status (own_frames_have_texts me said are).1))

  pub tick_is_good : IsGood setting is s inv i lt ToTick (history_after me setting.limit now ToTick) (answer_of me setting.limit now ToTick)
  unfolding tick_answer
  tick_is_good =
      cond_both (is_new_status me said && is_full setting.limit now) _ _ TickGood (λ _ _. same_history ToTick (TickAnswer (Err ticks.HistoryFull)) tt nothing_received)
      (λ _. cond_both (is_new_status me said) (Some (TickEntry (text_of (StatusFrame status)))) None
      (λ (o : Option EntryFields). AreEntriesOf (seat_at setting i) (and_entry now o) → IsGood setting is s inv i lt ToTick (and_entry now o) (TickAnswer (Ok (is_new_status me said, outs))))
      (λ _. reported (is_new_status me said)) (λ _ _. same_history ToTick (TickAnswer (Ok (is_new_status me said, outs))) goes_out nothing_received))
      (calls_keep_entries me setting.limit now ToTick (inv.legal i lt) tt)

  -- ---- asking for help

  abbrev HelpHonest : Result (Option Outgoing) HelpFault → Type 0
  HelpHonest r = AllByRecursion (λ out. IsHonest setting.group (facts_at s) out.bytes) (frames_sent (HelpAnswer r))

  help_is_honest : (k : ℕ) → HelpHonest (help_answer me now k)
  unfolding help_answer
  help_is_honest k =
      cond_both (leb setting.group.size k || eqb k i) _ _ HelpHonest (λ _. tt)
      (λ other.
      let both = or_false (leb setting.group.size k) (eqb k i) other in
      asking_is_honest setting.group (facts_at s) i are k (leb-false setting.group.size k both.0) (eqb-false k i both.1))

  pub help_is_good : (k : ℕ) → IsGood setting is s inv i lt (ToHelp k) (history_after me setting.limit now (ToHelp k)) (answer_of me setting.limit now (ToHelp k))
  help_is_good k = same_history (ToHelp k) (HelpAnswer (help_answer me now k)) (help_is_honest k) nothing_received

  -- ---- an arrival

  module _ (bytes : List ℕ) (honest : IsHonest setting.group (facts_at s) bytes) where
    abbrev ArrivalGood : Result ArrivalSays ArriveRefusal → Type 0
    ArrivalGood r = AreEntriesOf (seat_at setting i) (and_entry now (arrive_entry bytes r)) → IsGood setting is s inv i lt (ToTake bytes) (and_entry now (arrive_entry bytes r)) (ArrivalAnswer r)

    refused : (e : ArriveRefusal) → ArrivalGood (Err e)
    refused e _ = same_history (ToTake bytes) (ArrivalAnswer (Err e)) tt nothing_received

    brings : (frame : FrameFields) (says : ArrivalSays) → frame_read bytes ≡ Ok frame → received_by i (Calls i (ToTake bytes)) (ArrivalAnswer (Ok says)) ≡ messages_read (Ok frame)
    brings frame says read = rw (eq-eqb i i refl) (ap messages_read read)

    -- it brings messages, and the others were there before
    news_of : (frame : FrameFields) (says : ArrivalSays) (m : Name) → frame_read bytes ≡ Ok frame
        → (has_arrived s i m || list_any (is_named m) (received_by i (Calls i (ToTake bytes)) (ArrivalAnswer (Ok says)))) ≡ (is_there (casts_in said) m.sender m.number || list_any (is_named m) (messages_read (Ok frame)))
    news_of frame says m read =
        ap (λ (ms : List Carried). has_arrived s i m || list_any (is_named m) ms) (brings frame says read)
        ∙ ap (λ (b : Bool). b || list_any (is_named m) (messages_read (Ok frame))) (inv.arrived i m)

    again : (frame : FrameFields) → frame_read bytes ≡ Ok frame → is_repeat said frame ≡ true → ArrivalGood (Ok Repeat)
    again (CastFrame c) read repeat _ =
        same_history (ToTake bytes) (ArrivalAnswer (Ok Repeat)) tt (λ m. news_of (CastFrame c) Repeat m read
        ∙ absorbed (is_there (casts_in said) m.sender m.number) (list_any (is_named m) (messages_of c)) (λ yes.
        let (x, has, named) = any_in (is_named m) (messages_of c) yes in
        let names = and_parts (eqb x.sender m.sender) (eqb x.number m.number) named in
        let there = each_of (λ (y : Carried). is_there (casts_in said) y.sender y.number) (messages_of c) x repeat has in
        subst (λ (a : ℕ). is_there (casts_in said) a m.number ≡ true) (eqb-true x.sender m.sender names.0)
        (subst (λ (n : ℕ). is_there (casts_in said) x.sender n ≡ true) (eqb-true x.number m.number names.1) there)))
    again (StatusFrame t) read repeat _ = let none : false ≡ true = repeat in absurd cc
    again (RequestFrame r) read repeat _ = let none : false ≡ true = repeat in absurd cc
    again (HelpFrame h) read repeat _ = let none : false ≡ true = repeat in absurd cc

    changed : (frame : FrameFields) (ds : List Message) → frame_read bytes ≡ Ok frame → SaysWhatIsSo setting.group (facts_at s) frame → is_change me said frame ≡ true → ArrivalGood (Ok (Accepted ds true (sent_in_answer me said frame)))
    changed (CastFrame c) ds read so change legal =
        let says : ArrivalSays = Accepted ds true [] in
        let more : List EntryFields = now ++ ArriveEntry bytes (map (λ m. m.name) ds) ∷ [] in
        let push : facts_of (now ++ ArriveEntry bytes (map (λ m. m.name) ds) ∷ []) ≡ said ++ CastReceived c ∷ [] = said_facts now bytes (map (λ m. m.name) ds) (CastFrame c) read in
        good setting is s inv i lt (ToTake bytes) more (ArrivalAnswer (Ok says)) legal (inr (CastReceived c, push, so)) tt
        (λ d there. inl (subst (IsIn d) (ap own_casts push ∙ own_casts-other said (CastReceived c) tt) there))
        (λ m. news_of (CastFrame c) says m read ∙ sym (ap (λ (cs : List CastFields). is_there cs m.sender m.number) (ap casts_in push ∙ casts_in-append said (CastReceived c)) ∙ there_push_is (casts_in said) c m))
    changed (StatusFrame t) ds read so change legal =
        let says : ArrivalSays = Accepted ds true [] in
        let more : List EntryFields = now ++ ArriveEntry bytes (map (λ m. m.name) ds) ∷ [] in
        let push : facts_of (now ++ ArriveEntry bytes (map (λ m. m.name) ds) ∷ []) ≡ said ++ StatusReceived t ∷ [] = said_facts now bytes (map (λ m. m.name) ds) (StatusFrame t) read in
        good setting is s inv i lt (ToTake bytes) more (ArrivalAnswer (Ok says)) legal (inr (StatusReceived t, push, so)) tt
        (λ d there. inl (subst (IsIn d) (ap own_casts push ∙ own_casts-other said (StatusReceived t) tt) there))
        (λ m. news_of (StatusFrame t) says m read ∙ or_none (is_there (casts_in said) m.sender m.number)
        ∙ sym (ap (λ (cs : List CastFields). is_there cs m.sender m.number) (ap casts_in push ∙ casts_in-append said (StatusReceived t) ∙ append-nil (casts_in said))))
    changed (RequestFrame r) ds read so change legal = let none : false ≡ true = change in absurd cc
    changed (HelpFrame h) ds read so change legal = let none : false ≡ true = change in absurd cc

    unchanged : (frame : FrameFields) → frame_read bytes ≡ Ok frame → is_change me said frame ≡ false → ArrivalGood (Ok (Accepted [] false (sent_in_answer me said frame)))
    unchanged (CastFrame c) read change legal = let none : true ≡ false = change in absurd cc
    unchanged (StatusFrame t) read change legal =
        same_history (ToTake bytes) (ArrivalAnswer (Ok (Accepted [] false []))) tt (λ m. news_of (StatusFrame t) (Accepted [] false []) m read ∙ or_none (is_there (casts_in said) m.sender m.number))
    unchanged (RequestFrame r) read change legal =
        same_history (ToTake bytes) (ArrivalAnswer (Ok (Accepted [] false (sent_in_answer me said (RequestFrame r)))))
        (resent_are_honest setting.group (facts_at s) i are there_is_honest (RequestFrame r))
        (λ m. news_of (RequestFrame r) (Accepted [] false (sent_in_answer me said (RequestFrame r))) m read ∙ or_none (is_there (casts_in said) m.sender m.number))
    unchanged (HelpFrame h) read change legal =
        same_history (ToTake bytes) (ArrivalAnswer (Ok (Accepted [] false (sent_in_answer me said (HelpFrame h)))))
        (resent_are_honest setting.group (facts_at s) i are there_is_honest (HelpFrame h))
        (λ m. news_of (HelpFrame h) (Accepted [] false (sent_in_answer me said (HelpFrame h))) m read ∙ or_none (is_there (casts_in said) m.sender m.number))

    by_frame : (frame : FrameFields) → frame_read bytes ≡ Ok frame → SaysWhatIsSo setting.group (facts_at s) frame → ArrivalGood (frame_answer me setting.limit now said frame)
    by_frame frame read so =
        cond_both (not (eqb (group_of frame) setting.group.number)) _ _ ArrivalGood (λ _. refused arrivals.OtherGroup)
        (λ _. cond_both (not (are_members setting.group.size frame)) _ _ ArrivalGood (λ _. refused arrivals.BadMember)
        (λ _. cond_both (is_impossible me said frame) _ _ ArrivalGood (λ _. refused arrivals.Impossible)
        (λ _. cond_both (is_repeat said frame) _ _ ArrivalGood (again frame read)
        (λ _. cond_both (is_overlap said frame) _ _ ArrivalGood (λ _. refused arrivals.Overlap)
        (λ _. cond_both (is_too_far me said frame) _ _ ArrivalGood (λ _. refused arrivals.TooFar)
        (λ _. cond_both (is_change me said frame && is_full setting.limit now) _ _ ArrivalGood (λ _. refused arrivals.HistoryFull)
        (λ _. cond_both (is_change me said frame) _ _ ArrivalGood (changed frame (deliveries me said frame) read so) (unchanged frame read))))))))

    pub arrival_is_good : IsGood setting is s inv i lt (ToTake bytes) (history_after me setting.limit now (ToTake bytes)) (answer_of me setting.limit now (ToTake bytes))
    unfolding arrive_answer
    arrival_is_good =
        subst (λ (r : Result FrameFields FrameFault). ArrivalGood (answer_to me setting.limit now r)) (sym honest.read) (by_frame honest.frame honest.read honest.so)
        (calls_keep_entries me setting.limit now (ToTake bytes) (inv.legal i lt) honest.are_bytes)
