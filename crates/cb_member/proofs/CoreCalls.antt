-- What a core answers to its own calls: casts and ticks.
use Rattle.std.proofs.Common.{◌≡◌, ℕ, ◌≤◌, Bool, true, false, ◌&&◌, leb, List, [], ◌∷◌, ◌++◌, length, drop, map, Option, Some, None, Result, Ok, Err, refl, sym, ap, subst, ◌∙◌, arith, inr}
use Rattle.std.specs.Prelude.{IsOk, option_map, if◌then◌else◌}
use Rattle.std.proofs.Math.Seq.{drop-append_seam}
use Rattle.std.proofs.lemmas.Bool.{lt-leb}
use Rattle.cb_frames.specs.declared.frame.TheConstants.{MOST_MESSAGES}
use Rattle.cb_frames.specs.Fields.{Load, CastFields, StatusFrame}
use Rattle.cb_frames.specs.Text.{text_of}
use Rattle.cb_delay.specs.declared.message.Event.{Event}
use Rattle.cb_delay.specs.declared.message.Event.TheVariants as events
use Rattle.cb_history.specs.declared.answer.Outgoing.{Outgoing}
use Rattle.cb_history.specs.declared.answer.TickRefusal.{TickRefusal}
use Rattle.cb_history.specs.declared.answer.TickRefusal.TheVariants as ticks
use Rattle.cb_history.specs.declared.history.Entry.{Entry}
use Rattle.cb_history.specs.declared.history.Entry.TheVariants as entries
use Rattle.cb_history.specs.CastFault.{CastFault, IsFault}
use Rattle.cb_history.specs.Facts.{EntryFields, Fact, OwnCast, OwnStatus, CastEntry, TickEntry, cast_said, entry_fields, facts_of, status_said}
use Rattle.cb_history.specs.Answers.{is_new_status, next_cast, requests, status_of, tick_answer}
use Rattle.cb_history.specs.Legal.{ToCast, ToTick, cast_entry, room_for_one, tick_entry}
use Rattle.cb_history.specs.LegalFacts.{AreFactsOf}
use Rattle.cb_history.specs.State.{MemberState, answer_to_cast, answer_to_tick, entry_by}
use Rattle.cb_history.proofs.ReadBack.{cast_read, status_read}
use Rattle.cb_history.proofs.Requests.{own_frames_have_texts}
use Rattle.cb_history.proofs.Written.{fitting_can}
use Rattle.cb_member.specs.declared.own_cast.Casting.{Casting}
use Rattle.cb_member.specs.declared.state.State.{State}
use Rattle.cb_member.specs.declared.wanted.Made.{Made}
use Rattle.cb_member.specs.declared.wanted.Told.{Told}
use Rattle.cb_member.specs.declared.wanted.Wanted.{Wanted}
use Rattle.cb_member.specs.Asked.{wants_answer, wants_entry}
use Rattle.cb_member.specs.Casting.{CanCast, CanKeepCast, HasKept, IsCasting, IsSameButBlock, JudgesLoad, MakesCasting, RefusesLoad, messages_made, next_text, time_of_last}
use Rattle.cb_member.specs.CoreCalls.{AnswersLoadInto, AnswersTickOnEach, CanKeepOnEach, HasCastWith, HasJoinedMade, JoinsCastOnEach, MayCast, added}
use Rattle.cb_member.specs.CoreMember.{Core, GoesOn, IsCore, OnEach, StandsFor, core_of, unlimited}
use Rattle.cb_member.specs.State.{Keeps, OnAll}
use Rattle.cb_member.specs.Telling.{HasReported}
use Rattle.cb_member.proofs.Cores.{Grows, core_goes_on, facts_follow, facts_stand, goes_on_none, is_state, keeps_of, one_is_left, same_but_block, stands_then}
use Rattle.cb_member.proofs.Judging.{casts_next, few_for}
use Rattle.cb_member.proofs.Made.{burst_told, can_keep_made, made_events, made_last, made_many}

-- ---- casts that are refused

pub refuses_load_into : {R : Type 0} (Refuses : MemberState → Load → R → Type 0) (wanted : Wanted) (load : Load) (old new : Core) (before after : List Event) (refusal : R) → IsCore old → new ≡ old → after ≡ before
    → OnEach old (λ m. Refuses m load refusal) → AnswersLoadInto Refuses wanted load old new before after (Err refusal)
refuses_load_into Refuses wanted load old new before after refusal is same same_events refuses =
    record { core = subst IsCore (sym same) is; casts = tt; refused = refuses; same = same; same_events = same_events }

-- what is judged of a load is so on each history
pub refused_load : (core : State) (load : Load) (told : Option CastFault) → OnAll core (λ facts. RefusesLoad core.seat facts load told) → OnEach (core_of core) (λ m. IsFault told (answer_to_cast m load))
refused_load core load told refuses entries s = refuses (facts_of entries) (facts_stand core entries s) (keeps_of core entries s) (room_for_one entries) entries refl

pub cast_next : (core : State) (load : Load) (entries : List EntryFields) → CanCast core load → StandsFor entries (core_of core)
    → answer_to_cast (unlimited core.seat entries) load ≡ Ok (next_cast core.seat (facts_of entries) load)
cast_next core load entries can s = casts_next core (room_for_one entries) entries load (facts_stand core entries s) (keeps_of core entries s) can (one_is_left entries)

is_ok_of : (a : Result CastFields CastFault) (c : CastFields) → a ≡ Ok c → IsOk a
is_ok_of a c is = rw is refl

-- so out of memory stands in place of a cast
pub may_be_cast : (core : State) (load : Load) → CanCast core load → OnEach (core_of core) (λ m. IsOk (answer_to_cast m load))
may_be_cast core load can entries s = is_ok_of (answer_to_cast (unlimited core.seat entries) load) (next_cast core.seat (facts_of entries) load) (cast_next core load entries can s)

pub may_cast_so : {R : Type 0} (told_by : R → Option CastFault) (state : State) (load : Load) (result : Result (Unit {0}) R) → JudgesLoad told_by state load result → MayCast told_by load (core_of state) result
may_cast_so told_by state load (Ok done) can = λ es s. cast_next state load es can s
may_cast_so told_by state load (Err refusal) refuses = refused_load state load (told_by refusal) refuses

-- ---- a cast that is made

-- but for the block it is the same
with_block : (old mid : State) → (facts : List Fact) → Keeps facts old → Keeps facts (record old { block = mid.block })
with_block old mid facts k = record { delivered = k.delivered; received = k.received; knows = k.knows; sent = k.sent; relayed = k.relayed }

-- so the cast that was made is still the next one
pub can_keep : (load : Load) (old mid : State) (casting : Casting) → IsCore (core_of old) → CanCast old load → MakesCasting old load casting → IsSameButBlock old mid → CanKeepOnEach load mid casting
can_keep load old mid casting is can makes block =
    subst (λ (state : State). CanKeepOnEach load state casting) (sym block) (record {
      core = is;
      can = record { bytes = can.bytes; fits = can.fits; room = can.room };
      makes = λ facts are k. makes facts are (record { delivered = k.delivered; received = k.received; knows = k.knows; sent = k.sent; relayed = k.relayed });
    })

-- it can be kept, with the time of its last message
pub can_be_kept : (load : Load) (state : State) (casting : Casting) (time : List ℕ) (count : ℕ) → CanKeepOnEach load state casting → time ≡ time_of_last casting.first casting.others.items → count ≡ length (messages_made casting)
    → CanKeepCast time casting.sent count state
can_be_kept load state casting time count c at many =
    let es = c.core.entries in
    let s = c.core.stands in
    can_keep_made state (facts_of es) load casting time count (is_state state c.core) c.can (c.makes (facts_of es) (facts_stand state es s) (keeps_of state es s)) at many

-- its messages are few
pub few_made : (load : Load) (state : State) (casting : Casting) (count : ℕ) → CanKeepOnEach load state casting → count ≡ length (messages_made casting) → count ≤ MOST_MESSAGES
few_made load state casting count c many =
    let es = c.core.entries in
    let s = c.core.stands in
    omega (arith, many, made_many state.seat (facts_of es) load casting (c.makes (facts_of es) (facts_stand state es s) (keeps_of state es s)), c.can.fits.few)

-- what was done to keep it
pub record KeepsSo (load : Load) (old new : State) (casting : Casting) (frame time : List ℕ) (count : ℕ) : Type 0 where
  pub can : CanKeepOnEach load old casting
  pub copied : frame ≡ casting.out
  pub at : time ≡ time_of_last casting.first casting.others.items
  pub many : count ≡ length (messages_made casting)
  pub keeps : HasKept time casting.sent count old new

module _ (load : Load) (old new : State) (casting : Casting) (frame time : List ℕ) (count : ℕ) (c : KeepsSo load old new casting frame time count) where
  module _ (es : List EntryFields) (s : StandsFor es (core_of old)) where
    made : IsCasting old.seat (facts_of es) load casting
    made = c.can.makes (facts_of es) (facts_stand old es s) (keeps_of old es s)

    answer : answer_to_cast (unlimited old.seat es) load ≡ Ok (next_cast old.seat (facts_of es) load)
    answer = cast_next old load es c.can.can s

    grows : Grows (core_of old) es (ToCast load) (CastEntry (next_text old.seat (facts_of es) load)) (OwnCast (next_cast old.seat (facts_of es) load))
    grows =
        let are = facts_stand old es s in
        let written = fitting_can old.seat (facts_of es) load are.group are.member are.facts_are c.can.can.fits (few_for old (facts_of es) load are (keeps_of old es s) c.can.can) in
        record { stands = s; bytes = c.can.can.bytes; by_call = ap cast_entry answer; says = ap cast_said (cast_read (next_cast old.seat (facts_of es) load) written) }

    follows : AreFactsOf old.seat (facts_of es ++ OwnCast (next_cast old.seat (facts_of es) load) ∷ [])
    follows = facts_follow (core_of old) es (ToCast load) _ _ grows

    stands_after : Keeps (facts_of es ++ OwnCast (next_cast old.seat (facts_of es) load) ∷ []) new
    stands_after =
        c.keeps.keeps (facts_of es) load follows (keeps_of old es s) (c.at ∙ made_last old.seat (facts_of es) load casting c.can.can.fits made) made.sent (c.many ∙ made_many old.seat (facts_of es) load casting made)

    entered : entry_by (unlimited old.seat es) (ToCast load) ≡ Some (CastEntry frame)
    entered = ap cast_entry answer ∙ ap (λ (text : List ℕ). Some (CastEntry text)) (sym made.out ∙ sym c.copied)

  goes_on : GoesOn (ToCast load) (core_of old) (core_of new)
  goes_on = record {
    seat = c.keeps.seat;
    stands = λ es s. stands_then (core_of old) es (ToCast load) _ _ (grows es s) new c.keeps.seat (stands_after es s);
  }

  pub kept_is_core : IsCore (core_of new)
  kept_is_core = core_goes_on (ToCast load) (core_of old) (core_of new) c.can.core goes_on

  -- the events are those of its messages
  pub joins_so : (wanted : Wanted) (before after : List Event) (copy : Option (List ℕ)) (noted : Option (List ℕ)) → after ≡ before ++ map (λ m. events.Cast m) (messages_made casting)
      → (wants_answer wanted ≡ true → copy ≡ Some casting.first.time) → (wants_entry wanted ≡ true → noted ≡ Some casting.out)
      → JoinsCastOnEach wanted load (core_of old) (core_of new) before after (record { first = casting.first.name; count = count; time = copy; out = casting.out; noted = noted }, frame)
  joins_so wanted before after copy noted joined copied noted_so = record {
    goes_on = goes_on;
    answer = answer;
    frame = λ es s. (made es s).out;
    entry = entered;
    joins = λ es s. joined ∙ ap (λ (more : List Event). before ++ more) (made_events old.seat (facts_of es) load casting (made es s) (follows es s));
    told = λ want. record {
      time = casting.first.time;
      time_is = copied want;
      done = λ es s. burst_told old.seat (facts_of es) load casting casting.first.time count (made es s) refl c.many;
    };
    noted = λ want. noted_so want ∙ ap (λ (text : List ℕ). Some text) (sym c.copied);
  }

-- ---- what is answered

pub answers_into : {R E : Type 0} (Refuses : MemberState → Load → R → Type 0) (wanted : Wanted) (load : Load) (old mid : State) (new : Core) (before after : List Event) (cast : Made × List ℕ) → IsSameButBlock old mid
    → HasJoinedMade {E = E} wanted load (core_of mid) new before after (Ok cast) → AnswersLoadInto Refuses wanted load (core_of old) new before after (Ok cast)
answers_into Refuses wanted load old mid new before after cast block joined = record {
  core = joined.core;
  casts = subst (λ (core : Core). JoinsCastOnEach wanted load core new before after cast) (same_but_block old mid block) joined.casts;
  refused = tt;
  same = tt;
  same_events = tt;
}

-- the definition casts it
pub has_cast : (wanted : Wanted) (load : Load) (old new : Core) (before after : List Event) (cast : Made × List ℕ) (frame : List ℕ) → JoinsCastOnEach wanted load old new before after cast → frame ≡ cast.0.out
    → OnEach old (λ m. HasCastWith m load (frame, entries.Cast cast.1) (added before after))
has_cast wanted load old new before after cast frame joins is es s = record {
  answer = joins.answer es s;
  frame = is ∙ joins.frame es s;
  entry = joins.entry es s;
  events_are = ap (drop (length before)) (joins.joins es s) ∙ drop-append_seam before _;
}

-- ---- ticks

pub refuses_tick : (wanted : Wanted) (core : Core) (refusal : TickRefusal) → IsCore core → refusal ≡ ticks.NoMemory → AnswersTickOnEach wanted core core (Err refusal)
refuses_tick wanted core refusal is memory = record { core = is; ticks = tt; refused = λ es s. inr memory; same = refl }

fits : (is_new : Bool) (es : List EntryFields) → (is_new && leb (room_for_one es) (length es)) ≡ false
fits true es = lt-leb (room_for_one es) (length es) (one_is_left es)
fits false es = refl

-- what was told on each history
pub record TellsSo (old : State) (is_new : Bool) (bytes : List ℕ) (out : List Outgoing) (entry : Option Entry) : Type 0 where
  pub core : IsCore (core_of old)
  pub news : OnAll old (λ facts. is_new ≡ is_new_status old.seat facts)
  pub text : OnAll old (λ facts. bytes ≡ text_of (StatusFrame (status_of old.seat facts)))
  pub asks : OnAll old (λ facts. out ≡ record { to = None; bytes = bytes } ∷ requests old.seat facts)
  pub entry_is : option_map entry_fields entry ≡ (if is_new then Some (TickEntry bytes) else None)

module _ (old : State) (is_new : Bool) (bytes : List ℕ) (out : List Outgoing) (entry : Option Entry) (t : TellsSo old is_new bytes out entry) where
  module _ (es : List EntryFields) (s : StandsFor es (core_of old)) where
    status_text : bytes ≡ text_of (StatusFrame (status_of old.seat (facts_of es)))
    status_text = t.text (facts_of es) (facts_stand old es s) (keeps_of old es s)

    tick_answered : answer_to_tick (unlimited old.seat es) ≡ Ok (is_new, out)
    unfolding tick_answer
    tick_answered =
        rw (
          sym (t.news (facts_of es) (facts_stand old es s) (keeps_of old es s)),
          fits is_new es,
          t.asks (facts_of es) (facts_stand old es s) (keeps_of old es s) ∙ ap (λ (b : List ℕ). record { to = None; bytes = b } ∷ requests old.seat (facts_of es)) status_text,
        ) refl

    tick_entered : entry_by (unlimited old.seat es) ToTick ≡ option_map entry_fields entry
    tick_entered =
        ap (tick_entry (text_of (StatusFrame (status_of old.seat (facts_of es))))) tick_answered
        ∙ ap (λ (b : List ℕ). if is_new then Some (TickEntry b) else None) (sym status_text) ∙ sym t.entry_is

    tick_grows : is_new ≡ true → Grows (core_of old) es ToTick (TickEntry (text_of (StatusFrame (status_of old.seat (facts_of es))))) (OwnStatus (status_of old.seat (facts_of es)))
    tick_grows on = record {
      stands = s;
      bytes = tt;
      by_call = tick_entered ∙ t.entry_is ∙ ap (λ (b : Bool). if b then Some (TickEntry bytes) else None) on ∙ ap (λ (b : List ℕ). Some (TickEntry b)) status_text;
      says = ap status_said (status_read (status_of old.seat (facts_of es)) (own_frames_have_texts old.seat (facts_of es) (facts_stand old es s)).1);
    }

  pub goes_on_reported : (new : State) → is_new ≡ true → HasReported old new → GoesOn ToTick (core_of old) (core_of new)
  goes_on_reported new on reported = record {
    seat = reported.seat;
    stands = λ es s. stands_then (core_of old) es ToTick _ _ (tick_grows es s on) new reported.seat
        (reported.keeps (facts_of es) (facts_follow (core_of old) es ToTick _ _ (tick_grows es s on)) (keeps_of old es s));
  }

  pub goes_on_silent : is_new ≡ false → GoesOn ToTick (core_of old) (core_of old)
  goes_on_silent off =
      goes_on_none ToTick (core_of old) (λ es s. tick_entered es s ∙ t.entry_is ∙ ap (λ (b : Bool). if b then Some (TickEntry bytes) else None) off)

  pub ticks_so : (wanted : Wanted) (new : State) (told : Told) → told.ticked.entered ≡ is_new → told.ticked.out.items ≡ out
      → (wants_entry wanted ≡ true → option_map entry_fields told.noted ≡ option_map entry_fields entry)
      → GoesOn ToTick (core_of old) (core_of new) → AnswersTickOnEach wanted (core_of old) (core_of new) (Ok (told, entry))
  ticks_so wanted new told entered sent copy goes = record {
    core = core_goes_on ToTick (core_of old) (core_of new) t.core goes;
    ticks = record {
      goes_on = goes;
      done = λ es s. record { answer = rw (entered, sent) (tick_answered es s); after = refl };
      entry = tick_entered;
      noted = copy;
    };
    refused = tt;
    same = tt;
  }
