-- A step is taken: what the member that it names did is the step of the run.
use Rattle.std.proofs.Common.{◌≡◌, ◌≢◌, ℕ, suc, ◌+◌, ◌<◌, ◌≤◌, Bool, true, false, ltb, List, [], ◌∷◌, ◌++◌, length, map, set, get_or, slice_get, slice_index_or, Option, Some, None, inl, inr, refl, sym, ap, subst, ◌∙◌, arith, if◌then◌else◌}
use Rattle.std.specs.Prelude.{option_map}
use Rattle.std.proofs.lemmas.Bool.{eq-eqb, le-ltb, lt-ltb, ne_eqb}
use Rattle.std.proofs.lemmas.List.{length-append, length-map, length-set, set-get_or}
use Rattle.std.proofs.lemmas.Option.{slice_get-get_or, slice_get-map}
use Rattle.cb_frames.specs.Fields.{Load, load_bytes}
use Rattle.cb_history.specs.Facts.{EntryFields}
use Rattle.cb_history.specs.Legal.{Call, ToCast, history_after}
use Rattle.cb_history.specs.State.{MemberState}
use Rattle.cb_schedules.specs.Schedule.{Setting, seat_at, Step, CastStep, ArriveStep, TickStep, HelpStep, SentFrame, Asked, Calls, OfNoMember, OfNoFrame, OfNoBytes, are_bytes, handed_over, asked_by, answer_of, frames_sent, sent_by, GroupState, with_history, after_asked, step_after}
use Rattle.cb_world.specs.declared.outcome.Answer.{Answer}
use Rattle.cb_world.specs.declared.outcome.Sent.{Sent}
use Rattle.cb_world.specs.Steps.{member_of}
use Rattle.cb_world.specs.Outcomes.{sent_fields, NoMemberReported, NoFrameReported, reported, reported_of, answer_to}
use Rattle.cb_world.specs.Taking.{HasAnswered, HasDone, asks, member_at, Stands, HasTaken}
use Rattle.cb_world.proofs.Lists.{replaced_at}

-- ---- what a step asks for

names_nobody : (setting : Setting) (sent : List SentFrame) (step : Step) → ltb (member_of step) setting.group.size ≡ false → asked_by setting sent step ≡ OfNoMember
names_nobody setting sent (CastStep i load) e = rw e refl
names_nobody setting sent (ArriveStep j number) e = rw e refl
names_nobody setting sent (TickStep i) e = rw e refl
names_nobody setting sent (HelpStep j i) e = rw e refl

names_one : (setting : Setting) (sent : List SentFrame) (step : Step) → ltb (member_of step) setting.group.size ≡ true → asked_by setting sent step ≡ asks sent step
names_one setting sent (CastStep i load) e = rw e refl
names_one setting sent (ArriveStep j number) e = rw e refl
names_one setting sent (TickStep i) e = rw e refl
names_one setting sent (HelpStep j i) e = rw e refl

-- where it asks for a call, it is that of the member that it names
abbrev IsBy : ℕ → Asked → Type 0
IsBy i (Calls k call) = k ≡ i
IsBy i OfNoMember = Unit {0}
IsBy i OfNoFrame = Unit {0}
IsBy i OfNoBytes = Unit {0}

frame_is_by : (j : ℕ) (frame : Option SentFrame) → IsBy j (handed_over j frame)
frame_is_by j None = tt
frame_is_by j (Some frame) = refl

load_is_by : (i : ℕ) (load : Load) (b : Bool) → IsBy i (if b then Calls i (ToCast load) else OfNoBytes)
load_is_by i load true = refl
load_is_by i load false = tt

asks_by : (sent : List SentFrame) (step : Step) → IsBy (member_of step) (asks sent step)
asks_by sent (CastStep i load) = load_is_by i load (are_bytes (load_bytes load))
asks_by sent (ArriveStep j number) = frame_is_by j (slice_get sent number)
asks_by sent (TickStep i) = refl
asks_by sent (HelpStep j i) = refl

-- bytes in memory are below 256
pub bytes_are_bytes : (bytes : List ℕ) → ((i : ℕ) → slice_index_or bytes i 0 < 256) → are_bytes bytes ≡ true
bytes_are_bytes [] below = refl
bytes_are_bytes (b ∷ bytes) below = rw (lt-ltb b 256 (below 0)) (bytes_are_bytes bytes (λ i. below (suc i)))

-- a load of bytes is cast
pub bytes_are_cast : (old new : MemberState) (i : ℕ) (load : Load) (before after : List SentFrame) (answer : Answer) → are_bytes (load_bytes load) ≡ true → HasAnswered old new (ToCast load) before after answer
    → HasDone old new (asks before (CastStep i load)) before after answer
bytes_are_cast old new i load before after answer e did =
    subst (λ (b : Bool). HasDone old new (if b then Calls i (ToCast load) else OfNoBytes) before after answer) (sym e) did

-- the frame of this number is handed over
pub frame_is_taken : (old new : MemberState) (j number : ℕ) (sent : List Sent) (frame : Sent) (after : List SentFrame) (answer : Answer) → slice_get sent number ≡ Some frame
    → HasDone old new (handed_over j (Some (sent_fields frame))) (map sent_fields sent) after answer → HasDone old new (handed_over j (slice_get (map sent_fields sent) number)) (map sent_fields sent) after answer
frame_is_taken old new j number sent frame after answer e did =
    subst (λ (f : Option SentFrame). HasDone old new (handed_over j f) (map sent_fields sent) after answer) (sym (slice_get-map sent_fields sent number ∙ ap (option_map sent_fields) e)) did

pub no_frame_is_taken : (old new : MemberState) (j number : ℕ) (sent : List Sent) (answer : Answer) → slice_get sent number ≡ None → new ≡ old → reported answer ≡ NoFrameReported
    → HasDone old new (handed_over j (slice_get (map sent_fields sent) number)) (map sent_fields sent) (map sent_fields sent) answer
no_frame_is_taken old new j number sent answer e same says =
    subst (λ (f : Option SentFrame). HasDone old new (handed_over j f) (map sent_fields sent) (map sent_fields sent) answer) (sym (slice_get-map sent_fields sent number ∙ ap (option_map sent_fields) e))
    (record { reported_is = says; state = same; sent = refl })

-- ---- the group

one_is : (a b : MemberState) → Some a ≡ Some b → a ≡ b
one_is a b e = cc

module _ (setting : Setting) (s : GroupState) (members : List MemberState) (sent : List Sent) (stands : Stands setting s members sent) where
  taken : (step : Step) (asked : Asked) (members_after : List MemberState) (sent_after : List Sent) (answer : Answer) → asked_by setting s.sent step ≡ asked → reported answer ≡ reported_of setting s asked
      → Stands setting (after_asked setting s asked) members_after sent_after → HasTaken setting s step members_after sent_after answer
  unfolding step_after
  taken step asked members_after sent_after answer e says after = record {
    reported_is = says ∙ ap (reported_of setting s) (sym e);
    stands = subst (λ (a : Asked). Stands setting (after_asked setting s a) members_after sent_after) (sym e) after;
  }

  nothing_stands : (members_after : List MemberState) (sent_after : List Sent) → members_after ≡ members → map sent_fields sent_after ≡ map sent_fields sent
      → Stands setting s members_after sent_after
  nothing_stands members_after sent_after same sent_same = record {
    many = ap length same ∙ stands.many;
    members_are = λ i m at. stands.members_are i m (subst (λ (ms : List MemberState). slice_get ms i ≡ Some m) same at);
    sent_are = sent_same ∙ stands.sent_are;
  }

  -- the step names no member
  pub nobody_takes : (step : Step) (members_after : List MemberState) (sent_after : List Sent) (answer : Answer) → length members ≤ member_of step → members_after ≡ members → sent_after ≡ sent
      → reported answer ≡ NoMemberReported → HasTaken setting s step members_after sent_after answer
  nobody_takes step members_after sent_after answer beyond same sent_same says =
      let s_is : Stands setting s members_after sent_after = nothing_stands members_after sent_after same (ap (map sent_fields) sent_same) in
      taken step OfNoMember members_after sent_after answer (names_nobody setting s.sent step (le-ltb (member_of step) setting.group.size (omega (arith, beyond, stands.many)))) says
      (record { many = s_is.many; members_are = s_is.members_are; sent_are = s_is.sent_are })

  module _ (i : ℕ) (within : i < length members) (before after : MemberState) (value : before ≡ get_or members i before) where
    before_is : before ≡ member_at setting s i
    before_is = stands.members_are i before (slice_get-get_or members i before within ∙ ap (λ (m : MemberState). Some m) (sym value))

    done_by : (k : ℕ) (call : Call) (sent_after : List Sent) (answer : Answer) → k ≡ i → HasAnswered (member_at setting s i) after call (map sent_fields sent) (map sent_fields sent_after) answer
        → (reported answer ≡ reported_of setting s (Calls k call)) × Stands setting (after_asked setting s (Calls k call)) (set members i after) sent_after
    done_by k call sent_after answer named did =
        subst (λ (j : ℕ). (reported answer ≡ reported_of setting s (Calls j call)) × Stands setting (after_asked setting s (Calls j call)) (set members i after) sent_after) (sym named) (
          did.reported_is,
          record {
            many = length-set members i after ∙ stands.many;
            members_are = λ j m at. elim (replaced_at members i j after m at) [
              | inl here ↦ here.1 ∙ did.state ∙ ap (λ (entries : List EntryFields). let x : MemberState = record { seat = seat_at setting i; limit = setting.limit; entries = entries } in x) (sym own_entries)
                  ∙ ap (λ (n : ℕ). member_at setting (after_asked setting s (Calls i call)) n) (sym here.0)
              | inr elsewhere ↦ stands.members_are j m elsewhere.1 ∙ ap (λ (entries : List EntryFields). let x : MemberState = record { seat = seat_at setting j; limit = setting.limit; entries = entries } in x) (sym (other_entries j elsewhere.0))
            ];
            sent_are = did.sent ∙ ap (λ (fs : List SentFrame). fs ++ map (sent_by i) (frames_sent (answer_of (seat_at setting i) setting.limit (s.histories i) call))) stands.sent_are;
          },
        )
      where
        new_entries : List EntryFields
        new_entries = history_after (seat_at setting i) setting.limit (s.histories i) call

        own_entries : with_history s.histories i new_entries i ≡ new_entries
        own_entries = rw (eq-eqb i i refl) refl

        other_entries : (j : ℕ) → j ≢ i → with_history s.histories i new_entries j ≡ s.histories j
        other_entries j ne = rw (ne_eqb j i ne) refl

    still : set members i after ≡ members → (sent_after : List Sent) → map sent_fields sent_after ≡ map sent_fields sent → Stands setting s (set members i after) sent_after
    still same sent_after sent_same = nothing_stands (set members i after) sent_after same sent_same

    same_members : after ≡ before → set members i after ≡ members
    same_members e = ap (set members i) (e ∙ value) ∙ set-get_or members i before

    done_all : (asked : Asked) (sent_after : List Sent) (answer : Answer) → IsBy i asked → HasDone before after asked (map sent_fields sent) (map sent_fields sent_after) answer
        → (reported answer ≡ reported_of setting s asked) × Stands setting (after_asked setting s asked) (set members i after) sent_after
    done_all (Calls k call) sent_after answer named did =
        done_by k call sent_after answer named (subst (λ (m : MemberState). HasAnswered m after call (map sent_fields sent) (map sent_fields sent_after) answer) before_is did)
    done_all OfNoMember sent_after answer named did =
        let s_is = still (same_members did.state) sent_after did.sent in
        (did.reported_is, record { many = s_is.many; members_are = s_is.members_are; sent_are = s_is.sent_are })
    done_all OfNoFrame sent_after answer named did =
        let s_is = still (same_members did.state) sent_after did.sent in
        (did.reported_is, record { many = s_is.many; members_are = s_is.members_are; sent_are = s_is.sent_are })
    done_all OfNoBytes sent_after answer named did =
        let s_is = still (same_members did.state) sent_after did.sent in
        (did.reported_is, record { many = s_is.many; members_are = s_is.members_are; sent_are = s_is.sent_are })

    -- the step names this member, which does what is asked for
    pub member_takes : (step : Step) (members_after : List MemberState) (sent_after : List Sent) (answer : Answer) → member_of step ≡ i → members_after ≡ set members i after
        → HasDone before after (asks (map sent_fields sent) step) (map sent_fields sent) (map sent_fields sent_after) answer → HasTaken setting s step members_after sent_after answer
    member_takes step members_after sent_after answer named replaced did =
        let asked : Asked = asks s.sent step in
        let did_so : HasDone before after asked (map sent_fields sent) (map sent_fields sent_after) answer =
        subst (λ (fs : List SentFrame). HasDone before after (asks fs step) (map sent_fields sent) (map sent_fields sent_after) answer) stands.sent_are did in
        let both = done_all asked sent_after answer (subst (λ (n : ℕ). IsBy n asked) named (asks_by s.sent step)) did_so in
        taken step asked members_after sent_after answer
        (names_one setting s.sent step (lt-ltb (member_of step) setting.group.size (omega (arith, within, stands.many, named)))) both.0
        (subst (λ (ms : List MemberState). Stands setting (after_asked setting s asked) ms sent_after) (sym replaced) both.1)

-- ---- how many frames a step sends

grows_by : (setting : Setting) (s : GroupState) (asked : Asked) → length (after_asked setting s asked).sent ≡ length s.sent + length (frames_sent (answer_to setting s asked))
grows_by setting s (Calls i call) =
    let out = frames_sent (answer_of (seat_at setting i) setting.limit (s.histories i) call) in
    length-append s.sent (map (sent_by i) out) ∙ ap (λ (n : ℕ). length s.sent + n) (length-map out (sent_by i))
grows_by setting s OfNoMember = omega arith
grows_by setting s OfNoFrame = omega arith
grows_by setting s OfNoBytes = omega arith

pub frames_grow : (setting : Setting) (s : GroupState) (step : Step) → length (step_after setting s step).sent ≡ length s.sent + length (frames_sent (answer_to setting s (asked_by setting s.sent step)))
unfolding step_after
frames_grow setting s step = grows_by setting s (asked_by setting s.sent step)
