-- What a member sends is a frame of the group that says what is so.
use Rattle.std.proofs.Common.{◌≡◌, ◌≢◌, ℕ, ◌<◌, ◌≤◌, false, not, ◌&&◌, eqb, ltb, List, [], ◌∷◌, length, take, Option, Some, None, Result, Ok, Err, refl, sym, ap, subst, arith, inl, inr}
use Rattle.std.specs.List.{AllByRecursion, flat_map, filter, range_with_len}
use Rattle.std.proofs.lemmas.Bool.{cond_both, eqb-false, and_from, lt-ltb}
use Rattle.cb_varint.specs.Reading.{spelling}
use Rattle.cb_frames.specs.declared.frame.TheConstants.{MOST_RANGES, MOST_FRAMES}
use Rattle.cb_frames.specs.declared.frame.Range.{Range}
use Rattle.cb_frames.specs.declared.fault.FrameFault.{FrameFault}
use Rattle.cb_frames.specs.Fields.{Load, payloads_of, load_bytes, CastFields, RequestFields, HelpFields, FrameFields, CastFrame, StatusFrame, RequestFrame, HelpFrame, last_number}
use Rattle.cb_frames.specs.Text.{text_of, request_kind, request_numbers, help_kind, help_numbers}
use Rattle.cb_history.specs.Load.{FitsFrame}
use Rattle.cb_history.specs.Read.{frame_read}
use Rattle.cb_frames.specs.Laws.{IsBytes, CanBeWritten}
use Rattle.cb_frames.proofs.Decoding.{reading_is_exact, text_is_read}
use Rattle.cb_frames.proofs.Unique.{one_text, some_text}
use Rattle.cb_history.specs.declared.answer.Outgoing.{Outgoing}
use Rattle.cb_history.specs.Group.{Parameters, IsIdentity}
use Rattle.cb_history.specs.Facts.{Fact, casts_in}
use Rattle.cb_history.specs.Known.{missing, ranges_of, stable}
use Rattle.cb_history.specs.Helping.{handed_on, helper_for, help_to, help_for}
use Rattle.cb_history.specs.Answers.{is_too_many, delivered, next_cast, status_of, own_casts, window, is_asked_for, sent_in_answer, request_to, requests}
use Rattle.cb_history.specs.LegalFacts.{AreFactsOf}
use Rattle.cb_history.specs.BufferLaws.{IsCastOf}
use Rattle.cb_history.proofs.Views.{IsIn, filter_in, not_true}
use Rattle.cb_history.proofs.Lists.{in_append, in_one}
use Rattle.cb_history.proofs.ReadBack.{cast_read as cast_reads, status_read, read_whole}
use Rattle.cb_history.proofs.Written.{each_from, fitting_can}
use Rattle.cb_history.proofs.Requests.{own_frames_have_texts}
use Rattle.cb_history.proofs.OwnFrames.{own_casts_are_of_the_group, own_statuses_are_of_the_group, own_requests_are_of_the_group}
use Rattle.cb_history.proofs.Replays.{one_more_byte, numbers_are_bytes, cast_is_bytes, status_is_bytes}
use Rattle.cb_schedules.specs.Schedule.{SentFrame, HelpAnswer, frames_sent}
use Rattle.cb_schedules.specs.Messages.{cast_read}
use Rattle.cb_schedules.specs.Honest.{member_of, IsHonest}
use Rattle.cb_schedules.proofs.Lists.{all_flat, all_map, in_take}
use Rattle.cb_schedules.proofs.Members.{own_is_there}
use Rattle.cb_schedules.proofs.Handing.{handed_on_is_there, helper_is_third}
use Rattle.cb_history.proofs.Agreement.{all_at}
use Rattle.cb_history.proofs.Keeping.{range_in}

-- ---- own frames

module _ (group : Parameters) (facts : ℕ → List Fact) (i : ℕ) (are : AreFactsOf (member_of group i) (facts i)) where
  is_seat : IsIdentity (member_of group i)
  is_seat = record { group = are.group; member = are.member }

  -- the next cast of a load that fits a frame, where its messages are not too many
  module _ (load : Load) (fits : FitsFrame load) (few : is_too_many (member_of group i) (facts i) (length (payloads_of load)) ≡ false) where
    abbrev cast : CastFields
    cast = next_cast (member_of group i) (facts i) load

    cast_can : CanBeWritten (CastFrame cast)
    cast_can = fitting_can (member_of group i) (facts i) load are.group are.member are.facts_are fits few

    pub next_cast_reads : frame_read (text_of (CastFrame cast)) ≡ Ok (CastFrame cast)
    next_cast_reads = cast_reads cast cast_can

    -- once it is an own cast
    pub cast_is_honest : (after : ℕ → List Fact) → IsBytes (load_bytes load) → IsCastOf cast (own_casts (after i)) → IsHonest group after (text_of (CastFrame cast))
    cast_is_honest after bytes own = record {
      are_bytes = cast_is_bytes cast load cast_can bytes;
      frame = CastFrame cast;
      read = next_cast_reads;
      of_group = own_casts_are_of_the_group (member_of group i) (facts i) load is_seat;
      so = own;
    }

  -- the status
  pub status_is_honest : IsHonest group facts (text_of (StatusFrame (status_of (member_of group i) (facts i))))
  status_is_honest =
      let can = (own_frames_have_texts (member_of group i) (facts i) are).1 in
      record {
        are_bytes = status_is_bytes (status_of (member_of group i) (facts i)) can;
        frame = StatusFrame (status_of (member_of group i) (facts i));
        read = status_read (status_of (member_of group i) (facts i)) can;
        of_group = own_statuses_are_of_the_group (member_of group i) (facts i) is_seat;
        so = record {
          member = are.member;
          reached = each_from (λ d. ltb 0 d.amount) (λ k. record { field = k; amount = delivered (member_of group i) (facts i) k })
              (λ d. d.amount ≤ delivered (member_of group i) (facts i) d.field) 0 group.size (λ k lt reported. omega arith);
        };
      }

  -- a request
  request_is_honest : (k : ℕ) (r : Range) (ranges : List Range) → k < group.size → k ≢ i → ranges_of (missing (member_of group i) (facts i) k) ≡ r ∷ ranges
      → IsHonest group facts (text_of (RequestFrame (record { group = group.number; requester = i; asked = k; ranges = take MOST_RANGES (r ∷ ranges) })))
  unfolding text_of
  request_is_honest k r ranges lt ne is =
      let can = (own_frames_have_texts (member_of group i) (facts i) are).2 k r ranges lt is in
      let fields : RequestFields = record { group = group.number; requester = i; asked = k; ranges = take MOST_RANGES (r ∷ ranges) } in
      let bytes : IsBytes (text_of (RequestFrame (record { group = group.number; requester = i; asked = k; ranges = take MOST_RANGES (r ∷ ranges) }))) =
      one_more_byte request_kind (flat_map spelling (request_numbers fields)) (omega arith) (numbers_are_bytes (request_numbers fields) can.2) in
      record {
        are_bytes = bytes;
        frame = RequestFrame fields;
        read = text_is_read (text_of (RequestFrame fields)) (RequestFrame fields) bytes ((some_text (RequestFrame fields)).1 can);
        of_group = (own_requests_are_of_the_group (member_of group i) k (take MOST_RANGES (r ∷ ranges)) is_seat lt ne).0;
        so = λ e. ne (sym e);
      }

  abbrev GoesOut : Outgoing → Type 0
  GoesOut out = IsHonest group facts out.bytes

  request_goes_out : (k : ℕ) (ranges : List Range) → k < group.size → k ≢ i → ranges_of (missing (member_of group i) (facts i) k) ≡ ranges → AllByRecursion GoesOut (request_to (member_of group i) k ranges)
  request_goes_out k [] lt ne is = tt
  request_goes_out k (r ∷ ranges) lt ne is = (request_is_honest k r ranges lt ne is, tt)

  pub requests_are_honest : AllByRecursion GoesOut (requests (member_of group i) (facts i))
  requests_are_honest =
      all_flat GoesOut (λ k. request_to (member_of group i) k (ranges_of (missing (member_of group i) (facts i) k))) (filter (λ k. not (eqb k i)) (range_with_len 0 group.size)) (λ k there.
      let parts = filter_in (λ k. not (eqb k i)) (range_with_len 0 group.size) k there in
      let lt = range_in 0 group.size k parts.1 in
      request_goes_out k (ranges_of (missing (member_of group i) (facts i) k)) (omega (arith, lt)) (eqb-false k i (not_true (eqb k i) parts.0)) refl)

  -- a help frame: its ranges are those of a request
  pub help_can : (k helper : ℕ) (r : Range) (ranges : List Range) → k < group.size → helper < group.size → ranges_of (missing (member_of group i) (facts i) k) ≡ r ∷ ranges
      → CanBeWritten (HelpFrame (record { group = group.number; requester = i; helper = helper; sender = k; ranges = take MOST_RANGES (r ∷ ranges) }))
  help_can k helper r ranges lt inside is =
      let request = (own_frames_have_texts (member_of group i) (facts i) are).2 k r ranges lt is in
      let few = are.group.size.at_most_sixty_four in (
        record {
          requester = request.0.requester;
          helper = omega (arith, inside, few);
          sender = request.0.asked;
          some = request.0.some;
          few = request.0.few;
          ranges = request.0.ranges;
        },
        omega arith,
        (request.2.0, (request.2.1.0, (omega (arith, inside, few), (request.2.1.1.0, request.2.1.1.1)))),
      )

  help_is_honest : (k helper : ℕ) (r : Range) (ranges : List Range) → k < group.size → k ≢ i → (helper < group.size) × (helper ≢ k) × (helper ≢ i) → ranges_of (missing (member_of group i) (facts i) k) ≡ r ∷ ranges
      → IsHonest group facts (text_of (HelpFrame (record { group = group.number; requester = i; helper = helper; sender = k; ranges = take MOST_RANGES (r ∷ ranges) })))
  unfolding text_of
  help_is_honest k helper r ranges lt ne third is =
      let fields : HelpFields = record { group = group.number; requester = i; helper = helper; sender = k; ranges = take MOST_RANGES (r ∷ ranges) } in
      let inside = third.0 in
      let can = help_can k helper r ranges lt inside is in
      let bytes : IsBytes (text_of (HelpFrame (record { group = group.number; requester = i; helper = helper; sender = k; ranges = take MOST_RANGES (r ∷ ranges) }))) =
      one_more_byte help_kind (flat_map spelling (help_numbers fields)) (omega arith) (numbers_are_bytes (help_numbers fields) can.2) in
      record {
        are_bytes = bytes;
        frame = HelpFrame fields;
        read = text_is_read (text_of (HelpFrame fields)) (HelpFrame fields) bytes ((some_text (HelpFrame fields)).1 can);
        of_group = record {
          number = refl;
          members = and_from (ltb i group.size && ltb helper group.size) (ltb k group.size)
              (and_from (ltb i group.size) (ltb helper group.size) (lt-ltb i group.size are.member) (lt-ltb helper group.size inside)) (lt-ltb k group.size lt);
        };
        so = (λ e. third.2 (sym e), λ e. ne (sym e), third.1);
      }

  -- all that is sent where help is asked for
  pub asking_is_honest : (k : ℕ) → k < group.size → k ≢ i → AllByRecursion GoesOut (frames_sent (HelpAnswer (Ok (help_for (member_of group i) (facts i) k (ranges_of (missing (member_of group i) (facts i) k))))))
  asking_is_honest k lt ne = by_ranges (ranges_of (missing (member_of group i) (facts i) k)) refl
    where
      by_helper : (r : Range) (ranges : List Range) → ranges_of (missing (member_of group i) (facts i) k) ≡ r ∷ ranges → (found : Option ℕ) → helper_for (member_of group i) (facts i) k r.first ≡ found
          → AllByRecursion GoesOut (frames_sent (HelpAnswer (Ok (help_to (member_of group i) k (r ∷ ranges) found))))
      by_helper r ranges is None found = tt
      by_helper r ranges is (Some helper) found = (help_is_honest k helper r ranges lt ne (helper_is_third (member_of group i) (facts i) k r.first helper found) is, tt)

      by_ranges : (ranges : List Range) → ranges_of (missing (member_of group i) (facts i) k) ≡ ranges → AllByRecursion GoesOut (frames_sent (HelpAnswer (Ok (help_for (member_of group i) (facts i) k ranges))))
      by_ranges [] is = tt
      by_ranges (r ∷ ranges) is = by_helper r ranges is (helper_for (member_of group i) (facts i) k r.first) refl

  -- casts that are sent again, own ones and those of others, where each cast that is there is honest
  pub resent_are_honest : ((c : CastFields) → IsIn c (casts_in (facts i)) → IsHonest group facts (text_of (CastFrame c))) → (frame : FrameFields) → AllByRecursion GoesOut (sent_in_answer (member_of group i) (facts i) frame)
  resent_are_honest each (CastFrame c) = tt
  resent_are_honest each (StatusFrame s) = tt
  resent_are_honest each (RequestFrame r) =
      cond_both (eqb r.asked i) _ _ (AllByRecursion GoesOut)
      (λ _. all_map GoesOut (λ c. record { to = Some r.requester; bytes = text_of (CastFrame c) }) (take MOST_FRAMES (filter (is_asked_for r.ranges) (window (member_of group i) (facts i)))) (λ c there.
      let asked = filter_in (is_asked_for r.ranges) (window (member_of group i) (facts i)) c (in_take MOST_FRAMES (filter (is_asked_for r.ranges) (window (member_of group i) (facts i))) c there) in
      each c (own_is_there (facts i) c (filter_in (λ c. ltb (stable (member_of group i) (facts i)) (last_number c)) (own_casts (facts i)) c asked.1).1)))
      (λ _. tt)
  resent_are_honest each (HelpFrame h) =
      cond_both (eqb h.helper i) _ _ (AllByRecursion GoesOut)
      (λ _. all_map GoesOut (λ c. record { to = Some h.requester; bytes = text_of (CastFrame c) }) (take MOST_FRAMES (filter (is_asked_for h.ranges) (handed_on (member_of group i) (facts i) h.sender))) (λ c there.
      let asked = filter_in (is_asked_for h.ranges) (handed_on (member_of group i) (facts i) h.sender) c (in_take MOST_FRAMES (filter (is_asked_for h.ranges) (handed_on (member_of group i) (facts i) h.sender)) c there) in
      each c (handed_on_is_there (member_of group i) (facts i) h.sender c asked.1)))
      (λ _. tt)

-- ---- frames that were sent

read_as : (r : Result FrameFields FrameFault) (c : CastFields) → IsIn c (cast_read r) → r ≡ Ok (CastFrame c)
read_as (Ok (CastFrame d)) c there = ap (λ (x : CastFields). Ok (CastFrame x)) (sym (in_one c d there))
read_as (Ok (StatusFrame s)) c there = absurd there
read_as (Ok (RequestFrame r)) c there = absurd there
read_as (Ok (HelpFrame h)) c there = absurd there
read_as (Err fault) c there = absurd there

-- a cast among sent frames is the reading of one of them
pub sent_frame : (frames : List SentFrame) (c : CastFields) → IsIn c (flat_map (λ frame. cast_read (frame_read frame.bytes)) frames) → (frame : SentFrame) × IsIn frame frames × (frame_read frame.bytes ≡ Ok (CastFrame c))
sent_frame [] c there = absurd there
sent_frame (frame ∷ frames) c there = elim (in_append c (cast_read (frame_read frame.bytes)) (flat_map (λ frame. cast_read (frame_read frame.bytes)) frames) there) [
  | inl here ↦ (frame, inl refl, read_as (frame_read frame.bytes) c here)
  | inr later ↦ let (found, at, read) = sent_frame frames c later in (found, inr at, read)
]

-- honest bytes that are read as a cast are its text
pub honest_text : (group : Parameters) (facts : ℕ → List Fact) (bytes : List ℕ) (f : FrameFields) → IsHonest group facts bytes → frame_read bytes ≡ Ok f → bytes ≡ text_of f
honest_text group facts bytes f honest read = one_text f bytes ((reading_is_exact.text bytes f honest.are_bytes).0 (read_whole bytes f read))

pub sent_is_honest : (group : Parameters) (facts : ℕ → List Fact) (frames : List SentFrame) (c : CastFields) → AllByRecursion (λ frame. IsHonest group facts frame.bytes) frames
    → IsIn c (flat_map (λ frame. cast_read (frame_read frame.bytes)) frames) → IsHonest group facts (text_of (CastFrame c))
sent_is_honest group facts frames c all there =
    let (frame, at, read) = sent_frame frames c there in
    let honest = all_at (λ (frame : SentFrame). IsHonest group facts frame.bytes) frames frame all at in
    subst (IsHonest group facts) (honest_text group facts frame.bytes (CastFrame c) honest read) honest
