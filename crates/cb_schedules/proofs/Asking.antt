-- What a round brings: everybody hears of every cast, and gets what it lacks of the first casts above those that it has expanded.
use Rattle.std.proofs.Common.{◌≡◌, ◌≢◌, ℕ, ◌+◌, ◌<◌, ◌≤◌, Bool, true, false, not, eqb, ltb, List, [], ◌∷◌, map, take, Some, None, Ok, refl, sym, ap, subst, ◌∙◌, arith, inl, inr}
use Rattle.std.specs.List.{filter, range_with_len}
use Rattle.std.proofs.lemmas.Bool.{cases_lt, eq-eqb, ne_eqb, lt-ltb}
use Rattle.cb_frames.specs.declared.frame.TheConstants.{MOST_RANGES, MOST_FRAMES}
use Rattle.cb_frames.specs.declared.frame.Range.{Range}
use Rattle.cb_frames.specs.Fields.{CastFields, StatusFields, RequestFields, CastFrame, StatusFrame, RequestFrame, Carried, messages_of, last_number}
use Rattle.cb_frames.proofs.Carried.{carried_is_of_cast}
use Rattle.cb_frames.specs.Text.{text_of, AreRanges}
use Rattle.cb_history.specs.Read.{frame_read}
use Rattle.cb_frames.proofs.Decoding.{text_is_read}
use Rattle.cb_frames.proofs.Unique.{some_text}
use Rattle.cb_history.specs.declared.answer.Outgoing.{Outgoing}
use Rattle.cb_history.specs.Facts.{EntryFields, facts_of, casts_in, is_there}
use Rattle.cb_history.specs.View.{view}
use Rattle.cb_history.specs.Known.{known, missing, ranges_of, acknowledged_of, stable}
use Rattle.cb_history.specs.Answers.{delivered, own_casts, window, is_asked_for, sent_in_answer, status_of, request_to}
use Rattle.cb_history.specs.ArrivalLaws.{AreThere}
use Rattle.cb_history.specs.GapLaws.{IsMissing}
use Rattle.cb_history.proofs.Views.{IsIn, filter_in, in_filter}
use Rattle.cb_history.proofs.Lists.{each_of}
use Rattle.cb_history.proofs.Keeping.{in_range}
use Rattle.cb_history.proofs.Times.{seen_is_there}
use Rattle.cb_history.proofs.Statuses.{status_says_the_time}
use Rattle.cb_history.proofs.ReadBack.{status_read}
use Rattle.cb_history.proofs.Requests.{own_frames_have_texts}
use Rattle.cb_history.proofs.GapsLater.{lacking_is_above}
use Rattle.cb_history.proofs.Buffers.{cast_of_is_in, in_is_cast_of}
use Rattle.cb_history.proofs.Agreement.{all_at}
use Rattle.cb_history.proofs.Arrivals.{casts_are_of_the_group}
use Rattle.cb_schedules.specs.Schedule.{Setting, seat_at, SentFrame, sent_by, GroupState}
use Rattle.cb_schedules.specs.Messages.{facts_at, sent_casts}
use Rattle.cb_schedules.specs.Honest.{IsHonest}
use Rattle.cb_schedules.specs.Consistent.{IsConsistent}
use Rattle.cb_schedules.specs.RoundLaws.{cast_count, expanded_at}
use Rattle.cb_schedules.proofs.Members.{HasCarrier, stands_at, own_is_there}
use Rattle.cb_schedules.proofs.Moments.{own_cast_of}
use Rattle.cb_schedules.proofs.Sending.{sent_frame, honest_text}
use Rattle.cb_schedules.proofs.Knowing.{stable_is_so, near_is_so}
use Rattle.cb_schedules.proofs.Lists.{in_map, in_flat}
use Rattle.cb_schedules.proofs.Later.{IsLater, later_joins, known_later, acknowledged_later, delivered_later, there_later, expanded_later, cast_count_later}
use Rattle.cb_schedules.proofs.Happening.{other_receives}
use Rattle.cb_schedules.proofs.Covering.{is_in_some, first_ranges_cover, taken_ranges_are, above_least, missing_ranges_are, missing_is_in_some, Rising, numbered_rises, filtered_rises, first_frames_cover, asked_for_is, is_asked}
use Rattle.cb_schedules.proofs.Hearing.{IsHeard, request_is_answered, status_is_heard, cast_is_taken}
use Rattle.cb_schedules.proofs.Waves.{Ticks, Takes, Waves}

-- an own cast is read from its text
pub own_cast_read : (setting : Setting) (s : GroupState) → IsConsistent setting s → (i : ℕ) (c : CastFields) → IsIn c (own_casts (facts_at s i)) → frame_read (text_of (CastFrame c)) ≡ Ok (CastFrame c)
own_cast_read setting s inv i c own =
    let (frame, at, read) = sent_frame s.sent c (cast_of_is_in c (sent_casts s) (inv.sent i c (in_is_cast_of c (own_casts (facts_at s i)) own))) in
    let honest = all_at (λ (frame : SentFrame). IsHonest setting.group (facts_at s) frame.bytes) s.sent frame inv.honest at in
    subst (λ (bytes : List ℕ). frame_read bytes ≡ Ok (CastFrame c)) (honest_text setting.group (facts_at s) frame.bytes (CastFrame c) honest read) read

-- a frame that is an own cast of i, taken by member j, brings each of its messages
pub own_cast_comes : (setting : Setting) (s t now : GroupState) (i j n : ℕ) → i < setting.group.size → j < setting.group.size → IsConsistent setting now → (c : HasCarrier (own_casts (facts_at now i)) i n) (frame : SentFrame)
    → frame.bytes ≡ text_of (CastFrame c.cast) → Takes setting s t frame j → is_there (casts_in (facts_at t j)) i n ≡ true
own_cast_comes setting s t now i j n lt_i lt_j inv_now c frame text b =
    let read = ap frame_read text ∙ own_cast_read setting now inv_now i c.cast c.there in
    let of_group = casts_are_of_the_group (seat_at setting i) (facts_at now i) c.cast (inv_now.together.legal i lt_i) (in_is_cast_of c.cast (casts_in (facts_at now i)) (own_is_there (facts_at now i) c.cast c.there)) in
    let taken = cast_is_taken (seat_at setting j) setting.limit (b.now.histories j) frame.bytes c.cast (b.consistent.together.legal j lt_j) read of_group b.welcome b.room in
    let then_there : AreThere (casts_in (facts_at b.next j)) c.cast = subst (λ (es : List EntryFields). AreThere (casts_in (facts_of es)) c.cast) (sym b.history) taken in
    let here = each_of (λ (m : Carried). is_there (casts_in (facts_at b.next j)) m.sender m.number) (messages_of c.cast) c.found then_there c.has in
    there_later b.next t b.after j i n
    (subst (λ (k : ℕ). is_there (casts_in (facts_at b.next j)) i k ≡ true) c.number_is
    (subst (λ (k : ℕ). is_there (casts_in (facts_at b.next j)) k c.found.number ≡ true) c.sender_is here))

module _ (Lives : ℕ → Type 0) (setting : Setting) (s t : GroupState) (inv : IsConsistent setting s) (w : Waves Lives setting s t) where
  answered_to_end : (next : GroupState) → IsLater next w.answered → IsLater next t
  answered_to_end next later = later_joins next w.answered t later w.to_end

  asking_to_end : (now : GroupState) → IsLater now w.asking → IsLater now t
  asking_to_end now later = answered_to_end now (later_joins now w.asking w.answered later w.to_answered)

  s_to_answered : (now : GroupState) → IsLater w.asking now → IsLater s now
  s_to_answered now later = later_joins s w.asking now w.to_asking later

  -- ---- statuses

  -- what member j hears of member i: how many casts of each member but j, and so how many it made itself; and that it has delivered
  -- so many of each other one
  pub status_comes : (i j : ℕ) → i < setting.group.size → j < setting.group.size → Lives i → Lives j → j ≢ i
      → ((k : ℕ) → k < setting.group.size → k ≢ j → delivered (seat_at setting i) (facts_at s i) k ≤ known (facts_at t j) k)
      × ((k : ℕ) → k < setting.group.size → k ≢ i → delivered (seat_at setting i) (facts_at s i) k ≤ acknowledged_of (seat_at setting j) (facts_at t j) i k)
  status_comes i j lt_i lt_j live_i live_j ne =
      let k = w.ticks i lt_i live_i in
      let said : StatusFields = status_of (seat_at setting i) (facts_at k.now i) in
      let out : Outgoing = record { to = None; bytes = text_of (StatusFrame said) } in
      let a = w.asked (sent_by i out) j (k.sends out (inl refl)) (other_receives setting.group.size i j lt_j ne) lt_j live_j in
      let read = status_read said (own_frames_have_texts (seat_at setting i) (facts_at k.now i) (k.consistent.together.legal i lt_i)).1 in
      let heard = status_is_heard (seat_at setting j) setting.limit (a.now.histories j) (text_of (StatusFrame said)) said read (λ e. ne (sym e)) a.welcome a.room in
      let then_heard : IsHeard (seat_at setting j) said (facts_at a.next j) = subst (λ (es : List EntryFields). IsHeard (seat_at setting j) said (facts_of es)) (sym a.history) heard in
      let to_end = answered_to_end a.next a.after in (
        (λ l lt_l other.
            let value = (status_says_the_time (seat_at setting i) (facts_at k.now i) l).0 lt_l in
            omega (arith, value, then_heard.known l lt_l other, delivered_later s k.now k.before (seat_at setting i) i l, known_later a.next t to_end j l)),
        (λ l lt_l other.
            let value = (status_says_the_time (seat_at setting i) (facts_at k.now i) l).0 lt_l in
            omega (arith, value, then_heard.acknowledged l lt_l other, delivered_later s k.now k.before (seat_at setting i) i l, acknowledged_later a.next t to_end (seat_at setting j) j i l)),
      )

  -- ---- what member j lacks of member i, and has heard of

  module _ (i j n : ℕ) (lt_i : i < setting.group.size) (lt_j : j < setting.group.size) (live_i : Lives i) (live_j : Lives j) (ne : j ≢ i) (low : 1 ≤ n) (cast : n ≤ cast_count setting s i) where
    abbrev Comes : Type 0
    Comes = is_there (casts_in (facts_at t j)) i n ≡ true

    -- at a moment of the round
    was_cast : (now : GroupState) → IsConsistent setting now → IsLater s now → n ≤ cast_count setting now i
    was_cast now inv_now later = let same = cast_count_later setting s now inv inv_now later i lt_i in omega (arith, cast, same)

    delivered_comes : (now : GroupState) → IsConsistent setting now → IsLater now t → n ≤ delivered (seat_at setting j) (facts_at now j) i → Comes
    delivered_comes now inv_now to_end high =
        there_later now t to_end j i n
        (seen_is_there (seat_at setting j) (casts_in (facts_at now j)) (view setting.group.size (facts_at now j)) (own_casts (facts_at now j)) i n (stands_at setting.group (facts_at now) inv_now.together j lt_j) low high)

    -- the cast that has this number, with its sender
    own_cast : (now : GroupState) → IsConsistent setting now → IsLater s now → HasCarrier (own_casts (facts_at now i)) i n
    own_cast now inv_now later =
        let there = seen_is_there (seat_at setting i) (casts_in (facts_at now i)) (view setting.group.size (facts_at now i)) (own_casts (facts_at now i)) i n (stands_at setting.group (facts_at now) inv_now.together i lt_i) low (was_cast now inv_now later) in
        let c = own_cast_of setting.group (facts_at now) inv_now.together i (record { sender = i; number = n }) there in
        record { cast = c.cast; there = c.own; found = c.found; has = c.has; sender_is = c.sender_is; number_is = c.number_is }

    -- a request for ranges from above `begin` that name the number, which is among the first that the answer can have
    module _ (begin : ℕ) (ranges : List Range) (rise : AreRanges (begin + 1) ranges) (names : is_in_some ranges n ≡ true) (near : n ≤ begin + MOST_FRAMES) where
      abbrev asked_fields : RequestFields
      asked_fields = record { group = setting.group.number; requester = j; asked = i; ranges = ranges }

      abbrev asked_casts : GroupState → List CastFields
      asked_casts now = filter (is_asked_for ranges) (window (seat_at setting i) (facts_at now i))

      asked_casts_rise : (now : GroupState) → IsConsistent setting now → Rising 1 (asked_casts now)
      asked_casts_rise now inv_now =
          let stands = stands_at setting.group (facts_at now) inv_now.together i lt_i in
          let own = numbered_rises i 1 (own_casts (facts_at now i)) stands.own_some stands.own_numbers in
          let unstable = filtered_rises (λ c. ltb (stable (seat_at setting i) (facts_at now i)) (last_number c)) 1 (own_casts (facts_at now i)) own in
          filtered_rises (is_asked_for ranges) 1 (window (seat_at setting i) (facts_at now i)) unstable

      -- some message of each is asked for, so that none ends before the ranges begin
      asked_casts_end : (now : GroupState) (c : CastFields) → IsIn c (asked_casts now) → begin + 1 ≤ last_number c
      asked_casts_end now c there =
          let (m, has, asked) = asked_for_is ranges c (filter_in (is_asked_for ranges) (window (seat_at setting i) (facts_at now i)) c there).0 in
          let least = above_least (begin + 1) m.number ranges rise asked in
          let high = (carried_is_of_cast c m has).high in
          omega (arith, least, high)

      -- the answer has it, if its sender does not know that it is stable
      is_among_the_first : (now : GroupState) (c : HasCarrier (own_casts (facts_at now i)) i n) → IsConsistent setting now → stable (seat_at setting i) (facts_at now i) < n
          → IsIn c.cast (take MOST_FRAMES (asked_casts now))
      is_among_the_first now c inv_now above =
          let of = carried_is_of_cast c.cast c.found c.has in
          let first = of.low in
          let last = of.high in
          let number = c.number_is in
          let kept = in_filter (λ c. ltb (stable (seat_at setting i) (facts_at now i)) (last_number c)) (own_casts (facts_at now i)) c.cast (lt-ltb (stable (seat_at setting i) (facts_at now i)) (last_number c.cast) (omega (arith, number, last, above))) c.there in
          let asked = is_asked ranges c.cast c.found c.has (subst (λ (k : ℕ). is_in_some ranges k ≡ true) (sym number) names) in
          let least = above_least (begin + 1) n ranges rise names in
          first_frames_cover MOST_FRAMES 1 (begin + 1) n (asked_casts now) c.cast (asked_casts_rise now inv_now) (asked_casts_end now)
          (in_filter (is_asked_for ranges) (window (seat_at setting i) (facts_at now i)) c.cast asked kept) (omega (arith, first, number)) least (omega (arith, near))

      request_brings : frame_read (text_of (RequestFrame asked_fields)) ≡ Ok (RequestFrame asked_fields)
          → Takes setting w.asking w.answered (sent_by j (record { to = Some i; bytes = text_of (RequestFrame asked_fields) })) i → Comes
      request_brings read a = elim (cases_lt (stable (seat_at setting i) (facts_at a.now i)) n) [
        | inr below ↦
            let at_asker = stable_is_so setting.group (facts_at a.now) a.consistent.together i j lt_i lt_j ne in
            delivered_comes a.now a.consistent (answered_to_end a.now a.rest) (omega (arith, below, at_asker))
        | inl above ↦
            let c = own_cast a.now a.consistent (s_to_answered a.now a.before) in
            let out : Outgoing = record { to = Some j; bytes = text_of (CastFrame c.cast) } in
            let first = is_among_the_first a.now c a.consistent above in
            let puts = request_is_answered (seat_at setting i) setting.limit (a.now.histories i) (text_of (RequestFrame asked_fields)) asked_fields read a.welcome in
            let all : sent_in_answer (seat_at setting i) (facts_at a.now i) (RequestFrame asked_fields) ≡ map (λ c. record { to = Some j; bytes = text_of (CastFrame c) }) (take MOST_FRAMES (asked_casts a.now)) = rw (eq-eqb i i refl) refl in
            let there = in_map (λ c. record { to = Some j; bytes = text_of (CastFrame c) }) (take MOST_FRAMES (asked_casts a.now)) c.cast first in
            own_cast_comes setting w.answered t a.now i j n lt_i lt_j a.consistent c (sent_by i out) refl (w.taken (sent_by i out) j (a.sends out (subst (IsIn out) (sym (puts ∙ all)) there)) (inl refl) lt_j live_j)
      ]

    -- so it comes where it is lacking at j's tick
    module _ (heard : n ≤ known (facts_at s j) i) (near : n ≤ expanded_at s j i + MOST_FRAMES) where
      lacking_comes : (k : Ticks setting s w.asking j) → is_there (casts_in (facts_at k.now j)) i n ≡ false → (ranges : List Range) → ranges_of (missing (seat_at setting j) (facts_at k.now j) i) ≡ ranges → Comes
      unfolding text_of
      lacking_comes k lacks ranges is =
          let facts = facts_at k.now j in
          let are = k.consistent.together.legal j lt_j in
          let close = near_is_so setting.group (facts_at k.now) k.consistent.together i j lt_i lt_j in
          let lacking : IsMissing (seat_at setting j) facts i n = record {
            above = lacking_is_above (casts_in facts) i n low lacks;
            heard_of = omega (arith, heard, known_later s k.now k.before j i);
            in_window = omega (arith, close, was_cast k.now k.consistent k.before);
            not_there = lacks;
          } in
          let some : is_in_some ranges n ≡ true = subst (λ (rs : List Range). is_in_some rs n ≡ true) is (missing_is_in_some (seat_at setting j) facts i are n lacking) in
          let rise = subst (AreRanges (expanded_at k.now j i + 1)) is (missing_ranges_are (seat_at setting j) facts i are) in
          let more = expanded_later s k.now k.before j i in
          asks ranges is some rise (omega (arith, near, more))
        where
          asks : (ranges : List Range) → ranges_of (missing (seat_at setting j) (facts_at k.now j) i) ≡ ranges → is_in_some ranges n ≡ true
              → AreRanges (expanded_at k.now j i + 1) ranges → n ≤ expanded_at k.now j i + MOST_FRAMES → Comes
          asks [] is some rise near = absurd cc
          asks (r ∷ ranges) is some rise near =
              let first = take MOST_RANGES (r ∷ ranges) in
              let q : RequestFields = record { group = setting.group.number; requester = j; asked = i; ranges = take MOST_RANGES (r ∷ ranges) } in
              let out : Outgoing = record { to = Some i; bytes = text_of (RequestFrame q) } in
              let here : IsIn out (request_to (seat_at setting j) i (ranges_of (missing (seat_at setting j) (facts_at k.now j) i))) = subst (λ (rs : List Range). IsIn out (request_to (seat_at setting j) i rs)) (sym is) (inl refl) in
              let other = in_filter (λ k. not (eqb k j)) (range_with_len 0 setting.group.size) i (rw (ne_eqb i j (λ e. ne (sym e))) refl) (in_range 0 setting.group.size i (omega arith) (omega (arith, lt_i))) in
              let there = in_flat (λ l. request_to (seat_at setting j) l (ranges_of (missing (seat_at setting j) (facts_at k.now j) l))) (filter (λ k. not (eqb k j)) (range_with_len 0 setting.group.size)) i out other here in
              let a = w.asked (sent_by j out) i (k.sends out (inr there)) (inl refl) lt_i live_i in
              let can = (own_frames_have_texts (seat_at setting j) (facts_at k.now j) (k.consistent.together.legal j lt_j)).2 i r ranges lt_i is in
              let read = text_is_read (text_of (RequestFrame q)) (RequestFrame q) a.honest.are_bytes ((some_text (RequestFrame q)).1 can) in
              request_brings (expanded_at k.now j i) first (taken_ranges_are MOST_RANGES (expanded_at k.now j i + 1) (r ∷ ranges) rise)
              (first_ranges_cover MOST_RANGES (expanded_at k.now j i) n (r ∷ ranges) rise some (omega (arith, near))) near read a

      pub cast_comes : is_there (casts_in (facts_at t j)) i n ≡ true
      cast_comes =
          let k = w.ticks j lt_j live_j in
          decided k (is_there (casts_in (facts_at k.now j)) i n) refl
        where
          decided : (k : Ticks setting s w.asking j) (b : Bool) → is_there (casts_in (facts_at k.now j)) i n ≡ b → is_there (casts_in (facts_at t j)) i n ≡ true
          decided k true there = there_later k.now t (asking_to_end k.now k.rest) j i n there
          decided k false lacks = lacking_comes k lacks (ranges_of (missing (seat_at setting j) (facts_at k.now j) i)) refl
