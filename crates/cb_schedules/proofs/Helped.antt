-- What help brings: the first message of the silent member that one of the others lacks, where another of them has delivered it.
use Rattle.std.proofs.Common.{◌≡◌, ◌≢◌, ℕ, ◌+◌, ◌<◌, ◌≤◌, Bool, true, false, List, [], ◌∷◌, map, take, Some, Ok, refl, sym, ap, subst, ◌∙◌, arith, inl, inr}
use Rattle.std.specs.List.{filter}
use Rattle.std.proofs.lemmas.Bool.{cases_lt, cases_eq, eq-eqb}
use Rattle.cb_frames.specs.declared.frame.TheConstants.{MOST_RANGES, MOST_FRAMES}
use Rattle.cb_frames.specs.declared.frame.Range.{Range}
use Rattle.cb_frames.specs.Fields.{CastFields, HelpFields, CastFrame, HelpFrame, last_number}
use Rattle.cb_frames.specs.Text.{text_of, AreRanges}
use Rattle.cb_frames.proofs.Carried.{carried_is_of_cast}
use Rattle.cb_frames.proofs.Decoding.{text_is_read}
use Rattle.cb_frames.proofs.Unique.{some_text}
use Rattle.cb_history.specs.Read.{frame_read}
use Rattle.cb_history.specs.declared.answer.Outgoing.{Outgoing}
use Rattle.cb_history.specs.Facts.{casts_in, is_there}
use Rattle.cb_history.specs.View.{view}
use Rattle.cb_history.specs.Known.{known, missing, ranges_of, acknowledged_of}
use Rattle.cb_history.specs.Helping.{handed_on, helper_for, help_to, help_for, help_answer}
use Rattle.cb_history.specs.Answers.{delivered, own_casts, is_asked_for, sent_in_answer}
use Rattle.cb_history.proofs.Views.{IsIn, filter_in, in_filter}
use Rattle.cb_history.proofs.Times.{seen_is_there}
use Rattle.cb_history.proofs.GapsLater.{lacking_is_above}
use Rattle.cb_schedules.specs.Schedule.{Setting, seat_at, HelpAnswer, frames_sent, sent_by, GroupState}
use Rattle.cb_schedules.specs.Messages.{facts_at}
use Rattle.cb_schedules.specs.Consistent.{IsConsistent}
use Rattle.cb_schedules.specs.RoundLaws.{expanded_at}
use Rattle.cb_schedules.proofs.Lists.{in_map}
use Rattle.cb_schedules.proofs.Members.{stands_at, delivered_at_most}
use Rattle.cb_schedules.proofs.Handing.{helper_is_third, helper_is_found}
use Rattle.cb_schedules.proofs.Sending.{help_can}
use Rattle.cb_schedules.proofs.Knowing.{acknowledged_of_is_so, near_is_so}
use Rattle.cb_schedules.proofs.Lacking.{lacked_is_handed_on, handed_on_rise}
use Rattle.cb_schedules.proofs.Later.{IsLater, later_joins, known_later, acknowledged_later, delivered_later, there_later, expanded_later}
use Rattle.cb_schedules.proofs.Covering.{is_in_some, first_ranges_cover, taken_ranges_are, above_least, begins_at_least, missing_ranges_are, missing_is_in_some, Rising, filtered_rises, first_frames_cover, asked_for_is, is_asked}
use Rattle.cb_schedules.proofs.Hearing.{help_is_answered, help_puts_out}
use Rattle.cb_schedules.proofs.Waves.{Takes}
use Rattle.cb_schedules.proofs.Asking.{own_cast_comes, status_comes}
use Rattle.cb_schedules.proofs.HelpWaves.{Lives, Asks, HelpWaves}

module _ (silent : ℕ) (setting : Setting) (s t : GroupState) (inv : IsConsistent setting s) (w : HelpWaves silent setting s t) where
  answered_to_end : (now : GroupState) → IsLater now w.answered → IsLater now t
  answered_to_end now later = later_joins now w.answered t later w.to_end

  asked_to_end : (now : GroupState) → IsLater now w.asked → IsLater now t
  asked_to_end now later = answered_to_end now (later_joins now w.asked w.answered later w.to_answered)

  pub help_round_is_later : IsLater s t
  help_round_is_later = later_joins s w.supplied t w.to_supplied (asked_to_end w.supplied w.to_asked)

  -- message n of the silent member, which member j has expanded up to it
  module _ (j n : ℕ) (lt_i : silent < setting.group.size) (lt_j : j < setting.group.size) (live_j : Lives silent j) (low : 1 ≤ n) (next : n ≤ expanded_at s j silent + 1) where
    abbrev Comes : Type 0
    Comes = is_there (casts_in (facts_at t j)) silent n ≡ true

    delivered_comes : (now : GroupState) → IsConsistent setting now → IsLater now t → n ≤ delivered (seat_at setting j) (facts_at now j) silent → Comes
    delivered_comes now inv_now to_end high =
        there_later now t to_end j silent n
        (seen_is_there (seat_at setting j) (casts_in (facts_at now j)) (view setting.group.size (facts_at now j)) (own_casts (facts_at now j)) silent n (stands_at setting.group (facts_at now) inv_now.together j lt_j) low high)

    -- a help frame of j to member l, which has delivered it, for ranges that begin with it
    module _ (l : ℕ) (ranges : List Range) (lt_l : l < setting.group.size) (live_l : Lives silent l) (rise : AreRanges n ranges) (names : is_in_some ranges n ≡ true) where
      abbrev help_fields : HelpFields
      help_fields = record { group = setting.group.number; requester = j; helper = l; sender = silent; ranges = ranges }

      abbrev asked_casts : GroupState → List CastFields
      asked_casts now = filter (is_asked_for ranges) (handed_on (seat_at setting l) (facts_at now l) silent)

      asked_casts_rise : (now : GroupState) → IsConsistent setting now → Rising (0 + 1) (asked_casts now)
      asked_casts_rise now inv_now =
          let stands = stands_at setting.group (facts_at now) inv_now.together l lt_l in
          filtered_rises (is_asked_for ranges) (0 + 1) (handed_on (seat_at setting l) (facts_at now l) silent) (handed_on_rise (seat_at setting l) (facts_at now l) silent stands.some stands.names)

      asked_casts_end : (now : GroupState) (c : CastFields) → IsIn c (asked_casts now) → n ≤ last_number c
      asked_casts_end now c there =
          let (m, has, asked) = asked_for_is ranges c (filter_in (is_asked_for ranges) (handed_on (seat_at setting l) (facts_at now l) silent) c there).0 in
          let least = above_least n m.number ranges rise asked in
          let high = (carried_is_of_cast c m has).high in
          omega (arith, least, high)

      help_brings : frame_read (text_of (HelpFrame help_fields)) ≡ Ok (HelpFrame help_fields)
          → (a : Takes setting w.asked w.answered (sent_by j (record { to = Some l; bytes = text_of (HelpFrame help_fields) })) l) → n ≤ delivered (seat_at setting l) (facts_at a.now l) silent → Comes
      help_brings read a has = elim (cases_lt (delivered (seat_at setting j) (facts_at a.now j) silent) n) [
        | inr below ↦ delivered_comes a.now a.consistent (answered_to_end a.now a.rest) below
        | inl lacks ↦
            let (c, handed) = lacked_is_handed_on setting a.now a.consistent silent j l n lt_i lt_j lt_l live_l has lacks in
            let first = c.low in
            let asked = is_asked ranges c.cast c.found c.has (subst (λ (k : ℕ). is_in_some ranges k ≡ true) (sym c.number_is) names) in
            let among = first_frames_cover MOST_FRAMES (0 + 1) n n (asked_casts a.now) c.cast (asked_casts_rise a.now a.consistent) (asked_casts_end a.now)
            (in_filter (is_asked_for ranges) (handed_on (seat_at setting l) (facts_at a.now l) silent) c.cast asked handed) first (omega arith) (omega arith) in
            let out : Outgoing = record { to = Some j; bytes = text_of (CastFrame c.cast) } in
            let puts = help_is_answered (seat_at setting l) setting.limit (a.now.histories l) (text_of (HelpFrame help_fields)) help_fields read a.welcome in
            let all : sent_in_answer (seat_at setting l) (facts_at a.now l) (HelpFrame help_fields) ≡ map (λ c. record { to = Some j; bytes = text_of (CastFrame c) }) (take MOST_FRAMES (asked_casts a.now)) = rw (eq-eqb l l refl) refl in
            let there = in_map (λ c. record { to = Some j; bytes = text_of (CastFrame c) }) (take MOST_FRAMES (asked_casts a.now)) c.cast among in
            own_cast_comes setting w.answered t a.now silent j n lt_i lt_j a.consistent
            (record { cast = c.cast; there = c.own; found = c.found; has = c.has; sender_is = c.sender_is; number_is = c.number_is })
            (sent_by l out) refl (w.taken (sent_by l out) j (a.sends out (subst (IsIn out) (sym (puts ∙ all)) there)) (inl refl) lt_j live_j)
      ]

    -- where j still lacks it when it asks for help, and knows that member k has delivered it
    module _ (k : ℕ) (lt_k : k < setting.group.size) (live_k : Lives silent k) (other : k ≢ j) (a : Asks setting w.supplied w.asked j silent)
        (lacks : is_there (casts_in (facts_at a.now j)) silent n ≡ false) (heard : n ≤ known (facts_at a.now j) silent)
        (knows : n ≤ acknowledged_of (seat_at setting j) (facts_at a.now j) k silent) where
      abbrev asked_ranges : List Range
      asked_ranges = ranges_of (missing (seat_at setting j) (facts_at a.now j) silent)

      is_next : expanded_at a.now j silent + 1 ≡ n
      is_next =
          let above = lacking_is_above (casts_in (facts_at a.now j)) silent n low lacks in
          let more = expanded_later s a.now (later_joins s w.supplied a.now w.to_supplied a.before) j silent in
          omega (arith, above, more, next)

      names_it : is_in_some asked_ranges n ≡ true
      names_it =
          let h = a.consistent.together in
          let close = near_is_so setting.group (facts_at a.now) h silent j lt_i lt_j in
          let there = acknowledged_of_is_so setting.group (facts_at a.now) h j k silent lt_j lt_i in
          let cast = delivered_at_most setting.group (facts_at a.now) h k silent lt_k lt_i in
          missing_is_in_some (seat_at setting j) (facts_at a.now j) silent (h.legal j lt_j) n (record {
            above = lacking_is_above (casts_in (facts_at a.now j)) silent n low lacks;
            heard_of = heard;
            in_window = omega (arith, close, there, cast, knows);
            not_there = lacks;
          })

      they_rise : AreRanges n asked_ranges
      they_rise = subst (λ (m : ℕ). AreRanges m asked_ranges) is_next (missing_ranges_are (seat_at setting j) (facts_at a.now j) silent (a.consistent.together.legal j lt_j))

      -- it asks a member for it that has delivered it
      helper_brings : (l : ℕ) (r : Range) (ranges : List Range) → asked_ranges ≡ r ∷ ranges → helper_for (seat_at setting j) (facts_at a.now j) silent r.first ≡ Some l
          → n ≤ acknowledged_of (seat_at setting j) (facts_at a.now j) l silent → Comes
      unfolding text_of
      helper_brings l r ranges are found has =
          let (lt_l, live_l, third) = helper_is_third (seat_at setting j) (facts_at a.now j) silent r.first l found in
          let first = take MOST_RANGES (r ∷ ranges) in
          let h : HelpFields = record { group = setting.group.number; requester = j; helper = l; sender = silent; ranges = take MOST_RANGES (r ∷ ranges) } in
          let out : Outgoing = record { to = Some l; bytes = text_of (HelpFrame h) } in
          let sends : help_for (seat_at setting j) (facts_at a.now j) silent asked_ranges ≡ Some out =
          ap (help_for (seat_at setting j) (facts_at a.now j) silent) are ∙ ap (help_to (seat_at setting j) silent (r ∷ ranges)) found in
          let puts = help_puts_out (seat_at setting j) (a.now.histories j) silent lt_i (λ e. live_j (sym e)) in
          let there : IsIn out (frames_sent (HelpAnswer (help_answer (seat_at setting j) (a.now.histories j) silent))) =
          subst (λ r. IsIn out (frames_sent (HelpAnswer r))) (sym (puts ∙ ap Ok sends)) (inl refl) in
          let b = w.helped (sent_by j out) l (a.sends out there) (inl refl) lt_l live_l in
          let can = help_can setting.group (facts_at a.now) j (a.consistent.together.legal j lt_j) silent l r ranges lt_i lt_l are in
          let read = text_is_read (text_of (HelpFrame h)) (HelpFrame h) b.honest.are_bytes ((some_text (HelpFrame h)).1 can) in
          let rise = subst (AreRanges n) are they_rise in
          let some = subst (λ (rs : List Range). is_in_some rs n ≡ true) are names_it in
          let begun = is_next in
          let covered = first_ranges_cover MOST_RANGES (expanded_at a.now j silent) n (r ∷ ranges) (subst (λ (m : ℕ). AreRanges m (r ∷ ranges)) (sym is_next) rise) some (omega (arith, begun)) in
          let so = acknowledged_of_is_so setting.group (facts_at a.now) a.consistent.together j l silent lt_j lt_i in
          let still = delivered_later a.now b.now (later_joins a.now w.asked b.now a.rest b.before) (seat_at setting l) l silent in
          help_brings l first lt_l live_l (taken_ranges_are MOST_RANGES n (r ∷ ranges) rise) covered read b (omega (arith, has, so, still))

      lacking_comes : (ranges : List Range) → asked_ranges ≡ ranges → Comes
      lacking_comes [] none = let some : is_in_some [] n ≡ true = subst (λ (rs : List Range). is_in_some rs n ≡ true) none names_it in absurd cc
      lacking_comes (r ∷ ranges) are =
          let first = begins_at_least n r ranges (subst (AreRanges n) are they_rise) (subst (λ (rs : List Range). is_in_some rs n ≡ true) are names_it) in
          let (l, found, has) = helper_is_found (seat_at setting j) (facts_at a.now j) silent r.first k lt_k live_k other (omega (arith, first, knows)) in
          helper_brings l r ranges are found (omega (arith, first, has))

    -- so it comes
    pub help_comes : (k : ℕ) → k < setting.group.size → Lives silent k → n ≤ delivered (seat_at setting k) (facts_at s k) silent → is_there (casts_in (facts_at t j)) silent n ≡ true
    help_comes k lt_k live_k has = elim (cases_eq k j) [
      | inl same ↦ delivered_comes s inv help_round_is_later (subst (λ (l : ℕ). n ≤ delivered (seat_at setting l) (facts_at s l) silent) same has)
      | inr other ↦ by_another other
    ]
      where
        by_another : k ≢ j → Comes
        by_another other = decided (is_there (casts_in (facts_at a.now j)) silent n) refl
          where
            a : Asks setting w.supplied w.asked j silent
            a = w.asks j silent lt_j lt_i live_j (λ e. live_j (sym e))

            decided : (b : Bool) → is_there (casts_in (facts_at a.now j)) silent n ≡ b → Comes
            decided true there = there_later a.now t (asked_to_end a.now a.rest) j silent n there
            decided false lacks =
                let told = status_comes (Lives silent) setting s w.supplied inv w.waves k j lt_k lt_j live_k live_j (λ e. other (sym e)) in
                let of_it = told.0 silent lt_i (λ e. live_j (sym e)) in
                let by_it = told.1 silent lt_i (λ e. live_k (sym e)) in
                lacking_comes k lt_k live_k other a lacks (omega (arith, has, of_it, known_later w.supplied a.now a.before j silent))
                (omega (arith, has, by_it, acknowledged_later w.supplied a.now a.before (seat_at setting j) j k silent))
                (ranges_of (missing (seat_at setting j) (facts_at a.now j) silent)) refl
