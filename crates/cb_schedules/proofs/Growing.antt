-- One member's history gets one fact more: what the others rely on stays so.
use Rattle.std.proofs.Common.{◌≡◌, ◌≢◌, ℕ, ◌+◌, ◌<◌, ◌≤◌, true, List, [], ◌∷◌, ◌++◌, None, refl, sym, ap, subst, ◌∙◌, arith, inl, inr}
use Rattle.std.specs.List.{AllByRecursion}
use Rattle.std.proofs.lemmas.Bool.{cases_eq, false_from_ne_true}
use Rattle.std.proofs.lemmas.List.{append-nil}
use Rattle.cb_frames.specs.declared.frame.Change.{Change}
use Rattle.cb_frames.specs.Fields.{CastFields, StatusFields, FrameFields, CastFrame, StatusFrame, RequestFrame, HelpFrame, Carried, first_number}
use Rattle.cb_frames.proofs.Carried.{carried_is_of_cast}
use Rattle.cb_causality.specs.Lists.{Appends}
use Rattle.cb_history.specs.Group.{Parameters}
use Rattle.cb_history.specs.Facts.{Fact, OwnCast, CastReceived, StatusReceived, OwnStatus, casts_in, cast_in, messages_in}
use Rattle.cb_history.specs.View.{view, drain, is_expanded, expanded_in, is_ready, next_delivery}
use Rattle.cb_history.specs.Known.{expanded_count}
use Rattle.cb_history.specs.Answers.{delivered, own_casts}
use Rattle.cb_history.specs.LegalFacts.{AreFactsOf}
use Rattle.cb_history.specs.BufferLaws.{IsCastOf}
use Rattle.cb_history.proofs.Views.{IsIn, filter_in, casts_in-append, nothing_ready_is_left, ready_is_new, in_filter}
use Rattle.cb_history.proofs.Lists.{in_front, in_back, in_casts_push}
use Rattle.cb_history.proofs.Walks.{view_received, view_status, view_reported, own_casts-own, own_casts-other}
use Rattle.cb_history.proofs.Names.{all_stand, one_of_is_in, in_is_one_of}
use Rattle.cb_history.proofs.Times.{count_grows, own_first}
use Rattle.cb_history.proofs.Prefixes.{last_fact_is_a_step}
use Rattle.cb_history.proofs.Delivering.{nothing_is_next}
use Rattle.cb_history.proofs.Happening.{own_cast_makes_ready}
use Rattle.cb_history.proofs.Runs.{expanded_up_to_the_count, others_expand_nothing}
use Rattle.cb_history.proofs.Buffers.{cast_of_is_in, in_is_cast_of}
use Rattle.cb_schedules.specs.Honest.{member_of, IsReported, SaysWhatIsSo, IsSo, IsHonest, AreTogether}
use Rattle.cb_schedules.proofs.Members.{reported_at_most}
use Rattle.cb_schedules.proofs.Lists.{all_weaken, all_one_more}

-- ---- one fact more

own_more : (facts : List Fact) (f : Fact) (c : CastFields) → IsIn c (own_casts facts) → IsIn c (own_casts (facts ++ f ∷ []))
own_more facts (OwnCast d) c there = subst (IsIn c) (sym (own_casts-own facts d)) (in_front c (own_casts facts) (d ∷ []) there)
own_more facts (CastReceived d) c there = subst (IsIn c) (sym (own_casts-other facts (CastReceived d) tt)) there
own_more facts (StatusReceived s) c there = subst (IsIn c) (sym (own_casts-other facts (StatusReceived s) tt)) there
own_more facts (OwnStatus s) c there = subst (IsIn c) (sym (own_casts-other facts (OwnStatus s) tt)) there

module _ (group : Parameters) (facts after : ℕ → List Fact) (j : ℕ) (f : Fact) (app : Appends facts after j f) where
  -- what is so of member j with the fact, and of each other as it was, is so of each member after it
  pub by_member : (P : ℕ → List Fact → Type 0) → P j (facts j ++ f ∷ []) → ((k : ℕ) → k ≢ j → P k (facts k)) → (k : ℕ) → P k (after k)
  by_member P here there k = elim (cases_eq k j) [
    | inl e ↦ subst (λ (i : ℕ). P i (after i)) (sym e) (subst (P j) (sym app.own) here)
    | inr ne ↦ subst (P k) (sym (app.others k ne)) (there k ne)
  ]

  pub own_stays : (i : ℕ) (c : CastFields) → IsIn c (own_casts (facts i)) → IsIn c (own_casts (after i))
  own_stays i c = by_member (λ k fs. IsIn c (own_casts (facts k)) → IsIn c (own_casts fs)) (own_more (facts j) f c) (λ k ne there. there) i

  pub delivered_stays : (i k : ℕ) → delivered (member_of group i) (facts i) k ≤ delivered (member_of group i) (after i) k
  delivered_stays i k = by_member (λ i fs. delivered (member_of group i) (facts i) k ≤ delivered (member_of group i) fs k) (count_grows group.size (facts j) f k) (λ i ne. omega arith) i

  pub cast_stays : (i : ℕ) (c : CastFields) → IsCastOf c (own_casts (facts i)) → IsCastOf c (own_casts (after i))
  cast_stays i c there = in_is_cast_of c (own_casts (after i)) (own_stays i c (cast_of_is_in c (own_casts (facts i)) there))

  pub reported_stays : (s : StatusFields) → IsReported group facts s → IsReported group after s
  reported_stays s reported = record {
    member = reported.member;
    reached = all_weaken (λ (d : Change). d.amount ≤ delivered (member_of group s.sender) (facts s.sender) d.field) (λ (d : Change). d.amount ≤ delivered (member_of group s.sender) (after s.sender) d.field) s.values
        (λ d le. let more = delivered_stays s.sender d.field in omega (arith, le, more)) reported.reached;
  }

  pub says_stays : (frame : FrameFields) → SaysWhatIsSo group facts frame → SaysWhatIsSo group after frame
  says_stays (CastFrame c) so = cast_stays c.sender c so
  says_stays (StatusFrame s) so = reported_stays s so
  says_stays (RequestFrame r) so = so
  says_stays (HelpFrame h) so = so

  pub honest_stays : (bytes : List ℕ) → IsHonest group facts bytes → IsHonest group after bytes
  honest_stays bytes honest = record {
    are_bytes = honest.are_bytes;
    frame = honest.frame;
    read = honest.read;
    of_group = honest.of_group;
    so = says_stays honest.frame honest.so;
  }

  pub so_stays : (g : Fact) → IsSo group facts g → IsSo group after g
  so_stays (OwnCast c) so = cast_stays c.sender c so
  so_stays (CastReceived c) so = cast_stays c.sender c so
  so_stays (StatusReceived s) so = reported_stays s so
  so_stays (OwnStatus s) so = so

  -- an own cast is one of its sender's
  pub own_is_so : (c : CastFields) → c.sender ≡ j → f ≡ OwnCast c → IsCastOf c (own_casts (after c.sender))
  own_is_so c sender is =
      subst (λ (i : ℕ). IsCastOf c (own_casts (after i))) (sym sender) (in_is_cast_of c (own_casts (after j))
      (subst (λ (fs : List Fact). IsIn c (own_casts fs)) (sym (app.own ∙ ap (λ (g : Fact). facts j ++ g ∷ []) is))
      (subst (IsIn c) (sym (own_casts-own (facts j) c)) (in_back c (own_casts (facts j)) (c ∷ []) (inl refl)))))

  pub all_so : ((k : ℕ) → AllByRecursion (IsSo group facts) (facts k)) → IsSo group after f → (k : ℕ) → AllByRecursion (IsSo group after) (after k)
  all_so so new = by_member (λ k fs. AllByRecursion (IsSo group after) fs)
      (all_one_more (IsSo group after) (facts j) f (all_weaken (IsSo group facts) (IsSo group after) (facts j) so_stays (so j)) new)
      (λ k ne. all_weaken (IsSo group facts) (IsSo group after) (facts k) so_stays (so k))

  pub all_legal : ((k : ℕ) → k < group.size → AreFactsOf (member_of group k) (facts k)) → AreFactsOf (member_of group j) (facts j ++ f ∷ []) → (k : ℕ) → k < group.size → AreFactsOf (member_of group k) (after k)
  all_legal legal new = by_member (λ k fs. k < group.size → AreFactsOf (member_of group k) fs) (λ _. new) (λ k ne. legal k)

  pub still_nobody : j < group.size → ((k : ℕ) → group.size ≤ k → facts k ≡ []) → (k : ℕ) → group.size ≤ k → after k ≡ []
  still_nobody inside nobody = by_member (λ k fs. group.size ≤ k → fs ≡ []) (λ le. absurd (omega (arith, inside, le))) (λ k ne. nobody k)

-- ---- nothing ready is left

abbrev IsSettled : ℕ → List Fact → Type 0
IsSettled size facts = next_delivery size (casts_in facts) (view size facts) ≡ None

-- an own message is no delivery
own_is_not_ready : (group : Parameters) (j : ℕ) (facts : List Fact) (m : Carried) → AreFactsOf (member_of group j) facts → IsIn m (messages_in (casts_in facts)) → m.sender ≡ j
    → is_ready group.size (casts_in facts) (view group.size facts) m ≡ true → ⊥
own_is_not_ready group j facts m are there sender ready =
    let s = all_stand (member_of group j) facts are.member are.facts_are in
    let seen = s.own_seen m there sender in
    let new = ready_is_new group.size (casts_in facts) (view group.size facts) m ready in
    cc

module _ (group : Parameters) (facts : ℕ → List Fact) (h : AreTogether group facts) (j : ℕ) (c : CastFields)
    (are : AreFactsOf (member_of group j) (facts j ++ OwnCast c ∷ [])) where
  abbrev now : List Fact
  now = facts j ++ OwnCast c ∷ []

  push : casts_in now ≡ casts_in (facts j) ++ c ∷ []
  push = casts_in-append (facts j) (OwnCast c)

  is_next : (c.sender ≡ j) × (first_number c ≡ delivered (member_of group j) (facts j) j + 1)
  is_next =
      let step = last_fact_is_a_step (member_of group j) (facts j) (OwnCast c) are in
      (ap (λ (x : CastFields). x.sender) step.next, own_first (member_of group j) (facts j) c (all_stand (member_of group j) now are.member are.facts_are))

  -- a message of another that can be expanded now could be before
  expanded_before : (m : Carried) → m.sender ≢ j → is_expanded (casts_in now) m ≡ true → is_expanded (casts_in (facts j)) m ≡ true
  expanded_before m other expanded =
      let high = (expanded_up_to_the_count (casts_in now) m).0 expanded in
      let same = ap (λ (cs : List CastFields). expanded_count cs m.sender) push ∙ others_expand_nothing (casts_in (facts j)) c m.sender (λ e. other (sym e ∙ is_next.0)) in
      (expanded_up_to_the_count (casts_in (facts j)) m).1 (omega (arith, high, same))

  there_before : (m : Carried) → m.sender ≢ j → IsIn m (messages_in (casts_in now)) → IsIn m (messages_in (casts_in (facts j)))
  there_before m other there =
      elim (in_casts_push (casts_in (facts j)) c m (subst (λ (cs : List CastFields). IsIn m (messages_in cs)) push there)) [
        | inl old ↦ old
        | inr new ↦ absurd (other ((carried_is_of_cast c m new).sender_is ∙ is_next.0))
      ]

  never_ready : (m : Carried) → IsIn m (expanded_in (casts_in now)) → is_ready group.size (casts_in now) (view group.size now) m ≡ true → ⊥
  never_ready m there ready =
      let parts = filter_in (is_expanded (casts_in now)) (messages_in (casts_in now)) m there in
      elim (cases_eq m.sender j) [
        | inl own ↦ own_is_not_ready group j now m are parts.1 own ready
        | inr other ↦
            let expanded = expanded_before m other parts.0 in
            let old = there_before m other parts.1 in
            let in_old = in_filter (is_expanded (casts_in (facts j))) (messages_in (casts_in (facts j))) m expanded old in
            let one = in_is_one_of m (expanded_in (casts_in (facts j))) in_old in
            let not_ready = (nothing_is_next group.size (casts_in (facts j)) (view group.size (facts j))).0 (h.settled j) m one in
            let reported = own_cast_makes_ready (member_of group j) (facts j) c m are one not_ready ready in
            let most = reported_at_most group facts h j m j are.member old expanded in
            let number = is_next.1 in
            omega (arith, reported.0, most, number)
      ]

  pub settled_by_own : IsSettled group.size now
  settled_by_own = (nothing_is_next group.size (casts_in now) (view group.size now)).1
      (λ m one. false_from_ne_true (is_ready group.size (casts_in now) (view group.size now) m) (never_ready m (one_of_is_in m (expanded_in (casts_in now)) one)))

pub settled_by_cast : (size : ℕ) (facts : List Fact) (c : CastFields) → IsSettled size (facts ++ CastReceived c ∷ [])
settled_by_cast size facts c =
    subst (λ (ms : List Carried). next_delivery size (casts_in (facts ++ CastReceived c ∷ [])) ms ≡ None) (sym (view_received size facts c))
    (subst (λ (cs : List CastFields). next_delivery size cs (drain size (casts_in facts ++ c ∷ []) (view size facts)) ≡ None) (sym (casts_in-append facts (CastReceived c)))
    (nothing_ready_is_left size (casts_in facts ++ c ∷ []) (view size facts)))

settled_by_other : (size : ℕ) (facts : List Fact) (f : Fact) → cast_in f ≡ [] → view size (facts ++ f ∷ []) ≡ view size facts → IsSettled size facts → IsSettled size (facts ++ f ∷ [])
settled_by_other size facts f none same settled =
    subst (λ (ms : List Carried). next_delivery size (casts_in (facts ++ f ∷ [])) ms ≡ None) (sym same)
    (subst (λ (cs : List CastFields). next_delivery size cs (view size facts) ≡ None) (sym (casts_in-append facts f ∙ ap (λ (cs : List CastFields). casts_in facts ++ cs) none ∙ append-nil (casts_in facts))) settled)

pub settled_by : (group : Parameters) (facts : ℕ → List Fact) (j : ℕ) (f : Fact) → AreTogether group facts → AreFactsOf (member_of group j) (facts j ++ f ∷ []) → IsSettled group.size (facts j ++ f ∷ [])
settled_by group facts j (OwnCast c) h are = settled_by_own group facts h j c are
settled_by group facts j (CastReceived c) h are = settled_by_cast group.size (facts j) c
settled_by group facts j (StatusReceived s) h are = settled_by_other group.size (facts j) (StatusReceived s) refl (view_status group.size (facts j) s) (h.settled j)
settled_by group facts j (OwnStatus s) h are = settled_by_other group.size (facts j) (OwnStatus s) refl (view_reported group.size (facts j) s) (h.settled j)
