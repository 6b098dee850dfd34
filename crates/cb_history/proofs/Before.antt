-- What was answered before there were help frames is answered now.
use Rattle.std.proofs.Common.{◌≡◌, ◌≢◌, ℕ, ◌<◌, Bool, true, false, not, ◌&&◌, ◌||◌, eqb, ltb, List, [], ◌∷◌, ◌++◌, Some, Result, Ok, Err, refl, sym, ap, subst, ◌∙◌, arith, inl, inr}
use Rattle.std.specs.List.{list_any, range_with_len}
use Rattle.std.proofs.lemmas.Bool.{cases_eq, cond_both, eqb-true, eqb-false, ne_eqb}
use Rattle.cb_frames.specs.declared.fault.FrameFault.{FrameFault}
use Rattle.cb_frames.specs.declared.fault.FrameFault.TheVariants as faults
use Rattle.cb_frames.specs.Fields.{StatusFields, HelpFields, FrameFields, CastFrame, StatusFrame, RequestFrame, HelpFrame}
use Rattle.cb_frames.specs.Text.{cast_kind, burst_kind, status_kind, request_kind, help_kind, text_of}
use Rattle.cb_frames.specs.Reading.{cast_at, burst_at, status_at, request_at, help_at, frame_at}
use Rattle.cb_frames.proofs.Fronts.{bind_cases}
use Rattle.cb_history.specs.Read.{frame_read}
use Rattle.cb_delay.specs.declared.message.Message.{Message}
use Rattle.cb_history.specs.declared.answer.Outgoing.{Outgoing}
use Rattle.cb_history.specs.Group.{Identity}
use Rattle.cb_history.specs.Facts.{EntryFields, CastEntry, ArriveEntry, TickEntry, Fact, cast_said, arrival_said, status_said, said_by, facts_of}
use Rattle.cb_history.specs.Known.{value_in, known, acknowledged_of}
use Rattle.cb_history.specs.Answers.{is_full, group_of, are_members, is_impossible, is_repeat, is_overlap, is_too_far, is_news, is_change, deliveries, sent_in_answer, Accepted, frame_answer, answer_to, arrive_answer, cast_answer, status_of, tick_answer}
use Rattle.cb_history.specs.Legal.{Call, ToCast, ToTake, ToTick, ToHelp, arrive_entry, cast_entry, tick_entry, entry_of, room_for_one, AreLegal, NoEntries, OneMore}
use Rattle.cb_history.specs.BeforeHelpers.{frame_before, said_before, facts_before, acknowledged_before, is_news_before, is_change_before, sent_before, frame_answer_before, answer_to_before, cast_answer_before, arrive_answer_before, tick_answer_before, entry_before, AreLegalBefore, NoneBefore, OneMoreBefore}
use Rattle.cb_history.specs.BeforeLaws.{LegalBeforeIsLegal, IsNoHelp, ReadAsBefore, FactsAsBefore, StableAsBefore, CastsAsBefore, TicksAsBefore, NewsBeforeIsNews, ArrivalsAsBefore}
use Rattle.cb_history.proofs.Views.{test_true, not_true}
use Rattle.cb_history.proofs.Lists.{any_of}
use Rattle.cb_history.proofs.Keeping.{in_range}
use Rattle.cb_history.proofs.Calls.{an_arrival}

-- ---- what is read

other_kind : (kind : ℕ) (bytes : List ℕ) → kind ≢ help_kind → frame_before (kind ∷ bytes) ≡ frame_at (kind ∷ bytes)
other_kind kind bytes ne = rw (ne_eqb kind help_kind ne) refl

same_read : (bytes : List ℕ) → IsNoHelp bytes → frame_read bytes ≡ frame_before bytes
unfolding frame_at
same_read [] other = refl
same_read (kind ∷ bytes) other = sym (other_kind kind bytes other)

help_unknown : (bytes : List ℕ) → frame_before (help_kind ∷ bytes) ≡ Err faults.UnknownKind
help_unknown bytes = refl

frame_still : (bytes : List ℕ) (f : FrameFields) → frame_before bytes ≡ Ok f → frame_read bytes ≡ Ok f
frame_still [] f read = absurd cc
frame_still (kind ∷ bytes) f read =
    elim (cases_eq kind help_kind) [
      | inl e ↦ absurd (let unknown : Err faults.UnknownKind ≡ Ok f = subst (λ (k : ℕ). frame_before (k ∷ bytes) ≡ Ok f) e read in cc)
      | inr ne ↦ sym (other_kind kind bytes ne) ∙ read
    ]

pub read_as_before : ReadAsBefore
read_as_before bytes = (same_read bytes, frame_still bytes)

-- ---- what entries say

-- of a help frame nothing, as of bytes that are no frame
help_says_nothing : (said : Result FrameFields FrameFault → List Fact) (bytes : List ℕ) → ((h : HelpFields) → said (Ok (HelpFrame h)) ≡ []) → ((fault : FrameFault) → said (Err fault) ≡ []) → said (frame_read (help_kind ∷ bytes)) ≡ []
unfolding frame_at
help_says_nothing said bytes help fault = bind_cases (help_at bytes) _ (λ (r : Result FrameFields FrameFault). said r ≡ []) (λ h e. help h) (λ f e. fault f)

says_the_same : (said : Result FrameFields FrameFault → List Fact) (bytes : List ℕ) → ((h : HelpFields) → said (Ok (HelpFrame h)) ≡ []) → ((fault : FrameFault) → said (Err fault) ≡ []) → said (frame_read bytes) ≡ said (frame_before bytes)
says_the_same said [] help fault = ap said (same_read [] tt)
says_the_same said (kind ∷ bytes) help fault =
    elim (cases_eq kind help_kind) [
      | inl e ↦ subst (λ (k : ℕ). said (frame_read (k ∷ bytes)) ≡ said (frame_before (k ∷ bytes))) (sym e) (help_says_nothing said bytes help fault ∙ sym (fault faults.UnknownKind))
      | inr ne ↦ ap said (same_read (kind ∷ bytes) ne)
    ]

said_as_before : (e : EntryFields) → said_by e ≡ said_before e
said_as_before (CastEntry frame) = says_the_same cast_said frame (λ h. refl) (λ f. refl)
said_as_before (ArriveEntry frame delivered) = says_the_same arrival_said frame (λ h. refl) (λ f. refl)
said_as_before (TickEntry status) = says_the_same status_said status (λ h. refl) (λ f. refl)

pub facts_as_before : FactsAsBefore
facts_as_before [] = refl
facts_as_before (e ∷ entries) =
    ap (λ (fs : List Fact). fs ++ facts_of entries) (said_as_before e) ∙ ap (λ (fs : List Fact). said_before e ++ fs) (facts_as_before entries)

-- ---- answers

pub stable_as_before : StableAsBefore
stable_as_before seat facts = (λ k. refl, refl)

pub casts_as_before : CastsAsBefore
unfolding cast_answer cast_answer_before
casts_as_before seat limit entries load = rw (facts_as_before entries) refl

pub ticks_as_before : TicksAsBefore
unfolding tick_answer tick_answer_before
ticks_as_before seat limit entries = rw (facts_as_before entries) refl

-- what another says of this member's casts it says of some other than itself
pub news_before_is_news : NewsBeforeIsNews
news_before_is_news seat facts s member was =
    let both = test_true (not (eqb s.sender seat.me)) _ was in
    let other = not_true (eqb s.sender seat.me) both.0 in
    rw other (either_weaker (list_any (λ k. not (eqb k seat.me) && ltb (known facts k) (value_in s.values k)) (range_with_len 0 seat.group.size)) (ltb (acknowledged_before seat facts s.sender) (value_in s.values seat.me))
    (list_any says_more (range_with_len 0 seat.group.size)) both.1 (λ more. any_of says_more (range_with_len 0 seat.group.size) seat.me (in_range 0 seat.group.size seat.me (omega arith) (omega (arith, member))) (of_mine other more)))
  where
    says_more : ℕ → Bool
    says_more i = not (eqb i s.sender) && ltb (acknowledged_of seat facts s.sender i) (value_in s.values i)

    of_mine : eqb s.sender seat.me ≡ false → ltb (acknowledged_before seat facts s.sender) (value_in s.values seat.me) ≡ true → says_more seat.me ≡ true
    of_mine other more = rw (ne_eqb seat.me s.sender (λ e. eqb-false s.sender seat.me other (sym e))) more

    either_weaker : (a b c : Bool) → (a || b) ≡ true → (b ≡ true → c ≡ true) → (a || c) ≡ true
    either_weaker true b c h weaker = refl
    either_weaker false b c h weaker = weaker h

-- bytes that do not begin as a help frame are none
no_help : (kind : ℕ) (bytes : List ℕ) (h : HelpFields) → kind ≢ help_kind → frame_at (kind ∷ bytes) ≡ Ok (HelpFrame h) → ⊥
unfolding frame_at
no_help kind bytes h other =
    let P : Result FrameFields FrameFault → Type 0 = λ r. r ≡ Ok (HelpFrame h) → ⊥ in
    cond_both (eqb kind cast_kind) _ _ P (λ _. bind_cases (cast_at bytes) _ P (λ c e is. cc) (λ f e is. cc))
    (λ _. cond_both (eqb kind burst_kind) _ _ P (λ _. bind_cases (burst_at bytes) _ P (λ c e is. cc) (λ f e is. cc))
    (λ _. cond_both (eqb kind status_kind) _ _ P (λ _. bind_cases (status_at bytes) _ P (λ s e is. cc) (λ f e is. cc))
    (λ _. cond_both (eqb kind request_kind) _ _ P (λ _. bind_cases (request_at bytes) _ P (λ r e is. cc) (λ f e is. cc))
    (λ _. cond_both (eqb kind help_kind) _ _ P (λ e _. other (eqb-true kind help_kind e)) (λ _ is. cc)))))

reads_no_help : (bytes : List ℕ) (h : HelpFields) → IsNoHelp bytes → frame_read bytes ≡ Ok (HelpFrame h) → ⊥
unfolding frame_at
reads_no_help [] h other read = cc
reads_no_help (kind ∷ bytes) h other read = no_help kind bytes h other read

frame_as_before : (seat : Identity) (limit : ℕ) (entries : List EntryFields) (facts : List Fact) (bytes : List ℕ) (f : FrameFields) → IsNoHelp bytes → frame_read bytes ≡ Ok f
    → ((s : StatusFields) → frame_read bytes ≡ Ok (StatusFrame s) → is_news seat facts s ≡ is_news_before seat facts s) → frame_answer seat limit entries facts f ≡ frame_answer_before seat limit entries facts f
frame_as_before seat limit entries facts bytes (CastFrame c) other read news = refl
frame_as_before seat limit entries facts bytes (StatusFrame s) other read news =
    ap (λ (b : Bool). an_arrival (eqb s.group seat.group.number) (are_members seat.group.size (StatusFrame s)) (is_impossible seat facts (StatusFrame s)) false false false b (is_full limit entries)
    (Accepted (deliveries seat facts (StatusFrame s)) true []) (Accepted [] false [])) (news s read)
frame_as_before seat limit entries facts bytes (RequestFrame r) other read news = refl
frame_as_before seat limit entries facts bytes (HelpFrame h) other read news = absurd (reads_no_help bytes h other read)

answered_as_before : (seat : Identity) (limit : ℕ) (entries : List EntryFields) (bytes : List ℕ) (r : Result FrameFields FrameFault) → IsNoHelp bytes → frame_read bytes ≡ r
    → ((s : StatusFields) → frame_read bytes ≡ Ok (StatusFrame s) → is_news seat (facts_of entries) s ≡ is_news_before seat (facts_of entries) s) → answer_to seat limit entries r ≡ answer_to_before seat limit entries r
answered_as_before seat limit entries bytes (Ok f) other read news =
    frame_as_before seat limit entries (facts_of entries) bytes f other read news ∙ ap (λ (facts : List Fact). frame_answer_before seat limit entries facts f) (facts_as_before entries)
answered_as_before seat limit entries bytes (Err fault) other read news = refl

pub arrivals_as_before : ArrivalsAsBefore
unfolding arrive_answer arrive_answer_before
arrivals_as_before seat limit entries bytes other news =
    answered_as_before seat limit entries bytes (frame_read bytes) other refl news ∙ ap (answer_to_before seat limit entries) (same_read bytes other)

-- ---- histories

-- what was news and entered enters where that is news
still_entered : (group members impossible repeat overlap far was is full : Bool) (delivered : List Message) (out sent : List Outgoing) (bytes : List ℕ) (e : EntryFields) → (was ≡ true → is ≡ true)
    → arrive_entry bytes (an_arrival group members impossible repeat overlap far was full (Accepted delivered true out) (Accepted [] false out)) ≡ Some e
    → arrive_entry bytes (an_arrival group members impossible repeat overlap far is full (Accepted delivered true sent) (Accepted [] false sent)) ≡ Some e
still_entered false members impossible repeat overlap far was is full delivered out sent bytes e still h = h
still_entered true false impossible repeat overlap far was is full delivered out sent bytes e still h = h
still_entered true true true repeat overlap far was is full delivered out sent bytes e still h = h
still_entered true true false true overlap far was is full delivered out sent bytes e still h = h
still_entered true true false false true far was is full delivered out sent bytes e still h = h
still_entered true true false false false true was is full delivered out sent bytes e still h = h
still_entered true true false false false false true is true delivered out sent bytes e still h = absurd cc
still_entered true true false false false false true is false delivered out sent bytes e still h = rw (still refl) h
still_entered true true false false false false false is full delivered out sent bytes e still h = absurd cc

still_change : (seat : Identity) (facts : List Fact) (f : FrameFields) → seat.me < seat.group.size → is_change_before seat facts f ≡ true → is_change seat facts f ≡ true
still_change seat facts (CastFrame c) member was = refl
still_change seat facts (StatusFrame s) member was = news_before_is_news seat facts s member was
still_change seat facts (RequestFrame r) member was = was
still_change seat facts (HelpFrame h) member was = was

frame_entered : (seat : Identity) (limit : ℕ) (entries : List EntryFields) (facts : List Fact) (bytes : List ℕ) (e : EntryFields) (f : FrameFields) → seat.me < seat.group.size
    → arrive_entry bytes (frame_answer_before seat limit entries facts f) ≡ Some e → arrive_entry bytes (frame_answer seat limit entries facts f) ≡ Some e
frame_entered seat limit entries facts bytes e f member =
    still_entered (eqb (group_of f) seat.group.number) (are_members seat.group.size f) (is_impossible seat facts f) (is_repeat facts f) (is_overlap facts f) (is_too_far seat facts f) (is_change_before seat facts f) (is_change seat facts f)
    (is_full limit entries) (deliveries seat facts f) (sent_before seat facts f) (sent_in_answer seat facts f) bytes e (still_change seat facts f member)

arrival_entered : (seat : Identity) (limit : ℕ) (entries : List EntryFields) (bytes : List ℕ) (e : EntryFields) (r : Result FrameFields FrameFault) → seat.me < seat.group.size → frame_before bytes ≡ r
    → arrive_entry bytes (answer_to_before seat limit entries r) ≡ Some e → arrive_entry bytes (answer_to seat limit entries (frame_read bytes)) ≡ Some e
arrival_entered seat limit entries bytes e (Ok f) member read h =
    let before : arrive_entry bytes (frame_answer_before seat limit entries (facts_of entries) f) ≡ Some e =
    subst (λ (facts : List Fact). arrive_entry bytes (frame_answer_before seat limit entries facts f) ≡ Some e) (sym (facts_as_before entries)) h in
    rw (frame_still bytes f read) (frame_entered seat limit entries (facts_of entries) bytes e f member before)
arrival_entered seat limit entries bytes e (Err fault) member read h = absurd cc

entered : (seat : Identity) (limit : ℕ) (entries : List EntryFields) (call : Call) (e : EntryFields) → seat.me < seat.group.size → entry_before seat limit entries call ≡ Some e → entry_of seat limit entries call ≡ Some e
unfolding arrive_answer arrive_answer_before
entered seat limit entries (ToCast load) e member h = ap cast_entry (casts_as_before seat limit entries load) ∙ h
entered seat limit entries (ToTake bytes) e member h = arrival_entered seat limit entries bytes e (frame_before bytes) member refl h
entered seat limit entries ToTick e member h =
    ap (λ (facts : List Fact). tick_entry (text_of (StatusFrame (status_of seat facts))) (tick_answer seat limit entries)) (facts_as_before entries)
    ∙ ap (tick_entry (text_of (StatusFrame (status_of seat (facts_before entries))))) (ticks_as_before seat limit entries) ∙ h
entered seat limit entries (ToHelp i) e member h = h

still_legal : (seat : Identity) (entries : List EntryFields) → seat.me < seat.group.size → AreLegalBefore seat entries → AreLegal seat entries
still_legal seat _ member NoneBefore = NoEntries
still_legal seat _ member (OneMoreBefore entries call e before bytes added) = OneMore entries call e (still_legal seat entries member before) bytes (entered seat (room_for_one entries) entries call e member added)

pub legal_before_is_legal : LegalBeforeIsLegal
legal_before_is_legal seat entries before = record { group = before.group; member = before.member; entries_are = still_legal seat entries before.member before.entries_are; few = before.few }
