-- Whether a load can be cast.
use Rattle.std.proofs.Common.{◌≡◌, ℕ, ◌<◌, ◌≤◌, inl, inr, true, false, List, length, Result, Ok, Err, refl, ap, ◌∙◌, arith}
use Rattle.std.specs.Prelude.{IsOk}
use Rattle.std.proofs.lemmas.Bool.{cases_lt, eq-eqb, ne_eqb, le-ltb, lt-leb, le-leb, lt-ltb}
use Rattle.std.proofs.lemmas.List.{length-map}
use denote.Ref.{Bor}
use Rattle.cb_frames.specs.declared.frame.TheConstants.{LONGEST_PAYLOAD, MOST_MESSAGES}
use Rattle.cb_frames.specs.Fields.{Load, load_bytes, payloads_of, CastFields}
use Rattle.cb_stability.specs.Sent.{room_of}
use Rattle.cb_history.specs.declared.answer.BurstRefusal.{BurstRefusal}
use Rattle.cb_history.specs.declared.answer.CastRefusal.{CastRefusal}
use Rattle.cb_history.specs.CastFault.{CastFault, EmptyBurst, BurstTooLong, PayloadTooLong, WindowFull, HistoryFull}
use Rattle.cb_history.specs.Group.{Identity}
use Rattle.cb_history.specs.Facts.{EntryFields, Fact, facts_of}
use Rattle.cb_history.specs.Load.{FitsFrame, many_of}
use Rattle.cb_history.specs.Answers.{is_too_many, next_cast, cast_answer}
use Rattle.cb_history.specs.LegalFacts.{AreFactsOf}
use Rattle.cb_history.specs.State.{MemberState, RefusesBurst, RefusesCast}
use Rattle.cb_history.proofs.Loads.{loads_cast_fit}
use Rattle.cb_member.specs.declared.state.State.{State}
use Rattle.cb_member.specs.State.{Keeps}
use Rattle.cb_member.specs.Casting.{CanCast, RefusesBurstExactly, RefusesExactly}
use Rattle.cb_member.proofs.Casting.{is_few, is_many}

-- ---- the answer, rule by rule

module _ (seat : Identity) (limit : ℕ) (entries : List EntryFields) (load : Load) where
  pub empty : length (payloads_of load) ≡ 0 → cast_answer seat limit entries load ≡ Err EmptyBurst
  unfolding cast_answer
  empty none = rw (eq-eqb (length (payloads_of load)) 0 none) refl

  pub too_long : MOST_MESSAGES < length (payloads_of load) → cast_answer seat limit entries load ≡ Err BurstTooLong
  unfolding cast_answer
  too_long many = rw (ne_eqb (length (payloads_of load)) 0 (λ none. omega (arith, many, none)), lt-ltb MOST_MESSAGES (length (payloads_of load)) many) refl

  pub payload_too_long : 1 ≤ length (payloads_of load) → length (payloads_of load) ≤ MOST_MESSAGES → LONGEST_PAYLOAD < length (load_bytes load) → cast_answer seat limit entries load ≡ Err PayloadTooLong
  unfolding cast_answer
  payload_too_long some few long =
      rw (
        ne_eqb (length (payloads_of load)) 0 (λ none. omega (arith, some, none)),
        le-ltb MOST_MESSAGES (length (payloads_of load)) few,
        lt-ltb LONGEST_PAYLOAD (length (load_bytes load)) long,
      ) refl

  module _ (fits : FitsFrame load) where
    pub window_full : is_too_many seat (facts_of entries) (length (payloads_of load)) ≡ true → cast_answer seat limit entries load ≡ Err WindowFull
    unfolding cast_answer
    window_full full =
        rw (
          ne_eqb (length (payloads_of load)) 0 (λ none. omega (arith, fits.some, none)),
          le-ltb MOST_MESSAGES (length (payloads_of load)) fits.few,
          le-ltb LONGEST_PAYLOAD (length (load_bytes load)) fits.short,
          full,
        ) refl

    pub history_full : is_too_many seat (facts_of entries) (length (payloads_of load)) ≡ false → limit ≤ length entries → cast_answer seat limit entries load ≡ Err HistoryFull
    unfolding cast_answer
    history_full free full =
        rw (
          ne_eqb (length (payloads_of load)) 0 (λ none. omega (arith, fits.some, none)),
          le-ltb MOST_MESSAGES (length (payloads_of load)) fits.few,
          le-ltb LONGEST_PAYLOAD (length (load_bytes load)) fits.short,
          free,
          le-leb limit (length entries) full,
        ) refl

    pub is_cast : is_too_many seat (facts_of entries) (length (payloads_of load)) ≡ false → length entries < limit → cast_answer seat limit entries load ≡ Ok (next_cast seat (facts_of entries) load)
    unfolding cast_answer
    is_cast free room =
        rw (
          ne_eqb (length (payloads_of load)) 0 (λ none. omega (arith, fits.some, none)),
          le-ltb MOST_MESSAGES (length (payloads_of load)) fits.few,
          le-ltb LONGEST_PAYLOAD (length (load_bytes load)) fits.short,
          free,
          lt-leb limit (length entries) room,
        ) refl

-- ---- what a member's state says of it

-- what is not at most the longest payload is longer
pub is_long : (n : ℕ) → (n ≤ LONGEST_PAYLOAD → false ≡ true) → LONGEST_PAYLOAD < n
is_long n never = elim (cases_lt LONGEST_PAYLOAD n) [
  | inl long ↦ long
  | inr short ↦ absurd (let both = never short in cc)
]

-- there are as many messages as payloads that are lent
pub lent_many : (payloads : List (Bor (List ℕ))) → length (payloads_of (many_of payloads)) ≡ length payloads
lent_many payloads = length-map payloads (λ payload. payload.now)

pub refuses_window : (state : State) (facts : List Fact) (load : Load) → AreFactsOf state.seat facts → Keeps facts state → FitsFrame load → room_of state.sending.window < length (payloads_of load)
    → (limit : ℕ) (entries : List EntryFields) → facts_of entries ≡ facts → cast_answer state.seat limit entries load ≡ Err WindowFull
refuses_window state facts load are k fits none limit entries same =
    window_full state.seat limit entries load fits (ap (λ (fs : List Fact). is_too_many state.seat fs (length (payloads_of load))) same ∙ is_many state facts (length (payloads_of load)) are k fits.some none)

pub few_for : (state : State) (facts : List Fact) (load : Load) → AreFactsOf state.seat facts → Keeps facts state → CanCast state load → is_too_many state.seat facts (length (payloads_of load)) ≡ false
few_for state facts load are k can = is_few state facts (length (payloads_of load)) are k can.fits.some can.room

-- what may be cast is refused only where the history is full
pub refuses_history : (state : State) (limit : ℕ) (entries : List EntryFields) (load : Load) → AreFactsOf state.seat (facts_of entries) → Keeps (facts_of entries) state → CanCast state load → limit ≤ length entries
    → cast_answer state.seat limit entries load ≡ Err HistoryFull
refuses_history state limit entries load are k can full = history_full state.seat limit entries load can.fits (few_for state (facts_of entries) load are k can) full

pub casts_next : (state : State) (limit : ℕ) (entries : List EntryFields) (load : Load) → AreFactsOf state.seat (facts_of entries) → Keeps (facts_of entries) state → CanCast state load → length entries < limit
    → cast_answer state.seat limit entries load ≡ Ok (next_cast state.seat (facts_of entries) load)
casts_next state limit entries load are k can room = is_cast state.seat limit entries load can.fits (few_for state (facts_of entries) load are k can) room

-- a load that is cast fits a frame, so an exact refusal is one that any member may give
fits_so : (seat : Identity) (limit : ℕ) (entries : List EntryFields) (load : Load) (answer : Result CastFields CastFault) → cast_answer seat limit entries load ≡ answer → IsOk answer → FitsFrame load
fits_so seat limit entries load (Ok c) is ok = loads_cast_fit seat limit entries load c is
fits_so seat limit entries load (Err fault) is ok = absurd cc

pub may_refuse : (m : MemberState) (load : Load) (refusal : CastRefusal) → RefusesExactly m load refusal → RefusesCast m load refusal
may_refuse m load refusal (inl says) = inl says
may_refuse m load refusal (inr memory) = inr (memory.0, fits_so m.seat m.limit m.entries load (cast_answer m.seat m.limit m.entries load) refl memory.1)

pub may_refuse_burst : (m : MemberState) (load : Load) (refusal : BurstRefusal) → RefusesBurstExactly m load refusal → RefusesBurst m load refusal
may_refuse_burst m load refusal (inl says) = inl says
may_refuse_burst m load refusal (inr memory) = inr (memory.0, fits_so m.seat m.limit m.entries load (cast_answer m.seat m.limit m.entries load) refl memory.1)
