-- Round after round among those who live: what each of them casts comes to all of them.
use Rattle.std.proofs.Common.{◌≡◌, ◌≢◌, ℕ, zero, suc, ◌+◌, ◌-◌, ◌*◌, ◌<◌, ◌≤◌, sym, arith, inl, inr}
use Rattle.std.proofs.lemmas.Bool.{cases_lt}
use Rattle.cb_frames.specs.declared.frame.TheConstants.{MOST_FRAMES}
use Rattle.cb_history.specs.Facts.{casts_in}
use Rattle.cb_history.specs.Known.{known}
use Rattle.cb_history.proofs.Runs.{run_at_most, delivered_is_expanded}
use Rattle.cb_schedules.specs.Schedule.{Setting, seat_at, GroupState}
use Rattle.cb_schedules.specs.Messages.{facts_at}
use Rattle.cb_schedules.specs.Consistent.{IsConsistent}
use Rattle.cb_schedules.specs.RoundLaws.{cast_count, expanded_at}
use Rattle.cb_schedules.proofs.Knowing.{near_is_so}
use Rattle.cb_schedules.proofs.Later.{IsLater, later_itself, later_joins, known_later, there_later, cast_count_later}
use Rattle.cb_schedules.proofs.Waves.{Waves}
use Rattle.cb_schedules.proofs.Asking.{status_comes, cast_comes}

-- a round begins with the waves of what is asked for and supplied
pub record BeginsWithWaves (Lives : ℕ → Type 0) (setting : Setting) (s t : GroupState) : Type 0 where
  pub supplied : GroupState
  pub waves : Waves Lives setting s supplied
  pub to_end : IsLater supplied t

-- states one behind another, between the first of which lie so many rounds
pub record AreRounds (Lives : ℕ → Type 0) (setting : Setting) (behind : ℕ → GroupState) (count : ℕ) : Type 0 where
  pub consistent : (n : ℕ) → IsConsistent setting (behind n)
  pub later : (n : ℕ) → IsLater (behind n) (behind (suc n))
  pub round : (n : ℕ) → n < count → BeginsWithWaves Lives setting (behind n) (behind (suc n))

-- all but the first of them
pub rounds_behind : (Lives : ℕ → Type 0) (setting : Setting) (behind : ℕ → GroupState) (count : ℕ) → AreRounds Lives setting behind (suc count) → AreRounds Lives setting (λ n. behind (suc n)) count
rounds_behind Lives setting behind count r = record {
  consistent = λ n. r.consistent (suc n);
  later = λ n. r.later (suc n);
  round = λ n lt. r.round (suc n) (omega (arith, lt));
}

module _ (Lives : ℕ → Type 0) (setting : Setting) (behind : ℕ → GroupState) (count : ℕ) (r : AreRounds Lives setting behind count) where
  pub later_behind : (n : ℕ) → IsLater (behind 0) (behind n)
  later_behind zero = later_itself (behind 0)
  later_behind (suc n) = later_joins (behind 0) (behind n) (behind (suc n)) (later_behind n) (r.later n)

  -- as many casts as before
  pub same_count : (n i : ℕ) → i < setting.group.size → cast_count setting (behind n) i ≡ cast_count setting (behind 0) i
  same_count n i lt = cast_count_later setting (behind 0) (behind n) (r.consistent 0) (r.consistent n) (later_behind n) i lt

  -- those who live have heard of every cast of theirs
  pub heard_behind : (n j i : ℕ) → n < count → j < setting.group.size → i < setting.group.size → Lives j → Lives i → j ≢ i → cast_count setting (behind 0) i ≤ known (facts_at (behind (suc n)) j) i
  heard_behind n j i lt lt_j lt_i live_j live_i ne =
      let b = r.round n lt in
      let told = (status_comes Lives setting (behind n) b.supplied (r.consistent n) b.waves i j lt_i lt_j live_i live_j ne).0 i lt_i (λ e. ne (sym e)) in
      omega (arith, told, known_later b.supplied (behind (suc n)) b.to_end j i, same_count n i lt_i)

  -- what is expanded behind one round more, of what was heard of before it
  round_expands : (n m j i : ℕ) → n < count → j < setting.group.size → i < setting.group.size → Lives j → Lives i → j ≢ i
      → m ≤ cast_count setting (behind n) i → m ≤ known (facts_at (behind n) j) i → m ≤ expanded_at (behind n) j i + MOST_FRAMES → m ≤ expanded_at (behind (suc n)) j i
  round_expands n m j i lt lt_j lt_i live_j live_i ne cast heard near =
      let b = r.round n lt in
      run_at_most (casts_in (facts_at (behind (suc n)) j)) i m (λ k low high.
      there_later b.supplied (behind (suc n)) b.to_end j i k
      (cast_comes Lives setting (behind n) b.supplied (r.consistent n) b.waves i j k lt_i lt_j live_i live_j ne low (omega (arith, high, cast)) (omega (arith, high, heard)) (omega (arith, high, near))))

  -- Of what was heard of at first, all is expanded but the last, as many as the window is wider than so many answers.
  pub brought : (n m j i : ℕ) → n ≤ count → j < setting.group.size → i < setting.group.size → Lives j → Lives i → j ≢ i
      → m ≤ cast_count setting (behind 0) i → m ≤ known (facts_at (behind 0) j) i → m + setting.group.window ≤ cast_count setting (behind 0) i + n * MOST_FRAMES → m ≤ expanded_at (behind n) j i
  brought zero m j i le lt_j lt_i live_j live_i ne cast heard near =
      let h = (r.consistent 0).together in
      let close = near_is_so setting.group (facts_at (behind 0)) h i j lt_i lt_j in
      let low = (delivered_is_expanded (seat_at setting j) (facts_at (behind 0) j) (h.legal j lt_j)).0 i in
      omega (arith, near, close, low)
  brought (suc n) m j i le lt_j lt_i live_j live_i ne cast heard near =
      let same = same_count n i lt_i in
      let begun : m ≤ expanded_at (behind n) j i + MOST_FRAMES = elim (cases_lt m MOST_FRAMES) [
        | inl few ↦ omega (arith, few)
        | inr many ↦
            let rest = brought n (m - MOST_FRAMES) j i (omega (arith, le)) lt_j lt_i live_j live_i ne (omega (arith, cast)) (omega (arith, heard)) (omega (arith, near, many)) in
            omega (arith, rest, many)
      ] in
      round_expands n m j i (omega (arith, le)) lt_j lt_i live_j live_i ne (omega (arith, cast, same)) (omega (arith, heard, known_later (behind 0) (behind n) (later_behind n) j i)) begun

-- After one round, and as many more as it takes to ask for a whole window, all casts of those who live are expanded at each of them.
pub all_brought : (Lives : ℕ → Type 0) (setting : Setting) (behind : ℕ → GroupState) (n : ℕ) → AreRounds Lives setting behind (suc n) → setting.group.window ≤ n * MOST_FRAMES
    → (j i : ℕ) → j < setting.group.size → i < setting.group.size → Lives j → Lives i → j ≢ i → cast_count setting (behind 0) i ≤ expanded_at (behind (suc n)) j i
all_brought Lives setting behind n r wide j i lt_j lt_i live_j live_i ne =
    let same = same_count Lives setting behind (suc n) r 1 i lt_i in
    let heard = heard_behind Lives setting behind (suc n) r 0 j i (omega arith) lt_j lt_i live_j live_i ne in
    let all = brought Lives setting (λ k. behind (suc k)) n (rounds_behind Lives setting behind n r) n (cast_count setting (behind 1) i) j i (omega arith) lt_j lt_i live_j live_i ne
    (omega arith) (omega (arith, heard, same)) (omega (arith, wide)) in
    omega (arith, all, same)
