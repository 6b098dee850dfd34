-- Rows that were raised in their place: what the vector holds then, and when the minimum of the watched sender stays.
use Rattle.std.proofs.Common.{◌≡◌, ◌≢◌, ℕ, ◌<◌, ◌⊎◌, ◌++◌, List, length, take, drop, arith}
use Rattle.std.proofs.lemmas.List.{with_items_is}
use Rattle.std.specs.Prelude.{Vec}
use Rattle.std.specs.Global.{Global}
use Rattle.cb_stability.specs.declared.acks.Minimum.{Minimum}
use Rattle.cb_stability.specs.Known.{count}
use Rattle.cb_stability.specs.Rows.{AreRows, known_of}
use Rattle.cb_stability.specs.Minima.{IsMinimum}
use Rattle.cb_stability.proofs.Minima.{minimum_stays}

module _ (rows : Vec (List ℕ) Global) (later : List (List ℕ)) (long : length later ≡ length rows.items) where
  pub rows_raised : take rows.len (later ++ drop (length later) rows.items) ≡ later
  rows_raised = with_items_is rows later (omega (arith, long, rows.ok.0))

  pub watched_stays : (k watched : ℕ) (m : Minimum)
      → ((x : ℕ) → x ≢ k → count (known_of later) x watched ≡ count (known_of rows.items) x watched)
      → AreRows later → watched < length rows.items → IsMinimum rows.items watched m
      → (k ≡ watched) ⊎ (count (known_of later) k watched ≡ count (known_of rows.items) k watched)
      → AreRows (take rows.len (later ++ drop (length later) rows.items))
      × watched < length (take rows.len (later ++ drop (length later) rows.items))
      × IsMinimum (take rows.len (later ++ drop (length later) rows.items)) watched m
  watched_stays k watched m members are within is nothing =
      rw rows_raised (are, omega (arith, long, within), minimum_stays rows.items later long k watched members m is nothing)
