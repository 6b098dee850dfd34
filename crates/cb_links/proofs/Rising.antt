-- Counts of failures that rise.
use Rattle.std.proofs.Common.{◌≡◌, ℕ, ◌+◌, ◌≤◌, inl, inr, arith}
use Rattle.cb_links.specs.Counts.{held, Counts, HasCounted, MetAtMost}

-- nothing was met yet
pub met_none : (before : ℕ) → MetAtMost 0 before before
met_none before = inl (omega arith)

-- what was met stays so when the count rises
pub met_stays : (met before after later : ℕ) → MetAtMost met before after → after ≤ later → MetAtMost met before later
met_stays met before after later m rises =
    elim m [
      | inl h ↦ inl (omega (arith, h, rises))
      | inr h ↦ inr (omega (arith, h, rises))
    ]

-- one more was met, and counted
pub met_more : (met before after later : ℕ) → MetAtMost met before after → after ≤ later → HasCounted after later → MetAtMost (held (met + 1)) before later
met_more met before after later m rises counted =
    elim counted [
      | inl h ↦ elim m [
        | inl k ↦ inl (omega (arith, h, k))
        | inr k ↦ inr (omega (arith, k, rises))
      ]
      | inr h ↦ inr h
    ]

-- nothing more was met
pub counts_none : (met old new : ℕ) → old ≤ new → Counts met old met new
counts_none met old new rises before m = met_stays met before old new m rises

-- one more was
pub counts_one : (met old new : ℕ) → old ≤ new → HasCounted old new → Counts met old (held (met + 1)) new
counts_one met old new rises counted before m = met_more met before old new m rises counted

-- what was met later was counted too
pub counts_some : (met some all old new : ℕ) → all ≡ held (met + some) → old ≤ new → MetAtMost some old new → Counts met old all new
counts_some met some all old new sum rises later before m =
    elim later [
      | inl h ↦ elim m [
        | inl k ↦ inl (omega (arith, sum, h, k))
        | inr k ↦ inr (omega (arith, k, rises))
      ]
      | inr h ↦ inr h
    ]
