-- What a keeper has, one call behind the other.
use Rattle.std.proofs.Common.{◌≡◌, List, Option, Some, None, refl, sym, subst}
use Rattle.cb_history.specs.Facts.{EntryFields}
use Rattle.cb_journal.specs.declared.keeper.KeepFault.{KeepFault}
use Rattle.cb_node.specs.Keeping.{Keeps}

-- nothing was kept and nothing failed
pub keeps_nothing : {K : Type 0} (has : K → List EntryFields → Type 0) (k : K) (fault : Option KeepFault) (entries : List EntryFields) → Keeps has k k fault fault entries entries
keeps_nothing has k fault entries = record { each = λ was is. record { last = was; is_last = is; was_alive = λ none. none; had = λ h. h } }

pub keeps_same : {K : Type 0} (has : K → List EntryFields → Type 0) (k l : K) (old new : Option KeepFault) (entries kept : List EntryFields) → l ≡ k → new ≡ old → kept ≡ entries
    → Keeps has k l old new entries kept
keeps_same {K} has k l old new entries kept keeper fault same =
    subst (λ (x : K). Keeps has k x old new entries kept) (sym keeper)
    (subst (λ (f : Option KeepFault). Keeps has k k old f entries kept) (sym fault)
    (subst (λ (es : List EntryFields). Keeps has k k old old entries es) (sym same) (keeps_nothing has k old entries)))

-- nothing had failed, and all was kept
pub keeps_all : {K : Type 0} (has : K → List EntryFields → Type 0) (k l : K) (old new : Option KeepFault) (entries kept : List EntryFields) → old ≡ None → (has k entries → has l kept)
    → Keeps has k l old new entries kept
keeps_all {K} has k l old new entries kept alive keep = record {
  each = λ was is. record { last = l; is_last = λ _. refl; was_alive = λ _. alive; had = λ h. keep (subst (λ (x : K). has x entries) (is alive) h) };
}

-- it failed, and nothing more was kept
pub keeps_none : {K : Type 0} (has : K → List EntryFields → Type 0) (k l : K) (old new : Option KeepFault) (entries kept : List EntryFields) (fault : KeepFault) → new ≡ Some fault → kept ≡ entries
    → Keeps has k l old new entries kept
keeps_none has k l old new entries kept fault failed same = record {
  each = λ was _. record { last = was; is_last = λ none. absurd cc; was_alive = λ none. absurd cc; had = λ h. subst (λ (es : List EntryFields). has was es) (sym same) h };
}

-- one behind the other
pub keeps_then : {K : Type 0} (has : K → List EntryFields → Type 0) (k l m : K) (a b c : Option KeepFault) (entries between kept : List EntryFields) → Keeps has k l a b entries between
    → Keeps has l m b c between kept → Keeps has k m a c entries kept
keeps_then has k l m a b c entries between kept first second = record {
  each = λ was is.
      let one = first.each was is in
      let two = second.each one.last one.is_last in
      record { last = two.last; is_last = two.is_last; was_alive = λ none. one.was_alive (two.was_alive none); had = λ h. two.had (one.had h) };
}
