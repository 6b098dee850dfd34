-- What was read and written, in parts.
use Rattle.std.proofs.Common.{◌≡◌, ℕ, List, [], ◌∷◌, ◌++◌, length, take, drop, refl, sym, ap, subst, ◌∙◌, arith, append_assoc}
use Rattle.std.specs.Prelude.{Option, Some, None}
use Rattle.std.specs.Io.KnownBytes.{Appends, Consumes, Keeps}
use Rattle.std.proofs.lemmas.List.{append-nil, take-append-drop}
use Rattle.confer_text.specs.Streams.{WritesPart}

pub appends_none : (known : Option (List ℕ)) → Appends known known []
appends_none None = tt
appends_none (Some xs) = sym (append-nil xs)

pub appends_more : (before now after : Option (List ℕ)) (a b : List ℕ) → Appends before now a → Appends now after b → Appends before after (a ++ b)
appends_more None now after a b p q = tt
appends_more (Some xs) None after a b p q = absurd p
appends_more (Some xs) (Some ys) None a b p q = absurd q
appends_more (Some xs) (Some ys) (Some zs) a b p q = q ∙ ap (λ (t : List ℕ). t ++ b) p ∙ append_assoc xs a b

pub appends_kept : (before now after : Option (List ℕ)) (a : List ℕ) → Appends before now a → Keeps now after → Appends before after a
appends_kept None now after a p q = tt
appends_kept (Some xs) None after a p q = absurd p
appends_kept (Some xs) (Some ys) None a p q = absurd q
appends_kept (Some xs) (Some ys) (Some zs) a p q = q ∙ p

pub consumes_none : (known : Option (List ℕ)) → Consumes known known []
consumes_none None = tt
consumes_none (Some xs) = refl

pub consumes_more : (input left rest : Option (List ℕ)) (a b : List ℕ) → Consumes input left a → Consumes left rest b → Consumes input rest (a ++ b)
consumes_more None left rest a b p q = tt
consumes_more (Some xs) None rest a b p q = absurd p
consumes_more (Some xs) (Some ys) None a b p q = absurd q
consumes_more (Some xs) (Some ys) (Some zs) a b p q = p ∙ ap (λ (t : List ℕ). a ++ t) q ∙ sym (append_assoc a b zs)

pub consumes_kept : (input left rest : Option (List ℕ)) (a : List ℕ) → Consumes input left a → Keeps left rest → Consumes input rest a
consumes_kept None left rest a p q = tt
consumes_kept (Some xs) None rest a p q = absurd p
consumes_kept (Some xs) (Some ys) None a p q = absurd q
consumes_kept (Some xs) (Some ys) (Some zs) a p q = p ∙ ap (λ (t : List ℕ). a ++ t) (sym q)

-- ---- writing all

-- so far this part of the bytes was written, and the rest is to come
abbrev pub WroteSoFar : Option (List ℕ) → Option (List ℕ) → List ℕ → List ℕ → Type 0
WroteSoFar before now bytes rest = (part : List ℕ) × (bytes ≡ part ++ rest) × Appends before now part

pub wrote_more : (before now after : Option (List ℕ)) (bytes rest : List ℕ) (n : ℕ) → WroteSoFar before now bytes rest → Appends now after (take n rest)
    → WroteSoFar before after bytes (drop n rest)
wrote_more before now after bytes rest n w a = (
  w.0 ++ take n rest,
  w.1 ∙ ap (λ (t : List ℕ). w.0 ++ t) (sym (take-append-drop n rest)) ∙ sym (append_assoc w.0 (take n rest) (drop n rest)),
  appends_more before now after w.0 (take n rest) w.2 a,
)

pub appends_unchanged : (before now : Option (List ℕ)) → Keeps before now → Appends before now []
appends_unchanged None now k = tt
appends_unchanged (Some xs) None k = absurd k
appends_unchanged (Some xs) (Some ys) k = k ∙ sym (append-nil xs)

pub wrote_all : (before now : Option (List ℕ)) (bytes rest : List ℕ) → WroteSoFar before now bytes rest → length rest ≡ 0 → Appends before now bytes
wrote_all before now bytes [] w e = subst (Appends before now) (sym (w.1 ∙ append-nil w.0)) w.2
wrote_all before now bytes (b ∷ rest) w e = absurd (omega (arith, e))

pub wrote_part : (before now after : Option (List ℕ)) (bytes rest : List ℕ) → WroteSoFar before now bytes rest → Appends now after [] → WritesPart before after bytes
wrote_part before now after bytes rest w a = record {
  part = w.0;
  rest = rest;
  parts = w.1;
  appended = subst (Appends before after) (append-nil w.0) (appends_more before now after w.0 [] w.2 a);
}

-- ---- one text behind another

-- a beginning of the first one was written
pub part_of_first : (before now : Option (List ℕ)) (first next : List ℕ) → WritesPart before now first → WritesPart before now (first ++ next)
part_of_first before now first next p = record {
  part = p.part;
  rest = p.rest ++ next;
  parts = ap (λ (t : List ℕ). t ++ next) p.parts ∙ append_assoc p.part p.rest next;
  appended = p.appended;
}

-- the first one was written, and a beginning of the next
pub part_of_next : (before now after : Option (List ℕ)) (first next : List ℕ) → Appends before now first → WritesPart now after next → WritesPart before after (first ++ next)
part_of_next before now after first next a p = record {
  part = first ++ p.part;
  rest = p.rest;
  parts = ap (λ (t : List ℕ). first ++ t) p.parts ∙ sym (append_assoc first p.part p.rest);
  appended = appends_more before now after first p.part a p.appended;
}
