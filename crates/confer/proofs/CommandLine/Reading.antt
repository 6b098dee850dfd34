-- What the words that `clap` took order.
use Rattle.std.proofs.Common.{◌≡◌, ℕ, List, [], Option, Some, None, true, Result, Ok, refl, sym, ap₂, subst, ◌∙◌}
use Rattle.std.specs.Prelude.{IfSome, option_map}
use Rattle.std.specs.Str.Parse.{digits_value, without_leading_plus}
use Rattle.clap.specs.Words.{App, Row, Text, ReadsOne, one_text, rows_of, fault_of, is_simple_and_free, HasKind, HasMatchesOf, Kinds, is_simple, subcommand_name_of, subcommand_rows_of}
use Rattle.clap.specs.declared.parser.matches.ArgMatches.{ArgMatches}
use Rattle.clap.specs.declared.parser.matches.ArgMatches.TheViews.{out-ArgMatches}
use Rattle.clap.proofs.OnLiterals.{clap_on_literals}
use Rattle.clap.specs.declared.error.Error.{Error}
use Rattle.clap.specs.declared.builder.value_parser.ValueParser.{ValueParser}
use Rattle.confer.specs.Cli.Commands.{AreLinks, confer_app}
use Rattle.clap.specs.declared.parser.matches.Found.{Found}
use Rattle.clap.proofs.WalkLemmas.{one_text-rows}
use Rattle.confer.specs.Cli.Orders.{Finds, HasNumber, NamesSubcommand}

pub number_given : {E : Type 0} (G : List ℕ → Result ℕ E → Type 0) (f : Found) (id : List ℕ) (r : Option ℕ) → (one_text f id ≡ None → r ≡ None)
    → ((t : List ℕ) → one_text f id ≡ Some t → ReadsOne G t r)
    → ((u : List ℕ) (x : ℕ) → G u (Ok x) → x ≡ digits_value 10 (without_leading_plus u)) → IfSome r (HasNumber id (rows_of f))
number_given {E} G f id None none some reads = tt
number_given {E} G f id (Some n) none some reads = go (one_text f id) refl
  where
    go : (o : Option (List ℕ)) → one_text f id ≡ o → HasNumber id (rows_of f) n
    go None e = let bad : Some n ≡ None = none e in cc
    go (Some t) e = record { text = t; given = sym (one_text-rows f id) ∙ e; reads = reads t n (some t e) }

-- what `clap` answers to words of `confer`
simple_and_free : (links : ValueParser) → is_simple_and_free (confer_app links) ≡ true
unfolding clap_on_literals
simple_and_free links = refl

-- nothing, where it answers matches
pub finds_nothing : (a : App) (words : List Text) (links : ValueParser) → a ≡ confer_app links → AreLinks links → (is_simple_and_free a ≡ true → fault_of a words ≡ []) → Finds words []
finds_nothing a words links is are kinds = record {
  links = links;
  are_links = are;
  found = subst (λ (x : App). is_simple_and_free x ≡ true → fault_of x words ≡ []) is kinds (simple_and_free links);
}

-- what its error says
pub finds_kinds : (a : App) (words : List Text) (e : Error) (links : ValueParser) → a ≡ confer_app links → AreLinks links → (is_simple_and_free a ≡ true → HasKind (fault_of a words) e)
    → (kinds : Kinds) × Finds words kinds × HasKind kinds e
finds_kinds a words e links is are kinds = (
  fault_of (confer_app links) words,
  record { links = links; are_links = are; found = refl },
  subst (λ (x : App). is_simple_and_free x ≡ true → HasKind (fault_of x words) e) is kinds (simple_and_free links),
)

module _ {X : Type 0} (name_of : X → Text) (rows_in : X → List Row) where
  both : (o : Option X) (name : Text) (rows : List Row) → Some name ≡ option_map name_of o → Some rows ≡ option_map (λ (p : Text × List Row). p.1) (option_map {U = Text × List Row} (λ b. (name_of b, rows_in b)) o)
      → option_map {U = Text × List Row} (λ b. (name_of b, rows_in b)) o ≡ Some (name, rows)
  both None name rows p q = absurd (cc p)
  both (Some b) name rows p q =
      let first : name_of b ≡ name = cc (p, q) in
      let second : rows_in b ≡ rows = cc (p, q) in
      ap₂ (λ (x : Text) (y : List Row). Some (x, y)) first second

simple : (links : ValueParser) → is_simple (confer_app links) ≡ true
unfolding clap_on_literals
simple links = refl

-- what the parsed words name
pub named_in : (a : App) (words : List Text) (m : ArgMatches) (name : Text) (rows : List Row) (links : ValueParser) → a ≡ confer_app links → AreLinks links → HasMatchesOf a words m → Some name ≡ subcommand_name_of m
    → Some rows ≡ option_map (λ (p : Text × List Row). p.1) (subcommand_rows_of m) → NamesSubcommand words name rows
named_in a words m name rows links is are matches named given =
    let have : HasMatchesOf (confer_app links) words m = subst (λ (x : App). HasMatchesOf x words m) is matches in
    record { links = links; are_links = are; named = sym (have (simple links)).1 ∙ both _ _ (out-ArgMatches m).subcommand name rows named given }
