-- What the words say of the link, and of a flag.
use Rattle.std.proofs.Common.{◌≡◌, Bool, true, false, codes, Option, Some, None, sym, ◌∙◌}
use Rattle.std.specs.Prelude.{IfSome}
use Rattle.clap.specs.Words.{Text, first_value, one_text, rows_of}
use Rattle.clap.specs.declared.parser.matches.Found.{Found}
use Rattle.clap.proofs.WalkLemmas.{first_value-rows, one_text-rows}
use Rattle.confer_run.specs.declared.setting.LinkKind.{LinkKind}
use Rattle.confer.specs.Cli.Orders.{HasFlag, HasLink, IsNamed}

-- a link is named
pub link_given : (f : Found) (name : Text) (r : Option LinkKind) → Some name ≡ first_value f (codes "link") → IfSome r (IsNamed name) → IfSome r (HasLink (rows_of f))
link_given f name None given named = tt
link_given f name (Some link) given named = (name, sym (first_value-rows f (codes "link")) ∙ sym given, named)

-- a flag
pub flag_given : (f : Found) (id : Text) (given : Bool) → (one_text f id ≡ None → given ≡ false) → (one_text f id ≡ Some (codes "true") → given ≡ true)
    → (one_text f id ≡ Some (codes "false") → given ≡ false) → HasFlag id (rows_of f) given
flag_given f id given none set unset = record {
  none = λ e. none (one_text-rows f id ∙ e);
  set = λ e. set (one_text-rows f id ∙ e);
  unset = λ e. unset (one_text-rows f id ∙ e);
}
