-- The subcommands and their options, as `clap` sees them.
use Rattle.std.specs.Prelude.{◌≡◌, ℕ, [], ◌∷◌, codes, map, Some, true, false, pos}
use Rattle.clap.specs.Words.{App, Rule, Text, app_of, new_app, new_rule, with_rule, with_subcommand}
use Rattle.clap.specs.declared.builder.command.Command.{Command}
use Rattle.clap.specs.declared.builder.command.Command.TheViews.{out-Command}
use Rattle.clap.specs.declared.builder.ArgAction.TheVariants.{Set, SetTrue}
use Rattle.clap.specs.declared.builder.value_parser.ValueParser.{ValueParser}
use Rattle.clap.specs.declared.builder.value_parser.ValueParser.TheVariants as parsers

-- an option that takes what this parser lets through, and need not be given
abbrev pub parsed_rule : Text → ValueParser → Rule
parsed_rule name parser = record (new_rule name) {
  long = Some name;
  action = Some Set;
  value_names = 1;
  parser = Some parser;
}

-- an option that takes a number within these bounds, and need not be given
abbrev pub free_rule : Text → ℕ → ℕ → Rule
free_rule name least most = parsed_rule name (parsers.Signed (pos least) (pos most))

-- with this default
abbrev pub default_rule : Text → ℕ → ℕ → Text → Rule
default_rule name least most default = record (free_rule name least most) { defaults = default ∷ [] }

-- a required option that takes a number within these bounds
abbrev pub number_rule : Text → ℕ → ℕ → Rule
number_rule name least most = record (free_rule name least most) { required = true }

abbrev pub group_rule : Rule
group_rule = number_rule (codes "group") 0 4294967295

abbrev pub size_rule : Rule
size_rule = number_rule (codes "size") 2 64

abbrev pub expand_app : App
expand_app = with_rule (with_rule (new_app (codes "expand")) group_rule) size_rule

-- the names of the links, wherever they lie in memory
abbrev pub AreLinks : ValueParser → Type 0
AreLinks (parsers.Names names) = map (λ name. name.now) names.now ≡ codes "channel" ∷ codes "udp" ∷ codes "tcp" ∷ []
AreLinks parser = ⊥

-- what carries the frames: one of these, channels where none is named
abbrev pub link_rule : ValueParser → Rule
link_rule links = record (parsed_rule (codes "link") links) { defaults = codes "channel" ∷ [] }

-- a flag
abbrev pub trace_rule : Rule
trace_rule = record (new_rule (codes "trace")) {
  long = Some (codes "trace");
  action = Some SetTrue;
}

abbrev pub run_app : ValueParser → App
run_app links =
    with_rule (with_rule (with_rule (with_rule (with_rule (with_rule (new_app (codes "run"))
    (default_rule (codes "size") 2 8 (codes "3"))) (default_rule (codes "window") 1 256 (codes "4")))
    (default_rule (codes "questions") 1 100 (codes "3"))) (default_rule (codes "turns") 1 10000000 (codes "1000000")))
    (link_rule links)) trace_rule

abbrev pub play_app : App
play_app = new_app (codes "play")

abbrev pub audit_app : App
audit_app = new_app (codes "audit")

-- four subcommands, one of which is required
abbrev pub confer_app : ValueParser → App
confer_app links =
    let top = new_app (codes "confer") in
    with_subcommand (with_subcommand (with_subcommand (with_subcommand (record top { top = record top.top { subcommand_required = true } }) expand_app.top) play_app.top) (run_app links).top) audit_app.top

-- a command of this shape, none of whose options holds for subcommands too
pub record IsCommand (app : App) (command : Command) : Type 0 where
  pub shape : app_of command ≡ app
  pub local : (out-Command command).has_globals ≡ false
