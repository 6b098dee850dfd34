-- What comes first on a connection.
use Rattle.std.specs.Prelude.{◌≡◌, ◌⊎◌, ℕ, ◌<◌, ◌≤◌, List, [], ◌++◌, length, Bool, true, Option, Some, None, Result, Ok, Err}
use Rattle.std.specs.Io.KnownBytes.{Consumes}
use Rattle.cb_peers.specs.Hellos.{Reads, hello_text}
use Rattle.cb_peers.specs.declared.hello.Disagreement.{Disagreement}
use Rattle.cb_peers.specs.declared.hello.Hello.{Hello}
use Rattle.cb_remote.specs.declared.greeter.GreetFault.{GreetFault}
use Rattle.cb_remote.specs.declared.greeter.GreetFault.TheVariants as faults

-- both ends agree, or one of them says why not
abbrev pub agreement : Option Disagreement → Result Bool GreetFault
agreement None = Ok true
agreement (Some why) = Err (faults.Disagrees why)

-- bytes were read behind those that came before, and no more than a hello has
pub record ReadsOn (had has : Option (List ℕ)) (before after : List ℕ) : Type 0 where
  pub bytes : List ℕ
  pub read : Consumes had has bytes
  pub parts : after ≡ before ++ bytes
  pub few : (bytes ≡ []) ⊎ (length after ≤ 28)

-- A hello was heard where its bytes came. None is there, and nothing disagrees, before as many have come.
abbrev pub Hears : Option (List ℕ) → Option (List ℕ) → List ℕ → List ℕ → Result (Option Hello) GreetFault → Type 0
Hears had has before after (Ok (Some hello)) = ReadsOn had has before after × (after ≡ hello_text hello)
Hears had has before after (Ok None) = ReadsOn had has before after × (length after < 28)
Hears had has before after (Err (faults.Disagrees why)) = ReadsOn had has before after × (28 ≤ length after) × Reads after (Err why)
Hears had has before after (Err faults.Gone) = Consumes had has [] × (after ≡ before)
Hears had has before after (Err faults.NoMemory) = Unit {0}
