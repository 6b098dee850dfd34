use Rattle.std.proofs.Common.{◌≡◌, map, take}
use Rattle.std.specs.List.{AllByRecursion}
use Rattle.cb_times.specs.Name.{name_text}
use Rattle.cb_lines.specs.Bounds.{IsName}
use Rattle.cb_lines.proofs.words.each_name.Given as goal

abbrev pub invariant-loop-word : goal.invariant-loop-word
invariant-loop-word l = record {
  each : AllByRecursion IsName l.names.items;
  spelled : map (λ word. word.now) (take l.word-index l.words) ≡ map name_text l.names.items;
}
