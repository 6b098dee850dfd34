use Rattle.std.proofs.Common.{◌≡◌, ◌∷◌, ◌++◌, map, drop}
use Rattle.std.specs.List.{flat_map}
use Rattle.cb_times.specs.Name.{name_text}
use Rattle.cb_lines.specs.Text.{space}
use Rattle.cb_lines.proofs.writing.put_names.Given as goal

abbrev pub invariant-loop-name : goal.invariant-loop-name
invariant-loop-name l =
    l.out.items ++ flat_map (λ word. space ∷ word) (map name_text (drop l.name-index l.names))
    ≡ l.fn.out.items ++ flat_map (λ word. space ∷ word) (map name_text l.names)
