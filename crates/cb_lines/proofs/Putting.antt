-- Lines that are written piece by piece.
use Rattle.std.proofs.Common.{◌≡◌, ℕ, List, [], ◌∷◌, ◌++◌, ap, ◌∙◌, append_assoc}
use Rattle.std.specs.Prelude.{codes}
use Rattle.std.proofs.lemmas.List.{append-nil}
use Rattle.std.specs.List.{flat_map, join_with_byte}
use Rattle.std.specs.Fmt.{decimal}
use Rattle.hex.specs.Hex.{encode_lower}
use Rattle.cb_times.specs.declared.name.Name.{Name}
use Rattle.cb_history.specs.Group.{Parameters}
use Rattle.cb_history.specs.Facts.{CastEntry, ArriveEntry, TickEntry}
use Rattle.cb_lines.specs.Text.{line_of, space, group_line, entry_line, delivered_words}

pub put_group_line : (old : List ℕ) (g : Parameters)
    → old ++ codes "cbcast 1 group " ++ decimal g.number ++ codes " size " ++ decimal g.size ++ codes " window " ++ decimal g.window ≡ old ++ group_line g
unfolding group_line line_of
put_group_line old g =
    let a = codes "cbcast 1 group " in
    let b = codes " size " in
    let c = codes " window " in
    append_assoc (old ++ a ++ decimal g.number ++ b ++ decimal g.size) c (decimal g.window)
    ∙ append_assoc (old ++ a ++ decimal g.number ++ b) (decimal g.size) (c ++ decimal g.window)
    ∙ append_assoc (old ++ a ++ decimal g.number) b (decimal g.size ++ (c ++ decimal g.window))
    ∙ append_assoc (old ++ a) (decimal g.number) (b ++ (decimal g.size ++ (c ++ decimal g.window)))
    ∙ append_assoc old a (decimal g.number ++ (b ++ (decimal g.size ++ (c ++ decimal g.window))))

pub put_cast_line : (old frame : List ℕ) → old ++ codes "cast " ++ encode_lower frame ≡ old ++ entry_line (CastEntry frame)
unfolding entry_line line_of
put_cast_line old frame = append_assoc old (codes "cast ") (encode_lower frame)

pub put_tick_line : (old status : List ℕ) → old ++ codes "tick " ++ encode_lower status ≡ old ++ entry_line (TickEntry status)
unfolding entry_line line_of
put_tick_line old status = append_assoc old (codes "tick ") (encode_lower status)

joined : (word : List ℕ) (words : List (List ℕ)) → word ++ flat_map (λ w. space ∷ w) words ≡ join_with_byte space (word ∷ words)
joined word [] = append-nil word
joined word (w ∷ words) = ap (λ (l : List ℕ). word ++ space ∷ l) (joined w words)

pub put_arrive_line : (old frame : List ℕ) (names : List Name) → old ++ codes "arrive " ++ encode_lower frame ++ flat_map (λ w. space ∷ w) (delivered_words names) ≡ old ++ entry_line (ArriveEntry frame names)
unfolding entry_line line_of
put_arrive_line old frame names =
    append_assoc (old ++ codes "arrive ") (encode_lower frame) (flat_map (λ w. space ∷ w) (delivered_words names))
    ∙ append_assoc old (codes "arrive ") (encode_lower frame ++ flat_map (λ w. space ∷ w) (delivered_words names))
    ∙ ap (λ (l : List ℕ). old ++ (codes "arrive " ++ l)) (joined (encode_lower frame) (delivered_words names))
