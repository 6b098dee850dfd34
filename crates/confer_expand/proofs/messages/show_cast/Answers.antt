use Rattle.std.proofs.Common.{List, ℕ, ◌∷◌, ◌++◌, [], ap, ap₂, sym, ◌∙◌}
use Rattle.confer_expand.specs.Lines.{line_feed}
use Rattle.confer_expand.specs.Progress.{Group}
use Rattle.confer_expand.specs.Texts.{accepted_text}
use Rattle.confer_expand.proofs.Showing.{cast_line}
use Rattle.confer_expand.proofs.messages.show_cast.Goals as goal

pub returns-clause-lines : goal.returns-clause-lines
returns-clause-lines c =
    let cast = c.args.cast.now in
    let line = ap₂ (λ (g : Group) (p : List ℕ). accepted_text (record { sender = cast.sender; number = cast.number }) g.time p ++ line_feed ∷ []) c.show_message.ensures.time c.deref.ensures in
    c.show_message.ensures.line ∙ ap (λ (t : List ℕ). c.args.text.now.items ++ t) (line ∙ sym (cast_line cast c.args.expansion.now.time))
