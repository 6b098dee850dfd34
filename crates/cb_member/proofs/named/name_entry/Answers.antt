use Rattle.std.proofs.Common.{◌≡◌, ◌∙◌, ◌++◌, ◌∷◌, ℕ, List, length, slice_index_or, slice_set, sym, ap, subst}
use Rattle.std.proofs.Math.Seq.{get_or-append_seam, set-append_seam}
use Rattle.cb_history.specs.declared.history.Entry.{Entry as Entries}
use Rattle.cb_member.specs.Received.{IsOpen}
use Rattle.cb_member.proofs.named.name_entry.Goals as goal

pub returns : goal.returns
returns c bytes before after e o =
    let was : c.in-Some.entry.now ≡ e =
    c.in-Some.ensures.value ∙ ap (λ (es : List Entries). slice_index_or es c.args.place c.in-Some.entry.now) o.at
    ∙ ap (λ (n : ℕ). slice_index_or (before ++ e ∷ after) n c.in-Some.entry.now) (sym o.place_is) ∙ get_or-append_seam before e after c.in-Some.entry.now in
    let named = c.add_names.new.entry in
    record {
      named = named;
      fields = c.add_names.ensures bytes (subst (IsOpen bytes (length c.args.events.now)) (sym was) o.is);
      at = ap (λ (es : List Entries). slice_set es c.args.place named) o.at ∙ ap (λ (n : ℕ). slice_set (before ++ e ∷ after) n named) (sym o.place_is)
          ∙ set-append_seam before e after named;
    }
