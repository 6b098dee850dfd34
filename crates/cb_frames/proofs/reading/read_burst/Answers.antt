use Rattle.std.proofs.Common.{List, ◌∷◌, ℕ, ap, ◌∙◌}
use Rattle.cb_frames.specs.Fields.{burst_fields}
use Rattle.cb_frames.specs.Reading.{burst_at}
use Rattle.cb_frames.proofs.Decoding.{gives_cast}
use Rattle.cb_frames.proofs.reading.read_burst.Goals as goal

pub burst-requires-clause-end : goal.burst-requires-clause-end
burst-requires-clause-end c =
    let end = c.in_ok-parts.ensures.end in
    (c.requires.0 ∷ end.0, c.requires.1 ∙ ap (λ (t : List ℕ). c.requires.0 ∷ t) end.1)

pub returns : goal.returns
returns c =
    let read = c.in_ok-parts.ensures.parts in
    gives_cast c.burst.result burst_fields (burst_at c.args.fields.now) read.0 read.1 (c.burst.ensures read.0 read.2)
