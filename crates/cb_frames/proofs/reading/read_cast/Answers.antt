use Rattle.std.proofs.Common.{◌++◌, arith, ap, ◌∙◌}
use Rattle.cb_frames.specs.Fields.{CastFields, load_bytes, cast_fields}
use Rattle.cb_frames.specs.Reading.{cast_at}
use Rattle.cb_frames.proofs.Decoding.{gives_cast, cast_end}
use Rattle.cb_frames.proofs.reading.read_cast.Goals as goal

pub cast-requires : goal.cast-requires
cast-requires c =
    let read = c.in_ok-parts.ensures in
    let end = cast_end c.requires.0 c.args.bytes.now c.args.fields.now read.0 c.requires.1 (λ i. omega (arith, c.type_inv.fields i)) read.1 in
    (end.0, end.1 ∙ ap (λ (x : CastFields). end.0 ++ load_bytes x.load) read.2.2)

pub returns : goal.returns
returns c =
    let read = c.in_ok-parts.ensures in
    gives_cast c.cast.result cast_fields (cast_at c.args.fields.now) read.0 read.1 (c.cast.ensures read.0 read.2)
