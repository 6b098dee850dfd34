use Rattle.std.proofs.Common.{◌≡◌, ◌≢◌, ℕ, List, take, arith, ap, ap₂, subst, ◌∙◌}
use Rattle.std.proofs.lemmas.List.{length-take}
use Rattle.confer_expand.specs.Lines.{ended}
use Rattle.confer_expand.specs.Runs.{StopsIn, PutsLines}
use Rattle.confer_expand.proofs.Running.{input_starts, piece_more, piece_of, ends_run, too_long, stops_in_piece, written_back}
use Rattle.confer_expand.proofs.streams.expand_lines.Goals as goal

pub pieces-init : goal.pieces-init
pieces-init g c = record {
  buffer = c.in_ok-buffer.ensures;
  so_far = rw c.in_ok-lines.ensures.empty (input_starts c.args.group c.args.size (g.R.Read.remaining c.args.input.now) (g.W.Write.contents c.args.output.now)
      c.in_ok-lines.lines.expansion c.in_ok-lines.lines.answers c.in_ok-lines.ensures.fresh c.in_ok-lines.ensures.silent);
}

-- the run ends with the last line
pub returns-then-count-eq0-clause-text : goal.returns-then-count-eq0-clause-text
returns-then-count-eq0-clause-text g c =
    (ends_run c.answer_last.result c.args.group c.args.size _ _ _ _ _ _ _ _ _ _ _ _ (take c.in-Ok.count c.read.new.buffer) c.pieces.invariant.so_far c.in-Ok.ensures.bytes
    (omega (arith, length-take c.in-Ok.count c.read.new.buffer, c.if-count-eq0.true)) (c.in-Ok.ensures.end c.if-count-eq0.true)
    c.answer_last.ensures.ok c.answer_last.ensures.refused c.answer_last.ensures.fault).text

pub returns-then-count-eq0-clause-refused : goal.returns-then-count-eq0-clause-refused
returns-then-count-eq0-clause-refused g c =
    (ends_run c.answer_last.result c.args.group c.args.size _ _ _ _ _ _ _ _ _ _ _ _ (take c.in-Ok.count c.read.new.buffer) c.pieces.invariant.so_far c.in-Ok.ensures.bytes
    (omega (arith, length-take c.in-Ok.count c.read.new.buffer, c.if-count-eq0.true)) (c.in-Ok.ensures.end c.if-count-eq0.true)
    c.answer_last.ensures.ok c.answer_last.ensures.refused c.answer_last.ensures.fault).refused

pub returns-then-count-eq0-clause-limit : goal.returns-then-count-eq0-clause-limit
returns-then-count-eq0-clause-limit g c =
    (ends_run c.answer_last.result c.args.group c.args.size _ _ _ _ _ _ _ _ _ _ _ _ (take c.in-Ok.count c.read.new.buffer) c.pieces.invariant.so_far c.in-Ok.ensures.bytes
    (omega (arith, length-take c.in-Ok.count c.read.new.buffer, c.if-count-eq0.true)) (c.in-Ok.ensures.end c.if-count-eq0.true)
    c.answer_last.ensures.ok c.answer_last.ensures.refused c.answer_last.ensures.fault).limit

pub returns-then-count-eq0-clause-fault : goal.returns-then-count-eq0-clause-fault
returns-then-count-eq0-clause-fault g c =
    (ends_run c.answer_last.result c.args.group c.args.size _ _ _ _ _ _ _ _ _ _ _ _ (take c.in-Ok.count c.read.new.buffer) c.pieces.invariant.so_far c.in-Ok.ensures.bytes
    (omega (arith, length-take c.in-Ok.count c.read.new.buffer, c.if-count-eq0.true)) (c.in-Ok.ensures.end c.if-count-eq0.true)
    c.answer_last.ensures.ok c.answer_last.ensures.refused c.answer_last.ensures.fault).fault

pub returns-in-Err-answer_piece-clause-fault : goal.returns-in-Err-answer_piece-clause-fault
returns-in-Err-answer_piece-clause-fault g c =
    let back : c.deref.result.now ≡ c.read.new.buffer = c.deref.ensures.value ∙ written_back _ c.read.new.buffer _ (omega (arith, c.read.auto.buffer, c.deref_mut.ensures.len)) in
    let piece = piece_of c.min-within.result c.in-Ok.count c.read.new.buffer c.deref.result.now back (omega (arith, c.min-within.ensures)) in
    stops_in_piece c.in-Err-answer_piece.fault c.args.group c.args.size _ _ _ _ _ _ _ c.min-within.result _ _ _ (take c.in-Ok.count c.read.new.buffer) c.pieces.invariant.so_far c.in-Ok.ensures.bytes
    (subst (λ (t : List ℕ). StopsIn c.in-Err-answer_piece.fault (ended c.pieces.lines.begun.items t) c.pieces.lines.expansion c.pieces.lines.answers
    (g.W.Write.contents c.pieces.output) (g.W.Write.contents c.answer_piece.new.output)) piece c.in-Err-answer_piece.ensures.fault)

pub returns-then-within-count-clause-fault : goal.returns-then-within-count-clause-fault
returns-then-within-count-clause-fault g c =
    let back : c.deref.result.now ≡ c.read.new.buffer = c.deref.ensures.value ∙ written_back _ c.read.new.buffer _ (omega (arith, c.read.auto.buffer, c.deref_mut.ensures.len)) in
    let within : c.min-within.result ≡ c.pieces.left = omega (arith, c.min-within.ensures, c.if-within-count.true) in
    let piece : take c.min-within.result c.deref.result.now ≡ take c.pieces.left (take c.in-Ok.count c.read.new.buffer) =
    piece_of c.min-within.result c.in-Ok.count c.read.new.buffer c.deref.result.now back (omega (arith, c.min-within.ensures))
    ∙ ap (λ (n : ℕ). take n (take c.in-Ok.count c.read.new.buffer)) within in
    too_long c.args.group c.args.size _ _ _ _ _ _ _ _ c.answer_piece.new.lines.expansion _ c.answer_piece.new.lines.answers _ (take c.in-Ok.count c.read.new.buffer) c.pieces.invariant.so_far c.in-Ok.ensures.bytes
    (omega (arith, length-take c.in-Ok.count c.read.new.buffer, c.in-Ok.ensures.within, within, c.if-within-count.true))
    (subst (λ (t : List ℕ). PutsLines (ended c.pieces.lines.begun.items t) c.pieces.lines.expansion c.answer_piece.new.lines.expansion c.pieces.lines.answers c.answer_piece.new.lines.answers
    (g.W.Write.contents c.pieces.output) (g.W.Write.contents c.answer_piece.new.output)) piece c.in_default.ensures.ok)

pub pieces-preserved : goal.pieces-preserved
pieces-preserved g c =
    let back : c.deref.result.now ≡ c.read.new.buffer = c.deref.ensures.value ∙ written_back _ c.read.new.buffer _ (omega (arith, c.read.auto.buffer, c.deref_mut.ensures.len)) in
    let within : c.min-within.result ≡ c.in-Ok.count = omega (arith, c.min-within.ensures, c.if-within-count.false) in
    let some : c.in-Ok.count ≢ 0 = c.if-count-eq0.false in
    let piece : take c.min-within.result c.deref.result.now ≡ take c.in-Ok.count c.read.new.buffer = ap₂ (λ (n : ℕ) (t : List ℕ). take n t) within back in
    record {
      buffer = c.pieces.invariant.buffer;
      so_far = piece_more c.args.group c.args.size _ _ _ _ _ _ _ _ _ _ _ _ _ _ (take c.in-Ok.count c.read.new.buffer) _ c.pieces.invariant.so_far c.in-Ok.ensures.bytes
          (omega (arith, length-take c.in-Ok.count c.read.new.buffer, c.in-Ok.ensures.within, within, c.min-within.ensures)) piece c.in_default.ensures.ok c.in_default.ensures.begun;
    }
