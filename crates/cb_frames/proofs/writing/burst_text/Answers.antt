use Rattle.std.proofs.Common.{List, [], ◌∷◌, ◌++◌, ℕ, arith, ap, ◌∙◌, refl, subst}
use Rattle.cb_frames.specs.Fields.{burst_fields}
use Rattle.cb_frames.specs.Text.{burst_kind, AppendsPayloads}
use Rattle.cb_frames.proofs.PairsWritten.{burst_written}
use Rattle.cb_frames.proofs.writing.burst_text.Goals as goal

pub returns : goal.returns
returns c =
    let payloads = c.args.burst.now.payloads.items in
    let carried = subst (λ (ps : List (List ℕ)). AppendsPayloads c.put.new.out.items c.put_payloads.new.out.items ps) c.deref-3.ensures.value c.in_ok-put_payloads.ensures in
    burst_written (burst_fields c.args.burst.now) payloads c.len.result c.push.new.self.items c.put_burst.new.out.items c.put.new.out.items c.put_payloads.new.out.items refl c.requires.rules c.requires.payloads (c.in_ok-push.ensures.items ∙ ap (λ (t : List ℕ). t ++ burst_kind ∷ []) c.in_ok-out.ensures.items) c.in_ok-put_burst.ensures (omega (arith, c.len.ensures, c.args.burst.now.payloads.ok.0)) c.in_ok-put.ensures.text carried
