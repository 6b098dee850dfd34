use Rattle.std.proofs.Common.{◌≡◌, None, Some, Ok, arith}
use Rattle.std.proofs.lemmas.Result.{err_from_is_err_and}
use Rattle.cb_frames.specs.Stream.{text_at}
use Rattle.cb_frames.proofs.Telling.{none_of, some_of, tells_bad, tells_none, tells_whole, tells_refused, tells_found}
use Rattle.cb_frames.proofs.stream.first_frame.Goals as goal

pub returns-in_err-text : goal.returns-in_err-text
returns-in_err-text c =
    let p = err_from_is_err_and c.from_residual.result c.from_residual.ensures.1 in
    rw (p.1, p.2) (tells_bad c.args.rest.now _ (λ i. omega (arith, c.type_inv.rest i)) c.in_err-text.ensures)

pub returns-in_default : goal.returns-in_default
returns-in_default c = tells_none c.args.rest.now (none_of (text_at c.args.rest.now ≡ Ok None) (λ x. text_at c.args.rest.now ≡ Ok (Some (x.0.now, x.1.now))) c.in_ok-text.field-0 c.in_default.is c.in_ok-text.ensures)

pub returns-in_err-bytes : goal.returns-in_err-bytes
returns-in_err-bytes c =
    let p = err_from_is_err_and c.from_residual-in_err-bytes.result c.from_residual-in_err-bytes.ensures.1 in
    let at : text_at c.args.rest.now ≡ Ok (Some (c.in-Some.text.now, c.in-Some.behind.now)) = some_of (text_at c.args.rest.now ≡ Ok None) (λ x. text_at c.args.rest.now ≡ Ok (Some (x.0.now, x.1.now))) c.in_ok-text.field-0 _ c.in-Some.is c.in_ok-text.ensures in
    rw (p.1, p.2) (tells_whole c.args.rest.now c.in-Some.text.now c.in-Some.behind.now at)

pub returns-in_err-frame : goal.returns-in_err-frame
returns-in_err-frame c =
    let p = err_from_is_err_and c.from_residual-in_err-frame.result c.from_residual-in_err-frame.ensures.1 in
    let at : text_at c.args.rest.now ≡ Ok (Some (c.in-Some.text.now, c.in-Some.behind.now)) = some_of (text_at c.args.rest.now ≡ Ok None) (λ x. text_at c.args.rest.now ≡ Ok (Some (x.0.now, x.1.now))) c.in_ok-text.field-0 _ c.in-Some.is c.in_ok-text.ensures in
    rw (p.1, p.2) (tells_refused c.args.rest.now c.in-Some.text.now c.in-Some.behind.now _ at (rw (← c.in_ok-bytes.ensures) c.in_err-frame.ensures.exact))

pub returns : goal.returns
returns c =
    let at : text_at c.args.rest.now ≡ Ok (Some (c.in-Some.text.now, c.in-Some.behind.now)) = some_of (text_at c.args.rest.now ≡ Ok None) (λ x. text_at c.args.rest.now ≡ Ok (Some (x.0.now, x.1.now))) c.in_ok-text.field-0 _ c.in-Some.is c.in_ok-text.ensures in
    tells_found c.args.rest.now c.in-Some.text.now c.in-Some.behind.now (record { frame = c.in_ok-frame.frame; bytes = c.in_ok-bytes.bytes }) (λ i. omega (arith, c.type_inv.rest i)) at c.in_ok-bytes.ensures c.in_ok-frame.ensures.exact c.in_ok-frame.ensures.text
