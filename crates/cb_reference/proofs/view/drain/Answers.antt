use Rattle.std.proofs.Common.{◌≡◌, ℕ, ◌-◌, ◌∙◌, ◌++◌, List, [], ◌∷◌, None, Some, ap, sym, map, length, arith, rules}
use Rattle.std.proofs.lemmas.List.{map-append, length-map}
use Rattle.cb_frames.specs.Fields.{Carried}
use Rattle.cb_history.specs.Facts.{messages_in}
use Rattle.cb_history.specs.View.{next_delivery, drained}
use Rattle.cb_reference.specs.declared.casts.Message.{Message}
use Rattle.cb_reference.specs.Messages.{carried_of}
use Rattle.cb_reference.proofs.Walks.{drained_more, drained_end}
use Rattle.cb_reference.proofs.view.drain.Goals as goal
use Rattle.cb_history.proofs.Delivering.{ends_at}

pub loop-delivered-init : goal.loop-delivered-init
loop-delivered-init c =
    let casts = c.args.casts.now in
    let many : length (map carried_of c.messages-delivered-end.result.now) ≡ length (messages_in casts) = ap (λ (ms : List Carried). length ms) c.messages-delivered-end.ensures in
    let e : length c.messages-delivered-end.result.now - 0 ≡ length (messages_in casts) = omega (arith, many, length-map c.messages-delivered-end.result.now carried_of) in
    ap (λ (n : ℕ). drained c.args.size casts n (map carried_of c.args.seen.now.items)) e

pub returns-in_default : goal.returns-in_default
returns-in_default c =
    let casts = c.args.casts.now in
    let seen = map carried_of c.loop-delivered.seen.items in
    let e : next_delivery c.args.size casts seen ≡ None = rw (← c.deref.ensures.value) (search rules) in
    sym (ends_at c.args.size casts (length c.messages-delivered-end.result.now - c.loop-delivered._delivered) seen e) ∙ c.loop-delivered.invariant

pub loop-delivered-preserved : goal.loop-delivered-preserved
loop-delivered-preserved c =
    let casts = c.args.casts.now in
    let seen = map carried_of c.loop-delivered.seen.items in
    let m = carried_of c.in-Some.message in
    let e : next_delivery c.args.size casts seen ≡ Some m = rw (← c.deref.ensures.value) (search rules) in
    let pushed : map carried_of c.push.new.self.items ≡ seen ++ m ∷ [] = ap (λ (ms : List Message). map carried_of ms) c.in_ok-push.ensures.items ∙ map-append carried_of c.loop-delivered.seen.items (c.in-Some.message ∷ []) in
    rw pushed (sym (drained_more c.args.size casts (length c.messages-delivered-end.result.now) c.loop-delivered._delivered seen m e (omega arith)) ∙ c.loop-delivered.invariant)

pub returns : goal.returns
returns c =
    let casts = c.args.casts.now in
    let seen = map carried_of c.loop-delivered.seen.items in
    sym (drained_end c.args.size casts (length c.messages-delivered-end.result.now) c.loop-delivered._delivered seen (omega arith)) ∙ c.loop-delivered.invariant
