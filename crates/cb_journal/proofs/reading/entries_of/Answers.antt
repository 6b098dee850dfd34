use Rattle.std.proofs.Common.{◌≡◌, ◌+◌, ◌∷◌, [], List, arith, ap, subst, sym, refl, ◌∙◌, length, length-append, map}
use Rattle.std.proofs.lemmas.List.{map-append}
use Rattle.cb_history.specs.Group.{Identity}
use Rattle.cb_history.specs.Facts.{EntryFields, entry_fields}
use Rattle.cb_journal.specs.Journal.{IsJournal, journal_text}
use Rattle.cb_journal.specs.Reading.{ReadTo}
use Rattle.cb_journal.proofs.Heads.{same_seat}
use Rattle.cb_journal.proofs.Readings.{next_fault, next_read, end_read, read_is}
use Rattle.cb_journal.proofs.reading.entries_of.Goals as goal

pub returns-in-Err : goal.returns-in-Err
returns-in-Err c whole many start =
    rw c.at.ensures (next_fault whole c.lines.rest.now c.args.seat (map entry_fields c.lines.entries.items) c.lines.line c.in-Some.next.now c.in-Some.after.now c.in-Err.fault (c.lines.invariant.read whole start) c.in-Some.ensures c.in-Err.ensures)

pub lines-preserved : goal.lines-preserved
lines-preserved c =
    let entry = c.in-Ok.entry in
    let old = c.lines.entries.items in
    let more = ap (map entry_fields) c.in_ok-push-in-Ok.ensures.items ∙ map-append entry_fields old (entry ∷ []) in
    let parts = ap length c.in-Some.ensures.parts ∙ length-append c.in-Some.next.now (10 ∷ c.in-Some.after.now) in
    record {
      read = λ whole start.
          subst (λ (es : List EntryFields). ReadTo whole c.in-Some.after.now c.args.seat es (c.lines.line + 1)) (sym more)
          (next_read whole c.lines.rest.now c.args.seat (map entry_fields old) c.lines.line c.in-Some.next.now c.in-Some.after.now (entry_fields entry) (c.lines.invariant.read whole start) c.in-Some.ensures c.in-Ok.ensures.0 c.in-Ok.ensures.1);
      few = omega (arith, parts, c.lines.invariant.few);
      short = omega (arith, parts, c.lines.invariant.short);
    }

pub returns : goal.returns
returns c whole many start =
    let es = map entry_fields c.lines.entries.items in
    let to = c.lines.invariant.read whole start in
    let seat : Identity = record { group = c.group.result; me = c.me.result } in
    let same : seat ≡ c.args.seat = same_seat seat c.args.seat c.group.ensures.group c.me.ensures.me in
    record {
      torn = c.lines.rest.now;
      is = subst (λ (s : Identity). IsJournal whole s es c.lines.rest.now) (sym same) (end_read whole c.lines.rest.now c.args.seat es c.lines.line to c.in_default.ensures);
      read_is = read_is whole c.lines.rest.now c.args.seat es c.lines.line c.args.total to many ∙ ap (λ (s : Identity). length (journal_text s es)) (sym same);
      torn_is = refl;
    }
