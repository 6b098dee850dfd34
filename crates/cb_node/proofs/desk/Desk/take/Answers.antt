use Rattle.std.proofs.Common.{rules, inl, ap, subst, ◌∙◌}
use Rattle.cb_node.specs.declared.desk.NotTaken.{NotTaken}
use Rattle.cb_node.specs.Course.{Stays, Work}
use Rattle.cb_node.specs.Desk.{NotTakenBy, state_in}
use Rattle.cb_node.specs.Kept.{work_of}
use Rattle.cb_node.specs.Refusing.{with_refusal}
use Rattle.cb_node.proofs.Courses.{goes_by_refusing, goes_by_taking, goes_nowhere}
use Rattle.cb_node.proofs.Hearing.{refused_hinders, refused_hinders_none, refused_is_heard, refused_work, same_hinders_none}
use Rattle.cb_node.proofs.desk.Desk.take.Goals as goal

pub returns-in-Some-clause-goes : goal.returns-in-Some-clause-goes
returns-in-Some-clause-goes g c = Stays _

pub returns-in-Ok-clause-goes : goal.returns-in-Ok-clause-goes
returns-in-Ok-clause-goes g c = goes_by_taking _ _ c.args.bytes (search rules)

pub returns-in-Err-NotKept-clause-goes : goal.returns-in-Err-NotKept-clause-goes
returns-in-Err-NotKept-clause-goes g c = goes_nowhere _ _ c.in-Err-NotKept.ensures.same

pub returns-in-Err-Refused-clause-goes : goal.returns-in-Err-Refused-clause-goes
returns-in-Err-Refused-clause-goes g c =
    let old = state_in c.args.self.now in
    let same = c.in-Err-Refused.ensures.same in
    let may = subst (λ (n : NotTaken). NotTakenBy old.kept c.args.bytes c.receive.new.self.fault n) c.in-Err-Refused.field-0-is c.in-Err-Refused.ensures.refused in
    goes_by_refusing (work_of old) (work_of (state_in (record c.receive.new.self { refused = c.and-self.result }))) c.args.bytes c.in-Err-Refused.refusal may
    (ap (λ (w : Work). w.member) same) (ap (λ (w : Work). w.post) same) (c.and-self.ensures ∙ ap (λ (w : Work). with_refusal w.refused c.in-Err-Refused.refusal) same)

pub returns-in-Ok-clause-heard : goal.returns-in-Ok-clause-heard
returns-in-Ok-clause-heard g c = inl c.in-Ok.ensures.done

pub returns-in-Ok-clause-unhindered : goal.returns-in-Ok-clause-unhindered
returns-in-Ok-clause-unhindered g c = same_hinders_none _ _ c.in-Ok.ensures.done.refused

pub returns-in-Err-NotKept-clause-hindered : goal.returns-in-Err-NotKept-clause-hindered
returns-in-Err-NotKept-clause-hindered g c =
    (c.in-Err-NotKept.ensures.same, subst (λ (n : NotTaken). NotTakenBy (state_in c.args.self.now).kept c.args.bytes c.receive.new.self.fault n) c.in-Err-NotKept.field-0-is c.in-Err-NotKept.ensures.refused)

pub returns-in-Err-Refused-clause-heard : goal.returns-in-Err-Refused-clause-heard
returns-in-Err-Refused-clause-heard g c =
    let old = state_in c.args.self.now in
    let same = c.in-Err-Refused.ensures.same in
    let may = subst (λ (n : NotTaken). NotTakenBy old.kept c.args.bytes c.receive.new.self.fault n) c.in-Err-Refused.field-0-is c.in-Err-Refused.ensures.refused in
    let counted = refused_work old (state_in c.receive.new.self) c.in-Err-Refused.refusal c.and-self.result same c.and-self.ensures in
    refused_is_heard (work_of old) _ c.args.bytes c.in-Err-Refused.refusal c.hindered_by.result may counted c.hindered_by.ensures

pub returns-in-Err-Refused-clause-hindered : goal.returns-in-Err-Refused-clause-hindered
returns-in-Err-Refused-clause-hindered g c =
    let old = state_in c.args.self.now in
    let same = c.in-Err-Refused.ensures.same in
    let may = subst (λ (n : NotTaken). NotTakenBy old.kept c.args.bytes c.receive.new.self.fault n) c.in-Err-Refused.field-0-is c.in-Err-Refused.ensures.refused in
    let counted = refused_work old (state_in c.receive.new.self) c.in-Err-Refused.refusal c.and-self.result same c.and-self.ensures in
    refused_hinders old (state_in (record c.receive.new.self { refused = c.and-self.result })) c.args.bytes c.in-Err-Refused.refusal c.hindered_by.result may counted c.hindered_by.ensures

pub returns-in-Err-Refused-clause-unhindered : goal.returns-in-Err-Refused-clause-unhindered
returns-in-Err-Refused-clause-unhindered g c =
    let same = c.in-Err-Refused.ensures.same in
    refused_hinders_none c.args.self.now.refused c.and-self.result c.in-Err-Refused.refusal c.hindered_by.result
    (c.and-self.ensures ∙ ap (λ (w : Work). with_refusal w.refused c.in-Err-Refused.refusal) same) c.hindered_by.ensures
