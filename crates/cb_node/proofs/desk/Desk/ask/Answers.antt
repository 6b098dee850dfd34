use Rattle.std.proofs.Common.{rules, ◌≡◌, ◌++◌, ◌∷◌, [], List, Option, Some, None, Result, Ok, Err, refl, sym, ap, subst, ◌∙◌}
use Rattle.std.proofs.lemmas.List.{append-nil}
use Rattle.cb_history.specs.declared.answer.HelpFault.{HelpFault}
use Rattle.cb_history.specs.declared.answer.HelpFault.TheVariants as helps
use Rattle.cb_history.specs.declared.answer.Outgoing.{Outgoing}
use Rattle.cb_history.specs.State.{RefusesHelp}
use Rattle.cb_node.specs.Desk.{state_in}
use Rattle.cb_node.proofs.Asking.{is_bad_member, posted_help}
use Rattle.cb_node.proofs.Courses.{asks_more, goes_on_same, posted_more}
use Rattle.cb_node.proofs.desk.Desk.ask.Goals as goal

pub returns-in_default-clause-goes : goal.returns-in_default-clause-goes
returns-in_default-clause-goes c = goes_on_same _ _ c.room_to_post.ensures.same

pub returns-in-Ok-Some-clause-goes : goal.returns-in-Ok-Some-clause-goes
returns-in-Ok-Some-clause-goes c =
    let help = c.in-Ok-Some.help in
    let batch : c.push_reserved.new.self.items ≡ help ∷ [] = c.push_reserved.ensures.items ∙ ap (λ (xs : List Outgoing). xs ++ help ∷ []) c.in-Ok.ensures.batch.0 in
    asks_more (state_in c.args.self.now) (state_in c.room_to_post.new.self) (state_in (record c.room_to_post.new.self { post = c.push_reserved-in-Ok-Some.new.self })) c.args.sender help c.requires.desk c.requires.alive c.room_to_post.ensures.same (search rules) refl refl
    (posted_more _ _ _ _ _ c.push_reserved-in-Ok-Some.ensures.items batch)

pub returns-in-Ok-None-clause-goes : goal.returns-in-Ok-None-clause-goes
returns-in-Ok-None-clause-goes c = goes_on_same _ _ c.room_to_post.ensures.same

pub returns-in-Err-BadMember-clause-goes : goal.returns-in-Err-BadMember-clause-goes
returns-in-Err-BadMember-clause-goes c = goes_on_same _ _ c.room_to_post.ensures.same

pub returns-clause-goes : goal.returns-clause-goes
returns-clause-goes c = goes_on_same _ _ c.room_to_post.ensures.same

pub returns-in-Ok-Some-clause-asked : goal.returns-in-Ok-Some-clause-asked
returns-in-Ok-Some-clause-asked c =
    let help = c.in-Ok-Some.help in
    let batch : c.push_reserved.new.self.items ≡ help ∷ [] = c.push_reserved.ensures.items ∙ ap (λ (xs : List Outgoing). xs ++ help ∷ []) c.in-Ok.ensures.batch.0 in
    posted_help (state_in c.args.self.now) (state_in c.room_to_post.new.self) (state_in (record c.room_to_post.new.self { post = c.push_reserved-in-Ok-Some.new.self })) c.args.sender (Ok (Some help)) c.requires.desk c.requires.alive c.room_to_post.ensures.same (search rules)
    (posted_more _ _ _ _ _ c.push_reserved-in-Ok-Some.ensures.items batch)

pub returns-in-Ok-None-clause-asked : goal.returns-in-Ok-None-clause-asked
returns-in-Ok-None-clause-asked c =
    let mid = state_in c.room_to_post.new.self in
    posted_help (state_in c.args.self.now) mid mid c.args.sender (Ok None) c.requires.desk c.requires.alive c.room_to_post.ensures.same
    (c.in-Ok-None.ensures.asked ∙ ap (λ (help : Option Outgoing). let answer : Result (Option Outgoing) HelpFault = Ok help in answer) c.in-Ok-None.field-0-is) (sym (append-nil mid.post))

pub returns-in-Err-BadMember-clause-asked : goal.returns-in-Err-BadMember-clause-asked
returns-in-Err-BadMember-clause-asked c =
    let mid = state_in c.room_to_post.new.self in
    let refused = subst (λ (fault : HelpFault). RefusesHelp mid.member c.args.sender fault) c.in-Err-BadMember.field-0-is c.in-Err-BadMember.ensures.refused in
    posted_help (state_in c.args.self.now) mid mid c.args.sender (Err helps.BadMember) c.requires.desk c.requires.alive c.room_to_post.ensures.same (is_bad_member mid.member c.args.sender refused) (sym (append-nil mid.post))
