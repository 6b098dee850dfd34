use Rattle.std.proofs.Common.{◌≡◌, ◌++◌, ◌∷◌, [], List, refl, ap, sym, ◌∙◌}
use Rattle.cb_history.specs.declared.answer.Outgoing.{Outgoing}
use Rattle.cb_node.specs.Course.{to_all}
use Rattle.cb_node.specs.Desk.{state_in}
use Rattle.cb_node.specs.Kept.{KeptState}
use Rattle.cb_node.proofs.Courses.{named_burst}
use Rattle.cb_node.proofs.Desks.{same_desk}
use Rattle.cb_node.proofs.Turns.{keep_still}
use Rattle.cb_node.proofs.desk.Desk.cast_burst.Goals as goal

pub returns-in_default-room_to_post-clause-keeps : goal.returns-in_default-room_to_post-clause-keeps
returns-in_default-room_to_post-clause-keeps g c = keep_still g.K.Keeper.has _ _ _ c.room_to_post.ensures.same

pub returns-in_err-done-clause-keeps : goal.returns-in_err-done-clause-keeps
returns-in_err-done-clause-keeps g c =
    keep_still g.K.Keeper.has _ _ _ (same_desk c.room_to_post.new.self c.cast_burst_noted.new.self c.room_to_post.new.self.post c.in_err-done.ensures.same refl ∙ c.room_to_post.ensures.same)

pub returns-clause-done : goal.returns-clause-done
returns-clause-done g c =
    let done = c.in_ok-done.done in
    let same = c.room_to_post.ensures.same in
    let batch : c.push_reserved.new.self.items ≡ to_all done.out ∷ [] =
    c.push_reserved.ensures.items ∙ ap (λ (xs : List Outgoing). xs ++ c.for_all.result ∷ []) c.in-Ok.ensures.batch.0 ∙ ap (λ (x : Outgoing). x ∷ []) c.for_all.ensures in
    named_burst (state_in c.args.self.now) (state_in c.enter.new.self) c.room_to_post.new.self.member c.cast_burst_noted.new.self _ done _
    (c.requires.whole c.in_default.is ∙ ap (λ (s : KeptState). s.member) (sym same)) c.in_ok-enter.ensures.kept c.in_ok-done.ensures.done refl refl refl
    (c.in_ok-enter.ensures.posted ∙ ap (λ (s : KeptState). s.post ++ c.push_reserved.new.self.items) same ∙ ap (λ (xs : List Outgoing). (state_in c.args.self.now).post ++ xs) batch)
    (c.enter.ensures.refused ∙ ap (λ (s : KeptState). s.refused) same)
