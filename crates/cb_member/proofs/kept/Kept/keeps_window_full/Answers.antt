use Rattle.cb_member.proofs.kept.Kept.keeps_window_full.Goals as goal

pub returns : goal.returns
returns c = rw (← c.self.view_is) (λ entries s. c.keeps_window_full.ensures entries s.stands)
