use Rattle.cb_world.proofs.run.Run.frames.Goals as goal

pub returns-clause-bytes : goal.returns-clause-bytes
returns-clause-bytes c = rw (← c.self.view_is) c.frames.ensures.bytes
