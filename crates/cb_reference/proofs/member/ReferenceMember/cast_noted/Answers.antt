use Rattle.cb_reference.proofs.Casting.{refusal_is_of_one}
use Rattle.cb_reference.proofs.member.ReferenceMember.cast_noted.Goals as goal

pub refusal_of_one-requires : goal.refusal_of_one-requires
refusal_of_one-requires c = refusal_is_of_one c.args.self.now c.args.payload.now c.in-Err.refusal c.in-Err.ensures.refused
