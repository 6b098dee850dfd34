use Rattle.std.proofs.Common.{Err, subst}
use Rattle.cb_frames.specs.Stream.{Stream}
use Rattle.cb_frames.specs.Reader.{IsNext}
use Rattle.cb_frames.proofs.Telling.{answers_again}
use Rattle.cb_frames.proofs.stream.FrameReader.next.Goals as goal

pub returns-in-Some-clause-next : goal.returns-in-Some-clause-next
returns-in-Some-clause-next c = subst (λ (s : Stream). IsNext s (Err c.in-Some.fault) s) c.self.view_is (answers_again _ c.in-Some.fault c.self.invariant.1 c.in-Some.is)
