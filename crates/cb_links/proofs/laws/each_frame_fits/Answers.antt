use Rattle.cb_frames.proofs.Longest.{longest_frame}
use Rattle.cb_links.proofs.laws.each_frame_fits.Goals as goal

pub returns : goal.returns
returns c = longest_frame
