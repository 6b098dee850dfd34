use Rattle.std.proofs.Common.{◌∙◌}
use Rattle.cb_lines.proofs.Found.{on_ok}
use Rattle.cb_lines.proofs.Putting.{put_cast_line, put_arrive_line, put_tick_line}
use Rattle.cb_lines.proofs.writing.put_entry.Goals as goal

pub returns-in-Cast : goal.returns-in-Cast
returns-in-Cast c = rw c.in-Cast.is (on_ok c.put_frame.result c.put_frame.ensures (λ e. e ∙ put_cast_line c.args.out.now.items c.in-Cast.frame))

pub returns-in_ok-put_frame-in-Arrive : goal.returns-in_ok-put_frame-in-Arrive
returns-in_ok-put_frame-in-Arrive c = rw c.in-Arrive.is (on_ok c.put_delivered.result c.put_delivered.ensures (λ e. rw (e, c.in_ok-put_frame-in-Arrive.ensures, c.deref.ensures) (put_arrive_line c.args.out.now.items c.in-Arrive.frame c.in-Arrive.delivered.items)))

pub returns-in-Tick : goal.returns-in-Tick
returns-in-Tick c = rw c.in-Tick.is (on_ok c.put_frame-in-Tick.result c.put_frame-in-Tick.ensures (λ e. e ∙ put_tick_line c.args.out.now.items c.in-Tick.status))
