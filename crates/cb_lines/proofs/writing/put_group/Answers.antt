use Rattle.cb_lines.proofs.Found.{on_ok}
use Rattle.cb_lines.proofs.Putting.{put_group_line}
use Rattle.cb_lines.proofs.writing.put_group.Goals as goal

pub returns : goal.returns
returns c = on_ok c.put_parameter-3.result c.put_parameter-3.ensures (λ e. rw (e, c.in_ok-put_parameter-2.ensures, c.in_ok-put_parameter.ensures, c.number.ensures, c.size.ensures.size, c.window.ensures) (put_group_line c.args.out.now.items c.args.group))
