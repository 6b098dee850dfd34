use Rattle.std.proofs.Common.{rules}
use Rattle.cb_causality.proofs.GroupLists.{contents_more, contents_same}
use Rattle.cb_causality.proofs.lists.append.Goals as goal

pub returns-in_err-push-clause-err : goal.returns-in_err-push-clause-err
returns-in_err-push-clause-err g c =
    let same : _ =
    contents_same c.args.lists.now.items c.args.at c.index_mut-list.result.now c.push.new.self c.requires c.index_mut-list.ensures.value
    c.in_err-push.ensures.items in
    search (rules, same)

pub returns-clause-ok : goal.returns-clause-ok
returns-clause-ok g c =
    contents_more c.args.lists.now.items c.args.at c.index_mut-list.result.now c.push.new.self c.args.item c.requires c.index_mut-list.ensures.value
    c.in_ok-push.ensures.items
