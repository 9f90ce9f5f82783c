use Rattle.std.proofs.Common.{[], ◌++◌, sym, ap, subst, ◌∙◌, take_all}
use Rattle.std.specs.List.{filter_map, cons_option, AllByRecursion}
use Rattle.mr_log_standing.specs.inner.Choosing.{choice, IsMine}
use Rattle.mr_log_standing.proofs.Asked.{picked_more}
use Rattle.mr_log_standing.proofs.Choosings.{apart-is, apart-mine}
use Rattle.mr_log_standing.proofs.standings.Standings.apart.Goals as goal

pub loop-item-preserved : goal.loop-item-preserved
loop-item-preserved c =
    c.in_ok-push_found.ensures
    ∙ (λ j. c.loop-item.invariant j ++ cons_option (c.choice.ensures j) [])
    ∙ sym (picked_more (choice c.args.cut c.args.self.now.job c.args.host.now c.args.self.now.entries c.task-task.result) c.notes-kept.result.now c.loop-item.item-index c.item-item.result c.loop-item-test.true c.item-item.is)

pub returns-clause-is : goal.returns-clause-is
returns-clause-is c =
    c.loop-item.invariant
    ∙ ap (λ ns. filter_map (choice c.args.cut c.args.self.now.job c.args.host.now c.args.self.now.entries c.task-task.result) ns) (take_all c.loop-item.item-index c.notes-kept.result.now c.loop-item-test.false)
    ∙ apart-is c.args.cut c.args.self.now.job c.args.host.now c.args.self.now.entries c.args.n c.task-task.result c.notes-kept.result.now c.task-task.ensures c.notes-kept.ensures

pub returns-clause-mine : goal.returns-clause-mine
returns-clause-mine c =
    subst (λ xs. AllByRecursion (IsMine c.args.self.now.job) xs)
    (sym (c.loop-item.invariant
    ∙ ap (λ ns. filter_map (choice c.args.cut c.args.self.now.job c.args.host.now c.args.self.now.entries c.task-task.result) ns) (take_all c.loop-item.item-index c.notes-kept.result.now c.loop-item-test.false)
    ∙ apart-is c.args.cut c.args.self.now.job c.args.host.now c.args.self.now.entries c.args.n c.task-task.result c.notes-kept.result.now c.task-task.ensures c.notes-kept.ensures))
    (apart-mine c.args.cut c.args.self.now.job c.args.host.now c.args.self.now.entries c.args.n)
