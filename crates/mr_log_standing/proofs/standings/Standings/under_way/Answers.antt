use Rattle.std.proofs.Common.{[], ◌++◌, sym, ap, ◌∙◌, take_all}
use Rattle.std.specs.List.{filter_map, cons_option}
use Rattle.mr_log_entries.specs.Recorded.{lines_of}
use Rattle.mr_log_standing.proofs.Asked.{picked, picked_more, under_way_are}
use Rattle.mr_log_standing.proofs.standings.Standings.under_way.Goals as goal

pub loop-item-preserved : goal.loop-item-preserved
loop-item-preserved c =
    c.in_ok-push_found.ensures
    ∙ (λ j. c.loop-item.invariant j ++ cons_option (c.under_way_in.ensures j) [])
    ∙ sym (picked_more (picked c.args.self.now.job (lines_of c.args.self.now.entries) c.task-task.result) c.notes-kept.result.now c.loop-item.item-index c.item-item.result c.loop-item-test.true c.item-item.is)

pub returns : goal.returns
returns c =
    c.loop-item.invariant
    ∙ ap (λ ns. filter_map (picked c.args.self.now.job (lines_of c.args.self.now.entries) c.task-task.result) ns) (take_all c.loop-item.item-index c.notes-kept.result.now c.loop-item-test.false)
    ∙ under_way_are c.args.self.now.job c.args.self.now.entries c.args.n c.task-task.result c.notes-kept.result.now c.task-task.ensures c.notes-kept.ensures
