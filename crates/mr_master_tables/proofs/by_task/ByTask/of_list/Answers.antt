use Rattle.std.proofs.Common.{◌∙◌, sym, subst, ap, take, List, ◌++◌, ◌∷◌, []}
use Rattle.std.proofs.lemmas.List.{take_more}
use Rattle.mr_recover.specs.declared.winner.TaskWinner.{TaskWinner}
use Rattle.mr_master_tables.specs.Earlier.{SaysListed}
use Rattle.mr_master_tables.proofs.by_task.ByTask.of_list.Goals as goal

pub loop-winner-preserved : goal.loop-winner-preserved
loop-winner-preserved c =
    let ws = c.args.winners.now in
    let i = c.loop-winner.winner-index in
    let more = take_more ws i c.winner-item.result c.loop-winner-test.true in
    subst (λ (l : List TaskWinner). SaysListed c.note.new.self l) (ap (λ (w : TaskWinner). take i ws ++ w ∷ []) c.winner-item.is ∙ sym more)
    (c.in_ok-note.ensures (take i ws) c.loop-winner.invariant)
