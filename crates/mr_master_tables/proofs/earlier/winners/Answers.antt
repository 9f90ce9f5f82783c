use Rattle.std.proofs.Common.{◌∙◌, ap, List}
use Rattle.mr_ids.specs.declared.id.TaskKind.TheVariants.{Reduce}
use Rattle.mr_recover.specs.declared.winner.TaskWinner.{TaskWinner}
use Rattle.mr_recover.specs.Plan.{listed}
use Rattle.mr_master_model.specs.Job.{task_of}
use Rattle.mr_master_tables.proofs.Listing.{among-none, among-more}
use Rattle.mr_master_tables.proofs.earlier.winners.Goals as goal

pub loop-number-init : goal.loop-number-init
loop-number-init c = c.new-winners.ensures.items ∙ among-none c.args.setting.now c.args.records.now

pub loop-number-preserved : goal.loop-number-preserved
loop-number-preserved c =
    let t = task_of c.args.setting.now Reduce c.loop-number.number in
    c.in_ok-push.ensures
    ∙ among-more c.args.setting.now c.args.records.now c.loop-number.number _ _ c.loop-number.invariant
    (c.of.ensures ∙ c.in_ok-by_task.ensures t ∙ ap (λ (ws : List TaskWinner). listed ws t) c.as_slice.ensures ∙ c.in_ok-plan.ensures.exact t)
