use Rattle.std.proofs.Common.{◌∙◌, ap, [], ◌++◌}
use Rattle.mr_ids.specs.declared.id.TaskId.{TaskId}
use Rattle.mr_ids.specs.declared.id.TaskKind.TheVariants.{Map}
use Rattle.mr_master_model.specs.declared.setting.Setting.{Setting}
use Rattle.mr_master_model.specs.Readings.{newest_in}
use Rattle.mr_master_model.specs.Answered.{taken, taken_of}
use Rattle.mr_master_state.proofs.Keeping.{held}
use Rattle.mr_master_state.proofs.Gathering.{no-task}
use Rattle.mr_master_state.proofs.Losing.{next-map}
use Rattle.mr_master_calls.proofs.takeover.all_taken.Goals as goal

pub loop-number-init : goal.loop-number-init
loop-number-init c = λ w s keeps. c.new-attempts.ensures.items ∙ no-task w Map (taken_of s) []

pub loop-number-preserved : goal.loop-number-preserved
loop-number-preserved c = λ w s keeps.
    let n = c.loop-number.number in
    next-map w (taken_of s) n [] c.loop-number.attempts.items c.push_taken.new.attempts.items (c.loop-number.invariant w s keeps)
    (c.in_ok-push_taken.ensures w s keeps
    ∙ ap (λ (v : Setting). let t : TaskId = record { job = v.job; kind = Map; number = n } in c.loop-number.attempts.items ++ taken s (newest_in s.earlier t)) (held c.master.view_is keeps).setting)
