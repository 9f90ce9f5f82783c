use Rattle.std.proofs.Common.{refl, sym, ap, subst, ◌∙◌, length, true}
use Rattle.mr_master_state.specs.mr_master_tasks.specs.Tasks.{Tasks, KeepsTasks}
use Rattle.mr_master_state.specs.State.{Master}
use Rattle.mr_master_state.specs.mr_master_phase.specs.Taking.{winner_of, calls_with}
use Rattle.mr_master_state.proofs.Keeping.{held}
use Rattle.mr_master_calls.proofs.Taken.{begins-so}
use Rattle.mr_master_calls.proofs.takeover.tasks_after.Goals as goal

pub returns : goal.returns
returns c = λ w s keeps.
    begins-so _ w s (winner_of c.args.master.now.work) true refl
    (c.in_ok-enter_maps.ensures w s keeps (calls_with (winner_of c.args.master.now.work) s.calls)
    (c.in_ok-enter_winner.ensures w s keeps (subst (λ (x : Tasks). KeepsTasks x w s.calls) (sym c.in_ok-tasks.ensures) (held c.master.view_is keeps).tasks)))

pub enter_winner-requires-clause-tasks : goal.enter_winner-requires-clause-tasks
enter_winner-requires-clause-tasks c = ap (λ (x : Tasks). length x.machines) c.in_ok-tasks.ensures ∙ ap (λ (m : Master). length m.tasks.machines) c.master.view_is
