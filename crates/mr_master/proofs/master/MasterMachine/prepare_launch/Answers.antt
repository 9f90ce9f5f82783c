use Rattle.std.proofs.Common.{subst}
use Rattle.mr_master_model.specs.Past.{Launches}
use Rattle.mr_master_model.specs.Next.{seen}
use Rattle.mr_master_events.specs.mr_master_state.specs.Prepared.{PlansFor}
use Rattle.mr_master_events.specs.mr_master_state.specs.State.{Master}
use Rattle.mr_master_events.specs.mr_master_state.proofs.Keeping.{held}
use Rattle.mr_master.proofs.master.MasterMachine.prepare_launch.Goals as goal

pub returns-clause-sent : goal.returns-clause-sent
returns-clause-sent c = λ w past k. c.in_ok-prepared.ensures.planned.sent w (seen w past) (held c.self.view_is k)

pub prepare_launch-requires : goal.prepare_launch-requires
prepare_launch-requires c = (c.self.invariant.0, c.self.invariant.1)

pub returns-clause-planned : goal.returns-clause-planned
returns-clause-planned c = subst (λ (x : Master). PlansFor x (Launches c.args.task c.args.node) c.in_ok-prepared.prepared) c.self.view_is c.in_ok-prepared.ensures.planned
