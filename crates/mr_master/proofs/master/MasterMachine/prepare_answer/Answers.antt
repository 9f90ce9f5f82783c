use Rattle.std.proofs.Common.{subst}
use Rattle.mr_master_model.specs.Past.{Answered}
use Rattle.mr_master_model.specs.Next.{seen}
use Rattle.mr_master_events.specs.mr_master_state.specs.Prepared.{PlansFor}
use Rattle.mr_master_events.specs.mr_master_state.specs.State.{Master}
use Rattle.mr_master_events.specs.mr_master_state.proofs.Keeping.{held}
use Rattle.mr_master.proofs.Owning.{is-placed}
use Rattle.mr_master.proofs.Past_stays.{none-live}
use Rattle.mr_master.proofs.master.MasterMachine.prepare_answer.Goals as goal

pub returns-clause-sent : goal.returns-clause-sent
returns-clause-sent c = λ w past k. c.in_ok-prepared.ensures.sent w (seen w past) (held c.self.view_is k)

pub ready_for-requires-clause-none_live : goal.ready_for-requires-clause-none_live
ready_for-requires-clause-none_live c = none-live c.self.inside.machine c.self.inside.passed c.self.invariant

pub ready_for-requires-clause-placed : goal.ready_for-requires-clause-placed
ready_for-requires-clause-placed c = is-placed c.self.inside.machine c.self.invariant.0 c.self.invariant.1

pub returns-clause-planned : goal.returns-clause-planned
returns-clause-planned c = subst (λ (x : Master). PlansFor x (Answered c.args.answer) c.in_ok-prepared.prepared) c.self.view_is c.in_ok-prepared.ensures
