use Rattle.std.proofs.Common.{refl}
use Rattle.mr_world_state.proofs.Histories.{leaves, stays, changes}
use Rattle.mr_world_state.proofs.parts.Parts.happen.Goals as goal

pub returns-in-LaunchOn-clause-history : goal.returns-in-LaunchOn-clause-history
returns-in-LaunchOn-clause-history c = stays c.args.self.now c.launch.new.self c.launch.result c.in-LaunchOn.is (λ w. refl) c.launch.ensures.history

pub returns-in-Deliver-clause-history : goal.returns-in-Deliver-clause-history
returns-in-Deliver-clause-history c = stays c.args.self.now c.deliver.new.self c.deliver.result c.in-Deliver.is (λ w. refl) c.deliver.ensures.history

pub returns-in-ContainerStep-clause-history : goal.returns-in-ContainerStep-clause-history
returns-in-ContainerStep-clause-history c = stays c.args.self.now c.step.new.self c.step.result c.in-ContainerStep.is (λ w. refl) c.step.ensures.history

pub returns-in-Computed-clause-history : goal.returns-in-Computed-clause-history
returns-in-Computed-clause-history c = stays c.args.self.now c.hand_in.new.self c.hand_in.result c.in-Computed.is (λ w. refl) c.hand_in.ensures.history

pub returns-in-Die-clause-history : goal.returns-in-Die-clause-history
returns-in-Die-clause-history c = stays c.args.self.now c.die.new.self c.die.result c.in-Die.is (λ w. refl) c.die.ensures.history

pub returns-in-NodeRestart-clause-history : goal.returns-in-NodeRestart-clause-history
returns-in-NodeRestart-clause-history c = stays c.args.self.now c.restart.new.self c.restart.result c.in-NodeRestart.is (λ w. refl) c.restart.ensures.history

pub returns-in-Expire-clause-history : goal.returns-in-Expire-clause-history
returns-in-Expire-clause-history c = stays c.args.self.now c.expire.new.self c.expire.result c.in-Expire.is (λ w. refl) c.expire.ensures.history

pub returns-in-Start-clause-history : goal.returns-in-Start-clause-history
returns-in-Start-clause-history c = changes c.args.self.now c.start.new.self c.start.result c.in-Start.is (λ w. refl) c.start.ensures.raises c.start.ensures.kept

pub returns-in-Crash-clause-history : goal.returns-in-Crash-clause-history
returns-in-Crash-clause-history c = changes c.args.self.now c.crash.new.self c.crash.result c.in-Crash.is (λ w. refl) c.crash.ensures.seals c.crash.ensures.kept

pub returns-in-Duty-clause-history : goal.returns-in-Duty-clause-history
returns-in-Duty-clause-history c = leaves c.args.self.now c.duty.new.self c.duty.result c.in-Duty.is c.duty.ensures.calls c.duty.ensures.kept
