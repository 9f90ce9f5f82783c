use Rattle.std.proofs.Common.{subst}
use Rattle.mr_shuffle.specs.SequentialText.{AreSplits}
use Rattle.mr_world_model.specs.Packets.{Config}
use Rattle.mr_world_state.proofs.Configs.{are-splits}
use Rattle.mr_world_state.proofs.config.Config.ranges.Goals as goal

pub returns-clause-splits : goal.returns-clause-splits
returns-clause-splits c = subst (λ (cfg : Config). AreSplits cfg.splits) c.self.view_is (are-splits _ c.self.invariant c.tell_bytes.ensures)
