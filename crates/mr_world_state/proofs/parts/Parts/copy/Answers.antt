use Rattle.std.proofs.Common.{refl}
use Rattle.mr_world_state.proofs.Copying.{copied-parts}
use Rattle.mr_world_state.proofs.parts.Parts.copy.Goals as goal

pub returns-clause-stands : goal.returns-clause-stands
returns-clause-stands c = copied-parts c.args.self.now _ c.in_ok-config.ensures c.in_ok-layout.ensures c.in_ok-stores.ensures.names c.in_ok-stores.ensures.history c.in_ok-stores.ensures.bag
    c.in_ok-machines.ensures.masters c.in_ok-machines.ensures.living c.in_ok-machines.ensures.nodes refl
