use Rattle.std.proofs.Common.{refl, arith}
use Rattle.mr_world_state.proofs.Comparing.{first_same, all_same}
use Rattle.mr_world_state.proofs.masters.Masters.is_same.Goals as goal

pub loop-place-init : goal.loop-place-init
loop-place-init c = first_same c.args.self.now c.args.other.now

pub returns : goal.returns
returns c = (λ t. all_same c.args.self.now c.args.other.now c.loop-place.place (omega arith) (omega arith) c.loop-place.invariant, λ all. refl)
