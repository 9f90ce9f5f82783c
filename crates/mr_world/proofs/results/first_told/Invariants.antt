use Rattle.std.proofs.Common.{◌≡◌, drop}
use Rattle.mr_world_model.specs.Results.{first_told}
use Rattle.mr_world.proofs.results.first_told.Given as goal

-- what is told first by the packets that are left is what is told first by all
abbrev pub invariant-loop-envelope : goal.invariant-loop-envelope
invariant-loop-envelope l = first_told (drop l.envelope-index l.packets) ≡ first_told l.packets
