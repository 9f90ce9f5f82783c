use Rattle.std.proofs.Common.{◌≡◌, drop}
use Rattle.mr_world_model.specs.Records.{winner_in}
use Rattle.mr_world.proofs.winners.winner_of.Given as goal

-- who wins by the records that are left is who wins by all
abbrev pub invariant-loop-entry : goal.invariant-loop-entry
invariant-loop-entry l = winner_in (drop l.entry-index l.told) l.task ≡ winner_in l.told l.task
