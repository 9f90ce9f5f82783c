use Rattle.std.proofs.Common.{◌≡◌, drop}
use Rattle.mr_history.specs.Winner.{winner_in}
use Rattle.mr_out_machine.proofs.standing.winner.Given as goal

abbrev pub invariant-loop-told : goal.invariant-loop-told
invariant-loop-told l = winner_in l.records l.task ≡ winner_in (drop l.told-index l.records) l.task
