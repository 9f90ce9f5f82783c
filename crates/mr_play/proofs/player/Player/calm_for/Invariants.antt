use Rattle.mr_play.proofs.Calmly.{Left}
use Rattle.mr_play.proofs.player.Player.calm_for.Given as goal

-- what is left of the events makes what all make
abbrev pub invariant-loop : goal.invariant-loop
invariant-loop l = Left l.initial.self l.self l.k l.stop l.most l.counter
