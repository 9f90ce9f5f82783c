use Rattle.mr_play.specs.Players.{Notes}
use Rattle.mr_play.proofs.Players.{noted_by, played_by}
use Rattle.mr_play.proofs.player.Player.play.Given as goal

-- it is where the commands so far lead, and noted what they made
abbrev pub invariant-loop-line : goal.invariant-loop-line
invariant-loop-line l = Notes l.fn.self (played_by l.fn.self l.yielded) (noted_by l.fn.self l.yielded) l.self
