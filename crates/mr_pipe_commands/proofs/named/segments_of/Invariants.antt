use Rattle.std.proofs.Common.{drop, map}
use Rattle.mr_pipe_commands.proofs.Planning.{HasRead}
use Rattle.mr_pipe_commands.proofs.named.segments_of.Given as goal

abbrev pub invariant-loop-name : goal.invariant-loop-name
invariant-loop-name g l = HasRead (g.I.Inputs.bytes l.inputs) (map (λ n. n.now) l.names) (map (λ n. n.now) (drop l.name-index l.names)) l.segments.items
