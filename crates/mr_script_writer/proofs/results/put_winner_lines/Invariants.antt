use Rattle.std.proofs.Common.{◌≡◌, ◌++◌, drop}
use Rattle.mr_script_writer.specs.Results.{winners_text}
use Rattle.mr_script_writer.proofs.results.put_winner_lines.Given as goal

abbrev pub invariant-loop-reduce : goal.invariant-loop-reduce
invariant-loop-reduce l = l.out.items ++ winners_text l.reduce (drop l.reduce l.winners) ≡ l.fn.out.items ++ winners_text 0 l.winners
