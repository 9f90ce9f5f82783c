use Rattle.std.specs.String.{string_bytes}
use Rattle.mr_out_program.specs.Shown.{AreTaskLines}
use Rattle.mr_out_program.proofs.standing.tasks_text.Given as goal

abbrev pub invariant-loop-number : goal.invariant-loop-number
invariant-loop-number l = AreTaskLines l.json l.directory.job l.records l.number (string_bytes l.out)
