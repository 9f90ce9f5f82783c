-- What the lines of a job's attempts at reduces begin with.
use Rattle.std.specs.Prelude.{ℕ, List, ◌++◌, codes}
use Rattle.mr_ids.specs.declared.id.JobId.{JobId}
use Rattle.mr_ids.specs.declared.id.TaskKind.TheVariants.{Reduce}
use Rattle.mr_ids.specs.Attempt.{Attempt}
use Rattle.mr_ids.specs.Text.{numeral}

abbrev pub front_text : JobId → List ℕ
front_text j = codes "{\"attempt\":\"attempt_" ++ (numeral 1 j.start ++ (codes "_" ++ (numeral 4 j.number ++ codes "_r_")))

abbrev pub attempt_of : JobId → ℕ → ℕ → Attempt
attempt_of j task number = record { task = record { job = j; kind = Reduce; number = task }; number = number }
