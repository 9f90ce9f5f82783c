use Rattle.std.proofs.Common.{◌≡◌, drop, map}
use Rattle.std.specs.List.{list_any}
use Rattle.std.specs.Str.{bytes_eq}
use Rattle.mr_out_winners.specs.Tasks.{Part, as_part}
use Rattle.mr_out_winners.proofs.finding.has_part.Given as goal

abbrev pub invariant-loop-task : goal.invariant-loop-task
invariant-loop-task l = list_any (λ (p : Part). bytes_eq p.name l.name) (map as_part (drop l.task-index l.tasks)) ≡ list_any (λ (p : Part). bytes_eq p.name l.name) (map as_part l.tasks)
