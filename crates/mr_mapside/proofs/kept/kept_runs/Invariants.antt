use Rattle.std.proofs.Common.{◌≡◌, ◌≤◌, ◌+◌, List, length, Some}
use Rattle.mr_user.specs.Computation.{computation}
use Rattle.mr_user.specs.Sequential.{both, lines_of, pairs_of_lines, pairs_of_split}
use Rattle.mr_mapside.specs.inner.Kept.{Kept}
use Rattle.mr_mapside.proofs.kept.kept_runs.Given as goal

abbrev pub invariant-loop-rest : goal.invariant-loop-rest
invariant-loop-rest g l =
    let job = computation g.J.Key.Ord.cmp g.J.Key.Wire.codec g.J.Value.Wire.codec g.J.Job.functions in
    record {
      done : List (g.row.J-Key.Denot × g.row.J-Value.Denot);
      pairs : pairs_of_split job l.number l.fn.split ≡ both (Some done) (pairs_of_lines job l.number l.line_no (lines_of l.rest));
      kept : Kept job l.reduces l.kept.items l.run.items done;
      count : l.line_no + length l.rest ≤ length l.fn.split;
    }

abbrev pub decreases-loop-rest : goal.decreases-loop-rest
decreases-loop-rest g l = length l.rest
