use Rattle.std.proofs.Common.{◌≡◌, ◌≤◌, ◌+◌, ◌++◌, List, length, Some}
use Rattle.mr_user.specs.Computation.{computation}
use Rattle.mr_user.specs.inner.Gathered.{IsGathered}
use Rattle.mr_user.specs.Sequential.{both, lines_of, pairs_of_lines, pairs_of_split}
use Rattle.mr_user.proofs.gathering.gather_split.Given as goal

abbrev pub invariant-loop-rest : goal.invariant-loop-rest
invariant-loop-rest g l =
    let all = computation g.J.Key.Ord.cmp g.J.Key.Wire.codec g.J.Value.Wire.codec g.J.Job.functions in
    record {
      seen : List (g.row.J-Key.Denot × g.row.J-Value.Denot);
      pairs : pairs_of_split all l.number l.fn.bytes ≡ both (Some seen) (pairs_of_lines all l.number l.line_no (lines_of l.rest));
      many : length l.parts.items ≡ l.reduces;
      gathered : (done : List (g.row.J-Key.Denot × g.row.J-Value.Denot)) → IsGathered all l.reduces l.fn.parts.items done → IsGathered all l.reduces l.parts.items (done ++ seen);
      count : l.line_no + length l.rest ≤ length l.fn.bytes;
    }

abbrev pub decreases-loop-rest : goal.decreases-loop-rest
decreases-loop-rest g l = length l.rest
