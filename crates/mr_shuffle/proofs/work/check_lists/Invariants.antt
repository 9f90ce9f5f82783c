use Rattle.std.proofs.Common.{◌≡◌, drop}
use Rattle.std.specs.Result.{result_err}
use Rattle.mr_user.specs.Computation.{computation}
use Rattle.mr_shuffle.specs.Part.{pairs_of_pieces}
use Rattle.mr_shuffle.proofs.AllPieces.{lent}
use Rattle.mr_shuffle.proofs.work.check_lists.Given as goal

abbrev pub invariant-loop-list : goal.invariant-loop-list
invariant-loop-list g l =
    let all = computation g.J.Key.Ord.cmp g.J.Key.Wire.codec g.J.Value.Wire.codec g.J.Job.functions in
    result_err (pairs_of_pieces all (lent l.lists)) ≡ result_err (pairs_of_pieces all (lent (drop l.list-index l.lists)))
