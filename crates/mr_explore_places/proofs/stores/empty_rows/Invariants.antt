use Rattle.mr_explore_alike.specs.Leaving.{Here}
use Rattle.mr_explore_places.specs.Keeping.{IsKept}
use Rattle.mr_explore_places.proofs.stores.empty_rows.Given as goal

-- nothing is kept
abbrev pub invariant-loop : goal.invariant-loop
invariant-loop g l = (h : Here g.row.R.Denot g.row.F.Denot) → IsKept l.rows.items h → ⊥
