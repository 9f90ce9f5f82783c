use Rattle.std.proofs.Common.{ℕ, List, Option, IfOk, IfErr, length}
use Rattle.std.specs.List.{All}
use Rattle.mr_script.specs.declared.expectation.Expectation.{Expectation}
use Rattle.mr_explore_search.specs.Steps.{IsNotFull}
use Rattle.mr_explore_search.specs.Parting.{Parted}
use Rattle.mr_explore_threads.specs.inner.Counting.{IsCountedAt}
use Rattle.mr_explore.specs.Runs.{Exploring}
use Rattle.mr_explore_threads.proofs.counting.gathered.Given as goal

-- those that are left are counted, and those so far
abbrev pub invariant-loop-some : goal.invariant-loop-some
invariant-loop-some l =
    ((most : ℕ) (goal : Option (List Expectation)) (parts : Parted Exploring) → All (λ some. IfOk some (λ all. All (IsCountedAt most goal parts) all.items)) l.fn.each.items
    → All (λ some. IfOk some (λ all. All (IsCountedAt most goal parts) all.items)) l.each.items × All (IsCountedAt most goal parts) l.all.items)
    × (All (λ some. IfErr some IsNotFull) l.fn.each.items → All (λ some. IfErr some IsNotFull) l.each.items)

abbrev pub decreases-loop-some : goal.decreases-loop-some
decreases-loop-some l = length l.each.items
