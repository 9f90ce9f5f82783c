use Rattle.std.proofs.Common.{◌≡◌, ◌∷◌, ℕ, ◌<◌, true}
use Rattle.mr_explore_workers.specs.inner.Working.{is_taken}
use Rattle.mr_explore_workers.proofs.parted.are_all_taken.Given as goal

-- so many parts were searched
abbrev pub invariant-loop-place : goal.invariant-loop-place
invariant-loop-place g l = (place : ℕ) → place < l.place → is_taken place (l.fn.one ∷ l.fn.others) ≡ true
