use Rattle.std.proofs.Common.{◌≡◌, ◌⊎◌, suc}
use Rattle.mr_explore_alike.specs.Leaving.{Here}
use Rattle.mr_explore_places.specs.Places.{IsWithin}
use Rattle.mr_explore_places.specs.Keeping.{IsHeld}
use Rattle.mr_explore_places.proofs.Within.{IsAt}
use Rattle.mr_explore_places.proofs.trail.keep_places.Given as goal

-- the place is so many steps behind the first one, and those up to it may be kept
abbrev pub invariant-loop : goal.invariant-loop
invariant-loop g l = IsAt g.R.Run.steps l.counter l.fn.level.place l.place × ((x : Here g.row.R.Denot g.row.R-Fault.Denot) → IsHeld l.stores x → IsWithin g.R.Run.steps (λ h. h ≡ x) (suc l.counter) l.fn.level.place ⊎ IsHeld l.fn.stores x)
