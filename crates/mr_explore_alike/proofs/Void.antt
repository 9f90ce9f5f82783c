-- Of a void run it comes itself, and nothing else.
use Rattle.std.proofs.Common.{◌≡◌, ℕ, Bool, true, false, List, None, refl}
use Rattle.mr_explore_search.specs.Steps.{Ends, Steps}
use Rattle.mr_explore_search.specs.Runs.{Found, Run}
use Rattle.mr_explore_search.specs.Laws.{Departs, Has_ended, Has_made_all, Would_pass, Went, Was_befallen, Came_later}

pub true-is-not-false : {b : Bool} → b ≡ true → b ≡ false → ⊥
true-is-not-false h g = cc

pub either : {P : Type 0} (b : Bool) → (b ≡ true → P) → (b ≡ false → P) → P
either true f g = f refl
either false f g = g refl

module _ {S F : Type 0} (steps : Steps S F) where
  pub itself : (most total n ripe left : ℕ) (o : List F) (s : S) (q : Found S) → (steps.onward s ≡ Ends s) × ((f : F) → steps.befallen f s ≡ None)
      → Departs steps most total n ripe left o s q → q ≡ Run total s
  itself most total m i a os v q e (Has_ended ripe left o s t w) = let x = e.0 in cc
  itself most total m i a os v q e (Has_made_all ripe o s) = refl
  itself most total m i a os v q e (Would_pass n ripe left o s w) = let x = e.0 in cc
  itself most total m i a os v q e (Went n ripe left o s t r w d) = let x = e.0 in cc
  itself most total m i a os v q e (Was_befallen n ripe left o s t r f may w d) = let x = e.1 f in cc
  itself most total m i a os v q e (Came_later n ripe left o s t r place f lt g w d) = let x = e.1 f in cc
