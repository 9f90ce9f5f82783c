-- Runs that are on their way.
use Rattle.std.proofs.Common.{◌≡◌, ◌<◌, ℕ, suc, ◌+◌, [], slice_get, Some, sym, subst, arith}
use Rattle.mr_explore_search.specs.Steps.{Goes, Ends, Full, Steps}
use Rattle.mr_explore_search.specs.Runs.{Run, PassesLimit}
use Rattle.mr_explore_search.specs.Laws.{Departs, Has_ended, Would_pass, Went, Was_befallen, Came_later, In, IsOneBy}
use Rattle.mr_explore_alike.specs.Leaving.{Here}
use Rattle.mr_explore_places.specs.Places.{DepartsByFault, DepartsLate, IsOnItsWay, beginning, behind_fault, behind_owed, behind_step}

module _ {S F : Type 0} (steps : Steps S F) (budget most : ℕ) (first : S) where
  abbrev OnWay : (left : ℕ) → Here S F → Type 0
  OnWay left h = IsOnItsWay steps budget most first left h

  pub begins : OnWay most (beginning first)
  begins = (
    omega arith,
    λ total n r d.
        let same : n ≡ 0 + n = omega arith in
        subst (λ (z : ℕ). Departs steps most total z 0 most [] first r) same d,
  )

  pub goes_on : (left : ℕ) (h : Here S F) (t : S) → OnWay (suc left) h → steps.onward h.run ≡ Goes t → OnWay left (behind_step h t)
  goes_on left h t w e = (w.0, λ total n r d. w.1 total n r (Went n h.ripe left h.owed h.run t r e d))

  pub is_one : (left : ℕ) (h : Here S F) (t : S) → OnWay (suc left) h → steps.onward h.run ≡ Ends t → IsOneBy steps most budget first (Run h.faults t)
  is_one left h t w e =
      let same : h.faults + 0 ≡ h.faults = omega arith in
      (h.faults, w.0, subst (λ (z : ℕ). Departs steps most h.faults z 0 most [] first (Run h.faults t)) same (w.1 h.faults 0 (Run h.faults t) (Has_ended h.ripe left h.owed h.run t e)))

  pub would_pass : (left : ℕ) (h : Here S F) → OnWay (suc left) h → steps.onward h.run ≡ Full → IsOneBy steps most budget first PassesLimit
  would_pass left h w e =
      let same : h.faults + 0 ≡ h.faults = omega arith in
      (h.faults, w.0, subst (λ (z : ℕ). Departs steps most h.faults z 0 most [] first PassesLimit) same (w.1 h.faults 0 PassesLimit (Would_pass 0 h.ripe left h.owed h.run e)))

  befallen_way : (left : ℕ) (h : Here S F) (f : F) (t : S) → OnWay left h → h.faults < budget → In f (steps.faults h.run) → steps.befallen f h.run ≡ Some t → OnWay most (behind_fault steps h f t)
  befallen_way left h f t w few i e = (
    omega (arith, few),
    λ total n r d.
        let same : h.faults + suc n ≡ suc h.faults + n = omega arith in
        subst (λ (z : ℕ). Departs steps most total z 0 most [] first r) same (w.1 total (suc n) r (Was_befallen n h.ripe left h.owed h.run t r f i e d)),
  )

  pub is_befallen : (left : ℕ) (h x : Here S F) → OnWay left h → DepartsByFault steps budget x h → OnWay most x
  is_befallen left h x w d = subst (λ (z : Here S F). OnWay most z) (sym d.5) (befallen_way left h d.0 d.1 w d.3 d.2 d.4)

  come_way : (left : ℕ) (h : Here S F) (at : ℕ) (f : F) (t : S) → OnWay left h → at < h.ripe → slice_get h.owed at ≡ Some f → steps.befallen f h.run ≡ Some t → OnWay most (behind_owed h at t)
  come_way left h at f t w few g e = (w.0, λ total n r d. w.1 total n r (Came_later n h.ripe left h.owed h.run t r at f few g e d))

  pub has_come : (left : ℕ) (h x : Here S F) → OnWay left h → DepartsLate steps x h → OnWay most x
  has_come left h x w d = subst (λ (z : Here S F). OnWay most z) (sym d.6) (come_way left h d.0 d.1 d.2 w d.3 d.4 d.5)
