-- Why there is no report of a run is why there is none of its world.
use Rattle.std.proofs.Common.{◌≡◌, ◌⊎◌, List, Option, Some, None, Result, Ok, Err, IfErr, refl, ap, subst, sym, inl, inr, ◌∙◌}
use Rattle.mr_board.specs.mr_world.specs.Journal.{Journal}
use Rattle.mr_board.specs.Boards.{Seated}
use Rattle.mr_board_report.specs.Following.{Follows, Planned}
use Rattle.mr_board_report.specs.Reports.{IsAccounted, IsCut, IsOf, IsThrough, IsUndriven, IsUnreported, IsUntold}
use Rattle.mr_board_report.specs.Runs.{Running}
use Rattle.mr_board_report.specs.declared.fault.DriveFault.{DriveFault}
use Rattle.mr_board_report.specs.declared.fault.DriveFault.TheVariants.{JournalMismatch, NoMemory}
use Rattle.mr_board_report.specs.declared.plan.Plan.{Plan}
use Rattle.mr_board_report.specs.declared.report.Report.{Report}
use Rattle.mr_board_report.specs.declared.unreported.Unreported.{Unreported}

-- of a run that is the plan's, and accounted for
unreported : (plan : Plan) (r : Running) (stop : Option DriveFault) (seats : List Seated) (w : Journal) (f : DriveFault) (o : Option Journal) → IsOf plan r → IsAccounted r seats → w ≡ r.world → IsUntold stop w f o → IsUnreported plan r stop seats f o
unreported plan r stop seats w f None is account same why = absurd why
unreported plan r stop seats w f (Some j) is account same why = (why.0 ∙ same, is, account, why.1)

-- what a driver hears of it
heard : (stop : Option DriveFault) (j : Journal) (f : DriveFault) → IsCut stop j f → (IsThrough j → ⊥) ⊎ (f ≡ NoMemory)
heard stop j f (inl short) = inl short.1
heard stop j f (inr memory) = inr memory.0

undriven : (plan : Plan) (stop : Option DriveFault) (w : Journal) (f : DriveFault) (o : Option Journal) → w.config ≡ plan.config → Follows plan w → IsUntold stop w f o → IsUndriven plan f o
undriven plan stop w f None same follows why = absurd why
undriven plan stop w f (Some j) same follows why = (ap (λ (x : Journal). x.config) why.0 ∙ same, subst (Follows plan) (sym why.0) follows, heard stop j f why.1)

-- the same of an answer
pub unreported_told : (plan : Plan) (r : Running) (stop : Option DriveFault) (seats : List Seated) (w : Journal) (told : Result Report Unreported) → IsOf plan r → IsAccounted r seats → w ≡ r.world
    → IfErr told (λ u. IsUntold stop w u.fault u.world) → IfErr told (λ u. IsUnreported plan r stop seats u.fault u.world)
unreported_told plan r stop seats w (Ok x) is account same why = tt
unreported_told plan r stop seats w (Err u) is account same why = unreported plan r stop seats w u.fault u.world is account same why

pub undriven_told : (plan : Plan) (stop : Option DriveFault) (w : Journal) (told : Result Report Unreported) → w.config ≡ plan.config → Follows plan w → IfErr told (λ u. IsUntold stop w u.fault u.world) → IfErr told (λ u. IsUndriven plan u.fault u.world)
undriven_told plan stop w (Ok x) same follows why = tt
undriven_told plan stop w (Err u) same follows why = undriven plan stop w u.fault u.world same follows why

-- of another plan, or of other seats
module _ (plan : Plan) (u : Unreported) (is : u ≡ record { fault = JournalMismatch; world = None }) where
  pub unaccounted_is : (r : Running) (stop : Option DriveFault) (seats : List Seated) → ¬ (IsOf plan r × IsAccounted r seats) → IsUnreported plan r stop seats u.fault u.world
  unaccounted_is r stop seats other = subst (λ (x : Unreported). IsUnreported plan r stop seats x.fault x.world) (sym is) (refl, other)

  pub unaccounted_heard : IsUndriven plan u.fault u.world
  unaccounted_heard = subst (λ (x : Unreported). IsUndriven plan x.fault x.world) (sym is) (inr refl)

-- a run is as its plan says
pub follows_of : (plan : Plan) (r : Running) → IsOf plan r → Planned r.faults r.came r.world → Follows plan r.world
follows_of plan r is planned = (r.came, subst (λ fs. Planned fs r.came r.world) is.1 planned)
