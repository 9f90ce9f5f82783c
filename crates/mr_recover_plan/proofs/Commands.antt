-- The plan that was found is said.
use Rattle.std.proofs.Common.{ℕ, List, IfOk, IfErr, Result, Ok, Err}
use Rattle.mr_recover.specs.declared.plan.Recovery.{Recovery}
use Rattle.mr_recover.specs.declared.plan.Staging.{Staging}
use Rattle.mr_recover_plan.specs.Plans.{PlanFails, PlannedAs, Plans}
use Rattle.mr_recover_plan.specs.declared.fault.PlanFault.{PlanFault}

pub planned_as : (segments : List (List ℕ)) (staging : Staging) (planned : Result Recovery PlanFault) → IfOk planned (λ plan. Plans segments staging plan) → IfErr planned (PlanFails segments) →
    PlannedAs segments staging planned
planned_as segments staging (Ok plan) ok bad = ok
planned_as segments staging (Err e) ok bad = bad
