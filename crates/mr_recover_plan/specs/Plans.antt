-- The plan for some segments: their records, one segment after the other, as a master of a later generation reads them, and mr_recover's plan for these. A torn end is no
-- record. That a record of a failed job counts as COMMIT_FAIL is our own profile.
use Rattle.std.specs.Prelude.{◌≡◌, ◌⊎◌, ◌+◌, ◌++◌, ◌||◌, ℕ, Bool, true, false, List, [], ◌∷◌, Some, None, Result, Ok, Err}
use Rattle.std.specs.List.{flat_map, list_any}
use Rattle.mr_history.specs.declared.record.Record.{Record}
use Rattle.mr_history.specs.declared.record.Record.TheVariants.{JobUnsuccessful}
use Rattle.mr_history.specs.Reading.{bad_line, records_of}
use Rattle.mr_recover.specs.Plan.{IsPlan}
use Rattle.mr_recover.specs.declared.plan.Recovery.{Recovery}
use Rattle.mr_recover.specs.declared.plan.Staging.{Staging}
use Rattle.mr_recover_plan.specs.Order.{AreInOrder}
use Rattle.mr_recover_plan.specs.declared.fault.PlanFault.{PlanFault}
use Rattle.mr_recover_plan.specs.declared.fault.PlanFault.TheVariants as fault

-- no whole line of them is bad
abbrev pub AreWhole : List (List ℕ) → Type 0
AreWhole [] = Unit {0}
AreWhole (bytes ∷ rest) = (bad_line bytes ≡ None) × AreWhole rest

abbrev pub records_in : List (List ℕ) → List Record
records_in segments = flat_map records_of segments

-- the record tells that the job failed
abbrev pub tells_failure : Record → Bool
tells_failure JobUnsuccessful = true
tells_failure _ = false

-- the marks that decide: a record of a failed job counts as COMMIT_FAIL
abbrev pub deciding : List Record → Staging → Staging
deciding rs staging = record staging { fail = staging.fail || list_any tells_failure rs }

-- ---- which segment is refused, and why

-- what the segment of number n, behind these records, is refused for: its first bad line; or else that a record of it is of an earlier generation than one before it
abbrev pub IsRefused : ℕ → List Record → List ℕ → PlanFault → Type 0
IsRefused n before bytes (fault.BadLine s l) = (s ≡ n) × (bad_line bytes ≡ Some l)
IsRefused n before bytes (fault.EarlierGeneration s) = (s ≡ n) × (bad_line bytes ≡ None) × (AreInOrder (before ++ records_of bytes) → ⊥)
IsRefused n before bytes fault.NoMemory = ⊥

abbrev pub IsTaken : List Record → List ℕ → Type 0
IsTaken before bytes = (bad_line bytes ≡ None) × AreInOrder (before ++ records_of bytes)

-- the first segment that is refused, where those behind these records are numbered from n on
abbrev pub FirstRefused : ℕ → List Record → List (List ℕ) → PlanFault → Type 0
FirstRefused n before [] e = ⊥
FirstRefused n before (bytes ∷ rest) e = IsRefused n before bytes e ⊎ (IsTaken before bytes × FirstRefused (n + 1) (before ++ records_of bytes) rest e)

-- ---- the plan

pub record Plans (segments : List (List ℕ)) (staging : Staging) (plan : Recovery) : Type 0 where
  pub whole : AreWhole segments
  pub order : AreInOrder (records_in segments)
  pub is : IsPlan (records_in segments) (deciding (records_in segments) staging) plan

-- why there is none: the first segment that is refused; there may be an allocation failure at any segments
abbrev pub PlanFails : List (List ℕ) → PlanFault → Type 0
PlanFails segments (fault.BadLine s l) = FirstRefused 1 [] segments (fault.BadLine s l)
PlanFails segments (fault.EarlierGeneration s) = FirstRefused 1 [] segments (fault.EarlierGeneration s)
PlanFails segments fault.NoMemory = Unit {0}

abbrev pub PlannedAs : List (List ℕ) → Staging → Result Recovery PlanFault → Type 0
PlannedAs segments staging (Ok plan) = Plans segments staging plan
PlannedAs segments staging (Err e) = PlanFails segments e
