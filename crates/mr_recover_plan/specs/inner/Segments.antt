-- Why the records of one segment are not read, and the latest generation behind records.
use Rattle.std.specs.Prelude.{ℕ, List, [], ◌∷◌, Option, Some, None, cond, nat_lt, option_and_then}
use Rattle.mr_history.specs.declared.record.Record.{Record}
use Rattle.mr_recover_plan.specs.Order.{generation_told}
use Rattle.mr_recover_plan.specs.Plans.{IsRefused}
use Rattle.mr_recover_plan.specs.declared.fault.PlanFault.{PlanFault}
use Rattle.mr_recover_plan.specs.declared.fault.PlanFault.TheVariants as fault

abbrev pub FailsAt : ℕ → List Record → List ℕ → PlanFault → Type 0
FailsAt n before bytes (fault.BadLine s l) = IsRefused n before bytes (fault.BadLine s l)
FailsAt n before bytes (fault.EarlierGeneration s) = IsRefused n before bytes (fault.EarlierGeneration s)
FailsAt n before bytes fault.NoMemory = Unit {0}

-- behind a record, where it is not of an earlier generation than k
abbrev pub latest_of : ℕ → Option ℕ → Option ℕ
latest_of k None = Some k
latest_of k (Some g) = cond (nat_lt g k) None (Some g)

-- the latest generation behind these records, where none is of an earlier one than k or one before it
abbrev pub latest_behind : ℕ → List Record → Option ℕ
latest_behind k [] = Some k
latest_behind k (r ∷ rs) = option_and_then (λ j. latest_behind j rs) (latest_of k (generation_told r))
