-- The limits of a job that is submitted: our own profile.
use Rattle.std.specs.Prelude.{◌≤◌, ◌<◌, ◌^◌, ℕ, length, All}
use Rattle.mr_world_events.specs.declared.plan.PlanAct.{PlanAct}
use Rattle.mr_world_events.specs.declared.plan.PlanAct.TheVariants.{Node, Master, Expire}
use Rattle.mr_world_events.specs.declared.plan.PlanFault.{PlanFault}
use Rattle.mr_sim_commands.specs.declared.job.submission.Submission.{Submission}

-- the node that restarts or is given up is one of these
abbrev pub IsOfNodes : ℕ → PlanAct → Type 0
IsOfNodes nodes (Node node) = node < nodes
IsOfNodes nodes (Master kept) = Unit {0}
IsOfNodes nodes (Expire node) = node < nodes

-- a fault comes after at most 1,000,000 events, and its node is there
pub record IsPlanned (nodes : ℕ) (f : PlanFault) : Type 0 where
  pub after : f.after ≤ 1000000
  pub of_nodes : IsOfNodes nodes f.act

pub record IsWithinLimits (s : Submission) : Type 0 where
  pub some_reduces : 1 ≤ s.reduces
  pub most_reduces : s.reduces ≤ 1000
  pub few_splits : length s.splits ≤ 1000
  pub short_splits : All (λ split. length split ≤ 2 ^ 24) s.splits
  pub some_nodes : 1 ≤ s.nodes
  pub most_nodes : s.nodes ≤ 64
  pub some_limit : 1 ≤ s.limit
  pub most_limit : s.limit ≤ 100
  pub few_faults : length s.faults ≤ 100
  pub planned_faults : All (IsPlanned s.nodes) s.faults
  pub some_v2_from : 1 ≤ s.v2_from
  pub most_v2_from : s.v2_from ≤ 1000
