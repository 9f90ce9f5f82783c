-- How an exploration is begun.
use Rattle.std.proofs.Common.{ℕ, List, Result, Ok, Err, IfOk}
use Rattle.mr_sim_commands.specs.declared.fault.SimFault.{SimFault}
use Rattle.mr_explore.specs.declared.asked.Asked.{Asked}
use Rattle.mr_explore.specs.Explored.{goal_of}
use Rattle.mr_explore.specs.Exploring.{Begins, Remaining}
use Rattle.mr_explore_threads.specs.inner.Begun.{IsBegun}
use Rattle.mr_explore_threads.proofs.Advancing.{none_yet}

-- no run was made yet
pub alone : (asked : Asked) (input : List ℕ) (r : Result Remaining SimFault) → IfOk r (Begins input asked.deep asked.faults) → IfOk r (IsBegun asked input)
alone asked input (Ok x) b = record { start = x; begins = b; goes = none_yet asked.most (goal_of asked) x }
alone asked input (Err f) b = b
