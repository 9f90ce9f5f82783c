-- At every point of its past a master of the cluster acts as its machine, which has seen the same. Our own: it ties two sets of definitions.
use Rattle.std.specs.Prelude.{◌≡◌, ℕ, List}
use Rattle.mr_master_model.specs.Readings as read
use Rattle.mr_master_model.specs.Next as next
use Rattle.mr_world_model.specs.Packets.{Config}
use Rattle.mr_world_model.specs.Hearing.{Seen}
use Rattle.mr_world_model.specs.Duties.{Master_step, seen, next_seen}
use Rattle.mr_world_model.specs.Sending.{step_sends}
use Rattle.mr_world_model.specs.Wanted.{wanted}
use Rattle.mr_world_model.specs.Made.{IsMade, AllMade}
use Rattle.mr_master_refinement.specs.Steps.{setting, step_of}
use Rattle.mr_master_refinement.specs.Agreement.{machine_seen}
use Rattle.mr_master_refinement.specs.Points.{PointAgrees}

-- The phase, the next store call with what it is for, why nothing is launched and no node given up, and the next attempt. Also what is sent at each step
-- that can be made then, which incarnation of each node is known, and the task that is launched next.
pub record MasterAgrees (cfg : Config) (k : ℕ) (s : Seen) (m : read.Seen) : Type 0 where
  pub point : PointAgrees cfg k s m
  pub sends : (x : Master_step) → IsMade cfg k s x → next.sent_by (setting cfg k) m (step_of x) ≡ step_sends cfg s (next_seen cfg k s x) x
  pub known : m.known ≡ s.known
  pub wanted : read.wanted (setting cfg k) m ≡ wanted cfg s

-- Wherever a master's past has led, whatever happened.
abbrev pub MastersAgree : Type 0
MastersAgree = (cfg : Config) (k : ℕ) (past : List Master_step) → AllMade cfg k past → MasterAgrees cfg k (seen cfg k past) (machine_seen cfg k past)
