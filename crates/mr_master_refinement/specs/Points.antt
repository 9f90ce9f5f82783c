-- At one point of a past: where the tasks of a machine have heard alike, it refuses, names and asks for what the master does.
-- Our own: it ties two sets of definitions.
use Rattle.std.specs.Prelude.{◌≡◌, ℕ, Bool, true, nat_lt, List, [], ◌∷◌, ◌++◌, Option, Some, None}
use Rattle.mr_ids.specs.Attempt.{Attempt}
use Rattle.mr_ids.specs.declared.id.TaskId.{TaskId}
use Rattle.mr_grant.specs.Attempts as grant
use Rattle.mr_task.specs.Readings as task
use Rattle.mr_master_model.specs.declared.launch.Launch.{Launch}
use Rattle.mr_master_model.specs.declared.phase.LaunchFault.{LaunchFault}
use Rattle.mr_master_model.specs.declared.phase.LaunchFault.TheVariants as refused
use Rattle.mr_master_model.specs.Job.{is_task}
use Rattle.mr_master_model.specs.Past as machine
use Rattle.mr_master_model.specs.Readings as read
use Rattle.mr_master_model.specs.Duty.{duty}
use Rattle.mr_world_model.specs.Packets.{Config}
use Rattle.mr_world_model.specs.Hearing.{Seen, Launched, is_running}
use Rattle.mr_world_model.specs.Duties.{Master_step, seen, duty_of}
use Rattle.mr_world_model.specs.World.{launch_of}
use Rattle.mr_world_model.specs.Effect as cluster
use Rattle.mr_world_model.specs.Effect.{Why, NotRunning, NoTask, NoNode, Task, unless}
use Rattle.mr_world_model.specs.Calls.{of_task}
use Rattle.mr_world_model.specs.Made.{AllMade}
use Rattle.mr_master_refinement.specs.Steps.{setting}
use Rattle.mr_master_refinement.specs.Works.{CanBe, phase_of, work_at, named}

-- ---- all that is read off what a task has heard: endings and losses by attempt, whatever their order

pub record View : Type 0 where
  pub arrived : List Attempt
  pub numbered : ℕ
  pub asked : List Attempt
  pub accepted : List Attempt
  pub recorded : List Attempt
  pub lost : Attempt → Bool
  pub over : Attempt → Bool
  pub failed : Attempt → Bool

abbrev pub view : task.Seen → View
view r = record {
  arrived = r.arrived;
  numbered = r.numbered;
  asked = r.asked;
  accepted = r.accepted;
  recorded = r.recorded;
  lost = λ a. grant.has r.lost a;
  over = λ a. task.is_over r.ended a;
  failed = λ a. task.has_failed r.ended a;
}

-- two tasks have heard alike
abbrev pub Alike : task.Seen → task.Seen → Type 0
Alike r x = view x ≡ view r

-- ---- launches, by the numbers of their containers

abbrev pub launch_as : Launched → Launch
launch_as l = record { container = l.container; node = l.node; incarnation = l.incarnation }

abbrev pub in_order : List Launched → List (Attempt × Launch)
in_order [] = []
in_order (l ∷ ls) = in_order ls ++ (l.attempt, launch_as l) ∷ []

-- ---- m is where a master of this past stands

pub record StandsAt (cfg : Config) (k : ℕ) (past : List Master_step) (m : read.Seen) : Type 0 where
  pub work : m.work ≡ work_at k (seen cfg k past).phase
  pub can : CanBe (seen cfg k past).phase
  pub due : m.due ≡ (seen cfg k past).due
  pub tail : m.tail ≡ (seen cfg k past).tail
  pub bars : m.bars ≡ (seen cfg k past).bars
  pub tasks : is_running (seen cfg k past).phase ≡ true → (t : TaskId) → is_task (setting cfg k) t ≡ true → Alike (of_task cfg k past t) (read.of_task (setting cfg k) m t)

-- ---- why nothing is launched

abbrev pub refusal_as : Option Why → Option LaunchFault
refusal_as (Some NotRunning) = Some refused.NotRunning
refusal_as (Some NoTask) = Some refused.NoTask
refusal_as (Some NoNode) = Some refused.NoNode
refusal_as (Some (Task f)) = Some (refused.Task f)
refusal_as _ = None

-- why a living master launches nothing of task t on node n, in the order of the cluster's reasons
abbrev pub launch_why : Config → Seen → TaskId → ℕ → Option Why
launch_why cfg s t n = unless (is_running s.phase) NotRunning (unless (cluster.is_task cfg t) NoTask (unless (nat_lt n cfg.nodes) NoNode (cluster.task_fault s t)))

-- why it does not give node n up
abbrev pub expire_why : Config → Seen → ℕ → Option Why
expire_why cfg s n = unless (is_running s.phase) NotRunning (unless (nat_lt n cfg.nodes) NoNode None)

pub record PointAgrees (cfg : Config) (k : ℕ) (s : Seen) (m : read.Seen) : Type 0 where
  pub phase : machine.phase_of m.work ≡ phase_of s.phase
  pub duty : duty (setting cfg k) m ≡ named s.phase (duty_of cfg k s s.phase)
  pub launch : (t : TaskId) (n : ℕ) → read.launch_refusal (setting cfg k) m t n ≡ refusal_as (launch_why cfg s t n)
  pub expiry : (n : ℕ) → read.expire_refusal (setting cfg k) m n ≡ refusal_as (expire_why cfg s n)
  pub next : (t : TaskId) (n : ℕ) → launch_why cfg s t n ≡ None → read.next_attempt (setting cfg k) m t ≡ (launch_of k s t n).attempt

-- Wherever a master's past has led, a machine that stands there has its phase, its next store call, its refusals of launches and expiries, and its next attempt.
abbrev pub PointsAgree : Type 0
PointsAgree = (cfg : Config) (k : ℕ) (past : List Master_step) (m : read.Seen) → AllMade cfg k past → StandsAt cfg k past m → PointAgrees cfg k (seen cfg k past) m
