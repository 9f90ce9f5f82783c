-- What a machine holds beside what its tasks have heard.
-- Its launches, the nodes that it knows, what it read and whom it sent a Kill are the master's, and stay so step by step.
-- Our own: it ties two sets of definitions.
use Rattle.std.specs.Prelude.{◌≡◌, ℕ, true, false, List, ◌∷◌}
use Rattle.std.specs.Option.{option_map}
use Rattle.mr_ids.specs.Attempt.{Attempt}
use Rattle.mr_packet.specs.declared.packet.ContainerId.{ContainerId}
use Rattle.mr_master_model.specs.declared.launch.Launch.{Launch}
use Rattle.mr_master_model.specs.Readings as read
use Rattle.mr_master_model.specs.Next.{next_seen}
use Rattle.mr_world_model.specs.Packets.{Config}
use Rattle.mr_world_model.specs.Hearing.{Seen, Launched, is_running, has_container, find_launched, find_container}
use Rattle.mr_world_model.specs.Duties.{Master_step, seen}
use Rattle.mr_world_model.specs.Claims.{has_not_run}
use Rattle.mr_world_model.specs.Made.{AllMade}
use Rattle.mr_master_refinement.specs.Steps.{setting, step_of}
use Rattle.mr_master_refinement.specs.Agreement.{machine_seen}
use Rattle.mr_master_refinement.specs.Points.{StandsAt, launch_as, in_order}

-- m stands where the master's past has led, launched what it launched, knows the nodes as it does, and read what it read. While it runs, the same containers
-- were sent a Kill
pub record Holds (cfg : Config) (k : ℕ) (past : List Master_step) (m : read.Seen) : Type 0 where
  pub stands : StandsAt cfg k past m
  pub launched : m.launched ≡ in_order (seen cfg k past).launched
  pub known : m.known ≡ (seen cfg k past).known
  pub earlier : m.earlier ≡ (seen cfg k past).history
  pub killed : is_running (seen cfg k past).phase ≡ true → (n : ℕ) → m.killed n ≡ has_container (seen cfg k past).killed (record { app = k; number = n })

-- Where a master begins to run, its machine stands where it does, and its tasks have heard alike.
abbrev pub RunningBegins : Type 0
RunningBegins = (cfg : Config) (k : ℕ) (past : List Master_step) (x : Master_step) → AllMade cfg k (x ∷ past) → has_not_run (seen cfg k past).phase ≡ true
    → is_running (seen cfg k (x ∷ past)).phase ≡ true → Holds cfg k (x ∷ past) (machine_seen cfg k (x ∷ past))

-- Where a master ends before it runs, as it stops, finds a mark, or goes on failing by what it read, its machine stands where it does.
abbrev pub EndsEarly : Type 0
EndsEarly = (cfg : Config) (k : ℕ) (past : List Master_step) (x : Master_step) → AllMade cfg k (x ∷ past) → has_not_run (seen cfg k past).phase ≡ true
    → has_not_run (seen cfg k (x ∷ past)).phase ≡ false → is_running (seen cfg k (x ∷ past)).phase ≡ false → Holds cfg k (x ∷ past) (machine_seen cfg k (x ∷ past))

-- ---- what an attempt was launched as, and for which attempt a container was

abbrev pub pair_of : Launched → Attempt × Launch
pair_of l = (l.attempt, launch_as l)

pub record LaunchesFound (cfg : Config) (k : ℕ) (s : Seen) (m : read.Seen) : Type 0 where
  pub launch : (a : Attempt) → read.launch_of (setting cfg k) m a ≡ option_map launch_as (find_launched s.launched a)
  pub container : (c : ContainerId) → read.launched_in (setting cfg k) m c ≡ option_map pair_of (find_container s.launched c)

-- While a master runs, its machine finds the launch of an attempt, and that of a container, as the master does.
abbrev pub LaunchesAgree : Type 0
LaunchesAgree = (cfg : Config) (k : ℕ) (past : List Master_step) (m : read.Seen) → AllMade cfg k past → Holds cfg k past m → is_running (seen cfg k past).phase ≡ true
    → LaunchesFound cfg k (seen cfg k past) m

-- ---- steps that keep it

-- from there on after one more step
abbrev pub Kept : Config → ℕ → List Master_step → read.Seen → Master_step → Type 0
Kept cfg k past m x = AllMade cfg k (x ∷ past) → Holds cfg k past m → is_running (seen cfg k past).phase ≡ true → Holds cfg k (x ∷ past) (next_seen (setting cfg k) m (step_of x))

-- While a master runs, its machine stays with it at every step.
abbrev pub StepsKeep : Type 0
StepsKeep = (cfg : Config) (k : ℕ) (past : List Master_step) (m : read.Seen) (x : Master_step) → Kept cfg k past m x

-- Once a master has run and does no more, its machine stays with it at every step.
abbrev pub LateStepsKeep : Type 0
LateStepsKeep = (cfg : Config) (k : ℕ) (past : List Master_step) (m : read.Seen) (x : Master_step) → AllMade cfg k (x ∷ past) → Holds cfg k past m
    → is_running (seen cfg k past).phase ≡ false → has_not_run (seen cfg k past).phase ≡ false → Holds cfg k (x ∷ past) (next_seen (setting cfg k) m (step_of x))
