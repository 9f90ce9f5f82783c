-- A few rows of the table of a master's phases, worked out: what the definitions come to.
use Rattle.std.specs.Prelude.{◌≡◌, ℕ, true, false, List, [], ◌∷◌, codes, Some, None, Ok}
use Rattle.mr_ids.specs.Attempt.{Attempt}
use Rattle.mr_ids.specs.declared.id.TaskId.{TaskId}
use Rattle.mr_ids.specs.declared.id.TaskKind.TheVariants.{Map, Reduce}
use Rattle.mr_names_tree.specs.declared.node.Kind.{Kind}
use Rattle.mr_names.specs.declared.op.Answer.TheVariants as found
use Rattle.mr_commit.specs.Tables.{setup_job, commit_job}
use Rattle.mr_packet.specs.declared.packet.ContainerId.{ContainerId}
use Rattle.mr_packet.specs.declared.packet.Packet.TheVariants as packet
use Rattle.mr_packet.specs.Sends.{to_node, to_container}
use Rattle.mr_history.specs.declared.record.Record.TheVariants.{AttemptStarted, ReduceSucceeded, JobUnsuccessful}
use Rattle.mr_master_model.specs.declared.setting.Setting.{Setting}
use Rattle.mr_master_model.specs.declared.store.StoreAnswer.TheVariants as answer
use Rattle.mr_master_model.specs.declared.phase.DutyName.TheVariants as name
use Rattle.mr_master_model.specs.Past.{Step, Hears, Launches, Answered, SetsUp, Runs, CommitsJob, Fails, Ends, Stops}
use Rattle.mr_master_model.specs.Readings.{wanted}
use Rattle.mr_master_model.specs.Duty.{duty, looks, success_mark, fail_mark, started_mark}
use Rattle.mr_master_model.specs.Answered.{name_of}
use Rattle.mr_master_model.specs.Sends.{to_all}
use Rattle.mr_master_model.specs.Next.{seen, sent}

-- nothing is there; something is there; a call was made
abbrev pub absent : Step
absent = Answered (answer.Names (Ok (found.Found None)))

abbrev pub there : Kind → Step
there kind = Answered (answer.Names (Ok (found.Found (Some kind))))

abbrev pub made : Step
made = Answered (answer.Names (Ok found.Done))

-- A master that starts looks for the three marks in turn. The first that is there ends it: it tells success for the first, failure for
-- the others, also for a job commit that began and left no outcome. Where none is there it reads, and fails on where the job had failed.
pub record FreshMaster : Type 0 where
  pub first : (w : Setting) → duty w (seen w []) ≡ looks success_mark
  pub second : (w : Setting) → duty w (seen w (absent ∷ [])) ≡ looks fail_mark
  pub third : (w : Setting) → duty w (seen w (absent ∷ absent ∷ [])) ≡ looks started_mark
  pub succeeded : (w : Setting) (kind : Kind) → (seen w (there kind ∷ [])).work ≡ Ends true
  pub told : (w : Setting) (kind : Kind) → sent w [] (there kind) ≡ to_all w.nodes (packet.Outcome true)
  pub failed : (w : Setting) (kind : Kind) → (seen w (there kind ∷ absent ∷ [])).work ≡ Ends false
  pub begun : (w : Setting) (kind : Kind) → (seen w (there kind ∷ absent ∷ absent ∷ [])).work ≡ Ends false
  pub goes_on : (w : Setting) → (seen w (Answered (answer.Told []) ∷ absent ∷ absent ∷ absent ∷ [])).work ≡ SetsUp (setup_job w.layout.dest w.app)
  pub unsuccessful : (w : Setting) → (seen w (Answered (answer.Told (JobUnsuccessful ∷ [])) ∷ absent ∷ absent ∷ absent ∷ [])).work ≡ Fails true
  pub faulted : (w : Setting) → (seen w (Answered answer.Fault ∷ [])).work ≡ Stops

-- ---- a job of one map and one reduce on one node, master 1

abbrev pub small : Setting
small = record { app = 1; job = record { start = 1; number = 1 }; maps = 1; reduces = 1; nodes = 1; limit = 4; layout = record { dest = codes "out" ∷ [] } }

abbrev pub map_task : TaskId
map_task = record { job = small.job; kind = Map; number = 0 }

abbrev pub reduce_task : TaskId
reduce_task = record { job = small.job; kind = Reduce; number = 0 }

abbrev pub map_attempt : Attempt
map_attempt = record { task = map_task; number = 0 }

abbrev pub reduce_attempt : Attempt
reduce_attempt = record { task = reduce_task; number = 0 }

abbrev pub container : ℕ → ContainerId
container n = record { app = 1; number = n }

abbrev pub wrote : Step
wrote = Answered (answer.Wrote (Ok tt))

-- up to Running; the map was launched; it is Succeeded; the reduce was launched; its Done was heard; it is Succeeded
abbrev pub running : List Step
running = made ∷ Answered (answer.Told []) ∷ absent ∷ absent ∷ absent ∷ []

abbrev pub launched : List Step
launched = wrote ∷ Launches map_task 0 ∷ running

abbrev pub map_done : List Step
map_done = wrote ∷ wrote ∷ Hears (packet.Done map_attempt None) ∷ launched

abbrev pub reduce_launched : List Step
reduce_launched = wrote ∷ Launches reduce_task 0 ∷ map_done

abbrev pub reduce_done : List Step
reduce_done = Hears (packet.Done reduce_attempt (Some 8)) ∷ Hears (packet.Pending reduce_attempt) ∷ reduce_launched

abbrev pub all_done : List Step
all_done = wrote ∷ wrote ∷ reduce_done

pub record SmallJob : Type 0 where
  pub runs : (seen small running).work ≡ Runs
  pub waits : duty small (seen small running) ≡ None
  pub map_first : wanted small (seen small running) ≡ Some map_task
  pub launch : sent small running (Launches map_task 0) ≡ to_node 0 (packet.Launch (container 0) map_attempt 1) ∷ []
  pub only_started : (seen small launched).tail ≡ AttemptStarted map_attempt 0 ∷ []
  pub no_flush : duty small (seen small launched) ≡ None
  pub then_reduce : wanted small (seen small map_done) ≡ Some reduce_task
  pub named : sent small reduce_launched (Hears (packet.Pending reduce_attempt)) ≡ to_container (container 1) (packet.Answer reduce_attempt true) ∷ []
  pub due : (seen small reduce_done).due ≡ ReduceSucceeded reduce_attempt (Some 8) ∷ []
  pub not_yet : name_of (duty small (seen small reduce_done)) ≡ Some name.Append
  pub flush : name_of (duty small (seen small (wrote ∷ reduce_done))) ≡ Some name.Flush
  pub won : sent small (wrote ∷ reduce_done) wrote ≡ to_node 0 (packet.Won reduce_task reduce_attempt) ∷ []
  pub started : name_of (duty small (seen small all_done)) ≡ Some name.Started
  pub commits : (seen small (made ∷ all_done)).work ≡ CommitsJob (commit_job small.layout.dest 1)
