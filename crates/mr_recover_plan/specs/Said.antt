-- How a plan is said, a line for each task that is taken over, in words that `mrsim step recover-task` takes. Our own format.
use Rattle.std.specs.Prelude.{ℕ, List, [], ◌∷◌, ◌++◌, map, Option, Some, None, Result, Ok, Err, codes, decimal}
use Rattle.std.specs.List.{flat_map}
use Rattle.serde_json.specs.Data.{Data, string}
use Rattle.mr_ids.specs.Text.{attempt_text, task_text}
use Rattle.mr_pipe.specs.declared.form.Form.{Form}
use Rattle.mr_pipe.specs.declared.form.Form.TheVariants.{Text, Json}
use Rattle.mr_sim_json.specs.Members.{Member, count, line_of, list, object_of, text}
use Rattle.mr_recover.specs.declared.plan.Recovery.{Recovery}
use Rattle.mr_recover.specs.declared.plan.Recovery.TheVariants.{Resume, Succeeded, Failed}
use Rattle.mr_recover.specs.declared.winner.TaskWinner.{TaskWinner}
use Rattle.mr_recover_plan.specs.declared.fault.PlanFault.{PlanFault}
use Rattle.mr_recover_plan.specs.declared.fault.PlanFault.TheVariants.{BadLine, EarlierGeneration, NoMemory}

-- the length of the part file, where it is recorded
abbrev pub length_text : Option ℕ → List ℕ
length_text None = []
length_text (Some bytes) = 32 ∷ decimal bytes

-- the task, its winner, and the length
abbrev pub winner_line : TaskWinner → List ℕ
winner_line w = codes "recover " ++ task_text w.task ++ 32 ∷ attempt_text w.attempt ++ length_text w.bytes ++ 10 ∷ []

-- what the new master does: it takes over what these attempts committed and runs the other tasks, or it reports how the job ended
abbrev pub plan_text : Recovery → List ℕ
plan_text (Resume winners) = codes "resume\n" ++ flat_map winner_line winners
plan_text Succeeded = codes "report succeeded\n"
plan_text Failed = codes "report failed\n"

-- ---- as an object of JSON

abbrev pub length_member : Option ℕ → List Member
length_member None = []
length_member (Some bytes) = (codes "bytes", count bytes) ∷ []

abbrev pub winner_object : TaskWinner → Data
winner_object w = object_of ((codes "task", text (task_text w.task)) ∷ (codes "winner", text (attempt_text w.attempt)) ∷ length_member w.bytes)

abbrev pub plan_object : Recovery → Data
plan_object (Resume winners) = object_of ((codes "plan", string (codes "resume")) ∷ (codes "recover", list (map winner_object winners)) ∷ [])
plan_object Succeeded = object_of ((codes "plan", string (codes "report succeeded")) ∷ [])
plan_object Failed = object_of ((codes "plan", string (codes "report failed")) ∷ [])

-- ---- in a form

abbrev pub plan_as : Form → Recovery → List ℕ
plan_as Text plan = plan_text plan
plan_as Json plan = line_of (plan_object plan)

-- nothing is written where there is no plan
abbrev pub said_of : Form → Result Recovery PlanFault → List ℕ
said_of form (Ok plan) = plan_as form plan
said_of form (Err e) = []

-- ---- the exit status, as those of the other subcommands: 3 is about the input, 5 about memory
abbrev pub status_of : Result Recovery PlanFault → ℕ
status_of (Ok plan) = 0
status_of (Err (BadLine segment line)) = 3
status_of (Err (EarlierGeneration segment)) = 3
status_of (Err NoMemory) = 5
