-- What a job text says: the job that is submitted, or the first key that is bad. Job texts are our own profile; which
-- value a text is, and what stands at a key, is told by serde_json.
use Rattle.std.specs.Prelude.{◌≡◌, ◌&&◌, ◌^◌, ◌-◌, ℕ, List, [], ◌∷◌, length, codes, nat_le, nat_lt, if◌then◌else◌, Bool, Option, Some, None, Result, Ok, Err, option_map, option_and_then}
use Rattle.std.specs.List.{slice_split}
use Rattle.std.specs.Str.{is_utf8, bytes_eq}
use Rattle.std.specs.Str.Parse.{digits_value}
use Rattle.serde_json.specs.Data.{Data, Items, no_items, item}
use Rattle.serde_json.specs.Read.{read}
use Rattle.serde_json.specs.Find.{get, as_str, as_number, as_u64, as_array, as_object}
use Rattle.mr_ids.specs.declared.id.JobId.{JobId}
use Rattle.mr_ids.specs.Text.{is_bar, job_text}
use Rattle.mr_sim_commands.specs.declared.fault.JobTextFault.{JobTextFault}
use Rattle.mr_sim_commands.specs.declared.fault.JobTextFault.TheVariants as bad
use Rattle.mr_sim_commands.specs.declared.fault.SimFault.{SimFault}
use Rattle.mr_sim_commands.specs.declared.fault.SimFault.TheVariants as faults
use Rattle.mr_sim_commands.specs.declared.job.submission.JobKind.{JobKind}
use Rattle.mr_sim_commands.specs.declared.job.submission.JobKind.TheVariants.{WordCount, MaxByKey, LineIndex}
use Rattle.mr_world_events.specs.declared.plan.PlanAct.{PlanAct}
use Rattle.mr_world_events.specs.declared.plan.PlanAct.TheVariants.{Node, Master, Expire}
use Rattle.mr_world_events.specs.declared.plan.PlanFault.{PlanFault}
use Rattle.mr_sim_commands.specs.declared.job.submission.Submission.{Submission}
use Rattle.mr_sim_commands.specs.job.IdleKeys.{idle_keys}

-- ---- values

-- the list, if it is no longer than this
abbrev pub at_most : {A : Type 0} → ℕ → List A → Option (List A)
at_most n xs = if nat_le (length xs) n then Some xs else None

-- a whole number that is written with digits alone, from low to high
abbrev pub within : ℕ → ℕ → ℕ → Option ℕ
within low high n = if nat_le low n && nat_le n high then Some n else None

abbrev pub number_in : ℕ → ℕ → Data → Option ℕ
number_in low high d = option_and_then (within low high) (option_and_then as_u64 (as_number d))

-- what all items say, if each says something
abbrev pub each : {A : Type 0} → (Data → Option A) → Items → Option (List A)
each f no_items = Some []
each f (item d ds) = option_and_then (λ x. option_map (λ xs. x ∷ xs) (each f ds)) (f d)

-- The job whose text this is: its numbers stand between the bars, and it has no other spelling.
abbrev pub job_from : List (List ℕ) → Option JobId
job_from (word ∷ start ∷ number ∷ fields) = Some (record { start = digits_value 10 start; number = digits_value 10 number })
job_from _ = None

abbrev pub is_job : JobId → Bool
is_job j = nat_lt j.start (2 ^ 64) && nat_lt j.number (2 ^ 32)

abbrev pub if_spelled : List ℕ → JobId → Option JobId
if_spelled text j = if is_job j && bytes_eq text (job_text j) then Some j else None

unfoldable pub job_named : List ℕ → Option JobId
job_named text = option_and_then (if_spelled text) (job_from (slice_split is_bar text))

abbrev pub kind_named : List ℕ → Option JobKind
kind_named name =
    if bytes_eq name (codes "wordcount") then Some WordCount
    else (if bytes_eq name (codes "maxbykey") then Some MaxByKey
    else (if bytes_eq name (codes "lineindex") then Some LineIndex else None))

abbrev pub split_of : Data → Option (List ℕ)
split_of d = option_and_then (at_most (2 ^ 24)) (as_str d)

-- exactly one of a node that restarts, of a master that crashes, and of a node that is given up: the nodes are there
abbrev pub act_by : ℕ → Option Data → Option Data → Option Data → Option PlanAct
act_by nodes (Some node) None None = option_map Node (number_in 0 (nodes - 1) node)
act_by nodes None (Some master) None = option_map Master (number_in 0 (2 ^ 64 - 1) master)
act_by nodes None None (Some node) = option_map Expire (number_in 0 (nodes - 1) node)
act_by _ _ _ _ = None

unfoldable pub act_of : ℕ → Data → Option PlanAct
act_of nodes d = act_by nodes (get (codes "node") d) (get (codes "master") d) (get (codes "expire") d)

unfoldable pub fault_of : ℕ → Data → Option PlanFault
fault_of nodes d = option_and_then (λ after. option_map (λ act. record { after = after; act = act }) (act_of nodes d)) (option_and_then (number_in 0 1000000) (get (codes "after") d))

abbrev pub splits_of : Data → Option (List (List ℕ))
splits_of d = option_and_then (at_most 1000) (option_and_then (each split_of) (as_array d))

abbrev pub faults_of : ℕ → Data → Option (List PlanFault)
faults_of nodes d = option_and_then (at_most 100) (option_and_then (each (fault_of nodes)) (as_array d))

-- ---- keys

infixl 10 ◌>>=◌
abbrev pub ◌>>=◌ : {A B : Type 0} → Result A JobTextFault → (A → Result B JobTextFault) → Result B JobTextFault
(Ok x) >>= f = f x
(Err e) >>= f = Err e

-- the value, or the fault of its key
abbrev pub required : {A : Type 0} → JobTextFault → Option A → Result A JobTextFault
required e None = Err e
required e (Some x) = Ok x

-- a key that is missing has its default
abbrev pub optional : {A : Type 0} → A → (Data → Option A) → Option Data → Option A
optional default f None = Some default
optional default f (Some d) = f d

abbrev pub text_at : List ℕ → Data → Option (List ℕ)
text_at key d = option_and_then as_str (get key d)

-- the keys in their order: the first bad one is told; other keys say nothing, and which there are is told beside the job
unfoldable pub submission_in : Data → Result Submission JobTextFault
submission_in d = do
  object ← required bad.Text (as_object d)
  id ← required bad.Id (option_and_then job_named (text_at (codes "id") d))
  job ← required bad.Job (option_and_then kind_named (text_at (codes "job") d))
  reduces ← required bad.Reduces (option_and_then (number_in 1 1000) (get (codes "reduces") d))
  splits ← required bad.Splits (option_and_then splits_of (get (codes "splits") d))
  nodes ← required bad.Nodes (optional 1 (number_in 1 64) (get (codes "nodes") d))
  limit ← required bad.Limit (optional 4 (number_in 1 100) (get (codes "limit") d))
  faults ← required bad.Faults (optional [] (faults_of nodes) (get (codes "faults") d))
  v2_from ← required bad.V2From (optional 1 (number_in 1 1000) (get (codes "v2from") d))
  Ok (record { id = id; job = job; reduces = reduces; splits = splits; nodes = nodes; limit = limit; faults = faults; v2_from = v2_from; idle_keys = idle_keys d })

-- bytes that are no JSON text say no job
unfoldable pub submission_of : List ℕ → Result Submission JobTextFault
submission_of bytes = required bad.Text (if is_utf8 bytes then read bytes else None) >>= submission_in

-- ---- what reading answers

-- a fault stands where the definition has it; there may be an allocation failure at any text
abbrev pub Fails : {X : Type 0} → SimFault → Result X JobTextFault → Type 0
Fails faults.NoMemory said = Unit {0}
Fails (faults.Job e) said = said ≡ Err e
Fails faults.Read said = ⊥
Fails faults.Write said = ⊥
Fails faults.TooLong said = ⊥
Fails (faults.BadCommand n) said = ⊥
Fails (faults.BadRecord n) said = ⊥
Fails faults.Refused said = ⊥
Fails faults.Full said = ⊥
Fails faults.JobFailed said = ⊥
Fails faults.TurnsSpent said = ⊥
Fails faults.JournalMismatch said = ⊥
Fails faults.Thread said = ⊥

-- reading gives what the definition says
abbrev pub Gives : {X : Type 0} → Result X SimFault → Result X JobTextFault → Type 0
Gives (Ok x) said = said ≡ Ok x
Gives (Err e) said = Fails e said
