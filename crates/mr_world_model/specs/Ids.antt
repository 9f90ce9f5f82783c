-- Names of attempts and containers, and the paths of the cluster's one job: `$dest/_temporary/k` and what stands beneath it, `_SUCCESS`,
-- as Hadoop's committer document has them (algorithm version 1). Containers' names and the staging folder's marks are our own profile.
use Rattle.std.specs.Prelude.{ℕ, Bool, true, false, ◌&&◌, nat_eq, List, [], ◌∷◌, codes}
use Rattle.std.specs.Cmp.Lexicographic.{pointwise}
use Rattle.mr_ids.specs.Generations.{generation_of}
use Rattle.mr_ids.specs.Same.{same_task}
use Rattle.mr_ids.specs.Text.{numeral, task_text, attempt_text}
use Rattle.mr_paths.specs.Layout as layout
pub use Rattle.mr_ids.specs.Attempt.{Attempt}
pub use Rattle.mr_ids.specs.Kind.{is_reduce as of_reduces}
pub use Rattle.mr_ids.specs.declared.id.JobId.{JobId}
pub use Rattle.mr_ids.specs.declared.id.TaskId.{TaskId}
pub use Rattle.mr_ids.specs.declared.id.TaskKind.{TaskKind}
pub use Rattle.mr_ids.specs.declared.id.TaskKind.TheVariants.{Map, Reduce}
pub use Rattle.mr_packet.specs.declared.packet.ContainerId.{ContainerId}
pub use Rattle.mr_paths.specs.Layout.{temporary_name, marker_name, is_hidden}

-- a name is its bytes, a path its names
abbrev pub Name : Type 0
Name = List ℕ

abbrev pub Path : Type 0
Path = List Name

abbrev pub bool_eq : Bool → Bool → Bool
bool_eq true b = b
bool_eq false true = false
bool_eq false false = true

-- two tasks are one
unfoldable pub task_eq : TaskId → TaskId → Bool
task_eq t u = same_task t u

abbrev pub attempt_eq : Attempt → Attempt → Bool
attempt_eq a b = task_eq a.task b.task && nat_eq a.number b.number

abbrev pub container_eq : ContainerId → ContainerId → Bool
container_eq a b = nat_eq a.app b.app && nat_eq a.number b.number

abbrev pub name_eq : Name → Name → Bool
name_eq = pointwise nat_eq

abbrev pub path_eq : Path → Path → Bool
path_eq = pointwise (pointwise nat_eq)

-- the tasks of a job
abbrev pub is_reduce : Attempt → Bool
is_reduce a = of_reduces a.task.kind

abbrev pub map_of : JobId → ℕ → TaskId
map_of j n = record { job = j; kind = Map; number = n }

abbrev pub reduce_of : JobId → ℕ → TaskId
reduce_of j n = record { job = j; kind = Reduce; number = n }

abbrev pub same_job : JobId → JobId → Bool
same_job i j = nat_eq i.start j.start && nat_eq i.number j.number

-- the generation that launched an attempt
abbrev pub generation : Attempt → ℕ
generation a = generation_of a.number

-- The layout, name by name. That these are the paths of mr_paths is `proofs/Layout`.

unfoldable pub generation_name : ℕ → Name
generation_name k = numeral 1 k

unfoldable pub attempt_name : Attempt → Name
attempt_name a = attempt_text a

unfoldable pub task_name : TaskId → Name
task_name t = task_text t

-- the file of a reduce
unfoldable pub part_name : TaskId → Name
part_name t = layout.part t.number

abbrev pub dest_name : Name
dest_name = codes "out"

abbrev pub staging_name : Name
staging_name = codes "staging"

abbrev pub dest : Path
dest = dest_name ∷ []

abbrev pub temporary : Path
temporary = dest_name ∷ temporary_name ∷ []

abbrev pub job_attempt : ℕ → Path
job_attempt k = dest_name ∷ temporary_name ∷ generation_name k ∷ []

abbrev pub task_attempt : ℕ → Attempt → Path
task_attempt k a = dest_name ∷ temporary_name ∷ generation_name k ∷ temporary_name ∷ attempt_name a ∷ []

abbrev pub committed : ℕ → TaskId → Path
committed k t = dest_name ∷ temporary_name ∷ generation_name k ∷ task_name t ∷ []

abbrev pub part : TaskId → Path
part t = dest_name ∷ part_name t ∷ []

abbrev pub marker : Path
marker = dest_name ∷ marker_name ∷ []

abbrev pub staged : Path
staged = staging_name ∷ []

abbrev pub commit_started : Path
commit_started = staging_name ∷ codes "COMMIT_STARTED" ∷ []

abbrev pub commit_success : Path
commit_success = staging_name ∷ codes "COMMIT_SUCCESS" ∷ []

abbrev pub commit_fail : Path
commit_fail = staging_name ∷ codes "COMMIT_FAIL" ∷ []
