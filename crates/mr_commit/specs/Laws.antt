-- Laws of the committer effect.
use Rattle.std.specs.Prelude.{◌≡◌, ◌≢◌, ℕ, true, false, List, [], ◌∷◌, ◌++◌, Option, Some, None, Result, Ok, Err}
use Rattle.mr_ids.specs.Attempt.{Attempt}
use Rattle.mr_ids.specs.declared.id.TaskId.{TaskId}
use Rattle.mr_paths.specs.Layout.{temporary_name, temporary, job_attempt, task_attempt, committed, marker}
use Rattle.mr_names_tree.specs.declared.node.Node.TheVariants.{File}
use Rattle.mr_names.specs.declared.op.Caller.{Caller}
use Rattle.mr_names_tree.specs.Content.{Content, IsTree, within}
use Rattle.mr_names_tree.specs.Held.{node_at, is_present}
use Rattle.mr_names.specs.declared.op.Op.{Op}
use Rattle.mr_names.specs.Calls.{State, answer}
use Rattle.mr_commit.specs.declared.fault.CommitFault.{CommitFault}
use Rattle.mr_commit.specs.Line.{Line, is_answer_to}
use Rattle.mr_commit.specs.Settles.{Settles}
use Rattle.mr_commit.specs.Line.Line.{Seeks}
use Rattle.mr_commit.specs.Tables as tables
use Rattle.mr_commit.specs.Tables.{setup_job, commit_task, commit_job}
use Rattle.mr_commit.specs.CommitterEffect.{LeadsTo, whole}

-- what a call answers is an answer of this call: so no step of a table that is made gives `WrongAnswer`
abbrev pub AnswersOwnCalls : Type 0
AnswersOwnCalls = (c : Content) (call : Op) → is_answer_to call (answer c call) ≡ true

-- steps lead to one answer and one namespace
abbrev pub OneResult : Type 0
OneResult = (lines : List Line) (s t u : State) (caller : Caller) (r q : Result (Unit {0}) CommitFault) → LeadsTo lines s caller r t → LeadsTo lines s caller q u → ◌≡◌ {A = Result (Unit {0}) CommitFault × State} (r, t) (q, u)

-- the steps of a table lead somewhere, and that is what a whole form gives
abbrev pub WholeFormsEnd : Type 0
WholeFormsEnd = (lines : List Line) (s : State) (caller : Caller) → Settles lines → LeadsTo lines s caller (whole lines s caller).0 (whole lines s caller).1

pub record TablesSettle : Type 0 where
  pub setup : (dest : List (List ℕ)) (k : ℕ) → Settles (setup_job dest k)
  pub task : (dest : List (List ℕ)) (k : ℕ) (attempt : Attempt) → Settles (commit_task dest k attempt)
  pub job : (dest : List (List ℕ)) (k : ℕ) → Settles (commit_job dest k)
  pub abort_task : (dest : List (List ℕ)) (k : ℕ) (attempt : Attempt) → Settles (tables.abort_task dest k attempt)
  pub abort_job : (dest : List (List ℕ)) → Settles (tables.abort_job dest)
  pub recovery : (dest : List (List ℕ)) (task : TaskId) (bytes : Option ℕ) (k j : ℕ) → Settles (Seeks dest task bytes k j ∷ [])

-- the committed path holds what the attempt path held, the attempt path holds nothing, and nothing else changed
pub record IsCommitted (dest : List (List ℕ)) (k : ℕ) (attempt : Attempt) (before after : Content) : Type 0 where
  pub held : (rest : List (List ℕ)) → node_at after (committed dest k attempt.task ++ rest) ≡ node_at before (task_attempt dest k attempt ++ rest)
  pub gone : (rest : List (List ℕ)) → node_at after (task_attempt dest k attempt ++ rest) ≡ None
  pub others : (path : List (List ℕ)) → within (committed dest k attempt.task) path ≡ false → within (task_attempt dest k attempt) path ≡ false → node_at after path ≡ node_at before path

-- a task commit that was answered
abbrev pub TaskCommits : Type 0
TaskCommits = (dest : List (List ℕ)) (k : ℕ) (attempt : Attempt) (s t : State) (caller : Caller) → IsTree s.content
    → whole (commit_task dest k attempt) s caller ≡ (Ok tt, t) → IsCommitted dest k attempt s.content t.content × (t.fence ≡ s.fence)

-- where an entry of the job attempt path has a name
abbrev pub beneath_entry : List (List ℕ) → ℕ → List ℕ → List ℕ → List (List ℕ)
beneath_entry dest k entry name = job_attempt dest k ++ entry ∷ name ∷ []

-- an entry of the job attempt path beside `_temporary`: a task's committed path
abbrev pub IsTaskEntry : List (List ℕ) → ℕ → Content → List ℕ → Type 0
IsTaskEntry dest k c entry = (entry ≢ temporary_name) × (is_present c (job_attempt dest k ++ entry ∷ []) ≡ true)

-- a closed file that stands in a task's committed path
pub record IsTaskFile (dest : List (List ℕ)) (k : ℕ) (c : Content) (entry name bytes : List ℕ) : Type 0 where
  pub beside : entry ≢ temporary_name
  pub file : node_at c (beneath_entry dest k entry name) ≡ Some (File bytes true)

-- each task committed one file and nothing else, no two a file of one name, and at the destination nothing has such a name
pub record AreTaskFiles (dest : List (List ℕ)) (k : ℕ) (c : Content) : Type 0 where
  pub some : (entry : List ℕ) → IsTaskEntry dest k c entry → (name : List ℕ) × (bytes : List ℕ) × IsTaskFile dest k c entry name bytes
  pub alone : (entry name bytes other : List ℕ) → IsTaskFile dest k c entry name bytes → is_present c (beneath_entry dest k entry other) ≡ true → other ≡ name
  pub apart : (one other name bytes more : List ℕ) → IsTaskFile dest k c one name bytes → IsTaskFile dest k c other name more → one ≡ other
  pub free : (entry name bytes : List ℕ) → IsTaskFile dest k c entry name bytes → node_at c (dest ++ name ∷ []) ≡ None

-- Each task's file stands in the destination, nothing is at or beneath `_temporary`, the marker is an empty closed file, and
-- nothing else changed.
pub record IsPublished (dest : List (List ℕ)) (k : ℕ) (before after : Content) : Type 0 where
  pub files : (entry name bytes : List ℕ) → IsTaskFile dest k before entry name bytes → node_at after (dest ++ name ∷ []) ≡ Some (File bytes true)
  pub gone : (rest : List (List ℕ)) → node_at after (temporary dest ++ rest) ≡ None
  pub marked : node_at after (marker dest) ≡ Some (File [] true)
  pub others : (path : List (List ℕ)) → within (temporary dest) path ≡ false → path ≢ marker dest
      → ((entry name bytes : List ℕ) → IsTaskFile dest k before entry name bytes → path ≢ dest ++ name ∷ []) → node_at after path ≡ node_at before path

-- A job commit that was answered is commitJob of algorithm version 1 of the Hadoop MapReduce committer architecture document. It merges
-- each task's committed path into the destination, deletes `_temporary` and creates the marker. That the destination is a directory, that
-- it had no marker, and that no task's file is called `_SUCCESS` or `_temporary` is not asked: it follows.
abbrev pub JobCommits : Type 0
JobCommits = (dest : List (List ℕ)) (k : ℕ) (s t : State) (caller : Caller) → IsTree s.content → AreTaskFiles dest k s.content
    → whole (commit_job dest k) s caller ≡ (Ok tt, t) → IsPublished dest k s.content t.content × (t.fence ≡ s.fence) × (t.barred ≡ s.barred)

-- nothing is left at a path or beneath it, and nothing else changed
pub record IsTakenOut (top : List (List ℕ)) (before after : Content) : Type 0 where
  pub gone : (rest : List (List ℕ)) → node_at after (top ++ rest) ≡ None
  pub others : (path : List (List ℕ)) → within top path ≡ false → node_at after path ≡ node_at before path

-- an abort that was answered takes out the attempt path or all that is temporary. One that was not changes nothing
pub record AbortsLeave : Type 0 where
  pub task : (dest : List (List ℕ)) (k : ℕ) (attempt : Attempt) (s t : State) (caller : Caller) → IsTree s.content
      → whole (tables.abort_task dest k attempt) s caller ≡ (Ok tt, t) → IsTakenOut (task_attempt dest k attempt) s.content t.content × (t.fence ≡ s.fence) × (t.barred ≡ s.barred)
  pub job : (dest : List (List ℕ)) (s t : State) (caller : Caller) → IsTree s.content
      → whole (tables.abort_job dest) s caller ≡ (Ok tt, t) → IsTakenOut (temporary dest) s.content t.content × (t.fence ≡ s.fence) × (t.barred ≡ s.barred)
  pub task_refused : (dest : List (List ℕ)) (k : ℕ) (attempt : Attempt) (s t : State) (caller : Caller) (f : CommitFault) → whole (tables.abort_task dest k attempt) s caller ≡ (Err f, t) → t ≡ s
  pub job_refused : (dest : List (List ℕ)) (s t : State) (caller : Caller) (f : CommitFault) → whole (tables.abort_job dest) s caller ≡ (Err f, t) → t ≡ s
