-- One line of a committer's table: its call, and what follows from the answer.
-- The lines and the merge are those of FileOutputCommitter, algorithm version 1 (Hadoop MapReduce committer architecture document). Our own
-- profile is that a refused delete of nothing passes where the tables say so. So is that a recovery looks at all earlier generations,
-- newest first, and measures the part file.
use Rattle.std.specs.Prelude.{ℕ, Bool, true, false, not, ◌&&◌, ◌||◌, List, [], ◌∷◌, ◌++◌, map, filter, length, ◌-◌, ◌==◌, nat_lt, Option, Some, None, Result, Ok, Err, nat_eq, if◌then◌else◌}
use Rattle.std.specs.Cmp.Lexicographic.{pointwise}
use Rattle.mr_ids.specs.declared.id.TaskId.{TaskId}
use Rattle.mr_paths.specs.Layout.{temporary_name, committed, part}
use Rattle.mr_names.specs.declared.fault.NameFault.{NameFault}
use Rattle.mr_names.specs.declared.fault.NameFault.TheVariants as names
use Rattle.mr_names_tree.specs.declared.node.Kind.{Kind}
use Rattle.mr_names_tree.specs.declared.node.Kind.TheVariants as kind
use Rattle.mr_names_tree.specs.declared.node.Entry.{Entry}
use Rattle.mr_names.specs.declared.op.Op.{Op}
use Rattle.mr_names.specs.declared.op.Op.TheVariants as op
use Rattle.mr_names.specs.declared.op.Answer.{Answer}
use Rattle.mr_names.specs.declared.op.Answer.TheVariants as answers
use Rattle.mr_names.specs.Calls.{State, answer, may_want_memory}
use Rattle.mr_commit.specs.declared.fault.CommitFault.{CommitFault}
use Rattle.mr_commit.specs.declared.fault.CommitFault.TheVariants as fault

pub data Line : Type 0 where
  Does : (call : Op) → Line  -- one call
  Clears : (path : List (List ℕ)) → Line  -- what is there is deleted, and a missing path is accepted
  Needs : (path : List (List ℕ)) → Line  -- something has to be there
  Merges : (taken : Kind) → (from to : List (List ℕ)) → Line  -- merging from, taken as a file or a directory, onto to
  MergesEach : (from to : List (List ℕ)) → Line  -- merging each child of from onto the same name in to
  MergesTasks : (from to : List (List ℕ)) → Line  -- merging each entry of from but `_temporary`, taken as a directory, onto to
  Seeks : (dest : List (List ℕ)) → (task : TaskId) → (bytes : Option ℕ) → (k j : ℕ) → Line  -- what the newest of the generations j, j - 1 .. 1 committed of a task is taken over to generation k
  Measures : (path : List (List ℕ)) → (bytes : ℕ) → Line  -- the file there has to have so many bytes

abbrev pub deletes : List (List ℕ) → Line
deletes path = Does (op.Delete path)

abbrev pub moves : List (List ℕ) → List (List ℕ) → Line
moves from to = Does (op.Rename from to)

-- the call of a line
abbrev pub op_of : Line → Op
op_of (Does call) = call
op_of (Clears path) = op.Delete path
op_of (Needs path) = op.Exists path
op_of (Merges taken from to) = op.Exists to
op_of (MergesEach from to) = op.List from
op_of (MergesTasks from to) = op.List from
op_of (Seeks dest task bytes k j) = op.Exists (committed dest j task)
op_of (Measures path bytes) = op.Read path

-- ---- which answers a call has

abbrev pub is_done : Answer → Bool
is_done answers.Done = true
is_done (answers.Listed entries) = false
is_done (answers.Found there) = false
is_done (answers.Contents bytes) = false

abbrev pub is_listing : Answer → Bool
is_listing (answers.Listed entries) = true
is_listing answers.Done = false
is_listing (answers.Found there) = false
is_listing (answers.Contents bytes) = false

abbrev pub is_look : Answer → Bool
is_look (answers.Found there) = true
is_look answers.Done = false
is_look (answers.Listed entries) = false
is_look (answers.Contents bytes) = false

abbrev pub is_reading : Answer → Bool
is_reading (answers.Contents bytes) = true
is_reading answers.Done = false
is_reading (answers.Listed entries) = false
is_reading (answers.Found there) = false

-- whether an answer is one of a call: a `list` lists, an `exists` finds, a `read` gives bytes, and of each other call it is
-- told that it was made
abbrev pub is_answer_to : Op → Answer → Bool
is_answer_to (op.Mkdirs path) a = is_done a
is_answer_to (op.Create path closed) a = is_done a
is_answer_to (op.Append path bytes) a = is_done a
is_answer_to (op.Close path) a = is_done a
is_answer_to (op.Delete path) a = is_done a
is_answer_to (op.Rename from to) a = is_done a
is_answer_to (op.List path) a = is_listing a
is_answer_to (op.Exists path) a = is_look a
is_answer_to (op.Read path) a = is_reading a
is_answer_to (op.Bar attempt) a = is_done a

-- ---- what follows from an answer

-- what the answer of an `exists` says is there. No other answer is asked
abbrev pub found : Answer → Option Kind
found (answers.Found there) = there
found answers.Done = None
found (answers.Listed entries) = None
found (answers.Contents bytes) = None

-- what the answer of a `list` lists. No other answer is asked
abbrev pub listed : Answer → List Entry
listed (answers.Listed entries) = entries
listed answers.Done = []
listed (answers.Found there) = []
listed (answers.Contents bytes) = []

-- what the answer of a `read` reads. No other answer is asked
abbrev pub bytes_read : Answer → List ℕ
bytes_read (answers.Contents bytes) = bytes
bytes_read answers.Done = []
bytes_read (answers.Listed entries) = []
bytes_read (answers.Found there) = []

-- merging from onto to, where what is at to is known: a directory goes into a directory child by child, and all
-- else takes the place of what is there
abbrev pub merging : Kind → List (List ℕ) → List (List ℕ) → Option Kind → List Line
merging taken from to None = moves from to ∷ []
merging kind.Dir from to (Some kind.Dir) = MergesEach from to ∷ []
merging kind.Dir from to (Some kind.File) = deletes to ∷ moves from to ∷ []
merging kind.File from to (Some there) = deletes to ∷ moves from to ∷ []

abbrev pub merging_child : List (List ℕ) → List (List ℕ) → Entry → Line
merging_child from to e = Merges e.kind (from ++ e.name ∷ []) (to ++ e.name ∷ [])

abbrev pub merging_task : List (List ℕ) → List (List ℕ) → Entry → Line
merging_task from to e = Merges kind.Dir (from ++ e.name ∷ []) to

-- the attempts that were not committed stand in `_temporary`
abbrev pub is_task : Entry → Bool
is_task e = not (pointwise nat_eq e.name temporary_name)

abbrev pub needed : Option Kind → Result (List Line) CommitFault
needed None = Err fault.OutputMissing
needed (Some there) = Ok []

-- the generation before, if there is one
abbrev pub before : ℕ → Option ℕ
before k = if nat_lt 1 k then Some (k - 1) else None

-- where a generation committed nothing of a task, the one before is looked at
abbrev pub older : List (List ℕ) → TaskId → Option ℕ → ℕ → Option ℕ → Result (List Line) CommitFault
older dest task bytes k None = Err fault.OutputMissing
older dest task bytes k (Some i) = Ok (Seeks dest task bytes k i ∷ [])

-- where a length is recorded, the file has to have it
abbrev pub measuring : List (List ℕ) → Option ℕ → List Line → List Line
measuring path None rest = rest
measuring path (Some bytes) rest = Measures path bytes ∷ rest

-- what generation j committed of a task takes the place of what generation k committed, once its part file has the recorded length
abbrev pub taking_over : List (List ℕ) → TaskId → Option ℕ → ℕ → ℕ → List Line
taking_over dest task bytes k j =
    measuring (committed dest j task ++ part task.number ∷ []) bytes
    (Clears (committed dest k task) ∷ moves (committed dest j task) (committed dest k task) ∷ [])

abbrev pub sought : List (List ℕ) → TaskId → Option ℕ → ℕ → ℕ → Option Kind → Result (List Line) CommitFault
sought dest task bytes k j None = older dest task bytes k (before j)
sought dest task bytes k j (Some there) = Ok (taking_over dest task bytes k j)

abbrev pub measured : ℕ → List ℕ → Result (List Line) CommitFault
measured bytes found = if length found == bytes then Ok [] else Err fault.WrongLength

-- the lines that take the place of a line whose call was answered, by an answer of this call
abbrev pub answered : Line → Answer → Result (List Line) CommitFault
answered (Does call) a = Ok []
answered (Clears path) a = Ok []
answered (Needs path) a = needed (found a)
answered (Merges taken from to) a = Ok (merging taken from to (found a))
answered (MergesEach from to) a = Ok (map (merging_child from to) (listed a))
answered (MergesTasks from to) a = Ok (map (merging_task from to) (filter is_task (listed a)))
answered (Seeks dest task bytes k j) a = sought dest task bytes k j (found a)
answered (Measures path bytes) a = measured bytes (bytes_read a)

-- a refusal of the namespace as the committer's fault
abbrev pub fault_of : NameFault → CommitFault
fault_of names.NoMemory = fault.NoMemory
fault_of (names.Superseded fence) = fault.Names (names.Superseded fence)
fault_of names.Barred = fault.Names names.Barred
fault_of names.Missing = fault.Names names.Missing
fault_of names.Exists = fault.Names names.Exists
fault_of names.NotDir = fault.Names names.NotDir
fault_of names.NotFile = fault.Names names.NotFile
fault_of names.Closed = fault.Names names.Closed
fault_of names.NoParent = fault.Names names.NoParent
fault_of names.IntoItself = fault.Names names.IntoItself
fault_of names.Full = fault.Names names.Full

abbrev pub is_missing : NameFault → Bool
is_missing names.Missing = true
is_missing f = false

-- whether a line passes where there is nothing at its path
abbrev pub passes_missing : Line → Bool
passes_missing (Clears path) = true
passes_missing (Does call) = false
passes_missing (Needs path) = false
passes_missing (Merges taken from to) = false
passes_missing (MergesEach from to) = false
passes_missing (MergesTasks from to) = false
passes_missing (Seeks dest task bytes k j) = false
passes_missing (Measures path bytes) = false

abbrev pub is_no_file : NameFault → Bool
is_no_file names.NotFile = true
is_no_file f = is_missing f

-- A refusal of a line's call as the committer's fault: where a file has to be measured and there is none, the output is missing.
abbrev pub fault_at : Line → NameFault → CommitFault
fault_at (Does call) f = fault_of f
fault_at (Clears path) f = fault_of f
fault_at (Needs path) f = fault_of f
fault_at (Merges taken from to) f = fault_of f
fault_at (MergesEach from to) f = fault_of f
fault_at (MergesTasks from to) f = fault_of f
fault_at (Seeks dest task bytes k j) f = fault_of f
fault_at (Measures path bytes) f = if is_no_file f then fault.OutputMissing else fault_of f

-- The lines that take the place of a line, or the fault that ends all: an answer that the line's call does not have is one.
abbrev pub replaced : Line → Result Answer NameFault → Result (List Line) CommitFault
replaced line (Ok a) = if is_answer_to (op_of line) a then answered line a else Err fault.WrongAnswer
replaced line (Err f) = if is_missing f && passes_missing line then Ok [] else Err (fault_at line f)

-- whether there are lines that take the place of a line, for which memory is wanted
abbrev pub lines_follow : Result (List Line) CommitFault → Bool
lines_follow (Ok []) = false
lines_follow (Ok (line ∷ rest)) = true
lines_follow (Err f) = false

-- whether a line may allocate in a namespace: for its call, or for the lines that follow from what the call answers
abbrev pub wants_memory : State → Line → Bool
wants_memory s line = may_want_memory s (op_of line) || lines_follow (replaced line (Ok (answer s.content (op_of line))))
