-- What a recovery of a task leaves. That the newest earlier generation counts, and that its part file is measured where a length is
-- recorded, is our own profile.
use Rattle.std.specs.Prelude.{◌≡◌, ◌≢◌, ◌≤◌, ◌<◌, ◌⊎◌, ℕ, true, false, List, [], ◌∷◌, ◌++◌, length, Option, Some, None, Ok, Err}
use Rattle.mr_ids.specs.declared.id.TaskId.{TaskId}
use Rattle.mr_paths.specs.Layout.{committed, part}
use Rattle.mr_names_tree.specs.declared.node.Node.{Node}
use Rattle.mr_names.specs.declared.fault.NameFault.{NameFault}
use Rattle.mr_names.specs.declared.op.Caller.{Caller}
use Rattle.mr_names_tree.specs.Content.{Content, IsTree, within}
use Rattle.mr_names_tree.specs.Held.{node_at, is_present, is_file, bytes_of}
use Rattle.mr_names.specs.Calls.{State, unheard}
use Rattle.mr_commit.specs.declared.fault.CommitFault.{CommitFault}
use Rattle.mr_commit.specs.declared.fault.CommitFault.TheVariants as fault
use Rattle.mr_commit.specs.Recovery.{recover_task, recovered}

-- j is the newest generation before k that has committed output of a task
pub record IsNewest (dest : List (List ℕ)) (k : ℕ) (task : TaskId) (c : Content) (j : ℕ) : Type 0 where
  pub first : 1 ≤ j
  pub earlier : j < k
  pub found : is_present c (committed dest j task) ≡ true
  pub newest : (i : ℕ) → j < i → i < k → node_at c (committed dest i task) ≡ None

-- no generation before k has committed output of a task
abbrev pub NoneEarlier : List (List ℕ) → ℕ → TaskId → Content → Type 0
NoneEarlier dest k task c = (i : ℕ) → 1 ≤ i → i < k → node_at c (committed dest i task) ≡ None

-- what the part file of a task is, as generation j committed it
abbrev pub part_file : List (List ℕ) → ℕ → TaskId → Content → Option Node
part_file dest j task c = node_at c (committed dest j task ++ part task.number ∷ [])

-- where a length is recorded, there is a file, and it has that length
abbrev pub HasLength : Option ℕ → Option Node → Type 0
HasLength None there = Unit {0}
HasLength (Some n) there = (is_file there ≡ true) × (length (bytes_of there) ≡ n)

-- a length is recorded, and there is no file
abbrev pub LacksFile : Option ℕ → Option Node → Type 0
LacksFile None there = ⊥
LacksFile (Some n) there = is_file there ≡ false

-- a length is recorded, and there is a file of another length
abbrev pub HasOtherLength : Option ℕ → Option Node → Type 0
HasOtherLength None there = ⊥
HasOtherLength (Some n) there = (is_file there ≡ true) × (length (bytes_of there) ≢ n)

-- what generation j had committed of a task stands where generation k commits it, and nothing else changed
pub record IsRecovered (dest : List (List ℕ)) (k j : ℕ) (task : TaskId) (bytes : Option ℕ) (before after : Content) : Type 0 where
  pub held : (rest : List (List ℕ)) → node_at after (committed dest k task ++ rest) ≡ node_at before (committed dest j task ++ rest)
  pub gone : (rest : List (List ℕ)) → node_at after (committed dest j task ++ rest) ≡ None
  pub others : (path : List (List ℕ)) → within (committed dest k task) path ≡ false → within (committed dest j task) path ≡ false → node_at after path ≡ node_at before path
  pub measured : HasLength bytes (part_file dest k task after)

-- What a recovery leaves, by its answer. A fault changes nothing.
pub record TaskRecovers (dest : List (List ℕ)) (k : ℕ) (task : TaskId) (bytes : Option ℕ) (s t : State) (caller : Caller) : Type 0 where
  pub taken : recovered (recover_task dest k task bytes) s caller ≡ (Ok tt, t)
      → (j : ℕ) × IsNewest dest k task s.content j × IsRecovered dest k j task bytes s.content t.content × (t.fence ≡ s.fence) × (t.barred ≡ s.barred)
  pub missing : recovered (recover_task dest k task bytes) s caller ≡ (Err fault.OutputMissing, t)
      → NoneEarlier dest k task s.content ⊎ ((j : ℕ) × IsNewest dest k task s.content j × LacksFile bytes (part_file dest j task s.content))
  pub wrong : recovered (recover_task dest k task bytes) s caller ≡ (Err fault.WrongLength, t)
      → (j : ℕ) × IsNewest dest k task s.content j × HasOtherLength bytes (part_file dest j task s.content)
  pub unheard : (why : NameFault) → 1 < k → unheard s caller ≡ Some why → recovered (recover_task dest k task bytes) s caller ≡ (Err (fault.Names why), s)
  pub faults : (f : CommitFault) → recovered (recover_task dest k task bytes) s caller ≡ (Err f, t) → t ≡ s

-- the same of each namespace whose content is a tree
abbrev pub TasksRecover : Type 0
TasksRecover = (dest : List (List ℕ)) (k : ℕ) (task : TaskId) (bytes : Option ℕ) (s t : State) (caller : Caller) → IsTree s.content → TaskRecovers dest k task bytes s t caller
