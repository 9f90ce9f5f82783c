-- What a master of the cluster is at, as what its machine is at: where the calls are those of a committer's table, the lines that are left of it.
-- Our own: it ties two sets of definitions.
use Rattle.std.specs.Prelude.{◌≡◌, ℕ, zero, suc, Bool, true, false, List, [], ◌∷◌, ◌++◌, map, Option, Some, None, is_some}
use Rattle.mr_names_tree.specs.declared.node.Kind.{Kind}
use Rattle.mr_names_tree.specs.declared.node.Kind.TheVariants as kind
use Rattle.mr_names.specs.declared.op.Op.TheVariants as op
use Rattle.mr_paths.specs.Layout as layout
use Rattle.mr_commit.specs.Line.{Line, deletes, moves}
use Rattle.mr_commit.specs.Line.Line.{Does, Clears, Merges, MergesEach, Seeks, Measures}
use Rattle.mr_commit.specs.Tables.{setup_job, commit_job}
use Rattle.mr_recover.specs.declared.winner.TaskWinner.{TaskWinner}
use Rattle.mr_master_model.specs.declared.phase.Phase as main
use Rattle.mr_master_model.specs.declared.phase.Phase.TheVariants as phase
use Rattle.mr_master_model.specs.declared.phase.DutyName.{DutyName}
use Rattle.mr_master_model.specs.declared.phase.DutyName.TheVariants as name
use Rattle.mr_master_model.specs.Past.{Work, LooksForSuccess, LooksForFail, LooksForStarted, Reads, SetsUp, TakesOver, Runs, CommitsJob, TellsSuccess, TellsFail, AbortsCommit, Fails, Ends, Stops}
use Rattle.mr_master_model.specs.Duty.{Duty}
use Rattle.mr_world_model.specs.Ids.{dest}
use Rattle.mr_world_model.specs.Content.{bar_of}
use Rattle.mr_world_model.specs.Packets.{Store, Names, Append_record, Flush, Read_history}
use Rattle.mr_world_model.specs.Hearing.{Phase, Opening, Setting_up, Recovering, Running, Committing, Failing, Finished, Stopped, Todo_winner, Recover_step, Look_below, Measure, Clear_own, Move_from, Commit_step, List_job, Merging, Cleaning, Marking, Succeeding, Failing_mark, Aborting, Merge_step, Look_at, List_into, Delete_then, Move_to}
use Rattle.mr_master_refinement.specs.Steps.{store_call}

-- ---- phases

abbrev pub phase_of : Phase → main.Phase
phase_of (Opening n) = phase.Opening
phase_of Setting_up = phase.Recovering
phase_of (Recovering todo at) = phase.Recovering
phase_of Running = phase.Running
phase_of (Committing at) = phase.Committing
phase_of (Failing is_stable) = phase.Failing
phase_of (Finished succeeded) = phase.Ended
phase_of Stopped = phase.Stopped

-- a phase that a master can be in: what is measured has a recorded length, and a list of winners or of merges is not empty
abbrev pub CanBe : Phase → Type 0
CanBe (Recovering [] at) = ⊥
CanBe (Recovering (x ∷ todo) (Measure j)) = is_some x.bytes ≡ true
CanBe (Recovering (x ∷ todo) (Look_below j)) = Unit {0}
CanBe (Recovering (x ∷ todo) (Clear_own j)) = Unit {0}
CanBe (Recovering (x ∷ todo) (Move_from j)) = Unit {0}
CanBe (Committing (Merging [])) = ⊥
CanBe (Committing (Merging (x ∷ todo))) = Unit {0}
CanBe (Committing List_job) = Unit {0}
CanBe (Committing Cleaning) = Unit {0}
CanBe (Committing Marking) = Unit {0}
CanBe (Committing Succeeding) = Unit {0}
CanBe (Committing Failing_mark) = Unit {0}
CanBe (Committing Aborting) = Unit {0}
CanBe (Opening n) = Unit {0}
CanBe Setting_up = Unit {0}
CanBe Running = Unit {0}
CanBe (Failing b) = Unit {0}
CanBe (Finished b) = Unit {0}
CanBe Stopped = Unit {0}

-- ---- lines

abbrev pub winner_of : Todo_winner → TaskWinner
winner_of x = record { task = x.task; attempt = x.attempt; bytes = x.bytes }

abbrev pub length_of : Option ℕ → ℕ
length_of None = 0
length_of (Some bytes) = bytes

abbrev pub taking : ℕ → Todo_winner → ℕ → List Line
taking k x j = Clears (layout.committed dest k x.task) ∷ moves (layout.committed dest j x.task) (layout.committed dest k x.task) ∷ []

abbrev pub recovery_lines : ℕ → Todo_winner → Recover_step → List Line
recovery_lines k x (Look_below j) = Seeks dest x.task x.bytes k j ∷ []
recovery_lines k x (Measure j) = Measures (layout.committed dest j x.task ++ layout.part x.task.number ∷ []) (length_of x.bytes) ∷ taking k x j
recovery_lines k x (Clear_own j) = taking k x j
recovery_lines k x (Move_from j) = moves (layout.committed dest j x.task) (layout.committed dest k x.task) ∷ []

abbrev pub taken_as : Bool → Kind
taken_as true = kind.Dir
taken_as false = kind.File

abbrev pub merge_lines : List Merge_step → List Line
merge_lines [] = []
merge_lines (Look_at f t d ∷ todo) = Merges (taken_as d) f t ∷ merge_lines todo
merge_lines (List_into f t ∷ todo) = MergesEach f t ∷ merge_lines todo
merge_lines (Delete_then f t ∷ todo) = deletes t ∷ moves f t ∷ merge_lines todo
merge_lines (Move_to f t ∷ todo) = moves f t ∷ merge_lines todo

abbrev pub marking : List Line
marking = Does (op.Create (layout.marker dest) true) ∷ []

abbrev pub finishing : List Line
finishing = Clears (layout.temporary dest) ∷ marking

-- ---- works

abbrev pub commit_work : ℕ → Commit_step → Work
commit_work k List_job = CommitsJob (commit_job dest k)
commit_work k (Merging todo) = CommitsJob (merge_lines todo ++ finishing)
commit_work k Cleaning = CommitsJob finishing
commit_work k Marking = CommitsJob marking
commit_work k Succeeding = TellsSuccess
commit_work k Failing_mark = TellsFail
commit_work k Aborting = AbortsCommit

abbrev pub opening_work : ℕ → Work
opening_work zero = LooksForSuccess
opening_work (suc zero) = LooksForFail
opening_work (suc (suc zero)) = LooksForStarted
opening_work (suc (suc (suc n))) = Reads

abbrev pub recovery_work : ℕ → List Todo_winner → Recover_step → Work
recovery_work k [] at = Runs
recovery_work k (x ∷ todo) at = TakesOver (winner_of x) (recovery_lines k x at) (map winner_of todo)

unfoldable pub work_at : ℕ → Phase → Work
work_at k (Opening n) = opening_work n
work_at k Setting_up = SetsUp (setup_job dest k)
work_at k (Recovering todo at) = recovery_work k todo at
work_at k Running = Runs
work_at k (Committing at) = commit_work k at
work_at k (Failing is_stable) = Fails is_stable
work_at k (Finished succeeded) = Ends succeeded
work_at k Stopped = Stops

-- ---- what a store call is for

abbrev pub name_of_read : Store → DutyName
name_of_read Read_history = name.Read
name_of_read _ = name.Marks

abbrev pub name_of_names : Bool → DutyName
name_of_names true = name.Bar
name_of_names false = name.Started

abbrev pub name_of_running : Store → DutyName
name_of_running (Names o) = name_of_names (is_some (bar_of o))
name_of_running (Append_record r) = name.Append
name_of_running Flush = name.Flush
name_of_running Read_history = name.Read

abbrev pub name_of_failing : Store → DutyName
name_of_failing (Names o) = name.Abort
name_of_failing (Append_record r) = name.Append
name_of_failing Flush = name.Flush
name_of_failing Read_history = name.Read

abbrev pub name_of_commit : Commit_step → DutyName
name_of_commit List_job = name.Merge
name_of_commit (Merging todo) = name.Merge
name_of_commit Cleaning = name.Cleanup
name_of_commit Marking = name.Marker
name_of_commit Succeeding = name.Success
name_of_commit Failing_mark = name.Fail
name_of_commit Aborting = name.Abort

unfoldable pub duty_name : Phase → Store → DutyName
duty_name (Opening n) call = name_of_read call
duty_name Setting_up call = name.Setup
duty_name (Recovering todo at) call = name.Recover
duty_name Running call = name_of_running call
duty_name (Committing at) call = name_of_commit at
duty_name (Failing is_stable) call = name_of_failing call
duty_name (Finished succeeded) call = name.Abort
duty_name Stopped call = name.Abort

abbrev pub named : Phase → Option Store → Option Duty
named p None = None
named p (Some call) = Some (record { name = duty_name p call; call = store_call call })
