-- Where the answer of a duty leads.
use Rattle.std.proofs.Common.{ℕ, zero, suc, ◌-◌, ◌≡◌, refl, sym, ◌∙◌, ap, Bool, true, false, ◌&&◌, ◌||◌, not, List, [], ◌∷◌, ◌++◌, map, filter, Option, Some, None, if◌then◌else◌, nat_eq, nat_lt, nat_le, length, arith, Result, Ok, Err}
use Rattle.std.specs.List.{list_any}
use Rattle.std.proofs.lemmas.Bool.Decides.{nat_tests}
use Rattle.mr_names.specs.declared.fault.NameFault.{NameFault}
use Rattle.mr_names.specs.declared.fault.NameFault.TheVariants as names
use Rattle.mr_names_tree.specs.declared.node.Kind.{Kind}
use Rattle.mr_names_tree.specs.declared.node.Kind.TheVariants as kind
use Rattle.mr_names.specs.declared.op.Answer.TheVariants as found
use Rattle.mr_paths.specs.Layout as layout
use Rattle.mr_commit.specs.Line.{Line, is_answer_to, older, deletes, moves, is_missing, passes_missing, fault_at, merging_child, merging_task, is_task}
use Rattle.mr_commit.specs.Line.Line.{Does, Clears, Merges, MergesEach, MergesTasks, Seeks, Measures}
use Rattle.mr_commit.specs.Steps.{after, done_at}
use Rattle.mr_commit.specs.Tables.{setup_job}
use Rattle.mr_commit.specs.Recovery.{recover_task, recovery_from}
use Rattle.mr_commit.specs.declared.fault.CommitFault.{CommitFault}
use Rattle.mr_commit.specs.declared.fault.CommitFault.TheVariants as fault
use Rattle.mr_commit.specs.declared.fault.StepDone.{StepDone}
use Rattle.mr_history.specs.declared.record.Record.{Record}
use Rattle.mr_history.specs.declared.record.Record.TheVariants.{AttemptStarted, MapSucceeded, ReduceSucceeded, AttemptFailed, JobUnsuccessful}
use Rattle.mr_master_model.specs.declared.phase.DutyName.{DutyName}
use Rattle.mr_master_model.specs.declared.phase.DutyName.TheVariants as name
use Rattle.mr_master_model.specs.declared.setting.Setting.{Setting}
use Rattle.mr_master_model.specs.declared.store.StoreAnswer.{StoreAnswer}
use Rattle.mr_master_model.specs.declared.store.StoreAnswer.TheVariants as answer
use Rattle.mr_master_model.specs.Past.{Work, SetsUp, TakesOver, Runs, CommitsJob, TellsSuccess, TellsFail, Fails, Ends, Stops}
use Rattle.mr_master_model.specs.Readings as read
use Rattle.mr_master_model.specs.Readings.{or_else, all_succeeded, is_live}
use Rattle.mr_master_model.specs.Duty.{duty}
use Rattle.mr_master_model.specs.Answered as after
use Rattle.mr_master_model.specs.Answered.{running_after, failing_after, read_by, takes_over, goes_on, stepped, heard_by, work_after, next_winner, name_of}
use Rattle.mr_world_model.specs.Ids.{Attempt, TaskId, name_eq, temporary_name, committed, job_attempt, commit_success, commit_fail, Path, dest, temporary, generation_name, task_name, part_name, commit_started, marker}
use Rattle.mr_world_model.specs.Content.{Op, Listed, MkDirs, Create, Bar, Delete, Rename, Exist, ListDir, Read}
use Rattle.mr_world_model.specs.Packets.{Config, Names, Append_record, Flush, Read_history, Reply, Fine, Found, Entries, Bytes, Records, Refused}
use Rattle.mr_world_model.specs.Hearing.{Setting_up, Recovering, Running, Committing, Failing, Finished, Stopped, Todo_winner, Look_below, Measure, Clear_own, Move_from, List_job, Merging, Cleaning, Marking, Succeeding, Failing_mark, Aborting, Merge_step, Look_at, List_into, Delete_then, Move_to}
use Rattle.mr_world_model.specs.Duties.{merging, refused, is_superseded, is_cleared, mark_at, is_unsuccessful, is_read, is_fine, looked, was_read, recover_rest, recovering, merge_next, tops, inners, is_dir_kind, committing, running, failing, after_flush}
use Rattle.mr_master_refinement.specs.Steps.{plain, written, setting, answer_of, not_told, not_written}
use Rattle.mr_master_refinement.specs.Works.{winner_of, taken_as, merge_lines, finishing, marking, taking, commit_work, opening_work, work_at}

pub some-is : {A : Type 0} (x y : A) → Some x ≡ Some y → x ≡ y
some-is x y e = cc

pub and-false : (b : Bool) → (b && false) ≡ false
and-false true = refl
and-false false = refl

-- ---- a line's call is refused, or answered

abbrev pub End : Result StepDone CommitFault × List Line → (List Line → Work) → Work → Work → Work
End x more finished refused = goes_on x.0 x.1 more finished refused

pub err-line : (line : Line) (rest : List Line) (g : CommitFault) (more : List Line → Work) (fin ref : Work) → End (after line rest (Err g)) more fin ref ≡ ref
err-line line rest fault.NoMemory more fin ref = refl
err-line line rest (fault.Names f) more fin ref = refl
err-line line rest fault.OutputMissing more fin ref = refl
err-line line rest fault.WrongLength more fin ref = refl
err-line line rest fault.DestinationExists more fin ref = refl
err-line line rest fault.WrongAnswer more fin ref = refl
err-line line rest fault.Over more fin ref = refl

refused-line : (line : Line) (rest : List Line) (f : NameFault) (more : List Line → Work) (fin ref : Work) → (is_missing f && passes_missing line) ≡ false →
    stepped (line ∷ rest) (answer.Names (Err f)) more fin ref ≡ ref
refused-line line rest f more fin ref e = ap (λ b. End (after line rest (if b then Ok [] else Err (fault_at line f))) more fin ref) e ∙ err-line line rest (fault_at line f) more fin ref

-- where lines that finish are left, there are more
more-lines : (xs : List Line) (more : List Line → Work) (fin ref : Work) → goes_on (Ok (done_at (xs ++ finishing))) (xs ++ finishing) more fin ref ≡ more (xs ++ finishing)
more-lines [] more fin ref = refl
more-lines (x ∷ xs) more fin ref = refl

abbrev is_gone : NameFault → Bool
is_gone names.Missing = true
is_gone _ = false

cleared-is : (f : NameFault) → is_cleared (Refused f) ≡ is_missing f
cleared-is names.Missing = refl
cleared-is (names.Superseded n) = refl
cleared-is names.Barred = refl
cleared-is names.Exists = refl
cleared-is names.NotDir = refl
cleared-is names.NotFile = refl
cleared-is names.Closed = refl
cleared-is names.NoParent = refl
cleared-is names.IntoItself = refl
cleared-is names.Full = refl
cleared-is names.NoMemory = refl

superseded-is : (f : NameFault) → is_superseded (Refused f) ≡ after.is_superseded (answer.Names (Err f))
superseded-is (names.Superseded n) = refl
superseded-is names.Missing = refl
superseded-is names.Barred = refl
superseded-is names.Exists = refl
superseded-is names.NotDir = refl
superseded-is names.NotFile = refl
superseded-is names.Closed = refl
superseded-is names.NoParent = refl
superseded-is names.IntoItself = refl
superseded-is names.Full = refl
superseded-is names.NoMemory = refl

-- where a clearing is answered: gone, or refused
clears-line : (p : Path) (rest : List Line) (r : Reply) (more : List Line → Work) (fin ref : Work) →
    stepped (Clears p ∷ rest) (answer_of (Names (Delete p)) r) more fin ref ≡ (if is_cleared r then goes_on (Ok (done_at rest)) rest more fin ref else ref)
clears-line p rest Fine more fin ref = refl
clears-line p rest (Refused f) more fin ref = by (is_missing f) refl
  where
    by : (b : Bool) → is_missing f ≡ b → stepped (Clears p ∷ rest) (answer.Names (Err f)) more fin ref ≡ (if is_cleared (Refused f) then goes_on (Ok (done_at rest)) rest more fin ref else ref)
    by true e = ap (λ b. End (after (Clears p) rest (if b && true then Ok [] else Err (fault_at (Clears p) f))) more fin ref) e ∙ ap (λ b. if b then goes_on (Ok (done_at rest)) rest more fin ref else ref) (sym (cleared-is f ∙ e))
    by false e = refused-line (Clears p) rest f more fin ref (ap (λ b. b && true) e) ∙ ap (λ b. if b then goes_on (Ok (done_at rest)) rest more fin ref else ref) (sym (cleared-is f ∙ e))
clears-line p rest _ more fin ref = refl

-- a call of its own is answered
does-line : (o : Op) (rest : List Line) (r : Reply) (more : List Line → Work) (fin ref : Work) → answer_of (Names o) r ≡ plain r → is_answer_to o found.Done ≡ true →
    stepped (Does o ∷ rest) (answer_of (Names o) r) more fin ref ≡ (if is_fine r then goes_on (Ok (done_at rest)) rest more fin ref else ref)
does-line o rest r more fin ref e own = ap (λ a. stepped (Does o ∷ rest) a more fin ref) e ∙ by r
  where
    by : (r : Reply) → stepped (Does o ∷ rest) (plain r) more fin ref ≡ (if is_fine r then goes_on (Ok (done_at rest)) rest more fin ref else ref)
    by Fine = rw own refl
    by (Refused f) = refused-line (Does o) rest f more fin ref (and-false (is_missing f))
    by _ = refl

pub nat-sym : (a b : ℕ) → nat_eq a b ≡ nat_eq b a
nat-sym a b = grind (arith, nat_tests)

-- ---- Opening

unsuccessful-is : (rs : List Record) → list_any after.is_unsuccessful rs ≡ is_unsuccessful rs
unsuccessful-is [] = refl
unsuccessful-is (JobUnsuccessful ∷ rs) = refl
unsuccessful-is (MapSucceeded a n i ∷ rs) = unsuccessful-is rs
unsuccessful-is (ReduceSucceeded a z ∷ rs) = unsuccessful-is rs
unsuccessful-is (AttemptStarted a n ∷ rs) = unsuccessful-is rs
unsuccessful-is (AttemptFailed a ∷ rs) = unsuccessful-is rs

module _ (cfg : Config) (k : ℕ) where
  abbrev W : Setting
  W = setting cfg k

  not-told : (f : NameFault) → read_by W (not_told f) ≡ Stops
  not-told (names.Superseded n) = refl
  not-told _ = refl

  reads : (r : Reply) → read_by W (answer_of Read_history r) ≡ work_at k (was_read r)
  unfolding work_at
  reads (Records rs) = ap (λ b. if b then Fails true else SetsUp (setup_job dest k)) (unsuccessful-is rs) ∙ by (is_unsuccessful rs)
    where
      by : (b : Bool) → (if b then Fails true else SetsUp (setup_job dest k)) ≡ work_at k (if b then Failing true else Setting_up)
      by true = refl
      by false = refl
  reads (Refused f) = not-told f
  reads _ = refl

  pub opening-turn : (m : read.Seen) (n : ℕ) (r : Reply) → work_after W m (answer_of (mark_at n) r) (opening_work n) ≡ work_at k (if is_read (mark_at n) then was_read r else looked n r)
  unfolding work_at work_after
  opening-turn m zero (Found (Some x)) = refl
  opening-turn m zero (Found None) = refl
  opening-turn m zero _ = refl
  opening-turn m (suc zero) (Found (Some x)) = refl
  opening-turn m (suc zero) (Found None) = refl
  opening-turn m (suc zero) _ = refl
  opening-turn m (suc (suc zero)) (Found (Some x)) = refl
  opening-turn m (suc (suc zero)) (Found None) = refl
  opening-turn m (suc (suc zero)) _ = refl
  opening-turn m (suc (suc (suc n))) r = reads r

  -- ---- Recovering

  next-is : (ws : List Todo_winner) → next_winner W (map winner_of ws) ≡ work_at k (recover_rest k ws)
  unfolding work_at
  next-is [] = refl
  next-is (x ∷ ws) = by (nat_le k 1) refl
    where
      by : (b : Bool) → nat_le k 1 ≡ b → takes_over (winner_of x) (recover_task dest k x.task x.bytes) (map winner_of ws) ≡ work_at k (if b then Stopped else Recovering (x ∷ ws) (Look_below (k - 1)))
      by true e = let l : nat_lt 1 k ≡ false = grind (arith, nat_tests, e) in
          ap (λ (b : Bool). takes_over (winner_of x) (recovery_from dest k x.task x.bytes (if b then Some (k - 1) else None)) (map winner_of ws)) l
      by false e = let l : nat_lt 1 k ≡ true = grind (arith, nat_tests, e) in
          ap (λ (b : Bool). takes_over (winner_of x) (recovery_from dest k x.task x.bytes (if b then Some (k - 1) else None)) (map winner_of ws)) l

  pub setup-turn : (m : read.Seen) (ws : List Todo_winner) (r : Reply) → after.winners W m ≡ map winner_of ws →
      work_after W m (answer_of (Names (MkDirs (job_attempt k))) r) (work_at k Setting_up) ≡ work_at k (if is_fine r then recover_rest k ws else Stopped)
  unfolding work_at work_after layout.job_attempt generation_name
  setup-turn m ws r e = does-line (MkDirs (job_attempt k)) [] r SetsUp (next_winner W (after.winners W m)) Stops (plain-is r) refl ∙ by (is_fine r)
    where
      plain-is : (r : Reply) → answer_of (Names (MkDirs (job_attempt k))) r ≡ plain r
      plain-is r = refl

      by : (b : Bool) → (if b then next_winner W (after.winners W m) else Stops) ≡ work_at k (if b then recover_rest k ws else Stopped)
      by true = ap (next_winner W) e ∙ next-is ws
      by false = refl

  module _ (m : read.Seen) (t : TaskId) (a : Attempt) (todo : List Todo_winner) where
    abbrev X : Option ℕ → Todo_winner
    X z = record { task = t; attempt = a; bytes = z }

    older-turn : (z : Option ℕ) (j : ℕ) → work_after W m (answer.Names (Ok (found.Found None))) (work_at k (Recovering (X z ∷ todo) (Look_below j)))
        ≡ work_at k (if nat_le j 1 then Stopped else Recovering (X z ∷ todo) (Look_below (j - 1)))
    unfolding work_at work_after
    older-turn z j = by (nat_le j 1) refl
      where
        at : Option ℕ → Work
        at o = End (after (Seeks dest t z k j) [] (older dest t z k o)) (λ l. TakesOver (winner_of (X z)) l (map winner_of todo)) (next_winner W (map winner_of todo)) Stops

        by : (b : Bool) → nat_le j 1 ≡ b → at (if nat_lt 1 j then Some (j - 1) else None) ≡ work_at k (if b then Stopped else Recovering (X z ∷ todo) (Look_below (j - 1)))
        by true e = let l : nat_lt 1 j ≡ false = grind (arith, nat_tests, e) in ap (λ (b : Bool). at (if b then Some (j - 1) else None)) l
        by false e = let l : nat_lt 1 j ≡ true = grind (arith, nat_tests, e) in ap (λ (b : Bool). at (if b then Some (j - 1) else None)) l

    pub look-turn : (z : Option ℕ) (j : ℕ) (r : Reply) → work_after W m (answer_of (Names (Exist (committed j t))) r) (work_at k (Recovering (X z ∷ todo) (Look_below j)))
        ≡ work_at k (recovering k (X z ∷ todo) (Look_below j) r)
    unfolding work_at work_after layout.committed layout.part generation_name task_name
    look-turn None j (Found (Some x)) = refl
    look-turn (Some n) j (Found (Some x)) = refl
    look-turn z j (Found None) = older-turn z j
    look-turn z j (Refused f) = refused-line (Seeks dest t z k j) [] f (λ l. TakesOver (winner_of (X z)) l (map winner_of todo)) (next_winner W (map winner_of todo)) Stops (and-false (is_missing f))
    look-turn z j _ = refl

    pub measure-turn : (n j : ℕ) (r : Reply) → work_after W m (answer_of (Names (Read (committed j t ++ part_name t ∷ []))) r) (work_at k (Recovering (X (Some n) ∷ todo) (Measure j)))
        ≡ work_at k (recovering k (X (Some n) ∷ todo) (Measure j) r)
    unfolding work_at work_after layout.committed layout.part generation_name task_name part_name
    measure-turn n j (Bytes bytes) = ap at (nat-sym (length bytes) n) ∙ by (nat_eq n (length bytes))
      where
        at : Bool → Work
        at b = End (after (Measures (layout.committed dest j t ++ layout.part t.number ∷ []) n) (taking k (X (Some n)) j) (if b then Ok [] else Err fault.WrongLength))
            (λ l. TakesOver (winner_of (X (Some n))) l (map winner_of todo)) (next_winner W (map winner_of todo)) Stops

        by : (b : Bool) → at b ≡ work_at k (if b then Recovering (X (Some n) ∷ todo) (Clear_own j) else Stopped)
        by true = refl
        by false = refl
    measure-turn n j (Refused f) = refused-line (Measures (layout.committed dest j t ++ layout.part t.number ∷ []) n) (taking k (X (Some n)) j) f
        (λ l. TakesOver (winner_of (X (Some n))) l (map winner_of todo)) (next_winner W (map winner_of todo)) Stops (and-false (is_missing f))
    measure-turn n j _ = refl

    pub clear-turn : (z : Option ℕ) (j : ℕ) (r : Reply) → work_after W m (answer_of (Names (Delete (committed k t))) r) (work_at k (Recovering (X z ∷ todo) (Clear_own j)))
        ≡ work_at k (recovering k (X z ∷ todo) (Clear_own j) r)
    unfolding work_at work_after layout.committed generation_name task_name
    clear-turn z j r = clears-line (committed k t) (moves (committed j t) (committed k t) ∷ []) r (λ l. TakesOver (winner_of (X z)) l (map winner_of todo)) (next_winner W (map winner_of todo)) Stops ∙ by (is_cleared r)
      where
        by : (b : Bool) → (if b then TakesOver (winner_of (X z)) (moves (committed j t) (committed k t) ∷ []) (map winner_of todo) else Stops) ≡ work_at k (if b then Recovering (X z ∷ todo) (Move_from j) else Stopped)
        by true = refl
        by false = refl

    pub move-turn : (z : Option ℕ) (j : ℕ) (r : Reply) → work_after W m (answer_of (Names (Rename (committed j t) (committed k t))) r) (work_at k (Recovering (X z ∷ todo) (Move_from j)))
        ≡ work_at k (recovering k (X z ∷ todo) (Move_from j) r)
    unfolding work_at work_after layout.committed generation_name task_name
    move-turn z j r = does-line (Rename (committed j t) (committed k t)) [] r (λ l. TakesOver (winner_of (X z)) l (map winner_of todo)) (next_winner W (map winner_of todo)) Stops refl refl ∙ by (is_fine r)
      where
        by : (b : Bool) → (if b then next_winner W (map winner_of todo) else Stops) ≡ work_at k (if b then recover_rest k todo else Stopped)
        by true = next-is todo
        by false = refl

  -- ---- Committing

  kinds : (x : Kind) → taken_as (is_dir_kind x) ≡ x
  kinds kind.Dir = refl
  kinds kind.File = refl

  inner-lines : (f u : Path) (es : List Listed) (todo : List Merge_step) → merge_lines (inners f u es ++ todo) ++ finishing ≡ map (merging_child f u) es ++ (merge_lines todo ++ finishing)
  inner-lines f u [] todo = refl
  inner-lines f u (e ∷ es) todo = let rest = inner-lines f u es todo in let same = kinds e.kind in λ i. Merges (same i) (f ++ e.name ∷ []) (u ++ e.name ∷ []) ∷ rest i

  top-lines : (f : Path) (es : List Listed) → merge_lines (tops f es) ++ finishing ≡ map (merging_task f dest) (filter is_task es) ++ finishing
  top-lines f [] = refl
  top-lines f (e ∷ es) = by (name_eq e.name temporary_name) (top-lines f es)
    where
      by : (b : Bool) → merge_lines (tops f es) ++ finishing ≡ map (merging_task f dest) (filter is_task es) ++ finishing →
          merge_lines (if b then tops f es else Look_at (f ++ e.name ∷ []) dest true ∷ tops f es) ++ finishing
          ≡ map (merging_task f dest) (if not b then e ∷ filter is_task es else filter is_task es) ++ finishing
      by true rest = rest
      by false rest = λ i. Merges kind.Dir (f ++ e.name ∷ []) dest ∷ rest i

  merge-next : (todo : List Merge_step) → commit_work k (merge_next todo) ≡ CommitsJob (merge_lines todo ++ finishing)
  merge-next [] = refl
  merge-next (x ∷ todo) = refl

  abbrev refuse : StoreAnswer → Work
  refuse a = if after.is_superseded a then Stops else TellsFail

  refused-is : (f : NameFault) → refuse (answer.Names (Err f)) ≡ work_at k (refused (Refused f))
  unfolding work_at
  refused-is (names.Superseded n) = refl
  refused-is _ = refl

  -- a refusal, or an answer of another kind
  merge-refused : (line : Line) (rest : List Line) (f : NameFault) → (is_missing f && passes_missing line) ≡ false →
      stepped (line ∷ rest) (answer.Names (Err f)) CommitsJob TellsSuccess (refuse (answer.Names (Err f))) ≡ work_at k (refused (Refused f))
  merge-refused line rest f e = refused-line line rest f CommitsJob TellsSuccess (refuse (answer.Names (Err f))) e ∙ refused-is f

  pub list-turn : (m : read.Seen) (r : Reply) → work_after W m (answer_of (Names (ListDir (job_attempt k))) r) (work_at k (Committing List_job)) ≡ work_at k (committing k List_job r)
  unfolding work_at work_after layout.job_attempt layout.temporary layout.marker generation_name
  list-turn m (Entries es) = more-lines (map (merging_task (job_attempt k) dest) (filter is_task es)) CommitsJob TellsSuccess _
      ∙ (ap CommitsJob (sym (top-lines (job_attempt k) es)) ∙ sym (merge-next (tops (job_attempt k) es)))
  list-turn m (Refused f) = merge-refused (MergesTasks (job_attempt k) dest) finishing f (and-false (is_missing f))
  list-turn m _ = refl

  pub look-at-turn : (m : read.Seen) (f u : Path) (d : Bool) (todo : List Merge_step) (r : Reply) →
      work_after W m (answer_of (Names (Exist u)) r) (work_at k (Committing (Merging (Look_at f u d ∷ todo)))) ≡ work_at k (merging (Look_at f u d ∷ todo) r Cleaning)
  unfolding work_at work_after
  look-at-turn m f u d todo (Found None) = refl
  look-at-turn m f u true todo (Found (Some kind.Dir)) = refl
  look-at-turn m f u true todo (Found (Some kind.File)) = refl
  look-at-turn m f u false todo (Found (Some x)) = refl
  look-at-turn m f u d todo (Refused x) = merge-refused (Merges (taken_as d) f u) (merge_lines todo ++ finishing) x (and-false (is_missing x))
  look-at-turn m f u d todo _ = refl

  pub list-into-turn : (m : read.Seen) (f u : Path) (todo : List Merge_step) (r : Reply) →
      work_after W m (answer_of (Names (ListDir f)) r) (work_at k (Committing (Merging (List_into f u ∷ todo)))) ≡ work_at k (merging (List_into f u ∷ todo) r Cleaning)
  unfolding work_at work_after
  list-into-turn m f u todo (Entries es) =
      (λ i. goes_on (Ok (done_at (sym (inner-lines f u es todo) i))) (sym (inner-lines f u es todo) i) CommitsJob TellsSuccess TellsFail)
      ∙ (more-lines (merge_lines (inners f u es ++ todo)) CommitsJob TellsSuccess TellsFail ∙ sym (merge-next (inners f u es ++ todo)))
  list-into-turn m f u todo (Refused x) = merge-refused (MergesEach f u) (merge_lines todo ++ finishing) x (and-false (is_missing x))
  list-into-turn m f u todo _ = refl

  pub delete-turn : (m : read.Seen) (f u : Path) (todo : List Merge_step) (r : Reply) →
      work_after W m (answer_of (Names (Delete u)) r) (work_at k (Committing (Merging (Delete_then f u ∷ todo)))) ≡ work_at k (merging (Delete_then f u ∷ todo) r Cleaning)
  unfolding work_at work_after
  delete-turn m f u todo Fine = refl
  delete-turn m f u todo (Refused x) = merge-refused (deletes u) (moves f u ∷ (merge_lines todo ++ finishing)) x (and-false (is_missing x))
  delete-turn m f u todo _ = refl

  pub move-to-turn : (m : read.Seen) (f u : Path) (todo : List Merge_step) (r : Reply) →
      work_after W m (answer_of (Names (Rename f u)) r) (work_at k (Committing (Merging (Move_to f u ∷ todo)))) ≡ work_at k (merging (Move_to f u ∷ todo) r Cleaning)
  unfolding work_at work_after
  move-to-turn m f u todo Fine = more-lines (merge_lines todo) CommitsJob TellsSuccess TellsFail ∙ sym (merge-next todo)
  move-to-turn m f u todo (Refused x) = merge-refused (moves f u) (merge_lines todo ++ finishing) x (and-false (is_missing x))
  move-to-turn m f u todo _ = refl

  pub cleaning-turn : (m : read.Seen) (r : Reply) → work_after W m (answer_of (Names (Delete temporary)) r) (work_at k (Committing Cleaning)) ≡ work_at k (committing k Cleaning r)
  unfolding work_at work_after layout.temporary layout.marker
  cleaning-turn m Fine = refl
  cleaning-turn m (Refused f) = by (is_missing f) refl
    where
      by : (b : Bool) → is_missing f ≡ b → stepped (Clears temporary ∷ marking) (answer.Names (Err f)) CommitsJob TellsSuccess (refuse (answer.Names (Err f))) ≡ work_at k (if is_cleared (Refused f) then Committing Marking else refused (Refused f))
      by true e = ap (λ b. End (after (Clears temporary) marking (if b && true then Ok [] else Err (fault_at (Clears temporary) f))) CommitsJob TellsSuccess (refuse (answer.Names (Err f)))) e ∙ ap (λ b. work_at k (if b then Committing Marking else refused (Refused f))) (sym (cleared-is f ∙ e))
      by false e = merge-refused (Clears temporary) marking f (ap (λ b. b && true) e) ∙ ap (λ b. work_at k (if b then Committing Marking else refused (Refused f))) (sym (cleared-is f ∙ e))
  cleaning-turn m _ = refl

  pub marking-turn : (m : read.Seen) (r : Reply) → work_after W m (answer_of (Names (Create marker true)) r) (work_at k (Committing Marking)) ≡ work_at k (committing k Marking r)
  unfolding work_at work_after layout.marker
  marking-turn m Fine = refl
  marking-turn m (Refused f) = merge-refused (Does (Create marker true)) [] f (and-false (is_missing f))
  marking-turn m _ = refl

  pub succeeding-turn : (m : read.Seen) (r : Reply) → work_after W m (answer_of (Names (Create commit_success true)) r) (work_at k (Committing Succeeding)) ≡ work_at k (committing k Succeeding r)
  unfolding work_at work_after
  succeeding-turn m Fine = refl
  succeeding-turn m (Refused f) = refl
  succeeding-turn m _ = refl

  pub mark-fail-turn : (m : read.Seen) (r : Reply) → work_after W m (answer_of (Names (Create commit_fail true)) r) (work_at k (Committing Failing_mark)) ≡ work_at k (committing k Failing_mark r)
  unfolding work_at work_after
  mark-fail-turn m Fine = refl
  mark-fail-turn m (Refused f) = refl
  mark-fail-turn m _ = refl

  pub aborting-turn : (m : read.Seen) (r : Reply) → work_after W m (answer_of (Names (Delete temporary)) r) (work_at k (Committing Aborting)) ≡ work_at k (committing k Aborting r)
  unfolding work_at work_after
  aborting-turn m Fine = refl
  aborting-turn m (Refused (names.Superseded n)) = refl
  aborting-turn m (Refused f) = by f
    where
      by : (f : NameFault) → (if after.is_superseded (answer.Names (Err f)) then Stops else Ends false) ≡ work_at k (if is_superseded (Refused f) then Stopped else Finished false)
      by (names.Superseded n) = refl
      by _ = refl
  aborting-turn m _ = refl

  -- ---- Running and Failing

  not-written : (f : NameFault) → after.is_fine (not_written f) ≡ false
  not-written (names.Superseded n) = refl
  not-written _ = refl

  pub written-fine : (r : Reply) → after.is_fine (written r) ≡ is_fine r
  written-fine (Refused f) = not-written f
  written-fine _ = refl

  pub plain-fine : (r : Reply) → after.is_fine (plain r) ≡ is_fine r
  plain-fine Fine = refl
  plain-fine _ = refl

  abbrev run_on : Option DutyName → Bool → Work
  run_on n b = if b then running_after W n else Stops

  pub bar-turn : (m : read.Seen) (tail : List Record) (a : Attempt) (r : Reply) → name_of (duty W m) ≡ Some name.Bar → work_after W m (answer_of (Names (Bar a)) r) Runs ≡ work_at k (running tail (Names (Bar a)) r)
  unfolding work_at work_after
  bar-turn m tail a r e = (let f = plain-fine r in λ i. run_on (e i) (f i)) ∙ by (is_fine r)
    where
      by : (b : Bool) → run_on (Some name.Bar) b ≡ work_at k (if b then Running else Stopped)
      by true = refl
      by false = refl

  pub start-turn : (m : read.Seen) (tail : List Record) (r : Reply) → name_of (duty W m) ≡ Some name.Started → work_after W m (answer_of (Names (Create commit_started true)) r) Runs ≡ work_at k (running tail (Names (Create commit_started true)) r)
  unfolding work_at work_after
  start-turn m tail r e = (let f = plain-fine r in λ i. run_on (e i) (f i)) ∙ by (is_fine r)
    where
      by : (b : Bool) → run_on (Some name.Started) b ≡ work_at k (if b then Committing List_job else Stopped)
      by true = refl
      by false = refl

  pub append-turn : (m : read.Seen) (tail : List Record) (x : Record) (r : Reply) → name_of (duty W m) ≡ Some name.Append → work_after W m (answer_of (Append_record x) r) Runs ≡ work_at k (running tail (Append_record x) r)
  unfolding work_at work_after
  append-turn m tail x r e = (let f = written-fine r in λ i. run_on (e i) (f i)) ∙ by (is_fine r)
    where
      by : (b : Bool) → run_on (Some name.Append) b ≡ work_at k (if b then Running else Stopped)
      by true = refl
      by false = refl

  pub flush-turn : (m : read.Seen) (tail : List Record) (r : Reply) → name_of (duty W m) ≡ Some name.Flush → work_after W m (answer_of Flush r) Runs ≡ work_at k (running tail Flush r)
  unfolding work_at work_after
  flush-turn m tail r e = (let f = written-fine r in λ i. run_on (e i) (f i)) ∙ by (is_fine r)
    where
      by : (b : Bool) → run_on (Some name.Flush) b ≡ work_at k (if b then after_flush Running tail else Stopped)
      by true = refl
      by false = refl

  pub failing-append : (m : read.Seen) (tail : List Record) (b : Bool) (x : Record) (r : Reply) → name_of (duty W m) ≡ Some name.Append →
      work_after W m (answer_of (Append_record x) r) (Fails b) ≡ work_at k (failing b tail (Append_record x) r)
  unfolding work_at work_after
  failing-append m tail b x r e = ap (failing_after W m (written r) b) e ∙ (ap (λ (c : Bool). if c then Fails b else Stops) (written-fine r) ∙ by (is_fine r))
    where
      by : (c : Bool) → (if c then Fails b else Stops) ≡ work_at k (if c then Failing b else Stopped)
      by true = refl
      by false = refl

  pub failing-flush : (m : read.Seen) (tail : List Record) (b : Bool) (r : Reply) → m.tail ≡ tail → name_of (duty W m) ≡ Some name.Flush →
      work_after W m (answer_of Flush r) (Fails b) ≡ work_at k (failing b tail Flush r)
  unfolding work_at work_after
  failing-flush m tail b r t e = ap (failing_after W m (written r) b) e
      ∙ ((let f = written-fine r in let u = ap (list_any after.is_unsuccessful) t ∙ unsuccessful-is tail in λ i. if f i then Fails (b || u i) else Stops) ∙ by (is_fine r))
    where
      by : (c : Bool) → (if c then Fails (b || is_unsuccessful tail) else Stops) ≡ work_at k (if c then after_flush (Failing b) tail else Stopped)
      by true = refl
      by false = refl

  pub failing-abort : (m : read.Seen) (tail : List Record) (b : Bool) (r : Reply) → name_of (duty W m) ≡ Some name.Abort →
      work_after W m (answer_of (Names (Delete temporary)) r) (Fails b) ≡ work_at k (failing b tail (Names (Delete temporary)) r)
  unfolding work_at work_after layout.temporary
  failing-abort m tail b r e = ap (failing_after W m (plain r) b) e ∙ (clears-line temporary [] r (λ left. Fails b) (Ends false) Stops ∙ by (is_cleared r))
    where
      by : (c : Bool) → (if c then Ends false else Stops) ≡ work_at k (if c then Finished false else Stopped)
      by true = refl
      by false = refl
