-- What else an answer changes, and what is sent for it, by phases.
use Rattle.std.proofs.Common.{ℕ, zero, suc, ◌-◌, ◌≡◌, refl, ◌∙◌, ap, subst, Bool, true, false, ◌&&◌, List, [], ◌∷◌, ◌++◌, Option, Some, None, if◌then◌else◌, nat_eq, nat_lt, length, Result, Ok, Err}
use Rattle.mr_names.specs.declared.fault.NameFault.{NameFault}
use Rattle.mr_paths.specs.Layout as layout
use Rattle.mr_commit.specs.Line.{Line, older, moves, is_missing, passes_missing, fault_at, fault_of}
use Rattle.mr_commit.specs.Line.Line.{Clears, Seeks, Measures}
use Rattle.mr_commit.specs.Steps.{after}
use Rattle.mr_commit.specs.declared.fault.CommitFault.{CommitFault}
use Rattle.mr_commit.specs.declared.fault.CommitFault.TheVariants as fault
use Rattle.mr_commit.specs.declared.fault.StepDone.{StepDone}
use Rattle.mr_master_model.specs.declared.setting.Setting.{Setting}
use Rattle.mr_master_model.specs.declared.store.StoreAnswer.TheVariants as answer
use Rattle.mr_master_model.specs.Readings as read
use Rattle.mr_master_model.specs.Readings.{or_else, all_succeeded, is_live}
use Rattle.mr_master_model.specs.Duty.{duty}
use Rattle.mr_master_model.specs.Answered as after
use Rattle.mr_master_model.specs.Answered.{changed, with_earlier, after_duty, after_due, is_finished, running_after, failing_after, read_by, takes_over, goes_on, stepped, heard_by, work_after, next_winner, name_of}
use Rattle.mr_world_model.specs.Ids.{committed, Path, dest, temporary, commit_started}
use Rattle.mr_world_model.specs.Content.{Op, Create, Bar, Delete, Exist}
use Rattle.mr_world_model.specs.Packets.{Config, Store, Names, Append_record, Flush, Reply, Fine, Found, Bytes, Refused}
use Rattle.mr_world_model.specs.Hearing.{Seen, Phase, Opening, Setting_up, Recovering, Running, Committing, Failing, Finished, Stopped, Todo_winner, Recover_step, Look_below, Measure, Clear_own, Move_from, List_job, Merging, Cleaning, Marking, Succeeding, Failing_mark, Aborting}
use Rattle.mr_world_model.specs.Duties.{duty_of, mark_at, is_read, is_fine}
use Rattle.mr_master_refinement.specs.Steps.{plain, written, setting, store_call, answer_of, not_told, not_written}
use Rattle.mr_master_refinement.specs.Works.{length_of, taking, work_at, duty_name, named}
use Rattle.mr_master_refinement.specs.Works.{CanBe}
use Rattle.mr_master_refinement.proofs.Turn.{at-running, at-failing}
use Rattle.mr_master_refinement.proofs.Turns.{plain-fine, written-fine, some-is, and-false}
use Rattle.mr_packet.specs.declared.packet.Envelope.{Envelope}
use Rattle.mr_packet.specs.declared.packet.Packet.TheVariants.{Won}
use Rattle.mr_master_model.specs.Readings.{tell}
use Rattle.mr_master_model.specs.Sends.{to_all, work_sends, duty_sends, due_sends}
use Rattle.mr_task.specs.Calls as task_call
use Rattle.mr_master_refinement.specs.Steps.{told, listed, looked_up}
use Rattle.mr_master_refinement.specs.Works.{name_of_running, name_of_failing}

-- what an answer changes, the work aside
abbrev pub change_at : Config → ℕ → read.Seen → Phase → Store → Reply → read.Seen
change_at cfg k m (Opening n) call r = if is_read call then with_earlier m (told r) else m
change_at cfg k m (Recovering (x ∷ todo) (Move_from j)) call r = if is_fine r then tell m x.task (task_call.Recovers x.attempt) else m
change_at cfg k m (Recovering (x ∷ todo) (Look_below j)) call r = m
change_at cfg k m (Recovering (x ∷ todo) (Measure j)) call r = m
change_at cfg k m (Recovering (x ∷ todo) (Clear_own j)) call r = m
change_at cfg k m (Recovering [] at) call r = m
change_at cfg k m Running call r = if is_fine r then after_duty (setting cfg k) m (name_of_running call) else m
change_at cfg k m (Failing f) call r = if is_fine r then after_duty (setting cfg k) m (name_of_failing call) else m
change_at cfg k m Setting_up call r = m
change_at cfg k m (Committing at) call r = m
change_at cfg k m (Finished b) call r = m
change_at cfg k m Stopped call r = m

-- what is sent for it, the outcome aside
abbrev pub sends_at : Config → ℕ → read.Seen → Phase → Store → Reply → List Envelope
sends_at cfg k m (Recovering (x ∷ todo) (Move_from j)) call r = if is_fine r then to_all cfg.nodes (Won x.task x.attempt) else []
sends_at cfg k m (Recovering (x ∷ todo) (Look_below j)) call r = []
sends_at cfg k m (Recovering (x ∷ todo) (Measure j)) call r = []
sends_at cfg k m (Recovering (x ∷ todo) (Clear_own j)) call r = []
sends_at cfg k m (Recovering [] at) call r = []
sends_at cfg k m Running call r = if is_fine r then duty_sends (setting cfg k) m (name_of_running call) else []
sends_at cfg k m (Failing f) call r = if is_fine r then duty_sends (setting cfg k) m (name_of_failing call) else []
sends_at cfg k m (Opening n) call r = []
sends_at cfg k m Setting_up call r = []
sends_at cfg k m (Committing at) call r = []
sends_at cfg k m (Finished b) call r = []
sends_at cfg k m Stopped call r = []

-- ---- whether a recovery's answer finishes it

abbrev Finishes : Result StepDone CommitFault × List Line → Bool
Finishes x = is_finished x.0

err-goes-on : (line : Line) (rest : List Line) (g : CommitFault) → Finishes (after line rest (Err g)) ≡ false
err-goes-on line rest fault.NoMemory = refl
err-goes-on line rest (fault.Names f) = refl
err-goes-on line rest fault.OutputMissing = refl
err-goes-on line rest fault.WrongLength = refl
err-goes-on line rest fault.DestinationExists = refl
err-goes-on line rest fault.WrongAnswer = refl
err-goes-on line rest fault.Over = refl

refused-goes-on : (line : Line) (rest : List Line) (f : NameFault) → (is_missing f && passes_missing line) ≡ false → is_finished (heard_by (line ∷ rest) (answer.Names (Err f))).0 ≡ false
refused-goes-on line rest f e = ap (λ b. Finishes (after line rest (if b then Ok [] else Err (fault_at line f)))) e ∙ err-goes-on line rest (fault_at line f)

look-goes-on : (k : ℕ) (x : Todo_winner) (j : ℕ) (z : Option ℕ) (o : Op) (r : Reply) → is_finished (heard_by (Seeks dest x.task z k j ∷ []) (looked_up r)).0 ≡ false
look-goes-on k x j None o (Found (Some y)) = refl
look-goes-on k x j (Some n) o (Found (Some y)) = refl
look-goes-on k x j z o (Found None) = by (nat_lt 1 j)
  where
    by : (b : Bool) → Finishes (after (Seeks dest x.task z k j) [] (older dest x.task z k (if b then Some (j - 1) else None))) ≡ false
    by true = refl
    by false = refl
look-goes-on k x j z o (Refused f) = refused-goes-on (Seeks dest x.task z k j) [] f (and-false (is_missing f))
look-goes-on k x j z o _ = refl

measure-goes-on : (k : ℕ) (x : Todo_winner) (j n : ℕ) (p : Path) (r : Reply) → is_finished (heard_by (Measures p n ∷ taking k x j) (Rattle.mr_master_refinement.specs.Steps.read r)).0 ≡ false
measure-goes-on k x j n p (Bytes bytes) = by (nat_eq (length bytes) n)
  where
    by : (b : Bool) → Finishes (after (Measures p n) (taking k x j) (if b then Ok [] else Err fault.WrongLength)) ≡ false
    by true = refl
    by false = refl
measure-goes-on k x j n p (Refused f) = refused-goes-on (Measures p n) (taking k x j) f (and-false (is_missing f))
measure-goes-on k x j n p _ = refl

clear-goes-on : (k : ℕ) (x : Todo_winner) (j : ℕ) (r : Reply) → is_finished (heard_by (taking k x j) (plain r)).0 ≡ false
clear-goes-on k x j Fine = refl
clear-goes-on k x j (Refused f) = by (is_missing f)
  where
    by : (b : Bool) → Finishes (after (Clears (layout.committed dest k x.task)) (moves (layout.committed dest j x.task) (layout.committed dest k x.task) ∷ []) (if b && true then Ok [] else Err (fault_of f))) ≡ false
    by true = refl
    by false = err-goes-on (Clears (layout.committed dest k x.task)) (moves (layout.committed dest j x.task) (layout.committed dest k x.task) ∷ []) (fault_of f)
clear-goes-on k x j _ = refl

move-finishes : (p q : Path) (r : Reply) → is_finished (heard_by (moves p q ∷ []) (plain r)).0 ≡ is_fine r
move-finishes p q Fine = refl
move-finishes p q (Refused f) = refused-goes-on (moves p q) [] f (and-false (is_missing f))
move-finishes p q _ = refl

module _ (cfg : Config) (k : ℕ) (s : Seen) (m : read.Seen) where
  abbrev W : Setting
  W = setting cfg k

  abbrev Changes : Phase → Store → Reply → Type 0
  Changes p call r = (changed W m (answer_of call r) (work_at k p) ≡ change_at cfg k m p call r) × (work_sends W m (answer_of call r) (work_at k p) ≡ sends_at cfg k m p call r)

  by-call : (p : Phase) (c call : Store) (r : Reply) → Some c ≡ Some call → Changes p c r → Changes p call r
  by-call p c call r e g = subst (λ x. Changes p x r) (some-is c call e) g

  opening-changes : (n : ℕ) (r : Reply) → Changes (Opening n) (mark_at n) r
  unfolding work_at changed work_sends
  opening-changes zero r = (refl, refl)
  opening-changes (suc zero) r = (refl, refl)
  opening-changes (suc (suc zero)) r = (refl, refl)
  opening-changes (suc (suc (suc n))) r = (refl, refl)

  module _ (x : Todo_winner) (todo : List Todo_winner) where
    recovers : (b : Bool) → read.Seen
    recovers b = if b then tell m x.task (task_call.Recovers x.attempt) else m

    wins : (b : Bool) → List Envelope
    wins b = if b then to_all cfg.nodes (Won x.task x.attempt) else []

    recovery-changes : (at : Recover_step) (call : Store) (r : Reply) → duty_of cfg k s (Recovering (x ∷ todo) at) ≡ Some call → Changes (Recovering (x ∷ todo) at) call r
    unfolding work_at changed work_sends duty_of recovers wins
    recovery-changes (Look_below j) call r d = by-call (Recovering (x ∷ todo) (Look_below j)) _ call r d (let e = look-goes-on k x j x.bytes (Exist (committed j x.task)) r in (ap recovers e, ap wins e))
    recovery-changes (Measure j) call r d = by-call (Recovering (x ∷ todo) (Measure j)) _ call r d (let e = measure-goes-on k x j (length_of x.bytes) (layout.committed dest j x.task ++ layout.part x.task.number ∷ []) r in (ap recovers e, ap wins e))
    recovery-changes (Clear_own j) call r d = by-call (Recovering (x ∷ todo) (Clear_own j)) _ call r d (let e = clear-goes-on k x j r in (ap recovers e, ap wins e))
    recovery-changes (Move_from j) call r d = by-call (Recovering (x ∷ todo) (Move_from j)) _ call r d (let e = move-finishes (layout.committed dest j x.task) (layout.committed dest k x.task) r in (ap recovers e, ap wins e))

  running-changes : (call : Store) (r : Reply) → duty_of cfg k s Running ≡ Some call → duty W m ≡ named Running (Some call) → Changes Running call r
  unfolding work_at changed work_sends duty_name
  running-changes call r d e = at-running (λ c. duty W m ≡ named Running (Some c) → Changes Running c r)
      (λ x e. both (Append_record x) (written-fine cfg k r) e) (λ e. both Flush (written-fine cfg k r) e)
      (λ a e. both (Names (Bar a)) (plain-fine cfg k r) e) (λ e. both (Names (Create commit_started true)) (plain-fine cfg k r) e) cfg k s call d e
    where
      both : (c : Store) → after.is_fine (answer_of c r) ≡ is_fine r → duty W m ≡ named Running (Some c) → Changes Running c r
      both c f e = ((λ i. if f i then after_due W m (e i) else m), (λ i. if f i then due_sends W m (e i) else []))

  failing-changes : (b : Bool) (call : Store) (r : Reply) → duty_of cfg k s (Failing b) ≡ Some call → duty W m ≡ named (Failing b) (Some call) → Changes (Failing b) call r
  unfolding work_at changed work_sends duty_name
  failing-changes b call r d e = at-failing (λ c. duty W m ≡ named (Failing b) (Some c) → Changes (Failing b) c r)
      (λ x e. both (Append_record x) (written-fine cfg k r) e) (λ e. both Flush (written-fine cfg k r) e) (λ e. both (Names (Delete temporary)) (plain-fine cfg k r) e) cfg k s b call d e
    where
      both : (c : Store) → after.is_fine (answer_of c r) ≡ is_fine r → duty W m ≡ named (Failing b) (Some c) → Changes (Failing b) c r
      both c f e = ((λ i. if f i then after_due W m (e i) else m), (λ i. if f i then due_sends W m (e i) else []))

  pub changes : (p : Phase) (call : Store) (r : Reply) → CanBe p → duty_of cfg k s p ≡ Some call → duty W m ≡ named p (Some call) → Changes p call r
  unfolding work_at changed work_sends duty_of
  changes (Opening n) call r o d e = by-call (Opening n) (mark_at n) call r d (opening-changes n r)
  changes Setting_up call r o d e = (refl, refl)
  changes (Recovering [] at) call r o d e = absurd o
  changes (Recovering (x ∷ todo) at) call r o d e = recovery-changes x todo at call r d
  changes Running call r o d e = running-changes call r d e
  changes (Committing List_job) call r o d e = (refl, refl)
  changes (Committing (Merging todo)) call r o d e = (refl, refl)
  changes (Committing Cleaning) call r o d e = (refl, refl)
  changes (Committing Marking) call r o d e = (refl, refl)
  changes (Committing Succeeding) call r o d e = (refl, refl)
  changes (Committing Failing_mark) call r o d e = (refl, refl)
  changes (Committing Aborting) call r o d e = (refl, refl)
  changes (Failing b) call r o d e = failing-changes b call r d e
  changes (Finished b) call r o d e = cc
  changes Stopped call r o d e = cc
