-- Phases and duties: what is due, and where its answer leads.
use Rattle.std.proofs.Common.{ℕ, zero, suc, ◌≡◌, refl, ◌∙◌, ap, Bool, true, false, not, List, [], ◌∷◌, Option, Some, None, if◌then◌else◌}
use Rattle.std.specs.List.{list_any}
use Rattle.std.specs.Option.{option_map}
use Rattle.mr_paths.specs.Layout as layout
use Rattle.mr_history.specs.declared.record.Record.{Record}
use Rattle.mr_history.specs.declared.record.Record.TheVariants.{AttemptStarted, MapSucceeded, ReduceSucceeded, AttemptFailed, JobUnsuccessful}
use Rattle.mr_master_model.specs.declared.phase.DutyName.TheVariants as name
use Rattle.mr_master_model.specs.declared.store.StoreCall.TheVariants as store
use Rattle.mr_master_model.specs.Past.{Work, LooksForSuccess, LooksForFail, LooksForStarted, Reads, SetsUp, TakesOver, Runs, CommitsJob, TellsSuccess, TellsFail, AbortsCommit, Fails, Ends, Stops}
use Rattle.mr_master_model.specs.Past as machine
use Rattle.mr_master_model.specs.Readings as read
use Rattle.mr_master_model.specs.Readings.{or_else, all_succeeded, is_live}
use Rattle.mr_master_model.specs.Duty as duties
use Rattle.mr_master_model.specs.Duty.{Duty, duty_at, duty, creates, record_duty, abort_duty, bar_duty, start_duty}
use Rattle.mr_world_model.specs.Ids.{Attempt, temporary, generation_name, task_name, part_name, commit_started}
use Rattle.mr_world_model.specs.Content.{Create, Bar, Delete}
use Rattle.mr_world_model.specs.Packets.{Config, Names, Flush}
use Rattle.mr_world_model.specs.Hearing.{is_running, can_hear, Seen, Phase, Opening, Setting_up, Recovering, Running, Committing, Failing, Finished, Stopped, Look_below, Measure, Clear_own, Move_from, List_job, Merging, Cleaning, Marking, Succeeding, Failing_mark, Aborting, Look_at, List_into, Delete_then, Move_to}
use Rattle.mr_world_model.specs.Duties.{duty_of, bar_call, record_call, first_bar, all_won, mark_at, wants_flush}
use Rattle.mr_master_refinement.specs.Agreement.{NeedsRests}
use Rattle.mr_master_refinement.specs.Steps.{setting}
use Rattle.mr_master_refinement.specs.Works.{CanBe, opening_work, work_at, phase_of, duty_name, named}

-- ---- phases

opening-phase : (n : ℕ) → machine.phase_of (opening_work n) ≡ phase_of (Opening n)
opening-phase zero = refl
opening-phase (suc zero) = refl
opening-phase (suc (suc zero)) = refl
opening-phase (suc (suc (suc n))) = refl

pub phase-is : (k : ℕ) (p : Phase) → CanBe p → machine.phase_of (work_at k p) ≡ phase_of p
unfolding work_at
phase-is k (Opening n) o = opening-phase n
phase-is k Setting_up o = refl
phase-is k (Recovering [] at) o = absurd o
phase-is k (Recovering (x ∷ todo) at) o = refl
phase-is k Running o = refl
phase-is k (Committing List_job) o = refl
phase-is k (Committing (Merging todo)) o = refl
phase-is k (Committing Cleaning) o = refl
phase-is k (Committing Marking) o = refl
phase-is k (Committing Succeeding) o = refl
phase-is k (Committing Failing_mark) o = refl
phase-is k (Committing Aborting) o = refl
phase-is k (Failing b) o = refl
phase-is k (Finished b) o = refl
phase-is k Stopped o = refl

opening-runs : (n : ℕ) → read.is_running (opening_work n) ≡ false
opening-runs zero = refl
opening-runs (suc zero) = refl
opening-runs (suc (suc zero)) = refl
opening-runs (suc (suc (suc n))) = refl

pub runs-is : (k : ℕ) (p : Phase) → CanBe p → read.is_running (work_at k p) ≡ is_running p
unfolding work_at
runs-is k (Opening n) o = opening-runs n
runs-is k Setting_up o = refl
runs-is k (Recovering [] at) o = absurd o
runs-is k (Recovering (x ∷ todo) at) o = refl
runs-is k Running o = refl
runs-is k (Committing List_job) o = refl
runs-is k (Committing (Merging todo)) o = refl
runs-is k (Committing Cleaning) o = refl
runs-is k (Committing Marking) o = refl
runs-is k (Committing Succeeding) o = refl
runs-is k (Committing Failing_mark) o = refl
runs-is k (Committing Aborting) o = refl
runs-is k (Failing b) o = refl
runs-is k (Finished b) o = refl
runs-is k Stopped o = refl

opening-over : (n : ℕ) → read.is_over (opening_work n) ≡ false
opening-over zero = refl
opening-over (suc zero) = refl
opening-over (suc (suc zero)) = refl
opening-over (suc (suc (suc n))) = refl

pub over-is : (k : ℕ) (p : Phase) → CanBe p → read.is_over (work_at k p) ≡ not (can_hear p)
unfolding work_at
over-is k (Opening n) o = opening-over n
over-is k Setting_up o = refl
over-is k (Recovering [] at) o = absurd o
over-is k (Recovering (x ∷ todo) at) o = refl
over-is k Running o = refl
over-is k (Committing List_job) o = refl
over-is k (Committing (Merging todo)) o = refl
over-is k (Committing Cleaning) o = refl
over-is k (Committing Marking) o = refl
over-is k (Committing Succeeding) o = refl
over-is k (Committing Failing_mark) o = refl
over-is k (Committing Aborting) o = refl
over-is k (Failing b) o = refl
over-is k (Finished b) o = refl
over-is k Stopped o = refl

-- ---- duties

flush-is : (tail : List Record) → list_any duties.wants_flush tail ≡ wants_flush tail
flush-is [] = refl
flush-is (JobUnsuccessful ∷ rs) = refl
flush-is (MapSucceeded a n i ∷ rs) = refl
flush-is (ReduceSucceeded a z ∷ rs) = refl
flush-is (AttemptStarted a n ∷ rs) = flush-is rs
flush-is (AttemptFailed a ∷ rs) = flush-is rs

abbrev pub barring : Option Attempt → Option Duty
barring o = option_map (λ a. record { name = name.Bar; call = store.Names (Bar a) }) o

running-duty : (b : Option Attempt) (due tail : List Record) (won : Bool) →
    or_else (barring b) (or_else (record_duty due tail) (if won then creates name.Started duties.started_mark else None))
    ≡ named Running (bar_call b (record_call due tail (if won then Some (Names (Create commit_started true)) else None)))
unfolding duty_name layout.staging
running-duty (Some a) due tail won = refl
running-duty None (r ∷ due) tail won = refl
running-duty None [] tail won = ap (λ f. or_else (if f then Some (record { name = name.Flush; call = store.Flush }) else None) (if won then creates name.Started duties.started_mark else None)) (flush-is tail)
    ∙ by (wants_flush tail) won
  where
    by : (f won : Bool) → or_else (if f then Some (record { name = name.Flush; call = store.Flush }) else None) (if won then creates name.Started duties.started_mark else None)
        ≡ named Running (if f then Some Flush else (if won then Some (Names (Create commit_started true)) else None))
    by true won = refl
    by false true = refl
    by false false = refl

failing-duty : (cfg : Config) (k : ℕ) (due tail : List Record) (f : Bool) →
    or_else (record_duty due tail) (if f then abort_duty (setting cfg k) else None)
    ≡ named (Failing f) (record_call due tail (if f then Some (Names (Delete temporary)) else None))
unfolding duty_name layout.temporary
failing-duty cfg k (r ∷ due) tail f = refl
failing-duty cfg k [] tail f = ap (λ g. or_else (if g then Some (record { name = name.Flush; call = store.Flush }) else None) (if f then abort_duty (setting cfg k) else None)) (flush-is tail)
    ∙ by (wants_flush tail) f
  where
    by : (g f : Bool) → or_else (if g then Some (record { name = name.Flush; call = store.Flush }) else None) (if f then abort_duty (setting cfg k) else None)
        ≡ named (Failing f) (if g then Some Flush else (if f then Some (Names (Delete temporary)) else None))
    by true f = refl
    by false true = refl
    by false false = refl

opening-duty : (cfg : Config) (k n : ℕ) (m : read.Seen) → duty_at (setting cfg k) m (opening_work n) ≡ named (Opening n) (Some (mark_at n))
unfolding duty_at duty_name layout.staging
opening-duty cfg k zero m = refl
opening-duty cfg k (suc zero) m = refl
opening-duty cfg k (suc (suc zero)) m = refl
opening-duty cfg k (suc (suc (suc n))) m = refl

pub duty-is : (cfg : Config) (k : ℕ) (s : Seen) (m : read.Seen) (p : Phase) → CanBe p → m.due ≡ s.due → m.tail ≡ s.tail → NeedsRests cfg k s m p →
    duty_at (setting cfg k) m (work_at k p) ≡ named p (duty_of cfg k s p)
unfolding work_at duty_at duty_of duty_name layout.committed layout.part layout.temporary layout.marker layout.job_attempt layout.staging generation_name task_name part_name
duty-is cfg k s m (Opening n) o d t r = opening-duty cfg k n m
duty-is cfg k s m Setting_up o d t r = refl
duty-is cfg k s m (Recovering [] at) o d t r = absurd o
duty-is cfg k s m (Recovering (x ∷ todo) (Look_below j)) o d t r = refl
duty-is cfg k s m (Recovering (x ∷ todo) (Measure j)) o d t r = refl
duty-is cfg k s m (Recovering (x ∷ todo) (Clear_own j)) o d t r = refl
duty-is cfg k s m (Recovering (x ∷ todo) (Move_from j)) o d t r = refl
duty-is cfg k s m Running o d t r = let z = r refl in
    (λ i. or_else (barring (z.bars i)) (or_else (record_duty (d i) (t i)) (if z.won i then creates name.Started duties.started_mark else None)))
    ∙ running-duty (first_bar s s.bars) s.due s.tail (all_won s.recorded s.winners cfg.job cfg.reduces)
duty-is cfg k s m (Committing List_job) o d t r = refl
duty-is cfg k s m (Committing (Merging [])) o d t r = absurd o
duty-is cfg k s m (Committing (Merging (Look_at f u b ∷ todo))) o d t r = refl
duty-is cfg k s m (Committing (Merging (List_into f u ∷ todo))) o d t r = refl
duty-is cfg k s m (Committing (Merging (Delete_then f u ∷ todo))) o d t r = refl
duty-is cfg k s m (Committing (Merging (Move_to f u ∷ todo))) o d t r = refl
duty-is cfg k s m (Committing Cleaning) o d t r = refl
duty-is cfg k s m (Committing Marking) o d t r = refl
duty-is cfg k s m (Committing Succeeding) o d t r = refl
duty-is cfg k s m (Committing Failing_mark) o d t r = refl
duty-is cfg k s m (Committing Aborting) o d t r = refl
duty-is cfg k s m (Failing f) o d t r = (λ i. or_else (record_duty (d i) (t i)) (if f then abort_duty (setting cfg k) else None)) ∙ failing-duty cfg k s.due s.tail f
duty-is cfg k s m (Finished b) o d t r = refl
duty-is cfg k s m Stopped o d t r = refl
