-- Whether a job has what a goal names.
use Rattle.std.proofs.Common.{◌≡◌, ℕ, Bool, true, false, List, Option, Result, Ok, Err, IfOk, IfErr, inl, sym, ap, subst, ◌∙◌}
use Rattle.mr_sim_commands.specs.declared.fault.JobTextFault.{JobTextFault}
use Rattle.mr_sim_commands.specs.declared.fault.SimFault.{SimFault}
use Rattle.mr_sim_commands.specs.declared.fault.SimFault.TheVariants.{NoMemory, Read, Write, TooLong, BadCommand, BadRecord, Job, Refused, Full, JobFailed, TurnsSpent, JournalMismatch, Thread}
use Rattle.mr_sim_commands.specs.declared.job.submission.Submission.{Submission}
use Rattle.mr_sim_commands.specs.job.Text.{submission_of, Fails}
use Rattle.mr_trace.specs.mr_play.specs.Text.{PlayFails, job_line}
use Rattle.mr_trace.specs.mr_world.specs.Limits.{within}
use Rattle.mr_explore.specs.declared.asked.Asked.{Asked}
use Rattle.mr_explore.specs.Explored.{ExploredFails, PrintsExplored, goal_of}
use Rattle.mr_script.specs.declared.expectation.Expectation.{Expectation}
use Rattle.mr_explore_merged.specs.declared.question.Question.{Question}
use Rattle.mr_explore_merged.specs.Merged.{MergedFails, PrintsMerged, sought}
use Rattle.mr_sim.specs.Goals.{GoalFails, MergedSoughtFails, Names, PrintsMergedSought, PrintsSought, SoughtFails, can_meet}

-- a fault of reading the job text
bad_line : (goal : Option (List Expectation)) (input : List ℕ) (e : SimFault) → Fails e (submission_of (job_line input)) → GoalFails goal input e
bad_line goal input NoMemory h = tt
bad_line goal input Read h = absurd h
bad_line goal input Write h = absurd h
bad_line goal input TooLong h = absurd h
bad_line goal input (BadCommand n) h = absurd h
bad_line goal input (BadRecord n) h = absurd h
bad_line goal input (Job e) h = h
bad_line goal input Refused h = absurd h
bad_line goal input Full h = absurd h
bad_line goal input JobFailed h = absurd h
bad_line goal input TurnsSpent h = absurd h
bad_line goal input JournalMismatch h = absurd h
bad_line goal input Thread h = absurd h

pub bad_text : (goal : Option (List Expectation)) (input text : List ℕ) (e : SimFault) → text ≡ job_line input → Fails e (submission_of text) → GoalFails goal input e
bad_text goal input text e first h = bad_line goal input e (subst (λ (t : List ℕ). Fails e (submission_of t)) first h)

-- the job that the job text says has them, or not
pub names : (goal : Option (List Expectation)) (input text : List ℕ) (job : Submission) (all is : Bool) → text ≡ job_line input → submission_of text ≡ Ok job → is ≡ can_meet job.id job.reduces goal → is ≡ all → Names goal input all
names goal input text job all is first said told test = record {
  job = job;
  said = subst (λ (t : List ℕ). submission_of t ≡ Ok job) first said;
  are = sym told ∙ test;
}

pub prints_sought : {A : Type 0} (text : A → List ℕ) (asked : Asked) (input : List ℕ) (r : Result A SimFault) → Names (goal_of asked) input true → IfOk r (λ v. PrintsExplored asked input (text v)) → IfOk r (λ v. PrintsSought asked input (text v))
prints_sought text asked input (Ok v) has h = (has, h)
prints_sought text asked input (Err e) has h = h

pub fails_sought : {A : Type 0} (asked : Asked) (input : List ℕ) (r : Result A SimFault) → Names (goal_of asked) input true → IfErr r (ExploredFails asked input) → IfErr r (SoughtFails asked input)
fails_sought asked input (Ok v) has h = h
fails_sought asked input (Err NoMemory) has h = h
fails_sought asked input (Err Read) has h = h
fails_sought asked input (Err Write) has h = h
fails_sought asked input (Err TooLong) has h = h
fails_sought asked input (Err (BadCommand n)) has h = (has, h)
fails_sought asked input (Err (BadRecord n)) has h = h
fails_sought asked input (Err (Job e)) has h = h
fails_sought asked input (Err Refused) has h = absurd h
fails_sought asked input (Err Full) has h = (has, h)
fails_sought asked input (Err JobFailed) has h = h
fails_sought asked input (Err TurnsSpent) has h = h
fails_sought asked input (Err JournalMismatch) has h = has
fails_sought asked input (Err Thread) has h = h

-- the script is played once more
pub fails_played : {A : Type 0} (asked : Asked) (input : List ℕ) (r : Result A SimFault) → Names (goal_of asked) input true → IfErr r (PlayFails within input) → IfErr r (SoughtFails asked input)
fails_played asked input (Ok v) has h = h
fails_played asked input (Err NoMemory) has h = h
fails_played asked input (Err Read) has h = absurd h
fails_played asked input (Err Write) has h = absurd h
fails_played asked input (Err TooLong) has h = absurd h
fails_played asked input (Err (BadCommand n)) has h = (has, h)
fails_played asked input (Err (BadRecord n)) has h = absurd h
fails_played asked input (Err (Job e)) has h = h
fails_played asked input (Err Refused) has h = absurd h
fails_played asked input (Err Full) has h = (has, inl h)
fails_played asked input (Err JobFailed) has h = absurd h
fails_played asked input (Err TurnsSpent) has h = absurd h
fails_played asked input (Err JournalMismatch) has h = absurd h
fails_played asked input (Err Thread) has h = absurd h

-- why a goal is not sought
pub fails_goal : {A : Type 0} (asked : Asked) (input : List ℕ) (r : Result A SimFault) → IfErr r (GoalFails (goal_of asked) input) → IfErr r (SoughtFails asked input)
fails_goal asked input (Ok v) h = h
fails_goal asked input (Err NoMemory) h = h
fails_goal asked input (Err Read) h = absurd h
fails_goal asked input (Err Write) h = absurd h
fails_goal asked input (Err TooLong) h = absurd h
fails_goal asked input (Err (BadCommand n)) h = absurd h
fails_goal asked input (Err (BadRecord n)) h = absurd h
fails_goal asked input (Err (Job e)) h = h
fails_goal asked input (Err Refused) h = h
fails_goal asked input (Err Full) h = absurd h
fails_goal asked input (Err JobFailed) h = absurd h
fails_goal asked input (Err TurnsSpent) h = absurd h
fails_goal asked input (Err JournalMismatch) h = absurd h
fails_goal asked input (Err Thread) h = absurd h

-- ---- the same of `explore --merge`

pub prints_merged : {A : Type 0} (text : A → List ℕ) (asked : Question) (input : List ℕ) (r : Result A SimFault) → Names (sought asked) input true → IfOk r (λ v. PrintsMerged asked input (text v)) → IfOk r (λ v. PrintsMergedSought asked input (text v))
prints_merged text asked input (Ok v) has h = (has, h)
prints_merged text asked input (Err e) has h = h

pub merged_goal : {A : Type 0} (asked : Question) (input : List ℕ) (r : Result A SimFault) → IfErr r (GoalFails (sought asked) input) → IfErr r (MergedSoughtFails asked input)
merged_goal asked input (Ok v) h = h
merged_goal asked input (Err NoMemory) h = h
merged_goal asked input (Err Read) h = absurd h
merged_goal asked input (Err Write) h = absurd h
merged_goal asked input (Err TooLong) h = absurd h
merged_goal asked input (Err (BadCommand n)) h = absurd h
merged_goal asked input (Err (BadRecord n)) h = absurd h
merged_goal asked input (Err (Job e)) h = h
merged_goal asked input (Err Refused) h = h
merged_goal asked input (Err Full) h = absurd h
merged_goal asked input (Err JobFailed) h = absurd h
merged_goal asked input (Err TurnsSpent) h = absurd h
merged_goal asked input (Err JournalMismatch) h = absurd h
merged_goal asked input (Err Thread) h = absurd h

pub merged_sought : {A : Type 0} (asked : Question) (input : List ℕ) (r : Result A SimFault) → Names (sought asked) input true → IfErr r (MergedFails asked.faults input) → IfErr r (MergedSoughtFails asked input)
merged_sought asked input (Ok v) has h = h
merged_sought asked input (Err NoMemory) has h = h
merged_sought asked input (Err Read) has h = h
merged_sought asked input (Err Write) has h = h
merged_sought asked input (Err TooLong) has h = h
merged_sought asked input (Err (BadCommand n)) has h = (has, h)
merged_sought asked input (Err (BadRecord n)) has h = h
merged_sought asked input (Err (Job e)) has h = h
merged_sought asked input (Err Refused) has h = absurd h
merged_sought asked input (Err Full) has h = (has, h)
merged_sought asked input (Err JobFailed) has h = h
merged_sought asked input (Err TurnsSpent) has h = h
merged_sought asked input (Err JournalMismatch) has h = has
merged_sought asked input (Err Thread) has h = h

pub merged_played : {A : Type 0} (asked : Question) (input : List ℕ) (r : Result A SimFault) → Names (sought asked) input true → IfErr r (PlayFails within input) → IfErr r (MergedSoughtFails asked input)
merged_played asked input (Ok v) has h = h
merged_played asked input (Err NoMemory) has h = h
merged_played asked input (Err Read) has h = absurd h
merged_played asked input (Err Write) has h = absurd h
merged_played asked input (Err TooLong) has h = absurd h
merged_played asked input (Err (BadCommand n)) has h = (has, h)
merged_played asked input (Err (BadRecord n)) has h = absurd h
merged_played asked input (Err (Job e)) has h = h
merged_played asked input (Err Refused) has h = absurd h
merged_played asked input (Err Full) has h = (has, inl h)
merged_played asked input (Err JobFailed) has h = absurd h
merged_played asked input (Err TurnsSpent) has h = absurd h
merged_played asked input (Err JournalMismatch) has h = absurd h
merged_played asked input (Err Thread) has h = absurd h

ok_is : (x y : Submission) → ◌≡◌ {A = Result Submission JobTextFault} (Ok x) (Ok y) → x ≡ y
ok_is x y e = cc

-- it has not both
pub not_both : (goal : Option (List Expectation)) (input : List ℕ) → Names goal input true → Names goal input false → ⊥
not_both goal input x y =
    let job : x.job ≡ y.job = ok_is x.job y.job (sym x.said ∙ y.said) in
    let clash : true ≡ false = sym x.are ∙ (ap (λ (j : Submission). can_meet j.id j.reduces goal) job ∙ y.are) in
    absurd (cc)
