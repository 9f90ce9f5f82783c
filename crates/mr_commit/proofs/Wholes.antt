-- All steps of a whole form.
use Rattle.std.proofs.Common.{◌≡◌, ◌≤◌, ◌<◌, ℕ, zero, suc, ◌-◌, length, List, [], ◌∷◌, refl, sym, ap, ◌∙◌, Result, Ok, Err, Option, Some, None, ⊎_elim, arith, inl, inr, length-append}
use Rattle.std.specs.FinMap as finite
use Rattle.mr_names.specs.declared.op.Caller.{Caller}
use Rattle.mr_names.specs.declared.fault.NameFault.{NameFault}
use Rattle.mr_names.specs.Calls.{State, call_of, unheard}
use Rattle.mr_names.proofs.Callers.{unheard-is}
use Rattle.mr_commit.specs.declared.fault.CommitFault.{CommitFault}
use Rattle.mr_commit.specs.declared.fault.CommitFault.TheVariants as fault
use Rattle.mr_commit.specs.declared.fault.StepDone.{StepDone}
use Rattle.mr_commit.specs.declared.fault.StepDone.TheVariants as done
use Rattle.mr_commit.specs.Line.{Line, op_of, fault_of}
use Rattle.mr_commit.specs.Line.Line.{Does, Clears, Needs, Merges, MergesEach, MergesTasks, Seeks, Measures}
use Rattle.mr_commit.specs.Steps.{step_of, heard, Steps}
use Rattle.mr_commit.specs.Settles.{Settles}
use Rattle.mr_ids.specs.Attempt.{Attempt}
use Rattle.mr_ids.specs.declared.id.TaskId.{TaskId}
use Rattle.mr_ids.specs.Text.{numeral}
use Rattle.mr_paths.specs.Layout.{job_attempt, task_attempt, temporary_name}
use Rattle.mr_names.specs.declared.fault.NameFault.TheVariants as names
use Rattle.mr_names.specs.declared.op.Op.{Op}
use Rattle.mr_names.specs.declared.op.Op.TheVariants as op
use Rattle.mr_commit.specs.Tables.{setup_job, commit_task, abort_task, commit_job, abort_job}
use Rattle.mr_commit.specs.CommitterEffect.{NeedsTaskCommit, has_output, Reaches, none_yet, one_more, Finishes, Commits, HasEffect, whole, run, most_calls, merge_calls, deepest}
use Rattle.mr_commit.proofs.Bounds.{shallow_first}
use Rattle.mr_commit.proofs.Steps.{fault_at-own}
use Rattle.mr_commit.proofs.Ending.{Fine, Less, step_more}

abbrev more_of : StepDone → Result StepDone CommitFault
more_of d = Ok d

abbrev ends_of : CommitFault → Result StepDone CommitFault
ends_of f = Err f

abbrev faulted : CommitFault → State → Result (Unit {0}) CommitFault × State
faulted f t = (Err f, t)

abbrev over : State → Result (Unit {0}) CommitFault × State
over s = faulted fault.Over s

pub run_more : (n : ℕ) (lines left : List Line) (s t : State) (caller : Caller) → step_of lines s caller ≡ ((Ok done.More, left), t) → run (suc n) lines s caller ≡ run n left t caller
unfolding run
run_more n lines left s t caller e = rw e refl

pub run_last : (n : ℕ) (lines left : List Line) (s t : State) (caller : Caller) → step_of lines s caller ≡ ((Ok done.Finished, left), t) → run (suc n) lines s caller ≡ (Ok tt, t)
unfolding run
run_last n lines left s t caller e = rw e refl

pub run_fault : (n : ℕ) (lines left : List Line) (s t : State) (caller : Caller) (f : CommitFault) → step_of lines s caller ≡ ((Err f, left), t) → run (suc n) lines s caller ≡ (Err f, t)
unfolding run
run_fault n lines left s t caller f e = rw e refl

some_merge_calls : (entries levels : ℕ) → 0 < merge_calls entries levels
unfolding merge_calls
some_merge_calls entries zero = omega arith
some_merge_calls entries (suc levels) = omega arith

pub some_calls : (entries depth : ℕ) (line : Line) (rest : List Line) → 0 < most_calls entries depth (line ∷ rest)
unfolding most_calls
some_calls entries depth (Does call) rest = omega arith
some_calls entries depth (Clears path) rest = omega arith
some_calls entries depth (Needs path) rest = omega arith
some_calls entries depth (Merges taken from to) rest = omega arith
some_calls entries depth (Seeks dest task bytes k j) rest = omega arith
some_calls entries depth (Measures path n) rest = omega arith
some_calls entries depth (MergesEach from to) rest = let h = some_merge_calls entries (suc depth - length from) in omega arith
some_calls entries depth (MergesTasks from to) rest = let h = some_merge_calls entries (suc depth - length from) in omega arith

-- some steps of a whole form are made, and none was the last
pub record Going (first : List Line) (begin : State) (caller : Caller) (lines : List Line) (s : State) : Type 0 where
  pub fine : Fine (finite.len begin.content) (deepest begin.content) lines s.content
  pub reached : Reaches caller first begin lines s
  pub bound : ℕ
  pub enough : most_calls (finite.len begin.content) (deepest begin.content) lines ≤ bound
  pub same : whole first begin caller ≡ run bound lines s caller

-- the first step is to come
pub going_first : (lines : List Line) (s : State) (caller : Caller) → Settles lines → Going lines s caller lines s
going_first lines s caller settles = record {
  fine = inr (settles, record { few = omega arith; shallow = shallow_first s.content });
  reached = none_yet;
  bound = most_calls (finite.len s.content) (deepest s.content) lines;
  enough = omega arith;
  same = refl;
}

-- a step that was not the last
pub going_further : (first lines left : List Line) (begin s t : State) (caller : Caller) → Going first begin caller lines s → step_of lines s caller ≡ ((Ok done.More, left), t) → Going first begin caller left t
going_further first lines left begin s t caller g e = by g.bound (let h = less.fewer in let k = g.enough in omega arith) g.enough g.same
  where
    less : Less (finite.len begin.content) (deepest begin.content) lines left t
    less = step_more (finite.len begin.content) (deepest begin.content) lines left s t caller g.fine e

    by : (n : ℕ) → 0 < n → most_calls (finite.len begin.content) (deepest begin.content) lines ≤ n → whole first begin caller ≡ run n lines s caller → Going first begin caller left t
    by zero some enough same = absurd (omega arith)
    by (suc n) some enough same = record {
      fine = less.fine;
      reached = one_more lines left s t g.reached e;
      bound = n;
      enough = let h = less.fewer in omega arith;
      same = same ∙ run_more n lines left s t caller e;
    }

pub fewer_left : (first lines left : List Line) (begin s t : State) (caller : Caller) → Going first begin caller lines s → step_of lines s caller ≡ ((Ok done.More, left), t) → most_calls (finite.len begin.content) (deepest begin.content) left < most_calls (finite.len begin.content) (deepest begin.content) lines
fewer_left first lines left begin s t caller g e = (step_more (finite.len begin.content) (deepest begin.content) lines left s t caller g.fine e).fewer

-- the last step
pub effect_last : (first lines left : List Line) (begin s t : State) (caller : Caller) → Going first begin caller lines s → step_of lines s caller ≡ ((Ok done.Finished, left), t) → whole first begin caller ≡ (Ok tt, t)
effect_last first [] left begin s t caller g e = let y : ends_of fault.Over ≡ more_of done.Finished = ap (λ p. p.0.0) e in absurd cc
effect_last first (line ∷ rest) left begin s t caller g e = by g.bound (some_calls (finite.len begin.content) (deepest begin.content) line rest) g.enough g.same
  where
    by : (n : ℕ) → 0 < most_calls (finite.len begin.content) (deepest begin.content) (line ∷ rest) → most_calls (finite.len begin.content) (deepest begin.content) (line ∷ rest) ≤ n → whole first begin caller ≡ run n (line ∷ rest) s caller → whole first begin caller ≡ (Ok tt, t)
    by zero some enough same = absurd (omega arith)
    by (suc n) some enough same = same ∙ run_last n (line ∷ rest) left s t caller e

pub effect_fault : (first lines left : List Line) (begin s t : State) (caller : Caller) (f : CommitFault) → Going first begin caller lines s → step_of lines s caller ≡ ((Err f, left), t) → whole first begin caller ≡ (Err f, t)
unfolding run
effect_fault first [] left begin s t caller f g e = by g.bound g.same
  where
    here : over s ≡ faulted f t
    here = let y : ends_of fault.Over ≡ ends_of f = ap (λ p. p.0.0) e in let x : fault.Over ≡ f = cc in let z : s ≡ t = ap (λ p. p.1) e in cc

    by : (n : ℕ) → whole first begin caller ≡ run n [] s caller → whole first begin caller ≡ (Err f, t)
    by zero same = same ∙ here
    by (suc n) same = same ∙ here
effect_fault first (line ∷ rest) left begin s t caller f g e = by g.bound (some_calls (finite.len begin.content) (deepest begin.content) line rest) g.enough g.same
  where
    by : (n : ℕ) → 0 < most_calls (finite.len begin.content) (deepest begin.content) (line ∷ rest) → most_calls (finite.len begin.content) (deepest begin.content) (line ∷ rest) ≤ n → whole first begin caller ≡ run n (line ∷ rest) s caller → whole first begin caller ≡ (Err f, t)
    by zero some enough same = absurd (omega arith)
    by (suc n) some enough same = same ∙ run_fault n (line ∷ rest) left s t caller f e

pub effect_by : (first lines left : List Line) (begin s t : State) (caller : Caller) (f : CommitFault) → Going first begin caller lines s → Steps lines s caller (Err f) left t → HasEffect first begin caller (Err f) t
effect_by first lines left begin s t caller fault.NoMemory g e = tt
effect_by first lines left begin s t caller (fault.Names f) g e = effect_fault first lines left begin s t caller _ g e
effect_by first lines left begin s t caller fault.OutputMissing g e = effect_fault first lines left begin s t caller _ g e
effect_by first lines left begin s t caller fault.WrongLength g e = effect_fault first lines left begin s t caller _ g e
effect_by first lines left begin s t caller fault.DestinationExists g e = effect_fault first lines left begin s t caller _ g e
effect_by first lines left begin s t caller fault.WrongAnswer g e = effect_fault first lines left begin s t caller _ g e
effect_by first lines left begin s t caller fault.Over g e = effect_fault first lines left begin s t caller _ g e

pub made_by : (first lines left : List Line) (begin s t : State) (caller : Caller) (f : CommitFault) → Going first begin caller lines s → Steps lines s caller (Err f) left t → Finishes first begin caller (Err f) t
made_by first lines left begin s t caller fault.NoMemory g e = rw e.1 (lines, g.reached, e.2)
made_by first lines left begin s t caller (fault.Names f) g e = (lines, s, g.reached, (left, e))
made_by first lines left begin s t caller fault.OutputMissing g e = (lines, s, g.reached, (left, e))
made_by first lines left begin s t caller fault.WrongLength g e = (lines, s, g.reached, (left, e))
made_by first lines left begin s t caller fault.DestinationExists g e = (lines, s, g.reached, (left, e))
made_by first lines left begin s t caller fault.WrongAnswer g e = (lines, s, g.reached, (left, e))
made_by first lines left begin s t caller fault.Over g e = (lines, s, g.reached, (left, e))

-- ---- callers that are not heard, and an allocation failure before the first step

unheard_call : (s : State) (caller : Caller) (call : Op) (why : NameFault) → unheard s caller ≡ Some why → call_of s caller call ≡ (Err why, s)
unheard_call s caller call why e = rw e refl

abbrev Lost : Line → List Line → State → NameFault → Type 0
Lost line rest s why = ◌≡◌ {A = (Result StepDone CommitFault × List Line) × State} (heard (line ∷ rest) (Err why), s) ((Err (fault.Names why), []), s)

-- a step of a caller that is not heard is the last
unheard_step : (line : Line) (rest : List Line) (s : State) (caller : Caller) (why : NameFault) → unheard s caller ≡ Some why → step_of (line ∷ rest) s caller ≡ ((Err (fault.Names why), []), s)
unheard_step line rest s caller why e = rw (unheard_call s caller (op_of line) why e) (⊎_elim by_fence by_bar (unheard-is s caller why e))
  where
    by_fence : why ≡ names.Superseded s.fence → Lost line rest s why
    by_fence is = rw (is, fault_at-own line (names.Superseded s.fence) refl) refl

    by_bar : why ≡ names.Barred → Lost line rest s why
    by_bar is = rw (is, fault_at-own line names.Barred refl) refl

-- the fault of a caller that is not heard is told by the namespace's name
pub told_by_name : (s : State) (caller : Caller) (why : NameFault) → unheard s caller ≡ Some why → fault_of why ≡ fault.Names why
told_by_name s caller why e = ⊎_elim (λ is. rw is refl) (λ is. rw is refl) (unheard-is s caller why e)

pub effect_unheard : (line : Line) (rest : List Line) (s : State) (caller : Caller) (why : NameFault) → unheard s caller ≡ Some why → HasEffect (line ∷ rest) s caller (Err (fault_of why)) s
effect_unheard line rest s caller why e = rw (told_by_name s caller why e) (by (most_calls (finite.len s.content) (deepest s.content) (line ∷ rest)) (some_calls (finite.len s.content) (deepest s.content) line rest))
  where
    by : (n : ℕ) → 0 < n → run n (line ∷ rest) s caller ≡ (Err (fault.Names why), s)
    by zero some = absurd (omega arith)
    by (suc n) some = run_fault n (line ∷ rest) [] s s caller _ (unheard_step line rest s caller why e)

pub made_unheard : (line : Line) (rest : List Line) (s : State) (caller : Caller) (why : NameFault) → unheard s caller ≡ Some why → Commits (line ∷ rest) s caller (Err (fault_of why)) s
made_unheard line rest s caller why e = rw (told_by_name s caller why e) (line ∷ rest, s, none_yet, ([], unheard_step line rest s caller why e))

pub needs_unheard : (dest : List (List ℕ)) (attempt : Attempt) (s : State) (caller : Caller) (why : NameFault) → unheard s caller ≡ Some why → NeedsTaskCommit dest attempt s caller (Err (fault_of why))
needs_unheard dest attempt s caller why e =
    let call = unheard_call s caller (op.Exists (task_attempt dest caller.app attempt)) why e in
    rw (told_by_name s caller why e) (sym (ap (λ p. has_output p.0) call ∙ ap (λ (f : CommitFault). Err f) (told_by_name s caller why e)))

pub made_nothing : (lines : List Line) (s : State) (caller : Caller) → unheard s caller ≡ None → Commits lines s caller (Err fault.NoMemory) s
made_nothing lines s caller h = inl (h, refl)

-- ---- the tables settle

pub setup_settles : (dest : List (List ℕ)) (k : ℕ) → Settles (setup_job dest k)
setup_settles dest k = inl (refl, tt)

pub task_settles : (dest : List (List ℕ)) (k : ℕ) (attempt : Attempt) → Settles (commit_task dest k attempt)
task_settles dest k attempt = inl (refl, (refl, (refl, tt)))

pub job_settles : (dest : List (List ℕ)) (k : ℕ) → Settles (commit_job dest k)
unfolding job_attempt
job_settles dest k = inr (omega (arith, length-append dest (temporary_name ∷ numeral 1 k ∷ [])), inl (refl, (refl, tt)))

pub abort_task_settles : (dest : List (List ℕ)) (k : ℕ) (attempt : Attempt) → Settles (abort_task dest k attempt)
abort_task_settles dest k attempt = inl (refl, tt)

pub abort_job_settles : (dest : List (List ℕ)) → Settles (abort_job dest)
abort_job_settles dest = inl (refl, tt)

pub recovery_settles : (dest : List (List ℕ)) (task : TaskId) (bytes : Option ℕ) (k j : ℕ) → Settles (Seeks dest task bytes k j ∷ [])
recovery_settles dest task bytes k j = inr (tt, tt)
