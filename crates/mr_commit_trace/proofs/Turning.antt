-- The turns of a table.
use Rattle.std.proofs.Common.{◌≡◌, ◌<◌, ℕ, Bool, true, false, List, [], ◌∷◌, ◌++◌, Option, Some, None, Result, Ok, Err, refl, sym, ap, subst, ◌∙◌, append_assoc}
use Rattle.std.proofs.lemmas.List.{append-nil}
use Rattle.std.specs.FinMap as finite
use Rattle.mr_names.specs.declared.fault.NameFault.{NameFault}
use Rattle.mr_names.specs.declared.op.Answer.{Answer}
use Rattle.mr_names.specs.declared.op.Answer.TheVariants as answer
use Rattle.mr_names.specs.declared.op.Caller.{Caller}
use Rattle.mr_names.specs.declared.op.Op.{Op}
use Rattle.mr_names.specs.Calls.{State, call_of}
use Rattle.mr_commit.specs.declared.fault.CommitFault.{CommitFault}
use Rattle.mr_commit.specs.declared.fault.CommitFault.TheVariants as fault
use Rattle.mr_commit.specs.declared.fault.StepDone.{StepDone}
use Rattle.mr_commit.specs.declared.fault.StepDone.TheVariants as done
use Rattle.mr_commit.specs.CommitterEffect.{deepest, most_calls, whole}
use Rattle.mr_commit.specs.Line.{Line, before, op_of}
use Rattle.mr_commit.specs.Recovery.{HearsOf, Recovery, Nowhere, Left, next_of, recovered, recovery_from}
use Rattle.mr_commit.specs.Settles.{Settles}
use Rattle.mr_commit.specs.Steps.{Hears, heard, next_call, step_of}
use Rattle.mr_commit.proofs.Wholes.{Going, abort_job_settles, abort_task_settles, effect_fault, effect_last, fewer_left, going_first, going_further, job_settles, recovery_settles, setup_settles, task_settles}
use Rattle.mr_ids.specs.declared.id.TaskId.{TaskId}
use Rattle.mr_step.specs.Wish.{table}
use Rattle.mr_step.specs.declared.wish.Wish.{Wish}
use Rattle.mr_step.specs.declared.wish.Wish.TheVariants as wish
use Rattle.mr_judge.specs.declared.line.Told.{Told}
use Rattle.mr_commit_trace.specs.Seen.{IsLast, Sees, lines_in, next_seen, seen}
use Rattle.mr_commit_trace.specs.Seen.Sees.{last, more}
use Rattle.mr_commit_trace.specs.inner.Turns.{IsHeard, Turns, goes_on}

-- ---- one turn

heard_by : (lines left : List Line) (a : Result Answer NameFault) (r : Result StepDone CommitFault) → Hears lines a r left → IsHeard r → heard lines a ≡ (r, left)
heard_by lines left a (Ok d) h is = h
heard_by lines left a (Err fault.NoMemory) h is = absurd is
heard_by lines left a (Err (fault.Names f)) h is = h
heard_by lines left a (Err fault.OutputMissing) h is = h
heard_by lines left a (Err fault.WrongLength) h is = h
heard_by lines left a (Err fault.DestinationExists) h is = h
heard_by lines left a (Err fault.WrongAnswer) h is = h
heard_by lines left a (Err fault.Over) h is = h

step_by : (lines left : List Line) (s t : State) (caller : Caller) (call : Op) (a : Result Answer NameFault) (r : Result StepDone CommitFault) → next_call lines ≡ Some call → call_of s caller call ≡ (a, t) → heard lines a ≡ (r, left)
    → step_of lines s caller ≡ ((r, left), t)
step_by [] left s t caller call a r next made h = absurd (cc)
step_by (line ∷ rest) left s t caller call a r next made h =
    let is : op_of line ≡ call = cc in
    ap (λ p. (heard (line ∷ rest) p.0, p.1)) (ap (λ c. call_of s caller c) is ∙ made) ∙ ap (λ q. (q, t)) h

seen_by : (lines : List Line) (s : State) (caller : Caller) (call : Op) → next_call lines ≡ Some call → next_seen lines s caller ≡ seen s caller call ∷ []
seen_by [] s caller call next = absurd (cc)
seen_by (line ∷ rest) s caller call next = let is : op_of line ≡ call = cc in ap (λ c. seen s caller c ∷ []) is

pub turned : (moves left : Recovery) (s t : State) (caller : Caller) (before now : List Told) (call : Op) (a : Result Answer NameFault) (r : Result StepDone CommitFault) (on : Bool)
    → Some call ≡ next_of moves → call_of s caller call ≡ (a, t) → now ≡ before ++ seen s caller call ∷ [] → HearsOf moves a r left → IsHeard r → on ≡ goes_on r → Turns moves s caller before on left t now
turned Nowhere left s t caller before now call a r on next made kept h is goes = absurd (cc)
turned (Left lines) left s t caller before now call a r on next made kept (rest, same, hears) is goes =
    (r, rest, same, step_by lines rest s t caller call a r (sym next) made (heard_by lines rest a r hears is), goes, kept ∙ ap (λ xs. before ++ xs) (sym (seen_by lines s caller call (sym next))))

over : (lines left : List Line) (s : State) (caller : Caller) (before : List Told) (r : Result StepDone CommitFault) (on : Bool) → None ≡ next_call lines → heard lines (Ok answer.Done) ≡ (r, left) → on ≡ goes_on r
    → Turns (Left lines) s caller before on (Left left) s before
over [] left s caller before r on next h goes = (r, left, refl, ap (λ p. (p, s)) h, goes, sym (append-nil before))
over (line ∷ rest) left s caller before r on next h goes = absurd (cc)

pub turned_over : (moves left : Recovery) (s : State) (caller : Caller) (before : List Told) (r : Result StepDone CommitFault) (on : Bool)
    → None ≡ next_of moves → HearsOf moves (Ok answer.Done) r left → IsHeard r → on ≡ goes_on r → Turns moves s caller before on left s before
turned_over Nowhere left s caller before r on next (told, is) heard goes = (goes ∙ ap goes_on told, refl, refl)
turned_over (Left lines) left s caller before r on next (rest, same, hears) is goes =
    subst (λ m. Turns (Left lines) s caller before on m s before) (sym same) (over lines rest s caller before r on next (heard_by lines rest (Ok answer.Done) r hears is) goes)

-- ---- all of them

-- from the first lines on, the turns have come to these
abbrev pub Gone : Recovery → State → Caller → Recovery → State → List Told → Type 0
Gone Nowhere first caller now s told = (now ≡ Nowhere) × (s ≡ first) × (told ≡ [])
Gone (Left lines) first caller now s told =
    (left : List Line) × (now ≡ Left left) × Going lines first caller left s × ((rest : List Told) → Sees caller left s rest → Sees caller lines first (told ++ rest))

pub gone_first : (moves : Recovery) (s : State) (caller : Caller) → Settles (lines_in moves) → Gone moves s caller moves s []
gone_first Nowhere s caller settles = (refl, refl, refl)
gone_first (Left lines) s caller settles = (lines, refl, going_first lines s caller settles, λ rest h. h)

is_more : (r : Result StepDone CommitFault) → true ≡ goes_on r → r ≡ Ok done.More
is_more (Ok done.More) e = refl
is_more (Ok done.Finished) e = absurd (cc)
is_more (Err f) e = absurd (cc)

is_last : (r : Result StepDone CommitFault) → false ≡ goes_on r → IsLast r
is_last (Ok done.More) e = absurd (cc)
is_last (Ok done.Finished) e = tt
is_last (Err f) e = tt

further : (lines left rest : List Line) (first s t : State) (caller : Caller) (told now : List Told) (r : Result StepDone CommitFault) → Going lines first caller left s
    → ((more : List Told) → Sees caller left s more → Sees caller lines first (told ++ more)) → step_of left s caller ≡ ((r, rest), t) → r ≡ Ok done.More → now ≡ told ++ next_seen left s caller
    → Going lines first caller rest t × ((behind : List Told) → Sees caller rest t behind → Sees caller lines first (now ++ behind))
further lines left rest first s t caller told now r going sees step goes kept =
    let on = subst (λ q. step_of left s caller ≡ ((q, rest), t)) goes step in (
      going_further lines left rest first s t caller going on,
      λ behind h.
          subst (λ xs. Sees caller lines first xs) (sym (ap (λ xs. xs ++ behind) kept ∙ append_assoc told (next_seen left s caller) behind))
          (sees (next_seen left s caller ++ behind) (more left rest s t behind on h)),
    )

pub gone_on : (moves now left : Recovery) (first s t : State) (caller : Caller) (told after : List Told) → Gone moves first caller now s told → Turns now s caller told true left t after → Gone moves first caller left t after
gone_on Nowhere now left first s t caller told after (is, same, none) turn = let h = subst (λ m. Turns m s caller told true left t after) is turn in let e : true ≡ false = h.0 in absurd (cc)
gone_on (Left lines) now left first s t caller told after (here, is, going, sees) turn = by (subst (λ m. Turns m s caller told true left t after) is turn)
  where
    by : Turns (Left here) s caller told true left t after → Gone (Left lines) first caller left t after
    by (r, rest, same, step, goes, kept) =
        let on = further lines here rest first s t caller told after r going sees step (is_more r goes) kept in
        (rest, same, on.0, on.1)

pub fewer : (moves now left : Recovery) (first s t : State) (caller : Caller) (told after : List Told) → Gone moves first caller now s told → Turns now s caller told true left t after
    → most_calls (finite.len first.content) (deepest first.content) (lines_in left) < most_calls (finite.len first.content) (deepest first.content) (lines_in now)
fewer Nowhere now left first s t caller told after (is, same, none) turn = let h = subst (λ m. Turns m s caller told true left t after) is turn in let e : true ≡ false = h.0 in absurd (cc)
fewer (Left lines) now left first s t caller told after (here, is, going, sees) turn = by (subst (λ m. Turns m s caller told true left t after) is turn)
  where
    by : Turns (Left here) s caller told true left t after → most_calls (finite.len first.content) (deepest first.content) (lines_in left) < most_calls (finite.len first.content) (deepest first.content) (lines_in now)
    by (r, rest, same, step, goes, kept) =
        rw (is, same) (fewer_left lines here rest first s t caller going (subst (λ q. step_of here s caller ≡ ((q, rest), t)) (is_more r goes) step))

ends_at : (lines here rest : List Line) (first s t : State) (caller : Caller) (r : Result StepDone CommitFault) → Going lines first caller here s → step_of here s caller ≡ ((r, rest), t) → IsLast r → (whole lines first caller).1 ≡ t
ends_at lines here rest first s t caller (Ok done.More) going step l = absurd l
ends_at lines here rest first s t caller (Ok done.Finished) going step l = ap (λ p. p.1) (effect_last lines here rest first s t caller going step)
ends_at lines here rest first s t caller (Err f) going step l = ap (λ p. p.1) (effect_fault lines here rest first s t caller f going step)

pub all_seen : (moves now left : Recovery) (first s t : State) (caller : Caller) (told after : List Told) → Gone moves first caller now s told → Turns now s caller told false left t after → Sees caller (lines_in moves) first after
all_seen Nowhere now left first s t caller told after (is, same, none) turn =
    let h = subst (λ m. Turns m s caller told false left t after) is turn in
    subst (λ xs. Sees caller [] first xs) (sym (h.2 ∙ none)) (last [] [] first first (Err fault.Over) refl tt)
all_seen (Left lines) now left first s t caller told after (here, is, going, sees) turn = by (subst (λ m. Turns m s caller told false left t after) is turn)
  where
    by : Turns (Left here) s caller told false left t after → Sees caller lines first after
    by (r, rest, same, step, goes, kept) = subst (λ xs. Sees caller lines first xs) (sym kept) (sees (next_seen here s caller) (last here rest s t r step (is_last r goes)))

pub all_made : (moves now left : Recovery) (first s t : State) (caller : Caller) (told after : List Told) → Gone moves first caller now s told → Turns now s caller told false left t after → t ≡ (recovered moves first caller).1
all_made Nowhere now left first s t caller told after (is, same, none) turn = let h = subst (λ m. Turns m s caller told false left t after) is turn in h.1 ∙ same
all_made (Left lines) now left first s t caller told after (here, is, going, sees) turn = by (subst (λ m. Turns m s caller told false left t after) is turn)
  where
    by : Turns (Left here) s caller told false left t after → t ≡ (whole lines first caller).1
    by (r, rest, same, step, goes, kept) = sym (ends_at lines here rest first s t caller r going step (is_last r goes))

-- ---- the tables of operations

recovered_settles : (dest : List (List ℕ)) (k : ℕ) (task : TaskId) (bytes : Option ℕ) (o : Option ℕ) → Settles (lines_in (recovery_from dest k task bytes o))
recovered_settles dest k task bytes None = tt
recovered_settles dest k task bytes (Some j) = recovery_settles dest task bytes k j

pub tables_settle : (w : Wish) (dest : List (List ℕ)) (k : ℕ) → Settles (lines_in (table w dest k))
tables_settle wish.SetupJob dest k = setup_settles dest k
tables_settle (wish.CommitTask a) dest k = task_settles dest k a
tables_settle (wish.AbortTask a) dest k = abort_task_settles dest k a
tables_settle wish.CommitJob dest k = job_settles dest k
tables_settle wish.AbortJob dest k = abort_job_settles dest
tables_settle (wish.RecoverTask t bytes) dest k = recovered_settles dest k t bytes (before k)
