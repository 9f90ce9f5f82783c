-- Where steps lead.
use Rattle.std.proofs.Common.{◌≡◌, ◌≤◌, ℕ, zero, suc, ◌+◌, List, [], ◌∷◌, refl, sym, ap, ◌∙◌, Result, Ok, Err, arith, inr}
use Rattle.std.specs.FinMap as finite
use Rattle.mr_names.specs.declared.op.Caller.{Caller}
use Rattle.mr_names.specs.Calls.{State}
use Rattle.mr_commit.specs.declared.fault.CommitFault.{CommitFault}
use Rattle.mr_commit.specs.declared.fault.StepDone.{StepDone}
use Rattle.mr_commit.specs.declared.fault.StepDone.TheVariants as done
use Rattle.mr_commit.specs.Line.{Line}
use Rattle.mr_commit.specs.Steps.{step_of}
use Rattle.mr_commit.specs.Settles.{Settles}
use Rattle.mr_commit.specs.CommitterEffect.{Reaches, none_yet, one_more, LeadsTo, going_on, run, whole, most_calls, deepest}
use Rattle.mr_commit.proofs.Bounds.{shallow_first}
use Rattle.mr_commit.proofs.Ending.{Fine, step_more}
use Rattle.mr_commit.proofs.Wholes.{run_more, run_last, run_fault, some_calls}

-- ---- one result

abbrev Skips : List Line → State → Caller → List Line → State → ℕ → Type 0
Skips lines s caller mid u n = (m : ℕ) → run (n + m) lines s caller ≡ run m mid u caller

reaches_run : (caller : Caller) (lines : List Line) (s : State) (mid : List Line) (u : State) → Reaches caller lines s mid u → (n : ℕ) × Skips lines s caller mid u n
reaches_run caller lines s to at none_yet = (0, λ m. ap (λ k. run k lines s caller) (omega arith))
reaches_run caller lines s to at (one_more mid left u t reached step) =
    let before = reaches_run caller lines s mid u reached in (
      suc before.0,
      λ m.
          let shift : suc before.0 + m ≡ before.0 + suc m = omega arith in
          ap (λ k. run k lines s caller) shift ∙ before.1 (suc m) ∙ run_more m mid left u t caller step,
    )

leads_run : (lines : List Line) (s t : State) (caller : Caller) (r : Result (Unit {0}) CommitFault) → LeadsTo lines s caller r t → (n : ℕ) × ((m : ℕ) → run (n + suc m) lines s caller ≡ (r, t))
leads_run lines s t caller (Ok x) h = let skip = reaches_run caller lines s h.0 h.1 h.2 in (skip.0, λ m. skip.1 (suc m) ∙ run_last m h.0 h.3.0 h.1 t caller h.3.1)
leads_run lines s t caller (Err f) h = let skip = reaches_run caller lines s h.0 h.1 h.2 in (skip.0, λ m. skip.1 (suc m) ∙ run_fault m h.0 h.3.0 h.1 t caller f h.3.1)

pub one_result : (lines : List Line) (s t u : State) (caller : Caller) (r q : Result (Unit {0}) CommitFault) → LeadsTo lines s caller r t → LeadsTo lines s caller q u → ◌≡◌ {A = Result (Unit {0}) CommitFault × State} (r, t) (q, u)
one_result lines s t u caller r q h k =
    let a = leads_run lines s t caller r h in
    let b = leads_run lines s u caller q k in
    let both : a.0 + suc b.0 ≡ b.0 + suc a.0 = omega arith in
    sym (a.1 b.0) ∙ ap (λ n. run n lines s caller) both ∙ b.1 a.0

-- ---- whole forms end

pub ends : (n : ℕ) (caller : Caller) (first lines : List Line) (begin s : State) → Reaches caller first begin lines s → Fine (finite.len begin.content) (deepest begin.content) lines s.content → most_calls (finite.len begin.content) (deepest begin.content) lines ≤ n → LeadsTo first begin caller (run n lines s caller).0 (run n lines s caller).1
unfolding run
ends zero caller first [] begin s reached fine enough = ([], s, reached, ([], refl))
ends zero caller first (line ∷ rest) begin s reached fine enough = let some = some_calls (finite.len begin.content) (deepest begin.content) line rest in absurd (omega arith)
ends (suc n) caller first lines begin s reached fine enough = by (step_of lines s caller) refl (λ left t. ends n caller first left begin t)
  where
    by : (x : (Result StepDone CommitFault × List Line) × State) → step_of lines s caller ≡ x
        → ((left : List Line) (t : State) → Reaches caller first begin left t → Fine (finite.len begin.content) (deepest begin.content) left t.content → most_calls (finite.len begin.content) (deepest begin.content) left ≤ n → LeadsTo first begin caller (run n left t caller).0 (run n left t caller).1)
        → LeadsTo first begin caller (going_on x.0.0 x.0.1 x.1 (λ left t. run n left t caller)).0 (going_on x.0.0 x.0.1 x.1 (λ left t. run n left t caller)).1
    by ((Ok done.More, left), t) e more =
        let less = step_more (finite.len begin.content) (deepest begin.content) lines left s t caller fine e in
        more left t (one_more lines left s t reached e) less.fine (let h = less.fewer in omega arith)
    by ((Ok done.Finished, left), t) e more = (lines, s, reached, (left, e))
    by ((Err f, left), t) e more = (lines, s, reached, (left, e))

pub whole_forms_end : (lines : List Line) (s : State) (caller : Caller) → Settles lines → LeadsTo lines s caller (whole lines s caller).0 (whole lines s caller).1
whole_forms_end lines s caller settles =
    ends (most_calls (finite.len s.content) (deepest s.content) lines) caller lines lines s s none_yet (inr (settles, record { few = omega arith; shallow = shallow_first s.content })) (omega arith)
