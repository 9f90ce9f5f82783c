-- A trace is what a right store tells: the judge of traces finds nothing wrong.
use Rattle.std.proofs.Common.{◌≡◌, inl, ℕ, List, [], ◌∷◌, ◌++◌, map, Option, Some, None, Result, Ok, Err, refl, sym, ap, subst, ◌∙◌, append_assoc}
use Rattle.std.proofs.lemmas.List.{map-append}
use Rattle.mr_names.specs.declared.fault.NameFault.{NameFault}
use Rattle.mr_names.specs.declared.op.Answer.{Answer}
use Rattle.mr_names.specs.declared.op.Caller.{Caller}
use Rattle.mr_ids.specs.declared.id.TaskId.{TaskId}
use Rattle.mr_paths.specs.Layout.{task_attempt}
use Rattle.mr_names.specs.declared.op.Op.{Op}
use Rattle.mr_names.specs.declared.op.Op.TheVariants as op
use Rattle.mr_names.specs.Calls.{State, call_of}
use Rattle.mr_commit.specs.declared.fault.CommitFault.{CommitFault}
use Rattle.mr_commit.specs.declared.fault.CommitFault.TheVariants as fault
use Rattle.mr_commit.specs.declared.fault.StepDone.{StepDone}
use Rattle.mr_commit.specs.declared.fault.StepDone.TheVariants as done
use Rattle.mr_commit.specs.CommitterEffect.{LeadsTo, Reaches, whole}
use Rattle.mr_commit.specs.CommitterEffect.Reaches.{none_yet, one_more}
use Rattle.mr_commit.specs.Line.{Line, before}
use Rattle.mr_commit.specs.Line.Line.{Does}
use Rattle.mr_commit.specs.Recovery.{recovered, recovery_from}
use Rattle.mr_commit.specs.Settles.{Settles}
use Rattle.mr_commit.specs.Steps.{step_of}
use Rattle.mr_commit.proofs.Effects as effects
use Rattle.mr_commit.proofs.Wholes.{setup_settles, task_settles, job_settles, abort_task_settles, abort_job_settles, recovery_settles}
use Rattle.mr_judge.specs.declared.line.Told.{Told}
use Rattle.mr_judge.specs.declared.verdict.Verdict.TheVariants.{Right}
use Rattle.mr_judge.specs.Trace.{Judges}
use Rattle.mr_sim_commands.specs.declared.committer.command.ScriptCommand.{ScriptCommand}
use Rattle.mr_sim_commands.specs.declared.committer.command.ScriptCommand.TheVariants.{As, Raise, Check, Setup, Write, Needs, Commit, Abort, Recover, CommitJob, AbortJob, Bar, By}
use Rattle.mr_sim_commands.specs.declared.committer.scene.Scene.{Scene}
use Rattle.mr_sim_commands.specs.committer.Effect.{in_turn, out, outcome, start, writes}
use Rattle.mr_commit_trace.specs.Laws.{TracesAreRight, told_lines}
use Rattle.mr_commit_trace.specs.Seen.{IsLast, Sees, SeesAll, SeesCommand, lines_in, next_seen}
use Rattle.mr_commit_trace.specs.Seen.Sees.{last, more}
use Rattle.mr_commit_trace.specs.inner.Turns.{if_made, seen_in_turn}
use Rattle.mr_commit_trace.proofs.InTurn.{looks_stay, sees_turn}
use Rattle.mr_commit_trace.proofs.Onces.{one_sees}

-- with the number of a line
abbrev pub at_line : ℕ → List Told → List (ℕ × Told)
at_line n told = map (λ one. (n, one)) told

-- the next call of a table, and then what is right of where it leads
first_right : (n : ℕ) (lines left : List Line) (s t : State) (caller : Caller) (r : Result StepDone CommitFault) (rest : List (ℕ × Told)) → step_of lines s caller ≡ ((r, left), t) → Judges t rest Right
    → Judges s (at_line n (next_seen lines s caller) ++ rest) Right
first_right n [] left s t caller r rest step h = subst (λ u. Judges u rest Right) (sym (ap (λ p. p.1) step)) h
first_right n (line ∷ lines) left s t caller r rest step h = inl (refl, subst (λ u. Judges u rest Right) (sym (ap (λ p. p.1) step)) h)

-- ---- where the calls of a table lead

ends_by : (lines left : List Line) (s t : State) (caller : Caller) (r : Result StepDone CommitFault) → step_of lines s caller ≡ ((r, left), t) → IsLast r → (q : Result (Unit {0}) CommitFault) × LeadsTo lines s caller q t
ends_by lines left s t caller (Ok done.More) step is = absurd is
ends_by lines left s t caller (Ok done.Finished) step is = (Ok tt, (lines, s, none_yet, (left, step)))
ends_by lines left s t caller (Err f) step is = (Err f, (lines, s, none_yet, (left, step)))

reaches_from : (caller : Caller) (lines left : List Line) (s t : State) (mid : List Line) (u : State) → step_of lines s caller ≡ ((Ok done.More, left), t) → Reaches caller left t mid u → Reaches caller lines s mid u
reaches_from caller lines left s t mid u step none_yet = one_more lines left s t none_yet step
reaches_from caller lines left s t mid u step (one_more here _ v _ h end) = one_more here mid v u (reaches_from caller lines left s t here v step h) end

leads_from : (lines left : List Line) (s t u : State) (caller : Caller) (q : Result (Unit {0}) CommitFault) → step_of lines s caller ≡ ((Ok done.More, left), t) → LeadsTo left t caller q u → LeadsTo lines s caller q u
leads_from lines left s t u caller q step (mid, v, reached, ends) = (mid, v, reaches_from caller lines left s t mid v step reached, ends)

-- they lead somewhere, and what is right of there is right behind them
abbrev Rightly : Caller → ℕ → List Line → State → List Told → Type 0
Rightly caller n lines s told =
    (q : Result (Unit {0}) CommitFault) × (u : State) × LeadsTo lines s caller q u × ((rest : List (ℕ × Told)) → Judges u rest Right → Judges s (at_line n told ++ rest) Right)

rightly : (caller : Caller) (n : ℕ) (lines : List Line) (s : State) (told : List Told) → Sees caller lines s told → Rightly caller n lines s told
rightly caller n lines s told (last _ left _ t r step is) =
    let end = ends_by lines left s t caller r step is in
    (end.0, t, end.1, λ rest h. first_right n lines left s t caller r rest step h)
rightly caller n lines s told (more _ left _ t behind step h) = by (rightly caller n left t behind h)
  where
    by : Rightly caller n left t behind → Rightly caller n lines s (next_seen lines s caller ++ behind)
    by (q, u, leads, is) = (
      q,
      u,
      leads_from lines left s t u caller q step leads,
      λ rest right.
          subst (λ xs. Judges s xs Right)
          (sym (ap (λ xs. xs ++ rest) (map-append (λ one. (n, one)) (next_seen lines s caller) behind) ∙ append_assoc (at_line n (next_seen lines s caller)) (at_line n behind) rest))
          (first_right n lines left s t caller (Ok done.More) (at_line n behind ++ rest) step (is rest right)),
    )

pub table_right : (caller : Caller) (n : ℕ) (lines : List Line) (s : State) (told : List Told) (rest : List (ℕ × Told)) → Settles lines → Sees caller lines s told → Judges (whole lines s caller).1 rest Right
    → Judges s (at_line n told ++ rest) Right
table_right caller n lines s told rest settles h right = by (rightly caller n lines s told h)
  where
    by : Rightly caller n lines s told → Judges s (at_line n told ++ rest) Right
    by (q, u, leads, is) =
        let same = effects.one_result lines s u (whole lines s caller).1 caller q (whole lines s caller).0 leads (effects.whole_forms_end lines s caller settles) in
        is rest (subst (λ v. Judges v rest Right) (sym (ap (λ p. p.1) same)) right)

-- ---- calls in turn

pub turn_right : (caller : Caller) (n : ℕ) (calls : List Op) (s : State) (rest : List (ℕ × Told)) → Judges (in_turn calls s caller).1 rest Right → Judges s (at_line n (seen_in_turn calls s caller) ++ rest) Right
turn_right caller n [] s rest right = right
turn_right caller n (call ∷ calls) s rest right = inl (refl, by (call_of s caller call).0 (call_of s caller call).1 refl (λ t h. turn_right caller n calls t rest h) right)
  where
    by : (r : Result Answer NameFault) (t : State) → call_of s caller call ≡ (r, t) → ((t : State) → Judges (in_turn calls t caller).1 rest Right → Judges t (at_line n (seen_in_turn calls t caller) ++ rest) Right)
        → Judges (in_turn (call ∷ calls) s caller).1 rest Right → Judges t (at_line n (if_made r (seen_in_turn calls t caller)) ++ rest) Right
    by (Ok a) t e on h = on t (rw e at h)
    by (Err f) t e on h = rw e at h

-- ---- commands

-- of no line nothing is seen
nothing_right : (caller : Caller) (n : ℕ) (s : State) (told : List Told) (rest : List (ℕ × Told)) → Sees caller [] s told → Judges s rest Right → Judges s (at_line n told ++ rest) Right
nothing_right caller n s told rest h right =
    let is = one_sees caller [] s told [] h (last [] [] s s (Err fault.Over) refl tt) in
    rw is right

recovered_right : (dest : List (List ℕ)) (n : ℕ) (t : TaskId) (bytes : Option ℕ) (s : Scene) (told : List Told) (rest : List (ℕ × Told)) (o : Option ℕ)
    → Sees s.caller (lines_in (recovery_from dest s.caller.app t bytes o)) s.names told → Judges (recovered (recovery_from dest s.caller.app t bytes o) s.names s.caller).1 rest Right → Judges s.names (at_line n told ++ rest) Right
recovered_right dest n t bytes s told rest None h right = nothing_right s.caller n s.names told rest h right
recovered_right dest n t bytes s told rest (Some j) h right = table_right s.caller n _ s.names told rest (recovery_settles dest t bytes s.caller.app j) h right

-- what a command that makes calls leaves is right of where it leads
right_by : (dest : List (List ℕ)) (n : ℕ) (c : ScriptCommand) (s : Scene) (told : List Told) (rest : List (ℕ × Told)) → SeesCommand dest c s told → Judges (outcome dest c s).1.names rest Right → Judges s.names (at_line n told ++ rest) Right
unfolding outcome
right_by dest n (As k) s told rest h right = nothing_right s.caller n s.names told rest h right
right_by dest n (Raise k) s told rest h right = rw h right
right_by dest n Check s told rest h right =
    let calls = op.Exists dest ∷ [] in
    let is = one_sees s.caller (map Does calls) s.names told (seen_in_turn calls s.names s.caller) h (sees_turn calls s.names s.caller) in
    rw is (turn_right s.caller n calls s.names rest (subst (λ t. Judges t rest Right) (sym (looks_stay s.names s.caller dest)) right))
right_by dest n Setup s told rest h right = table_right s.caller n _ s.names told rest (setup_settles dest s.caller.app) h right
right_by dest n (Write w text) s told rest h right =
    let calls = writes dest s.caller.app w text in
    let is = one_sees s.caller (map Does calls) s.names told (seen_in_turn calls s.names s.caller) h (sees_turn calls s.names s.caller) in
    rw is (turn_right s.caller n calls s.names rest right)
right_by dest n (Needs w) s told rest h right =
    let path = task_attempt dest s.caller.app w in
    let calls = op.Exists path ∷ [] in
    let is = one_sees s.caller (map Does calls) s.names told (seen_in_turn calls s.names s.caller) h (sees_turn calls s.names s.caller) in
    rw is (turn_right s.caller n calls s.names rest (subst (λ t. Judges t rest Right) (sym (looks_stay s.names s.caller path)) right))
right_by dest n (Commit w) s told rest h right = table_right s.caller n _ s.names told rest (task_settles dest s.caller.app w) h right
right_by dest n (Abort w) s told rest h right = table_right s.caller n _ s.names told rest (abort_task_settles dest s.caller.app w) h right
right_by dest n (Recover t bytes) s told rest h right = recovered_right dest n t bytes s told rest (before s.caller.app) h right
right_by dest n CommitJob s told rest h right = table_right s.caller n _ s.names told rest (job_settles dest s.caller.app) h right
right_by dest n AbortJob s told rest h right = table_right s.caller n _ s.names told rest (abort_job_settles dest) h right
right_by dest n (Bar w) s told rest h right =
    let calls = op.Bar w ∷ [] in
    let is = one_sees s.caller (map Does calls) s.names told (seen_in_turn calls s.names s.caller) h (sees_turn calls s.names s.caller) in
    rw is (turn_right s.caller n calls s.names rest right)
right_by dest n (By who) s told rest h right = nothing_right s.caller n s.names told rest h right

-- ---- a script

all_right : (dest : List (List ℕ)) (cs : List (ℕ × ScriptCommand)) (s : Scene) (all : List ((ℕ × ScriptCommand) × List Told)) → SeesAll dest cs s all → Judges s.names (told_lines all) Right
all_right dest [] s all h = rw h refl
all_right dest (c ∷ cs) s all (told, rest, is, sees, behind) = rw is (right_by dest c.0 c.1 s told (told_lines rest) sees (all_right dest cs (outcome dest c.1 s).1 rest behind))

pub traces_are_right_law : TracesAreRight
traces_are_right_law commands all h = all_right out commands start all h
