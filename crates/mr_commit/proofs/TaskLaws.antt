-- What a task's commit leaves.
use Rattle.std.proofs.Common.{◌≡◌, ℕ, zero, suc, Bool, true, false, ◌&&◌, List, [], ◌∷◌, ◌++◌, refl, sym, ap, subst, ◌∙◌, Option, Some, None, is_some, Result, Ok, Err, if◌then◌else◌}
use Rattle.mr_ids.specs.Attempt.{Attempt}
use Rattle.mr_paths.specs.Path.{Diverge}
use Rattle.mr_paths.specs.Layout.{task_attempt, committed}
use Rattle.mr_paths.proofs.Apart.{task_and_attempt_part, diverge_not_within}
use Rattle.mr_names.specs.declared.op.Caller.{Caller}
use Rattle.mr_names.specs.declared.fault.NameFault.{NameFault}
use Rattle.mr_names.specs.declared.op.Op.{Op}
use Rattle.mr_names.specs.declared.op.Op.TheVariants as op
use Rattle.mr_names_tree.specs.Content.{Content, IsTree, within}
use Rattle.mr_names_tree.specs.Held.{node_at}
use Rattle.mr_names.specs.Calls.{State, refused, settled, call_of, effect}
use Rattle.mr_names.proofs.CallLaws.{others_stay, renamed_there, renamed_away}
use Rattle.mr_names.proofs.CallerLaws.{tree_stays, fence_stays}
use Rattle.mr_names.proofs.TreeLaws.{past_caller}
use Rattle.mr_commit.specs.declared.fault.CommitFault.{CommitFault}
use Rattle.mr_commit.specs.declared.fault.CommitFault.TheVariants as fault
use Rattle.mr_commit.specs.Line.{Line, op_of, replaced, moves, fault_of}
use Rattle.mr_commit.specs.Line.Line.{Does, Clears, Needs}
use Rattle.mr_commit.specs.Settles.{is_single}
use Rattle.mr_commit.specs.Steps.{after}
use Rattle.mr_commit.specs.Tables.{commit_task}
use Rattle.mr_commit.specs.CommitterEffect.{going_on, run, whole, most_calls}
use Rattle.mr_commit.specs.Laws.{IsCommitted}
use Rattle.mr_commit.proofs.Ending.{single}

abbrev pub answered_by : State → Result (Unit {0}) CommitFault × State
answered_by t = (Ok tt, t)

abbrev pub faulted_by : CommitFault → State → Result (Unit {0}) CommitFault × State
faulted_by f t = (Err f, t)

abbrev pub lines_of : List Line → Result (List Line) CommitFault
lines_of new = Ok new

abbrev pub failed : CommitFault → Result (List Line) CommitFault
failed f = Err f

pub clash : {A : Type 0} (f : CommitFault) (t u : State) → faulted_by f t ≡ answered_by u → A
clash f t u e = let y : told f ≡ well = ap (λ p. p.0) e in absurd cc
  where
    told : CommitFault → Result (Unit {0}) CommitFault
    told f = Err f

    well : Result (Unit {0}) CommitFault
    well = Ok tt

-- a line of one call, in a run that was answered
pub passed : (n : ℕ) (line : Line) (rest : List Line) (s t : State) (caller : Caller) → is_single line ≡ true → run (suc n) (line ∷ rest) s caller ≡ (Ok tt, t) → replaced line (call_of s caller (op_of line)).0 ≡ Ok []
unfolding run
passed n line rest s t caller one e = by (replaced line (call_of s caller (op_of line)).0) refl e
  where
    by : (x : Result (List Line) CommitFault) → replaced line (call_of s caller (op_of line)).0 ≡ x → going_on (after line rest x).0 (after line rest x).1 (call_of s caller (op_of line)).1 (λ left u. run n left u caller) ≡ (Ok tt, t) → x ≡ Ok []
    by (Ok new) k h = ap (λ z. Ok z) (single line _ new one k)
    by (Err (fault.Names f)) k h = clash (fault.Names f) _ t h
    by (Err fault.OutputMissing) k h = clash fault.OutputMissing _ t h
    by (Err fault.WrongLength) k h = clash fault.WrongLength _ t h
    by (Err fault.DestinationExists) k h = clash fault.DestinationExists _ t h
    by (Err fault.WrongAnswer) k h = clash fault.WrongAnswer _ t h
    by (Err fault.Over) k h = clash fault.Over _ t h
    by (Err fault.NoMemory) k h = clash fault.NoMemory _ t h

pub run_on : (n : ℕ) (line next : Line) (rest : List Line) (s : State) (caller : Caller) → replaced line (call_of s caller (op_of line)).0 ≡ Ok [] → run (suc n) (line ∷ next ∷ rest) s caller ≡ run n (next ∷ rest) (call_of s caller (op_of line)).1 caller
unfolding run
run_on n line next rest s caller e = rw e refl

pub run_end : (n : ℕ) (line : Line) (s : State) (caller : Caller) → replaced line (call_of s caller (op_of line)).0 ≡ Ok [] → run (suc n) (line ∷ []) s caller ≡ (Ok tt, (call_of s caller (op_of line)).1)
unfolding run
run_end n line s caller e = rw e refl

-- ---- what each line leaves

pub looked : (s : State) (caller : Caller) (path : List (List ℕ)) → (call_of s caller (op.Exists path)).1 ≡ s
looked s caller path = by (refused s caller (op.Exists path))
  where
    by : (o : Option NameFault) → (settled o s (op.Exists path)).1 ≡ s
    by None = refl
    by (Some f) = refl

pub cleared : (s : State) (caller : Caller) (path q : List (List ℕ)) → within path q ≡ false → node_at (call_of s caller (op.Delete path)).1.content q ≡ node_at s.content q
cleared s caller path q apart = by (refused s caller (op.Delete path))
  where
    by : (o : Option NameFault) → node_at (settled o s (op.Delete path)).1.content q ≡ node_at s.content q
    by None = others_stay s.content (op.Delete path) q apart
    by (Some f) = refl

pub not_refused : (s : State) (caller : Caller) (call : Op) → replaced (Does call) (call_of s caller call).0 ≡ Ok [] → refused s caller call ≡ None
not_refused s caller call e = by (refused s caller call) e
  where
    bad : {A : Type 0} (f : NameFault) (b : Bool) → (if b && false then Ok [] else Err (fault_of f)) ≡ lines_of [] → A
    bad f true h = let y : failed (fault_of f) ≡ lines_of [] = h in absurd cc
    bad f false h = let y : failed (fault_of f) ≡ lines_of [] = h in absurd cc

    by : (o : Option NameFault) → replaced (Does call) (settled o s call).0 ≡ Ok [] → o ≡ None
    by None h = refl
    by (Some f) h = bad f _ h

pub made : (s : State) (caller : Caller) (call : Op) → refused s caller call ≡ None → (call_of s caller call).1.content ≡ effect s.content call
made s caller call e = rw e refl

three : (entries depth : ℕ) (dest : List (List ℕ)) (k : ℕ) (attempt : Attempt) → most_calls entries depth (commit_task dest k attempt) ≡ suc (suc (suc zero))
unfolding most_calls
three entries depth dest k attempt = refl

pub record Replaced (from to : List (List ℕ)) (before after : Content) : Type 0 where
  pub held : (rest : List (List ℕ)) → node_at after (to ++ rest) ≡ node_at before (from ++ rest)
  pub gone : (rest : List (List ℕ)) → node_at after (from ++ rest) ≡ None
  pub others : (path : List (List ℕ)) → within to path ≡ false → within from path ≡ false → node_at after path ≡ node_at before path

-- the three calls, one after another
task_run : (from to : List (List ℕ)) (s t : State) (caller : Caller) → run (suc (suc (suc zero))) (Needs from ∷ Clears to ∷ moves from to ∷ []) s caller ≡ (Ok tt, t)
    → (refused (call_of s caller (op.Delete to)).1 caller (op.Rename from to) ≡ None) × (t ≡ (call_of (call_of s caller (op.Delete to)).1 caller (op.Rename from to)).1)
task_run from to s t caller e =
    let first = passed _ (Needs from) _ s t caller refl e in
    let e1 = sym (run_on _ (Needs from) (Clears to) (moves from to ∷ []) s caller first) ∙ e in
    let e2 = subst (λ u. run (suc (suc zero)) (Clears to ∷ moves from to ∷ []) u caller ≡ answered_by t) (looked s caller from) e1 in
    let second = passed _ (Clears to) _ s t caller refl e2 in
    let e3 = sym (run_on _ (Clears to) (moves from to) [] s caller second) ∙ e2 in
    let third = passed _ (moves from to) _ (call_of s caller (op.Delete to)).1 t caller refl e3 in
    let e4 = sym e3 ∙ run_end _ (moves from to) (call_of s caller (op.Delete to)).1 caller third in
    (not_refused (call_of s caller (op.Delete to)).1 caller (op.Rename from to) third, ap (λ p. p.1) e4)

-- a delete and then a rename to where it deleted
pub replacing : (from to : List (List ℕ)) (s t : State) (caller : Caller) → IsTree s.content → Diverge to from
    → refused (call_of s caller (op.Delete to)).1 caller (op.Rename from to) ≡ None → t ≡ (call_of (call_of s caller (op.Delete to)).1 caller (op.Rename from to)).1
    → Replaced from to s.content t.content
replacing from to s t caller tree part passed is =
    let u = (call_of s caller (op.Delete to)).1 in
    let tree_u : IsTree u.content = tree_stays s caller (op.Delete to) tree in
    let own = past_caller u caller (op.Rename from to) passed in
    let content_is : t.content ≡ effect u.content (op.Rename from to) = ap (λ z. z.content) is ∙ made u caller (op.Rename from to) passed in
    rw content_is (record {
      held = λ rest. renamed_there u.content from to rest tree_u own ∙ cleared s caller to (from ++ rest) (ap is_some (diverge_not_within to from rest part));
      gone = λ rest. renamed_away u.content from to rest tree_u own;
      others = λ path a b. others_stay u.content (op.Rename from to) path (rw (a, b) refl) ∙ cleared s caller to path a;
    })

pub task_commits : (dest : List (List ℕ)) (k : ℕ) (attempt : Attempt) (s t : State) (caller : Caller) → IsTree s.content → whole (commit_task dest k attempt) s caller ≡ (Ok tt, t) → IsCommitted dest k attempt s.content t.content × (t.fence ≡ s.fence)
task_commits dest k attempt s t caller tree answered =
    let e : run (suc (suc (suc zero))) (commit_task dest k attempt) s caller ≡ (Ok tt, t) = ap (λ n. run n (commit_task dest k attempt) s caller) (sym (three _ _ dest k attempt)) ∙ answered in
    let calls = task_run (task_attempt dest k attempt) (committed dest k attempt.task) s t caller e in
    let done = replacing (task_attempt dest k attempt) (committed dest k attempt.task) s t caller tree (task_and_attempt_part dest k k attempt.task attempt) calls.0 calls.1 in (
      record { held = done.held; gone = done.gone; others = done.others },
      ap (λ z. z.fence) calls.1 ∙ fence_stays (call_of s caller (op.Delete (committed dest k attempt.task))).1 caller (op.Rename (task_attempt dest k attempt) (committed dest k attempt.task)) ∙ fence_stays s caller (op.Delete (committed dest k attempt.task)),
    )
