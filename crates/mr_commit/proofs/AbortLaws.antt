-- What the aborts leave.
use Rattle.std.proofs.Common.{◌≡◌, ℕ, zero, suc, Bool, true, false, ◌||◌, List, [], ◌∷◌, ◌++◌, length, refl, sym, ap, ◌∙◌, Option, Some, None, is_none, Result, Ok, Err, ⊎_elim, eqb}
use Rattle.std.specs.Option.{option_or}
use Rattle.mr_paths.specs.Path.{parent}
use Rattle.mr_paths.specs.Layout.{temporary, task_attempt}
use Rattle.mr_names_tree.specs.declared.node.Node.{Node}
use Rattle.mr_names.specs.declared.op.Caller.{Caller}
use Rattle.mr_names.specs.declared.fault.NameFault.{NameFault}
use Rattle.mr_names.specs.declared.fault.NameFault.TheVariants as names
use Rattle.mr_names.specs.declared.op.Op.TheVariants as op
use Rattle.mr_names_tree.specs.Content.{IsTree}
use Rattle.mr_names_tree.specs.Held.{node_at, is_absent}
use Rattle.mr_names.specs.Calls.{State, unheard, own_refusal, refused, settled, call_of, first_of}
use Rattle.mr_names.proofs.Callers.{unheard-is}
use Rattle.mr_names.proofs.CallLaws.{deleted_there, nothing_beneath}
use Rattle.mr_names.proofs.CallerLaws.{fence_stays, others_bar_none}
use Rattle.mr_commit.specs.declared.fault.CommitFault.{CommitFault}
use Rattle.mr_commit.specs.Line.{replaced}
use Rattle.mr_commit.specs.Line.Line.{Clears}
use Rattle.mr_commit.specs.Steps.{after}
use Rattle.mr_commit.specs.CommitterEffect.{going_on, run, whole, most_calls}
use Rattle.mr_commit.specs.Laws.{IsTakenOut, AbortsLeave}
use Rattle.mr_commit.proofs.TaskLaws.{answered_by, passed, run_end, cleared}

-- nothing was there, where a delete is refused for that
absent_by : (none root : Bool) (o : Option Node) → first_of ((root || none, names.NoParent) ∷ (is_none o, names.Missing) ∷ []) ≡ Some names.Missing → o ≡ None
absent_by true root None e = refl
absent_by false root None e = refl
absent_by true true (Some node) e = absurd cc
absent_by true false (Some node) e = absurd cc
absent_by false true (Some node) e = absurd cc
absent_by false false (Some node) e = absurd cc

pub nothing_there : (s : State) (caller : Caller) (path : List (List ℕ)) → refused s caller (op.Delete path) ≡ Some names.Missing → node_at s.content path ≡ None
nothing_there s caller path e = by (unheard s caller) refl e
  where
    by : (o : Option NameFault) → unheard s caller ≡ o → option_or o (own_refusal s (op.Delete path)) ≡ Some names.Missing → node_at s.content path ≡ None
    by None is h = absent_by (is_absent s.content (parent path)) (eqb (length path) 0) (node_at s.content path) h
    by (Some why) is h = ⊎_elim
        (λ (fence : why ≡ names.Superseded s.fence). let y : Some (names.Superseded s.fence) ≡ Some names.Missing = ap (λ (f : NameFault). Some f) (sym fence) ∙ h in absurd cc)
        (λ (bar : why ≡ names.Barred). let y : Some names.Barred ≡ Some names.Missing = ap (λ (f : NameFault). Some f) (sym bar) ∙ h in absurd cc)
        (unheard-is s caller why is)

-- a refusal that a delete passes
passing : (path : List (List ℕ)) (f : NameFault) → replaced (Clears path) (Err f) ≡ Ok [] → f ≡ names.Missing
passing path names.Missing e = refl
passing path (names.Superseded fence) e = absurd cc
passing path names.Barred e = absurd cc
passing path names.Exists e = absurd cc
passing path names.NotDir e = absurd cc
passing path names.NotFile e = absurd cc
passing path names.Closed e = absurd cc
passing path names.NoParent e = absurd cc
passing path names.IntoItself e = absurd cc
passing path names.Full e = absurd cc
passing path names.NoMemory e = absurd cc

pub cleared_there : (s : State) (caller : Caller) (path rest : List (List ℕ)) → IsTree s.content → replaced (Clears path) (call_of s caller (op.Delete path)).0 ≡ Ok [] → node_at (call_of s caller (op.Delete path)).1.content (path ++ rest) ≡ None
cleared_there s caller path rest tree e = by (refused s caller (op.Delete path)) refl e
  where
    by : (o : Option NameFault) → refused s caller (op.Delete path) ≡ o → replaced (Clears path) (settled o s (op.Delete path)).0 ≡ Ok [] → node_at (settled o s (op.Delete path)).1.content (path ++ rest) ≡ None
    by None is h = deleted_there s.content path rest
    by (Some f) is h = nothing_beneath s.content path rest tree (nothing_there s caller path (is ∙ ap (λ (g : NameFault). Some g) (passing path f h)))

once : (entries depth : ℕ) (path : List (List ℕ)) → most_calls entries depth (Clears path ∷ []) ≡ suc zero
unfolding most_calls
once entries depth path = refl

-- one delete that was answered
taken_out : (path : List (List ℕ)) (s t : State) (caller : Caller) → IsTree s.content → whole (Clears path ∷ []) s caller ≡ (Ok tt, t) → IsTakenOut path s.content t.content × (t.fence ≡ s.fence) × (t.barred ≡ s.barred)
taken_out path s t caller tree answered =
    let e : run (suc zero) (Clears path ∷ []) s caller ≡ answered_by t = ap (λ n. run n (Clears path ∷ []) s caller) (sym (once _ _ path)) ∙ answered in
    let ok = passed zero (Clears path) [] s t caller refl e in
    let is : t ≡ (call_of s caller (op.Delete path)).1 = ap (λ p. p.1) (sym e ∙ run_end zero (Clears path) s caller ok) in (
      rw is (record { gone = λ rest. cleared_there s caller path rest tree ok; others = λ q apart. cleared s caller path q apart }),
      ap (λ z. z.fence) is ∙ fence_stays s caller (op.Delete path),
      ap (λ z. z.barred) is ∙ others_bar_none s caller (op.Delete path) refl,
    )

-- one delete that was refused
left_alone : (path : List (List ℕ)) (s t : State) (caller : Caller) (f : CommitFault) → whole (Clears path ∷ []) s caller ≡ (Err f, t) → t ≡ s
unfolding run
left_alone path s t caller f answered = by (refused s caller (op.Delete path)) (ap (λ n. run n (Clears path ∷ []) s caller) (sym (once _ _ path)) ∙ answered)
  where
    ended : Option NameFault → Result (Unit {0}) CommitFault × State
    ended o = going_on (after (Clears path) [] (replaced (Clears path) (settled o s (op.Delete path)).0)).0 (after (Clears path) [] (replaced (Clears path) (settled o s (op.Delete path)).0)).1 (settled o s (op.Delete path)).1 (λ left u. run zero left u caller)

    by : (o : Option NameFault) → ended o ≡ (Err f, t) → t ≡ s
    by None h = let y : (Ok tt) ≡ (Err f) = ap (λ p. p.0) h in absurd cc
    by (Some names.Missing) h = let y : (Ok tt) ≡ (Err f) = ap (λ p. p.0) h in absurd cc
    by (Some (names.Superseded fence)) h = sym (ap (λ p. p.1) h)
    by (Some names.Barred) h = sym (ap (λ p. p.1) h)
    by (Some names.Exists) h = sym (ap (λ p. p.1) h)
    by (Some names.NotDir) h = sym (ap (λ p. p.1) h)
    by (Some names.NotFile) h = sym (ap (λ p. p.1) h)
    by (Some names.Closed) h = sym (ap (λ p. p.1) h)
    by (Some names.NoParent) h = sym (ap (λ p. p.1) h)
    by (Some names.IntoItself) h = sym (ap (λ p. p.1) h)
    by (Some names.Full) h = sym (ap (λ p. p.1) h)
    by (Some names.NoMemory) h = sym (ap (λ p. p.1) h)

pub aborts_leave : AbortsLeave
aborts_leave = record {
  task = λ dest k attempt s t caller tree e. taken_out (task_attempt dest k attempt) s t caller tree e;
  job = λ dest s t caller tree e. taken_out (temporary dest) s t caller tree e;
  task_refused = λ dest k attempt s t caller f e. left_alone (task_attempt dest k attempt) s t caller f e;
  job_refused = λ dest s t caller f e. left_alone (temporary dest) s t caller f e;
}
