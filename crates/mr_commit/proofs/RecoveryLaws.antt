-- What a recovery leaves.
use Rattle.std.proofs.Common.{◌≡◌, ◌≢◌, ◌≤◌, ◌<◌, ◌⊎◌, inl, inr, ℕ, zero, suc, ◌+◌, ◌-◌, Bool, true, false, cond, ◌&&◌, List, [], ◌∷◌, ◌++◌, length, refl, sym, ap, subst, ◌∙◌, Option, Some, None, is_some, is_none, Result, Ok, Err, nat_lt, nat_eq, eqb, if◌then◌else◌, arith, append-nil, true≢false}
use Rattle.std.proofs.lemmas.Bool.{ltb-true, ltb-false, lt-ltb, eqb-true, eq-eqb}
use Rattle.std.specs.FinMap as finite
use Rattle.std.specs.Option.{option_map, option_or}
use Rattle.std.specs.Cmp.Lexicographic.{pointwise}
use Rattle.mr_ids.specs.declared.id.TaskId.{TaskId}
use Rattle.mr_ids.specs.Text.{task_text}
use Rattle.mr_paths.specs.Path.{strip, parent, Diverge}
use Rattle.mr_paths.specs.Layout.{committed, job_attempt, part}
use Rattle.mr_paths.proofs.Apart.{tasks_part, diverge_both_ways, diverge_not_within, parent_of_child}
use Rattle.mr_paths.proofs.Layouts.{committed_is}
use Rattle.mr_names_tree.specs.declared.node.Node.{Node}
use Rattle.mr_names_tree.specs.declared.node.Node.TheVariants.{Dir, File}
use Rattle.mr_names.specs.declared.op.Caller.{Caller}
use Rattle.mr_names.specs.declared.op.Answer.{Answer}
use Rattle.mr_names.specs.declared.op.Answer.TheVariants as answers
use Rattle.mr_names.specs.declared.fault.NameFault.{NameFault}
use Rattle.mr_names.specs.declared.fault.NameFault.TheVariants as names
use Rattle.mr_names.specs.declared.op.Op.{Op}
use Rattle.mr_names.specs.declared.op.Op.TheVariants as op
use Rattle.mr_names_tree.specs.Node.{kind_of}
use Rattle.mr_names_tree.specs.Content.{IsTree, within}
use Rattle.mr_names_tree.specs.Held.{node_at, is_present, is_file, is_dir, bytes_of}
use Rattle.mr_names.specs.Barred.{bars}
use Rattle.mr_names.specs.Laws.{MayDelete, MayRename, IsHeard}
use Rattle.mr_names.specs.Calls.{State, unheard, own_refusal, first_of, refused, settled, call_of}
use Rattle.mr_names.proofs.CallLaws.{answered_only, answered_always, parent_is_dir}
use Rattle.mr_names.proofs.CallerLaws.{tree_stays, fence_stays, others_bar_none, heard_has_its_own, answered_is_heard}
use Rattle.mr_names.proofs.TreeLaws.{past_caller}
use Rattle.mr_commit.specs.declared.fault.CommitFault.{CommitFault}
use Rattle.mr_commit.specs.declared.fault.CommitFault.TheVariants as fault
use Rattle.mr_commit.proofs.Calls.{answers_own_call}
use Rattle.mr_commit.specs.Line.{Line, op_of, replaced, older, moves, fault_of, sought, before, taking_over, is_missing}
use Rattle.mr_commit.specs.Line.Line.{Does, Clears, Seeks, Measures}
use Rattle.mr_commit.specs.Steps.{after}
use Rattle.mr_commit.specs.CommitterEffect.{HasEffect, going_on, run, most_calls, deepest}
use Rattle.mr_commit.specs.Recovery.{recovered, recovery_from, recover_task}
use Rattle.mr_commit.specs.Recovered.{IsNewest, NoneEarlier, part_file, HasLength, LacksFile, HasOtherLength, IsRecovered, TasksRecover}
use Rattle.mr_commit.proofs.TaskLaws.{Replaced, faulted_by, failed, clash, passed, run_on, run_end, cleared, not_refused, replacing}
use Rattle.mr_commit.proofs.AbortLaws.{cleared_there}
use Rattle.mr_commit.proofs.Wholes.{effect_unheard, told_by_name}

abbrev Ended : Type 0
Ended = Result (Unit {0}) CommitFault × State

-- ---- the search

existing : (s : State) (caller : Caller) (path : List (List ℕ)) → unheard s caller ≡ None → call_of s caller (op.Exists path) ≡ (Ok (answers.Found (option_map kind_of (node_at s.content path))), s)
existing s caller path e = rw e refl

-- a step, once its answer and the namespace after it are known
stepped : (n : ℕ) (line : Line) (rest : List Line) (s : State) (caller : Caller) (c : Result Answer NameFault × State) → call_of s caller (op_of line) ≡ c
    → run (suc n) (line ∷ rest) s caller ≡ going_on (after line rest (replaced line c.0)).0 (after line rest (replaced line c.0)).1 c.1 (λ left u. run n left u caller)
unfolding run
stepped n line rest s caller c e = ap (λ (c : Result Answer NameFault × State). going_on (after line rest (replaced line c.0)).0 (after line rest (replaced line c.0)).1 c.1 (λ left u. run n left u caller)) e

abbrev sought_by : ℕ → List (List ℕ) → TaskId → Option ℕ → ℕ → ℕ → State → Caller → Option Node → Ended
sought_by n dest task bytes k j s caller o =
    going_on (after (Seeks dest task bytes k j) [] (sought dest task bytes k j (option_map kind_of o))).0 (after (Seeks dest task bytes k j) [] (sought dest task bytes k j (option_map kind_of o))).1 s (λ left u. run n left u caller)

seeking : (n : ℕ) (dest : List (List ℕ)) (task : TaskId) (bytes : Option ℕ) (k j : ℕ) (s : State) (caller : Caller) (o : Option Node) → unheard s caller ≡ None → node_at s.content (committed dest j task) ≡ o
    → run (suc n) (Seeks dest task bytes k j ∷ []) s caller ≡ sought_by n dest task bytes k j s caller o
seeking n dest task bytes k j s caller o e is =
    stepped n (Seeks dest task bytes k j) [] s caller _ (existing s caller (committed dest j task) e) ∙ ap (sought_by n dest task bytes k j s caller) is

found_there : (n : ℕ) (dest : List (List ℕ)) (task : TaskId) (bytes : Option ℕ) (k j : ℕ) (s : State) (caller : Caller) (node : Node) → sought_by n dest task bytes k j s caller (Some node) ≡ run n (taking_over dest task bytes k j) s caller
found_there n dest task None k j s caller node = refl
found_there n dest task (Some b) k j s caller node = refl

before_is : (i : ℕ) → before (suc (suc i)) ≡ Some (suc i)
before_is i = let less : suc (suc i) - 1 ≡ suc i = omega arith in rw (lt-ltb 1 (suc (suc i)) (omega arith)) (ap (λ (x : ℕ). Some x) less)

deeper : (n : ℕ) (dest : List (List ℕ)) (task : TaskId) (bytes : Option ℕ) (k i : ℕ) (s : State) (caller : Caller) → sought_by n dest task bytes k (suc (suc i)) s caller None ≡ run n (Seeks dest task bytes k (suc i) ∷ []) s caller
deeper n dest task bytes k i s caller =
    let line = Seeks dest task bytes k (suc (suc i)) in
    ap (λ (o : Option ℕ). going_on (after line [] (older dest task bytes k o)).0 (after line [] (older dest task bytes k o)).1 s (λ left u. run n left u caller)) (before_is i)

-- the newest of the generations j, j - 1 .. 1 that has committed output, or none of them
data Search (dest : List (List ℕ)) (task : TaskId) (bytes : Option ℕ) (k : ℕ) (s : State) (caller : Caller) (j : ℕ) (r : Ended) : Type 0 where
  nowhere : ((i : ℕ) → 1 ≤ i → i ≤ j → node_at s.content (committed dest i task) ≡ None) → r ≡ faulted_by fault.OutputMissing s → Search dest task bytes k s caller j r
  somewhere : (i n : ℕ) → 1 ≤ i → i ≤ j → is_present s.content (committed dest i task) ≡ true → ((m : ℕ) → i < m → m ≤ j → node_at s.content (committed dest m task) ≡ None)
      → r ≡ run (suc (suc (suc n))) (taking_over dest task bytes k i) s caller → Search dest task bytes k s caller j r

search : (j n : ℕ) (dest : List (List ℕ)) (task : TaskId) (bytes : Option ℕ) (k : ℕ) (s : State) (caller : Caller) → unheard s caller ≡ None → 1 ≤ j → j + 3 ≤ n → Search dest task bytes k s caller j (run n (Seeks dest task bytes k j ∷ []) s caller)
search zero n dest task bytes k s caller e some enough = absurd (omega arith)
search (suc j) zero dest task bytes k s caller e some enough = absurd (omega arith)
search (suc j) (suc n) dest task bytes k s caller e some enough = by (λ one. search j n dest task bytes k s caller e one (omega arith)) (node_at s.content (committed dest (suc j) task)) refl
  where
    none_at : (i m : ℕ) → i ≡ m → node_at s.content (committed dest i task) ≡ None → node_at s.content (committed dest m task) ≡ None
    none_at i m is none = ap (λ x. node_at s.content (committed dest x task)) (sym is) ∙ none

    further_down : (1 ≤ j → Search dest task bytes k s caller j (run n (Seeks dest task bytes k j ∷ []) s caller)) → (i : ℕ) → i ≡ j → node_at s.content (committed dest (suc j) task) ≡ None → Search dest task bytes k s caller (suc j) (run (suc n) (Seeks dest task bytes k (suc j) ∷ []) s caller)
    further_down again zero is none = nowhere (λ i a b. none_at (suc j) i (omega arith) none) (seeking n dest task bytes k (suc j) s caller None e none ∙ ap (λ x. sought_by n dest task bytes k (suc x) s caller None) (sym is))
    further_down again (suc i) is none = further (again (omega arith))
      where
        same : run (suc n) (Seeks dest task bytes k (suc j) ∷ []) s caller ≡ run n (Seeks dest task bytes k j ∷ []) s caller
        same = seeking n dest task bytes k (suc j) s caller None e none ∙ ap (λ x. sought_by n dest task bytes k (suc x) s caller None) (sym is) ∙ deeper n dest task bytes k i s caller ∙ ap (λ x. run n (Seeks dest task bytes k x ∷ []) s caller) is

        last : (m : ℕ) → m ≤ suc j → (m ≤ j → node_at s.content (committed dest m task) ≡ None) → node_at s.content (committed dest m task) ≡ None
        last m high below = split (nat_lt m (suc j)) refl
          where
            split : (b : Bool) → nat_lt m (suc j) ≡ b → node_at s.content (committed dest m task) ≡ None
            split true lt = let h = ltb-true m (suc j) lt in below (omega arith)
            split false ge = let h = ltb-false m (suc j) ge in none_at (suc j) m (omega arith) none

        further : Search dest task bytes k s caller j (run n (Seeks dest task bytes k j ∷ []) s caller) → Search dest task bytes k s caller (suc j) (run (suc n) (Seeks dest task bytes k (suc j) ∷ []) s caller)
        further (nowhere all r) = nowhere (λ m a b. last m b (all m a)) (same ∙ r)
        further (somewhere l m a b found newer r) = somewhere l m a (omega arith) found (λ x c d. last x d (newer x c)) (same ∙ r)

    by : (1 ≤ j → Search dest task bytes k s caller j (run n (Seeks dest task bytes k j ∷ []) s caller)) → (o : Option Node) → node_at s.content (committed dest (suc j) task) ≡ o → Search dest task bytes k s caller (suc j) (run (suc n) (Seeks dest task bytes k (suc j) ∷ []) s caller)
    by again None is = further_down again j refl is
    by again (Some node) is =
        let more : n ≡ suc (suc (suc (n - 3))) = omega arith in
        somewhere (suc j) (n - 3) some (omega arith) (ap is_some is) (λ m a b. absurd (omega arith))
        (seeking n dest task bytes k (suc j) s caller (Some node) e is ∙ found_there n dest task bytes k (suc j) s caller node ∙ ap (λ x. run x (taking_over dest task bytes k (suc j)) s caller) more)

-- ---- the part file

abbrev read_by : Option Node → Result Answer NameFault
read_by None = Err names.Missing
read_by (Some Dir) = Err names.NotFile
read_by (Some (File bytes closed)) = Ok (answers.Contents bytes)

abbrev read_after : State → Option NameFault → Option Node → Result Answer NameFault × State
read_after s None o = (Ok (answers.Contents (bytes_of o)), s)
read_after s (Some f) o = (Err f, s)

abbrev read_refusal : Option Node → Option NameFault
read_refusal o = first_of ((is_none o, names.Missing) ∷ (is_dir o, names.NotFile) ∷ [])

reading : (s : State) (caller : Caller) (path : List (List ℕ)) (o : Option Node) → unheard s caller ≡ None → node_at s.content path ≡ o → call_of s caller (op.Read path) ≡ (read_by o, s)
reading s caller path o e is = ap (λ (w : Option NameFault). settled (option_or w (own_refusal s (op.Read path))) s (op.Read path)) e ∙ known (read_refusal (node_at s.content path)) ∙ ap (λ (o : Option Node). read_after s (read_refusal o) o) is ∙ by o
  where
    known : (w : Option NameFault) → settled w s (op.Read path) ≡ read_after s w (node_at s.content path)
    known None = refl
    known (Some f) = refl

    by : (o : Option Node) → read_after s (read_refusal o) o ≡ (read_by o, s)
    by None = refl
    by (Some Dir) = refl
    by (Some (File bytes closed)) = refl

-- what measuring a file comes to
data Measuring (n : ℕ) (there : Option Node) (s : State) (r go : Ended) : Type 0 where
  no_file : is_file there ≡ false → r ≡ faulted_by fault.OutputMissing s → Measuring n there s r go
  other_length : is_file there ≡ true → length (bytes_of there) ≢ n → r ≡ faulted_by fault.WrongLength s → Measuring n there s r go
  right_length : is_file there ≡ true → length (bytes_of there) ≡ n → r ≡ go → Measuring n there s r go

measuring : (m n : ℕ) (path : List (List ℕ)) (next : Line) (rest : List Line) (s : State) (caller : Caller) → unheard s caller ≡ None
    → Measuring n (node_at s.content path) s (run (suc m) (Measures path n ∷ next ∷ rest) s caller) (run m (next ∷ rest) s caller)
measuring m n path next rest s caller e = by (node_at s.content path) refl
  where
    step : (o : Option Node) → node_at s.content path ≡ o → run (suc m) (Measures path n ∷ next ∷ rest) s caller
        ≡ going_on (after (Measures path n) (next ∷ rest) (replaced (Measures path n) (read_by o))).0 (after (Measures path n) (next ∷ rest) (replaced (Measures path n) (read_by o))).1 s (λ left u. run m left u caller)
    step o is = stepped m (Measures path n) (next ∷ rest) s caller _ (reading s caller path o e is)

    compared : (bytes : List ℕ) (closed : Bool) → node_at s.content path ≡ Some (File bytes closed) → (b : Bool) → eqb (length bytes) n ≡ b
        → Measuring n (Some (File bytes closed)) s (run (suc m) (Measures path n ∷ next ∷ rest) s caller) (run m (next ∷ rest) s caller)
    compared bytes closed is true h = right_length refl (eqb-true (length bytes) n h) (step (Some (File bytes closed)) is ∙ rw h refl)
    compared bytes closed is false h = other_length refl (λ same. true≢false (sym (eq-eqb (length bytes) n same) ∙ h)) (step (Some (File bytes closed)) is ∙ rw h refl)

    by : (o : Option Node) → node_at s.content path ≡ o → Measuring n o s (run (suc m) (Measures path n ∷ next ∷ rest) s caller) (run m (next ∷ rest) s caller)
    by None is = no_file refl (step None is)
    by (Some Dir) is = no_file refl (step (Some Dir) is)
    by (Some (File bytes closed)) is = compared bytes closed is (eqb (length bytes) n) refl

-- ---- what a recovery of a caller that is heard comes to

data Outcome (dest : List (List ℕ)) (k : ℕ) (task : TaskId) (bytes : Option ℕ) (s : State) (caller : Caller) (r : Ended) : Type 0 where
  nothing : NoneEarlier dest k task s.content → r ≡ faulted_by fault.OutputMissing s → Outcome dest k task bytes s caller r
  unheard_for : (why : NameFault) → r ≡ faulted_by (fault.Names why) s → Outcome dest k task bytes s caller r
  lacks : (j : ℕ) → IsNewest dest k task s.content j → LacksFile bytes (part_file dest j task s.content) → r ≡ faulted_by fault.OutputMissing s → Outcome dest k task bytes s caller r
  other : (j : ℕ) → IsNewest dest k task s.content j → HasOtherLength bytes (part_file dest j task s.content) → r ≡ faulted_by fault.WrongLength s → Outcome dest k task bytes s caller r
  takes : (j n : ℕ) → IsNewest dest k task s.content j → HasLength bytes (part_file dest j task s.content)
      → r ≡ run (suc (suc n)) (Clears (committed dest k task) ∷ moves (committed dest j task) (committed dest k task) ∷ []) s caller → Outcome dest k task bytes s caller r

taking : (j n : ℕ) (dest : List (List ℕ)) (k : ℕ) (task : TaskId) (bytes : Option ℕ) (s : State) (caller : Caller) (r : Ended) → unheard s caller ≡ None → IsNewest dest k task s.content j
    → r ≡ run (suc (suc (suc n))) (taking_over dest task bytes k j) s caller → Outcome dest k task bytes s caller r
taking j n dest k task None s caller r e new is = takes j (suc n) new tt is
taking j n dest k task (Some b) s caller r e new is = by (measuring (suc (suc n)) b (committed dest j task ++ part task.number ∷ []) (Clears (committed dest k task)) (moves (committed dest j task) (committed dest k task) ∷ []) s caller e)
  where
    by : Measuring b (part_file dest j task s.content) s (run (suc (suc (suc n))) (taking_over dest task (Some b) k j) s caller) (run (suc (suc n)) (Clears (committed dest k task) ∷ moves (committed dest j task) (committed dest k task) ∷ []) s caller)
        → Outcome dest k task (Some b) s caller r
    by (no_file a x) = lacks j new a (is ∙ x)
    by (other_length a c x) = other j new (a, c) (is ∙ x)
    by (right_length a c x) = takes j n new (a, c) (is ∙ x)

enough_calls : (entries depth : ℕ) (dest : List (List ℕ)) (task : TaskId) (bytes : Option ℕ) (k j : ℕ) → most_calls entries depth (Seeks dest task bytes k j ∷ []) ≡ j + 4
unfolding most_calls
enough_calls entries depth dest task bytes k j = omega arith

outcome : (dest : List (List ℕ)) (k : ℕ) (task : TaskId) (bytes : Option ℕ) (s : State) (caller : Caller) → unheard s caller ≡ None → Outcome dest k task bytes s caller (recovered (recover_task dest k task bytes) s caller)
outcome dest k task bytes s caller e = by (nat_lt 1 k) refl
  where
    found : 1 < k → Search dest task bytes k s caller (k - 1) (run (k - 1 + 4) (Seeks dest task bytes k (k - 1) ∷ []) s caller) → Outcome dest k task bytes s caller (run (k - 1 + 4) (Seeks dest task bytes k (k - 1) ∷ []) s caller)
    found more (nowhere all r) = nothing (λ i a b. all i a (omega arith)) r
    found more (somewhere i n a b there newer r) = taking i n dest k task bytes s caller _ e (record { first = a; earlier = omega arith; found = there; newest = λ m c d. newer m c (omega arith) }) r

    by : (b : Bool) → nat_lt 1 k ≡ b → Outcome dest k task bytes s caller (recovered (recovery_from dest k task bytes (cond b (Some (k - 1)) None)) s caller)
    by false h = let low = ltb-false 1 k h in nothing (λ i a b. absurd (omega arith)) refl
    by true h =
        let more = ltb-true 1 k h in
        subst (λ n. Outcome dest k task bytes s caller (run n (Seeks dest task bytes k (k - 1) ∷ []) s caller)) (sym (enough_calls (finite.len s.content) (deepest s.content) dest task bytes k (k - 1)))
        (found more (search (k - 1) (k - 1 + 4) dest task bytes k s caller e (omega arith) (omega arith)))

before_more : (k : ℕ) → 1 < k → before k ≡ Some (k - 1)
before_more k more = rw (lt-ltb 1 k more) refl

superseded : (dest : List (List ℕ)) (k : ℕ) (task : TaskId) (bytes : Option ℕ) (s : State) (caller : Caller) (why : NameFault) → 1 < k → unheard s caller ≡ Some why
    → recovered (recover_task dest k task bytes) s caller ≡ faulted_by (fault.Names why) s
superseded dest k task bytes s caller why more e =
    let lines : List Line = Seeks dest task bytes k (k - 1) ∷ [] in
    ap (λ (o : Option ℕ). recovered (recovery_from dest k task bytes o) s caller) (before_more k more)
    ∙ subst (λ (f : CommitFault). HasEffect lines s caller (Err f) s) (told_by_name s caller why e) (effect_unheard (Seeks dest task bytes k (k - 1)) [] s caller why e)

outcome_of : (dest : List (List ℕ)) (k : ℕ) (task : TaskId) (bytes : Option ℕ) (s : State) (caller : Caller) → Outcome dest k task bytes s caller (recovered (recover_task dest k task bytes) s caller)
outcome_of dest k task bytes s caller = by (unheard s caller) refl
  where
    low : (b : Bool) → nat_lt 1 k ≡ b → (why : NameFault) → unheard s caller ≡ Some why → Outcome dest k task bytes s caller (recovered (recover_task dest k task bytes) s caller)
    low true h why e = unheard_for why (superseded dest k task bytes s caller why (ltb-true 1 k h) e)
    low false h why e = let few = ltb-false 1 k h in nothing (λ i a b. absurd (omega arith)) (rw h refl)

    by : (o : Option NameFault) → unheard s caller ≡ o → Outcome dest k task bytes s caller (recovered (recover_task dest k task bytes) s caller)
    by None e = outcome dest k task bytes s caller e
    by (Some why) e = low (nat_lt 1 k) refl why e

-- ---- the end: what was committed is deleted, and the earlier output takes its place

after_fault : (line : Line) (rest : List Line) (f : CommitFault) (s : State) (on : List Line → State → Ended) → going_on (after line rest (Err f)).0 (after line rest (Err f)).1 s on ≡ faulted_by f s
after_fault line rest fault.NoMemory s on = refl
after_fault line rest (fault.Names f) s on = refl
after_fault line rest fault.OutputMissing s on = refl
after_fault line rest fault.WrongLength s on = refl
after_fault line rest fault.DestinationExists s on = refl
after_fault line rest fault.WrongAnswer s on = refl
after_fault line rest fault.Over s on = refl

above : (p : List (List ℕ)) (name : List ℕ) → within (p ++ name ∷ []) p ≡ false
above [] name = refl
above (m ∷ p) name = by (pointwise nat_eq m m) (above p name)
  where
    by : (b : Bool) → within (p ++ name ∷ []) p ≡ false → is_some (cond b (strip (p ++ name ∷ []) p) None) ≡ false
    by true e = e
    by false e = refl

apart : (p q : List (List ℕ)) → Diverge p q → within p q ≡ false
apart p q part = subst (λ x. within p x ≡ false) (append-nil q) (ap is_some (diverge_not_within p q [] part))

-- a delete that was done makes room for a rename
may_move : (s : State) (caller : Caller) (from to top : List (List ℕ)) (name : List ℕ) → IsTree s.content → Diverge to from → to ≡ top ++ name ∷ [] → is_present s.content from ≡ true
    → refused s caller (op.Delete to) ≡ None → refused (call_of s caller (op.Delete to)).1 caller (op.Rename from to) ≡ None
may_move s caller from to top name tree part stands there passed =
    let u = (call_of s caller (op.Delete to)).1 in
    let heard : IsHeard s caller = answered_is_heard s caller (op.Delete to) passed in
    let fence : u.fence ≡ s.fence = fence_stays s caller (op.Delete to) in
    let barred : u.barred ≡ s.barred = others_bar_none s caller (op.Delete to) refl in
    let heard_still : IsHeard u caller = record { high = subst (λ n. n ≤ caller.app) (sym fence) heard.high; free = ap (λ b. bars b caller.attempt) barred ∙ heard.free } in
    let ok : replaced (Clears to) (call_of s caller (op.Delete to)).0 ≡ Ok [] = rw passed refl in
    let deleted : MayDelete s.content to = answered_only s.content (op.Delete to) (past_caller s caller (op.Delete to) passed) in
    let parent_is : parent to ≡ top = ap parent stands ∙ parent_of_child top name in
    let below : within to (parent to) ≡ false = ap (λ p. within to p) parent_is ∙ ap (λ p. within p top) stands ∙ above top name in
    let may : MayRename u.content from to = record {
      found = ap is_some (cleared s caller to from (apart to from part)) ∙ there;
      outside = apart from to (diverge_both_ways to from part);
      free = ap (node_at u.content) (sym (append-nil to)) ∙ cleared_there s caller to [] tree ok;
      parent_dir = cleared s caller to (parent to) below ∙ parent_is_dir s.content to tree deleted.not_root deleted.found;
    } in
    heard_has_its_own u caller (op.Rename from to) heard_still ∙ answered_always u.content (op.Rename from to) (tree_stays s caller (op.Delete to) tree) may

abbrev failed_of : CommitFault → Result (Unit {0}) CommitFault
failed_of f = Err f

never : (b : Bool) (f : CommitFault) → (if b && false then Ok [] else Err f) ≡ failed f
never true f = refl
never false f = refl

-- a fault of the namespace changed nothing
abbrev Untouched : State → CommitFault → State → Type 0
Untouched s f t = (t ≡ s) × (g : NameFault) × (f ≡ fault_of g)

same_fault : (g : NameFault) (f : CommitFault) (s t : State) → faulted_by (fault_of g) s ≡ faulted_by f t → Untouched s f t
same_fault g f s t e =
    let told : failed_of (fault_of g) ≡ failed_of f = ap (λ p. p.0) e in
    let one : fault_of g ≡ f = cc in
    (sym (ap (λ p. p.1) e), g, sym one)

not_moved : (n : ℕ) (call : Op) (s t : State) (caller : Caller) (f : CommitFault) → run (suc n) (Does call ∷ []) s caller ≡ (Err f, t) → Untouched s f t
not_moved n call s t caller f e = by (refused s caller call) refl
  where
    by : (o : Option NameFault) → refused s caller call ≡ o → Untouched s f t
    by None is =
        let ok : replaced (Does call) (call_of s caller call).0 ≡ Ok [] = rw (is, answers_own_call s.content call) refl in
        clash f t _ (sym e ∙ run_end n (Does call) s caller ok)
    by (Some g) is =
        let made : call_of s caller call ≡ (Err g, s) = rw is refl in
        same_fault g f s t (sym (
        stepped n (Does call) [] s caller _ made
        ∙ ap (λ (x : Result (List Line) CommitFault). going_on (after (Does call) [] x).0 (after (Does call) [] x).1 s (λ left u. run n left u caller)) (never (is_missing g) (fault_of g))
        ∙ after_fault (Does call) [] (fault_of g) s (λ left u. run n left u caller)) ∙ e)

not_taken : (n : ℕ) (from to top : List (List ℕ)) (name : List ℕ) (s t : State) (caller : Caller) (f : CommitFault) → IsTree s.content → Diverge to from → to ≡ top ++ name ∷ [] → is_present s.content from ≡ true
    → run (suc (suc n)) (Clears to ∷ moves from to ∷ []) s caller ≡ (Err f, t) → Untouched s f t
not_taken n from to top name s t caller f tree part stands there e = by (refused s caller (op.Delete to)) refl
  where
    by_missing : (g : NameFault) (b : Bool) → run (suc (suc n)) (Clears to ∷ moves from to ∷ []) s caller
        ≡ going_on (after (Clears to) (moves from to ∷ []) (if b && true then Ok [] else Err (fault_of g))).0 (after (Clears to) (moves from to ∷ []) (if b && true then Ok [] else Err (fault_of g))).1 s (λ left u. run (suc n) left u caller)
        → Untouched s f t
    by_missing g true same = not_moved n (op.Rename from to) s t caller f (sym same ∙ e)
    by_missing g false same = same_fault g f s t (sym (same ∙ after_fault (Clears to) (moves from to ∷ []) (fault_of g) s (λ left u. run (suc n) left u caller)) ∙ e)

    by : (o : Option NameFault) → refused s caller (op.Delete to) ≡ o → Untouched s f t
    by None is =
        let ok : replaced (Clears to) (call_of s caller (op.Delete to)).0 ≡ Ok [] = rw is refl in
        let moves_on = may_move s caller from to top name tree part stands there is in
        let ok_then : replaced (moves from to) (call_of (call_of s caller (op.Delete to)).1 caller (op.Rename from to)).0 ≡ Ok [] = rw moves_on refl in
        clash f t _ (sym e ∙ (run_on (suc n) (Clears to) (moves from to) [] s caller ok ∙ run_end n (moves from to) (call_of s caller (op.Delete to)).1 caller ok_then))
    by (Some g) is =
        let made : call_of s caller (op.Delete to) ≡ (Err g, s) = rw is refl in
        by_missing g (is_missing g) (stepped (suc n) (Clears to) (moves from to ∷ []) s caller _ made)

-- the faults that the namespace has not
is_named : CommitFault → Bool
is_named (fault.Names f) = true
is_named fault.NoMemory = true
is_named fault.OutputMissing = false
is_named fault.WrongLength = false
is_named fault.DestinationExists = false
is_named fault.WrongAnswer = false
is_named fault.Over = false

named : (g : NameFault) → is_named (fault_of g) ≡ true
unfolding is_named
named names.NoMemory = refl
named (names.Superseded fence) = refl
named names.Barred = refl
named names.Missing = refl
named names.Exists = refl
named names.NotDir = refl
named names.NotFile = refl
named names.Closed = refl
named names.NoParent = refl
named names.IntoItself = refl
named names.Full = refl

-- ---- the law

-- what is at a committed path takes the place of what generation k committed
took_over : (j n : ℕ) (dest : List (List ℕ)) (k : ℕ) (task : TaskId) (bytes : Option ℕ) (s t : State) (caller : Caller) → IsTree s.content → IsNewest dest k task s.content j → HasLength bytes (part_file dest j task s.content)
    → run (suc (suc n)) (Clears (committed dest k task) ∷ moves (committed dest j task) (committed dest k task) ∷ []) s caller ≡ (Ok tt, t)
    → IsRecovered dest k j task bytes s.content t.content × (t.fence ≡ s.fence) × (t.barred ≡ s.barred)
took_over j n dest k task bytes s t caller tree new len e =
    let from = committed dest j task in
    let to = committed dest k task in
    let u = (call_of s caller (op.Delete to)).1 in
    let lower = new.earlier in
    let first = passed (suc n) (Clears to) (moves from to ∷ []) s t caller refl e in
    let e1 = sym (run_on (suc n) (Clears to) (moves from to) [] s caller first) ∙ e in
    let second = passed n (moves from to) [] u t caller refl e1 in
    let is : t ≡ (call_of u caller (op.Rename from to)).1 = ap (λ p. p.1) (sym e1 ∙ run_end n (moves from to) u caller second) in
    let done : Replaced from to s.content t.content = replacing from to s t caller tree (tasks_part dest k j task task (λ same. absurd (omega arith))) (not_refused u caller (op.Rename from to) second) is in (
      record { held = done.held; gone = done.gone; others = done.others; measured = subst (HasLength bytes) (sym (done.held (part task.number ∷ []))) len },
      ap (λ z. z.fence) is ∙ fence_stays u caller (op.Rename from to) ∙ fence_stays s caller (op.Delete to),
      ap (λ z. z.barred) is ∙ others_bar_none u caller (op.Rename from to) refl ∙ others_bar_none s caller (op.Delete to) refl,
    )

not_over : (j n : ℕ) (dest : List (List ℕ)) (k : ℕ) (task : TaskId) (s t : State) (caller : Caller) (f : CommitFault) → IsTree s.content → IsNewest dest k task s.content j
    → run (suc (suc n)) (Clears (committed dest k task) ∷ moves (committed dest j task) (committed dest k task) ∷ []) s caller ≡ (Err f, t) → Untouched s f t
not_over j n dest k task s t caller f tree new e =
    let lower = new.earlier in
    not_taken n (committed dest j task) (committed dest k task) (job_attempt dest k) (task_text task) s t caller f tree (tasks_part dest k j task task (λ same. absurd (omega arith))) (committed_is dest k task) new.found e

-- no fault of the namespace
none_named : {A : Type 0} (f : CommitFault) (s t : State) → is_named f ≡ false → Untouched s f t → A
none_named f s t out (same, g, is) = absurd (true≢false (sym (named g) ∙ ap is_named (sym is) ∙ out))

fault_is : (f g : CommitFault) (s t : State) → faulted_by f s ≡ faulted_by g t → (t ≡ s) × (g ≡ f)
fault_is f g s t e =
    let told : failed_of f ≡ failed_of g = ap (λ p. p.0) e in
    let one : f ≡ g = cc in
    (sym (ap (λ p. p.1) e), sym one)

pub task_recovers : TasksRecover
unfolding is_named
task_recovers dest k task bytes s t caller tree = record {
  taken = taken (outcome_of dest k task bytes s caller);
  missing = missing (outcome_of dest k task bytes s caller);
  wrong = wrong (outcome_of dest k task bytes s caller);
  unheard = λ why more e. superseded dest k task bytes s caller why more e;
  faults = λ f. faults f (outcome_of dest k task bytes s caller);
}
  where
    taken : {x : Ended} → Outcome dest k task bytes s caller x → x ≡ (Ok tt, t) → (j : ℕ) × IsNewest dest k task s.content j × IsRecovered dest k j task bytes s.content t.content × (t.fence ≡ s.fence) × (t.barred ≡ s.barred)
    taken (nothing all is) e = clash fault.OutputMissing s t (sym is ∙ e)
    taken (unheard_for why is) e = clash (fault.Names why) s t (sym is ∙ e)
    taken (lacks j new lacking is) e = clash fault.OutputMissing s t (sym is ∙ e)
    taken (other j new lacking is) e = clash fault.WrongLength s t (sym is ∙ e)
    taken (takes j n new len is) e = let all = took_over j n dest k task bytes s t caller tree new len (sym is ∙ e) in (j, new, all.0, all.1, all.2)

    missing : {x : Ended} → Outcome dest k task bytes s caller x → x ≡ (Err fault.OutputMissing, t) → NoneEarlier dest k task s.content ⊎ ((j : ℕ) × IsNewest dest k task s.content j × LacksFile bytes (part_file dest j task s.content))
    missing (nothing all is) e = inl all
    missing (unheard_for why is) e = let bad = (fault_is _ _ s t (sym is ∙ e)).1 in absurd cc
    missing (lacks j new lacking is) e = inr (j, new, lacking)
    missing (other j new lacking is) e = let bad = (fault_is _ _ s t (sym is ∙ e)).1 in absurd cc
    missing (takes j n new len is) e = none_named fault.OutputMissing s t refl (not_over j n dest k task s t caller fault.OutputMissing tree new (sym is ∙ e))

    wrong : {x : Ended} → Outcome dest k task bytes s caller x → x ≡ (Err fault.WrongLength, t) → (j : ℕ) × IsNewest dest k task s.content j × HasOtherLength bytes (part_file dest j task s.content)
    wrong (nothing all is) e = let bad = (fault_is _ _ s t (sym is ∙ e)).1 in absurd cc
    wrong (unheard_for why is) e = let bad = (fault_is _ _ s t (sym is ∙ e)).1 in absurd cc
    wrong (lacks j new lacking is) e = let bad = (fault_is _ _ s t (sym is ∙ e)).1 in absurd cc
    wrong (other j new lacking is) e = (j, new, lacking)
    wrong (takes j n new len is) e = none_named fault.WrongLength s t refl (not_over j n dest k task s t caller fault.WrongLength tree new (sym is ∙ e))

    faults : (f : CommitFault) {x : Ended} → Outcome dest k task bytes s caller x → x ≡ (Err f, t) → t ≡ s
    faults f (nothing all is) e = (fault_is _ f s t (sym is ∙ e)).0
    faults f (unheard_for why is) e = (fault_is _ f s t (sym is ∙ e)).0
    faults f (lacks j new lacking is) e = (fault_is _ f s t (sym is ∙ e)).0
    faults f (other j new lacking is) e = (fault_is _ f s t (sym is ∙ e)).0
    faults f (takes j n new len is) e = (not_over j n dest k task s t caller f tree new (sym is ∙ e)).0
