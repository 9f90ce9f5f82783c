-- Each step that is not the last leaves fewer calls to be made.
use Rattle.std.proofs.Common.{◌≡◌, ◌≤◌, ◌<◌, ℕ, suc, ◌+◌, ◌-◌, ◌*◌, Bool, true, false, cond, List, [], ◌∷◌, ◌++◌, length, map, filter, refl, sym, ap, subst, ◌∙◌, Option, Some, None, is_some, is_none, Result, Ok, Err, ◌&&◌, nat_lt, ◌==◌, if◌then◌else◌, arith, length-append, ◌⊎◌, inl, inr}
use Rattle.std.proofs.lemmas.Nat.{mul-le}
use Rattle.std.proofs.Math.Nat.{suc-mul, zero-mul}
use Rattle.std.proofs.lemmas.Bool.{ltb-true}
use Rattle.mr_ids.specs.declared.id.TaskId.{TaskId}
use Rattle.mr_ids.specs.Text.{numeral, task_text}
use Rattle.mr_paths.specs.Layout.{committed, temporary_name}
use Rattle.mr_names.specs.declared.op.Caller.{Caller}
use Rattle.mr_names.specs.declared.fault.NameFault.{NameFault}
use Rattle.mr_names.specs.declared.fault.NameFault.TheVariants as names
use Rattle.mr_names_tree.specs.declared.node.Kind.{Kind}
use Rattle.mr_names_tree.specs.declared.node.Kind.TheVariants as kind
use Rattle.mr_names_tree.specs.declared.node.Entry.{Entry}
use Rattle.mr_names_tree.specs.declared.node.Node.{Node}
use Rattle.mr_names.specs.declared.op.Op.{Op}
use Rattle.mr_names.specs.declared.op.Op.TheVariants as op
use Rattle.mr_names.specs.declared.op.Answer.{Answer}
use Rattle.mr_names_tree.specs.Content.{Content}
use Rattle.mr_names.proofs.TreeLaws.{past_caller}
use Rattle.mr_names_tree.specs.Held.{node_at, is_file}
use Rattle.mr_names_tree.specs.Listing.{children}
use Rattle.mr_names.specs.Calls.{State, refused, settled, call_of, answer}
use Rattle.mr_commit.specs.declared.fault.CommitFault.{CommitFault}
use Rattle.mr_commit.specs.declared.fault.CommitFault.TheVariants as fault
use Rattle.mr_commit.specs.declared.fault.StepDone.{StepDone}
use Rattle.mr_commit.specs.declared.fault.StepDone.TheVariants as done
use Rattle.mr_commit.specs.Line.{Line, op_of, is_answer_to, replaced, measured, bytes_read, found, listed, merging, merging_child, merging_task, is_task, needed, fault_of, fault_at, before, older, taking_over, sought}
use Rattle.mr_commit.specs.Line.Line.{Does, Clears, Needs, Merges, MergesEach, MergesTasks, Seeks, Measures}
use Rattle.mr_commit.specs.Steps.{after, step_of}
use Rattle.mr_commit.specs.Settles.{is_single, AllSingle, RaisesBy, Raises, Settles}
use Rattle.mr_commit.specs.CommitterEffect.{merge_calls, line_calls, most_calls}
use Rattle.mr_commit.proofs.Bounds.{Bounded, stays_bounded, few_children}

abbrev pub AllRaise : List Line → Type 0
AllRaise [] = Unit {0}
AllRaise (line ∷ rest) = Raises line × AllRaise rest

-- the lines that follow a line, and fewer calls
pub record Follow (entries depth : ℕ) (line : Line) (new : List Line) : Type 0 where
  pub raise : AllRaise new
  pub fewer : most_calls entries depth new < line_calls entries depth line

-- ---- the lines that follow

abbrev lines_ok : List Line → Result (List Line) CommitFault
lines_ok new = Ok new

abbrev calls_ok : Answer → Result Answer NameFault
calls_ok a = Ok a

abbrev calls_err : NameFault → Result Answer NameFault
calls_err f = Err f

abbrev lines_err : CommitFault → Result (List Line) CommitFault
lines_err f = Err f

ok_is : (x y : List Line) → lines_ok x ≡ lines_ok y → x ≡ y
ok_is x y e = cc

err_not : {B : Type 0} (f : CommitFault) (x : List Line) → lines_err f ≡ lines_ok x → B
err_not f x e = cc

no_lines : (f : CommitFault) (b : Bool) (new : List Line) → (if b then Ok [] else Err f) ≡ Ok new → new ≡ []
no_lines f true new e = sym (ok_is [] new e)
no_lines f false new e = err_not f new e

none_measured : (b : Bool) (new : List Line) → (if b then Ok [] else Err fault.WrongLength) ≡ Ok new → new ≡ []
none_measured b new e = no_lines fault.WrongLength b new e

none_needed : (o : Option Kind) (new : List Line) → needed o ≡ Ok new → new ≡ []
none_needed None new e = err_not _ new e
none_needed (Some k) new e = sym (ok_is [] new e)

-- an answer that is believed is one of its call
on_kind : {B : Type 0} (b : Bool) (lines : Result (List Line) CommitFault) (new : List Line) → (if b then lines else Err fault.WrongAnswer) ≡ lines_ok new → (lines ≡ lines_ok new → B) → B
on_kind true lines new e on = on e
on_kind false lines new e on = err_not fault.WrongAnswer new e

pub single : (line : Line) (r : Result Answer NameFault) (new : List Line) → is_single line ≡ true → replaced line r ≡ Ok new → new ≡ []
single (Does call) (Ok a) new k e = on_kind _ _ new e (λ e. sym (ok_is [] new e))
single (Clears path) (Ok a) new k e = on_kind _ _ new e (λ e. sym (ok_is [] new e))
single (Needs path) (Ok a) new k e = on_kind _ _ new e (λ e. none_needed (found a) new e)
single (Does call) (Err f) new k e = no_lines (fault_of f) _ new e
single (Clears path) (Err f) new k e = no_lines (fault_of f) _ new e
single (Needs path) (Err f) new k e = no_lines (fault_of f) _ new e
single (Measures path n) (Ok a) new k e = on_kind (is_answer_to (op.Read path) a) (measured n (bytes_read a)) new e (λ e. none_measured (length (bytes_read a) == n) new e)
single (Measures path n) (Err f) new k e = no_lines (fault_at (Measures path n) f) _ new e
single (Seeks dest task bytes to j) r new k e = absurd cc
single (Merges taken from to) r new k e = absurd cc
single (MergesEach from to) r new k e = absurd cc
single (MergesTasks from to) r new k e = absurd cc

deeper : (depth : ℕ) (path : List (List ℕ)) (name : List ℕ) → suc depth - length (path ++ name ∷ []) ≡ depth - length path
deeper depth path name = omega (arith, length-append path (name ∷ []))

one_more_times : (n x : ℕ) → suc n * x ≡ x + n * x
one_more_times n x = omega (arith, suc-mul n x)

pub children_calls : (entries depth : ℕ) (from to : List (List ℕ)) (es : List Entry) → most_calls entries depth (map (merging_child from to) es) ≡ length es * (3 + merge_calls entries (depth - length from))
unfolding most_calls
children_calls entries depth from to [] = sym (zero-mul (3 + merge_calls entries (depth - length from)))
children_calls entries depth from to (e ∷ es) =
    let here = deeper depth from e.name in
    let more = children_calls entries depth from to es in
    rw (here, more) (sym (one_more_times (length es) (3 + merge_calls entries (depth - length from))))

pub tasks_calls : (entries depth : ℕ) (from to : List (List ℕ)) (es : List Entry) → most_calls entries depth (map (merging_task from to) es) ≡ length es * (3 + merge_calls entries (depth - length from))
unfolding most_calls
tasks_calls entries depth from to [] = sym (zero-mul (3 + merge_calls entries (depth - length from)))
tasks_calls entries depth from to (e ∷ es) =
    let here = deeper depth from e.name in
    let more = tasks_calls entries depth from to es in
    rw (here, more) (sym (one_more_times (length es) (3 + merge_calls entries (depth - length from))))

pub children_raise : (from to : List (List ℕ)) (es : List Entry) → length to ≤ length from → AllRaise (map (merging_child from to) es)
children_raise from to [] h = tt
children_raise from to (e ∷ es) h = (omega (arith, length-append from (e.name ∷ []), length-append to (e.name ∷ [])), children_raise from to es h)

pub tasks_raise : (from to : List (List ℕ)) (es : List Entry) → length to ≤ length from → AllRaise (map (merging_task from to) es)
tasks_raise from to [] h = tt
tasks_raise from to (e ∷ es) h = (omega (arith, length-append from (e.name ∷ [])), tasks_raise from to es h)

-- a directory that is there is no longer than the longest path, so that its children's merges are fewer calls
pub fewer_below : (entries depth count : ℕ) (from : List (List ℕ)) → length from ≤ depth → count ≤ entries → count * (3 + merge_calls entries (depth - length from)) < merge_calls entries (suc depth - length from)
unfolding merge_calls
fewer_below entries depth count from h few =
    let level : suc depth - length from ≡ suc (depth - length from) = omega arith in
    let times = mul-le count (3 + merge_calls entries (depth - length from)) entries (3 + merge_calls entries (depth - length from)) few (omega arith) in
    rw level (omega arith)

pub length_kept : (p : Entry → Bool) (es : List Entry) → length (filter p es) ≤ length es
length_kept p [] = omega arith
length_kept p (e ∷ es) = by (p e) (length_kept p es)
  where
    by : (b : Bool) → length (filter p es) ≤ length es → length (cond b (e ∷ filter p es) (filter p es)) ≤ suc (length es)
    by true h = omega arith
    by false h = omega arith

pub merging_follows : (entries depth : ℕ) (taken : Kind) (from to : List (List ℕ)) (there : Option Kind) → length to ≤ length from → Follow entries depth (Merges taken from to) (merging taken from to there)
unfolding most_calls
merging_follows entries depth taken from to None h = record { raise = (h, tt); fewer = omega arith }
merging_follows entries depth kind.Dir from to (Some kind.Dir) h = record { raise = (h, tt); fewer = omega arith }
merging_follows entries depth kind.Dir from to (Some kind.File) h = record { raise = (tt, (h, tt)); fewer = omega arith }
merging_follows entries depth kind.File from to (Some there) h = record { raise = (tt, (h, tt)); fewer = omega arith }

-- what a directory lists is there
listed_there : (s : State) (caller : Caller) (path : List (List ℕ)) (a : Answer) (t : State) → call_of s caller (op.List path) ≡ (Ok a, t) → (is_some (node_at s.content path) ≡ true) × (a ≡ answer s.content (op.List path))
listed_there s caller path a t e = by (refused s caller (op.List path)) refl e
  where
    at : (o : Option Node) → (if is_none o then Some names.Missing else (if is_file o then Some names.NotDir else None)) ≡ None → is_some o ≡ true
    at None k = cc
    at (Some n) k = refl

    by : (o : Option NameFault) → refused s caller (op.List path) ≡ o → settled o s (op.List path) ≡ (Ok a, t) → (is_some (node_at s.content path) ≡ true) × (a ≡ answer s.content (op.List path))
    by None passed h = (at (node_at s.content path) (past_caller s caller (op.List path) passed), let y : calls_ok (answer s.content (op.List path)) ≡ calls_ok a = ap (λ p. p.0) h in cc)
    by (Some f) is h = let y : calls_err f ≡ calls_ok a = ap (λ p. p.0) h in absurd cc

each_follows : (entries depth : ℕ) (from to : List (List ℕ)) (s : State) (caller : Caller) (r : Result Answer NameFault) (t : State) (new : List Line) → length to ≤ length from → Bounded entries depth s.content → call_of s caller (op.List from) ≡ (r, t) → replaced (MergesEach from to) r ≡ Ok new → Follow entries depth (MergesEach from to) new
each_follows entries depth from to s caller (Err f) t new h b e k = no_lines_left f _ new k
  where
    no_lines_left : (f : NameFault) (b : Bool) (new : List Line) → (if b && false then Ok [] else Err (fault_of f)) ≡ Ok new → Follow entries depth (MergesEach from to) new
    no_lines_left f true new e = err_not (fault_of f) new e
    no_lines_left f false new e = err_not (fault_of f) new e
each_follows entries depth from to s caller (Ok a) t new h b e k =
    let there = listed_there s caller from a t e in
    let short = b.shallow.within from there.0 in
    let few = few_children s.content from in
    let is : new ≡ map (merging_child from to) (children s.content from) = on_kind (is_answer_to (op.List from) a) (lines_ok (map (merging_child from to) (listed a))) new k (λ k. sym (ok_is (map (merging_child from to) (listed a)) new k)) ∙ ap (λ x. map (merging_child from to) (listed x)) there.1 in
    rw is (record {
      raise = children_raise from to (children s.content from) h;
      fewer = rw (children_calls entries depth from to (children s.content from)) (fewer_below entries depth (length (children s.content from)) from short (omega (arith, b.few)));
    })

tasks_follow : (entries depth : ℕ) (from to : List (List ℕ)) (s : State) (caller : Caller) (r : Result Answer NameFault) (t : State) (new : List Line) → length to ≤ length from → Bounded entries depth s.content → call_of s caller (op.List from) ≡ (r, t) → replaced (MergesTasks from to) r ≡ Ok new → Follow entries depth (MergesTasks from to) new
tasks_follow entries depth from to s caller (Err f) t new h b e k = no_lines_left f _ new k
  where
    no_lines_left : (f : NameFault) (b : Bool) (new : List Line) → (if b && false then Ok [] else Err (fault_of f)) ≡ Ok new → Follow entries depth (MergesTasks from to) new
    no_lines_left f true new e = err_not (fault_of f) new e
    no_lines_left f false new e = err_not (fault_of f) new e
tasks_follow entries depth from to s caller (Ok a) t new h b e k =
    let there = listed_there s caller from a t e in
    let short = b.shallow.within from there.0 in
    let few = few_children s.content from in
    let fewer_tasks = length_kept is_task (children s.content from) in
    let is : new ≡ map (merging_task from to) (filter is_task (children s.content from)) = on_kind (is_answer_to (op.List from) a) (lines_ok (map (merging_task from to) (filter is_task (listed a)))) new k (λ k. sym (ok_is (map (merging_task from to) (filter is_task (listed a))) new k)) ∙ ap (λ x. map (merging_task from to) (filter is_task (listed x))) there.1 in
    rw is (record {
      raise = tasks_raise from to (filter is_task (children s.content from)) h;
      fewer = rw (tasks_calls entries depth from to (filter is_task (children s.content from))) (fewer_below entries depth (length (filter is_task (children s.content from))) from short (omega (arith, b.few)));
    })

merge_follows : (entries depth : ℕ) (taken : Kind) (from to : List (List ℕ)) (r : Result Answer NameFault) (new : List Line) → length to ≤ length from → replaced (Merges taken from to) r ≡ Ok new → Follow entries depth (Merges taken from to) new
merge_follows entries depth taken from to (Ok a) new h k =
    let is : merging taken from to (found a) ≡ new = on_kind (is_answer_to (op.Exists to) a) (lines_ok (merging taken from to (found a))) new k (λ k. ok_is _ new k) in
    rw (sym is) (merging_follows entries depth taken from to (found a) h)
merge_follows entries depth taken from to (Err f) new h k = no_lines_left f _ new k
  where
    no_lines_left : (f : NameFault) (b : Bool) (new : List Line) → (if b && false then Ok [] else Err (fault_of f)) ≡ Ok new → Follow entries depth (Merges taken from to) new
    no_lines_left f true new e = err_not (fault_of f) new e
    no_lines_left f false new e = err_not (fault_of f) new e

none_follow : (entries depth : ℕ) (line : Line) (new : List Line) → is_single line ≡ true → new ≡ [] → Follow entries depth line new
unfolding most_calls
none_follow entries depth (Does call) new k e = rw e (record { raise = tt; fewer = omega arith })
none_follow entries depth (Clears path) new k e = rw e (record { raise = tt; fewer = omega arith })
none_follow entries depth (Needs path) new k e = rw e (record { raise = tt; fewer = omega arith })
none_follow entries depth (Measures path n) new k e = rw e (record { raise = tt; fewer = omega arith })
none_follow entries depth (Seeks dest task bytes to j) new k e = absurd cc
none_follow entries depth (Merges taken from to) new k e = absurd cc
none_follow entries depth (MergesEach from to) new k e = absurd cc
none_follow entries depth (MergesTasks from to) new k e = absurd cc

-- the generation before is a lesser number
before_less : (j i : ℕ) → before j ≡ Some i → i < j
before_less j i e = by (nat_lt 1 j) refl e
  where
    by : (b : Bool) → nat_lt 1 j ≡ b → (if b then Some (j - 1) else None) ≡ Some i → i < j
    by true high h = let is : j - 1 ≡ i = cc in let more = ltb-true 1 j high in omega arith
    by false high h = absurd cc

one_length : (dest : List (List ℕ)) (task : TaskId) (k j : ℕ) → length (committed dest k task) ≤ length (committed dest j task)
unfolding committed
one_length dest task k j = omega (arith, length-append dest (temporary_name ∷ numeral 1 k ∷ task_text task ∷ []), length-append dest (temporary_name ∷ numeral 1 j ∷ task_text task ∷ []))

taken_follow : (entries depth : ℕ) (dest : List (List ℕ)) (task : TaskId) (bytes : Option ℕ) (k j : ℕ) → Follow entries depth (Seeks dest task bytes k j) (taking_over dest task bytes k j)
unfolding most_calls
taken_follow entries depth dest task None k j = record { raise = (tt, (one_length dest task k j, tt)); fewer = omega arith }
taken_follow entries depth dest task (Some n) k j = record { raise = (tt, (tt, (one_length dest task k j, tt))); fewer = omega arith }

older_follow : (entries depth : ℕ) (dest : List (List ℕ)) (task : TaskId) (bytes : Option ℕ) (k j i : ℕ) → i < j → Follow entries depth (Seeks dest task bytes k j) (Seeks dest task bytes k i ∷ [])
unfolding most_calls
older_follow entries depth dest task bytes k j i less = record { raise = (tt, tt); fewer = omega arith }

seek_follows : (entries depth : ℕ) (dest : List (List ℕ)) (task : TaskId) (bytes : Option ℕ) (k j : ℕ) (r : Result Answer NameFault) (new : List Line) → replaced (Seeks dest task bytes k j) r ≡ Ok new → Follow entries depth (Seeks dest task bytes k j) new
seek_follows entries depth dest task bytes k j (Ok a) new e = on_kind _ _ new e (λ e. by (found a) e)
  where
    on : (o : Option ℕ) → before j ≡ o → older dest task bytes k o ≡ Ok new → Follow entries depth (Seeks dest task bytes k j) new
    on None is h = err_not _ new h
    on (Some i) is h = rw (sym (ok_is _ new h)) (older_follow entries depth dest task bytes k j i (before_less j i is))

    by : (o : Option Kind) → sought dest task bytes k j o ≡ Ok new → Follow entries depth (Seeks dest task bytes k j) new
    by None h = on (before j) refl h
    by (Some there) h = rw (sym (ok_is _ new h)) (taken_follow entries depth dest task bytes k j)
seek_follows entries depth dest task bytes k j (Err f) new e = no_lines_left f _ new e
  where
    no_lines_left : (f : NameFault) (b : Bool) (new : List Line) → (if b && false then Ok [] else Err (fault_of f)) ≡ Ok new → Follow entries depth (Seeks dest task bytes k j) new
    no_lines_left f true new e = err_not (fault_of f) new e
    no_lines_left f false new e = err_not (fault_of f) new e

line_follows : (entries depth : ℕ) (line : Line) (s : State) (caller : Caller) (new : List Line) → Raises line → Bounded entries depth s.content → replaced line (call_of s caller (op_of line)).0 ≡ Ok new → Follow entries depth line new
line_follows entries depth (Does call) s caller new r b k = none_follow entries depth (Does call) new refl (single (Does call) _ new refl k)
line_follows entries depth (Clears path) s caller new r b k = none_follow entries depth (Clears path) new refl (single (Clears path) _ new refl k)
line_follows entries depth (Needs path) s caller new r b k = none_follow entries depth (Needs path) new refl (single (Needs path) _ new refl k)
line_follows entries depth (Measures path n) s caller new r b k = none_follow entries depth (Measures path n) new refl (single (Measures path n) _ new refl k)
line_follows entries depth (Seeks dest task bytes to j) s caller new r b k = seek_follows entries depth dest task bytes to j _ new k
line_follows entries depth (Merges taken from to) s caller new r b k = merge_follows entries depth taken from to _ new r k
line_follows entries depth (MergesEach from to) s caller new r b k = each_follows entries depth from to s caller _ _ new r b refl k
line_follows entries depth (MergesTasks from to) s caller new r b k = tasks_follow entries depth from to s caller _ _ new r b refl k

-- ---- a step

-- either lines of one call each are left, or lines that raise, over a content within bounds
abbrev pub Fine : ℕ → ℕ → List Line → Content → Type 0
Fine entries depth lines c = AllSingle lines ⊎ (Settles lines × Bounded entries depth c)

settles_after : (new rest : List Line) → AllRaise new → Settles rest → Settles (new ++ rest)
settles_after [] rest r h = h
settles_after (line ∷ new) rest r h = inr (r.0, settles_after new rest r.1 h)

calls_after : (entries depth : ℕ) (new rest : List Line) → most_calls entries depth (new ++ rest) ≡ most_calls entries depth new + most_calls entries depth rest
unfolding most_calls
calls_after entries depth [] rest = omega arith
calls_after entries depth (line ∷ new) rest = let more = calls_after entries depth new rest in omega arith

raises_call : (line : Line) → Raises line → RaisesBy (op_of line)
raises_call (Does call) r = r
raises_call (Clears path) r = tt
raises_call (Needs path) r = tt
raises_call (Merges taken from to) r = tt
raises_call (MergesEach from to) r = tt
raises_call (MergesTasks from to) r = tt
raises_call (Seeks dest task bytes k j) r = tt
raises_call (Measures path n) r = tt

bounded_after : (entries depth : ℕ) (s : State) (caller : Caller) (call : Op) → RaisesBy call → Bounded entries depth s.content → Bounded entries depth (call_of s caller call).1.content
bounded_after entries depth s caller call r b = by (refused s caller call)
  where
    by : (o : Option NameFault) → Bounded entries depth (settled o s call).1.content
    by None = stays_bounded entries depth s.content call r b
    by (Some f) = b

abbrev more_of : StepDone → Result StepDone CommitFault
more_of d = Ok d

abbrev ends_of : CommitFault → Result StepDone CommitFault
ends_of f = Err f

-- what is left after a step that was not the last
left_by : (line : Line) (rest left : List Line) (x : Result (List Line) CommitFault) → after line rest x ≡ (Ok done.More, left) → (new : List Line) × (x ≡ Ok new) × (left ≡ new ++ rest)
left_by line rest left (Ok new) e = (new, refl, sym (ap (λ p. p.1) e))
left_by line rest left (Err (fault.Names f)) e = let y : ends_of (fault.Names f) ≡ more_of done.More = ap (λ p. p.0) e in absurd cc
left_by line rest left (Err fault.OutputMissing) e = let y : ends_of fault.OutputMissing ≡ more_of done.More = ap (λ p. p.0) e in absurd cc
left_by line rest left (Err fault.WrongLength) e = let y : ends_of fault.WrongLength ≡ more_of done.More = ap (λ p. p.0) e in absurd cc
left_by line rest left (Err fault.DestinationExists) e = let y : ends_of fault.DestinationExists ≡ more_of done.More = ap (λ p. p.0) e in absurd cc
left_by line rest left (Err fault.WrongAnswer) e = let y : ends_of fault.WrongAnswer ≡ more_of done.More = ap (λ p. p.0) e in absurd cc
left_by line rest left (Err fault.Over) e = let y : ends_of fault.Over ≡ more_of done.More = ap (λ p. p.0) e in absurd cc
left_by line rest left (Err fault.NoMemory) e = let y : ends_of fault.NoMemory ≡ more_of done.More = ap (λ p. p.0) e in absurd cc

pub record Less (entries depth : ℕ) (lines left : List Line) (t : State) : Type 0 where
  pub fine : Fine entries depth left t.content
  pub fewer : most_calls entries depth left < most_calls entries depth lines

pub step_more : (entries depth : ℕ) (lines left : List Line) (s t : State) (caller : Caller) → Fine entries depth lines s.content → step_of lines s caller ≡ ((Ok done.More, left), t) → Less entries depth lines left t
unfolding most_calls
step_more entries depth [] left s t caller fine e = let y : ends_of fault.Over ≡ more_of done.More = ap (λ p. p.0.0) e in absurd cc
step_more entries depth (line ∷ rest) left s t caller fine e =
    let b = left_by line rest left _ (ap (λ p. p.0) e) in
    let here : (call_of s caller (op_of line)).1 ≡ t = ap (λ p. p.1) e in
    rw b.2 (by fine b.0 b.1 here)
  where
    ones : (new : List Line) → AllSingle (line ∷ rest) → replaced line (call_of s caller (op_of line)).0 ≡ Ok new → Less entries depth (line ∷ rest) (new ++ rest) t
    ones new h k =
        let none = single line _ new h.0 k in
        let follow = (none_follow entries depth line new h.0 none).fewer in
        record { fine = rw none (inl h.1); fewer = rw (calls_after entries depth new rest) (omega arith) }

    by : Fine entries depth (line ∷ rest) s.content → (new : List Line) → replaced line (call_of s caller (op_of line)).0 ≡ Ok new → (call_of s caller (op_of line)).1 ≡ t → Less entries depth (line ∷ rest) (new ++ rest) t
    by (inl h) new k here = ones new h k
    by (inr h) new k here = cases h.0
      where
        cases : Settles (line ∷ rest) → Less entries depth (line ∷ rest) (new ++ rest) t
        cases (inl one) = ones new one k
        cases (inr r) =
            let follow = line_follows entries depth line s caller new r.0 h.1 k in
            let fewer = follow.fewer in
            record {
              fine = inr (settles_after new rest follow.raise r.1, subst (λ u. Bounded entries depth u.content) here (bounded_after entries depth s caller (op_of line) (raises_call line r.0) h.1));
              fewer = rw (calls_after entries depth new rest) (omega arith);
            }
