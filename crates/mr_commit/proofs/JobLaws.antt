-- What a job's commit leaves.
use Rattle.std.proofs.Common.{◌≡◌, ◌≢◌, ◌⊎◌, inl, inr, ℕ, zero, suc, Bool, true, false, not, cond, ◌&&◌, List, [], ◌∷◌, ◌++◌, map, filter, refl, sym, ap, subst, ◌∙◌, Option, Some, None, is_some, Result, Ok, Err, if◌then◌else◌, nat_eq, Less, Equal, append_assoc, append-nil, true≢false, ⊎_elim}
use Rattle.std.specs.Option.{option_map}
use Rattle.std.specs.Ordering.{nat_cmp}
use Rattle.std.specs.List.{AllByRecursion}
use Rattle.std.specs.List.Sorted.{IsStrictlySortedBy}
use Rattle.std.specs.Cmp.{tied_itself}
use Rattle.std.specs.Cmp.Lexicographic.{pointwise, slice_cmp, same_text, nat_list_eq_equiv, nat_list_cmp_total}
use Rattle.mr_ids.specs.Text.{numeral}
use Rattle.mr_paths.specs.Path.{strip}
use Rattle.mr_paths.specs.Layout.{temporary_name, temporary, job_attempt, marker}
use Rattle.mr_paths.proofs.Paths.{strip-append, append-strip}
use Rattle.mr_paths.proofs.Apart.{temporary_and_marker_part}
use Rattle.mr_names_tree.specs.declared.node.Node.{Node}
use Rattle.mr_names_tree.specs.declared.node.Node.TheVariants.{Dir, File}
use Rattle.mr_names_tree.specs.declared.node.Kind.{Kind}
use Rattle.mr_names_tree.specs.declared.node.Kind.TheVariants as kind
use Rattle.mr_names_tree.specs.declared.node.Entry.{Entry}
use Rattle.mr_names.specs.declared.op.Caller.{Caller}
use Rattle.mr_names.specs.declared.fault.NameFault.{NameFault}
use Rattle.mr_names.specs.declared.op.Op.{Op}
use Rattle.mr_names.specs.declared.op.Op.TheVariants as op
use Rattle.mr_names_tree.specs.Node.{kind_of}
use Rattle.mr_names_tree.specs.Content.{Content, IsTree, is_path, within}
use Rattle.mr_names_tree.specs.Held.{node_at, is_present, is_file}
use Rattle.mr_names_tree.specs.Listing.{children}
use Rattle.mr_names.specs.Laws.{kind_listed, MayCreate, MayRename}
use Rattle.mr_names.specs.Calls.{State, refusal, refused, settled, call_of, effect, answer}
use Rattle.mr_names.proofs.CallLaws.{is_path-same, others_stay, renamed_there, created_there, answered_only, nothing_beneath, files_are_leaves}
use Rattle.mr_names.proofs.CallerLaws.{tree_stays, fence_stays, others_bar_none}
use Rattle.mr_names_tree.proofs.ContentLaws.{above_is_dir}
use Rattle.mr_names_tree.proofs.ListingLaws.{lists_children, lists_in_order}
use Rattle.mr_names.proofs.TreeLaws.{past_caller}
use Rattle.mr_commit.specs.declared.fault.CommitFault.{CommitFault}
use Rattle.mr_commit.specs.declared.fault.CommitFault.TheVariants as fault
use Rattle.mr_commit.specs.Line.{Line, op_of, replaced, answered, passes_missing, fault_at, is_missing, is_task, merging, merging_child, merging_task, moves}
use Rattle.mr_commit.specs.Line.Line.{Does, Clears, Merges, MergesEach, MergesTasks}
use Rattle.mr_commit.specs.Steps.{after, done_at}
use Rattle.mr_commit.specs.Tables.{commit_job}
use Rattle.mr_commit.specs.CommitterEffect.{going_on, run, most_calls}
use Rattle.mr_commit.specs.Laws.{IsTaskEntry, IsTaskFile, AreTaskFiles, IsPublished, JobCommits}
use Rattle.mr_commit.proofs.Calls.{answers_own_call}
use Rattle.mr_commit.proofs.Ending.{single}
use Rattle.mr_commit.proofs.JobPaths.{apart_within, work_and_named, temporary_and_named, entries_part, work_is, out_of_work, last_name}
use Rattle.mr_commit.proofs.TaskLaws.{lines_of, failed, clash, looked, cleared, made}
use Rattle.mr_commit.proofs.AbortLaws.{cleared_there}

-- ---- runs that were answered

-- the lines that are left were all answered
abbrev Ran : Caller → List Line → State → State → Type 0
Ran caller [] s t = t ≡ s
Ran caller (line ∷ rest) s t = (n : ℕ) × (run n (line ∷ rest) s caller ≡ (Ok tt, t))

-- the first of them was
record Went (caller : Caller) (line : Line) (rest : List Line) (s t : State) : Type 0 where
  new : List Line
  heard : replaced line (call_of s caller (op_of line)).0 ≡ Ok new
  on : Ran caller (new ++ rest) (call_of s caller (op_of line)).1 t

goes : (caller : Caller) (line : Line) (rest : List Line) (s t : State) (n : ℕ) → run n (line ∷ rest) s caller ≡ (Ok tt, t) → Went caller line rest s t
unfolding run
goes caller line rest s t zero e = clash fault.Over s t e
goes caller line rest s t (suc n) e = by (replaced line (call_of s caller (op_of line)).0) refl e
  where
    u : State
    u = (call_of s caller (op_of line)).1

    on_to : (left : List Line) → going_on (Ok (done_at left)) left u (λ left u. run n left u caller) ≡ (Ok tt, t) → Ran caller left u t
    on_to [] h = sym (ap (λ p. p.1) h)
    on_to (next ∷ left) h = (n, h)

    by : (x : Result (List Line) CommitFault) → replaced line (call_of s caller (op_of line)).0 ≡ x → going_on (after line rest x).0 (after line rest x).1 u (λ left u. run n left u caller) ≡ (Ok tt, t) → Went caller line rest s t
    by (Ok new) k h = record { new = new; heard = k; on = on_to (new ++ rest) h }
    by (Err (fault.Names f)) k h = clash (fault.Names f) _ t h
    by (Err fault.OutputMissing) k h = clash fault.OutputMissing _ t h
    by (Err fault.WrongLength) k h = clash fault.WrongLength _ t h
    by (Err fault.DestinationExists) k h = clash fault.DestinationExists _ t h
    by (Err fault.WrongAnswer) k h = clash fault.WrongAnswer _ t h
    by (Err fault.Over) k h = clash fault.Over _ t h
    by (Err fault.NoMemory) k h = clash fault.NoMemory _ t h

-- ---- what each line's answer says

record Told (line : Line) (s : State) (caller : Caller) (new : List Line) : Type 0 where
  made_it : refused s caller (op_of line) ≡ None
  lines : answered line (answer s.content (op_of line)) ≡ Ok new

-- a line that passes no refusal was answered
told : (line : Line) (s : State) (caller : Caller) (new : List Line) → passes_missing line ≡ false → replaced line (call_of s caller (op_of line)).0 ≡ Ok new → Told line s caller new
told line s caller new strict e = by (refused s caller (op_of line)) refl e
  where
    bad : {A : Type 0} (f : NameFault) (b c : Bool) → c ≡ false → (if b && c then Ok [] else Err (fault_at line f)) ≡ lines_of new → A
    bad f true true k h = absurd (true≢false k)
    bad f true false k h = let y : failed (fault_at line f) ≡ lines_of new = h in absurd cc
    bad f false c k h = let y : failed (fault_at line f) ≡ lines_of new = h in absurd cc

    by : (o : Option NameFault) → refused s caller (op_of line) ≡ o → replaced line (settled o s (op_of line)).0 ≡ Ok new → Told line s caller new
    by None is h = record { made_it = is; lines = sym (ap (λ b. if b then answered line (answer s.content (op_of line)) else Err fault.WrongAnswer) (answers_own_call s.content (op_of line))) ∙ h }
    by (Some f) is h = bad f (is_missing f) (passes_missing line) strict h

lines_are : (a b : List Line) → lines_of a ≡ lines_of b → a ≡ b
lines_are a b e = cc

-- ---- one task's directory is merged

-- what a rename of a file leaves
record Moved (from to : List (List ℕ)) (before after : Content) : Type 0 where
  there : node_at after to ≡ node_at before from
  others : (q : List (List ℕ)) → within from q ≡ false → q ≢ to → node_at after q ≡ node_at before q

file_moved : (c : Content) (from to : List (List ℕ)) → IsTree c → is_file (node_at c from) ≡ true → refusal c (op.Rename from to) ≡ None → Moved from to c (effect c (op.Rename from to))
file_moved c from to tree file passed = record {
  there = ap (node_at (effect c (op.Rename from to))) (sym (append-nil to)) ∙ renamed_there c from to [] tree passed ∙ ap (node_at c) (append-nil from);
  others = λ q out other. by q (strip to q) refl out other;
}
  where
    may : MayRename c from to
    may = answered_only c (op.Rename from to) passed

    by : (q : List (List ℕ)) (o : Option (List (List ℕ))) → strip to q ≡ o → within from q ≡ false → q ≢ to → node_at (effect c (op.Rename from to)) q ≡ node_at c q
    by q None is out other = others_stay c (op.Rename from to) q (rw (out, is) refl)
    by q (Some []) is out other = absurd (other (append-strip to q [] is ∙ append-nil to))
    by q (Some (x ∷ rest)) is out other = ap (node_at (effect c (op.Rename from to))) (append-strip to q (x ∷ rest) is)
        ∙ renamed_there c from to (x ∷ rest) tree passed ∙ files_are_leaves c from rest x tree file
        ∙ sym (nothing_beneath c to (x ∷ rest) tree may.free) ∙ ap (node_at c) (sym (append-strip to q (x ∷ rest) is))

record Merged (caller : Caller) (from to : List (List ℕ)) (rest : List Line) (s t : State) : Type 0 where
  mid : State
  tree : IsTree mid.content
  moved : Moved from to s.content mid.content
  fence : mid.fence ≡ s.fence
  barred : mid.barred ≡ s.barred
  on : Ran caller rest mid t

-- the rename
renamed_on : (caller : Caller) (from to : List (List ℕ)) (rest : List Line) (s t : State) → IsTree s.content → is_file (node_at s.content from) ≡ true → Ran caller (moves from to ∷ rest) s t → Merged caller from to rest s t
renamed_on caller from to rest s t tree file (n, e) =
    let w : Went caller (moves from to) rest s t = goes caller (moves from to) rest s t n e in
    let h : Told (moves from to) s caller w.new = told (moves from to) s caller w.new refl w.heard in
    let none : w.new ≡ [] = single (moves from to) _ w.new refl w.heard in
    let content_is : (call_of s caller (op.Rename from to)).1.content ≡ effect s.content (op.Rename from to) = made s caller (op.Rename from to) h.made_it in
    record {
      mid = (call_of s caller (op.Rename from to)).1;
      tree = tree_stays s caller (op.Rename from to) tree;
      moved = subst (λ c. Moved from to s.content c) (sym content_is) (file_moved s.content from to tree file (past_caller s caller (op.Rename from to) h.made_it));
      fence = fence_stays s caller (op.Rename from to);
      barred = others_bar_none s caller (op.Rename from to) refl;
      on = subst (λ new. Ran caller (new ++ rest) (call_of s caller (op.Rename from to)).1 t) none w.on;
    }

listing : (s : State) (caller : Caller) (path : List (List ℕ)) → (call_of s caller (op.List path)).1 ≡ s
listing s caller path = by (refused s caller (op.List path))
  where
    by : (o : Option NameFault) → (settled o s (op.List path)).1 ≡ s
    by None = refl
    by (Some f) = refl

-- a line that looks: what comes after it
after_look : (caller : Caller) (line : Line) (rest new : List Line) (s t : State) → passes_missing line ≡ false → (call_of s caller (op_of line)).1 ≡ s → answered line (answer s.content (op_of line)) ≡ Ok new → Ran caller (line ∷ rest) s t → Ran caller (new ++ rest) s t
after_look caller line rest new s t strict stays is (n, e) =
    let w : Went caller line rest s t = goes caller line rest s t n e in
    let h : Told line s caller w.new = told line s caller w.new strict w.heard in
    let same : w.new ≡ new = lines_are w.new new (sym h.lines ∙ is) in
    subst (λ u. Ran caller (new ++ rest) u t) stays (subst (λ left. Ran caller (left ++ rest) (call_of s caller (op_of line)).1 t) same w.on)

abbrev file_entry : List ℕ → Entry
file_entry name = record { name = name; kind = kind.File }

-- a directory of one file onto a directory that has nothing of its name
task_merged : (caller : Caller) (from dest : List (List ℕ)) (name : List ℕ) (rest : List Line) (s t : State) → IsTree s.content → node_at s.content dest ≡ Some Dir
    → children s.content from ≡ file_entry name ∷ [] → is_file (node_at s.content (from ++ name ∷ [])) ≡ true → node_at s.content (dest ++ name ∷ []) ≡ None
    → Ran caller (Merges kind.Dir from dest ∷ rest) s t → Merged caller (from ++ name ∷ []) (dest ++ name ∷ []) rest s t
task_merged caller from dest name rest s t tree dir one file free e =
    let e1 = after_look caller (Merges kind.Dir from dest) rest (MergesEach from dest ∷ []) s t refl (looked s caller dest) (ap (λ o. lines_of (merging kind.Dir from dest (option_map kind_of o))) dir) e in
    let e2 = after_look caller (MergesEach from dest) rest (Merges kind.File (from ++ name ∷ []) (dest ++ name ∷ []) ∷ []) s t refl (listing s caller from) (ap (λ es. lines_of (map (merging_child from dest) es)) one) e1 in
    let e3 = after_look caller (Merges kind.File (from ++ name ∷ []) (dest ++ name ∷ [])) rest (moves (from ++ name ∷ []) (dest ++ name ∷ []) ∷ []) s t refl (looked s caller (dest ++ name ∷ [])) (ap (λ o. lines_of (merging kind.File (from ++ name ∷ []) (dest ++ name ∷ []) (option_map kind_of o))) free) e2 in
    renamed_on caller (from ++ name ∷ []) (dest ++ name ∷ []) rest s t tree file e3

-- ---- what a listing has

abbrev In : List ℕ → List Entry → Type 0
In name [] = ⊥
In name (e ∷ es) = (name ≡ e.name) ⊎ In name es

abbrev Distinct : List Entry → Type 0
Distinct [] = Unit {0}
Distinct (e ∷ es) = (In e.name es → ⊥) × Distinct es

abbrev entry_names : List Entry → List (List ℕ)
entry_names es = map (λ (e : Entry). e.name) es

rising_distinct : (es : List Entry) → IsStrictlySortedBy (slice_cmp nat_cmp) (entry_names es) → Distinct es
unfolding IsStrictlySortedBy
rising_distinct [] h = tt
rising_distinct (e ∷ es) h = (λ is. below e.name es h.0 is, rising_distinct es h.1)
  where
    below : (name : List ℕ) (es : List Entry) → AllByRecursion (λ m. slice_cmp nat_cmp name m ≡ Less) (entry_names es) → In name es → ⊥
    below name [] h is = is
    below name (f ∷ es) h (inl is) = let clash : Equal ≡ Less = sym (tied_itself nat_list_cmp_total name) ∙ ap (slice_cmp nat_cmp name) is ∙ h.0 in absurd cc
    below name (f ∷ es) h (inr is) = below name es h.1 is

listed_in : (es : List Entry) (name : List ℕ) → is_some (kind_listed es name) ≡ true → In name es
listed_in [] name e = absurd (true≢false (sym e))
listed_in (f ∷ es) name e = by (pointwise nat_eq name f.name) refl e (listed_in es name)
  where
    by : (b : Bool) → pointwise nat_eq name f.name ≡ b → is_some (cond b (Some f.kind) (kind_listed es name)) ≡ true → (is_some (kind_listed es name) ≡ true → In name es) → In name (f ∷ es)
    by true is e on = inl (same_text name f.name (sym is))
    by false is e on = inr (on e)

in_listed : (es : List Entry) (name : List ℕ) → In name es → is_some (kind_listed es name) ≡ true
in_listed [] name is = absurd is
in_listed (f ∷ es) name (inl is) = let same : pointwise nat_eq name f.name ≡ true = ap (λ m. pointwise nat_eq m f.name) is ∙ nat_list_eq_equiv.refl f.name in rw same refl
in_listed (f ∷ es) name (inr is) = by (pointwise nat_eq name f.name) (in_listed es name is)
  where
    by : (b : Bool) → is_some (kind_listed es name) ≡ true → is_some (cond b (Some f.kind) (kind_listed es name)) ≡ true
    by true e = refl
    by false e = e

-- a name that is listed is of something that is there, and the other way round
is_some-map : (o : Option Node) → is_some (option_map kind_of o) ≡ is_some o
is_some-map None = refl
is_some-map (Some node) = refl

in_there : (c : Content) (path : List (List ℕ)) (name : List ℕ) → In name (children c path) → is_present c (path ++ name ∷ []) ≡ true
in_there c path name is = sym (is_some-map (node_at c (path ++ name ∷ []))) ∙ ap is_some (sym (lists_children c path name)) ∙ in_listed (children c path) name is

there_in : (c : Content) (path : List (List ℕ)) (name : List ℕ) → is_present c (path ++ name ∷ []) ≡ true → In name (children c path)
there_in c path name is = listed_in (children c path) name (ap is_some (lists_children c path name) ∙ is_some-map (node_at c (path ++ name ∷ [])) ∙ is)

-- a directory in which one file stands and nothing else
one_of : (es : List Entry) (name : List ℕ) → Distinct es → kind_listed es name ≡ Some kind.File → ((m : List ℕ) → In m es → m ≡ name) → es ≡ file_entry name ∷ []
one_of [] name apart here only = absurd cc
one_of (e ∷ f ∷ es) name apart here only = absurd (apart.0 (inl (only e.name (inl refl) ∙ sym (only f.name (inr (inl refl))))))
one_of (e ∷ []) name apart here only =
    let same : e.name ≡ name = only e.name (inl refl) in
    let told : pointwise nat_eq name e.name ≡ true = ap (pointwise nat_eq name) same ∙ nat_list_eq_equiv.refl name in
    let some : Some e.kind ≡ Some kind.File = sym (ap (λ b. cond b (Some e.kind) (kind_listed [] name)) told) ∙ here in
    let kinds : e.kind ≡ kind.File = cc in
    by e.name e.kind same kinds
  where
    by : (n : List ℕ) (k : Kind) → n ≡ name → k ≡ kind.File → ◌≡◌ {A = List Entry} (record { name = n; kind = k } ∷ []) (file_entry name ∷ [])
    by n k a b = rw (a, b) refl

one_child : (c : Content) (path : List (List ℕ)) (name bytes : List ℕ) → node_at c (path ++ name ∷ []) ≡ Some (File bytes true) → ((m : List ℕ) → is_present c (path ++ m ∷ []) ≡ true → m ≡ name) → children c path ≡ file_entry name ∷ []
one_child c path name bytes file only =
    one_of (children c path) name (rising_distinct (children c path) (lists_in_order c path)) (lists_children c path name ∙ ap (option_map kind_of) file) (λ m is. only m (in_there c path m is))

-- ---- the entries that are tasks

in_filter : (es : List Entry) (name : List ℕ) → In name es → name ≢ temporary_name → In name (filter is_task es)
in_filter [] name is other = is
in_filter (e ∷ es) name (inl is) other = by (pointwise nat_eq e.name temporary_name) refl
  where
    by : (b : Bool) → pointwise nat_eq e.name temporary_name ≡ b → In name (cond (not b) (e ∷ filter is_task es) (filter is_task es))
    by true same = absurd (other (is ∙ same_text e.name temporary_name (sym same)))
    by false same = inl is
in_filter (e ∷ es) name (inr is) other = by (is_task e) (in_filter es name is other)
  where
    by : (b : Bool) → In name (filter is_task es) → In name (cond b (e ∷ filter is_task es) (filter is_task es))
    by true on = inr on
    by false on = on

filter_in : (es : List Entry) (name : List ℕ) → In name (filter is_task es) → In name es × (name ≢ temporary_name)
filter_in [] name is = absurd is
filter_in (e ∷ es) name is = by (pointwise nat_eq e.name temporary_name) refl is (filter_in es name)
  where
    by : (b : Bool) → pointwise nat_eq e.name temporary_name ≡ b → In name (cond (not b) (e ∷ filter is_task es) (filter is_task es))
        → (In name (filter is_task es) → In name es × (name ≢ temporary_name)) → In name (e ∷ es) × (name ≢ temporary_name)
    by true same is on = let more = on is in (inr more.0, more.1)
    by false same (inl is) on = (inl is, λ (clash : name ≡ temporary_name). true≢false (sym (ap (λ m. pointwise nat_eq m temporary_name) (sym is ∙ clash) ∙ nat_list_eq_equiv.refl temporary_name) ∙ same))
    by false same (inr is) on = let more = on is in (inr more.0, more.1)

distinct_filter : (es : List Entry) → Distinct es → Distinct (filter is_task es)
distinct_filter [] h = tt
distinct_filter (e ∷ es) h = by (is_task e) (distinct_filter es h.1)
  where
    by : (b : Bool) → Distinct (filter is_task es) → Distinct (cond b (e ∷ filter is_task es) (filter is_task es))
    by true on = (λ is. h.0 (filter_in es e.name is).0, on)
    by false on = on

-- ---- one task after another

within-itself : (path : List (List ℕ)) → within path path ≡ true
within-itself path = ap (within path) (sym (append-nil path)) ∙ ap is_some (strip-append path [])

-- the first path of a file's name is none of what is temporary
not_temporary : (dest : List (List ℕ)) (k : ℕ) (c : Content) (entry name bytes : List ℕ) → IsTree c → IsTaskFile dest k c entry name bytes → node_at c (dest ++ name ∷ []) ≡ None → name ≢ temporary_name
unfolding temporary
not_temporary dest k c entry name bytes tree file free same =
    let found : is_some (node_at c (temporary dest ++ numeral 1 k ∷ entry ∷ name ∷ [])) ≡ true = ap (λ p. is_some (node_at c p)) (sym (work_is dest (entry ∷ name ∷ []) k)) ∙ ap is_some file.file in
    let dir : node_at c (dest ++ temporary_name ∷ []) ≡ Some Dir = above_is_dir c tree (temporary dest) (numeral 1 k) (entry ∷ name ∷ []) found in
    true≢false (sym (ap is_some dir) ∙ ap (λ n. is_some (node_at c (dest ++ n ∷ []))) (sym same) ∙ ap is_some free)

abbrev NotNamed : List (List ℕ) → ℕ → Content → List (List ℕ) → Type 0
NotNamed dest k c path = (entry name bytes : List ℕ) → IsTaskFile dest k c entry name bytes → path ≢ dest ++ name ∷ []

-- Some entries are left, and their files stand where they stood. The files of the others stand at the destination.
record Amid (dest : List (List ℕ)) (k : ℕ) (c : Content) (es : List Entry) (s : State) : Type 0 where
  tree : IsTree s.content
  dir : node_at s.content dest ≡ Some Dir
  task : (entry : List ℕ) → In entry es → IsTaskEntry dest k c entry
  left : (entry : List ℕ) → In entry es → (rest : List (List ℕ)) → node_at s.content (job_attempt dest k ++ entry ∷ rest) ≡ node_at c (job_attempt dest k ++ entry ∷ rest)
  waiting : (entry name bytes : List ℕ) → In entry es → IsTaskFile dest k c entry name bytes → node_at s.content (dest ++ name ∷ []) ≡ None
  files : (entry name bytes : List ℕ) → IsTaskFile dest k c entry name bytes → In entry es ⊎ (node_at s.content (dest ++ name ∷ []) ≡ Some (File bytes true))
  others : (path : List (List ℕ)) → within (temporary dest) path ≡ false → NotNamed dest k c path → node_at s.content path ≡ node_at c path

one_more : (dest : List (List ℕ)) (k : ℕ) (c : Content) (e : Entry) (es : List Entry) (s u : State) (name bytes : List ℕ) → IsTree c → AreTaskFiles dest k c → Amid dest k c (e ∷ es) s → (In e.name es → ⊥)
    → IsTaskFile dest k c e.name name bytes → IsTree u.content → Moved (job_attempt dest k ++ e.name ∷ name ∷ []) (dest ++ name ∷ []) s.content u.content → Amid dest k c es u
one_more dest k c e es s u name bytes tree ready amid once file tree_u moved = record {
  tree = tree_u;
  dir = tree_u.parents dest name (ap is_some here);
  task = λ entry is. amid.task entry (inr is);
  left = λ entry is rest. moved.others (job_attempt dest k ++ entry ∷ rest)
      (apart_within _ _ (entries_part (job_attempt dest k) (name ∷ []) rest e.name entry (λ same. once (subst (λ n. In n es) (sym same) is))))
      (λ clash. not_work (entry ∷ rest) clash) ∙ amid.left entry (inr is) rest;
  waiting = λ entry other more is its. moved.others (dest ++ other ∷ [])
      (apart_within _ _ (work_and_named dest (e.name ∷ name ∷ []) k other (named entry other more its)))
      (λ clash. once (subst (λ n. In n es) (ready.apart entry e.name name more bytes (subst (λ n. IsTaskFile dest k c entry n more) (last_name dest other name clash) its) file) is)) ∙ amid.waiting entry other more (inr is) its;
  files = λ entry other more its. each entry other more its (amid.files entry other more its);
  others = λ path out none. moved.others path (out_of_work dest (e.name ∷ name ∷ []) path k out) (none e.name name bytes file) ∙ amid.others path out none;
}
  where
    here : node_at u.content (dest ++ name ∷ []) ≡ Some (File bytes true)
    here = moved.there ∙ amid.left e.name (inl refl) (name ∷ []) ∙ file.file

    named : (entry other more : List ℕ) → IsTaskFile dest k c entry other more → other ≢ temporary_name
    named entry other more its = not_temporary dest k c entry other more tree its (ready.free entry other more its)

    not_work : (x : List (List ℕ)) → job_attempt dest k ++ x ≡ dest ++ name ∷ [] → ⊥
    not_work x clash =
        let out : within (job_attempt dest k ++ x) (dest ++ name ∷ []) ≡ false = apart_within _ _ (work_and_named dest x k name (named e.name name bytes file)) in
        true≢false (sym (within-itself (job_attempt dest k ++ x)) ∙ ap (within (job_attempt dest k ++ x)) clash ∙ out)

    stays : (entry other more : List ℕ) → IsTaskFile dest k c entry other more → node_at s.content (dest ++ other ∷ []) ≡ Some (File more true) → node_at u.content (dest ++ other ∷ []) ≡ Some (File more true)
    stays entry other more its there = moved.others (dest ++ other ∷ [])
        (apart_within _ _ (work_and_named dest (e.name ∷ name ∷ []) k other (named entry other more its)))
        (λ clash. true≢false (sym (ap is_some there) ∙ ap (λ p. is_some (node_at s.content p)) clash ∙ ap is_some (amid.waiting e.name name bytes (inl refl) file))) ∙ there

    each : (entry other more : List ℕ) → IsTaskFile dest k c entry other more → In entry (e ∷ es) ⊎ (node_at s.content (dest ++ other ∷ []) ≡ Some (File more true)) → In entry es ⊎ (node_at u.content (dest ++ other ∷ []) ≡ Some (File more true))
    each entry other more its (inl (inr is)) = inl is
    each entry other more its (inr there) = inr (stays entry other more its there)
    each entry other more its (inl (inl is)) =
        let own : IsTaskFile dest k c e.name other more = subst (λ n. IsTaskFile dest k c n other more) is its in
        let same : other ≡ name = ready.alone e.name name bytes other file (ap is_some own.file) in
        inr (ap (λ n. node_at u.content (dest ++ n ∷ [])) same ∙ moved.there ∙ amid.left e.name (inl refl) (name ∷ []) ∙ ap (λ n. node_at c (job_attempt dest k ++ e.name ∷ n ∷ [])) (sym same) ∙ own.file)

record AllMerged (dest : List (List ℕ)) (k : ℕ) (c : Content) (caller : Caller) (rest : List Line) (s t : State) : Type 0 where
  mid : State
  amid : Amid dest k c [] mid
  fence : mid.fence ≡ s.fence
  barred : mid.barred ≡ s.barred
  on : Ran caller rest mid t

all_behind : (dest : List (List ℕ)) (k : ℕ) (c : Content) (caller : Caller) (rest : List Line) (s u t : State) → u.fence ≡ s.fence → u.barred ≡ s.barred → AllMerged dest k c caller rest u t → AllMerged dest k c caller rest s t
all_behind dest k c caller rest s u t fence barred all = record { mid = all.mid; amid = all.amid; fence = all.fence ∙ fence; barred = all.barred ∙ barred; on = all.on }

merged : (dest : List (List ℕ)) (k : ℕ) (c : Content) (caller : Caller) (rest : List Line) (es : List Entry) (s t : State) → IsTree c → AreTaskFiles dest k c → Amid dest k c es s → Distinct es
    → Ran caller (map (merging_task (job_attempt dest k) dest) es ++ rest) s t → AllMerged dest k c caller rest s t
merged dest k c caller rest [] s t tree ready amid apart ran = record { mid = s; amid = amid; fence = refl; barred = refl; on = ran }
merged dest k c caller rest (e ∷ es) s t tree ready amid apart ran = by found.0 found.1 found.2 (λ u next on. merged dest k c caller rest es u t tree ready next apart.1 on)
  where
    found : (name : List ℕ) × (bytes : List ℕ) × IsTaskFile dest k c e.name name bytes
    found = ready.some e.name (amid.task e.name (inl refl))

    joined : (name : List ℕ) → (job_attempt dest k ++ e.name ∷ []) ++ name ∷ [] ≡ job_attempt dest k ++ e.name ∷ name ∷ []
    joined name = append_assoc (job_attempt dest k) (e.name ∷ []) (name ∷ [])

    kept : (name : List ℕ) → node_at s.content ((job_attempt dest k ++ e.name ∷ []) ++ name ∷ []) ≡ node_at c (job_attempt dest k ++ e.name ∷ name ∷ [])
    kept name = ap (node_at s.content) (joined name) ∙ amid.left e.name (inl refl) (name ∷ [])

    by : (name bytes : List ℕ) → IsTaskFile dest k c e.name name bytes
        → ((u : State) → Amid dest k c es u → Ran caller (map (merging_task (job_attempt dest k) dest) es ++ rest) u t → AllMerged dest k c caller rest u t) → AllMerged dest k c caller rest s t
    by name bytes file further =
        let there : node_at s.content ((job_attempt dest k ++ e.name ∷ []) ++ name ∷ []) ≡ Some (File bytes true) = kept name ∙ file.file in
        let one = one_child s.content (job_attempt dest k ++ e.name ∷ []) name bytes there (λ m is. ready.alone e.name name bytes m file (ap is_some (sym (kept m)) ∙ is)) in
        let step : Merged caller ((job_attempt dest k ++ e.name ∷ []) ++ name ∷ []) (dest ++ name ∷ []) (map (merging_task (job_attempt dest k) dest) es ++ rest) s t = task_merged caller (job_attempt dest k ++ e.name ∷ []) dest name _ s t amid.tree amid.dir one (ap is_file there) (amid.waiting e.name name bytes (inl refl) file) ran in
        let moved : Moved (job_attempt dest k ++ e.name ∷ name ∷ []) (dest ++ name ∷ []) s.content step.mid.content = subst (λ p. Moved p (dest ++ name ∷ []) s.content step.mid.content) (joined name) step.moved in
        let next : Amid dest k c es step.mid = one_more dest k c e es s step.mid name bytes tree ready amid apart.0 file step.tree moved in
        all_behind dest k c caller rest s step.mid t step.fence step.barred (further step.mid next step.on)

-- ---- the whole commit

-- what stands after the merge, the delete and the marker
published : (dest : List (List ℕ)) (k : ℕ) (c : Content) (caller : Caller) (u t : State) → IsTree c → AreTaskFiles dest k c → Amid dest k c [] u
    → Ran caller (Clears (temporary dest) ∷ Does (op.Create (marker dest) true) ∷ []) u t → IsPublished dest k c t.content × (t.fence ≡ u.fence) × (t.barred ≡ u.barred)
published dest k c caller u t tree ready amid (n, e) = by (goes caller (Clears (temporary dest)) (Does (op.Create (marker dest) true) ∷ []) u t n e)
  where
    create : Op
    create = op.Create (marker dest) true

    v : State
    v = (call_of u caller (op.Delete (temporary dest))).1

    gone : replaced (Clears (temporary dest)) (call_of u caller (op.Delete (temporary dest))).0 ≡ Ok [] → (rest : List (List ℕ)) → node_at v.content (temporary dest ++ rest) ≡ None
    gone well rest = cleared_there u caller (temporary dest) rest amid.tree well

    -- a task's file before the marker comes
    filed : (entry name bytes : List ℕ) → IsTaskFile dest k c entry name bytes → node_at v.content (dest ++ name ∷ []) ≡ Some (File bytes true)
    filed entry name bytes file = cleared u caller (temporary dest) (dest ++ name ∷ []) (apart_within _ _ (temporary_and_named dest name (not_temporary dest k c entry name bytes tree file (ready.free entry name bytes file))))
        ∙ ⊎_elim (λ (none : ⊥). absurd none) (λ there. there) (amid.files entry name bytes file)

    not_path : (q path : List (List ℕ)) → q ≢ path → is_path q path ≡ false
    not_path q path other = test (is_path q path) refl
      where
        test : (b : Bool) → is_path q path ≡ b → b ≡ false
        test true is = absurd (other (is_path-same q path is))
        test false is = refl

    last : replaced (Clears (temporary dest)) (call_of u caller (op.Delete (temporary dest))).0 ≡ Ok [] → Went caller (Does create) [] v t → IsPublished dest k c t.content × (t.fence ≡ u.fence) × (t.barred ≡ u.barred)
    last well w =
        let h : Told (Does create) v caller w.new = told (Does create) v caller w.new refl w.heard in
        let none : w.new ≡ [] = single (Does create) _ w.new refl w.heard in
        let is : t ≡ (call_of v caller create).1 = subst (λ new. Ran caller (new ++ []) (call_of v caller create).1 t) none w.on in
        let content_is : t.content ≡ effect v.content create = ap (λ z. z.content) is ∙ made v caller create h.made_it in
        let may : MayCreate v.content (marker dest) = answered_only v.content create (past_caller v caller create h.made_it) in
        let clear : (path : List (List ℕ)) → is_some (node_at v.content path) ≡ true → path ≢ marker dest = λ path there clash. true≢false (sym there ∙ ap (λ p. is_some (node_at v.content p)) clash ∙ ap is_some may.free) in
        let stays : (path : List (List ℕ)) → path ≢ marker dest → node_at (effect v.content create) path ≡ node_at v.content path = λ path other. others_stay v.content create path (not_path path (marker dest) other) in (
          rw content_is (record {
            files = λ entry name bytes file. stays (dest ++ name ∷ []) (clear (dest ++ name ∷ []) (ap is_some (filed entry name bytes file))) ∙ filed entry name bytes file;
            gone = λ rest. stays (temporary dest ++ rest) (λ clash. in_temporary rest clash) ∙ gone well rest;
            marked = created_there v.content (marker dest) true;
            others = λ path out other none_named. stays path other ∙ cleared u caller (temporary dest) path out ∙ amid.others path out none_named;
          }),
          ap (λ z. z.fence) is ∙ fence_stays v caller create ∙ fence_stays u caller (op.Delete (temporary dest)),
          ap (λ z. z.barred) is ∙ others_bar_none v caller create refl ∙ others_bar_none u caller (op.Delete (temporary dest)) refl,
        )
      where
        in_temporary : (rest : List (List ℕ)) → temporary dest ++ rest ≡ marker dest → ⊥
        in_temporary rest clash = true≢false (sym (ap is_some (strip-append (temporary dest) rest)) ∙ ap (within (temporary dest)) clash ∙ apart_within _ _ (temporary_and_marker_part dest))

    by : Went caller (Clears (temporary dest)) (Does create ∷ []) u t → IsPublished dest k c t.content × (t.fence ≡ u.fence) × (t.barred ≡ u.barred)
    by w =
        let none : w.new ≡ [] = single (Clears (temporary dest)) _ w.new refl w.heard in
        let well = w.heard ∙ ap (λ new. lines_of new) none in
        let on : Ran caller (Does create ∷ []) v t = subst (λ new. Ran caller (new ++ Does create ∷ []) v t) none w.on in
        last well (goes caller (Does create) [] v t on.0 on.1)

-- the destination is a directory, where what is beneath it was listed
dest_is_dir : (dest : List (List ℕ)) (k : ℕ) (c : Content) → IsTree c → node_at c (job_attempt dest k) ≡ Some Dir → node_at c dest ≡ Some Dir
unfolding job_attempt
dest_is_dir dest k c tree there = above_is_dir c tree dest temporary_name (numeral 1 k ∷ []) (ap is_some there)

amid_first : (dest : List (List ℕ)) (k : ℕ) (s : State) → IsTree s.content → AreTaskFiles dest k s.content → node_at s.content (job_attempt dest k) ≡ Some Dir → Amid dest k s.content (filter is_task (children s.content (job_attempt dest k))) s
amid_first dest k s tree ready there = record {
  tree = tree;
  dir = dest_is_dir dest k s.content tree there;
  task = λ entry is. let both = filter_in (children s.content (job_attempt dest k)) entry is in (both.1, in_there s.content (job_attempt dest k) entry both.0);
  left = λ entry is rest. refl;
  waiting = λ entry name bytes is file. ready.free entry name bytes file;
  files = λ entry name bytes file. inl (in_filter (children s.content (job_attempt dest k)) entry (there_in s.content (job_attempt dest k) entry (above entry name bytes file)) file.beside);
  others = λ path out none. refl;
}
  where
    above : (entry name bytes : List ℕ) → IsTaskFile dest k s.content entry name bytes → is_present s.content (job_attempt dest k ++ entry ∷ []) ≡ true
    above entry name bytes file = ap is_some (tree.parents (job_attempt dest k ++ entry ∷ []) name (ap (λ p. is_some (node_at s.content p)) (append_assoc (job_attempt dest k) (entry ∷ []) (name ∷ [])) ∙ ap is_some file.file))

pub job_commits : JobCommits
job_commits dest k s t caller tree ready e = by (most_calls _ _ (commit_job dest k)) e
  where
    ja : List (List ℕ)
    ja = job_attempt dest k

    rest : List Line
    rest = Clears (temporary dest) ∷ Does (op.Create (marker dest) true) ∷ []

    es : List Entry
    es = filter is_task (children s.content ja)

    by : (n : ℕ) → run n (MergesTasks ja dest ∷ rest) s caller ≡ (Ok tt, t) → IsPublished dest k s.content t.content × (t.fence ≡ s.fence) × (t.barred ≡ s.barred)
    by n e =
        let w : Went caller (MergesTasks ja dest) rest s t = goes caller (MergesTasks ja dest) rest s t n e in
        let h : Told (MergesTasks ja dest) s caller w.new = told (MergesTasks ja dest) s caller w.new refl w.heard in
        let there : node_at s.content ja ≡ Some Dir = answered_only s.content (op.List ja) (past_caller s caller (op.List ja) h.made_it) in
        let on = after_look caller (MergesTasks ja dest) rest (map (merging_task ja dest) es) s t refl (listing s caller ja) refl (n, e) in
        let all : AllMerged dest k s.content caller rest s t = merged dest k s.content caller rest es s t tree ready (amid_first dest k s tree ready there) (distinct_filter (children s.content ja) (rising_distinct (children s.content ja) (lists_in_order s.content ja))) on in
        let end = published dest k s.content caller all.mid t tree ready all.amid all.on in
        (end.0, end.1 ∙ all.fence, end.2 ∙ all.barred)
