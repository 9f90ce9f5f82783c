-- Lines of a committer's table that are the same.
use Rattle.std.proofs.Common.{◌≡◌, ℕ, Bool, true, List, [], Option, Some, None, nat_eq, refl, sym, ap, ap₂, ◌∙◌, rules, true≢false}
use Rattle.std.proofs.lemmas.Slice.Eq.{slice_eq-Decides}
use Rattle.std.specs.Bool.{Decides}
use Rattle.std.specs.Option.{option_eq}
use Rattle.std.specs.Cmp.{booleans_Decides}
use Rattle.std.proofs.lemmas.Bool.{false≢true}
use Rattle.std.proofs.lemmas.Bool.Decides.{Decides-and}
use Rattle.std.specs.Cmp.Lexicographic.{pointwise}
use Rattle.mr_ids.specs.Attempt.{Attempt}
use Rattle.mr_ids.specs.declared.id.TaskId.{TaskId}
use Rattle.mr_ids.specs.contracts.id.AttemptIdPartialEq.TheImpl as attempts
use Rattle.mr_ids.specs.contracts.id.TaskIdPartialEq.TheImpl as tasks
use Rattle.mr_ids.proofs.Same.{attempt-is, attempt-itself}
use Rattle.mr_paths.specs.declared.layout.Layout.{Layout}
use Rattle.mr_paths.specs.contracts.layout.LayoutPartialEq.TheImpl as layouts
use Rattle.mr_names.specs.declared.op.Op.{Op}
use Rattle.mr_names.specs.declared.op.Op.TheVariants as op
use Rattle.mr_names.specs.contracts.op.OpPartialEq.TheImpl as ops
use Rattle.mr_names_tree.specs.declared.node.Kind.{Kind}
use Rattle.mr_names_tree.specs.declared.node.Kind.TheVariants as kind
use Rattle.mr_names_tree.specs.contracts.node.KindPartialEq.TheImpl as kinds
use Rattle.mr_commit.specs.declared.line.Rule.{Rule}
use Rattle.mr_commit.specs.declared.line.Rule.TheVariants as rule
use Rattle.mr_commit.specs.contracts.line.RulePartialEq.TheImpl as ruled
use Rattle.mr_commit.specs.Line.{Line, op_of}
use Rattle.mr_commit.specs.Line.Line.{Does, Clears, Needs, Merges, MergesEach, MergesTasks, Seeks, Measures}
use Rattle.mr_commit.specs.inner.TableLine.{line_by, path_of}

numbers-decide : (a b : ℕ) → Decides (nat_eq a b) (a ≡ b)
numbers-decide = search (rules)

names-decide : (a b : List ℕ) → Decides (pointwise nat_eq a b) (a ≡ b)
names-decide a b = slice_eq-Decides numbers-decide a b _ refl

paths-decide : (a b : List (List ℕ)) → Decides (pointwise (pointwise nat_eq) a b) (a ≡ b)
paths-decide a b = slice_eq-Decides names-decide a b _ refl

attempts-decide : (a b : Attempt) → Decides (attempts.eq-value.it a b) (a ≡ b)
attempts-decide a b = (attempt-is a b, λ e. ap (attempts.eq-value.it a) (sym e) ∙ attempt-itself a)

some_is : {A : Type 0} (a b : A) → Some a ≡ Some b → a ≡ b
some_is a b e = cc

-- which call it is, and what it has

abbrev op_place : Op → ℕ
op_place (op.Mkdirs path) = 0
op_place (op.Create path closed) = 1
op_place (op.Append path bytes) = 2
op_place (op.Close path) = 3
op_place (op.Delete path) = 4
op_place (op.Rename from to) = 5
op_place (op.List path) = 6
op_place (op.Exists path) = 7
op_place (op.Read path) = 8
op_place (op.Bar attempt) = 9

-- of what is made whether it is closed, of what is added the bytes, of what is moved where it goes
abbrev More : Type 0
More = Bool × List ℕ × List (List ℕ)

abbrev more_of : Op → Option More
more_of (op.Mkdirs path) = None
more_of (op.Create path closed) = Some (closed, [], [])
more_of (op.Append path bytes) = Some (true, bytes, [])
more_of (op.Close path) = None
more_of (op.Delete path) = None
more_of (op.Rename from to) = Some (true, [], to)
more_of (op.List path) = None
more_of (op.Exists path) = None
more_of (op.Read path) = None
more_of (op.Bar attempt) = None

abbrev barred_of : Op → Option Attempt
barred_of (op.Mkdirs path) = None
barred_of (op.Create path closed) = None
barred_of (op.Append path bytes) = None
barred_of (op.Close path) = None
barred_of (op.Delete path) = None
barred_of (op.Rename from to) = None
barred_of (op.List path) = None
barred_of (op.Exists path) = None
barred_of (op.Read path) = None
barred_of (op.Bar attempt) = Some attempt

-- `==` of two calls holds exactly where they are equal
pub ops-decide : (a b : Op) → Decides (ops.eq-value.it a b) (a ≡ b)
ops-decide (op.Mkdirs x) (op.Mkdirs y) = (λ e. ap op.Mkdirs ((paths-decide x y).0 e), λ e. (paths-decide x y).1 (ap path_of e))
ops-decide (op.Mkdirs x) _ = (λ e. absurd (false≢true e), λ e. absurd (true≢false (ap (λ (x : Op). nat_eq 0 (op_place x)) e)))
ops-decide (op.Create x b) (op.Create y d) =
    let both = Decides-and _ _ (paths-decide x y) (booleans_Decides b d) in
    (λ e. ap₂ op.Create (both.0 e).0 (both.0 e).1, λ e. both.1 (ap path_of e, ap (λ (z : More). z.0) (some_is _ _ (ap more_of e))))
ops-decide (op.Create x b) _ = (λ e. absurd (false≢true e), λ e. absurd (true≢false (ap (λ (x : Op). nat_eq 1 (op_place x)) e)))
ops-decide (op.Append x b) (op.Append y d) =
    let both = Decides-and _ _ (paths-decide x y) (names-decide b d) in
    (λ e. ap₂ op.Append (both.0 e).0 (both.0 e).1, λ e. both.1 (ap path_of e, ap (λ (z : More). z.1) (some_is _ _ (ap more_of e))))
ops-decide (op.Append x b) _ = (λ e. absurd (false≢true e), λ e. absurd (true≢false (ap (λ (x : Op). nat_eq 2 (op_place x)) e)))
ops-decide (op.Close x) (op.Close y) = (λ e. ap op.Close ((paths-decide x y).0 e), λ e. (paths-decide x y).1 (ap path_of e))
ops-decide (op.Close x) _ = (λ e. absurd (false≢true e), λ e. absurd (true≢false (ap (λ (x : Op). nat_eq 3 (op_place x)) e)))
ops-decide (op.Delete x) (op.Delete y) = (λ e. ap op.Delete ((paths-decide x y).0 e), λ e. (paths-decide x y).1 (ap path_of e))
ops-decide (op.Delete x) _ = (λ e. absurd (false≢true e), λ e. absurd (true≢false (ap (λ (x : Op). nat_eq 4 (op_place x)) e)))
ops-decide (op.Rename x b) (op.Rename y d) =
    let both = Decides-and _ _ (paths-decide x y) (paths-decide b d) in
    (λ e. ap₂ op.Rename (both.0 e).0 (both.0 e).1, λ e. both.1 (ap path_of e, ap (λ (z : More). z.2) (some_is _ _ (ap more_of e))))
ops-decide (op.Rename x b) _ = (λ e. absurd (false≢true e), λ e. absurd (true≢false (ap (λ (x : Op). nat_eq 5 (op_place x)) e)))
ops-decide (op.List x) (op.List y) = (λ e. ap op.List ((paths-decide x y).0 e), λ e. (paths-decide x y).1 (ap path_of e))
ops-decide (op.List x) _ = (λ e. absurd (false≢true e), λ e. absurd (true≢false (ap (λ (x : Op). nat_eq 6 (op_place x)) e)))
ops-decide (op.Exists x) (op.Exists y) = (λ e. ap op.Exists ((paths-decide x y).0 e), λ e. (paths-decide x y).1 (ap path_of e))
ops-decide (op.Exists x) _ = (λ e. absurd (false≢true e), λ e. absurd (true≢false (ap (λ (x : Op). nat_eq 7 (op_place x)) e)))
ops-decide (op.Read x) (op.Read y) = (λ e. ap op.Read ((paths-decide x y).0 e), λ e. (paths-decide x y).1 (ap path_of e))
ops-decide (op.Read x) _ = (λ e. absurd (false≢true e), λ e. absurd (true≢false (ap (λ (x : Op). nat_eq 8 (op_place x)) e)))
ops-decide (op.Bar a) (op.Bar b) = (λ e. ap op.Bar ((attempts-decide a b).0 e), λ e. (attempts-decide a b).1 (some_is a b (ap barred_of e)))
ops-decide (op.Bar a) _ = (λ e. absurd (false≢true e), λ e. absurd (true≢false (ap (λ (x : Op). nat_eq 9 (op_place x)) e)))

kinds-decide : (a b : Kind) → Decides (kinds.eq-value.it a b) (a ≡ b)
kinds-decide kind.Dir kind.Dir = (λ e. refl, λ e. refl)
kinds-decide kind.Dir kind.File = (λ e. absurd (cc), λ e. absurd (cc))
kinds-decide kind.File kind.Dir = (λ e. absurd (cc), λ e. absurd (cc))
kinds-decide kind.File kind.File = (λ e. refl, λ e. refl)

tasks-decide : (t u : TaskId) → Decides (tasks.eq-value.it t u) (t ≡ u)
tasks-decide = search (rules)

layouts-decide : (l m : Layout) → Decides (layouts.eq-value.it l m) (l ≡ m)
layouts-decide l m = (
  λ e. let dest : l.dest ≡ m.dest = (paths-decide l.dest m.dest).0 e in λ i. record { dest = dest i },
  λ e. (paths-decide l.dest m.dest).1 (ap (λ (x : Layout). x.dest) e),
)

lengths-decide : (b d : Option ℕ) → Decides (option_eq nat_eq b d) (b ≡ d)
lengths-decide None None = (λ e. refl, λ e. refl)
lengths-decide None (Some d) = (λ e. absurd (cc), λ e. absurd (cc))
lengths-decide (Some b) None = (λ e. absurd (cc), λ e. absurd (cc))
lengths-decide (Some b) (Some d) = (λ e. ap Some ((numbers-decide b d).0 e), λ e. let same : b ≡ d = cc in (numbers-decide b d).1 same)

-- which rule it is, and what it has

abbrev rule_place : Rule → ℕ
rule_place rule.Plain = 0
rule_place rule.MissingPasses = 1
rule_place rule.Needed = 2
rule_place (rule.Merge taken from to) = 3
rule_place (rule.MergeEach from to) = 4
rule_place (rule.MergeTasks from to) = 5
rule_place (rule.Seek layout task bytes k j) = 6
rule_place (rule.Measure bytes) = 7

abbrev Merged : Type 0
Merged = Kind × List (List ℕ) × List (List ℕ)

abbrev merged_of : Rule → Option Merged
merged_of rule.Plain = None
merged_of rule.MissingPasses = None
merged_of rule.Needed = None
merged_of (rule.Merge taken from to) = Some (taken, from, to)
merged_of (rule.MergeEach from to) = Some (kind.Dir, from, to)
merged_of (rule.MergeTasks from to) = Some (kind.Dir, from, to)
merged_of (rule.Seek layout task bytes k j) = None
merged_of (rule.Measure bytes) = None

abbrev Sought : Type 0
Sought = Layout × TaskId × Option ℕ × ℕ × ℕ

abbrev sought_of : Rule → Option Sought
sought_of rule.Plain = None
sought_of rule.MissingPasses = None
sought_of rule.Needed = None
sought_of (rule.Merge taken from to) = None
sought_of (rule.MergeEach from to) = None
sought_of (rule.MergeTasks from to) = None
sought_of (rule.Seek layout task bytes k j) = Some (layout, task, bytes, k, j)
sought_of (rule.Measure bytes) = None

abbrev measured_of : Rule → Option ℕ
measured_of rule.Plain = None
measured_of rule.MissingPasses = None
measured_of rule.Needed = None
measured_of (rule.Merge taken from to) = None
measured_of (rule.MergeEach from to) = None
measured_of (rule.MergeTasks from to) = None
measured_of (rule.Seek layout task bytes k j) = None
measured_of (rule.Measure bytes) = Some bytes

-- all that a search through earlier generations has
sought-decide : (l m : Layout) (t u : TaskId) (b d : Option ℕ) (k j n i : ℕ) → Decides (ruled.eq-value.it (rule.Seek l t b k j) (rule.Seek m u d n i)) (rule.Seek l t b k j ≡ rule.Seek m u d n i)
sought-decide l m t u b d k j n i =
    let all = Decides-and _ _ (layouts-decide l m) (Decides-and _ _ (tasks-decide t u) (Decides-and _ _ (lengths-decide b d) (Decides-and _ _ (numbers-decide k n) (numbers-decide j i)))) in (
      λ e. let w = all.0 e in λ x. rule.Seek (w.0 x) (w.1.0 x) (w.1.1.0 x) (w.1.1.1.0 x) (w.1.1.1.1 x),
      λ e. let w = some_is _ _ (ap sought_of e) in all.1 (ap (λ (z : Sought). z.0) w, (ap (λ (z : Sought). z.1) w, (ap (λ (z : Sought). z.2) w, (ap (λ (z : Sought). z.3) w, ap (λ (z : Sought). z.4) w)))),
    )

-- and of what follows from a line
pub rules-decide : (a b : Rule) → Decides (ruled.eq-value.it a b) (a ≡ b)
rules-decide rule.Plain rule.Plain = (λ e. refl, λ e. refl)
rules-decide rule.Plain _ = (λ e. absurd (false≢true e), λ e. absurd (true≢false (ap (λ (x : Rule). nat_eq 0 (rule_place x)) e)))
rules-decide rule.MissingPasses rule.MissingPasses = (λ e. refl, λ e. refl)
rules-decide rule.MissingPasses _ = (λ e. absurd (false≢true e), λ e. absurd (true≢false (ap (λ (x : Rule). nat_eq 1 (rule_place x)) e)))
rules-decide rule.Needed rule.Needed = (λ e. refl, λ e. refl)
rules-decide rule.Needed _ = (λ e. absurd (false≢true e), λ e. absurd (true≢false (ap (λ (x : Rule). nat_eq 2 (rule_place x)) e)))
rules-decide (rule.Merge k x b) (rule.Merge l y d) =
    let all = Decides-and _ _ (kinds-decide k l) (Decides-and _ _ (paths-decide x y) (paths-decide b d)) in (
      λ e. let w = all.0 e in λ i. rule.Merge (w.0 i) (w.1.0 i) (w.1.1 i),
      λ e. let w = some_is _ _ (ap merged_of e) in all.1 (ap (λ (z : Merged). z.0) w, (ap (λ (z : Merged). z.1) w, ap (λ (z : Merged). z.2) w)),
    )
rules-decide (rule.Merge k x b) _ = (λ e. absurd (false≢true e), λ e. absurd (true≢false (ap (λ (x : Rule). nat_eq 3 (rule_place x)) e)))
rules-decide (rule.MergeEach x b) (rule.MergeEach y d) =
    let both = Decides-and _ _ (paths-decide x y) (paths-decide b d) in
    (λ e. ap₂ rule.MergeEach (both.0 e).0 (both.0 e).1, λ e. let w = some_is _ _ (ap merged_of e) in both.1 (ap (λ (z : Merged). z.1) w, ap (λ (z : Merged). z.2) w))
rules-decide (rule.MergeEach x b) _ = (λ e. absurd (false≢true e), λ e. absurd (true≢false (ap (λ (x : Rule). nat_eq 4 (rule_place x)) e)))
rules-decide (rule.MergeTasks x b) (rule.MergeTasks y d) =
    let both = Decides-and _ _ (paths-decide x y) (paths-decide b d) in
    (λ e. ap₂ rule.MergeTasks (both.0 e).0 (both.0 e).1, λ e. let w = some_is _ _ (ap merged_of e) in both.1 (ap (λ (z : Merged). z.1) w, ap (λ (z : Merged). z.2) w))
rules-decide (rule.MergeTasks x b) _ = (λ e. absurd (false≢true e), λ e. absurd (true≢false (ap (λ (x : Rule). nat_eq 5 (rule_place x)) e)))
rules-decide (rule.Seek l t b k j) (rule.Seek m u d n i) = sought-decide l m t u b d k j n i
rules-decide (rule.Seek l t b k j) _ = (λ e. absurd (false≢true e), λ e. absurd (true≢false (ap (λ (x : Rule). nat_eq 6 (rule_place x)) e)))
rules-decide (rule.Measure b) (rule.Measure d) = (λ e. ap rule.Measure ((numbers-decide b d).0 e), λ e. (numbers-decide b d).1 (some_is b d (ap measured_of e)))
rules-decide (rule.Measure b) _ = (λ e. absurd (false≢true e), λ e. absurd (true≢false (ap (λ (x : Rule). nat_eq 7 (rule_place x)) e)))

-- what follows from a line
abbrev rule_of : Line → Rule
rule_of (Does call) = rule.Plain
rule_of (Clears path) = rule.MissingPasses
rule_of (Needs path) = rule.Needed
rule_of (Merges taken from to) = rule.Merge taken from to
rule_of (MergesEach from to) = rule.MergeEach from to
rule_of (MergesTasks from to) = rule.MergeTasks from to
rule_of (Seeks dest task bytes k j) = rule.Seek (record { dest = dest }) task bytes k j
rule_of (Measures path bytes) = rule.Measure bytes

rule_is : (call : Op) (r : Rule) → rule_of (line_by call r) ≡ r
rule_is call rule.Plain = refl
rule_is call rule.MissingPasses = refl
rule_is call rule.Needed = refl
rule_is call (rule.Merge taken from to) = refl
rule_is call (rule.MergeEach from to) = refl
rule_is call (rule.MergeTasks from to) = refl
rule_is call (rule.Seek layout task bytes k j) = refl
rule_is call (rule.Measure bytes) = refl

-- two lines are the same only where their calls are
pub calls_tell : (a b : Op) (r s : Rule) (x y : Line) → line_by a r ≡ x → line_by b s ≡ y → a ≡ op_of (line_by a r) → b ≡ op_of (line_by b s) → x ≡ y → a ≡ b
calls_tell a b r s x y is it own other same = own ∙ ap op_of (is ∙ same ∙ sym it) ∙ sym other

-- and with the same call they are where what follows is
pub rules_tell : (a b : Op) (r s : Rule) (x y : Line) (told : Bool) → line_by a r ≡ x → line_by b s ≡ y → a ≡ b → Decides told (r ≡ s) → Decides told (x ≡ y)
rules_tell a b r s x y told is it call tells = (
  λ yes. sym is ∙ ap₂ line_by call (tells.0 yes) ∙ it,
  λ same. tells.1 (sym (rule_is a r) ∙ ap rule_of (is ∙ same ∙ sym it) ∙ rule_is b s),
)
