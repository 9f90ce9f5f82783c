-- A listing has no name twice; the directories that a commit merges, each once, and what is in one of them.
use Rattle.std.proofs.Common.{ℕ, ◌≡◌, refl, sym, ◌∙◌, ap, subst, Bool, true, false, List, [], ◌∷◌, ◌++◌, ◌⊎◌, inl, inr}
use Rattle.std.proofs.lemmas.Bool.{false≢true, true≢false}
use Rattle.std.specs.Cmp.{tied_itself}
use Rattle.std.specs.Cmp.Lexicographic.{slice_cmp, nat_list_cmp_total}
use Rattle.std.specs.Ordering.{nat_cmp}
use Rattle.std.specs.List.{AllByRecursion}
use Rattle.std.specs.List.Sorted.{IsStrictlySortedBy}
use Rattle.std.proofs.Common.{map, Ordering, Less, Equal}
use Rattle.mr_names_tree.proofs.ListingLaws.{lists_in_order}
use Rattle.mr_world_model.specs.Ids.{Name, Path, name_eq, job_attempt, committed, task_name, dest, TaskId}
use Rattle.mr_world_model.proofs.Names.{task_name-inj, task-temporary}
use Rattle.mr_world_model.specs.Content.{Content, children, Listed, Kind}
use Rattle.mr_world_model.specs.Hearing.{Merge_step, Look_at}
use Rattle.mr_world_model.specs.Duties.{tops, is_temporary}
use Rattle.mr_world_model.specs.Claims.{In, IsReduce}
use Rattle.mr_world_model.specs.Packets.{Config}
use Rattle.mr_world_model.proofs.Basic.{or_parts}
use Rattle.mr_world_model.proofs.Lists.{Each}
use Rattle.mr_world_model.proofs.Paths.{name_eq-true, name_eq-refl}
use Rattle.mr_world_model.proofs.Listing.{has_name, or-true}

-- The order of names

abbrev pub Before : Name → Name → Type 0
Before a b = slice_cmp nat_cmp a b ≡ Less

equal-less : {P : Type 0} (o : Ordering) → o ≡ Equal → o ≡ Less → P
equal-less o e f = let g : Equal ≡ Less = sym e ∙ f in absurd (cc)

pub before-not : (a : Name) → Before a a → ⊥
before-not a e = equal-less _ (tied_itself nat_list_cmp_total a) e

-- Listings rise

abbrev pub Above : Name → Listed → Type 0
Above n m = Before n m.name

abbrev pub Rises : List Listed → Type 0
Rises [] = Unit {0}
Rises (l ∷ ls) = Each (Above l.name) ls × Rises ls

rise-names : (ls : List Listed) → IsStrictlySortedBy (slice_cmp nat_cmp) (map (λ (l : Listed). l.name) ls) → Rises ls
unfolding IsStrictlySortedBy
rise-names [] o = tt
rise-names (l ∷ ls) o = (above l.name ls o.0, rise-names ls o.1)
  where
    above : (n : Name) (ms : List Listed) → AllByRecursion (λ y. slice_cmp nat_cmp n y ≡ Less) (map (λ (m : Listed). m.name) ms) → Each (Above n) ms
    above n [] p = tt
    above n (m ∷ ms) p = (p.0, above n ms p.1)

pub children-rise : (c : Content) (p : Path) → Rises (children c p)
unfolding children
children-rise c p = rise-names _ (lists_in_order c p)

above-none : (n : Name) (ls : List Listed) → Each (Above n) ls → has_name ls n ≡ true → ⊥
above-none n [] o e = false≢true e
above-none n (l ∷ ls) o e = by (or_parts (name_eq l.name n) _ e) (above-none n ls o.1)
  where
    by : (name_eq l.name n ≡ true) ⊎ (has_name ls n ≡ true) → (has_name ls n ≡ true → ⊥) → ⊥
    by (inl q) f = before-not n (subst (λ z. Before n z) (name_eq-true l.name n q) o.0)
    by (inr q) f = f q

pub In-name : (ls : List Listed) (l : Listed) → In l ls → has_name ls l.name ≡ true
In-name [] l i = absurd i
In-name (m ∷ ls) l (inl e) = rw (subst (λ (z : Listed). name_eq m.name z.name ≡ true) e (name_eq-refl m.name)) refl
In-name (m ∷ ls) l (inr i) = rw (In-name ls l i) (or-true (name_eq m.name l.name))

-- The directories of a job attempt

abbrev pub Waits : ℕ → TaskId → Merge_step
Waits k t = Look_at (committed k t) dest true

abbrev pub waiting : ℕ → List TaskId → List Merge_step
waiting k [] = []
waiting k (t ∷ ts) = Waits k t ∷ waiting k ts

abbrev pub IsOnce : List TaskId → Type 0
IsOnce [] = Unit {0}
IsOnce (t ∷ ts) = (In t ts → ⊥) × IsOnce ts

-- what is listed beside the staging folder is the directory of a reduce
abbrev pub IsTask : Config → Listed → Type 0
IsTask cfg l = is_temporary l.name ≡ false → (t : TaskId) × (l.name ≡ task_name t) × IsReduce cfg t

pub record Tops (cfg : Config) (k : ℕ) (ls : List Listed) : Type 0 where
  pub tasks : List TaskId
  pub is : tops (job_attempt k) ls ≡ waiting k tasks
  pub once : IsOnce tasks
  pub small : (t : TaskId) → In t tasks → IsReduce cfg t
  pub named : (t : TaskId) → In t tasks → has_name ls (task_name t) ≡ true
  pub all : (t : TaskId) → has_name ls (task_name t) ≡ true → In t tasks

pub tops-tasks : (cfg : Config) (k : ℕ) (ls : List Listed) → Rises ls → Each (IsTask cfg) ls → Tops cfg k ls
tops-tasks cfg k [] r o = record { tasks = []; is = refl; once = tt; small = λ t i. absurd i; named = λ t i. absurd i; all = λ t e. absurd (false≢true e) }
tops-tasks cfg k (l ∷ ls) r o = by (is_temporary l.name) refl (tops-tasks cfg k ls r.1 o.1)
  where
    by : (b : Bool) → is_temporary l.name ≡ b → Tops cfg k ls → Tops cfg k (l ∷ ls)
    by true q x = record {
      tasks = x.tasks;
      is = rw q x.is;
      once = x.once;
      small = x.small;
      named = λ t i. rw (x.named t i) (or-true (name_eq l.name (task_name t)));
      all = λ t e. other t (or_parts (name_eq l.name (task_name t)) _ e);
    }
      where
        other : (t : TaskId) → (name_eq l.name (task_name t) ≡ true) ⊎ (has_name ls (task_name t) ≡ true) → In t x.tasks
        other t (inl u) = absurd (true≢false (sym q ∙ subst (λ z. is_temporary z ≡ false) (sym (name_eq-true l.name (task_name t) u)) (task-temporary t)))
        other t (inr u) = x.all t u
    by false q x = record {
      tasks = t0 ∷ x.tasks;
      is = rw q (subst (λ z. Look_at (job_attempt k ++ z ∷ []) dest true ∷ tops (job_attempt k) ls ≡ waiting k (t0 ∷ x.tasks)) (sym is0) (ap (λ z. Waits k t0 ∷ z) x.is));
      once = (λ i. above-none (task_name t0) ls (subst (λ z. Each (Above z) ls) is0 r.0) (x.named t0 i), x.once);
      small = small;
      named = named;
      all = λ t e. find t (or_parts (name_eq l.name (task_name t)) _ e);
    }
      where
        t0 : TaskId
        t0 = (o.0 q).0

        is0 : l.name ≡ task_name t0
        is0 = (o.0 q).1

        small : (t : TaskId) → In t (t0 ∷ x.tasks) → IsReduce cfg t
        small t (inl e) = subst (λ z. IsReduce cfg z) e (o.0 q).2
        small t (inr i) = x.small t i

        named : (t : TaskId) → In t (t0 ∷ x.tasks) → has_name (l ∷ ls) (task_name t) ≡ true
        named t (inl e) = rw (subst (λ z. name_eq l.name (task_name z) ≡ true) e (subst (λ z. name_eq l.name z ≡ true) is0 (name_eq-refl l.name))) refl
        named t (inr i) = rw (x.named t i) (or-true (name_eq l.name (task_name t)))

        find : (t : TaskId) → (name_eq l.name (task_name t) ≡ true) ⊎ (has_name ls (task_name t) ≡ true) → In t (t0 ∷ x.tasks)
        find t (inl u) = inl (task_name-inj t0 t (sym is0 ∙ name_eq-true l.name (task_name t) u))
        find t (inr u) = inr (x.all t u)

-- A listing of one name
pub only-one : (n : Name) (ls : List Listed) → Rises ls → ((l : Listed) → In l ls → l.name ≡ n) → has_name ls n ≡ true → (d : Kind) × (ls ≡ record { name = n; kind = d } ∷ [])
only-one n [] r f e = absurd (false≢true e)
only-one n (l ∷ []) r f e = (l.kind, ap (λ z. record { name = z; kind = l.kind } ∷ []) (f l (inl refl)))
only-one n (l ∷ m ∷ ls) r f e = absurd (before-not n (subst (λ z. Before n z) (f m (inr (inl refl))) (subst (λ z. Before z m.name) (f l (inl refl)) r.0.0)))
