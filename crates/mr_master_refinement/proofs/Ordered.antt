-- Launches in the order of their tasks: task by task, the oldest first.
use Rattle.std.proofs.Common.{ℕ, zero, suc, ◌≤◌, ◌<◌, ◌≡◌, refl, sym, ◌∙◌, ap, subst, Bool, true, false, ◌&&◌, ◌||◌, not, List, [], ◌∷◌, ◌++◌, if◌then◌else◌, flat_map, nat_lt, ◌⊎◌, inl, inr, arith}
use Rattle.std.proofs.lemmas.Bool.{and_parts, false≢true, ltb-true}
use Rattle.std.proofs.lemmas.Bool.Decides.{nat_tests}
use Rattle.std.proofs.lemmas.List.{append_assoc}
use Rattle.mr_ids.specs.declared.id.TaskId.{TaskId}
use Rattle.mr_ids.specs.declared.id.TaskKind.{TaskKind}
use Rattle.mr_ids.specs.declared.id.TaskKind.TheVariants.{Map, Reduce}
use Rattle.mr_master_model.specs.declared.setting.Setting.{Setting}
use Rattle.mr_master_model.specs.Job.{count_of, is_task, task_of, first_tasks, all_maps, all_reduces, all_tasks}
use Rattle.mr_world_model.specs.Ids.{bool_eq, task_eq, same_job, of_reduces}
use Rattle.mr_world_model.specs.Hearing.{Launched, in_place, in_task_order}
use Rattle.mr_world_model.proofs.Lists.{Each, Each-append}
use Rattle.mr_world_model.proofs.Names.{task_eq-true, task_eq-refl, same_job-true}
use Rattle.mr_master_refinement.specs.inner.Arrivals.{at_task}

-- ---- tasks in order

abbrev pub before : TaskId → TaskId → Bool
before t u = (not (of_reduces t.kind) && of_reduces u.kind) || (bool_eq (of_reduces t.kind) (of_reduces u.kind) && nat_lt t.number u.number)

abbrev After : TaskId → List TaskId → Type 0
After t ts = Each (λ u. before t u ≡ true) ts

abbrev Passed : TaskId → TaskId → Type 0
Passed t u = (before t u ≡ false) × (task_eq t u ≡ false)

-- t has one place among the tasks: it comes after those to the left and before those to the right
abbrev pub Fits : TaskId → List TaskId → Type 0
Fits t [] = ⊥
Fits t (u ∷ ts) = ((t ≡ u) × After t ts) ⊎ (Passed t u × Fits t ts)

less-not : (n : ℕ) → nat_lt n n ≡ false
less-not n = grind (arith, nat_tests)

same-bool : (b : Bool) → bool_eq b b ≡ true
same-bool true = refl
same-bool false = refl

not-before : (t : TaskId) → before t t ≡ false
not-before t = by (of_reduces t.kind)
  where
    by : (b : Bool) → ((not b && b) || (bool_eq b b && nat_lt t.number t.number)) ≡ false
    by true = less-not t.number
    by false = less-not t.number

before-other : (t u : TaskId) → before t u ≡ true → task_eq t u ≡ false
before-other t u e = by (task_eq t u) refl
  where
    by : (b : Bool) → task_eq t u ≡ b → b ≡ false
    by true q = absurd (false≢true (sym (not-before t) ∙ (ap (before t) (task_eq-true t u q) ∙ e)))
    by false q = refl

-- ---- a launch takes its place

abbrev Own : TaskId → List Launched → Type 0
Own t ls = Each (λ l. l.attempt.task ≡ t) ls

at-own : (t : TaskId) (ls : List Launched) → Own t (at_task t ls)
at-own t [] = tt
at-own t (l ∷ ls) = by (task_eq l.attempt.task t) refl (at-own t ls)
  where
    by : (b : Bool) → task_eq l.attempt.task t ≡ b → Own t (at_task t ls) → Own t (if b then at_task t ls ++ l ∷ [] else at_task t ls)
    by true e o = Each-append (λ x. x.attempt.task ≡ t) (at_task t ls) (l ∷ []) o (task_eq-true l.attempt.task t e, tt)
    by false e o = o

in-past : (l : Launched) (t : TaskId) (xs ys : List Launched) → before l.attempt.task t ≡ false → Own t xs → in_place l (xs ++ ys) ≡ xs ++ in_place l ys
in-past l t [] ys e o = refl
in-past l t (x ∷ xs) ys e o =
    ap (λ (b : Bool). if b then l ∷ x ∷ (xs ++ ys) else x ∷ in_place l (xs ++ ys)) (ap (before l.attempt.task) o.0 ∙ e)
    ∙ ap (λ zs. x ∷ zs) (in-past l t xs ys e o.1)

-- before all that comes after it
abbrev Behind : Launched → List Launched → Type 0
Behind l ls = Each (λ x. before l.attempt.task x.attempt.task ≡ true) ls

in-front : (l : Launched) (ys : List Launched) → Behind l ys → in_place l ys ≡ l ∷ ys
in-front l [] o = refl
in-front l (y ∷ ys) o = ap (λ (b : Bool). if b then l ∷ y ∷ ys else y ∷ in_place l ys) o.0

own-behind : (l : Launched) (t : TaskId) (ys : List Launched) → before l.attempt.task t ≡ true → Own t ys → Behind l ys
own-behind l t [] e o = tt
own-behind l t (y ∷ ys) e o = (ap (before l.attempt.task) o.0 ∙ e, own-behind l t ys e o.1)

module _ (l : Launched) (ls : List Launched) where
  abbrev F : TaskId → List Launched
  F t = at_task t ls

  abbrev G : TaskId → List Launched
  G t = at_task t (l ∷ ls)

  behind : (ts : List TaskId) → After l.attempt.task ts → Behind l (flat_map F ts)
  behind [] o = tt
  behind (t ∷ ts) o = Each-append (λ x. before l.attempt.task x.attempt.task ≡ true) (F t) (flat_map F ts) (own-behind l t (F t) o.0 (at-own t ls)) (behind ts o.1)

  others : (ts : List TaskId) → After l.attempt.task ts → flat_map F ts ≡ flat_map G ts
  others [] o = refl
  others (t ∷ ts) o = (let here = before-other l.attempt.task t o.0 in let rest = others ts o.1 in λ i. (if sym here i then F t ++ l ∷ [] else F t) ++ rest i)

  takes-place : (ts : List TaskId) → Fits l.attempt.task ts → in_place l (flat_map F ts) ≡ flat_map G ts
  takes-place [] o = absurd o
  takes-place (t ∷ ts) (inl o) =
      in-past l t (F t) (flat_map F ts) (ap (before l.attempt.task) (sym o.0) ∙ not-before l.attempt.task) (at-own t ls)
      ∙ (ap (λ zs. F t ++ zs) (in-front l (flat_map F ts) (behind ts o.1))
      ∙ (sym (append_assoc (F t) (l ∷ []) (flat_map F ts))
      ∙ (let here = ap (task_eq l.attempt.task) (sym o.0) ∙ task_eq-refl l.attempt.task in let rest = others ts o.1 in λ i. (if sym here i then F t ++ l ∷ [] else F t) ++ rest i)))
  takes-place (t ∷ ts) (inr o) =
      in-past l t (F t) (flat_map F ts) o.0.0 (at-own t ls)
      ∙ (let here = o.0.1 in let rest = takes-place ts o.1 in λ i. (if sym here i then F t ++ l ∷ [] else F t) ++ rest i)

-- Of tasks in order, among which each launch's task has one place.
pub ordered : (ts : List TaskId) (ls : List Launched) → Each (λ l. Fits l.attempt.task ts) ls → in_task_order ls ≡ flat_map (λ t. at_task t ls) ts
ordered ts [] o = none ts
  where
    none : (ts : List TaskId) → [] ≡ flat_map (λ t. at_task t []) ts
    none [] = refl
    none (t ∷ ts) = none ts
ordered ts (l ∷ ls) o = ap (in_place l) (ordered ts ls o.1) ∙ takes-place l ls ts o.0

-- ---- the tasks of a job are in order

abbrev All-passed : TaskId → List TaskId → Type 0
All-passed t ts = Each (λ u. Passed t u) ts

fits-right : (t : TaskId) (xs ys : List TaskId) → All-passed t xs → Fits t ys → Fits t (xs ++ ys)
fits-right t [] ys o f = f
fits-right t (x ∷ xs) ys o f = inr (o.0, fits-right t xs ys o.1 f)

fits-left : (t : TaskId) (xs ys : List TaskId) → After t ys → Fits t xs → Fits t (xs ++ ys)
fits-left t [] ys o f = absurd f
fits-left t (x ∷ xs) ys o (inl f) = inl (f.0, Each-append (λ u. before t u ≡ true) xs ys f.1 o)
fits-left t (x ∷ xs) ys o (inr f) = inr (f.0, fits-left t xs ys o f.1)

module _ (W : Setting) where
  earlier : (x : TaskKind) (i n : ℕ) → n ≤ i → All-passed (task_of W x i) (first_tasks W x n)
  unfolding first_tasks
  earlier x i zero e = tt
  earlier x i (suc n) e = Each-append (λ u. Passed (task_of W x i) u) (first_tasks W x n) (task_of W x n ∷ []) (earlier x i n (omega (arith, e))) (one, tt)
    where
      small : nat_lt i n ≡ false
      small = grind (arith, nat_tests, e)

      late : (b : Bool) → ((not b && b) || (bool_eq b b && nat_lt i n)) ≡ false
      late true = small
      late false = small

      differ : (b : Bool) → task_eq (task_of W x i) (task_of W x n) ≡ b → b ≡ false
      differ true q = absurd (apart (ap (λ (u : TaskId). u.number) (task_eq-true (task_of W x i) (task_of W x n) q)))
        where
          apart : i ≡ n → ⊥
          apart q = omega (arith, e, q)
      differ false q = refl

      one : Passed (task_of W x i) (task_of W x n)
      one = (late (of_reduces x), differ (task_eq (task_of W x i) (task_of W x n)) refl)

  pub fits-among : (x : TaskKind) (i n : ℕ) → i < n → Fits (task_of W x i) (first_tasks W x n)
  unfolding first_tasks
  fits-among x i zero e = absurd (none e)
    where
      none : i < 0 → ⊥
      none e = omega (arith, e)
  fits-among x i (suc n) e = by (nat_lt i n) refl (λ q. fits-among x i n q)
    where
      lower : nat_lt i n ≡ true → (b : Bool) → ((not b && b) || (bool_eq b b && nat_lt i n)) ≡ true
      lower q true = q
      lower q false = q

      top : i < suc n → nat_lt i n ≡ false → i ≡ n
      top e q = grind (arith, nat_tests, e, q)

      by : (b : Bool) → nat_lt i n ≡ b → (i < n → Fits (task_of W x i) (first_tasks W x n)) → Fits (task_of W x i) (first_tasks W x n ++ task_of W x n ∷ [])
      by true q go = fits-left (task_of W x i) (first_tasks W x n) (task_of W x n ∷ []) (lower q (of_reduces x), tt) (go (ltb-true i n q))
      by false q go = fits-right (task_of W x i) (first_tasks W x n) (task_of W x n ∷ []) (earlier x i n (down (top e q)))
          (inl (ap (task_of W x) (top e q), tt))
        where
          down : i ≡ n → n ≤ i
          down q = omega (arith, q)

  maps-first : (i n : ℕ) → After (task_of W Map i) (first_tasks W Reduce n)
  unfolding first_tasks
  maps-first i zero = tt
  maps-first i (suc n) = Each-append (λ u. before (task_of W Map i) u ≡ true) (first_tasks W Reduce n) (task_of W Reduce n ∷ []) (maps-first i n) (refl, tt)

  reduces-last : (i n : ℕ) → All-passed (task_of W Reduce i) (first_tasks W Map n)
  unfolding first_tasks
  reduces-last i zero = tt
  reduces-last i (suc n) = Each-append (λ u. Passed (task_of W Reduce i) u) (first_tasks W Map n) (task_of W Map n ∷ []) (reduces-last i n) ((refl, differ (task_eq (task_of W Reduce i) (task_of W Map n)) refl), tt)
    where
      kinds : Reduce ≡ Map → ⊥
      kinds q = false≢true (ap of_reduces (sym q))

      differ : (b : Bool) → task_eq (task_of W Reduce i) (task_of W Map n) ≡ b → b ≡ false
      differ true q = absurd (kinds (ap (λ (u : TaskId). u.kind) (task_eq-true (task_of W Reduce i) (task_of W Map n) q)))
      differ false q = refl

  is-its : (t : TaskId) → is_task W t ≡ true → t ≡ task_of W t.kind t.number
  is-its t e = let same = same_job-true t.job W.job (and_parts (same_job t.job W.job) (nat_lt t.number (count_of W t.kind)) e).0 in λ i. record { job = same i; kind = t.kind; number = t.number }

  below-count : (t : TaskId) → is_task W t ≡ true → nat_lt t.number (count_of W t.kind) ≡ true
  below-count t e = (and_parts (same_job t.job W.job) (nat_lt t.number (count_of W t.kind)) e).1

  pub fits-maps : (t : TaskId) → is_task W t ≡ true → t.kind ≡ Map → Fits t (all_maps W)
  fits-maps t e q =
      let less : nat_lt t.number W.maps ≡ true = ap (λ x. nat_lt t.number (count_of W x)) (sym q) ∙ below-count t e in
      subst (λ u. Fits u (all_maps W)) (ap (λ x. task_of W x t.number) (sym q) ∙ sym (is-its t e)) (fits-among Map t.number W.maps (ltb-true t.number W.maps less))

  pub fits-reduces : (t : TaskId) → is_task W t ≡ true → t.kind ≡ Reduce → Fits t (all_reduces W)
  fits-reduces t e q =
      let less : nat_lt t.number W.reduces ≡ true = ap (λ x. nat_lt t.number (count_of W x)) (sym q) ∙ below-count t e in
      subst (λ u. Fits u (all_reduces W)) (ap (λ x. task_of W x t.number) (sym q) ∙ sym (is-its t e)) (fits-among Reduce t.number W.reduces (ltb-true t.number W.reduces less))

  pub fits-all : (t : TaskId) → is_task W t ≡ true → Fits t (all_tasks W)
  fits-all t e = by t.kind refl
    where
      of-kind : (x : TaskKind) → t.kind ≡ x → task_of W x t.number ≡ t
      of-kind x q = ap (λ x. task_of W x t.number) (sym q) ∙ sym (is-its t e)

      by : (x : TaskKind) → t.kind ≡ x → Fits t (all_tasks W)
      by Map q = fits-left t (all_maps W) (all_reduces W) (subst (λ u. After u (all_reduces W)) (of-kind Map q) (maps-first t.number W.reduces)) (fits-maps t e q)
      by Reduce q = fits-right t (all_maps W) (all_reduces W) (subst (λ u. All-passed u (all_maps W)) (of-kind Reduce q) (reduces-last t.number W.maps)) (fits-reduces t e q)

  -- each launch is of a task of the job
  pub ordered-all : (ls : List Launched) → Each (λ l. is_task W l.attempt.task ≡ true) ls → in_task_order ls ≡ flat_map (λ t. at_task t ls) (all_tasks W)
  ordered-all ls o = ordered (all_tasks W) ls (each ls o)
    where
      each : (ls : List Launched) → Each (λ l. is_task W l.attempt.task ≡ true) ls → Each (λ l. Fits l.attempt.task (all_tasks W)) ls
      each [] o = tt
      each (l ∷ ls) o = (fits-all l.attempt.task o.0, each ls o.1)

  pub ordered-maps : (ls : List Launched) → Each (λ l. (is_task W l.attempt.task ≡ true) × (l.attempt.task.kind ≡ Map)) ls → in_task_order ls ≡ flat_map (λ t. at_task t ls) (all_maps W)
  ordered-maps ls o = ordered (all_maps W) ls (each ls o)
    where
      each : (ls : List Launched) → Each (λ l. (is_task W l.attempt.task ≡ true) × (l.attempt.task.kind ≡ Map)) ls → Each (λ l. Fits l.attempt.task (all_maps W)) ls
      each [] o = tt
      each (l ∷ ls) o = (fits-maps l.attempt.task o.0.0 o.0.1, each ls o.1)

  pub ordered-reduces : (ls : List Launched) → Each (λ l. (is_task W l.attempt.task ≡ true) × (l.attempt.task.kind ≡ Reduce)) ls → in_task_order ls ≡ flat_map (λ t. at_task t ls) (all_reduces W)
  ordered-reduces ls o = ordered (all_reduces W) ls (each ls o)
    where
      each : (ls : List Launched) → Each (λ l. (is_task W l.attempt.task ≡ true) × (l.attempt.task.kind ≡ Reduce)) ls → Each (λ l. Fits l.attempt.task (all_reduces W)) ls
      each [] o = tt
      each (l ∷ ls) o = (fits-reduces l.attempt.task o.0.0 o.0.1, each ls o.1)
