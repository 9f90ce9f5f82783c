-- Paths of the layout that part ways, and so the calls that leave an attempt's directory alone.
use Rattle.std.proofs.Common.{ℕ, ◌≡◌, refl, ◌∙◌, subst, Bool, true, false, List, [], ◌∷◌, ◌++◌, Option, Some, None, nat_eq, inl, inr, append-nil}
use Rattle.std.proofs.lemmas.Bool.{eqb-true, eqb-false}
pub use Rattle.mr_paths.specs.Path.{Diverge}
use Rattle.mr_paths.proofs.Apart.{diverge_both_ways, diverge_beneath_left, diverge_not_within, diverge_different}
use Rattle.mr_world_model.specs.Ids.{Path, Attempt, task_attempt, committed, job_attempt, temporary, marker, commit_started, part_name, TaskId}
use Rattle.mr_world_model.proofs.Names.{generation-ne, attempt_name-ne, task_name-ne, task-temporary}
use Rattle.mr_world_model.specs.Content.{Content, entry_at, beneath, Op, MkDirs, Create, Append, Close, Delete, Rename, ListDir, Exist, Read, Bar, left}
use Rattle.mr_world_model.specs.Pasts.{Wish, To_mkdirs, To_create, To_write, To_close, To_need, To_look, To_clear, To_rename, To_abort, wished_op}
use Rattle.mr_world_model.proofs.Paths.{Away, left-away, without-beneath}

pub Diverge-sym : (p q : Path) → Diverge p q → Diverge q p
Diverge-sym p q d = diverge_both_ways p q d

pub diverge-beneath : (p q y x : Path) → Diverge p q → beneath (p ++ y) (q ++ x) ≡ None
diverge-beneath p q y x d = diverge_not_within (p ++ y) q x (diverge_beneath_left p q y d)

pub diverge-beneath0 : (p q x : Path) → Diverge p q → beneath p (q ++ x) ≡ None
diverge-beneath0 p q x d = diverge_not_within p q x d

pub diverge-ne : (p q y x : Path) → Diverge p q → p ++ y ≡ q ++ x → ⊥
diverge-ne p q y x d e = diverge_different p q y x d e

pub Diverge-longer : (p q x : Path) → Diverge p q → Diverge (p ++ x) q
Diverge-longer p q x d = diverge_beneath_left p q x d

-- all that a call changes diverges from d
abbrev pub Elsewhere : Op → Path → Type 0
Elsewhere (MkDirs p) d = Diverge p d
Elsewhere (Create p closed) d = Diverge p d
Elsewhere (Append p bytes) d = Diverge p d
Elsewhere (Close p) d = Diverge p d
Elsewhere (Delete p) d = Diverge p d
Elsewhere (Rename p q) d = Diverge p d × Diverge q d
Elsewhere (ListDir p) d = Unit {0}
Elsewhere (Exist p) d = Unit {0}
Elsewhere (Read p) d = Unit {0}
Elsewhere (Bar a) d = Unit {0}

pub elsewhere-away : (op : Op) (d x : Path) → Elsewhere op d → Away op (d ++ x)
elsewhere-away (MkDirs p) d x e = subst (λ z. beneath (d ++ x) z ≡ None) (append-nil p) (diverge-beneath d p x [] (Diverge-sym p d e))
elsewhere-away (Create p closed) d x e = λ q. diverge-ne p d [] x e (append-nil p ∙ q)
elsewhere-away (Append p bytes) d x e = λ q. diverge-ne p d [] x e (append-nil p ∙ q)
elsewhere-away (Close p) d x e = λ q. diverge-ne p d [] x e (append-nil p ∙ q)
elsewhere-away (Delete p) d x e = diverge-beneath0 p d x e
elsewhere-away (Rename p q) d x e = (diverge-beneath0 p d x e.0, diverge-beneath0 q d x e.1)
elsewhere-away (ListDir p) d x e = tt
elsewhere-away (Exist p) d x e = tt
elsewhere-away (Read p) d x e = tt
elsewhere-away (Bar a) d x e = tt

pub left-elsewhere : (c : Content) (op : Op) (d : Path) → Elsewhere op d → (x : Path) → entry_at (left c op) (d ++ x) ≡ entry_at c (d ++ x)
left-elsewhere c op d e x = left-away c op (d ++ x) (elsewhere-away op d x e)

-- The layout

-- attempts' directories of different attempts or generations
pub other_attempt : (k j : ℕ) (a b : Attempt) → (k ≡ j → a ≡ b → ⊥) → Diverge (task_attempt k a) (task_attempt j b)
other_attempt k j a b n = by (nat_eq k j) refl
  where
    by : (t : Bool) → nat_eq k j ≡ t → Diverge (task_attempt k a) (task_attempt j b)
    by true e = inr (inr (inr (inr (inl (attempt_name-ne a b (n (eqb-true k j e)))))))
    by false e = inr (inr (inl (generation-ne k j (eqb-false k j e))))

pub other_generation : (k j : ℕ) → (k ≡ j → ⊥) → Diverge (job_attempt k) (job_attempt j)
other_generation k j n = inr (inr (inl (generation-ne k j n)))

pub other_task : (k j : ℕ) (t u : TaskId) → (k ≡ j → t ≡ u → ⊥) → Diverge (committed k t) (committed j u)
other_task k j t u n = by (nat_eq k j) refl
  where
    by : (b : Bool) → nat_eq k j ≡ b → Diverge (committed k t) (committed j u)
    by true e = inr (inr (inr (inl (task_name-ne t u (n (eqb-true k j e))))))
    by false e = inr (inr (inl (generation-ne k j (eqb-false k j e))))

pub attempt_committed : (k j : ℕ) (a : Attempt) (t : TaskId) → Diverge (committed j t) (task_attempt k a)
attempt_committed k j a t = inr (inr (inr (inl (task-temporary t))))

-- what a container calls leaves the directories of other attempts alone
abbrev pub OpElsewhere : Option Op → Path → Type 0
OpElsewhere None d = Unit {0}
OpElsewhere (Some op) d = Elsewhere op d

pub container_elsewhere : (k j : ℕ) (a b : Attempt) (bytes : List ℕ) (w : Wish) → (j ≡ k → b ≡ a → ⊥) → OpElsewhere (wished_op j b bytes w) (task_attempt k a)
unfolding wished_op
container_elsewhere k j a b bytes To_mkdirs n = other_attempt j k b a n
container_elsewhere k j a b bytes To_create n = Diverge-longer (task_attempt j b) (task_attempt k a) (part_name b.task ∷ []) (other_attempt j k b a n)
container_elsewhere k j a b bytes To_write n = Diverge-longer (task_attempt j b) (task_attempt k a) (part_name b.task ∷ []) (other_attempt j k b a n)
container_elsewhere k j a b bytes To_close n = Diverge-longer (task_attempt j b) (task_attempt k a) (part_name b.task ∷ []) (other_attempt j k b a n)
container_elsewhere k j a b bytes To_need n = tt
container_elsewhere k j a b bytes To_look n = tt
container_elsewhere k j a b bytes To_clear n = attempt_committed k j a b.task
container_elsewhere k j a b bytes To_rename n = (other_attempt j k b a n, attempt_committed k j a b.task)
container_elsewhere k j a b bytes To_abort n = other_attempt j k b a n
container_elsewhere k j a b bytes _ n = tt

-- the calls of recovery and the marks
pub recovery_elsewhere : (k j i : ℕ) (t : TaskId) (a : Attempt) → Elsewhere (Rename (committed j t) (committed i t)) (task_attempt k a)
recovery_elsewhere k j i t a = (attempt_committed k j a t, attempt_committed k i a t)

pub marks_elsewhere : (k : ℕ) (a : Attempt) → Elsewhere (Create commit_started true) (task_attempt k a) × Elsewhere (Create marker true) (task_attempt k a)
marks_elsewhere k a = (inl refl, inr (inl refl))

pub cleanup_absent : (c : Content) (k : ℕ) (a : Attempt) (x : Path) → entry_at (left c (Delete temporary)) (task_attempt k a ++ x) ≡ None
unfolding left
cleanup_absent c k a x = without-beneath c temporary _
