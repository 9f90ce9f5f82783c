-- The names of the layout differ, and its paths are those of mr_paths.
use Rattle.std.proofs.Common.{ℕ, ◌≡◌, refl, sym, ◌∙◌, subst, Bool, true, false}
use Rattle.std.specs.Cmp.Lexicographic.{same_text, nat_list_eq_equiv}
use Rattle.std.proofs.lemmas.Bool.{and_parts, false≢true, eqb-true}
use Rattle.mr_ids.proofs.Same.{task-is, task-itself}
use Rattle.mr_ids.proofs.Texts.{numeral_injective, task_text_injective, attempt_text_injective}
use Rattle.mr_paths.specs.Layout as layout
use Rattle.mr_paths.proofs.Apart.{part_injective, part_is_visible, names_differ}
use Rattle.mr_world_model.specs.Laws.{PathsAreTheLayouts}
use Rattle.mr_world_model.specs.Ids.{Name, Attempt, JobId, TaskId, TaskKind, Map, Reduce, temporary_name, marker_name, is_hidden, task_eq, name_eq, reduce_of, of_reduces, same_job, generation_name, attempt_name, task_name, part_name}

pub name_eq-true : (a b : Name) → name_eq a b ≡ true → a ≡ b
name_eq-true a b e = same_text a b (sym e)

pub name_eq-refl : (a : Name) → name_eq a a ≡ true
name_eq-refl a = nat_list_eq_equiv.refl a

pub name_ne : (a b : Name) → (a ≡ b → ⊥) → name_eq a b ≡ false
name_ne a b n = names_differ a b n

-- Tasks

pub task_eq-true : (t u : TaskId) → task_eq t u ≡ true → t ≡ u
unfolding task_eq
task_eq-true t u e = task-is t u e

pub task_eq-refl : (t : TaskId) → task_eq t t ≡ true
unfolding task_eq
task_eq-refl t = task-itself t

pub task_eq-is : (t u : TaskId) → t ≡ u → task_eq t u ≡ true
task_eq-is t u e = subst (λ x. task_eq t x ≡ true) e (task_eq-refl t)

pub task_ne : (t u : TaskId) → (t ≡ u → ⊥) → task_eq t u ≡ false
task_ne t u n = by (task_eq t u) refl
  where
    by : (b : Bool) → task_eq t u ≡ b → task_eq t u ≡ false
    by true e = absurd (n (task_eq-true t u e))
    by false e = e

pub task_eq-false : (t u : TaskId) → task_eq t u ≡ false → t ≡ u → ⊥
task_eq-false t u e q = false≢true (sym e ∙ task_eq-is t u q)

pub same_job-true : (i j : JobId) → same_job i j ≡ true → i ≡ j
same_job-true i j e = let p = and_parts _ _ e in λ x. record { start = eqb-true i.start j.start p.0 x; number = eqb-true i.number j.number p.1 x }

-- a reduce is its job and its number
pub reduce-is : (t : TaskId) → of_reduces t.kind ≡ true → t ≡ reduce_of t.job t.number
reduce-is t e = by t.kind refl e
  where
    by : (k : TaskKind) → t.kind ≡ k → of_reduces k ≡ true → t ≡ reduce_of t.job t.number
    by Map q f = absurd (false≢true f)
    by Reduce q f = λ i. record { job = t.job; kind = q i; number = t.number }

-- Names

pub generation-ne : (k j : ℕ) → (k ≡ j → ⊥) → name_eq (generation_name k) (generation_name j) ≡ false
unfolding generation_name
generation-ne k j n = name_ne _ _ (λ e. n (numeral_injective 1 1 k j e))

pub attempt_name-inj : (a b : Attempt) → attempt_name a ≡ attempt_name b → a ≡ b
unfolding attempt_name
attempt_name-inj a b e = attempt_text_injective a b e

pub task_name-inj : (t u : TaskId) → task_name t ≡ task_name u → t ≡ u
unfolding task_name
task_name-inj t u e = task_text_injective t u e

pub part_name-inj : (t u : TaskId) → part_name t ≡ part_name u → t.number ≡ u.number
unfolding part_name
part_name-inj t u e = part_injective t.number u.number e

pub attempt_name-ne : (a b : Attempt) → (a ≡ b → ⊥) → name_eq (attempt_name a) (attempt_name b) ≡ false
attempt_name-ne a b n = name_ne _ _ (λ e. n (attempt_name-inj a b e))

pub task_name-ne : (t u : TaskId) → (t ≡ u → ⊥) → name_eq (task_name t) (task_name u) ≡ false
task_name-ne t u n = name_ne _ _ (λ e. n (task_name-inj t u e))

pub part_name-ne : (t u : TaskId) → (t.number ≡ u.number → ⊥) → name_eq (part_name t) (part_name u) ≡ false
part_name-ne t u n = name_ne _ _ (λ e. n (part_name-inj t u e))

pub temporary-task : (t : TaskId) → name_eq temporary_name (task_name t) ≡ false
unfolding task_name
temporary-task t = refl

pub task-temporary : (t : TaskId) → name_eq (task_name t) temporary_name ≡ false
unfolding task_name
task-temporary t = refl

pub temporary-part : (t : TaskId) → name_eq temporary_name (part_name t) ≡ false
unfolding part_name layout.part
temporary-part t = refl

pub part-temporary : (t : TaskId) → name_eq (part_name t) temporary_name ≡ false
unfolding part_name layout.part
part-temporary t = refl

pub marker-part : (t : TaskId) → name_eq marker_name (part_name t) ≡ false
unfolding part_name layout.part
marker-part t = refl

pub part-marker : (t : TaskId) → name_eq (part_name t) marker_name ≡ false
unfolding part_name layout.part
part-marker t = refl

pub part_name-visible : (t : TaskId) → is_hidden (part_name t) ≡ false
unfolding part_name
part_name-visible t = part_is_visible t.number

-- The paths are those of mr_paths, at the destination and in the staging folder

pub paths_are_the_layouts : PathsAreTheLayouts
unfolding layout.temporary layout.job_attempt layout.task_attempt layout.committed layout.marker generation_name attempt_name task_name part_name
paths_are_the_layouts = record {
  temporaries = refl;
  generations = λ k. refl;
  attempts = λ k a. refl;
  tasks = λ k t. refl;
  markers = refl;
  parts = λ t. refl;
}
