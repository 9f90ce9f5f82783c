-- Laws of paths and of the layout, for whoever reasons on them without their definitions.
use Rattle.std.specs.Prelude.{◌≡◌, ◌≢◌, ◌↔◌, ℕ, true, false, List, [], ◌∷◌, ◌++◌, All, Some, None, codes}
use Rattle.mr_ids.specs.Attempt.{Attempt}
use Rattle.mr_ids.specs.declared.id.TaskId.{TaskId}
use Rattle.mr_ids.specs.Text.{numeral, task_text, attempt_text}
use Rattle.mr_paths.specs.Path.{IsName, strip, parent, Diverge}
use Rattle.mr_paths.specs.Text.{path_text}
use Rattle.mr_paths.specs.Layout.{temporary_name, marker_name, temporary, job_attempt, task_attempt, committed, marker, part, staging, is_hidden}

-- no two paths have one text
abbrev pub TextsAreDistinct : Type 0
TextsAreDistinct = (p q : List (List ℕ)) → All IsName p → All IsName q → path_text p ≡ path_text q → p ≡ q

-- a path stands at or beneath another where it is that other and more names; and it stands on what is left without its last name
pub record PathsAreNested : Type 0 where
  pub beneath : (top path rest : List (List ℕ)) → strip top path ≡ Some rest ↔ (path ≡ top ++ rest)
  pub child : (top : List (List ℕ)) (name : List ℕ) → parent (top ++ name ∷ []) ≡ top

-- what stands at or beneath paths that part ways stays apart
pub record PartedStayApart : Type 0 where
  pub both_ways : (p q : List (List ℕ)) → Diverge p q → Diverge q p
  pub beneath_each : (p q x y : List (List ℕ)) → Diverge p q → Diverge (p ++ x) (q ++ y)
  pub beneath_left : (p q x : List (List ℕ)) → Diverge p q → Diverge (p ++ x) q
  pub beneath_right : (p q y : List (List ℕ)) → Diverge p q → Diverge p (q ++ y)
  pub beneath_one : (top p q : List (List ℕ)) → Diverge p q → Diverge (top ++ p) (top ++ q)
  pub not_within : (p q x : List (List ℕ)) → Diverge p q → strip p (q ++ x) ≡ None
  pub different : (p q x y : List (List ℕ)) → Diverge p q → p ++ x ≢ q ++ y
  pub by_name : (n m : List ℕ) (p q : List (List ℕ)) → n ≢ m → Diverge (n ∷ p) (m ∷ q)

-- what the layout's paths stand beneath
pub record LayoutIsNested (dest : List (List ℕ)) : Type 0 where
  pub temporaries : temporary dest ≡ dest ++ temporary_name ∷ []
  pub markers : marker dest ≡ dest ++ marker_name ∷ []
  pub generations : (k : ℕ) → job_attempt dest k ≡ temporary dest ++ numeral 1 k ∷ []
  pub attempts : (k : ℕ) (a : Attempt) → task_attempt dest k a ≡ job_attempt dest k ++ temporary_name ∷ attempt_text a ∷ []
  pub tasks : (k : ℕ) (t : TaskId) → committed dest k t ≡ job_attempt dest k ++ task_text t ∷ []
  pub attempts_of_all : (k : ℕ) (a : Attempt) → task_attempt dest k a ≡ temporary dest ++ numeral 1 k ∷ temporary_name ∷ attempt_text a ∷ []
  pub tasks_of_all : (k : ℕ) (t : TaskId) → committed dest k t ≡ temporary dest ++ numeral 1 k ∷ task_text t ∷ []

-- what stands beside one another in the layout parts ways: distinct generations, attempts, tasks and reduces have distinct paths
pub record LayoutPartsWays (dest : List (List ℕ)) : Type 0 where
  pub generations : (k j : ℕ) → k ≢ j → Diverge (job_attempt dest k) (job_attempt dest j)
  pub attempts : (k j : ℕ) (a b : Attempt) → (k ≡ j → a ≢ b) → Diverge (task_attempt dest k a) (task_attempt dest j b)
  pub tasks : (k j : ℕ) (t u : TaskId) → (k ≡ j → t ≢ u) → Diverge (committed dest k t) (committed dest j u)
  pub task_and_attempt : (k j : ℕ) (t : TaskId) (a : Attempt) → Diverge (committed dest k t) (task_attempt dest j a)
  pub temporary_and_marker : Diverge (temporary dest) (marker dest)
  pub temporary_and_part : (n : ℕ) → Diverge (temporary dest) (dest ++ part n ∷ [])
  pub marker_and_part : (n : ℕ) → Diverge (marker dest) (dest ++ part n ∷ [])
  pub parts : (n m : ℕ) → n ≢ m → Diverge (dest ++ part n ∷ []) (dest ++ part m ∷ [])
  pub temporary_and_visible : (name : List ℕ) → is_hidden name ≡ false → Diverge (temporary dest) (dest ++ name ∷ [])
  pub marker_and_visible : (name : List ℕ) → is_hidden name ≡ false → Diverge (marker dest) (dest ++ name ∷ [])
  pub generation_and_marker : (k : ℕ) → Diverge (job_attempt dest k) (marker dest)
  pub attempt_and_marker : (k : ℕ) (a : Attempt) → Diverge (task_attempt dest k a) (marker dest)
  pub task_and_marker : (k : ℕ) (t : TaskId) → Diverge (committed dest k t) (marker dest)
  pub generation_and_visible : (k : ℕ) (name : List ℕ) → is_hidden name ≡ false → Diverge (job_attempt dest k) (dest ++ name ∷ [])
  pub attempt_and_visible : (k : ℕ) (a : Attempt) (name : List ℕ) → is_hidden name ≡ false → Diverge (task_attempt dest k a) (dest ++ name ∷ [])
  pub task_and_visible : (k : ℕ) (t : TaskId) (name : List ℕ) → is_hidden name ≡ false → Diverge (committed dest k t) (dest ++ name ∷ [])
  pub staged : (n m : List ℕ) → n ≢ m → Diverge (staging n) (staging m)
  pub staged_elsewhere : (name : List ℕ) (rest : List (List ℕ)) → Diverge (codes "staging" ∷ []) dest → Diverge (staging name) (dest ++ rest)

-- of what the committer makes at a destination, the directory of work and the marker are hidden, and the part files are not
pub record HiddenNames : Type 0 where
  pub works : is_hidden temporary_name ≡ true
  pub markers : is_hidden marker_name ≡ true
  pub parts : (n : ℕ) → is_hidden (part n) ≡ false
  pub tasks : (t : TaskId) → is_hidden (task_text t) ≡ false

-- the names of part files differ from one another and from the marker's
pub record PartNamesDiffer : Type 0 where
  pub parts : (n m : ℕ) → part n ≡ part m → n ≡ m
  pub part_and_marker : (n : ℕ) → part n ≢ marker_name
