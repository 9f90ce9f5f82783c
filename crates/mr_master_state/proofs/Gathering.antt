-- A list that a loop gathers, item by item.
use Rattle.std.proofs.Common.{ℕ, ◌+◌, ◌<◌, ◌≤◌, length, take, get_or, add-one, append-nil, append_assoc, ◌≡◌, refl, sym, ap, ◌∙◌, Bool, true, false, List, [], ◌∷◌, ◌++◌, filter, cond}
use Rattle.std.specs.List.{flat_map}
use Rattle.std.proofs.lemmas.Grind.{flat_map-append}
use Rattle.std.proofs.lemmas.List.{take_all, take_more}
use Rattle.mr_ids.specs.Attempt.{Attempt}
use Rattle.mr_ids.specs.declared.id.TaskId.{TaskId}
use Rattle.mr_ids.specs.declared.id.TaskKind.{TaskKind}
use Rattle.mr_task.specs.Readings as task
use Rattle.mr_master_model.specs.declared.setting.Setting.{Setting}
use Rattle.mr_master_model.specs.Job.{is_task, task_of, count_of, first_tasks}
use Rattle.mr_master_model.specs.Readings.{Seen, launch_of, of_task}
use Rattle.mr_master_tables.specs.declared.gone.Gone.{Gone}
use Rattle.mr_master_tables.specs.Gone.{is_gone, gone_of, if_gone, of_job}
use Rattle.mr_master_tasks.proofs.Telling.{task-of-is}

-- what is done for those that pass a test
pub passing : {X Y : Type 0} (p : X → Bool) (f : X → List Y) (xs : List X) → flat_map (λ x. cond (p x) (f x) []) xs ≡ flat_map f (filter p xs)
passing p f [] = refl
passing p f (x ∷ xs) = by (p x) (passing p f xs)
  where
    by : (b : Bool) → flat_map (λ x. cond (p x) (f x) []) xs ≡ flat_map f (filter p xs) → cond b (f x) [] ++ flat_map (λ x. cond (p x) (f x) []) xs ≡ flat_map f (cond b (x ∷ filter p xs) (filter p xs))
    by true rest = ap (λ ys. f x ++ ys) rest
    by false rest = rest

-- those that pass, gathered one by one
pub singles : {X : Type 0} (p : X → Bool) (xs : List X) → flat_map (λ x. cond (p x) (x ∷ []) []) xs ≡ filter p xs
singles p [] = refl
singles p (x ∷ xs) = by (p x) (singles p xs)
  where
    by : (b : Bool) → flat_map (λ x. cond (p x) (x ∷ []) []) xs ≡ filter p xs → cond b (x ∷ []) [] ++ flat_map (λ x. cond (p x) (x ∷ []) []) xs ≡ cond b (x ∷ filter p xs) (filter p xs)
    by true rest = ap (λ ys. x ∷ ys) rest
    by false rest = rest

-- ---- of the items of a list

-- one more
pub next-item : {X Y : Type 0} (f : X → List Y) (xs : List X) (i : ℕ) (x : X) (old mid new : List Y) → i < length xs → x ≡ get_or xs i x
    → mid ≡ old ++ flat_map f (take i xs) → new ≡ mid ++ f x → new ≡ old ++ flat_map f (take (i + 1) xs)
next-item {X} {Y} f xs i x old mid new within is before now =
    now
    ∙ ap (λ (l : List Y). l ++ f x) before
    ∙ append_assoc old (flat_map f (take i xs)) (f x)
    ∙ ap (λ (l : List Y). old ++ l)
    (ap (λ (l : List Y). flat_map f (take i xs) ++ l) (sym (append-nil (f x)))
    ∙ sym (flat_map-append f (take i xs) (x ∷ []))
    ∙ ap (λ (l : List X). flat_map f l) (ap (λ (y : X). take i xs ++ y ∷ []) is ∙ sym (take_more xs i x within)))

-- ---- of one task

-- one attempt, if it is live
abbrev pub if_live : Setting → Seen → TaskId → Attempt → List Attempt
if_live w s t a = cond (task.is_live (of_task w s t) a) (a ∷ []) []

pub live-all : (w : Setting) (s : Seen) (t : TaskId) (xs : List Attempt) (i : ℕ) → length xs ≤ i → is_task w t ≡ true → xs ≡ (of_task w s t).arrived
    → flat_map (if_live w s t) (take i xs) ≡ of_job w t (task.live (of_task w s t))
live-all w s t xs i all e is =
    ap (λ (l : List Attempt). flat_map (if_live w s t) l) (take_all i xs all ∙ is)
    ∙ singles (task.is_live (of_task w s t)) (of_task w s t).arrived
    ∙ ap (λ b. cond b (task.live (of_task w s t)) []) (sym e)

-- what is gathered of a list for a task of the job
pub of-job : {Y : Type 0} (w : Setting) (t : TaskId) (f : Attempt → List Y) (xs : List Attempt) → flat_map f (of_job w t xs) ≡ of_job w t (flat_map f xs)
of-job {Y} w t f xs = by (is_task w t)
  where
    by : (b : Bool) → flat_map f (cond b xs []) ≡ cond b (flat_map f xs) []
    by true = refl
    by false = refl

pub gone-all : (w : Setting) (s : Seen) (g : Gone) (t : TaskId) (xs : List Attempt) (i : ℕ) → length xs ≤ i → xs ≡ of_job w t (task.live (of_task w s t))
    → flat_map (if_gone w s g) (take i xs) ≡ of_job w t (gone_of w s g t)
gone-all w s g t xs i all is =
    ap (λ (l : List Attempt). flat_map (if_gone w s g) l) (take_all i xs all ∙ is)
    ∙ of-job w t (if_gone w s g) (task.live (of_task w s t))
    ∙ ap (λ (l : List Attempt). of_job w t l) (singles (λ a. is_gone g (launch_of w s a)) (task.live (of_task w s t)))

-- ---- of the tasks of a kind

pub next-task : {Y : Type 0} (w : Setting) (kind : TaskKind) (f : TaskId → List Y) (n : ℕ) (old mid new : List Y) → n < count_of w kind
    → mid ≡ old ++ flat_map f (first_tasks w kind n) → new ≡ mid ++ of_job w (task_of w kind n) (f (task_of w kind n)) → new ≡ old ++ flat_map f (first_tasks w kind (n + 1))
unfolding first_tasks
next-task {Y} w kind f n old mid new within before now =
    now
    ∙ (λ i. before i ++ cond (task-of-is w kind n within i) (f (task_of w kind n)) [])
    ∙ append_assoc old (flat_map f (first_tasks w kind n)) (f (task_of w kind n))
    ∙ ap (λ (l : List Y). old ++ l)
    (ap (λ (l : List Y). flat_map f (first_tasks w kind n) ++ l) (sym (append-nil (f (task_of w kind n))))
    ∙ sym (flat_map-append f (first_tasks w kind n) (task_of w kind n ∷ [])))
    ∙ ap (λ (m : ℕ). old ++ flat_map f (first_tasks w kind m)) (sym (add-one n))

pub no-task : {Y : Type 0} (w : Setting) (kind : TaskKind) (f : TaskId → List Y) (old : List Y) → old ≡ old ++ flat_map f (first_tasks w kind 0)
unfolding first_tasks
no-task w kind f old = sym (append-nil old)
