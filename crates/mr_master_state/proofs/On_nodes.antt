-- Tasks of which attempts were launched on a node: what is gone with the node is theirs.
use Rattle.std.proofs.Common.{ℕ, zero, suc, ◌<◌, ◌≤◌, ◌⊎◌, inl, inr, ◌≡◌, refl, sym, ◌∙◌, ap, subst, Bool, true, false, ◌&&◌, ◌||◌, cond, nat_eq, nat_lt, List, [], ◌∷◌, ◌++◌, filter, flat_map, Option, Some, None, IfSome, IfNone, append-nil, true≢false, if◌then◌else◌, arith}
use Rattle.std.proofs.lemmas.Bool.{cases_eq}
use Rattle.std.proofs.lemmas.Grind.{flat_map-append}
use Rattle.std.specs.Map.{lookup}
use Rattle.mr_ids.specs.Attempt.{Attempt}
use Rattle.mr_ids.specs.declared.id.TaskId.{TaskId}
use Rattle.mr_ids.specs.declared.id.TaskKind.{TaskKind}
use Rattle.mr_ids.specs.declared.id.TaskKind.TheVariants.{Map}
use Rattle.mr_grant.specs.Attempts.{same_attempt, has}
use Rattle.mr_grant.proofs.Same.{same-itself}
use Rattle.mr_task.specs.Readings as task
use Rattle.mr_history.specs.declared.record.Record.{Record}
use Rattle.mr_master_model.specs.declared.launch.Launch.{Launch}
use Rattle.mr_master_model.specs.declared.setting.Setting.{Setting}
use Rattle.mr_master_model.specs.Job.{task_of, first_tasks}
use Rattle.mr_master_model.specs.Readings.{Seen, Place, of_task, is_known, launch_of, place_of, place_in, place_by, succeeded, if_passes}
use Rattle.mr_master_tables.specs.declared.gone.Gone.{Gone}
use Rattle.mr_master_tables.specs.declared.gone.Gone.TheVariants.{Restarted, GivenUp}
use Rattle.mr_master_state.specs.State.{Master, Keeps}
use Rattle.mr_master_tables.specs.Gone.{is_gone, is_lost, gone_of, lost_of}
use Rattle.mr_master_tables.specs.Earlier.{IsUntold}
use Rattle.mr_master_tables.specs.Spots.{lower, IsFree, node_of}
use Rattle.mr_master_state.proofs.Losing.{gone-own, lost-own}

-- ---- what is gone with a node was launched there

no-launch : (g : Gone) → is_gone g None ≡ false
no-launch (Restarted n i) = refl
no-launch (GivenUp n) = refl

not-gone : (g : Gone) (l : Launch) → nat_eq l.node (node_of g) ≡ false → is_gone g (Some l) ≡ false
not-gone (Restarted n i) l e = ap (λ b. b && nat_lt l.incarnation i) e
not-gone (GivenUp n) l e = e

no-place : (g : Gone) → is_lost g None ≡ false
no-place (Restarted n i) = refl
no-place (GivenUp n) = refl

not-lost : (g : Gone) (p : Place) → nat_eq p.node (node_of g) ≡ false → is_lost g (Some p) ≡ false
not-lost (Restarted n i) p e = ap (λ b. b && nat_lt p.incarnation i) e
not-lost (GivenUp n) p e = e

-- the launch of an attempt of a free task
launch-off : (w : Setting) (s : Seen) (node : ℕ) (a : Attempt) (kind : TaskKind) (number : ℕ) → IsFree s.launched kind node number → a.task.kind ≡ kind → a.task.number ≡ number
    → (P : Option Launch → Type 0) → P None → ((l : Launch) → nat_eq l.node node ≡ false → P (Some l)) → P (launch_of w s a)
launch-off w s node a kind number free k n P none some = known (is_known w s a)
  where
    found : (o : Option Launch) → lookup (same_attempt a) s.launched ≡ o → P o
    found None at = none
    found (Some l) at = some l (free a l at k n)

    known : (b : Bool) → P (if b then lookup (same_attempt a) s.launched else None)
    known true = found (lookup (same_attempt a) s.launched) refl
    known false = none

filter-none : (p : Attempt → Bool) (xs : List Attempt) → ((a : Attempt) → has (filter p xs) a ≡ true → p a ≡ false) → filter p xs ≡ []
filter-none p [] h = refl
filter-none p (x ∷ xs) h = by (p x) refl h (λ g. filter-none p xs g)
  where
    by : (b : Bool) → p x ≡ b → ((a : Attempt) → has (cond b (x ∷ filter p xs) (filter p xs)) a ≡ true → p a ≡ false)
        → (((a : Attempt) → has (filter p xs) a ≡ true → p a ≡ false) → filter p xs ≡ []) → cond b (x ∷ filter p xs) (filter p xs) ≡ []
    by true e g rest = absurd (true≢false (sym e ∙ g x (ap (λ b. b || has (filter p xs) x) (same-itself x))))
    by false e g rest = rest g

pub gone-none : (w : Setting) (s : Seen) (g : Gone) (kind : TaskKind) (number : ℕ) → IsFree s.launched kind (node_of g) number → gone_of w s g (task_of w kind number) ≡ []
gone-none w s g kind number free = filter-none (λ a. is_gone g (launch_of w s a)) (task.live (of_task w s (task_of w kind number))) (λ a there.
    let own : a.task ≡ task_of w kind number = gone-own w s g (task_of w kind number) a there in
    launch-off w s (node_of g) a kind number free (ap (λ (t : TaskId). t.kind) own) (ap (λ (t : TaskId). t.number) own) (λ o. is_gone g o ≡ false) (no-launch g) (λ l off. not-gone g l off))

passes-none : (p : Attempt → Bool) (o : Option Attempt) → ((a : Attempt) → has (if_passes p o) a ≡ true → p a ≡ false) → if_passes p o ≡ []
passes-none p None h = refl
passes-none p (Some x) h = by (p x) refl h
  where
    by : (b : Bool) → p x ≡ b → ((a : Attempt) → has (if b then x ∷ [] else []) a ≡ true → p a ≡ false) → (if b then x ∷ [] else []) ≡ []
    by true e g = absurd (true≢false (sym e ∙ g x (ap (λ b. b || false) (same-itself x))))
    by false e g = refl

-- where the records say that the output of an attempt at an untold map lies
place-off : (g : Gone) (rs : List Record) (a : Attempt) (number : ℕ) → IsUntold rs (node_of g) number → a.task.kind ≡ Map → a.task.number ≡ number → is_lost g (place_in rs a) ≡ false
place-off g rs a number untold k n = found (place_in rs a) refl
  where
    found : (o : Option Place) → place_in rs a ≡ o → is_lost g o ≡ false
    found None at = no-place g
    found (Some p) at = not-lost g p (untold a p at k n)

-- a map whose attempts were not launched on the node, and of none of which it is told that its output lies there
pub lost-none : (w : Setting) (s : Seen) (g : Gone) (number : ℕ) → IsUntold s.earlier (node_of g) number → IsFree s.launched Map (node_of g) number → lost_of w s g (task_of w Map number) ≡ []
lost-none w s g number untold free = passes-none (λ a. is_lost g (place_of w s a)) (succeeded w s (task_of w Map number)) (λ a there.
    let own : a.task ≡ task_of w Map number = lost-own w s g (task_of w Map number) a there in
    let k : a.task.kind ≡ Map = ap (λ (t : TaskId). t.kind) own in
    let n : a.task.number ≡ number = ap (λ (t : TaskId). t.number) own in
    launch-off w s (node_of g) a Map number free k n (λ o. is_lost g (place_by o (place_in s.earlier a)) ≡ false)
    (place-off g s.earlier a number untold k n) (λ l off. not-lost g (record { node = l.node; incarnation = l.incarnation }) off))

-- ---- tasks that add nothing are passed over

pub passed-over : {Y : Type 0} (w : Setting) (kind : TaskKind) (f : TaskId → List Y) (from n : ℕ) → from ≤ n → ((j : ℕ) → from ≤ j → j < n → f (task_of w kind j) ≡ []) → flat_map f (first_tasks w kind n) ≡ flat_map f (first_tasks w kind from)
unfolding first_tasks
passed-over {Y} w kind f from zero le none = let e : from ≡ 0 = omega arith in ap (λ (m : ℕ). flat_map f (first_tasks w kind m)) (sym e)
passed-over {Y} w kind f from (suc n) le none = by (cases_eq from (suc n)) (λ below. passed-over w kind f from n below (λ j high low. none j high (omega arith)))
  where
    by : (from ≡ suc n) ⊎ (from ≡ suc n → ⊥) → (from ≤ n → flat_map f (first_tasks w kind n) ≡ flat_map f (first_tasks w kind from)) → flat_map f (first_tasks w kind (suc n)) ≡ flat_map f (first_tasks w kind from)
    by (inl q) rest = ap (λ (m : ℕ). flat_map f (first_tasks w kind m)) (sym q)
    by (inr ne) rest =
        let below : from ≤ n = omega arith in
        flat_map-append f (first_tasks w kind n) (task_of w kind n ∷ [])
        ∙ ap (λ (l : List Y). flat_map f (first_tasks w kind n) ++ (l ++ [])) (none n below (omega arith))
        ∙ append-nil (flat_map f (first_tasks w kind n))
        ∙ rest below

-- ---- the lower of two numbers

pub lower-from : (a b : Option ℕ) (from : ℕ) → IfSome a (λ n. from ≤ n) → IfSome b (λ n. from ≤ n) → IfSome (lower a b) (λ n. from ≤ n)
lower-from None b from h g = g
lower-from (Some x) None from h g = h
lower-from (Some x) (Some y) from h g = let one : from ≤ x = h in let other : from ≤ y = g in omega arith

-- what holds before each holds before the lower one
pub lower-first : (a b : Option ℕ) (from : ℕ) (P Q R : ℕ → Type 0) → ((j : ℕ) → P j → Q j → R j)
    → IfSome a (λ n. (j : ℕ) → from ≤ j → j < n → P j) → IfNone a ((j : ℕ) → from ≤ j → P j)
    → IfSome b (λ n. (j : ℕ) → from ≤ j → j < n → Q j) → IfNone b ((j : ℕ) → from ≤ j → Q j)
    → IfSome (lower a b) (λ n. (j : ℕ) → from ≤ j → j < n → R j)
lower-first None None from P Q R both first none other-first other-none = tt
lower-first None (Some y) from P Q R both first none other-first other-none = λ j high low. both j (none j high) (other-first j high low)
lower-first (Some x) None from P Q R both first none other-first other-none = λ j high low. both j (first j high low) (other-none j high)
lower-first (Some x) (Some y) from P Q R both first none other-first other-none = λ j high low. both j (first j high (omega arith)) (other-first j high (omega arith))

pub lower-none : (a b : Option ℕ) (from : ℕ) (P Q R : ℕ → Type 0) → ((j : ℕ) → P j → Q j → R j) → IfNone a ((j : ℕ) → from ≤ j → P j) → IfNone b ((j : ℕ) → from ≤ j → Q j)
    → IfNone (lower a b) ((j : ℕ) → from ≤ j → R j)
lower-none None None from P Q R both none other-none = λ j high. both j (none j high) (other-none j high)
lower-none None (Some y) from P Q R both none other-none = tt
lower-none (Some x) None from P Q R both none other-none = tt
lower-none (Some x) (Some y) from P Q R both none other-none = tt

-- of what a machine keeps
pub kept-gone : (m : Master) (w : Setting) (s : Seen) (g : Gone) (kind : TaskKind) (node number : ℕ) → Keeps m w s → node ≡ node_of g → IsFree m.launches.entries kind node number → gone_of w s g (task_of w kind number) ≡ []
kept-gone m w s g kind node number k same free = gone-none w s g kind number (subst (λ (n : ℕ). IsFree s.launched kind n number) same (subst (λ (es : List (Attempt × Launch)). IsFree es kind node number) k.launches.entries free))

pub kept-lost : (m : Master) (w : Setting) (s : Seen) (g : Gone) (node number : ℕ) → Keeps m w s → node ≡ node_of g → IsFree m.launches.entries Map node number → IsUntold m.earlier node number → lost_of w s g (task_of w Map number) ≡ []
kept-lost m w s g node number k same free untold = lost-none w s g number
    (subst (λ (n : ℕ). IsUntold s.earlier n number) same (subst (λ (rs : List Record). IsUntold rs node number) k.earlier untold))
    (subst (λ (n : ℕ). IsFree s.launched Map n number) same (subst (λ (es : List (Attempt × Launch)). IsFree es Map node number) k.launches.entries free))

-- ---- loops over the tasks that are not passed over

pub up-to : {Y : Type 0} (w : Setting) (kind : TaskKind) (f : TaskId → List Y) (from n : ℕ) (old mid : List Y) → from ≤ n → mid ≡ old ++ flat_map f (first_tasks w kind from) → ((j : ℕ) → from ≤ j → j < n → f (task_of w kind j) ≡ [])
    → mid ≡ old ++ flat_map f (first_tasks w kind n)
up-to {Y} w kind f from n old mid le before none = before ∙ ap (λ (l : List Y). old ++ l) (sym (passed-over w kind f from n le none))
