-- A machine wants the task launched next that its master does.
use Rattle.std.proofs.Common.{ℕ, zero, suc, ◌≡◌, ◌≤◌, refl, sym, ◌∙◌, ap, Bool, true, false, ◌&&◌, not, nat_eq, nat_lt, List, [], ◌∷◌, ◌++◌, Option, Some, None, if◌then◌else◌, is_none, is_some, length, filter, arith}
use Rattle.std.specs.List.{list_all, list_any, find}
use Rattle.std.specs.Option.{option_or}
use Rattle.std.proofs.lemmas.Bool.{eq-eqb, ne_eqb}
use Rattle.std.proofs.lemmas.Bool.Decides.{nat_tests}
use Rattle.std.proofs.lemmas.List.Sums.{length-filter}
use Rattle.mr_ids.specs.Attempt.{Attempt}
use Rattle.mr_ids.specs.declared.id.TaskId.{TaskId}
use Rattle.mr_ids.specs.declared.id.TaskKind.{TaskKind}
use Rattle.mr_ids.specs.declared.id.TaskKind.TheVariants.{Map, Reduce}
use Rattle.mr_grant.specs.Attempts as grant
use Rattle.mr_grant.specs.Attempts.{first_of}
use Rattle.mr_task.specs.Readings as task
use Rattle.mr_master_model.specs.declared.setting.Setting.{Setting}
use Rattle.mr_master_model.specs.Job.{first_tasks, task_of}
use Rattle.mr_master_model.specs.Readings as read
use Rattle.mr_world_model.specs.Ids.{map_of}
use Rattle.mr_world_model.specs.Packets.{Config}
use Rattle.mr_world_model.specs.Hearing.{Seen, Placed, has, is_running, stands}
use Rattle.mr_world_model.specs.Duties.{Master_step, seen}
use Rattle.mr_world_model.specs.Effect as cluster
use Rattle.mr_world_model.specs.Effect.{live_count}
use Rattle.mr_world_model.specs.Wanted.{waits, map_succeeded, maps_succeeded, is_recorded_in, first_waiting, wanted_reduce, wanted}
use Rattle.mr_world_model.specs.Calls.{of_task}
use Rattle.mr_world_model.specs.Made.{AllMade}
use Rattle.mr_master_refinement.specs.Steps.{setting}
use Rattle.mr_master_refinement.specs.Points.{View, Alike, StandsAt}
use Rattle.mr_master_refinement.proofs.Works.{runs-is}
use Rattle.mr_master_refinement.proofs.Points.{tells, task-test, job-is}
use Rattle.mr_master_refinement.proofs.Places.{recorded_at, succeeded-as}

-- ---- lists and tests

none-first : (xs : List Attempt) → is_none (first_of xs) ≡ nat_eq (length xs) 0
none-first [] = refl
none-first (x ∷ xs) = sym (ne_eqb (length (x ∷ xs)) 0 (λ e. omega (arith, e)))

find-last : (p : TaskId → Bool) (xs : List TaskId) (x : TaskId) → find p (xs ++ x ∷ []) ≡ option_or (find p xs) (if p x then Some x else None)
find-last p [] x = refl
find-last p (y ∷ xs) x = by (p y) (find-last p xs x)
  where
    by : (b : Bool) → find p (xs ++ x ∷ []) ≡ option_or (find p xs) (if p x then Some x else None) → (if b then Some y else find p (xs ++ x ∷ [])) ≡ option_or (if b then Some y else find p xs) (if p x then Some x else None)
    by true e = refl
    by false e = e

all-last : (p : TaskId → Bool) (xs : List TaskId) (x : TaskId) → list_all p (xs ++ x ∷ []) ≡ (p x && list_all p xs)
all-last p [] x = refl
all-last p (y ∷ xs) x = ap (λ b. p y && b) (all-last p xs x) ∙ swap (p y) (p x) (list_all p xs)
  where
    swap : (a b c : Bool) → (a && (b && c)) ≡ (b && (a && c))
    swap true true c = refl
    swap true false c = refl
    swap false true c = refl
    swap false false c = refl

or-is : (o u : Option TaskId) → read.or_else o u ≡ option_or o u
or-is None u = refl
or-is (Some t) u = refl

recorded-is : (s : Seen) (o : Option Placed) → is_some (recorded_at s.recorded o) ≡ is_recorded_in s o
recorded-is s None = refl
recorded-is s (Some p) = by (has s.recorded p.attempt)
  where
    by : (b : Bool) → is_some (if b then Some p.attempt else None) ≡ b
    by true = refl
    by false = refl

-- whether a task that heard so waits
abbrev waits_in : View → Bool
waits_in v = is_none (first_of (filter (λ a. grant.has v.arrived a && (not (grant.has v.accepted a) && not (v.over a))) v.arrived))
    && (not (list_any (λ a. grant.has v.accepted a && not (v.lost a)) v.arrived) && nat_lt v.numbered 1000)

-- ---- at a point of a past

module _ (cfg : Config) (k : ℕ) (h : List Master_step) (m : read.Seen) (made : AllMade cfg k h) (o : StandsAt cfg k h m) where
  abbrev W : Setting
  W = setting cfg k

  abbrev S : Seen
  S = seen cfg k h

  -- what the machine reads
  abbrev map-wanted : Option TaskId
  map-wanted = find (λ t. read.wants_launch (read.of_task W m t)) (first_tasks W Map (length cfg.splits))

  abbrev reduce-wanted : Option TaskId
  reduce-wanted = if read.all_succeeded W m (first_tasks W Map (length cfg.splits)) then find (λ t. read.wants_launch (read.of_task W m t)) (first_tasks W Reduce cfg.reduces) else None

  module _ (run : is_running S.phase ≡ true) where
    alike : (t : TaskId) → cluster.is_task cfg t ≡ true → Alike (of_task cfg k h t) (read.of_task W m t)
    alike t e = o.tasks run t (task-test cfg k t ∙ e)

    waits-is : (t : TaskId) → cluster.is_task cfg t ≡ true → read.wants_launch (read.of_task W m t) ≡ waits S t
    waits-is t e =
        let u = tells cfg k h t made (job-is cfg t e) in
        let live = none-first _ ∙ ap (λ n. nat_eq n 0) (length-filter (task.is_live (of_task cfg k h t)) (of_task cfg k h t).arrived ∙ u.count) in
        let won = u.won run in
        ap waits_in (alike t e) ∙ (λ i. live i && (not (won i) && nat_lt (u.number i) 1000))

    own-task : (kind : TaskKind) (n : ℕ) → nat_lt n (cluster.tasks_of cfg kind) ≡ true → cluster.is_task cfg (task_of W kind n) ≡ true
    own-task kind n e = let a = eq-eqb cfg.job.start cfg.job.start refl in let b = eq-eqb cfg.job.number cfg.job.number refl in λ i. (a i && b i) && e i

    first-is : (kind : TaskKind) (n : ℕ) → n ≤ cluster.tasks_of cfg kind → find (λ t. read.wants_launch (read.of_task W m t)) (first_tasks W kind n) ≡ first_waiting S (task_of W kind) n
    unfolding first_tasks
    first-is kind zero l = refl
    first-is kind (suc n) l =
        let small : nat_lt n (cluster.tasks_of cfg kind) ≡ true = grind (arith, nat_tests, l) in
        let one = waits-is (task_of W kind n) (own-task kind n small) in
        let rest = first-is kind n (omega (arith, l)) in
        find-last (λ t. read.wants_launch (read.of_task W m t)) (first_tasks W kind n) (task_of W kind n) ∙ (λ i. option_or (rest i) (if one i then Some (task_of W kind n) else None))

    all-is : (n : ℕ) → n ≤ length cfg.splits → read.all_succeeded W m (first_tasks W Map n) ≡ maps_succeeded S n
    unfolding first_tasks
    all-is zero l = refl
    all-is (suc n) l =
        let small : nat_lt n (length cfg.splits) ≡ true = grind (arith, nat_tests, l) in
        let t = map_of cfg.job n in
        let one : is_some (read.succeeded W m t) ≡ map_succeeded S n = ap is_some (succeeded-as cfg k h made t refl refl m (alike t (own-task Map n small))) ∙ recorded-is S (stands S.standing n) in
        let rest = all-is n (omega (arith, l)) in
        all-last (λ t. is_some (read.succeeded W m t)) (first_tasks W Map n) t ∙ (λ i. one i && rest i)

    wanted-running : read.or_else map-wanted reduce-wanted ≡ option_or (first_waiting S (map_of cfg.job) (length cfg.splits)) (wanted_reduce cfg S)
    wanted-running = or-is map-wanted reduce-wanted ∙ (let a = first-is Map (length cfg.splits) (omega arith) in let b = all-is (length cfg.splits) (omega arith) in let c = first-is Reduce cfg.reduces (omega arith) in
        λ i. option_or (a i) (if b i then c i else None))

  pub wanted-at : read.wanted W m ≡ wanted cfg S
  wanted-at = ap (λ b. if not b then None else read.or_else map-wanted reduce-wanted) (ap read.is_running o.work ∙ runs-is k S.phase o.can) ∙ by (is_running S.phase) refl
    where
      by : (b : Bool) → is_running S.phase ≡ b → (if not b then None else read.or_else map-wanted reduce-wanted)
          ≡ (if b then option_or (first_waiting S (map_of cfg.job) (length cfg.splits)) (wanted_reduce cfg S) else None)
      by true e = wanted-running e
      by false e = refl
