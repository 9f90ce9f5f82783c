-- Where a machine's tasks have heard alike, it acts as the master at that point.
use Rattle.std.proofs.Common.{ℕ, zero, suc, ◌+◌, ◌-◌, ◌*◌, ◌≤◌, ◌≡◌, refl, sym, ◌∙◌, ap, subst, Bool, true, false, ◌&&◌, ◌||◌, not, List, [], ◌∷◌, ◌++◌, Option, Some, None, if◌then◌else◌, is_some, nat_lt, nat_le, inl, inr, count_by, arith}
use Rattle.std.specs.List.{list_all, list_any, find}
use Rattle.std.proofs.lemmas.Bool.{eq-eqb, and_parts}
use Rattle.std.proofs.lemmas.Bool.Decides.{nat_tests}
use Rattle.mr_ids.specs.Attempt.{Attempt}
use Rattle.mr_ids.specs.declared.id.TaskId.{TaskId}
use Rattle.mr_ids.specs.declared.id.TaskKind.{TaskKind}
use Rattle.mr_ids.specs.declared.id.TaskKind.TheVariants.{Map, Reduce}
use Rattle.mr_grant.specs.Attempts as grant
use Rattle.mr_grant.specs.Attempts.{first_of}
use Rattle.mr_task.specs.Readings as task
use Rattle.mr_master_model.specs.declared.setting.Setting.{Setting}
use Rattle.mr_master_model.specs.declared.phase.LaunchFault.TheVariants as refused
use Rattle.mr_master_model.specs.Job as job
use Rattle.mr_master_model.specs.Job.{first_tasks}
use Rattle.mr_master_model.specs.Readings as read
use Rattle.mr_master_model.specs.Past as machine
use Rattle.mr_master_model.specs.Duty.{duty_at}
use Rattle.mr_world_model.specs.Ids.{of_reduces, reduce_of, same_job}
use Rattle.mr_world_model.specs.Packets.{Config}
use Rattle.mr_world_model.specs.Hearing.{Seen, is_running, is_live, is_won, may_accept, failures, accepts_task, has_winner}
use Rattle.mr_world_model.specs.Duties.{Master_step, seen, all_won, first_bar}
use Rattle.mr_world_model.specs.World.{launch_of, count_of}
use Rattle.mr_world_model.specs.Effect as cluster
use Rattle.mr_world_model.specs.Effect.{Why, TaskFault, AlreadyWon, TooManyLive, TooManyAttempts, NotRunning, NoTask, NoNode, Task, unless, live_count, tasks_of}
use Rattle.mr_world_model.specs.Claims.{In}
use Rattle.mr_world_model.specs.Calls.{of_task}
use Rattle.mr_world_model.specs.Made.{AllMade, BelongsTo}
use Rattle.mr_world_model.proofs.Basic.{unless_parts}
use Rattle.mr_world_model.proofs.Names.{same_job-true}
use Rattle.mr_world_model.proofs.Wins.{calls_agree}
use Rattle.mr_world_model.proofs.Maps.{map_calls_agree}
use Rattle.mr_world_model.proofs.Made.{fitted, all-fit, all-of-job}
use Rattle.mr_master_refinement.specs.Steps.{setting}
use Rattle.mr_master_refinement.specs.Agreement.{Rests}
use Rattle.mr_master_refinement.specs.Points.{View, Alike, StandsAt, PointAgrees, PointsAgree, refusal_as, launch_why, expire_why}
use Rattle.mr_master_refinement.proofs.Works.{phase-is, runs-is, duty-is}
use Rattle.mr_master_refinement.proofs.Recorded.{reduces_are_recorded}
use Rattle.mr_master_refinement.proofs.Bars.{bars-launched}

-- ---- readings of a view

abbrev pub live_in : View → Attempt → Bool
live_in v a = grant.has v.arrived a && (not (grant.has v.accepted a) && not (v.over a))

abbrev won_in : View → Bool
won_in v = list_any (λ a. grant.has v.accepted a && not (v.lost a)) v.arrived

abbrev refusal_in : View → Option TaskFault
refusal_in v = task.refusal_of (won_in v) (count_by (live_in v) v.arrived) v.numbered

abbrev succeeded_in : View → Option Attempt
succeeded_in v = find (λ a. grant.has v.recorded a && not (v.lost a)) v.arrived

-- ---- one task

-- what the agreement of either kind of task says that launches need
pub record Tells (k : ℕ) (s : Seen) (t : TaskId) (r : task.Seen) : Type 0 where
  pub live : (a : Attempt) → a.task ≡ t → task.is_live r a ≡ is_live s a
  pub number : r.numbered ≡ count_of s.launched t
  pub count : count_by (task.is_live r) r.arrived ≡ live_count s t s.launched
  pub won : is_running s.phase ≡ true → task.is_won r ≡ is_won s (of_reduces t.kind) t
  pub accepts : (a : Attempt) → a.task ≡ t → task.may_accept r a ≡ may_accept s a
  pub failures : (a : Attempt) → a.task ≡ t → task.failures r ≡ failures s.ended a

number-is : (m n x y : ℕ) → m ≡ 1000 * n + x → m ≡ 1000 * n + y → x ≡ y
number-is m n x y e f = omega (arith, e, f)

pub tells : (cfg : Config) (k : ℕ) (h : List Master_step) (t : TaskId) → AllMade cfg k h → t.job ≡ cfg.job → Tells k (seen cfg k h) t (of_task cfg k h t)
tells cfg k h t made here = by (of_reduces t.kind) refl
  where
    by : (b : Bool) → of_reduces t.kind ≡ b → Tells k (seen cfg k h) t (of_task cfg k h t)
    by true e = let o = calls_agree cfg k h t e (all-fit cfg k h made) in record {
      live = o.live;
      accepts = o.accepts;
      failures = o.failures;
      number = (let n = ap (λ (a : Attempt). a.number) o.next in omega (arith, n));
      count = o.live_ones;
      won = λ run. o.won run ∙ ap (λ b. is_won (seen cfg k h) b t) (sym e);
    }
    by false e = let o = map_calls_agree cfg k h t e here (all-fit cfg k h made) (all-of-job cfg k h made) in record {
      live = o.live;
      accepts = o.accepts;
      failures = o.failures;
      number = (let n = ap (λ (a : Attempt). a.number) o.next in omega (arith, n));
      count = o.live_ones;
      won = λ run. o.won ∙ ap (λ b. is_won (seen cfg k h) b t) (sym e);
    }

-- ---- the job's tasks

pub task-test : (cfg : Config) (k : ℕ) (t : TaskId) → job.is_task (setting cfg k) t ≡ cluster.is_task cfg t
task-test cfg k t = ap (λ n. same_job t.job cfg.job && nat_lt t.number n) (by t.kind)
  where
    by : (x : TaskKind) → job.count_of (setting cfg k) x ≡ tasks_of cfg x
    by Map = refl
    by Reduce = refl

pub job-is : (cfg : Config) (t : TaskId) → cluster.is_task cfg t ≡ true → t.job ≡ cfg.job
job-is cfg t e = same_job-true t.job cfg.job (and_parts (same_job t.job cfg.job) (nat_lt t.number (tasks_of cfg t.kind)) e).0

reduce-is-task : (cfg : Config) (k n : ℕ) → nat_lt n cfg.reduces ≡ true → job.is_task (setting cfg k) (reduce_of cfg.job n) ≡ true
reduce-is-task cfg k n e = let a = eq-eqb cfg.job.start cfg.job.start refl in let b = eq-eqb cfg.job.number cfg.job.number refl in λ i. a i && b i && e i

all-append : (p : TaskId → Bool) (xs : List TaskId) (x : TaskId) → list_all p (xs ++ x ∷ []) ≡ (p x && list_all p xs)
all-append p [] x = refl
all-append p (y ∷ xs) x = ap (λ b. p y && b) (all-append p xs x) ∙ swap (p y) (p x) (list_all p xs)
  where
    swap : (a b c : Bool) → (a && (b && c)) ≡ (b && (a && c))
    swap true true c = refl
    swap true false c = refl
    swap false true c = refl
    swap false false c = refl

find-is : (p q : Attempt → Bool) (xs : List Attempt) → ((a : Attempt) → In a xs → p a ≡ q a) → find p xs ≡ find q xs
find-is p q [] e = refl
find-is p q (x ∷ xs) e = let here = e x (inl refl) in let rest = find-is p q xs (λ a i. e a (inr i)) in λ i. if here i then Some x else rest i

first-bar-is : (s : Seen) (xs : List Attempt) → find (is_live s) xs ≡ first_bar s xs
first-bar-is s [] = refl
first-bar-is s (x ∷ xs) = ap (λ o. if is_live s x then Some x else o) (first-bar-is s xs)

few : (n m : ℕ) → nat_le m n ≡ not (nat_lt n m)
few n m = grind (arith, nat_tests)

task-refusal : (won : Bool) (live count : ℕ) → read.by_task (task.refusal_of won live count)
    ≡ refusal_as (unless (not won) (Task AlreadyWon) (unless (nat_lt live 2) (Task TooManyLive) (unless (nat_lt count 1000) (Task TooManyAttempts) None)))
task-refusal won live count = (let a = few live 2 in let b = few count 1000 in λ i. read.by_task (if won then Some AlreadyWon else (if a i then Some TooManyLive else (if b i then Some TooManyAttempts else None))))
    ∙ by won (nat_lt live 2) (nat_lt count 1000)
  where
    by : (x y z : Bool) → read.by_task (if x then Some AlreadyWon else (if not y then Some TooManyLive else (if not z then Some TooManyAttempts else None)))
        ≡ refusal_as (unless (not x) (Task AlreadyWon) (unless y (Task TooManyLive) (unless z (Task TooManyAttempts) None)))
    by true y z = refl
    by false false z = refl
    by false true false = refl
    by false true true = refl

module _ (cfg : Config) (k : ℕ) (h : List Master_step) (m : read.Seen) (made : AllMade cfg k h) (o : StandsAt cfg k h m) where
  abbrev W : Setting
  W = setting cfg k

  abbrev S : Seen
  S = seen cfg k h

  module _ (run : is_running S.phase ≡ true) where
    alike : (t : TaskId) → cluster.is_task cfg t ≡ true → Alike (of_task cfg k h t) (read.of_task W m t)
    alike t e = o.tasks run t (task-test cfg k t ∙ e)

    live-at : (a : Attempt) → In a m.bars → read.is_live W m a ≡ is_live S a
    live-at a i =
        let q = bars-launched cfg k h a (subst (In a) o.bars i) in
        let here = subst (BelongsTo cfg k) q.2 ((fitted cfg k h made).launches q.0 q.1) in
        ap (λ (v : View). live_in v a) (alike a.task here.1) ∙ (tells cfg k h a.task made (job-is cfg a.task here.1)).live a refl

    pub bars-at : find (read.is_live W m) m.bars ≡ first_bar S S.bars
    bars-at = find-is (read.is_live W m) (is_live S) m.bars live-at ∙ (ap (find (is_live S)) o.bars ∙ first-bar-is S S.bars)

    won-upto : (n : ℕ) → n ≤ cfg.reduces → list_all (λ t. is_some (read.succeeded W m t)) (first_tasks W Reduce n) ≡ all_won S.recorded S.winners cfg.job n
    unfolding first_tasks
    won-upto zero l = refl
    won-upto (suc n) l =
        let small : nat_lt n cfg.reduces ≡ true = grind (arith, nat_tests, l) in
        let t = reduce_of cfg.job n in
        let here = task-test cfg k t in
        let one : is_some (read.succeeded W m t) ≡ (accepts_task S.recorded t || has_winner S.winners t) =
        ap (λ (v : View). is_some (succeeded_in v)) (alike t (sym here ∙ reduce-is-task cfg k n small)) ∙ reduces_are_recorded cfg k h t refl made run in
        let rest = won-upto n (omega (arith, l)) in
        all-append (λ t. is_some (read.succeeded W m t)) (first_tasks W Reduce n) t ∙ (λ i. one i && rest i)

    rests : Rests cfg k S m
    rests = record { bars = bars-at; won = won-upto cfg.reduces (omega arith) }

  launch-at : (t : TaskId) (n : ℕ) → read.launch_refusal W m t n ≡ refusal_as (launch_why cfg S t n)
  launch-at t n = (let r = ap read.is_running o.work ∙ runs-is k S.phase o.can in let j = task-test cfg k t in
      λ i. if not (r i) then Some refused.NotRunning else (if not (j i) then Some refused.NoTask else (if not (nat_lt n cfg.nodes) then Some refused.NoNode else read.by_task (task.launch_refusal (read.of_task W m t)))))
      ∙ by (is_running S.phase) (cluster.is_task cfg t) refl refl (nat_lt n cfg.nodes)
    where
      last : is_running S.phase ≡ true → cluster.is_task cfg t ≡ true → read.by_task (task.launch_refusal (read.of_task W m t)) ≡ refusal_as (cluster.task_fault S t)
      last run here =
          let u = tells cfg k h t made (job-is cfg t here) in
          ap (λ (v : View). read.by_task (refusal_in v)) (alike run t here)
          ∙ ((let w = u.won run in λ i. read.by_task (task.refusal_of (w i) (u.count i) (u.number i)))
          ∙ task-refusal (is_won S (of_reduces t.kind) t) (live_count S t S.launched) (count_of S.launched t))

      by : (x y : Bool) → is_running S.phase ≡ x → cluster.is_task cfg t ≡ y → (z : Bool) →
          (if not x then Some refused.NotRunning else (if not y then Some refused.NoTask else (if not z then Some refused.NoNode else read.by_task (task.launch_refusal (read.of_task W m t)))))
          ≡ refusal_as (unless x NotRunning (unless y NoTask (unless z NoNode (cluster.task_fault S t))))
      by false y e f z = refl
      by true false e f z = refl
      by true true e f false = refl
      by true true e f true = last e f

  expiry-at : (n : ℕ) → read.expire_refusal W m n ≡ refusal_as (expire_why cfg S n)
  expiry-at n = (let r = ap read.is_running o.work ∙ runs-is k S.phase o.can in λ i. if not (r i) then Some refused.NotRunning else (if not (nat_lt n cfg.nodes) then Some refused.NoNode else None))
      ∙ by (is_running S.phase) (nat_lt n cfg.nodes)
    where
      by : (x y : Bool) → (if not x then Some refused.NotRunning else (if not y then Some refused.NoNode else None)) ≡ refusal_as (unless x NotRunning (unless y NoNode None))
      by false y = refl
      by true false = refl
      by true true = refl

  next-at : (t : TaskId) (n : ℕ) → launch_why cfg S t n ≡ None → read.next_attempt W m t ≡ (launch_of k S t n).attempt
  next-at t n e =
      let a = unless_parts (is_running S.phase) NotRunning _ e in let b = unless_parts (cluster.is_task cfg t) NoTask _ a.1 in
      let u = tells cfg k h t made (job-is cfg t b.0) in
      let v = alike a.0 t b.0 in
      λ i. record { task = t; number = 1000 * (k - 1) + (ap (λ (v : View). v.numbered) v ∙ u.number) i }

  pub point : PointAgrees cfg k S m
  point = record {
    phase = ap machine.phase_of o.work ∙ phase-is k S.phase o.can;
    duty = ap (duty_at W m) o.work ∙ duty-is cfg k S m S.phase o.can o.due o.tail rests;
    launch = launch-at;
    expiry = expiry-at;
    next = next-at;
  }

pub points_agree : PointsAgree
points_agree cfg k h m made o = point cfg k h m made o
