-- A node is given up: while a master runs, its machine stays with it at an expiry, and sends the same Kills.
use Rattle.std.proofs.Common.{ℕ, zero, suc, ◌≡◌, refl, sym, ◌∙◌, ap, subst, Bool, true, false, ◌&&◌, ◌||◌, not, List, [], ◌∷◌, ◌++◌, cond, filter, flat_map, None, if◌then◌else◌, is_none, nat_eq, nat_lt, inl, inr, arith}
use Rattle.std.specs.Option.{option_map}
use Rattle.std.proofs.lemmas.Bool.{false≢true, eq-eqb}
use Rattle.std.proofs.lemmas.Bool.Decides.{nat_tests}
use Rattle.std.proofs.lemmas.List.Concat.{flat_map-cons}
use Rattle.mr_ids.specs.Attempt.{Attempt}
use Rattle.mr_ids.specs.declared.id.TaskId.{TaskId}
use Rattle.mr_ids.specs.declared.id.TaskKind.{TaskKind}
use Rattle.mr_ids.specs.declared.id.TaskKind.TheVariants.{Map, Reduce}
use Rattle.mr_grant.specs.Attempts as grant
use Rattle.mr_task.specs.Readings as task
use Rattle.mr_master_model.specs.declared.setting.Setting.{Setting}
use Rattle.mr_master_model.specs.Job as job
use Rattle.mr_master_model.specs.Job.{task_of, first_tasks, all_maps, all_reduces, count_of}
use Rattle.mr_master_model.specs.Readings as read
use Rattle.mr_master_model.specs.Readings.{told_each}
use Rattle.mr_master_model.specs.Hearing as hears
use Rattle.mr_master_model.specs.Sends as sends
use Rattle.mr_master_model.specs.Sends.{killed_by}
use Rattle.mr_master_model.specs.Next as next
use Rattle.mr_world_model.specs.Ids.{of_reduces, is_reduce}
use Rattle.mr_world_model.specs.Packets.{Config}
use Rattle.mr_world_model.specs.Hearing.{Seen, Launched, is_running, is_live, has_container, live_on, in_task_order, more_bars, containers_of, end_maps, over_with, expired}
use Rattle.mr_world_model.specs.Sending.{kills_of, live_of, step_sends}
use Rattle.mr_world_model.specs.Duties.{Master_step, Expires, seen, next_seen}
use Rattle.mr_world_model.specs.Effect.{unless, NotRunning, NoNode}
use Rattle.mr_world_model.specs.Calls.{Calls, calls, next_calls, tell_each, maps_on, lost_on, of_task}
use Rattle.mr_world_model.specs.Claims.{In}
use Rattle.mr_world_model.specs.Made.{IsMade, AllMade}
use Rattle.mr_world_model.proofs.Lists.{Each, Each-append}
use Rattle.mr_world_model.proofs.Agree.{has-same}
use Rattle.mr_world_model.proofs.Standing.{on-gone}
use Rattle.mr_world_model.proofs.Made.{fitted}
use Rattle.mr_master_refinement.specs.Steps.{setting, step_of}
use Rattle.mr_master_refinement.specs.Points.{view, Alike, launch_as, refusal_as}
use Rattle.mr_master_refinement.specs.Begins.{attempts_in}
use Rattle.mr_master_refinement.specs.inner.Arrivals.{at_task, attempts}
use Rattle.mr_master_refinement.specs.Holds.{Holds, Kept}
use Rattle.mr_master_refinement.proofs.Turn.{if_cases}
use Rattle.mr_master_refinement.proofs.Begins.{told-is}
use Rattle.mr_master_refinement.proofs.Points.{point, task-test, job-is}
use Rattle.mr_master_refinement.proofs.Launches.{places, found}
use Rattle.mr_master_refinement.proofs.Alike.{live_in}
use Rattle.mr_master_refinement.proofs.Arrivals.{live-as}
use Rattle.mr_master_refinement.proofs.Kills.{launch-found, kills-are, kills-note, in-live, in-task}
use Rattle.mr_master_refinement.proofs.Deaths.{dies, loses, alike-each}
use Rattle.mr_master_refinement.proofs.Picks.{picked, is_map_on, maps-picked, has-filter, live-picked, lost-picked}
use Rattle.mr_master_refinement.proofs.Ordered.{ordered-maps, ordered-reduces}
use Rattle.mr_master_refinement.proofs.Given.{on_node, live-there, live-in, in-order, order-containers, containers-append, once-each, live-once, order-once, bars-are}
use Rattle.mr_master_refinement.proofs.Restarts.{ended-at}
use Rattle.mr_master_refinement.proofs.Held.{At, at-of, of-at}

-- ---- lists over tasks

flat-same : {A : Type 0} (f g : TaskId → List A) (ts : List TaskId) → Each (λ t. f t ≡ g t) ts → flat_map f ts ≡ flat_map g ts
flat-same f g [] e = refl
flat-same f g (t ∷ ts) e = flat_map-cons f t ts ∙ ((let here = e.0 in let rest = flat-same f g ts e.1 in λ i. here i ++ rest i) ∙ sym (flat_map-cons g t ts))

attempts-append : (xs ys : List Launched) → attempts (xs ++ ys) ≡ attempts xs ++ attempts ys
attempts-append [] ys = refl
attempts-append (x ∷ xs) ys = ap (λ z. x.attempt ∷ z) (attempts-append xs ys)

flat-attempts : (f : TaskId → List Launched) (ts : List TaskId) → flat_map (λ t. attempts (f t)) ts ≡ attempts (flat_map f ts)
flat-attempts f [] = refl
flat-attempts f (t ∷ ts) =
    flat_map-cons (λ t. attempts (f t)) t ts ∙ (ap (λ z. attempts (f t) ++ z) (flat-attempts f ts)
    ∙ (sym (attempts-append (f t) (flat_map f ts)) ∙ ap attempts (sym (flat_map-cons f t ts))))

each-task : (W : Setting) (P : TaskId → Type 0) (x : TaskKind) (n : ℕ) → ((i : ℕ) → nat_lt i n ≡ true → P (task_of W x i)) → Each P (first_tasks W x n)
unfolding first_tasks
each-task W P x zero o = tt
each-task W P x (suc n) o = Each-append P (first_tasks W x n) (task_of W x n ∷ []) (each-task W P x n (λ i e. o i (more i e))) (o n last, tt)
  where
    more : (i : ℕ) → nat_lt i n ≡ true → nat_lt i (suc n) ≡ true
    more i e = grind (arith, nat_tests, e)

    last : nat_lt n (suc n) ≡ true
    last = grind (arith, nat_tests)

is-task : (W : Setting) (x : TaskKind) (i : ℕ) → nat_lt i (count_of W x) ≡ true → job.is_task W (task_of W x i) ≡ true
is-task W x i e = let a = eq-eqb W.job.start W.job.start refl in let b = eq-eqb W.job.number W.job.number refl in λ j. a j && b j && e j

-- ---- what ends is not held

maps-at : (cfg : Config) (k n : ℕ) (ls : List Launched) (s : Seen) (c : Calls) (m : read.Seen) → At cfg k s c m → At cfg k (end_maps n ls s) c m
maps-at cfg k n [] s c m o = o
maps-at cfg k n (l ∷ ls) s c m o = if_cases (λ u. At cfg k u c m) (nat_eq l.node n && (not (is_reduce l.attempt) && is_live s l.attempt)) _ _
    (λ e. maps-at cfg k n ls _ c m (ended-at cfg k s c m (over_with s l.attempt false) o)) (λ e. maps-at cfg k n ls s c m o)

module _ (cfg : Config) (k : ℕ) (h : List Master_step) (m : read.Seen) (made : AllMade cfg k h) (o : Holds cfg k h m) (n : ℕ) (u : IsMade cfg k (seen cfg k h) (Expires n)) where
  abbrev W : Setting
  W = setting cfg k

  abbrev S : Seen
  S = seen cfg k h

  abbrev C : Calls
  C = calls cfg k h

  run : is_running S.phase ≡ true
  run = u.0

  here : At cfg k S C m
  here = at-of cfg k h m o

  -- ---- the live attempts that were launched there

  on-there : (ls : List Launched) → ((l : Launched) → In l ls → In l S.launched) → filter (λ a. read.launched_on n (read.launch_of W m a)) (attempts ls) ≡ attempts (on_node n ls)
  on-there [] i = refl
  on-there (l ∷ ls) i = (let test = ap (read.launched_on n) ((found cfg k h m made o run).launch l.attempt ∙ ap (option_map launch_as) (launch-found cfg k h m made o.launched (o.stands.tasks run) l (i l (inl refl)))) in let rest = on-there ls (λ x j. i x (inr j)) in
      λ j. cond (test j) (l.attempt ∷ rest j) (rest j)) ∙ by (nat_eq l.node n)
    where
      by : (b : Bool) → cond b (l.attempt ∷ attempts (on_node n ls)) (attempts (on_node n ls)) ≡ attempts (cond b (l ∷ on_node n ls) (on_node n ls))
      by true = refl
      by false = refl

  given-there : (t : TaskId) (r : Bool) → job.is_task W t ≡ true → of_reduces t.kind ≡ r → hears.given_up W m n t ≡ attempts (at_task t (live_on S r n S.launched))
  given-there t r own e =
      ap (filter (λ a. read.launched_on n (read.launch_of W m a))) (live-as cfg k h m t made (job-is cfg t (sym (task-test cfg k t) ∙ own)) (o.stands.tasks run t own))
      ∙ (on-there (at_task t (live_of S S.launched)) (λ l i. in-live S S.launched l (in-task t (live_of S S.launched) l i))
      ∙ ap attempts (live-there S r n t S.launched e))

  abbrev Those : Bool → List Launched
  Those r = in_task_order (live_on S r n S.launched)

  own-task : (l : Launched) → In l S.launched → job.is_task W l.attempt.task ≡ true
  own-task l i = task-test cfg k l.attempt.task ∙ ((fitted cfg k h made).launches l i).1

  kind-map : (x : TaskKind) → of_reduces x ≡ false → x ≡ Map
  kind-map Map e = refl
  kind-map Reduce e = absurd (false≢true (sym e))

  kind-reduce : (x : TaskKind) → of_reduces x ≡ true → x ≡ Reduce
  kind-reduce Reduce e = refl
  kind-reduce Map e = absurd (false≢true e)

  each-in : (P : Launched → Type 0) (ls : List Launched) → ((l : Launched) → In l ls → P l) → Each P ls
  each-in P [] o = tt
  each-in P (l ∷ ls) o = (o l (inl refl), each-in P ls (λ x i. o x (inr i)))

  maps-given : flat_map (hears.given_up_of_maps W m n) (all_maps W) ≡ attempts (Those false)
  maps-given =
      flat-same (hears.given_up_of_maps W m n) (λ t. attempts (at_task t (live_on S false n S.launched))) (all_maps W)
      (each-task W (λ t. hears.given_up_of_maps W m n t ≡ attempts (at_task t (live_on S false n S.launched))) Map W.maps (λ i e. given-there (task_of W Map i) false (is-task W Map i e) refl))
      ∙ (flat-attempts (λ t. at_task t (live_on S false n S.launched)) (all_maps W)
      ∙ ap attempts (sym (ordered-maps W (live_on S false n S.launched) (each-in (λ l. (job.is_task W l.attempt.task ≡ true) × (l.attempt.task.kind ≡ Map)) (live_on S false n S.launched)
      (λ l i. let v = live-in S false n S.launched l i in (own-task l v.0, kind-map l.attempt.task.kind v.1))))))

  reduces-given : flat_map (hears.given_up W m n) (all_reduces W) ≡ attempts (Those true)
  reduces-given =
      flat-same (hears.given_up W m n) (λ t. attempts (at_task t (live_on S true n S.launched))) (all_reduces W)
      (each-task W (λ t. hears.given_up W m n t ≡ attempts (at_task t (live_on S true n S.launched))) Reduce W.reduces (λ i e. given-there (task_of W Reduce i) true (is-task W Reduce i e) refl))
      ∙ (flat-attempts (λ t. at_task t (live_on S true n S.launched)) (all_reduces W)
      ∙ ap attempts (sym (ordered-reduces W (live_on S true n S.launched) (each-in (λ l. (job.is_task W l.attempt.task ≡ true) × (l.attempt.task.kind ≡ Reduce)) (live_on S true n S.launched)
      (λ l i. let v = live-in S true n S.launched l i in (own-task l v.0, kind-reduce l.attempt.task.kind v.1))))))

  those-in : (r : Bool) (l : Launched) → In l (Those r) → In l S.launched
  those-in r l i = (live-in S r n S.launched l (in-order (live_on S r n S.launched) l i)).0

  -- ---- what is sent

  unrefused : read.expire_refusal W m n ≡ None
  unrefused = (point cfg k h m made o.stands).expiry n ∙ (λ i. refusal_as (unless (u.0 i) NotRunning (unless (u.1 i) NoNode None)))

  pub kills-sent : sends.expiry_sends W m n ≡ kills_of (Those false)
  kills-sent = (λ i. if is_none (unrefused i) then flat_map (sends.kill_of W m) (maps-given i) else [])
      ∙ kills-are cfg k h m made o.launched (o.stands.tasks run) (Those false) (those-in false)

  killed-is : (x : ℕ) → killed_by (sends.expiry_sends W m n) m.killed x ≡ has_container (containers_of (live_on S false n S.launched) ++ S.killed) (record { app = k; number = x })
  killed-is x =
      ap (λ es. killed_by es m.killed x) kills-sent
      ∙ (kills-note k (Those false) m.killed x (λ l i. (places cfg k h made).0.apps l (those-in false l i))
      ∙ ((let same = order-containers (live_on S false n S.launched) (record { app = k; number = x }) in let before = o.killed run x in λ i. same i || before i)
      ∙ sym (containers-append (containers_of (live_on S false n S.launched)) S.killed (record { app = k; number = x }))))

  -- ---- bars

  bars-are-due : m.bars ++ hears.new_bars W m n ≡ more_bars S.bars (Those true)
  bars-are-due =
      (λ i. o.stands.bars i ++ filter (λ a. not (grant.has (o.stands.bars i) a)) (reduces-given i))
      ∙ ((λ i. S.bars ++ filter (λ a. not (has-same S.bars a i)) (attempts (Those true)))
      ∙ sym (bars-are S.bars (Those true) (order-once (live_on S true n S.launched)
      (live-once S true n S.launched (once-each k S.launched (places cfg k h made).1 (places cfg k h made).0.attempts)))))

  -- ---- what tasks hear

  abbrev Told : Calls
  Told = tell_each dies (maps_on n S.launched) (tell_each loses (lost_on S.recorded n S.standing) C)

  module _ (t : TaskId) (own : job.is_task W t ≡ true) where
    ends-alike : (a : Attempt) → live_in (view (of_task cfg k h t)) a ≡ true → grant.has (hears.given_up_of_maps W m n t) a ≡ grant.has (attempts_in t (maps_on n S.launched)) a
    ends-alike a e = by t.kind refl ∙ (λ j. grant.has (attempts_in t (sym (maps-picked n S.launched) j)) a)
      where
        of-task : (l : Launched) → l.attempt.task ≡ t → (x : TaskKind) → t.kind ≡ x → is_reduce l.attempt ≡ of_reduces x
        of-task l q x r = (λ i. of_reduces (q i).kind) ∙ ap of_reduces r

        no-more : (b : Bool) → b ≡ (b && true)
        no-more true = refl
        no-more false = refl

        none : (b : Bool) → false ≡ (b && false)
        none true = refl
        none false = refl

        by : (x : TaskKind) → t.kind ≡ x → grant.has (hears.of_maps x (hears.given_up W m n t)) a ≡ grant.has (attempts_in t (picked (is_map_on n) S.launched)) a
        by Map r = live-picked cfg k h m made o run t own (read.launched_on n) (is_map_on n) refl
            (λ l q. no-more (nat_eq l.node n) ∙ (λ i. nat_eq l.node n && not (sym (of-task l q Map r) i))) a e
        by Reduce r = sym (has-filter (λ b. false) (task.live (read.of_task W m t)) a)
            ∙ live-picked cfg k h m made o run t own (λ f. false) (is_map_on n) refl
            (λ l q. none (nat_eq l.node n) ∙ (λ i. nat_eq l.node n && not (sym (of-task l q Reduce r) i))) a e

    alike-there : Alike (task.seen t k (Told t)) (task.seen t k ((hears.expired W m n).calls t))
    alike-there =
        subst (λ c. Alike (task.seen t k c) (task.seen t k ((hears.expired W m n).calls t))) (sym told)
        (subst (λ c. Alike (task.seen t k (told_each dies (attempts_in t (maps_on n S.launched)) (told_each loses (attempts_in t (lost_on S.recorded n S.standing)) (C t)))) (task.seen t k c)) (sym machine)
        (alike-each t k (C t) (m.calls t) _ _ (hears.given_up_of_maps W m n t) (hears.lost_on W m n t) (o.stands.tasks run t own) ends-alike
        (λ a e kept. lost-picked cfg k h m made o run t own (read.lies_on n) (λ p. nat_eq p.node n) (λ p. refl) a e kept
        ∙ (λ j. grant.has (attempts_in t (sym (on-gone S.recorded n S.standing) j)) a))))
      where
        told : Told t ≡ told_each dies (attempts_in t (maps_on n S.launched)) (told_each loses (attempts_in t (lost_on S.recorded n S.standing)) (C t))
        told = told-is dies t (maps_on n S.launched) (tell_each loses (lost_on S.recorded n S.standing) C)
            ∙ ap (told_each dies (attempts_in t (maps_on n S.launched))) (told-is loses t (lost_on S.recorded n S.standing) C)

        machine : (hears.expired W m n).calls t ≡ told_each loses (hears.lost_on W m n t) (told_each dies (hears.given_up_of_maps W m n t) (m.calls t))
        machine = λ j. if own j then told_each loses (hears.lost_on W m n t) (if own j then told_each dies (hears.given_up_of_maps W m n t) (m.calls t) else m.calls t)
            else (if own j then told_each dies (hears.given_up_of_maps W m n t) (m.calls t) else m.calls t)

  -- ---- the step

  expiry-keeps : Holds cfg k (Expires n ∷ h) (next.next_seen W m (step_of (Expires n)))
  unfolding next_seen next_calls expired next.next_seen next.moved next.sent_by
  expiry-keeps = of-at cfg k h (Expires n) _
      (subst (λ z. At cfg k (next_seen cfg k S (Expires n)) (next_calls cfg k S (Expires n) C) z) (λ i. next.with_kills (sends.expiry_sends W m n) (if is_none (sym unrefused i) then hears.expired W m n else m))
      (maps-at cfg k n S.launched _ Told _ (record {
        work = here.work;
        can = here.can;
        due = here.due;
        tail = here.tail;
        bars = bars-are-due;
        tasks = λ go t own. alike-there t own;
        launched = here.launched;
        known = here.known;
        earlier = here.earlier;
        killed = λ go. killed-is;
      })))

  expiry-sends : next.sent_by W m (step_of (Expires n)) ≡ step_sends cfg S (next_seen cfg k S (Expires n)) (Expires n)
  unfolding next.sent_by
  expiry-sends = kills-sent

pub expiries_keep : (cfg : Config) (k : ℕ) (h : List Master_step) (m : read.Seen) (n : ℕ) → Kept cfg k h m (Expires n)
expiries_keep cfg k h m n made o runs = expiry-keeps cfg k h m made.1 o n made.0

pub expiries_send : (cfg : Config) (k : ℕ) (h : List Master_step) (m : read.Seen) (n : ℕ) → AllMade cfg k (Expires n ∷ h) → Holds cfg k h m →
    next.sent_by (setting cfg k) m (step_of (Expires n)) ≡ step_sends cfg (seen cfg k h) (next_seen cfg k (seen cfg k h) (Expires n)) (Expires n)
expiries_send cfg k h m n made o = expiry-sends cfg k h m made.1 o n made.0
