-- What a running master answers to a packet: its machine answers the same.
use Rattle.std.proofs.Common.{ℕ, zero, suc, ◌≤◌, ◌≡◌, refl, sym, ◌∙◌, ap, Bool, true, false, ◌&&◌, ◌||◌, not, List, [], ◌∷◌, ◌++◌, filter, flat_map, Option, Some, None, if◌then◌else◌, is_some, nat_lt, ◌⊎◌, inl, inr, arith}
use Rattle.std.specs.Option.{option_map}
use Rattle.std.proofs.lemmas.Bool.{eq-eqb}
use Rattle.std.proofs.lemmas.Bool.Decides.{nat_tests}
use Rattle.std.proofs.lemmas.List.Concat.{flat_map-cons}
use Rattle.mr_ids.specs.Attempt.{Attempt}
use Rattle.mr_ids.specs.declared.id.TaskId.{TaskId}
use Rattle.mr_ids.specs.declared.id.TaskKind.{TaskKind}
use Rattle.mr_ids.specs.declared.id.TaskKind.TheVariants.{Map, Reduce}
use Rattle.mr_grant.specs.Attempts as grant
use Rattle.mr_grant.specs.Attempts.{first_of, is_first}
use Rattle.mr_packet.specs.declared.packet.ContainerId.{ContainerId}
use Rattle.mr_packet.specs.declared.packet.Envelope.{Envelope}
use Rattle.mr_packet.specs.declared.packet.Packet.{Packet}
use Rattle.mr_packet.specs.declared.packet.Packet.TheVariants as packet
use Rattle.mr_task.specs.Calls as task_call
use Rattle.mr_task.specs.Readings as task
use Rattle.mr_task.proofs.Same.{same-sym}
use Rattle.mr_master_model.specs.declared.setting.Setting.{Setting}
use Rattle.mr_master_model.specs.Job as job
use Rattle.mr_master_model.specs.Job.{all_tasks, all_maps, all_reduces, first_tasks, count_of}
use Rattle.mr_master_model.specs.Readings as read
use Rattle.mr_master_model.specs.Hearing as hears
use Rattle.mr_master_model.specs.Sends as sends
use Rattle.mr_master_model.specs.Next as next
use Rattle.mr_world_model.specs.Ids.{is_reduce}
use Rattle.mr_world_model.specs.Packets.{Config}
use Rattle.mr_world_model.specs.Hearing.{Seen, Failing, Launched, Placed, is_running, is_named, is_attempt, may_accept, has, named_in, stands, find_launched, find_container, in_task_order}
use Rattle.mr_world_model.specs.Duties.{Master_step, Came, seen, next_seen}
use Rattle.mr_world_model.specs.Sending.{to_node, to_container, kills_of, live_of, answer_to, ack_to, ready, if_ours, is_failing, replies, step_sends}
use Rattle.mr_world_model.specs.Effect as cluster
use Rattle.mr_world_model.specs.Calls.{Calls, calls, next_calls, calls_heard, tell, tell_launched}
use Rattle.mr_world_model.specs.Made.{AllMade}
use Rattle.mr_world_model.proofs.Lists.{Each, Each-append, Each-by}
use Rattle.mr_world_model.proofs.Agree.{eq-same}
use Rattle.mr_world_model.proofs.Closed.{next-closed}
use Rattle.mr_world_model.proofs.Made.{fitted, all-fit}
use Rattle.mr_world_model.proofs.Masters.{came-phase}
use Rattle.mr_world_model.proofs.Wins.{calls_agree}
use Rattle.mr_master_refinement.specs.Steps.{setting, step_of}
use Rattle.mr_master_refinement.specs.Points.{View, Alike, launch_as, in_order}
use Rattle.mr_master_refinement.specs.Holds.{Holds, LaunchesFound, pair_of}
use Rattle.mr_master_refinement.specs.inner.Arrivals.{at_task}
use Rattle.mr_master_refinement.proofs.Works.{runs-is}
use Rattle.mr_master_refinement.proofs.Points.{task-test, job-is}
use Rattle.mr_master_refinement.proofs.Launches.{AllAlike, found, found-in}
use Rattle.mr_master_refinement.proofs.Held.{told-same}
use Rattle.mr_master_refinement.proofs.Keeps.{may-is, of-job}
use Rattle.mr_master_refinement.proofs.Stepping.{steps_keep}
use Rattle.mr_master_refinement.proofs.Arrivals.{agrees-at, launched-same}
use Rattle.mr_master_refinement.proofs.Kills.{in-live, task-kills}
use Rattle.mr_master_refinement.proofs.Falling.{running-falls-on, running-sound}
use Rattle.mr_master_refinement.proofs.Ordered.{ordered-all}
use Rattle.mr_master_refinement.proofs.Places.{recorded_at, standing-one, standing-place, succeeded-as}

-- ---- Kills to all live attempts, task by task

kills-append : (xs ys : List Launched) → kills_of (xs ++ ys) ≡ kills_of xs ++ kills_of ys
kills-append [] ys = refl
kills-append (x ∷ xs) ys = ap (λ es. to_node x.node (packet.Kill x.container) ∷ es) (kills-append xs ys)

pub kills-flat : (f : TaskId → List Launched) (ts : List TaskId) → flat_map (λ t. kills_of (f t)) ts ≡ kills_of (flat_map f ts)
kills-flat f [] = refl
kills-flat f (t ∷ ts) = flat_map-cons (λ t. kills_of (f t)) t ts ∙ (ap (λ es. kills_of (f t) ++ es) (kills-flat f ts) ∙ (sym (kills-append (f t) (flat_map f ts)) ∙ ap kills_of (sym (flat_map-cons f t ts))))

flat-same : (f g : TaskId → List Envelope) (ts : List TaskId) → Each (λ t. f t ≡ g t) ts → flat_map f ts ≡ flat_map g ts
flat-same f g [] o = refl
flat-same f g (t ∷ ts) o = flat_map-cons f t ts ∙ ((let one = o.0 in let rest = flat-same f g ts o.1 in λ i. one i ++ rest i) ∙ sym (flat_map-cons g t ts))

first-are : (cfg : Config) (k : ℕ) (x : TaskKind) (n : ℕ) → n ≤ count_of (setting cfg k) x → Each (λ t. cluster.is_task cfg t ≡ true) (first_tasks (setting cfg k) x n)
unfolding first_tasks
first-are cfg k x zero l = tt
first-are cfg k x (suc n) l = Each-append (λ t. cluster.is_task cfg t ≡ true) (first_tasks (setting cfg k) x n) (job.task_of (setting cfg k) x n ∷ []) (first-are cfg k x n (omega (arith, l))) (one, tt)
  where
    one : cluster.is_task cfg (job.task_of (setting cfg k) x n) ≡ true
    one =
        let small : nat_lt n (count_of (setting cfg k) x) ≡ true = grind (arith, nat_tests, l) in
        let a = eq-eqb cfg.job.start cfg.job.start refl in let b = eq-eqb cfg.job.number cfg.job.number refl in
        sym (task-test cfg k (job.task_of (setting cfg k) x n)) ∙ (λ i. a i && b i && small i)

all-are : (cfg : Config) (k : ℕ) → Each (λ t. cluster.is_task cfg t ≡ true) (all_tasks (setting cfg k))
all-are cfg k = Each-append (λ t. cluster.is_task cfg t ≡ true) (all_maps (setting cfg k)) (all_reduces (setting cfg k)) (first-are cfg k Map (setting cfg k).maps (omega arith)) (first-are cfg k Reduce (setting cfg k).reduces (omega arith))

each-map : {A : Type 0} (P Q : A → Type 0) (xs : List A) → ((x : A) → P x → Q x) → Each P xs → Each Q xs
each-map P Q [] f o = tt
each-map P Q (x ∷ xs) f o = (f x o.0, each-map P Q xs f o.1)

pub all-kills : (cfg : Config) (k : ℕ) (h : List Master_step) (m : read.Seen) → AllMade cfg k h → m.launched ≡ in_order (seen cfg k h).launched → AllAlike cfg k h m →
    sends.kill_all (setting cfg k) m ≡ kills_of (in_task_order (live_of (seen cfg k h) (seen cfg k h).launched))
all-kills cfg k h m made order alike =
    flat-same (sends.kills_of (setting cfg k) m) (λ t. kills_of (at_task t L)) (all_tasks (setting cfg k)) (each-map _ _ (all_tasks (setting cfg k)) (λ t e. task-kills cfg k h m made order alike t e) (all-are cfg k))
    ∙ (kills-flat (λ t. at_task t L) (all_tasks (setting cfg k))
    ∙ ap kills_of (sym (ordered-all (setting cfg k) L (Each-by _ L (λ l i. task-test cfg k l.attempt.task ∙ ((fitted cfg k h made).launches l (in-live (seen cfg k h) (seen cfg k h).launched l i)).1)))))
  where
    L : List Launched
    L = live_of (seen cfg k h) (seen cfg k h).launched

-- ---- who is named

abbrev named_view : View → Attempt → Bool
named_view v a = is_first (filter (λ b. not (v.over b)) v.asked) a

first-attempt : (xs : List Attempt) (a : Attempt) → is_first xs a ≡ is_attempt (first_of xs) a
first-attempt [] a = refl
first-attempt (x ∷ xs) a = same-sym x a ∙ sym (eq-same a x)

or-turned : (x y : Bool) → (x || y) ≡ (y || x)
or-turned true true = refl
or-turned true false = refl
or-turned false true = refl
or-turned false false = refl

module _ (cfg : Config) (k : ℕ) (h : List Master_step) (m : read.Seen) (made : AllMade cfg k h) (o : Holds cfg k h m) (run : is_running (seen cfg k h).phase ≡ true) where
  abbrev W : Setting
  W = setting cfg k

  abbrev S : Seen
  S = seen cfg k h

  abbrev C : Calls
  C = calls cfg k h

  finds : LaunchesFound cfg k S m
  finds = found cfg k h m made o run

  -- ---- Pending, Poll

  pending-sent : (a : Attempt) (x : Master_step) → AllMade cfg k (x ∷ h) → is_reduce a ≡ true → next_calls cfg k S x C ≡ tell_launched S a (task_call.Asks a) C →
      sends.pending_answer W m a ≡ answer_to (find_launched S.launched a) (is_named (next_seen cfg k S x) a)
  unfolding seen calls
  pending-sent a x more red told =
      ap (λ f. sends.answer_to a f (task.is_named (read.of_task W (hears.after_ask m a f) a.task) a)) (finds.launch a) ∙ by (find_launched S.launched a) refl
    where
      by : (f : Option Launched) → find_launched S.launched a ≡ f →
          sends.answer_to a (option_map launch_as f) (task.is_named (read.of_task W (hears.after_ask m a (option_map launch_as f)) a.task) a) ≡ answer_to f (is_named (next_seen cfg k S x) a)
      by None e = refl
      by (Some l) e = (let b = may in let c = (found-in S.launched a l e).1 in λ i. to_container l.container (packet.Answer (sym c i) (b i)) ∷ [])
        where
          own : cluster.is_task cfg a.task ≡ true
          own = of-job cfg k h m made o run a l e

          alike : Alike (task.seen a.task k (tell a.task (task_call.Asks a) C a.task)) (read.of_task W (read.tell m a.task (task_call.Asks a)) a.task)
          alike = told-same k a.task a.task (task_call.Asks a) (C a.task) (m.calls a.task) (o.stands.tasks run a.task (task-test cfg k a.task ∙ own))

          told-is : next_calls cfg k S x C ≡ tell a.task (task_call.Asks a) C
          told-is = told ∙ ap (λ (f : Option Launched). if is_some f then tell a.task (task_call.Asks a) C else C) e

          named : task.named (task.seen a.task k (next_calls cfg k S x C a.task)) ≡ named_in (next_seen cfg k S x).asked (next_seen cfg k S x).ended a.task
          named = (calls_agree cfg k (x ∷ h) a.task red (all-fit cfg k (x ∷ h) more)).named

          may : task.is_named (read.of_task W (read.tell m a.task (task_call.Asks a)) a.task) a ≡ is_named (next_seen cfg k S x) a
          may = ap (λ (v : View). named_view v a) alike
              ∙ (ap (λ (c : Calls). task.is_named (task.seen a.task k (c a.task)) a) (sym told-is)
              ∙ (first-attempt _ a
              ∙ (ap (λ (n : Option Attempt). is_attempt n a) named
              ∙ ap (λ b. b && is_attempt (named_in (next_seen cfg k S x).asked (next_seen cfg k S x).ended a.task) a) (sym red))))

  -- ---- Done

  done-sent : (a : Attempt) → sends.ack_to W m a (read.launch_of W m a) ≡ (if may_accept S a || has S.accepted a then ack_to (find_launched S.launched a) a else [])
  done-sent a = ap (sends.ack_to W m a) (finds.launch a) ∙ by (find_launched S.launched a) refl
    where
      none : (b : Bool) → [] ≡ (if b then ack_to None a else [])
      none true = refl
      none false = refl

      by : (f : Option Launched) → find_launched S.launched a ≡ f → sends.ack_to W m a (option_map launch_as f) ≡ (if may_accept S a || has S.accepted a then ack_to f a else [])
      by None e = none (may_accept S a || has S.accepted a)
      by (Some l) e = ap (λ (b : Bool). if b then to_container l.container (packet.DoneAck a) ∷ [] else []) test
        where
          own : cluster.is_task cfg a.task ≡ true
          own = of-job cfg k h m made o run a l e

          was : grant.has (read.of_task W m a.task).accepted a ≡ has S.accepted a
          was = ap (λ (v : View). grant.has v.accepted a) (o.stands.tasks run a.task (task-test cfg k a.task ∙ own)) ∙ (agrees-at cfg k h a.task made (job-is cfg a.task own)).accepted a refl (ap (λ f. is_some f) e)

          may : task.may_accept (read.of_task W m a.task) a ≡ may_accept S a
          may = may-is cfg k h m made o run a.task a refl own

          test : (grant.has (read.of_task W m a.task).accepted a || task.may_accept (read.of_task W m a.task) a) ≡ (may_accept S a || has S.accepted a)
          test = (λ i. was i || may i) ∙ or-turned (has S.accepted a) (may_accept S a)

  -- ---- Where

  where-sent : (c : ContainerId) (n : ℕ) → nat_lt n (setting cfg k).maps ≡ true → sends.ready_to W m c n (read.launched_in W m c) ≡ ready c n S.recorded (if_ours (find_container S.launched c) (stands S.standing n))
  where-sent c n small = ap (sends.ready_to W m c n) (finds.container c) ∙ by (find_container S.launched c)
    where
      t : TaskId
      t = job.task_of W Map n

      here : job.is_task W (job.task_of W Map n) ≡ true
      here = let a = eq-eqb cfg.job.start cfg.job.start refl in let b = eq-eqb cfg.job.number cfg.job.number refl in λ i. a i && b i && small i

      at : (p : Option Placed) → stands S.standing n ≡ p → sends.ready_by W m c n (recorded_at S.recorded p) ≡ ready c n S.recorded p
      at None e = refl
      at (Some p) e = rec (has S.recorded p.attempt)
        where
          rec : (b : Bool) → sends.ready_by W m c n (if b then Some p.attempt else None) ≡ (if b then to_container c (packet.MapReady n p.attempt p.node p.incarnation) ∷ [] else [])
          rec true = ap (sends.ready_at c n p.attempt) (standing-place cfg k h made m finds o.earlier p (standing-one S.standing n p e).0)
          rec false = refl

      by : (f : Option Launched) → sends.ready_to W m c n (option_map pair_of f) ≡ ready c n S.recorded (if_ours f (stands S.standing n))
      by None = refl
      by (Some l) = ap (sends.ready_by W m c n) (succeeded-as cfg k h made (job.task_of W Map n) refl refl m (o.stands.tasks run (job.task_of W Map n) here)) ∙ at (stands S.standing n) refl

  -- ---- Failed, Ended

  runs : read.is_running m.work ≡ true
  runs = ap read.is_running o.stands.work ∙ (runs-is k S.phase o.stands.can ∙ run)

  ends-sent : (p : Packet) → AllMade cfg k (Came p ∷ h) → hears.delivered W m p ≡ (if read.is_running m.work then hears.heard W m p else m) →
      (if read.is_running (hears.heard W m p).work then [] else sends.kill_all W (hears.heard W m p)) ≡
      (if is_failing (next_seen cfg k S (Came p)).phase then kills_of (in_task_order (live_of (next_seen cfg k S (Came p)) S.launched)) else [])
  unfolding next.next_seen next.moved seen
  ends-sent p more del = by (came-phase cfg k S p)
    where
      then-holds : Holds cfg k (Came p ∷ h) (next.next_seen W m (step_of (Came p)))
      then-holds = steps_keep cfg k h m (Came p) more o run

      heard-is : hears.delivered W m p ≡ hears.heard W m p
      heard-is = del ∙ (λ i. if runs i then hears.heard W m p else m)

      works : read.is_running (hears.heard W m p).work ≡ is_running (next_seen cfg k S (Came p)).phase
      works = ap (λ (x : read.Seen). read.is_running x.work) (sym heard-is) ∙ (ap read.is_running then-holds.stands.work ∙ runs-is k (next_seen cfg k S (Came p)).phase then-holds.stands.can)

      same : (next_seen cfg k S (Came p)).launched ≡ S.launched
      same = next-closed cfg (λ s l. ⊥) (λ z. z.launched ≡ S.launched) (launched-same cfg S.launched) k S (Came p) tt refl

      kills : is_failing (next_seen cfg k S (Came p)).phase ≡ true → sends.kill_all W (hears.heard W m p) ≡ kills_of (in_task_order (live_of (next_seen cfg k S (Came p)) S.launched))
      kills e = ap (λ (x : read.Seen). sends.kill_all W x) (sym heard-is)
          ∙ (all-kills cfg k (Came p ∷ h) (next.next_seen W m (step_of (Came p))) more then-holds.launched (running-falls-on cfg k h m (Came p) made o run e)
          ∙ ap (λ ls. kills_of (in_task_order (live_of (next_seen cfg k S (Came p)) ls))) same)

      by : ((next_seen cfg k S (Came p)).phase ≡ S.phase) ⊎ ((is_running S.phase ≡ true) × ((next_seen cfg k S (Came p)).phase ≡ Failing false)) →
          (if read.is_running (hears.heard W m p).work then [] else sends.kill_all W (hears.heard W m p)) ≡
          (if is_failing (next_seen cfg k S (Came p)).phase then kills_of (in_task_order (live_of (next_seen cfg k S (Came p)) S.launched)) else [])
      by (inl e) =
          let r = works ∙ (ap (λ q. is_running q) e ∙ run) in let f = ap (λ q. is_failing q) e ∙ running-sound S.phase run in
          ap (λ (b : Bool). if b then [] else sends.kill_all W (hears.heard W m p)) r
          ∙ ap (λ (b : Bool). if b then kills_of (in_task_order (live_of (next_seen cfg k S (Came p)) S.launched)) else []) (sym f)
      by (inr e) =
          let r = works ∙ ap (λ q. is_running q) e.1 in let f = ap (λ q. is_failing q) e.1 in
          ap (λ (b : Bool). if b then [] else sends.kill_all W (hears.heard W m p)) r
          ∙ (kills f ∙ ap (λ (b : Bool). if b then kills_of (in_task_order (live_of (next_seen cfg k S (Came p)) S.launched)) else []) (sym f))

  -- ---- each packet

  told-asks : (a : Attempt) (p : Packet) → calls_heard S p C ≡ tell_launched S a (task_call.Asks a) C → next_calls cfg k S (Came p) C ≡ tell_launched S a (task_call.Asks a) C
  unfolding next_calls
  told-asks a p e = (λ i. if run i then calls_heard S p C else C) ∙ e

  replies-are : (p : Packet) → AllMade cfg k (Came p ∷ h) → sends.replies W m (hears.heard W m p) p ≡ replies S (next_seen cfg k S (Came p)) p
  unfolding sends.replies calls_heard hears.delivered
  replies-are (packet.Pending a) more = pending-sent a (Came (packet.Pending a)) more more.0 (told-asks a (packet.Pending a) refl)
  replies-are (packet.Poll a) more = pending-sent a (Came (packet.Poll a)) more more.0 (told-asks a (packet.Poll a) refl)
  replies-are (packet.Done a z) more = done-sent a
  replies-are (packet.Where c n) more = where-sent c n more.0
  replies-are (packet.Failed a) more = ends-sent (packet.Failed a) more refl
  replies-are (packet.Ended c) more = ends-sent (packet.Ended c) more refl
  replies-are (packet.NodeUp n i) more = refl
  replies-are (packet.FetchLost c a) more = refl
  replies-are (packet.Launch c a i) more = refl
  replies-are (packet.Kill c) more = refl
  replies-are (packet.Fetch c a x y z) more = refl
  replies-are (packet.Won t a) more = refl
  replies-are (packet.Outcome b) more = refl
  replies-are (packet.Answer a b) more = refl
  replies-are (packet.DoneAck a) more = refl
  replies-are (packet.MapReady n a x y) more = refl
  replies-are (packet.Piece a x y z bs) more = refl

  pub came-sent : (p : Packet) → AllMade cfg k (Came p ∷ h) → next.sent_by W m (step_of (Came p)) ≡ step_sends cfg S (next_seen cfg k S (Came p)) (Came p)
  unfolding next.sent_by
  came-sent p more = (λ i. if runs i then sends.replies W m (hears.heard W m p) p else [])
      ∙ (replies-are p more ∙ (λ i. if sym run i then replies S (next_seen cfg k S (Came p)) p else []))
