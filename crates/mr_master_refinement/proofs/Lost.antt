-- A lost output: while a master runs, its machine stays with it where a fetch failed.
use Rattle.std.proofs.Common.{ℕ, ◌≡◌, refl, sym, ◌∙◌, ap, subst, Bool, true, false, ◌&&◌, not, List, ◌∷◌, Option, Some, None, if◌then◌else◌, is_some}
use Rattle.std.specs.List.{find}
use Rattle.std.specs.Option.{option_map}
use Rattle.std.proofs.lemmas.Bool.{false≢true, true≢false}
use Rattle.mr_ids.specs.Attempt.{Attempt}
use Rattle.mr_ids.specs.declared.id.TaskId.{TaskId}
use Rattle.mr_ids.specs.declared.id.TaskKind.{TaskKind}
use Rattle.mr_ids.specs.declared.id.TaskKind.TheVariants.{Map, Reduce}
use Rattle.mr_packet.specs.declared.packet.ContainerId.{ContainerId}
use Rattle.mr_packet.specs.declared.packet.Packet.TheVariants as packet
use Rattle.mr_grant.specs.Attempts as grant
use Rattle.mr_grant.proofs.Same.{same-itself}
use Rattle.mr_task.specs.Calls as task_call
use Rattle.mr_task.specs.Calls.{TaskCall}
use Rattle.mr_task.specs.Readings as task
use Rattle.mr_master_model.specs.declared.setting.Setting.{Setting}
use Rattle.mr_master_model.specs.Job as job
use Rattle.mr_master_model.specs.Readings as read
use Rattle.mr_master_model.specs.Hearing as hears
use Rattle.mr_master_model.specs.Sends as sends
use Rattle.mr_master_model.specs.Sends.{killed_by}
use Rattle.mr_master_model.specs.Next as next
use Rattle.mr_world_model.specs.Ids.{task_eq, of_reduces}
use Rattle.mr_world_model.specs.Packets.{Config}
use Rattle.mr_world_model.specs.Hearing.{Seen, Launched, Placed, is_running, find_container, has, heard, without_placed}
use Rattle.mr_world_model.specs.Duties.{Master_step, Came, seen}
use Rattle.mr_world_model.specs.Calls.{Calls, calls, calls_heard, tell, of_task}
use Rattle.mr_world_model.specs.Made.{AllMade}
use Rattle.mr_world_model.proofs.Names.{task_eq-true}
use Rattle.mr_master_refinement.specs.Steps.{setting, step_of}
use Rattle.mr_master_refinement.specs.Points.{View, view, Alike}
use Rattle.mr_master_refinement.specs.Holds.{Holds, Kept, pair_of}
use Rattle.mr_master_refinement.proofs.Turn.{if_cases}
use Rattle.mr_master_refinement.proofs.Points.{task-test, job-is}
use Rattle.mr_master_refinement.proofs.Alike.{tasks_stay_alike, can_lose}
use Rattle.mr_master_refinement.proofs.Launches.{found}
use Rattle.mr_master_refinement.proofs.Succeeds.{succeeds}
use Rattle.mr_master_refinement.proofs.Held.{At, at-of, of-at, tell-at, came-at}

-- what stands is not held
pub standing-at : (cfg : Config) (k : ℕ) (s : Seen) (c : Calls) (m : read.Seen) (ps : List Placed) → At cfg k s c m → At cfg k (record s { standing = ps }) c m
standing-at cfg k s c m ps o = record { work = o.work; can = o.can; due = o.due; tail = o.tail; bars = o.bars; tasks = o.tasks; launched = o.launched; known = o.known; earlier = o.earlier; killed = o.killed }

-- other calls, by which each task of the job has heard alike
pub calls-at : (cfg : Config) (k : ℕ) (s : Seen) (c d : Calls) (m : read.Seen) → At cfg k s c m → ((t : TaskId) → job.is_task (setting cfg k) t ≡ true → Alike (task.seen t k (d t)) (task.seen t k (m.calls t))) → At cfg k s d m
calls-at cfg k s c d m o e = record { work = o.work; can = o.can; due = o.due; tail = o.tail; bars = o.bars; tasks = λ run. e; launched = o.launched; known = o.known; earlier = o.earlier; killed = o.killed }

module _ (cfg : Config) (k : ℕ) (h : List Master_step) (m : read.Seen) (made : AllMade cfg k h) (o : Holds cfg k h m) (run : is_running (seen cfg k h).phase ≡ true) where
  abbrev W : Setting
  W = setting cfg k

  abbrev S : Seen
  S = seen cfg k h

  abbrev C : Calls
  C = calls cfg k h

  here : At cfg k S C m
  here = at-of cfg k h m o

  alike : (t : TaskId) → job.is_task W t ≡ true → Alike (of_task cfg k h t) (read.of_task W m t)
  alike t e = o.stands.tasks run t e

  succeeded-is : (t : TaskId) → job.is_task W t ≡ true → read.succeeded W m t ≡ task.succeeded (of_task cfg k h t)
  succeeded-is t e = ap (λ (v : View). find (λ a. grant.has v.recorded a && not (v.lost a)) v.arrived) (alike t e)

  -- what the machine does not hear changes nothing
  unheard : (t : TaskId) (a : Attempt) → job.is_task W t ≡ true → a.task ≡ t → hears.is_lost_map W m a a.task.kind ≡ false → Alike (of_task cfg k h t) (task.next_seen t k (of_task cfg k h t) (task_call.Loses a))
  unheard t a e q none = by (can_lose (view R) a) refl (grant.has R.lost a) refl
    where
      R : task.Seen
      R = of_task cfg k h t

      is-map : (x : TaskKind) → (not (task.is_reduce x) && grant.has R.recorded a) ≡ true → x ≡ Map
      is-map Map f = refl
      is-map Reduce f = absurd (false≢true f)

      recorded : (x : TaskKind) → (not (task.is_reduce x) && grant.has R.recorded a) ≡ true → grant.has R.recorded a ≡ true
      recorded Map f = f
      recorded Reduce f = absurd (false≢true f)

      found-lost : can_lose (view R) a ≡ true → grant.has R.lost a ≡ false → hears.is_lost_map W m a a.task.kind ≡ true
      found-lost f g =
          let kind = is-map a.task.kind f in
          let own : of_reduces t.kind ≡ false = (λ i. of_reduces (sym q i).kind) ∙ ap of_reduces kind in
          let one = succeeded-is t e ∙ succeeds cfg k h made t own (job-is cfg t (sym (task-test cfg k t) ∙ e)) a (λ i. recorded a.task.kind f i && not (g i)) in
          (λ i. hears.is_lost_map W m a (kind i)) ∙ ((λ i. job.is_task W (q i) && hears.is_attempt (read.succeeded W m (q i)) a) ∙ ((λ i. e i && hears.is_attempt (one i) a) ∙ same-itself a))

      by : (b : Bool) → can_lose (view R) a ≡ b → (c : Bool) → grant.has R.lost a ≡ c → Alike R (task.next_seen t k R (task_call.Loses a))
      by false f c g = tasks_stay_alike.lost t k R a f
      by true f true g = tasks_stay_alike.lost_again t k R a g
      by true f false g = absurd (true≢false (sym (found-lost f g) ∙ none))

  lost-at : (a : Attempt) → At cfg k S (tell a.task (task_call.Loses a) C) (if hears.is_lost_map W m a a.task.kind then read.tell m a.task (task_call.Loses a) else m)
  unfolding task.seen
  lost-at a = if_cases (λ x. At cfg k S (tell a.task (task_call.Loses a) C) x) (hears.is_lost_map W m a a.task.kind) _ _
      (λ e. tell-at cfg k S C m a.task (task_call.Loses a) here)
      (λ none. calls-at cfg k S C _ m here (λ t e. still t e none (task_eq a.task t) refl))
    where
      still : (t : TaskId) → job.is_task W t ≡ true → hears.is_lost_map W m a a.task.kind ≡ false → (b : Bool) → task_eq a.task t ≡ b →
          Alike (task.seen t k (if b then task_call.Loses a ∷ C t else C t)) (task.seen t k (m.calls t))
      still t e none true q = alike t e ∙ sym (unheard t a e (task_eq-true a.task t q) none)
      still t e none false q = alike t e

  fetch-at : (c : ContainerId) (a : Attempt) → At cfg k (heard cfg S (packet.FetchLost c a)) (calls_heard S (packet.FetchLost c a) C) (hears.heard W m (packet.FetchLost c a))
  unfolding heard calls_heard hears.heard
  fetch-at c a = subst (λ f. At cfg k (if is_some (find_container S.launched c) && has S.recorded a then record S { standing = without_placed S.standing a } else S)
      (if is_some (find_container S.launched c) then tell a.task (task_call.Loses a) C else C) (hears.after_fetch_lost W m a f)) (sym ((found cfg k h m made o run).container c)) (by (find_container S.launched c))
    where
      by : (f : Option Launched) → At cfg k (if is_some f && has S.recorded a then record S { standing = without_placed S.standing a } else S)
          (if is_some f then tell a.task (task_call.Loses a) C else C) (hears.after_fetch_lost W m a (option_map pair_of f))
      by None = here
      by (Some l) = if_cases (λ s. At cfg k s (tell a.task (task_call.Loses a) C) (hears.after_fetch_lost W m a (Some (pair_of l)))) (has S.recorded a) _ _
          (λ e. standing-at cfg k S _ _ (without_placed S.standing a) (lost-at a)) (λ e. lost-at a)

  fetches-keep : (c : ContainerId) (a : Attempt) → Holds cfg k (Came (packet.FetchLost c a) ∷ h) (next.next_seen W m (step_of (Came (packet.FetchLost c a))))
  unfolding hears.delivered sends.replies killed_by
  fetches-keep c a = of-at cfg k h (Came (packet.FetchLost c a)) _
      (came-at cfg k S C m (packet.FetchLost c a) run o.stands.work o.stands.can refl (λ go g. refl) (fetch-at c a))

pub fetches_keep : (cfg : Config) (k : ℕ) (h : List Master_step) (m : read.Seen) (c : ContainerId) (a : Attempt) → Kept cfg k h m (Came (packet.FetchLost c a))
fetches_keep cfg k h m c a made o run = fetches-keep cfg k h m made.1 o run c a
