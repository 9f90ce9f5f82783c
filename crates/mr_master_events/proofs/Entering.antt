-- A launch: what is planned.
use Rattle.std.proofs.Common.{ℕ, ◌<◌, ◌≡◌, refl, sym, ◌∙◌, ap, true, List, [], ◌∷◌, Option, Some, None, Ok, is_none, Result, length, if◌then◌else◌}
use Rattle.std.specs.Map.{lookup}
use Rattle.mr_ids.specs.Attempt.{Attempt}
use Rattle.mr_ids.specs.declared.id.TaskId.{TaskId}
use Rattle.mr_grant.specs.Attempts.{same_attempt}
use Rattle.mr_task.specs.declared.fault.TaskFault.{TaskFault}
use Rattle.mr_task.specs.Calls as task_call
use Rattle.mr_task.specs.Readings as reading
use Rattle.mr_task.specs.State.{launch_answer, refusal_or}
use Rattle.mr_packet.specs.declared.packet.Envelope.{Envelope}
use Rattle.mr_packet.specs.declared.packet.Packet.TheVariants as packet
use Rattle.mr_packet.specs.Sends.{to_node}
use Rattle.mr_master_model.specs.declared.launch.Launch.{Launch}
use Rattle.mr_master_model.specs.declared.phase.LaunchFault.{LaunchFault}
use Rattle.mr_master_model.specs.declared.setting.Setting.{Setting}
use Rattle.mr_master_model.specs.Job.{is_task}
use Rattle.mr_master_model.specs.Readings.{Seen, of_task, launch_refusal, launched_as, next_attempt, tell}
use Rattle.mr_master_model.specs.Hearing.{with_launch}
use Rattle.mr_master_model.specs.Sends.{launch_sends}
use Rattle.mr_master_model.specs.Past.{Launches}
use Rattle.mr_master_model.specs.Next.{moved, sent_by, seen}
use Rattle.mr_master_model.proofs.Launching.{may-launch, launches_are_fresh}
use Rattle.mr_master_state.specs.mr_master_tasks.specs.Places.{place_of}
use Rattle.mr_master_state.specs.mr_master_tasks.specs.Tasks.{AnswersAt, told}
use Rattle.mr_master_state.specs.declared.change.Change.TheVariants as change
use Rattle.mr_master_events.specs.inner.Launching.{IsFree, LaunchesNext}
use Rattle.mr_master_state.specs.Prepared.{Prepared, LaunchesAt, PlansFor}
use Rattle.mr_master_state.specs.State.{Master, Keeps, Reads, StandsForSome}
use Rattle.mr_master_state.proofs.Entered.{found-place}
use Rattle.mr_master_state.proofs.Made.{plan-as}
use Rattle.mr_master_state.specs.mr_master_tasks.proofs.Keeping.{read-at}
use Rattle.mr_master_state.specs.mr_master_tasks.proofs.Refusals.{is-free}

none-is : {A : Type 0} (o : Option A) → o ≡ None → is_none o ≡ true
none-is o e = ap (λ x. is_none x) e

is-none : {A : Type 0} (o : Option A) → is_none o ≡ true → o ≡ None
is-none None e = refl
is-none (Some x) e = cc

ok-is : {x y : Attempt} → ◌≡◌ {A = Result Attempt TaskFault} (Ok x) (Ok y) → x ≡ y
ok-is e = cc

-- where a launch is not refused, the task is the job's
pub of-the-job : (w : Setting) (s : Seen) (t : TaskId) (n : ℕ) → launch_refusal w s t n ≡ None → is_task w t ≡ true
of-the-job w s t n e = (may-launch w s t n (none-is _ e)).is_of_job

-- the attempt is the task's next one
pub next-is : (m : Master) (w : Setting) (s : Seen) (t : TaskId) (n i : ℕ) (a : Attempt) → Keeps m w s → launch_refusal w s t n ≡ None → (is_task w t ≡ true) × (i ≡ place_of w t)
    → AnswersAt m.tasks.machines i launch_answer (Ok a) → a ≡ next_attempt w s t
next-is m w s t n i a k none p answers =
    let free : reading.launch_refusal (of_task w s t) ≡ None = is-none _ (may-launch w s t n (none-is _ none)).task in
    ok-is (read-at m.tasks w s.calls t i launch_answer (Ok a) k.tasks p.0 p.1 answers
    ∙ ap (λ (o : Option TaskFault). refusal_or o (next_attempt w s t)) free)

-- ---- what is sent

pub sends-it : (w : Setting) (s : Seen) (t : TaskId) (n : ℕ) (a : Attempt) (l : Launch) (e : Envelope) → launch_refusal w s t n ≡ None → a ≡ next_attempt w s t → l ≡ launched_as w s n
    → e ≡ to_node l.node (packet.Launch l.container a l.incarnation) → launch_sends w s t n ≡ e ∷ []
sends-it w s t n a l e none is same told =
    let now : to_node (launched_as w s n).node (packet.Launch (launched_as w s n).container (next_attempt w s t) (launched_as w s n).incarnation) ≡ e =
    sym (told ∙ (λ j. to_node (same j).node (packet.Launch (same j).container (is j) (same j).incarnation))) in
    ap (λ (o : Option LaunchFault). if is_none o then to_node n (packet.Launch (launched_as w s n).container (next_attempt w s t) (launched_as w s n).incarnation) ∷ [] else []) none
    ∙ ap (λ (x : Envelope). x ∷ []) now

-- its machine refuses no launch
pub free-place : {m : Master} (w : Setting) (s : Seen) (t : TaskId) (n i : ℕ) → Keeps m w s → launch_refusal w s t n ≡ None → Some i ≡ (if is_task w t then Some (place_of w t) else None) → IsFree m i
free-place {m} w s t n i k none place =
    let p = found-place w t i place in
    is-free m.tasks w s.calls t i k.tasks p.0 p.1 (is-none _ (may-launch w s t n (none-is _ none)).task)

-- ---- what is planned

pub plan-launch : {m : Master} {r : Prepared} (t : TaskId) (n i : ℕ) (l : Launch) → StandsForSome m → ((w : Setting) (s : Seen) → Keeps m w s → launch_refusal w s t n ≡ None) → i < length m.tasks.machines
    → Reads m (λ w s. if is_task w t then Some (place_of w t) else None) (Some i) → LaunchesNext m i l r → Reads m (λ w s. launched_as w s n) l → PlansFor m (Launches t n) r
unfolding moved sent_by
plan-launch {m} t n i l some none within place next as' = plan-as (to_node l.node (packet.Launch l.container a l.incarnation) ∷ []) (change.Launches i a next.machine l) next.is sound
    (λ w s k. sym (sends-it w s t n a l _ (none w s k) (is w s k) (as' w s k) refl))
    (λ w s k.
    (λ j. with_launch (tell s (is w s k j).task task_call.Launches) (is w s k j) (as' w s k j))
    ∙ ap (λ (o : Option LaunchFault). if is_none o then with_launch (tell s t task_call.Launches) (next_attempt w s t) (launched_as w s n) else s) (sym (none w s k)))
  where
    there : (w : Setting) (s : Seen) → Keeps m w s → (is_task w t ≡ true) × (i ≡ place_of w t)
    there w s k = found-place w t i (place w s k)

    a : Attempt
    a = next.attempt

    is : (w : Setting) (s : Seen) → Keeps m w s → a ≡ next_attempt w s t
    is w s k = next-is m w s t n i a k (none w s k) (there w s k) next.answers

    own : (w : Setting) (s : Seen) → Keeps m w s → a.task ≡ t
    own w s k = ap (λ (x : Attempt). x.task) (is w s k)

    new : lookup (same_attempt a) m.launches.entries ≡ None
    new =
        let w = m.setting in
        let past = some.0 in
        let k = some.1 in
        let s = seen w past in
        ap (λ (xs : List (Attempt × Launch)). lookup (same_attempt a) xs) k.launches.entries ∙ ap (λ (x : Attempt). lookup (same_attempt x) s.launched) (is w s k) ∙ launches_are_fresh w past t n (none w s k)

    sound : LaunchesAt m i a next.machine
    sound = record {
      at = record {
        within = within;
        own = λ w s k. ap (λ (u : TaskId). is_task w u) (own w s k) ∙ (there w s k).0;
        at = λ w s k. (there w s k).1 ∙ sym (ap (λ (u : TaskId). place_of w u) (own w s k));
      };
      told = next.told;
      new = new;
    }
