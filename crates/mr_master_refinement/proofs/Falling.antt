-- While a master fails its tasks, and its machine's, hear only what is recorded: they stay alike.
use Rattle.std.proofs.Common.{ℕ, ◌≡◌, refl, sym, ◌∙◌, ap, subst, Bool, true, false, ◌&&◌, not, List, [], ◌∷◌, Option, Some, None, if◌then◌else◌, is_some, nat_eq, nat_lt, ◌⊎◌, inl, inr}
use Rattle.std.specs.Option.{option_map}
use Rattle.std.proofs.lemmas.Bool.{false≢true, true≢false, and_parts, eqb-true}
use Rattle.mr_ids.specs.Attempt.{Attempt}
use Rattle.mr_ids.specs.declared.id.TaskId.{TaskId}
use Rattle.mr_packet.specs.declared.packet.ContainerId.{ContainerId}
use Rattle.mr_packet.specs.declared.packet.Packet.{Packet}
use Rattle.mr_packet.specs.declared.packet.Packet.TheVariants as packet
use Rattle.mr_history.specs.declared.record.Record.{Record}
use Rattle.mr_task.specs.Calls as task_call
use Rattle.mr_task.specs.Calls.{TaskCall}
use Rattle.mr_master_model.specs.declared.setting.Setting.{Setting}
use Rattle.mr_master_model.specs.Readings as read
use Rattle.mr_master_model.specs.Hearing as hears
use Rattle.mr_master_model.specs.Duty.{duty}
use Rattle.mr_master_model.specs.Answered.{after_duty, moved_first, recorded}
use Rattle.mr_master_model.specs.Next as next
use Rattle.mr_world_model.specs.Ids.{temporary, container_eq}
use Rattle.mr_world_model.specs.Content.{Delete}
use Rattle.mr_world_model.specs.Packets.{Config, Store, Names, Reply}
use Rattle.mr_world_model.specs.Hearing.{Seen, Phase, Opening, Failing, Launched, is_live, is_running, has, is_over, may_accept, find_launched, find_container, has_container, heard, only_known, after_end, after_ended, ended_by}
use Rattle.mr_world_model.specs.Duties.{Master_step, Came, Launches, Expires, Asks, seen, next_seen, with_read, worked, is_fine, duty_of, phase_told, newest_maps, attempts_of, successes}
use Rattle.mr_world_model.specs.Sending.{is_failing}
use Rattle.mr_world_model.specs.Claims.{has_not_run, In}
use Rattle.mr_world_model.specs.Calls.{Calls, calls, next_calls, calls_heard, calls_worked, tell, tell_each, tell_ended, winning}
use Rattle.mr_world_model.specs.Made.{IsMade, AllMade, TellsOf}
use Rattle.mr_world_model.proofs.Basic.{if_cases}
use Rattle.mr_world_model.proofs.Lists.{Each}
use Rattle.mr_world_model.proofs.Closed.{found_container}
use Rattle.mr_world_model.proofs.Follows.{Follows, follows}
use Rattle.mr_world_model.proofs.Masters.{came-phase, told-phase, expires-phase, end_there-phase}
use Rattle.mr_master_refinement.specs.Steps.{setting, step_of}
use Rattle.mr_master_refinement.specs.Works.{work_at, named, name_of_failing}
use Rattle.mr_master_refinement.specs.Points.{launch_as}
use Rattle.mr_master_refinement.specs.Holds.{Holds, LaunchesFound, pair_of}
use Rattle.mr_master_refinement.proofs.Turn.{at-failing, can-after}
use Rattle.mr_master_refinement.proofs.Changes.{change_at}
use Rattle.mr_master_refinement.proofs.Answering.{answered, not-started}
use Rattle.mr_master_refinement.proofs.Works.{runs-is}
use Rattle.mr_master_refinement.proofs.Held.{told-same}
use Rattle.mr_master_refinement.proofs.Points.{point}
use Rattle.mr_master_refinement.proofs.Still.{tails}
use Rattle.mr_master_refinement.proofs.Launches.{AllAlike, places, found}
use Rattle.mr_master_refinement.proofs.Flushing.{SameCalls, recorded-alike}

pub failing-only : (p : Phase) → is_failing p ≡ true → (f : Bool) × (p ≡ Failing f)
failing-only (Failing f) e = (f, refl)
failing-only p e = absurd (false≢true e)

failing-idle : (p : Phase) → is_failing p ≡ true → is_running p ≡ false
failing-idle (Failing f) e = refl
failing-idle p e = absurd (false≢true e)

pub running-sound : (p : Phase) → is_running p ≡ true → is_failing p ≡ false
running-sound (Failing f) e = absurd (false≢true e)
running-sound p e = refl

-- ---- where it goes on failing

abbrev may_fail : Phase → Bool
may_fail (Opening n) = true
may_fail (Failing f) = true
may_fail p = false

-- a call's answer leads to Failing from there, or from the reading
to-failing : (k : ℕ) (s : Seen) (call : Store) (r : Reply) (p q : Phase) → Follows k s.winners call r p q → is_failing q ≡ true → may_fail p ≡ true
to-failing k s call r p q (Follows.reads_failed n) e = refl
to-failing k s call r p q (Follows.works_failing a b) e = refl
to-failing k s call r p q Follows.runs_now e = absurd (false≢true e)
to-failing k s call r p q (Follows.runs todo at) e = absurd (false≢true e)
to-failing k s call r p q Follows.works e = absurd (false≢true e)
to-failing k s call r p q (Follows.stops x) e = absurd (false≢true e)
to-failing k s call r p q (Follows.looks_on n) e = absurd (false≢true e)
to-failing k s call r p q (Follows.finds n b) e = absurd (false≢true e)
to-failing k s call r p q (Follows.reads n a b) e = absurd (false≢true e)
to-failing k s call r p q (Follows.recovers_first at) e = absurd (false≢true e)
to-failing k s call r p q (Follows.recovers todo at next) e = absurd (false≢true e)
to-failing k s call r p q (Follows.recovered x todo at next) e = absurd (false≢true e)
to-failing k s call r p q Follows.commits e = absurd (false≢true e)
to-failing k s call r p q (Follows.failed a) e = absurd (false≢true e)
to-failing k s call r p q (Follows.goes_on at next o) e = absurd (false≢true e)
to-failing k s call r p q (Follows.finished at b) e = absurd (false≢true e)
to-failing k s call r p q (Follows.rests b) e = absurd (false≢true e)

late-failing : (p : Phase) → may_fail p ≡ true → has_not_run p ≡ false → is_failing p ≡ true
late-failing (Opening n) e y = absurd (true≢false y)
late-failing (Failing f) e y = refl
late-failing p e y = absurd (false≢true e)

-- ---- a packet while it fails

module _ (cfg : Config) (k : ℕ) (m : read.Seen) (idle : read.is_running m.work ≡ false) where
  idle-calls : (p : Packet) → (hears.delivered (setting cfg k) m p).calls ≡ m.calls
  unfolding hears.delivered
  idle-calls p = by p
    where
      still : (x : read.Seen) → (if read.is_running m.work then x else m).calls ≡ m.calls
      still x = ap (λ (b : Bool). (if b then x else m).calls) idle

      by : (p : Packet) → (hears.delivered (setting cfg k) m p).calls ≡ m.calls
      by (packet.NodeUp n i) = if_cases (λ (x : read.Seen). x.calls ≡ m.calls) (read.is_over m.work) _ _ (λ e. refl)
          (λ e. if_cases (λ (x : read.Seen). x.calls ≡ m.calls) (not (nat_lt (m.known n) i)) _ _ (λ e. refl)
          (λ e. ap (λ (b : Bool). (if b then hears.with_known (hears.after_restart (setting cfg k) m n i) n i else hears.with_known m n i).calls) idle))
      by (packet.Pending a) = still _
      by (packet.Poll a) = still _
      by (packet.Done a z) = still _
      by (packet.Failed a) = still _
      by (packet.Ended c) = still _
      by (packet.Where c n) = still _
      by (packet.FetchLost c a) = still _
      by (packet.Launch c a i) = still _
      by (packet.Kill c) = still _
      by (packet.Fetch c a x y z) = still _
      by (packet.Won t a) = still _
      by (packet.Outcome b) = still _
      by (packet.Answer a b) = still _
      by (packet.DoneAck a) = still _
      by (packet.MapReady n a x y) = still _
      by (packet.Piece a x y z bs) = still _

-- ---- an answer while it fails

module _ (cfg : Config) (k : ℕ) (h : List Master_step) (m : read.Seen) (made : AllMade cfg k h) (o : Holds cfg k h m) (f : Bool) (fails : (seen cfg k h).phase ≡ Failing f)
    (alike : SameCalls cfg k (calls cfg k h) m.calls) (call : Store) (r : Reply) (d : duty_of cfg k (seen cfg k h) (Failing f) ≡ Some call) (still : is_running (phase_told k (seen cfg k h) (Failing f) call r) ≡ false) where
  abbrev W : Setting
  W = setting cfg k

  abbrev S : Seen
  S = seen cfg k h

  abbrev C : Calls
  C = calls cfg k h

  abbrev U : Seen
  U = with_read cfg (if is_fine r then worked S call else S) call r

  abbrev D : Calls
  D = if is_fine r then calls_worked S call C else C

  calls-is : next_calls cfg k S (Asks call r) C ≡ D
  unfolding next_calls
  calls-is = (λ i. if is_running (phase_told k S (fails i) call r) && not (is_running U.phase)
      then tell_each (λ a. task_call.Recovers a) (attempts_of (newest_maps U.known U.history [])) (tell_each (λ a. task_call.Recovers a) (winning U.winners) D) else D)
      ∙ (λ i. if still i && not (is_running U.phase)
      then tell_each (λ a. task_call.Recovers a) (attempts_of (newest_maps U.known U.history [])) (tell_each (λ a. task_call.Recovers a) (winning U.winners) D) else D)

  machine-is : (next.next_seen W m (step_of (Asks call r))).calls ≡ (change_at cfg k m (Failing f) call r).calls
  unfolding next.next_seen next.moved next.sent_by
  machine-is = ap (λ (x : read.Seen). x.calls)
      (answered cfg k S m (Failing f) call r tt (o.stands.work ∙ ap (work_at k) fails) tt o.stands.tail d duty-here
      ∙ not-started cfg k (change_at cfg k m (Failing f) call r) (phase_told k S (Failing f) call r) (can-after k S (Failing f) call r tt) still)
    where
      duty-here : duty W m ≡ named (Failing f) (Some call)
      duty-here = (point cfg k h m made o.stands).duty ∙ ((λ i. named (fails i) (duty_of cfg k S (fails i))) ∙ ap (named (Failing f)) d)

  moved-calls : (rs : List Record) → (moved_first m rs).calls ≡ m.calls
  moved-calls [] = refl
  moved-calls (x ∷ rs) = refl

  same-after : SameCalls cfg k D (change_at cfg k m (Failing f) call r).calls
  same-after = at-failing (λ c. SameCalls cfg k (if is_fine r then calls_worked S c C else C) (if is_fine r then after_duty W m (name_of_failing c) else m).calls)
      (λ x. appends (is_fine r)) (flushes (is_fine r)) (aborts (is_fine r)) cfg k S f call d
    where
      appends : (b : Bool) → SameCalls cfg k (if b then C else C) (if b then moved_first m m.due else m).calls
      appends true = subst (λ z. SameCalls cfg k C z) (sym (moved-calls m.due)) alike
      appends false = alike

      flushes : (b : Bool) → SameCalls cfg k (if b then tell_each (λ a. task_call.Records a) (successes S.tail) C else C) (if b then record (recorded W m m.tail) { tail = [] } else m).calls
      flushes true = subst (λ rs. SameCalls cfg k (tell_each (λ a. task_call.Records a) (successes rs) C) (recorded W m m.tail).calls) o.stands.tail
          (recorded-alike cfg k m.tail (subst (Each (TellsOf cfg k)) (sym o.stands.tail) (tails cfg k h made)) C m alike)
      flushes false = alike

      aborts : (b : Bool) → SameCalls cfg k (if b then calls_worked S (Names (Delete temporary)) C else C) (if b then m else m).calls
      aborts true = alike
      aborts false = alike

  pub answers-alike : SameCalls cfg k (next_calls cfg k S (Asks call r) C) (next.next_seen W m (step_of (Asks call r))).calls
  answers-alike = subst (λ c. SameCalls cfg k c (next.next_seen W m (step_of (Asks call r))).calls) (sym calls-is) (subst (λ z. SameCalls cfg k D z) (sym machine-is) same-after)

-- ---- a packet that makes a running master fail

module _ (cfg : Config) (k : ℕ) (h : List Master_step) (m : read.Seen) (made : AllMade cfg k h) (o : Holds cfg k h m) (run : is_running (seen cfg k h).phase ≡ true) where
  abbrev W' : Setting
  W' = setting cfg k

  abbrev S' : Seen
  S' = seen cfg k h

  abbrev C' : Calls
  C' = calls cfg k h

  finds : LaunchesFound cfg k S' m
  finds = found cfg k h m made o run

  runs : read.is_running m.work ≡ true
  runs = ap read.is_running o.stands.work ∙ (runs-is k S'.phase o.stands.can ∙ run)

  same-told : (t : TaskId) (call : TaskCall) → SameCalls cfg k (tell t call C') (read.tell m t call).calls
  same-told t call u e = told-same k t u call (C' u) (m.calls u) (o.stands.tasks run u e)

  end-calls : (a : Attempt) (call : TaskCall) (f : Bool) → (hears.after_end W' m a call f).calls ≡ (read.tell m a.task call).calls
  end-calls a call f = if_cases (λ (x : read.Seen). x.calls ≡ (read.tell m a.task call).calls) (f && read.is_live W' m a) _ _
      (λ e. if_cases (λ (x : read.Seen). x.calls ≡ (read.tell m a.task call).calls) (hears.is_spent W' (read.tell m a.task call) a.task) _ _ (λ q. refl) (λ q. refl)) (λ e. refl)

  abbrev HeardAlike : Packet → Type 0
  HeardAlike p = is_failing (heard cfg S' p).phase ≡ true → SameCalls cfg k (calls_heard S' p C') (hears.heard W' m p).calls

  failed-alike : (a : Attempt) → HeardAlike (packet.Failed a)
  unfolding heard calls_heard hears.heard
  failed-alike a = subst (λ x. is_failing (after_end cfg S' a true).phase ≡ true → SameCalls cfg k (tell a.task (task_call.Fails a) C') (hears.after_failed W' m a x).calls) (sym (finds.launch a)) (by (find_launched S'.launched a) refl)
    where
      by : (x : Option Launched) → find_launched S'.launched a ≡ x → is_failing (after_end cfg S' a true).phase ≡ true → SameCalls cfg k (tell a.task (task_call.Fails a) C') (hears.after_failed W' m a (option_map launch_as x)).calls
      by None e q = absurd (false≢true (sym (running-sound S'.phase run) ∙ (ap (λ (b : Bool). is_failing (if b then ended_by cfg S' a true else S').phase) (sym dead) ∙ q)))
        where
          dead : is_live S' a ≡ false
          dead = ap (λ (f : Option Launched). is_some f && (not (has S'.accepted a) && not (is_over S'.ended a))) e
      by (Some l) e q = subst (λ z. SameCalls cfg k (tell a.task (task_call.Fails a) C') z) (sym (end-calls a (task_call.Fails a) true)) (same-told a.task (task_call.Fails a))

  ended-alike : (c : ContainerId) → HeardAlike (packet.Ended c)
  unfolding heard calls_heard hears.heard
  ended-alike c = subst (λ x. is_failing (after_ended cfg S' c (find_container S'.launched c)).phase ≡ true → SameCalls cfg k (tell_ended (find_container S'.launched c) (has_container S'.killed c) C') (hears.after_ended W' m c x).calls)
      (sym (finds.container c)) (by (find_container S'.launched c) refl)
    where
      by : (x : Option Launched) → find_container S'.launched c ≡ x → is_failing (after_ended cfg S' c x).phase ≡ true →
          SameCalls cfg k (tell_ended x (has_container S'.killed c) C') (hears.after_ended W' m c (option_map pair_of x)).calls
      by None e q = absurd (false≢true (sym (running-sound S'.phase run) ∙ q))
      by (Some l) e q = subst (λ z. SameCalls cfg k (tell l.attempt.task (task_call.Ends l.attempt (has_container S'.killed c)) C') z) (sym (end-calls l.attempt (task_call.Ends l.attempt (m.killed c.number)) (not (m.killed c.number))))
          (subst (λ b. SameCalls cfg k (tell l.attempt.task (task_call.Ends l.attempt (has_container S'.killed c)) C') (read.tell m l.attempt.task (task_call.Ends l.attempt b)).calls) (sym was)
          (same-told l.attempt.task (task_call.Ends l.attempt (has_container S'.killed c))))
        where
          found-there : In l S'.launched × (container_eq c l.container ≡ true)
          found-there = found_container S'.launched c l e

          app-is : c.app ≡ k
          app-is = eqb-true c.app l.container.app (and_parts (nat_eq c.app l.container.app) (nat_eq c.number l.container.number) found-there.1).0 ∙ (places cfg k h made).0.apps l found-there.0

          was : m.killed c.number ≡ has_container S'.killed c
          was = o.killed run c.number ∙ (λ i. has_container S'.killed (record { app = sym app-is i; number = c.number }))

  -- all other packets leave it running
  abbrev Runs : Seen → Type 0
  Runs x = x.phase ≡ S'.phase

  calm : (p : Packet) → Runs (heard cfg S' p) → HeardAlike p
  calm p e q = absurd (false≢true (sym (running-sound S'.phase run) ∙ (ap (λ z. is_failing z) (sym e) ∙ q)))

  heard-alike : (p : Packet) → HeardAlike p
  unfolding heard
  heard-alike (packet.Failed a) = failed-alike a
  heard-alike (packet.Ended c) = ended-alike c
  heard-alike (packet.Pending a) = calm (packet.Pending a) (if_cases Runs (is_some (find_launched S'.launched a) && not (has S'.asked a)) _ _ (λ t. refl) (λ t. refl))
  heard-alike (packet.Poll a) = calm (packet.Poll a) (if_cases Runs (is_some (find_launched S'.launched a) && not (has S'.asked a)) _ _ (λ t. refl) (λ t. refl))
  heard-alike (packet.Done a z) = calm (packet.Done a z) (if_cases Runs (may_accept S' a) _ _ (λ t. refl) (λ t. refl))
  heard-alike (packet.NodeUp n i) = calm (packet.NodeUp n i) (if_cases Runs (nat_lt (S'.known n) i) _ _ (λ t. end_there-phase n i S'.launched _) (λ t. refl))
  heard-alike (packet.FetchLost c a) = calm (packet.FetchLost c a) (if_cases Runs (is_some (find_container S'.launched c) && has S'.recorded a) _ _ (λ t. refl) (λ t. refl))
  heard-alike (packet.Where c n) = calm (packet.Where c n) refl
  heard-alike (packet.Launch c a i) = calm (packet.Launch c a i) refl
  heard-alike (packet.Kill c) = calm (packet.Kill c) refl
  heard-alike (packet.Fetch c a x y z) = calm (packet.Fetch c a x y z) refl
  heard-alike (packet.Won t a) = calm (packet.Won t a) refl
  heard-alike (packet.Outcome b) = calm (packet.Outcome b) refl
  heard-alike (packet.Answer a b) = calm (packet.Answer a b) refl
  heard-alike (packet.DoneAck a) = calm (packet.DoneAck a) refl
  heard-alike (packet.MapReady n a x y) = calm (packet.MapReady n a x y) refl
  heard-alike (packet.Piece a x y z bs) = calm (packet.Piece a x y z bs) refl

  delivered-calls : (p : Packet) → is_failing (heard cfg S' p).phase ≡ true → (hears.delivered W' m p).calls ≡ (hears.heard W' m p).calls
  unfolding hears.delivered heard
  delivered-calls p q = by p q
    where
      still : (x : read.Seen) → (if read.is_running m.work then x else m).calls ≡ x.calls
      still x = ap (λ (b : Bool). (if b then x else m).calls) runs

      by : (p : Packet) → is_failing (heard cfg S' p).phase ≡ true → (hears.delivered W' m p).calls ≡ (hears.heard W' m p).calls
      by (packet.NodeUp n i) q = absurd (false≢true (sym (running-sound S'.phase run)
          ∙ (ap (λ z. is_failing z) (sym (if_cases Runs (nat_lt (S'.known n) i) _ _ (λ t. end_there-phase n i S'.launched _) (λ t. refl))) ∙ q)))
      by (packet.Pending a) q = still _
      by (packet.Poll a) q = still _
      by (packet.Done a z) q = still _
      by (packet.Failed a) q = still _
      by (packet.Ended c) q = still _
      by (packet.Where c n) q = still _
      by (packet.FetchLost c a) q = still _
      by (packet.Launch c a i) q = still _
      by (packet.Kill c) q = still _
      by (packet.Fetch c a x y z) q = still _
      by (packet.Won t a) q = still _
      by (packet.Outcome b) q = still _
      by (packet.Answer a b) q = still _
      by (packet.DoneAck a) q = still _
      by (packet.MapReady n a x y) q = still _
      by (packet.Piece a x y z bs) q = still _

-- ---- each step

-- while a master fails, its tasks and its machine's have heard alike
abbrev pub Falls : Config → ℕ → List Master_step → read.Seen → Type 0
Falls cfg k h m = is_failing (seen cfg k h).phase ≡ true → AllAlike cfg k h m

abbrev FallsAfter : Config → ℕ → List Master_step → read.Seen → Master_step → Type 0
FallsAfter cfg k h m x = is_failing (next_seen cfg k (seen cfg k h) x).phase ≡ true → SameCalls cfg k (next_calls cfg k (seen cfg k h) x (calls cfg k h)) (next.next_seen (setting cfg k) m (step_of x)).calls

running-falls : (cfg : Config) (k : ℕ) (h : List Master_step) (m : read.Seen) (x : Master_step) → AllMade cfg k h → Holds cfg k h m → is_running (seen cfg k h).phase ≡ true → FallsAfter cfg k h m x
unfolding next_seen next_calls next.next_seen next.moved
running-falls cfg k h m (Came p) made o run q =
    let here = ap (λ (b : Bool). is_failing (if b then heard cfg (seen cfg k h) p else only_known (seen cfg k h) p).phase) (sym run) ∙ q in
    subst (λ (b : Bool). SameCalls cfg k (if b then calls_heard (seen cfg k h) p (calls cfg k h) else calls cfg k h) (hears.delivered (setting cfg k) m p).calls) (sym run)
    (subst (λ z. SameCalls cfg k (calls_heard (seen cfg k h) p (calls cfg k h)) z) (sym (delivered-calls cfg k h m made o run p here)) (heard-alike cfg k h m made o run p here))
running-falls cfg k h m (Launches l) made o run q = absurd (false≢true (sym (running-sound (seen cfg k h).phase run) ∙ q))
running-falls cfg k h m (Expires n) made o run q = absurd (false≢true (sym (running-sound (seen cfg k h).phase run) ∙ (ap (λ z. is_failing z) (sym (expires-phase cfg k (seen cfg k h) n)) ∙ q)))
running-falls cfg k h m (Asks call r) made o run q = absurd (by (seen cfg k h).phase run
    (to-failing k (seen cfg k h) call r (seen cfg k h).phase _ (follows k (seen cfg k h) (seen cfg k h).phase call r) (ap (λ z. is_failing z) (sym (told-phase cfg k (seen cfg k h) call r)) ∙ q)))
  where
    by : (p : Phase) → is_running p ≡ true → may_fail p ≡ true → ⊥
    by (Opening n) e g = false≢true e
    by (Failing f) e g = false≢true e
    by p e g = false≢true g

late-falls : (cfg : Config) (k : ℕ) (h : List Master_step) (m : read.Seen) (x : Master_step) → AllMade cfg k h → Holds cfg k h m → Falls cfg k h m → is_running (seen cfg k h).phase ≡ false → has_not_run (seen cfg k h).phase ≡ false →
    IsMade cfg k (seen cfg k h) x → FallsAfter cfg k h m x
unfolding next_calls next.next_seen next.moved
late-falls cfg k h m (Came p) made o falls idle late u q =
    let was = by (came-phase cfg k (seen cfg k h) p) in
    let still = ap read.is_running o.stands.work ∙ (runs-is k (seen cfg k h).phase o.stands.can ∙ idle) in
    subst (λ (b : Bool). SameCalls cfg k (if b then calls_heard (seen cfg k h) p (calls cfg k h) else calls cfg k h) (hears.delivered (setting cfg k) m p).calls) (sym idle)
    (subst (λ z. SameCalls cfg k (calls cfg k h) z) (sym (idle-calls cfg k m still p)) (falls was))
  where
    by : ((next_seen cfg k (seen cfg k h) (Came p)).phase ≡ (seen cfg k h).phase) ⊎ ((is_running (seen cfg k h).phase ≡ true) × ((next_seen cfg k (seen cfg k h) (Came p)).phase ≡ Failing false)) → is_failing (seen cfg k h).phase ≡ true
    by (inl e) = ap (λ z. is_failing z) (sym e) ∙ q
    by (inr e) = absurd (false≢true (sym idle ∙ e.0))
late-falls cfg k h m (Launches l) made o falls idle late u q = absurd (false≢true (sym idle ∙ u.2))
late-falls cfg k h m (Expires n) made o falls idle late u q = absurd (false≢true (sym idle ∙ u.0))
late-falls cfg k h m (Asks call r) made o falls idle late u q =
    let then' = ap (λ z. is_failing z) (sym (told-phase cfg k (seen cfg k h) call r)) ∙ q in
    let was = late-failing (seen cfg k h).phase (to-failing k (seen cfg k h) call r (seen cfg k h).phase _ (follows k (seen cfg k h) (seen cfg k h).phase call r) then') late in
    let f = failing-only (seen cfg k h).phase was in
    answers-alike cfg k h m made o f.0 f.1 (falls was) call r (subst (λ p. duty_of cfg k (seen cfg k h) p ≡ Some call) f.1 u.0)
    (subst (λ p. is_running (phase_told k (seen cfg k h) p call r) ≡ false) f.1 (failing-idle (phase_told k (seen cfg k h) (seen cfg k h).phase call r) then'))

falls-of : (cfg : Config) (k : ℕ) (h : List Master_step) (x : Master_step) (m : read.Seen) → FallsAfter cfg k h m x → Falls cfg k (x ∷ h) (next.next_seen (setting cfg k) m (step_of x))
unfolding seen calls
falls-of cfg k h x m o = o

pub running-falls-on : (cfg : Config) (k : ℕ) (h : List Master_step) (m : read.Seen) (x : Master_step) → AllMade cfg k h → Holds cfg k h m → is_running (seen cfg k h).phase ≡ true →
    Falls cfg k (x ∷ h) (next.next_seen (setting cfg k) m (step_of x))
running-falls-on cfg k h m x made o run = falls-of cfg k h x m (running-falls cfg k h m x made o run)

pub late-falls-on : (cfg : Config) (k : ℕ) (h : List Master_step) (m : read.Seen) (x : Master_step) → AllMade cfg k (x ∷ h) → Holds cfg k h m → Falls cfg k h m → is_running (seen cfg k h).phase ≡ false →
    has_not_run (seen cfg k h).phase ≡ false → Falls cfg k (x ∷ h) (next.next_seen (setting cfg k) m (step_of x))
late-falls-on cfg k h m x made o falls idle late = falls-of cfg k h x m (late-falls cfg k h m x made.1 o falls idle late made.0)
