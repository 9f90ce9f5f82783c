-- While it runs: a machine stays with its master at the answers of its store calls.
use Rattle.std.proofs.Common.{ℕ, ◌≡◌, refl, sym, ◌∙◌, ap, subst, Bool, true, false, ◌&&◌, ◌||◌, not, List, [], ◌∷◌, ◌++◌, append-nil, Option, Some, None, if◌then◌else◌, is_some, nat_eq}
use Rattle.std.specs.List.{find}
use Rattle.std.specs.Option.{option_map}
use Rattle.std.proofs.lemmas.Bool.{false≢true, true≢false, eq-eqb}
use Rattle.mr_ids.specs.Attempt.{Attempt}
use Rattle.mr_history.specs.declared.record.Record.{Record}
use Rattle.mr_task.specs.Calls as task_call
use Rattle.mr_master_model.specs.declared.setting.Setting.{Setting}
use Rattle.mr_master_model.specs.Readings as read
use Rattle.mr_master_model.specs.Duty.{duty}
use Rattle.mr_master_model.specs.Answered as after
use Rattle.mr_master_model.specs.Answered.{after_answer, after_duty, moved_first, recorded, with_work}
use Rattle.mr_master_model.specs.Sends as sends
use Rattle.mr_master_model.specs.Sends.{answer_sends, killed_by}
use Rattle.mr_master_model.specs.Next as next
use Rattle.mr_world_model.specs.Content.{Create, Bar, bar_of}
use Rattle.mr_world_model.specs.Ids.{commit_started}
use Rattle.mr_world_model.specs.Packets.{Config, Store, Names, Append_record, Flush, Read_history, Reply}
use Rattle.mr_world_model.specs.Hearing.{Seen, Phase, Launched, Running, Committing, Stopped, List_job, is_running, over_with, container_of, find_launched, has_container, containers_of}
use Rattle.mr_world_model.specs.Duties.{Master_step, Asks, seen, next_seen, told, with_phase, with_read, worked, is_fine, is_read, duty_of, phase_told, bar_call, first_bar, record_call, wants_flush, all_won, newest_maps, attempts_of, rest_of, successes, all_rivals}
use Rattle.mr_world_model.specs.Calls.{Calls, calls, next_calls, calls_phased, calls_worked, tell, tell_each, winning, AppendsDue}
use Rattle.mr_world_model.specs.Made.{AllMade, TellsOf}
use Rattle.mr_world_model.proofs.Lists.{Each}
use Rattle.mr_world_model.proofs.Made.{appends-due}
use Rattle.mr_world_model.proofs.Bars.{first-lives}
use Rattle.mr_world_model.proofs.Closed.{bar-by}
use Rattle.mr_world_model.proofs.Agree.{no-and}
use Rattle.mr_master_refinement.specs.Steps.{setting, step_of}
use Rattle.mr_master_refinement.specs.Works.{work_at, named, name_of_names, name_of_running}
use Rattle.mr_master_refinement.specs.Points.{launch_as}
use Rattle.mr_master_refinement.specs.Holds.{Holds, Kept}
use Rattle.mr_master_refinement.proofs.Works.{runs-is}
use Rattle.mr_master_refinement.proofs.Turn.{if_cases, at-running}
use Rattle.mr_master_refinement.proofs.Changes.{change_at, sends_at}
use Rattle.mr_master_refinement.proofs.Answering.{answered, answer-sent, runs-on}
use Rattle.mr_master_refinement.proofs.Early.{nat-sym}
use Rattle.mr_master_refinement.proofs.Points.{point, bars-at}
use Rattle.mr_master_refinement.proofs.Still.{tails}
use Rattle.mr_master_refinement.proofs.Launches.{AllAlike, places, found, found-in}
use Rattle.mr_master_refinement.proofs.Kills.{Sent_to}
use Rattle.mr_master_refinement.proofs.Flushing.{SameCalls, recorded-is, recorded-alike, flush-sent, flush-notes, has-both}
use Rattle.mr_master_refinement.proofs.Held.{At, at-of, of-at, tell-at}
use Rattle.mr_master_refinement.proofs.Late.{rest-of, idle-at}

-- ---- the bar that is due is the first live one

abbrev NotBar : Option Store → Type 0
NotBar (Some (Names op)) = is_some (bar_of op) ≡ false
NotBar _ = Unit {0}

abbrev barred : Option Store → Option Attempt
barred (Some (Names op)) = bar_of op
barred _ = None

record-not : (due tail : List Record) (o : Option Store) → NotBar o → NotBar (record_call due tail o)
record-not (r ∷ due) tail o n = tt
record-not [] tail o n = if_cases NotBar (wants_flush tail) _ _ (λ t. tt) (λ t. n)

first-is : (b : Option Attempt) (rest : Option Store) (a : Attempt) → NotBar rest → bar_call b rest ≡ Some (Names (Bar a)) → b ≡ Some a
first-is None rest a n e = absurd (true≢false (subst NotBar e n))
first-is (Some x) rest a n e = ap barred e

pub first-due : (cfg : Config) (k : ℕ) (s : Seen) (a : Attempt) → duty_of cfg k s Running ≡ Some (Names (Bar a)) → first_bar s s.bars ≡ Some a
unfolding duty_of
first-due cfg k s a d = first-is (first_bar s s.bars) _ a (record-not s.due s.tail _ (if_cases NotBar (all_won s.recorded s.winners cfg.job cfg.reduces) _ _ (λ t. refl) (λ t. tt))) d

pub running-only : (p : Phase) → is_running p ≡ true → p ≡ Running
running-only Running e = refl
running-only p e = absurd (false≢true e)

module _ (cfg : Config) (k : ℕ) (h : List Master_step) (m : read.Seen) (made : AllMade cfg k h) (o : Holds cfg k h m) (run : is_running (seen cfg k h).phase ≡ true) where
  abbrev W : Setting
  W = setting cfg k

  abbrev S : Seen
  S = seen cfg k h

  abbrev C : Calls
  C = calls cfg k h

  here : At cfg k S C m
  here = at-of cfg k h m o

  at-work : m.work ≡ work_at k Running
  at-work = o.stands.work ∙ ap (work_at k) (running-only S.phase run)

  -- where an answer leads, of whether it is fine and of the phase after it
  abbrev Led : Store → Bool → Phase → Type 0
  Led c b q = At cfg k (record (if b then worked S c else S) { phase = q }) (if b then calls_worked S c C else C)
      (record (if b then after_duty W m (name_of_running c) else m) {
        work = work_at k q;
        killed = killed_by ((if b then sends.duty_sends W m (name_of_running c) else []) ++ sends.outcome_of W (work_at k q)) (if b then after_duty W m (name_of_running c) else m).killed;
      })

  stops : (c : Store) → Led c false Stopped
  stops c = let v = rest-of cfg k S C m here in
      idle-at cfg k _ C _ refl refl tt (record { due = v.due; tail = v.tail; bars = v.bars; launched = v.launched; known = v.known; earlier = v.earlier })

  appends : (x : Record) → S.due ≡ x ∷ rest_of S.due → Led (Append_record x) true Running
  unfolding work_at killed_by
  appends x d = subst (λ z. At cfg k (record (worked S (Append_record x)) { phase = Running }) C
      (record (moved_first m z) { work = work_at k Running; killed = killed_by ([] ++ sends.outcome_of W (work_at k Running)) (moved_first m z).killed }))
      (sym (o.stands.due ∙ d))
      (record {
        work = refl;
        can = tt;
        due = refl;
        tail = λ i. here.tail i ++ x ∷ [];
        bars = here.bars;
        tasks = λ e. here.tasks run;
        launched = here.launched;
        known = here.known;
        earlier = here.earlier;
        killed = λ e. here.killed run;
      })

  begins : Led (Names (Create commit_started true)) true (Committing List_job)
  begins = let v = rest-of cfg k S C m here in
      idle-at cfg k _ C _ refl refl tt (record { due = v.due; tail = v.tail; bars = v.bars; launched = v.launched; known = v.known; earlier = v.earlier })

  runs-still : (call : Store) (r : Reply) → duty_of cfg k S Running ≡ Some call → is_running (with_read cfg (if is_fine r then worked S call else S) call r).phase ≡ true
  runs-still call r d = if_cases (λ (u : Seen). is_running u.phase ≡ true) (is_read call) _ _ (λ t. at (is_fine r)) (λ t. at (is_fine r))
    where
      works : (c : Store) → is_running (worked S c).phase ≡ true
      works (Append_record x) = run
      works Flush = run
      works (Names op) = bar-by (λ (u : Seen). is_running u.phase ≡ true) S (bar_of op) (λ a t ks. run) run
      works Read_history = run

      at : (b : Bool) → is_running (if b then worked S call else S).phase ≡ true
      at true = works call
      at false = run

  -- ---- a bar

  kills-is : (a : Attempt) (f : Option Launched) → find_launched S.launched a ≡ f → (n : ℕ) →
      killed_by (sends.kill_at (option_map launch_as f) ++ []) m.killed n ≡ has_container (container_of f ++ S.killed) (record { app = k; number = n })
  unfolding killed_by
  kills-is a None e n = o.killed run n
  kills-is a (Some l) e n =
      let app = (places cfg k h made).0.apps l (found-in S.launched a l e).0 in
      let same = ap (λ x. nat_eq k x) app ∙ eq-eqb k k refl in
      let turned = nat-sym l.container.number n in
      let before = o.killed run n in
      λ i. (sym same i && turned i) || before i

  bars : (a : Attempt) → first_bar S S.bars ≡ Some a → Led (Names (Bar a)) true Running
  unfolding work_at
  bars a e =
      subst (λ (b : Bool). At cfg k (record (if b then record S { ended = over_with S a false; killed = container_of (find_launched S.launched a) ++ S.killed } else S) { phase = Running }) (tell a.task (task_call.Dies a) C) (then' (find (read.is_live W m) m.bars)))
      (sym (first-lives S S.bars a e))
      (subst (λ (f : Option Attempt). At cfg k (record S { ended = over_with S a false; killed = container_of (find_launched S.launched a) ++ S.killed; phase = Running }) (tell a.task (task_call.Dies a) C) (then' f))
      (sym (bars-at cfg k h m made o.stands run ∙ e))
      (record {
        work = refl;
        can = tt;
        due = same.due;
        tail = same.tail;
        bars = same.bars;
        tasks = λ e. same.tasks run;
        launched = same.launched;
        known = same.known;
        earlier = same.earlier;
        killed = λ e n. ap (λ l. killed_by (sends.kill_at l ++ []) m.killed n) ((found cfg k h m made o run).launch a) ∙ kills-is a (find_launched S.launched a) refl n;
      }))
    where
      then' : Option Attempt → read.Seen
      then' f = record (after.after_bar m f) { work = work_at k Running; killed = killed_by (sends.bar_sends W m f ++ []) (after.after_bar m f).killed }

      same : At cfg k S (tell a.task (task_call.Dies a) C) (read.tell m a.task (task_call.Dies a))
      same = tell-at cfg k S C m a.task (task_call.Dies a) here

  -- ---- a flush

  alike-now : AllAlike cfg k h m
  alike-now = o.stands.tasks run

  tells-tail : Each (TellsOf cfg k) m.tail
  tells-tail = subst (Each (TellsOf cfg k)) (sym o.stands.tail) (tails cfg k h made)

  flushes : Led Flush true Running
  unfolding work_at
  flushes = record {
    work = refl;
    can = tt;
    due = ap (λ (z : read.Seen). z.due) same ∙ here.due;
    tail = refl;
    bars = ap (λ (z : read.Seen). z.bars) same ∙ here.bars;
    tasks = λ e. subst (λ rs. SameCalls cfg k (tell_each (λ a. task_call.Records a) (successes rs) C) (recorded W m m.tail).calls) o.stands.tail (recorded-alike cfg k m.tail tells-tail C m (here.tasks run));
    launched = ap (λ (z : read.Seen). z.launched) same ∙ here.launched;
    known = ap (λ (z : read.Seen). z.known) same ∙ here.known;
    earlier = ap (λ (z : read.Seen). z.earlier) same ∙ here.earlier;
    killed = λ e n. (let p = append-nil (sends.flush_sends W m m.tail) ∙ flush-sent cfg k h m made o.launched alike-now o.stands.tail in let q = ap (λ (z : read.Seen). z.killed) same in λ i. killed_by (p i) (q i) n)
        ∙ (flush-notes cfg k h m made o.launched alike-now m.killed n
        ∙ (ap (λ b. Sent_to k (all_rivals S (successes S.tail)) n || b) (here.killed run n) ∙ sym (has-both (containers_of (all_rivals S (successes S.tail))) S.killed (record { app = k; number = n }))));
  }
    where
      same : recorded W m m.tail ≡ record m { calls = (recorded W m m.tail).calls }
      same = recorded-is W m m.tail

  -- ---- each answer

  choose : (c : Store) (q : Phase) → Led c true q → (b : Bool) → Led c b (if b then q else Stopped)
  choose c q o true = o
  choose c q o false = stops c

  module _ (call : Store) (r : Reply) (due : AppendsDue S.due call) (d : duty_of cfg k S Running ≡ Some call) where
    abbrev Q : Phase
    Q = phase_told k S Running call r

    abbrev U : Seen
    U = with_read cfg (if is_fine r then worked S call else S) call r

    abbrev D : Calls
    D = if is_fine r then calls_worked S call C else C

    abbrev X : read.Seen
    X = change_at cfg k m Running call r

    abbrev Goal : Store → Type 0
    Goal c = At cfg k (record (with_read cfg (if is_fine r then worked S c else S) c r) { phase = phase_told k S Running c r }) (if is_fine r then calls_worked S c C else C)
        (record (change_at cfg k m Running c r) {
          work = work_at k (phase_told k S Running c r);
          killed = killed_by (sends_at cfg k m Running c r ++ sends.outcome_of W (work_at k (phase_told k S Running c r))) (change_at cfg k m Running c r).killed;
        })

    led : Goal call
    unfolding phase_told
    led = at-running (λ c. AppendsDue S.due c → duty_of cfg k S Running ≡ Some c → Goal c)
        (λ x due d. choose (Append_record x) Running (appends x due) (is_fine r))
        (λ due d. choose Flush Running flushes (is_fine r))
        (λ a due d. choose (Names (Bar a)) Running (bars a (first-due cfg k S a d)) (is_fine r))
        (λ due d. choose (Names (Create commit_started true)) (Committing List_job) begins (is_fine r)) cfg k S call d due d

    works-on : (c : Store) → read.is_running (change_at cfg k m Running c r).work ≡ true
    works-on c = at c (is_fine r) refl
      where
        runs : read.is_running m.work ≡ true
        runs = ap read.is_running (o.stands.work ∙ ap (work_at k) (running-only S.phase run)) ∙ runs-is k Running tt

        barring : (f : Option Attempt) → read.is_running (after.after_bar m f).work ≡ true
        barring None = runs
        barring (Some a) = runs

        moving : (rs : List Record) → read.is_running (moved_first m rs).work ≡ true
        moving [] = runs
        moving (x ∷ rs) = runs

        naming : (b : Bool) → read.is_running (after_duty W m (name_of_names b)).work ≡ true
        naming true = barring (find (read.is_live W m) m.bars)
        naming false = runs

        at : (c : Store) → (b : Bool) → is_fine r ≡ b → read.is_running (if b then after_duty W m (name_of_running c) else m).work ≡ true
        at c false e = runs
        at (Append_record x) true e = moving m.due
        at (Names op) true e = naming (is_some (bar_of op))
        at Flush true e = ap (λ (z : read.Seen). read.is_running z.work) (recorded-is W m m.tail) ∙ runs
        at Read_history true e = runs

    still : is_running U.phase ≡ true
    still = runs-still call r d

    seen-is : told cfg k S call r ≡ record U { phase = Q }
    unfolding told
    seen-is = (let p = running-only S.phase run in λ i. with_phase (phase_told k S (p i) call r) U)
        ∙ ((λ i. if is_running Q && not (still i) then record U { phase = Q; standing = newest_maps U.known U.history []; recorded = attempts_of (newest_maps U.known U.history []) } else record U { phase = Q })
        ∙ no-and (is_running Q) _ _)

    calls-is : next_calls cfg k S (Asks call r) C ≡ D
    unfolding next_calls
    calls-is = (let p = running-only S.phase run in λ i. calls_phased (phase_told k S (p i) call r) U D)
        ∙ ((λ i. if is_running Q && not (still i) then tell_each (λ a. task_call.Recovers a) (attempts_of (newest_maps U.known U.history [])) (tell_each (λ a. task_call.Recovers a) (winning U.winners) D) else D)
        ∙ no-and (is_running Q) _ _)

    duty-here : duty W m ≡ named Running (Some call)
    duty-here = (point cfg k h m made o.stands).duty ∙ ((let p = running-only S.phase run in λ i. named (p i) (duty_of cfg k S (p i))) ∙ ap (named Running) d)

    machine-is : next.next_seen W m (step_of (Asks call r)) ≡ record X { work = work_at k Q; killed = killed_by (sends_at cfg k m Running call r ++ sends.outcome_of W (work_at k Q)) X.killed }
    unfolding next.next_seen next.moved next.sent_by
    machine-is =
        let a = answered cfg k S m Running call r tt at-work tt o.stands.tail d duty-here ∙ runs-on cfg k X (work_at k Q) (works-on call) in
        let e = answer-sent cfg k S m Running call r tt at-work tt o.stands.tail d duty-here in
        λ i. next.with_kills (e i) (a i)

    asks-at : Holds cfg k (Asks call r ∷ h) (next.next_seen W m (step_of (Asks call r)))
    unfolding next_seen
    asks-at = of-at cfg k h (Asks call r) _
        (subst (λ z. At cfg k z (next_calls cfg k S (Asks call r) C) (next.next_seen W m (step_of (Asks call r)))) (sym seen-is)
        (subst (λ z. At cfg k (record U { phase = Q }) z (next.next_seen W m (step_of (Asks call r)))) (sym calls-is)
        (subst (λ z. At cfg k (record U { phase = Q }) D z) (sym machine-is) led)))

pub answers_keep : (cfg : Config) (k : ℕ) (h : List Master_step) (m : read.Seen) (call : Store) (r : Reply) → Kept cfg k h m (Asks call r)
answers_keep cfg k h m call r made o run = asks-at cfg k h m made.1 o run call r (appends-due cfg k (seen cfg k h) call made.0.0)
    (subst (λ p. duty_of cfg k (seen cfg k h) p ≡ Some call) (running-only (seen cfg k h).phase run) made.0.0)
