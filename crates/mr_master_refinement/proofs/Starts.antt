-- Where a master begins to run: what it and its machine have seen then.
use Rattle.std.proofs.Common.{ℕ, ◌-◌, ◌≡◌, refl, sym, ◌∙◌, ap, subst, Bool, true, false, ◌&&◌, not, List, [], ◌∷◌, Option, Some, None, if◌then◌else◌, nat_le, ◌⊎◌, inl, inr}
use Rattle.std.proofs.lemmas.Bool.{false≢true, true≢false}
use Rattle.mr_ids.specs.declared.id.TaskId.{TaskId}
use Rattle.mr_ids.specs.declared.id.TaskKind.{TaskKind}
use Rattle.mr_ids.specs.declared.id.TaskKind.TheVariants.{Map, Reduce}
use Rattle.mr_ids.specs.Attempt.{Attempt}
use Rattle.mr_history.specs.declared.record.Record.{Record}
use Rattle.mr_task.specs.Calls as task_call
use Rattle.mr_task.specs.Calls.{TaskCall}
use Rattle.mr_task.specs.Readings as task
use Rattle.mr_master_model.specs.declared.setting.Setting.{Setting}
use Rattle.mr_master_model.specs.Job.{is_task}
use Rattle.mr_master_model.specs.Past.{Work}
use Rattle.mr_master_model.specs.Readings as read
use Rattle.mr_master_model.specs.Readings.{newest_in, told_each}
use Rattle.mr_master_model.specs.Hearing.{of_maps}
use Rattle.mr_master_model.specs.Duty.{duty}
use Rattle.mr_master_model.specs.Answered.{taken, taken_of, with_maps, with_work}
use Rattle.mr_master_model.specs.Sends.{answer_sends}
use Rattle.mr_master_model.specs.Next as next
use Rattle.mr_world_model.specs.Ids.{of_reduces, is_reduce}
use Rattle.mr_world_model.specs.Packets.{Config, Store, Names, Append_record, Flush, Read_history, Reply, Found, Bytes, Records}
use Rattle.mr_world_model.specs.Hearing.{Seen, Phase, Opening, Setting_up, Recovering, Failing, Stopped, Todo_winner, Look_below, Measure, Clear_own, Move_from, is_running, has_container, after_bar}
use Rattle.mr_world_model.specs.Duties.{Master_step, Came, Launches, Expires, Asks, seen, next_seen, told, with_phase, with_read, worked, is_fine, is_read, is_cleared, is_unsuccessful, right_length, duty_of, phase_told, looked, was_read, recover_rest, recovering, newest_maps, attempts_of}
use Rattle.mr_world_model.specs.Claims.{has_not_run, In}
use Rattle.mr_world_model.specs.Calls.{Calls, calls, next_calls, calls_phased, calls_worked, tell_each, tell_barred, TakenEarlier, Fits}
use Rattle.mr_world_model.specs.Made.{IsMade}
use Rattle.mr_world_model.proofs.Lists.{Each-In, In-right}
use Rattle.mr_world_model.proofs.Made.{fitted, all-fit, WinsOf}
use Rattle.mr_world_model.proofs.Masters.{came-phase, told-phase}
use Rattle.mr_master_refinement.specs.Steps.{setting, step_of, answer_of}
use Rattle.mr_master_refinement.specs.Works.{CanBe, work_at, named}
use Rattle.mr_master_refinement.specs.Agreement.{machine_seen}
use Rattle.mr_master_refinement.specs.Points.{view, in_order}
use Rattle.mr_master_refinement.specs.Begins.{attempts_in}
use Rattle.mr_master_refinement.specs.Holds.{Holds, RunningBegins}
use Rattle.mr_master_refinement.proofs.Works.{runs-is}
use Rattle.mr_master_refinement.proofs.Turn.{if_cases, can-after}
use Rattle.mr_master_refinement.proofs.Changes.{change_at}
use Rattle.mr_master_refinement.proofs.Answering.{answered}
use Rattle.mr_master_refinement.proofs.Early.{Early, early_seen, early_machine, Taken, recovered, no_calls, young-runs, Mute, mute, same-if, one-more, set-up, early-duty, none-killed}
use Rattle.mr_master_refinement.proofs.Until.{until}
use Rattle.mr_master_refinement.proofs.Begins.{told-is, none-in, no-calls-yet, beginnings_agree}

-- ---- which answers begin it

abbrev Idle : Phase → Type 0
Idle p = is_running p ≡ false

looked-idle : (n : ℕ) (r : Reply) → Idle (looked n r)
looked-idle n (Found (Some x)) = refl
looked-idle n (Found None) = refl
looked-idle n _ = refl

read-idle : (r : Reply) → Idle (was_read r)
read-idle (Records rs) = if_cases Idle (is_unsuccessful rs) _ _ (λ t. refl) (λ t. refl)
read-idle _ = refl

rest-idle : (k : ℕ) (x : Todo_winner) (todo : List Todo_winner) → Idle (recover_rest k (x ∷ todo))
rest-idle k x todo = if_cases Idle (nat_le k 1) _ _ (λ t. refl) (λ t. refl)

recovering-idle : (k : ℕ) (x : Todo_winner) (todo : List Todo_winner) (j : ℕ) (r : Reply) → Idle (recovering k (x ∷ todo) (Look_below j) r)
recovering-idle k x todo j (Found (Some y)) = refl
recovering-idle k x todo j (Found None) = if_cases Idle (nat_le j 1) _ _ (λ t. refl) (λ t. refl)
recovering-idle k x todo j _ = refl

measuring-idle : (k : ℕ) (x : Todo_winner) (todo : List Todo_winner) (j : ℕ) (r : Reply) → Idle (recovering k (x ∷ todo) (Measure j) r)
measuring-idle k x todo j (Bytes bytes) = if_cases Idle (right_length (x ∷ todo) bytes) _ _ (λ t. refl) (λ t. refl)
measuring-idle k x todo j _ = refl

abbrev Starts : Config → ℕ → Phase → List Todo_winner → (ℕ → ℕ) → List Record → Calls → Store → Reply → Type 0
Starts cfg k p ws f read' cs call r = (is_read call ≡ false) × (change_at cfg k (early_machine (work_at k p) f read' cs) p call r ≡ early_machine (work_at k p) f read' (recovered ws))

module _ (cfg : Config) (k : ℕ) (ws : List Todo_winner) (f : ℕ → ℕ) (read' : List Record) (cs : Calls) where
  absurd-starts : (q : Phase) {A : Type 0} → Idle q → is_running q ≡ true → A
  absurd-starts q i run = absurd (false≢true (sym i ∙ run))

  setting-starts : (call : Store) (r : Reply) → Taken cfg Setting_up ws read' cs → duty_of cfg k (early_seen Setting_up ws f read') Setting_up ≡ Some call →
      is_running (phase_told k (early_seen Setting_up ws f read') Setting_up call r) ≡ true → Starts cfg k Setting_up ws f read' cs call r
  unfolding duty_of phase_told
  setting-starts call r t d run = (ap (λ (o : Option Store). reads o) (sym d), (λ i. early_machine (work_at k Setting_up) f read' (none i)))
    where
      reads : Option Store → Bool
      reads None = false
      reads (Some c) = is_read c

      by : (b : Bool) (xs : List Todo_winner) → is_running (if b then recover_rest k xs else Stopped) ≡ true → xs ≡ []
      by true [] e = refl
      by true (x ∷ xs) e = absurd-starts (recover_rest k (x ∷ xs)) (rest-idle k x xs) e
      by false xs e = absurd (false≢true e)

      none : cs ≡ recovered ws
      none = t.1 ∙ ap (λ xs. recovered xs) (sym (by (is_fine r) ws run))

  moving-starts : (x : Todo_winner) (todo : List Todo_winner) (j : ℕ) (call : Store) (r : Reply) → Taken cfg (Recovering (x ∷ todo) (Move_from j)) ws read' cs → x.attempt.task ≡ x.task →
      duty_of cfg k (early_seen (Recovering (x ∷ todo) (Move_from j)) ws f read') (Recovering (x ∷ todo) (Move_from j)) ≡ Some call →
      is_running (phase_told k (early_seen (Recovering (x ∷ todo) (Move_from j)) ws f read') (Recovering (x ∷ todo) (Move_from j)) call r) ≡ true →
      Starts cfg k (Recovering (x ∷ todo) (Move_from j)) ws f read' cs call r
  unfolding duty_of phase_told
  moving-starts x todo j call r t own d run = (ap (λ (o : Option Store). reads o) (sym d), by (is_fine r) todo t run)
    where
      reads : Option Store → Bool
      reads None = false
      reads (Some c) = is_read c

      at : Work
      at = work_at k (Recovering (x ∷ todo) (Move_from j))

      by : (b : Bool) (rest : List Todo_winner) → Taken cfg (Recovering (x ∷ rest) (Move_from j)) ws read' cs → is_running (if b then recover_rest k rest else Stopped) ≡ true →
          (if b then read.tell (early_machine at f read' cs) x.task (task_call.Recovers x.attempt) else early_machine at f read' cs) ≡ early_machine at f read' (recovered ws)
      by true [] t e = let q = one-more x t.1 cs own t.3 ∙ ap (λ xs. recovered xs) t.2 in λ i. early_machine at f read' (q i)
      by true (y ∷ rest) t e = absurd-starts (recover_rest k (y ∷ rest)) (rest-idle k y rest) e
      by false rest t e = absurd (false≢true e)

  starts : (p : Phase) (call : Store) (r : Reply) → CanBe p → has_not_run p ≡ true → Taken cfg p ws read' cs → ((w : Todo_winner) → In w ws → w.attempt.task ≡ w.task) →
      duty_of cfg k (early_seen p ws f read') p ≡ Some call → is_running (phase_told k (early_seen p ws f read') p call r) ≡ true → Starts cfg k p ws f read' cs call r
  unfolding phase_told
  starts (Opening n) call r can y t own d run = absurd-starts _ (if_cases Idle (is_read call) _ _ (λ t. read-idle r) (λ t. looked-idle n r)) run
  starts Setting_up call r can y t own d run = setting-starts call r t d run
  starts (Recovering [] at) call r can y t own d run = absurd can
  starts (Recovering (x ∷ todo) (Look_below j)) call r can y t own d run = absurd-starts _ (recovering-idle k x todo j r) run
  starts (Recovering (x ∷ todo) (Measure j)) call r can y t own d run = absurd-starts _ (measuring-idle k x todo j r) run
  starts (Recovering (x ∷ todo) (Clear_own j)) call r can y t own d run = absurd-starts _ (if_cases Idle (is_cleared r) _ _ (λ t. refl) (λ t. refl)) run
  starts (Recovering (x ∷ todo) (Move_from j)) call r can y t own d run =
      moving-starts x todo j call r t (own x (subst (In x) t.2 (In-right x t.1 (x ∷ todo) (inl refl)))) d run
  starts _ call r can y t own d run = absurd (false≢true y)

-- ---- what is seen then

abbrev started : Phase → List Todo_winner → (ℕ → ℕ) → List Record → Seen
started q ws f read' = record (early_seen q ws f read') { standing = newest_maps f read' []; recorded = attempts_of (newest_maps f read' []) }

abbrev recovers : Attempt → TaskCall
recovers a = task_call.Recovers a

-- a record where the calls of the job's tasks are the same is all that is asked of the machine
record Begun (cfg : Config) (k : ℕ) (s : Seen) (c : Calls) (m : read.Seen) : Type 0 where
  work : m.work ≡ work_at k s.phase
  can : CanBe s.phase
  due : m.due ≡ s.due
  tail : m.tail ≡ s.tail
  bars : m.bars ≡ s.bars
  calls : (t : TaskId) → is_task (setting cfg k) t ≡ true → m.calls t ≡ c t
  launched : m.launched ≡ in_order s.launched
  known : m.known ≡ s.known
  earlier : m.earlier ≡ s.history
  killed : (n : ℕ) → m.killed n ≡ has_container s.killed (record { app = k; number = n })

module _ (cfg : Config) (k : ℕ) (p : Phase) (ws : List Todo_winner) (f : ℕ → ℕ) (read' : List Record) (cs : Calls) (can : CanBe p) (young : has_not_run p ≡ true) (taken' : Taken cfg p ws read' cs)
    (call : Store) (r : Reply) (d : duty_of cfg k (early_seen p ws f read') p ≡ Some call) (run : is_running (phase_told k (early_seen p ws f read') p call r) ≡ true)
    (start : Starts cfg k p ws f read' cs call r) where
  abbrev W : Setting
  W = setting cfg k

  abbrev S : Seen
  S = early_seen p ws f read'

  abbrev M : read.Seen
  M = early_machine (work_at k p) f read' cs

  -- all winners were taken over by then
  abbrev X : read.Seen
  X = early_machine (work_at k p) f read' (recovered ws)

  abbrev Q : Phase
  Q = phase_told k S p call r

  worked-is : (call : Store) → Mute call → is_read call ≡ false → with_read cfg (if is_fine r then worked S call else S) call r ≡ S
  worked-is (Names op) o n = (λ i. if is_fine r then after_bar S (o i) else S) ∙ same-if (is_fine r) S
  worked-is Read_history o n = absurd (true≢false n)
  worked-is Flush o n = absurd o
  worked-is (Append_record x) o n = absurd o

  mutely : Mute call
  mutely = mute cfg k S p call young can d

  seen-then : told cfg k S call r ≡ started Q ws f read'
  unfolding told
  seen-then = ap (with_phase Q) (worked-is call mutely start.0) ∙ (λ i. if run i && not (young-runs p young i) then started Q ws f read' else record S { phase = Q })

  quiet-work : (call : Store) → Mute call → (if is_fine r then calls_worked S call no_calls else no_calls) ≡ no_calls
  quiet-work (Names op) o = (λ i. if is_fine r then tell_barred (o i) no_calls else no_calls) ∙ same-if (is_fine r) no_calls
  quiet-work Read_history o = same-if (is_fine r) no_calls
  quiet-work Flush o = absurd o
  quiet-work (Append_record x) o = absurd o

  calls-then : next_calls cfg k S (Asks call r) no_calls ≡ tell_each recovers (attempts_of (newest_maps f read' [])) (recovered ws)
  unfolding next_calls
  calls-then = (let u = worked-is call mutely start.0 in let c = quiet-work call mutely in λ i. calls_phased Q (u i) (c i))
      ∙ (λ i. if run i && not (young-runs p young i) then tell_each recovers (attempts_of (newest_maps f read' [])) (recovered ws) else no_calls)

  runs-then : read.is_running (work_at k Q) ≡ true
  runs-then = runs-is k Q (can-after k S p call r can) ∙ run

  idle-before : read.is_running (work_at k p) ≡ false
  idle-before = runs-is k p can ∙ young-runs p young

  machine-then : next.next_seen W M (step_of (Asks call r)) ≡ record (with_maps W X) { work = work_at k Q; killed = λ n. false }
  unfolding next.next_seen next.moved next.sent_by
  machine-then =
      (let e = duty-here in let q = answered cfg k S M p call r can refl (set-up cfg k p ws f read' cs can young taken') refl d e in λ i. next.with_kills (answer_sends W M (answer_of call r)) (q i))
      ∙ ((λ i. next.with_kills (answer_sends W M (answer_of call r)) (with_work W (start.1 i) (work_at k Q)))
      ∙ ((λ i. next.with_kills (answer_sends W M (answer_of call r)) (record (if runs-then i && not (idle-before i) then with_maps W X else X) { work = work_at k Q }))
      ∙ (λ i. record (with_maps W X) { work = work_at k Q; killed = none-killed cfg k p ws f read' cs can young taken' call r d (λ n. false) i })))
    where
      duty-here : duty W M ≡ named p (Some call)
      duty-here = early-duty cfg k p ws f read' cs can young taken' ∙ ap (named p) d

  same-calls : ((a : Attempt) → In a (attempts_of (newest_maps f read' [])) → is_reduce a ≡ false) → (t : TaskId) → is_task W t ≡ true →
      (with_maps W X).calls t ≡ tell_each recovers (attempts_of (newest_maps f read' [])) (recovered ws) t
  same-calls maps t e =
      ap (λ (b : Bool). if b then told_each recovers (taken_of X t) (recovered ws t) else recovered ws t) e
      ∙ (ap (λ l. told_each recovers l (recovered ws t)) (by t.kind refl) ∙ sym (told-is recovers t (attempts_of (newest_maps f read' [])) (recovered ws)))
    where
      by : (x : TaskKind) → t.kind ≡ x → of_maps x (taken X (newest_in read' t)) ≡ attempts_in t (attempts_of (newest_maps f read' []))
      by Map q = sym (beginnings_agree.taken_over X t)
      by Reduce q = sym (none-in t (attempts_of (newest_maps f read' [])) maps (ap (λ x. of_reduces x) q))

  begun : TakenEarlier k (with_read cfg (if is_fine r then worked S call else S) call r) →
      Begun cfg k (told cfg k S call r) (next_calls cfg k S (Asks call r) no_calls) (next.next_seen W M (step_of (Asks call r)))
  begun earlier =
      subst (λ s. Begun cfg k s (next_calls cfg k S (Asks call r) no_calls) (next.next_seen W M (step_of (Asks call r)))) (sym seen-then)
      (subst (λ c. Begun cfg k (started Q ws f read') c (next.next_seen W M (step_of (Asks call r)))) (sym calls-then)
      (subst (λ m. Begun cfg k (started Q ws f read') (tell_each recovers (attempts_of (newest_maps f read' [])) (recovered ws)) m) (sym machine-then) (record {
        work = refl;
        can = can-after k S p call r can;
        due = refl;
        tail = refl;
        bars = refl;
        calls = same-calls (subst (λ (u : Seen). (a : Attempt) → In a (attempts_of (newest_maps u.known u.history [])) → is_reduce a ≡ false) (worked-is call mutely start.0) earlier.are_maps);
        launched = refl;
        known = refl;
        earlier = refl;
        killed = λ n. refl;
      })))

-- ---- along a past

asks-begin : (cfg : Config) (k : ℕ) (s : Seen) (m : read.Seen) (call : Store) (r : Reply) → Early cfg k s m → ((w : Todo_winner) → In w s.winners → w.attempt.task ≡ w.task) →
    TakenEarlier k (with_read cfg (if is_fine r then worked s call else s) call r) → duty_of cfg k s s.phase ≡ Some call → is_running (phase_told k s s.phase call r) ≡ true →
    Begun cfg k (told cfg k s call r) (next_calls cfg k s (Asks call r) no_calls) (next.next_seen (setting cfg k) m (step_of (Asks call r)))
asks-begin cfg k s m call r o own earlier d run =
    subst (λ z. Begun cfg k (told cfg k z call r) (next_calls cfg k z (Asks call r) no_calls) (next.next_seen (setting cfg k) m (step_of (Asks call r)))) (sym o.seen-is)
    (subst (λ z. Begun cfg k (told cfg k s0 call r) (next_calls cfg k s0 (Asks call r) no_calls) (next.next_seen (setting cfg k) z (step_of (Asks call r)))) (sym o.machine-is)
    (at (subst (λ (z : Seen). (w : Todo_winner) → In w z.winners → w.attempt.task ≡ w.task) o.seen-is own)
    (subst (λ (z : Seen). TakenEarlier k (with_read cfg (if is_fine r then worked z call else z) call r)) o.seen-is earlier)
    (subst (λ (z : Seen). duty_of cfg k z z.phase ≡ Some call) o.seen-is d) (subst (λ (z : Seen). is_running (phase_told k z z.phase call r) ≡ true) o.seen-is run)))
  where
    s0 : Seen
    s0 = early_seen o.phase o.winners o.known o.read'

    at : ((w : Todo_winner) → In w o.winners → w.attempt.task ≡ w.task) → TakenEarlier k (with_read cfg (if is_fine r then worked s0 call else s0) call r) →
        duty_of cfg k s0 o.phase ≡ Some call → is_running (phase_told k s0 o.phase call r) ≡ true →
        Begun cfg k (told cfg k s0 call r) (next_calls cfg k s0 (Asks call r) no_calls) (next.next_seen (setting cfg k) (early_machine (work_at k o.phase) o.known o.read' o.told) (step_of (Asks call r)))
    at own earlier d run = begun cfg k o.phase o.winners o.known o.read' o.told o.can o.young o.taken call r d run
        (starts cfg k o.winners o.known o.read' o.told o.phase call r o.can o.young o.taken own d run) earlier

step-begins : (cfg : Config) (k : ℕ) (s : Seen) (c : Calls) (m : read.Seen) (x : Master_step) → Early cfg k s m → c ≡ no_calls → ((w : Todo_winner) → In w s.winners → w.attempt.task ≡ w.task) →
    Fits cfg k s c x → IsMade cfg k s x → has_not_run s.phase ≡ true → is_running (next_seen cfg k s x).phase ≡ true →
    Begun cfg k (next_seen cfg k s x) (next_calls cfg k s x c) (next.next_seen (setting cfg k) m (step_of x))
unfolding next_seen
step-begins cfg k s c m (Came q) o none own fit made y run = by (came-phase cfg k s q)
  where
    by : {A : Type 0} → ((next_seen cfg k s (Came q)).phase ≡ s.phase) ⊎ ((is_running s.phase ≡ true) × ((next_seen cfg k s (Came q)).phase ≡ Failing false)) → A
    by (inl e) = absurd (false≢true (sym (young-runs s.phase y) ∙ (ap (λ z. is_running z) (sym e) ∙ run)))
    by (inr e) = absurd (false≢true (sym (young-runs s.phase y) ∙ e.0))
step-begins cfg k s c m (Launches l) o none own fit made y run = absurd (false≢true (sym (young-runs s.phase y) ∙ made.2))
step-begins cfg k s c m (Expires n) o none own fit made y run = absurd (false≢true (sym (young-runs s.phase y) ∙ made.0))
step-begins cfg k s c m (Asks call r) o none own fit made y run =
    subst (λ c. Begun cfg k (told cfg k s call r) (next_calls cfg k s (Asks call r) c) (next.next_seen (setting cfg k) m (step_of (Asks call r)))) (sym none)
    (asks-begin cfg k s m call r o own fit made.0 (ap (λ z. is_running z) (sym (told-phase cfg k s call r)) ∙ run))

holds-of : (cfg : Config) (k : ℕ) (h : List Master_step) (x : Master_step) (m : read.Seen) → Begun cfg k (next_seen cfg k (seen cfg k h) x) (next_calls cfg k (seen cfg k h) x (calls cfg k h)) m → Holds cfg k (x ∷ h) m
unfolding seen calls
holds-of cfg k h x m b = record {
  stands = record {
    work = b.work;
    can = b.can;
    due = b.due;
    tail = b.tail;
    bars = b.bars;
    tasks = λ run t e. ap (λ cs. view (task.seen t k cs)) (b.calls t e);
  };
  launched = b.launched;
  known = b.known;
  earlier = b.earlier;
  killed = λ run n. b.killed n;
}

pub running_begins : RunningBegins
unfolding seen next.seen
running_begins cfg k h x made y run = holds-of cfg k h x (machine_seen cfg k (x ∷ h))
    (step-begins cfg k (seen cfg k h) (calls cfg k h) (machine_seen cfg k h) x (until cfg k h made.1 y) (λ i t. no-calls-yet cfg k h made.1 y t i)
    (λ w i. (Each-In (WinsOf cfg (k - 1)) (seen cfg k h).winners (fitted cfg k h made.1).won w i).0) (all-fit cfg k (x ∷ h) made).0 made.0 y run)
