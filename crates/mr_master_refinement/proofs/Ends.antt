-- A master that never runs: one that stops, finds a mark, or goes on failing by what it read. Its machine stands where it does.
use Rattle.std.proofs.Common.{ℕ, zero, suc, ◌≡◌, refl, sym, ◌∙◌, ap, subst, Bool, true, false, ◌&&◌, not, List, [], ◌∷◌, Some, None, if◌then◌else◌, nat_le, ◌⊎◌, inl, inr}
use Rattle.std.proofs.lemmas.Bool.{false≢true}
use Rattle.mr_ids.specs.Same.{same_task}
use Rattle.mr_names.specs.declared.fault.NameFault.{NameFault}
use Rattle.mr_names.specs.declared.fault.NameFault.TheVariants as name
use Rattle.mr_history.specs.declared.record.Record.{Record}
use Rattle.mr_task.specs.Calls as task_call
use Rattle.mr_task.specs.Readings as task
use Rattle.mr_master_model.specs.declared.setting.Setting.{Setting}
use Rattle.mr_master_model.specs.Readings as read
use Rattle.mr_master_model.specs.Answered.{with_earlier}
use Rattle.mr_master_model.specs.Next as next
use Rattle.mr_world_model.specs.Packets.{Config, Store, Names, Append_record, Flush, Read_history, Reply, Fine, Found, Bytes, Records, Refused}
use Rattle.mr_world_model.specs.Hearing.{Seen, Phase, Opening, Setting_up, Recovering, Failing, Todo_winner, Look_below, Measure, Clear_own, Move_from, is_running}
use Rattle.mr_world_model.specs.Duties.{Master_step, Came, Launches, Expires, Asks, seen, next_seen, told, with_read, worked, is_fine, is_read, is_cleared, right_length, duty_of, mark_at, phase_told, recovering, recover_rest, looked, records_of, winners_of, newest_maps, attempts_of}
use Rattle.mr_world_model.specs.Sending.{is_failing}
use Rattle.mr_world_model.specs.Claims.{has_not_run}
use Rattle.mr_world_model.specs.Calls.{Calls, calls, next_calls, calls_worked, tell_barred, tell_each, winning}
use Rattle.mr_world_model.specs.Made.{IsMade, AllMade}
use Rattle.mr_world_model.proofs.Basic.{if_cases}
use Rattle.mr_world_model.proofs.Masters.{came-phase, told-phase}
use Rattle.mr_master_refinement.specs.Steps.{setting, step_of, not_told}
use Rattle.mr_master_refinement.specs.Works.{CanBe, work_at}
use Rattle.mr_master_refinement.specs.Agreement.{machine_seen}
use Rattle.mr_master_refinement.specs.Holds.{EndsEarly}
use Rattle.mr_master_refinement.specs.Points.{view}
use Rattle.mr_master_refinement.proofs.Turns.{some-is}
use Rattle.mr_master_refinement.proofs.Turn.{can-after}
use Rattle.mr_master_refinement.proofs.Changes.{change_at}
use Rattle.mr_master_refinement.proofs.Early.{Early, early_seen, early_machine, no_calls, Taken, Mute, mute, same-if, young-runs, told-is, machine-after}
use Rattle.mr_master_refinement.proofs.Until.{until}
use Rattle.mr_master_refinement.proofs.Begins.{no-calls-yet}
use Rattle.mr_master_refinement.proofs.Held.{At, of-at}
use Rattle.mr_master_refinement.proofs.Late.{idle-at}
use Rattle.mr_master_refinement.proofs.Flushing.{SameCalls}

-- ---- what an answer changes until it runs

-- nothing but what was read and what tasks were told; and nothing was told to any where it goes on failing
record Little (cfg : Config) (k : ℕ) (p : Phase) (f : ℕ → ℕ) (read' : List Record) (cs : Calls) (q : Phase) (call : Store) (r : Reply) : Type 0 where
  then' : Calls
  is : change_at cfg k (early_machine (work_at k p) f read' cs) p call r ≡ early_machine (work_at k p) f (if is_read call then records_of r else read') then'
  silent : is_failing q ≡ true → then' ≡ no_calls

abbrev Sound : Phase → Type 0
Sound q = is_failing q ≡ false

rest-sound : (k : ℕ) (todo : List Todo_winner) → Sound (recover_rest k todo)
rest-sound k [] = refl
rest-sound k (x ∷ todo) = if_cases Sound (nat_le k 1) _ _ (λ t. refl) (λ t. refl)

looked-sound : (n : ℕ) (r : Reply) → Sound (looked n r)
looked-sound n (Found (Some x)) = refl
looked-sound n (Found None) = refl
looked-sound n _ = refl

below-sound : (k : ℕ) (ws : List Todo_winner) (j : ℕ) (r : Reply) → Sound (recovering k ws (Look_below j) r)
below-sound k ws j (Found (Some y)) = refl
below-sound k ws j (Found None) = if_cases Sound (nat_le j 1) _ _ (λ t. refl) (λ t. refl)
below-sound k ws j _ = refl

measure-sound : (k : ℕ) (ws : List Todo_winner) (j : ℕ) (r : Reply) → Sound (recovering k ws (Measure j) r)
measure-sound k ws j (Bytes bytes) = if_cases Sound (right_length ws bytes) _ _ (λ t. refl) (λ t. refl)
measure-sound k ws j _ = refl

not-both : {A : Type 0} (q : Phase) → Sound q → is_failing q ≡ true → A
not-both q s e = absurd (false≢true (sym s ∙ e))

module _ (cfg : Config) (k : ℕ) (ws : List Todo_winner) (f : ℕ → ℕ) (read' : List Record) (cs : Calls) where
  abbrev LittleAt : Phase → Store → Reply → Type 0
  LittleAt p call r = Little cfg k p f read' cs (phase_told k (early_seen p ws f read') p call r) call r

  keeps-read : (m : read.Seen) (why : NameFault) → with_earlier m (not_told why) ≡ m
  keeps-read m (name.Superseded fence) = refl
  keeps-read m _ = refl

  read-little : (n : ℕ) (r : Reply) → read' ≡ [] → cs ≡ no_calls → LittleAt (Opening n) Read_history r
  read-little n (Records rs) none quiet = record { then' = cs; is = refl; silent = λ e. quiet }
  read-little n (Refused why) none quiet = record { then' = cs; is = keeps-read _ why ∙ ap (λ rs. early_machine (work_at k (Opening n)) f rs cs) none; silent = λ e. quiet }
  read-little n Fine none quiet = record { then' = cs; is = ap (λ rs. early_machine (work_at k (Opening n)) f rs cs) none; silent = λ e. quiet }
  read-little n (Found x) none quiet = record { then' = cs; is = ap (λ rs. early_machine (work_at k (Opening n)) f rs cs) none; silent = λ e. quiet }
  read-little n _ none quiet = record { then' = cs; is = ap (λ rs. early_machine (work_at k (Opening n)) f rs cs) none; silent = λ e. quiet }

  opening-little : (n : ℕ) (r : Reply) → read' ≡ [] → cs ≡ no_calls → LittleAt (Opening n) (mark_at n) r
  opening-little zero r none quiet = record { then' = cs; is = refl; silent = λ e. quiet }
  opening-little (suc zero) r none quiet = record { then' = cs; is = refl; silent = λ e. quiet }
  opening-little (suc (suc zero)) r none quiet = record { then' = cs; is = refl; silent = λ e. quiet }
  opening-little (suc (suc (suc n))) r none quiet = read-little (suc (suc (suc n))) r none quiet

  little : (p : Phase) (call : Store) (r : Reply) → CanBe p → has_not_run p ≡ true → Taken cfg p ws read' cs → duty_of cfg k (early_seen p ws f read') p ≡ Some call → LittleAt p call r
  unfolding duty_of phase_told
  little (Opening n) call r can y t d = subst (λ c. LittleAt (Opening n) c r) (some-is (mark_at n) call d) (opening-little n r t.0 t.2)
  little Setting_up call r can y t d = subst (λ c. LittleAt Setting_up c r) (some-is _ call d)
      (record { then' = cs; is = refl; silent = not-both _ (if_cases Sound (is_fine r) _ _ (λ t. rest-sound k ws) (λ t. refl)) })
  little (Recovering [] at) call r can y t d = absurd can
  little (Recovering (x ∷ todo) (Look_below j)) call r can y t d = subst (λ c. LittleAt (Recovering (x ∷ todo) (Look_below j)) c r) (some-is _ call d)
      (record { then' = cs; is = refl; silent = not-both _ (below-sound k (x ∷ todo) j r) })
  little (Recovering (x ∷ todo) (Measure j)) call r can y t d = subst (λ c. LittleAt (Recovering (x ∷ todo) (Measure j)) c r) (some-is _ call d)
      (record { then' = cs; is = refl; silent = not-both _ (measure-sound k (x ∷ todo) j r) })
  little (Recovering (x ∷ todo) (Clear_own j)) call r can y t d = subst (λ c. LittleAt (Recovering (x ∷ todo) (Clear_own j)) c r) (some-is _ call d)
      (record { then' = cs; is = refl; silent = not-both _ (if_cases Sound (is_cleared r) _ _ (λ t. refl) (λ t. refl)) })
  little (Recovering (x ∷ todo) (Move_from j)) call r can y t d = subst (λ c. LittleAt (Recovering (x ∷ todo) (Move_from j)) c r) (some-is _ call d)
      (record { then' = if is_fine r then more else cs; is = change (is_fine r); silent = not-both _ (if_cases Sound (is_fine r) _ _ (λ t. rest-sound k todo) (λ t. refl)) })
    where
      more : Calls
      more u = if same_task u x.task then task_call.Recovers x.attempt ∷ cs u else cs u

      M : read.Seen
      M = early_machine (work_at k (Recovering (x ∷ todo) (Move_from j))) f read' cs

      change : (b : Bool) → (if b then read.tell M x.task (task_call.Recovers x.attempt) else M) ≡ early_machine (work_at k (Recovering (x ∷ todo) (Move_from j))) f read' (if b then more else cs)
      change true = refl
      change false = refl
  little _ call r can y t d = absurd (false≢true y)

-- ---- where it ends so

-- what is held then: tasks have heard alike where it goes on failing
pub record Over (cfg : Config) (k : ℕ) (s : Seen) (c : Calls) (m : read.Seen) : Type 0 where
  pub at : At cfg k s c m
  pub silent : is_failing s.phase ≡ true → SameCalls cfg k c m.calls

module _ (cfg : Config) (k : ℕ) (p : Phase) (ws : List Todo_winner) (f : ℕ → ℕ) (read' : List Record) (cs : Calls) (can : CanBe p) (young : has_not_run p ≡ true) (taken' : Taken cfg p ws read' cs)
    (call : Store) (r : Reply) (d : duty_of cfg k (early_seen p ws f read') p ≡ Some call) (idle : is_running (phase_told k (early_seen p ws f read') p call r) ≡ false) where
  abbrev W : Setting
  W = setting cfg k

  abbrev S : Seen
  S = early_seen p ws f read'

  abbrev M : read.Seen
  M = early_machine (work_at k p) f read' cs

  abbrev Q : Phase
  Q = phase_told k S p call r

  -- what was seen then
  abbrev then-seen : Store → Seen
  then-seen c = early_seen Q (if is_read c then winners_of (records_of r) cfg.job cfg.reduces else ws) f (if is_read c then records_of r else read')

  mutely : Mute call
  mutely = mute cfg k S p call young can d

  quiet-work : (call : Store) → Mute call → (if is_fine r then calls_worked S call no_calls else no_calls) ≡ no_calls
  quiet-work (Names op) o = (λ i. if is_fine r then tell_barred (o i) no_calls else no_calls) ∙ same-if (is_fine r) no_calls
  quiet-work Read_history o = same-if (is_fine r) no_calls
  quiet-work Flush o = absurd o
  quiet-work (Append_record x) o = absurd o

  abbrev U : Seen
  U = with_read cfg (if is_fine r then worked S call else S) call r

  calls-then : next_calls cfg k S (Asks call r) no_calls ≡ no_calls
  unfolding next_calls
  calls-then = (λ i. if idle i && not (is_running U.phase)
      then tell_each (λ a. task_call.Recovers a) (attempts_of (newest_maps U.known U.history [])) (tell_each (λ a. task_call.Recovers a) (winning U.winners) (if is_fine r then calls_worked S call no_calls else no_calls))
      else (if is_fine r then calls_worked S call no_calls else no_calls)) ∙ quiet-work call mutely

  over : Over cfg k (told cfg k S call r) (next_calls cfg k S (Asks call r) no_calls) (next.next_seen W M (step_of (Asks call r)))
  over =
      let e = little cfg k ws f read' cs p call r can young taken' d in
      subst (λ s. Over cfg k s (next_calls cfg k S (Asks call r) no_calls) (next.next_seen W M (step_of (Asks call r)))) (sym (told-is cfg k p ws f read' cs can young taken' call r mutely idle))
      (subst (λ c. Over cfg k (then-seen call) c (next.next_seen W M (step_of (Asks call r)))) (sym calls-then)
      (subst (λ m. Over cfg k (then-seen call) no_calls m) (sym (machine-after cfg k p ws f read' cs can young taken' call r d idle ∙ ap (λ (x : read.Seen). record x { work = work_at k Q; killed = x.killed }) e.is))
      (record {
        at = idle-at cfg k (then-seen call) no_calls _ idle refl (can-after k S p call r can) (record { due = refl; tail = refl; bars = refl; launched = refl; known = refl; earlier = refl });
        silent = λ q u t. ap (λ (c : Calls). view (task.seen u k (c u))) (e.silent q);
      })))

-- ---- along a past

asks-end : (cfg : Config) (k : ℕ) (s : Seen) (m : read.Seen) (call : Store) (r : Reply) → Early cfg k s m → duty_of cfg k s s.phase ≡ Some call → is_running (phase_told k s s.phase call r) ≡ false →
    Over cfg k (told cfg k s call r) (next_calls cfg k s (Asks call r) no_calls) (next.next_seen (setting cfg k) m (step_of (Asks call r)))
asks-end cfg k s m call r o d idle =
    subst (λ z. Over cfg k (told cfg k z call r) (next_calls cfg k z (Asks call r) no_calls) (next.next_seen (setting cfg k) m (step_of (Asks call r)))) (sym o.seen-is)
    (subst (λ z. Over cfg k (told cfg k (early_seen o.phase o.winners o.known o.read') call r) (next_calls cfg k (early_seen o.phase o.winners o.known o.read') (Asks call r) no_calls) (next.next_seen (setting cfg k) z (step_of (Asks call r))))
    (sym o.machine-is)
    (over cfg k o.phase o.winners o.known o.read' o.told o.can o.young o.taken call r (subst (λ (z : Seen). duty_of cfg k z z.phase ≡ Some call) o.seen-is d)
    (subst (λ (z : Seen). is_running (phase_told k z z.phase call r) ≡ false) o.seen-is idle)))

step-ends : (cfg : Config) (k : ℕ) (s : Seen) (c : Calls) (m : read.Seen) (x : Master_step) → Early cfg k s m → c ≡ no_calls → IsMade cfg k s x → has_not_run s.phase ≡ true →
    has_not_run (next_seen cfg k s x).phase ≡ false → is_running (next_seen cfg k s x).phase ≡ false → Over cfg k (next_seen cfg k s x) (next_calls cfg k s x c) (next.next_seen (setting cfg k) m (step_of x))
unfolding next_seen
step-ends cfg k s c m (Came q) o none made y late idle = by (came-phase cfg k s q)
  where
    by : {A : Type 0} → ((next_seen cfg k s (Came q)).phase ≡ s.phase) ⊎ ((is_running s.phase ≡ true) × ((next_seen cfg k s (Came q)).phase ≡ Failing false)) → A
    by (inl e) = absurd (false≢true (sym late ∙ (ap (λ z. has_not_run z) e ∙ y)))
    by (inr e) = absurd (false≢true (sym (young-runs s.phase y) ∙ e.0))
step-ends cfg k s c m (Launches l) o none made y late idle = absurd (false≢true (sym (young-runs s.phase y) ∙ made.2))
step-ends cfg k s c m (Expires n) o none made y late idle = absurd (false≢true (sym (young-runs s.phase y) ∙ made.0))
step-ends cfg k s c m (Asks call r) o none made y late idle =
    subst (λ c. Over cfg k (told cfg k s call r) (next_calls cfg k s (Asks call r) c) (next.next_seen (setting cfg k) m (step_of (Asks call r)))) (sym none)
    (asks-end cfg k s m call r o made.0 (ap (λ z. is_running z) (sym (told-phase cfg k s call r)) ∙ idle))

pub ends-over : (cfg : Config) (k : ℕ) (h : List Master_step) (x : Master_step) → AllMade cfg k (x ∷ h) → has_not_run (seen cfg k h).phase ≡ true → has_not_run (seen cfg k (x ∷ h)).phase ≡ false →
    is_running (seen cfg k (x ∷ h)).phase ≡ false → Over cfg k (next_seen cfg k (seen cfg k h) x) (next_calls cfg k (seen cfg k h) x (calls cfg k h)) (machine_seen cfg k (x ∷ h))
unfolding seen next.seen
ends-over cfg k h x made y late idle = step-ends cfg k (seen cfg k h) (calls cfg k h) (machine_seen cfg k h) x (until cfg k h made.1 y) (λ i t. no-calls-yet cfg k h made.1 y t i) made.0 y late idle

pub ends_early : EndsEarly
ends_early cfg k h x made y late idle = of-at cfg k h x (machine_seen cfg k (x ∷ h)) (ends-over cfg k h x made y late idle).at
