-- Each step of a master's past is what an event makes, so all launches and all that is taken over fit.
use Rattle.std.proofs.Common.{ℕ, zero, suc, ◌+◌, ◌-◌, ◌*◌, ◌≤◌, ◌<◌, ◌≡◌, refl, sym, ap, subst, Bool, true, false, ◌&&◌, not, List, [], ◌∷◌, ◌++◌, Option, Some, None, if◌then◌else◌, is_some, nat_eq, nat_lt, nat_le, ◌⊎◌, inl, inr, arith}
use Rattle.std.proofs.lemmas.Bool.{and_parts, eqb-true, ltb-true}
use Rattle.std.proofs.lemmas.Bool.Decides.{nat_tests}
use Rattle.mr_task.specs.Readings as task
use Rattle.mr_world_model.specs.Ids.{Attempt, ContainerId, TaskId, JobId, is_reduce, of_reduces, task_eq, reduce_of, same_job}
use Rattle.mr_world_model.specs.Records.{Record, History, AttemptStarted, MapSucceeded, ReduceSucceeded, AttemptFailed, JobUnsuccessful, records_below, as_written, winner_in, length_in}
use Rattle.mr_world_model.specs.Content.{Content, Op, NameFault, refusal, bar_of, MkDirs, Create, Append, Close, Delete, Rename, ListDir, Exist, Read, Bar}
use Rattle.mr_world_model.specs.Packets.{Config, Packet, Store, Names, Append_record, Flush, Read_history, Reply}
use Rattle.mr_world_model.specs.Hearing.{Seen, Phase, Launched, Placed, Todo_winner, Commit_step, Recover_step, Merge_step, Opening, Setting_up, Recovering, Running, Committing, Failing, Finished, Stopped, Look_below, Measure, Clear_own, Move_from, List_job, Merging, Cleaning, Marking, Succeeding, Failing_mark, Aborting, Look_at, List_into, Delete_then, Move_to, has, find_launched, may_accept, is_live, is_won, failures, over_with, ended_by, after_end, after_ended, end_there, success_record, heard, only_known, is_running, find_container, can_hear}
use Rattle.mr_world_model.specs.Duties.{Master_step, Came, Launches, Expires, Asks, worked, rest_of, with_phase, with_read, is_read, is_fine, told, phase_told, next_seen, seen, duty_of, records_of, winners_of, one_winner, newest_maps, without_task, attempts_of, bar_call, first_bar, record_call, recover_call, commit_call, merge_call, mark_at, wants_flush, all_won}
use Rattle.mr_world_model.specs.World.{World, Event, Start, Crash, Duty, LaunchOn, Deliver, ContainerStep, Compute, Die, NodeRestart, Expire, Weather, Calm, Unavailable, Unanswered, Master_act, master_act, duty_act, duty, seen_by, launch_of, count_of, reply_of, own_reply, unless_refused, names_answer, reply_under, opening_world}
use Rattle.mr_world_model.specs.Effect.{effect, not_now, is_task, tasks_of, task_fault, live_count, Task, AlreadyWon, TooManyLive, TooManyAttempts, with_master_step}
use Rattle.mr_world_model.specs.Claims.{In, Limits, world_of}
use Rattle.mr_world_model.specs.Calls.{AllFit, AllOfJob, Fits, IsOfJob, TakenEarlier, TakenHere, AppendsDue, winning, calls}
use Rattle.mr_world_model.specs.Made.{BelongsTo, TellsOf, IsMade, AllMade, PastsAreMade}
use Rattle.mr_world_model.proofs.Basic.{if_cases, unless_parts, along}
use Rattle.mr_world_model.proofs.Lists.{Each, Each-append, Each-In, Each-by, In-left, In-parts, found_launched}
use Rattle.mr_world_model.proofs.Names.{task_eq-true, same_job-true}
use Rattle.mr_world_model.proofs.Closed.{expired-by, bar-by}
use Rattle.mr_world_model.proofs.Numbers.{Numbers, numbers, opening-numbers}
use Rattle.mr_world_model.proofs.Allowed.{permits}
use Rattle.mr_world_model.proofs.Told.{Stores, StoredOrDue, stores_after, is_allowed}
use Rattle.mr_world_model.proofs.Asked.{AsksOf, bag-asks, came-asks}

-- ---- what is due, and what was read, along a past

-- a winner that was read is of its own task, a reduce of the job
abbrev pub WinsOf : Config → ℕ → Todo_winner → Type 0
WinsOf cfg n w = (w.attempt.task ≡ w.task) × (BelongsTo cfg n w.attempt × (is_reduce w.attempt ≡ true))

pub record Fitted (cfg : Config) (k : ℕ) (launched : List Launched) (winners : List Todo_winner) (history due : List Record) : Type 0 where
  pub launches : (l : Launched) → In l launched → BelongsTo cfg k l.attempt
  pub won : Each (WinsOf cfg (k - 1)) winners
  pub read : Each (TellsOf cfg (k - 1)) history
  pub dues : Each (TellsOf cfg k) due

abbrev pub FittedOf : Config → ℕ → Seen → Type 0
FittedOf cfg k s = Fitted cfg k s.launched s.winners s.history s.due

module _ (cfg : Config) (k : ℕ) where
  abbrev P : Seen → Type 0
  P s = FittedOf cfg k s

  more : (s : Seen) (rs : List Record) → Each (TellsOf cfg k) rs → P s → Fitted cfg k s.launched s.winners s.history (s.due ++ rs)
  more s rs e o = record { launches = o.launches; won = o.won; read = o.read; dues = Each-append (TellsOf cfg k) s.due rs o.dues e }

  ended_by-fitted : (s : Seen) (a : Attempt) (f : Bool) → P s → P (ended_by cfg s a f)
  ended_by-fitted s a false o = o
  ended_by-fitted s a true o = if_cases P (nat_le cfg.limit (failures (over_with s a true) a) && not (is_won s (is_reduce a) a.task)) _ _
      (λ t. more s (AttemptFailed a ∷ JobUnsuccessful ∷ []) (tt, (tt, tt)) o) (λ t. more s (AttemptFailed a ∷ []) (tt, tt) o)

  after_end-fitted : (s : Seen) (a : Attempt) (f : Bool) → P s → P (after_end cfg s a f)
  after_end-fitted s a f o = if_cases P (is_live s a) _ _ (λ e. ended_by-fitted s a f o) (λ e. o)

  after_ended-fitted : (s : Seen) (c : ContainerId) (l : Option Launched) → P s → P (after_ended cfg s c l)
  after_ended-fitted s c None o = o
  after_ended-fitted s c (Some l) o = after_end-fitted s _ _ o

  end_there-fitted : (n i : ℕ) (ls : List Launched) (s : Seen) → P s → P (end_there n i ls s)
  end_there-fitted n i [] s o = o
  end_there-fitted n i (l ∷ ls) s o = if_cases P (nat_eq l.node n && (nat_lt l.incarnation i && is_live s l.attempt)) _ _ (λ t. end_there-fitted n i ls _ o) (λ t. end_there-fitted n i ls s o)

  success-fitted : (s : Seen) (a : Attempt) (z : Option ℕ) (o : Option Launched) → find_launched s.launched a ≡ o → P s → TellsOf cfg k (success_record a z o)
  success-fitted s a z None e o = tt
  success-fitted s a z (Some l) e o =
      let f = found_launched s.launched a (ap (λ x. is_some x) e) in
      let b = subst (BelongsTo cfg k) f.2 (o.launches f.0 f.1) in
      if_cases (TellsOf cfg k) (is_reduce a) _ _ (λ t. (b, t)) (λ t. (b, t))

  heard-fitted : (s : Seen) (p : Packet) → P s → P (heard cfg s p)
  unfolding heard
  heard-fitted s (Packet.Pending b) o = if_cases P (is_some (find_launched s.launched b) && not (has s.asked b)) _ _ (λ t. o) (λ t. o)
  heard-fitted s (Packet.Poll b) o = if_cases P (is_some (find_launched s.launched b) && not (has s.asked b)) _ _ (λ t. o) (λ t. o)
  heard-fitted s (Packet.Done b z) o = if_cases P (may_accept s b) _ _ (λ t. more s (success_record b z (find_launched s.launched b) ∷ []) (success-fitted s b z (find_launched s.launched b) refl o, tt) o) (λ t. o)
  heard-fitted s (Packet.Failed b) o = after_end-fitted s b true o
  heard-fitted s (Packet.Ended d) o = after_ended-fitted s d _ o
  heard-fitted s (Packet.NodeUp m i) o = if_cases P (nat_lt (s.known m) i) _ _ (λ t. end_there-fitted m i s.launched _ o) (λ t. o)
  heard-fitted s (Packet.FetchLost d b) o = if_cases P (is_some (find_container s.launched d) && has s.recorded b) _ _ (λ t. o) (λ t. o)
  heard-fitted s (Packet.Where d m) o = o
  heard-fitted s _ o = o

  known-fitted : (s : Seen) (p : Packet) → P s → P (only_known s p)
  known-fitted s (Packet.NodeUp m i) o = if_cases P (can_hear s.phase && nat_lt (s.known m) i) _ _ (λ t. o) (λ t. o)
  known-fitted s _ o = o

  rest-fitted : (rs : List Record) → Each (TellsOf cfg k) rs → Each (TellsOf cfg k) (rest_of rs)
  rest-fitted [] o = o
  rest-fitted (r ∷ rs) o = o.1

  worked-fitted : (s : Seen) (call : Store) → P s → P (worked s call)
  worked-fitted s (Append_record r) o = record { launches = o.launches; won = o.won; read = o.read; dues = rest-fitted s.due o.dues }
  worked-fitted s Flush o = o
  worked-fitted s (Names op) o = bar-by P s (bar_of op) (λ a t ks. o) o
  worked-fitted s Read_history o = o

  -- the winner among records
  winner-told : (rs : List Record) (t : TaskId) (a : Attempt) → Each (TellsOf cfg (k - 1)) rs → winner_in rs t ≡ Some a → (a.task ≡ t) × (BelongsTo cfg (k - 1) a × (is_reduce a ≡ true))
  unfolding winner_in
  winner-told [] t a o e = cc
  winner-told (ReduceSucceeded b z ∷ rs) t a o e = by (task_eq b.task t) refl e (winner-told rs t a o.1)
    where
      by : (c : Bool) → task_eq b.task t ≡ c → (if c then Some b else winner_in rs t) ≡ Some a →
          (winner_in rs t ≡ Some a → (a.task ≡ t) × (BelongsTo cfg (k - 1) a × (is_reduce a ≡ true))) → (a.task ≡ t) × (BelongsTo cfg (k - 1) a × (is_reduce a ≡ true))
      by true q f go = let same : b ≡ a = cc in subst (λ x. (x.task ≡ t) × (BelongsTo cfg (k - 1) x × (is_reduce x ≡ true))) same (task_eq-true b.task t q, o.0)
      by false q f go = go f
  winner-told (AttemptStarted b n ∷ rs) t a o e = winner-told rs t a o.1 e
  winner-told (MapSucceeded b n i ∷ rs) t a o e = winner-told rs t a o.1 e
  winner-told (AttemptFailed b ∷ rs) t a o e = winner-told rs t a o.1 e
  winner-told (JobUnsuccessful ∷ rs) t a o e = winner-told rs t a o.1 e

  winners-fitted : (rs : List Record) (j : JobId) (n : ℕ) → Each (TellsOf cfg (k - 1)) rs → Each (WinsOf cfg (k - 1)) (winners_of rs j n)
  unfolding winners_of
  winners-fitted rs j zero o = tt
  winners-fitted rs j (suc n) o = Each-append (WinsOf cfg (k - 1)) (winners_of rs j n) _ (winners-fitted rs j n o) (one (winner_in rs (reduce_of j n)) refl)
    where
      one : (m : Option Attempt) → winner_in rs (reduce_of j n) ≡ m → Each (WinsOf cfg (k - 1)) (one_winner (reduce_of j n) (length_in rs (reduce_of j n)) m)
      one None e = tt
      one (Some a) e = (winner-told rs (reduce_of j n) a o e, tt)

  read-fitted : (s : Seen) (call : Store) (r : Reply) → Each (TellsOf cfg (k - 1)) (records_of r) → P s → P (with_read cfg s call r)
  read-fitted s call r e o = if_cases P (is_read call) _ _ (λ t. record {
    launches = o.launches;
    won = winners-fitted (records_of r) cfg.job cfg.reduces e;
    read = e;
    dues = o.dues;
  }) (λ t. o)

  called-fitted : (s : Seen) (call : Store) (r : Reply) → Each (TellsOf cfg (k - 1)) (records_of r) → P s → P (with_read cfg (if is_fine r then worked s call else s) call r)
  called-fitted s call r e o = read-fitted (if is_fine r then worked s call else s) call r e (if_cases P (is_fine r) _ _ (λ t. worked-fitted s call o) (λ t. o))

  told-fitted : (s : Seen) (call : Store) (r : Reply) → Each (TellsOf cfg (k - 1)) (records_of r) → P s → P (told cfg k s call r)
  unfolding told
  told-fitted s call r e o = phased (phase_told k s s.phase call r) (with_read cfg (if is_fine r then worked s call else s) call r) (called-fitted s call r e o)
    where
      phased : (p : Phase) (u : Seen) → P u → P (with_phase p u)
      phased p u v = if_cases P (is_running p && not (is_running u.phase)) _ _ (λ t. v) (λ t. v)

  few : (s : Seen) (t : TaskId) → task_fault s t ≡ None → count_of s.launched t < 1000
  few s t f =
      let a = unless_parts (not (is_won s (of_reduces t.kind) t)) (Task AlreadyWon) _ f in let b = unless_parts (nat_lt (live_count s t s.launched) 2) (Task TooManyLive) _ a.1 in
      ltb-true (count_of s.launched t) 1000 (unless_parts (nat_lt (count_of s.launched t) 1000) (Task TooManyAttempts) None b.1).0

  next-number : (s : Seen) (t : TaskId) (n : ℕ) → 1 ≤ k → task_fault s t ≡ None → (launch_of k s t n).attempt.number < 1000 * k
  next-number s t n one f = let c = few s t f in omega (arith, c, one)

  next-fitted : (s : Seen) (x : Master_step) → IsMade cfg k s x → P s → P (next_seen cfg k s x)
  unfolding next_seen
  next-fitted s (Came p) m o = if_cases P (is_running s.phase) _ _ (λ t. heard-fitted s p o) (λ t. known-fitted s p o)
  next-fitted s (Launches l) m o = record {
    launches = launches;
    won = o.won;
    read = o.read;
    dues = Each-append (TellsOf cfg k) s.due (AttemptStarted l.attempt l.node ∷ []) o.dues (tt, tt);
  }
    where
      new : BelongsTo cfg k l.attempt
      new = (subst (λ (y : Launched). y.attempt.number < 1000 * k) (sym m.0) (next-number s l.attempt.task l.node m.1 m.5), m.3)

      launches : (y : Launched) → In y (l ∷ s.launched) → BelongsTo cfg k y.attempt
      launches y (inl e) = subst (λ (z : Launched). BelongsTo cfg k z.attempt) e new
      launches y (inr i) = o.launches y i
  next-fitted s (Expires n) m o = expired-by P (λ s a t v. v) n s (λ st ks bs. o)
  next-fitted s (Asks call r) m o = told-fitted s call r (Each-by (TellsOf cfg (k - 1)) (records_of r) m.1) o

  pub fitted : (h : List Master_step) → AllMade cfg k h → P (seen cfg k h)
  unfolding seen
  fitted [] m = record { launches = λ l i. absurd i; won = tt; read = tt; dues = tt }
  fitted (x ∷ h) m = next-fitted (seen cfg k h) x m.0 (fitted h m.1)

-- ---- what is taken over

without-in : (t : TaskId) (ps : List Placed) (a : Attempt) → In a (attempts_of (without_task t ps)) → In a (attempts_of ps)
without-in t [] a i = i
without-in t (p ∷ ps) a i = by (task_eq p.attempt.task t) i (without-in t ps a)
  where
    by : (b : Bool) → In a (attempts_of (if b then without_task t ps else p ∷ without_task t ps)) → (In a (attempts_of (without_task t ps)) → In a (attempts_of ps)) → In a (p.attempt ∷ attempts_of ps)
    by true j go = inr (go j)
    by false (inl e) go = inl e
    by false (inr j) go = inr (go j)

newest-told : (Q : Attempt → Type 0) (f : ℕ → ℕ) (rs : List Record) (ps : List Placed) → ((a : Attempt) (n i : ℕ) → In (MapSucceeded a n i) rs → Q a) →
    ((a : Attempt) → In a (attempts_of ps) → Q a) → (a : Attempt) → In a (attempts_of (newest_maps f rs ps)) → Q a
unfolding newest_maps
newest-told Q f [] ps q o a i = o a i
newest-told Q f (MapSucceeded b n m ∷ rs) ps q o a i =
    newest-told Q f rs (if nat_lt m (f n) then without_task b.task ps else record { attempt = b; node = n; incarnation = m } ∷ without_task b.task ps) (λ x n i j. q x n i (inr j)) (by (nat_lt m (f n))) a i
  where
    by : (c : Bool) (x : Attempt) → In x (attempts_of (if c then without_task b.task ps else record { attempt = b; node = n; incarnation = m } ∷ without_task b.task ps)) → Q x
    by true x j = o x (without-in b.task ps x j)
    by false x (inl e) = subst Q e (q b n m (inl refl))
    by false x (inr j) = o x (without-in b.task ps x j)
newest-told Q f (AttemptStarted b n ∷ rs) ps q o a i = newest-told Q f rs ps (λ x n i j. q x n i (inr j)) o a i
newest-told Q f (ReduceSucceeded b z ∷ rs) ps q o a i = newest-told Q f rs ps (λ x n i j. q x n i (inr j)) o a i
newest-told Q f (AttemptFailed b ∷ rs) ps q o a i = newest-told Q f rs ps (λ x n i j. q x n i (inr j)) o a i
newest-told Q f (JobUnsuccessful ∷ rs) ps q o a i = newest-told Q f rs ps (λ x n i j. q x n i (inr j)) o a i

winning-told : (Q : Attempt → Type 0) (ws : List Todo_winner) → Each (λ (w : Todo_winner). Q w.attempt) ws → (a : Attempt) → In a (winning ws) → Q a
winning-told Q [] o a i = absurd i
winning-told Q (w ∷ ws) o a (inl e) = subst Q e o.0
winning-told Q (w ∷ ws) o a (inr i) = winning-told Q ws o.1 a i

each-of : {A : Type 0} (P Q : A → Type 0) (xs : List A) → ((x : A) → P x → Q x) → Each P xs → Each Q xs
each-of P Q [] f o = tt
each-of P Q (x ∷ xs) f o = (f x o.0, each-of P Q xs f o.1)

pub early-number : (k : ℕ) (a : Attempt) → a.number < 1000 * (k - 1) → task.numbered_up_to k a ≡ 0
early-number k a e = by (nat_le (1000 * (k - 1)) a.number) refl
  where
    by : (b : Bool) → nat_le (1000 * (k - 1)) a.number ≡ b → (if b && nat_lt a.number (1000 * (k - 1) + 1000) then a.number - 1000 * (k - 1) + 1 else 0) ≡ 0
    by false q = refl
    by true q = absurd (grind (arith, nat_tests, q, e))

taken-maps : (cfg : Config) (k : ℕ) (s : Seen) → FittedOf cfg k s → (a : Attempt) → In a (attempts_of (newest_maps s.known s.history [])) → BelongsTo cfg (k - 1) a × (is_reduce a ≡ false)
taken-maps cfg k s o = newest-told (λ a. BelongsTo cfg (k - 1) a × (is_reduce a ≡ false)) s.known s.history [] (λ a n i j. Each-In (TellsOf cfg (k - 1)) s.history o.read _ j) (λ a i. absurd i)

taken-earlier : (cfg : Config) (k : ℕ) (s : Seen) → FittedOf cfg k s → TakenEarlier k s
taken-earlier cfg k s o = record {
  maps = λ a i. early-number k a (taken-maps cfg k s o a i).0.0;
  are_maps = λ a i. (taken-maps cfg k s o a i).1;
  own = λ w i. (Each-In (WinsOf cfg (k - 1)) s.winners o.won w i).0;
  winners = λ a i. early-number k a (winning-told (λ a. BelongsTo cfg (k - 1) a) s.winners (each-of (WinsOf cfg (k - 1)) (λ (w : Todo_winner). BelongsTo cfg (k - 1) w.attempt) s.winners (λ w x. x.1.0) o.won) a i).0;
}

job-is : (cfg : Config) (t : TaskId) → is_task cfg t ≡ true → t.job ≡ cfg.job
job-is cfg t e = same_job-true t.job cfg.job (and_parts (same_job t.job cfg.job) (nat_lt t.number (tasks_of cfg t.kind)) e).0

taken-here : (cfg : Config) (k : ℕ) (s : Seen) → FittedOf cfg k s → TakenHere cfg s
taken-here cfg k s o = record {
  maps = λ a i. job-is cfg a.task (taken-maps cfg k s o a i).0.1;
  winners = winning-told (λ a. is_reduce a ≡ true) s.winners (each-of (WinsOf cfg (k - 1)) (λ (w : Todo_winner). is_reduce w.attempt ≡ true) s.winners (λ w x. x.1.1) o.won);
}

pub all-fit : (cfg : Config) (k : ℕ) (h : List Master_step) → AllMade cfg k h → AllFit cfg k h
unfolding seen
all-fit cfg k [] m = tt
all-fit cfg k (x ∷ h) m = (step x m.0, all-fit cfg k h m.1)
  where
    step : (x : Master_step) → IsMade cfg k (seen cfg k h) x → Fits cfg k (seen cfg k h) (calls cfg k h) x
    step (Came p) u = tt
    step (Launches l) u = (ap (λ (y : Launched). y.attempt.number) u.0, (u.2, u.5))
    step (Expires n) u = tt
    step (Asks call r) u = taken-earlier cfg k _ (called-fitted cfg k (seen cfg k h) call r (Each-by (TellsOf cfg (k - 1)) (records_of r) u.1) (fitted cfg k h m.1))

-- ---- the record that is appended is the first that is due

abbrev FirstIs : Seen → Option Store → Type 0
FirstIs s None = Unit {0}
FirstIs s (Some call) = AppendsDue s.due call

first-record : (s : Seen) (due tail : List Record) (o : Option Store) → s.due ≡ due → FirstIs s o → FirstIs s (record_call due tail o)
first-record s (r ∷ due) tail o e d = subst (λ x. x ≡ r ∷ rest_of x) (sym e) refl
first-record s [] tail o e d = if_cases (FirstIs s) (wants_flush tail) _ _ (λ t. tt) (λ t. d)

first-barred : (s : Seen) (m : Option Attempt) (o : Option Store) → FirstIs s o → FirstIs s (bar_call m o)
first-barred s None o d = d
first-barred s (Some a) o d = tt

first-recover : (s : Seen) (k : ℕ) (ws : List Todo_winner) (at : Recover_step) → FirstIs s (recover_call k ws at)
first-recover s k [] at = tt
first-recover s k (w ∷ ws) (Look_below j) = tt
first-recover s k (w ∷ ws) (Measure j) = tt
first-recover s k (w ∷ ws) (Clear_own j) = tt
first-recover s k (w ∷ ws) (Move_from j) = tt

first-merge : (s : Seen) (ms : List Merge_step) → FirstIs s (merge_call ms)
first-merge s [] = tt
first-merge s (Look_at f t d ∷ ms) = tt
first-merge s (List_into f t ∷ ms) = tt
first-merge s (Delete_then f t ∷ ms) = tt
first-merge s (Move_to f t ∷ ms) = tt

first-commit : (s : Seen) (k : ℕ) (at : Commit_step) → FirstIs s (commit_call k at)
first-commit s k List_job = tt
first-commit s k (Merging ms) = first-merge s ms
first-commit s k Cleaning = tt
first-commit s k Marking = tt
first-commit s k Succeeding = tt
first-commit s k Failing_mark = tt
first-commit s k Aborting = tt

first-mark : (s : Seen) (n : ℕ) → AppendsDue s.due (mark_at n)
first-mark s zero = tt
first-mark s (suc zero) = tt
first-mark s (suc (suc zero)) = tt
first-mark s (suc (suc (suc n))) = tt

first-duty : (cfg : Config) (k : ℕ) (s : Seen) (p : Phase) → FirstIs s (duty_of cfg k s p)
unfolding duty_of
first-duty cfg k s (Opening n) = first-mark s n
first-duty cfg k s Setting_up = tt
first-duty cfg k s (Recovering ws at) = first-recover s k ws at
first-duty cfg k s Running = first-barred s (first_bar s s.bars) _ (first-record s s.due s.tail _ refl (if_cases (FirstIs s) (all_won s.recorded s.winners cfg.job cfg.reduces) _ _ (λ t. tt) (λ t. tt)))
first-duty cfg k s (Failing b) = first-record s s.due s.tail _ refl (if_cases (FirstIs s) b _ _ (λ t. tt) (λ t. tt))
first-duty cfg k s (Committing at) = first-commit s k at
first-duty cfg k s (Finished b) = tt
first-duty cfg k s Stopped = tt

pub appends-due : (cfg : Config) (k : ℕ) (s : Seen) (call : Store) → duty_of cfg k s s.phase ≡ Some call → AppendsDue s.due call
appends-due cfg k s call d = subst (FirstIs s) d (first-duty cfg k s s.phase)

pub all-of-job : (cfg : Config) (k : ℕ) (h : List Master_step) → AllMade cfg k h → AllOfJob cfg k h
unfolding seen
all-of-job cfg k [] m = tt
all-of-job cfg k (x ∷ h) m = (step x m.0, all-of-job cfg k h m.1)
  where
    step : (x : Master_step) → IsMade cfg k (seen cfg k h) x → IsOfJob cfg k (seen cfg k h) x
    step (Came p) u = tt
    step (Launches l) u = job-is cfg l.attempt.task u.3
    step (Expires n) u = tt
    step (Asks call r) u = (appends-due cfg k (seen cfg k h) call u.0, taken-here cfg k _ (called-fitted cfg k (seen cfg k h) call r (Each-by (TellsOf cfg (k - 1)) (records_of r) u.1) (fitted cfg k h m.1)))

-- ---- in every run

record Lives (cfg : Config) (w : World) : Type 0 where
  numbered : Numbers cfg w
  stored : (j : ℕ) (x : Record) → Stores (w.history j) x → TellsOf cfg j x
  made : (k : ℕ) → AllMade cfg k (w.master_past k)
  asks : Each (AsksOf cfg) w.bag

belongs-more : (cfg : Config) (j n : ℕ) (a : Attempt) → j ≤ n → BelongsTo cfg j a → BelongsTo cfg n a
belongs-more cfg j n a l o = let q = o.0 in (omega (arith, q, l), o.1)

tells-more : (cfg : Config) (j n : ℕ) (x : Record) → j ≤ n → TellsOf cfg j x → TellsOf cfg n x
tells-more cfg j n (AttemptStarted a m) l o = tt
tells-more cfg j n (MapSucceeded a m i) l o = (belongs-more cfg j n a l o.0, o.1)
tells-more cfg j n (ReduceSucceeded a z) l o = (belongs-more cfg j n a l o.0, o.1)
tells-more cfg j n (AttemptFailed a) l o = tt
tells-more cfg j n JobUnsuccessful l o = tt

tells-written : (cfg : Config) (k v : ℕ) (r : Record) → TellsOf cfg k r → TellsOf cfg k (as_written v r)
tells-written cfg k v (AttemptStarted a m) o = tt
tells-written cfg k v (MapSucceeded a m i) o = o
tells-written cfg k v (ReduceSucceeded a z) o = o
tells-written cfg k v (AttemptFailed a) o = tt
tells-written cfg k v JobUnsuccessful o = tt

below-told : (cfg : Config) (h : History) (n k : ℕ) → n ≤ k → ((j : ℕ) (x : Record) → Stores (h j) x → TellsOf cfg j x) → (x : Record) → In x (records_below h n) → TellsOf cfg (k - 1) x
unfolding records_below
below-told cfg h zero k l o x i = absurd i
below-told cfg h (suc n) k l o x i = by (below-told cfg h n k (omega (arith, l)) o x) (In-parts x (records_below h n) (h n).stable i)
  where
    by : (In x (records_below h n) → TellsOf cfg (k - 1) x) → In x (records_below h n) ⊎ In x (h n).stable → TellsOf cfg (k - 1) x
    by go (inl j) = go j
    by go (inr j) = tells-more cfg n (k - 1) x (omega (arith, l)) (o n x (In-left x (h n).stable (h n).tail j))

-- what a call is answered with was written by earlier generations
reply-told : (cfg : Config) (w : World) (k : ℕ) (f : Weather) (call : Store) → ((j : ℕ) (x : Record) → Stores (w.history j) x → TellsOf cfg j x) →
    (x : Record) → In x (records_of (reply_under f (reply_of w k call))) → TellsOf cfg (k - 1) x
unfolding reply_of
reply-told cfg w k Unavailable call o x i = absurd i
reply-told cfg w k Unanswered call o x i = absurd i
reply-told cfg w k Calm call o x i = if_cases (λ r. In x (records_of r) → TellsOf cfg (k - 1) x) (nat_lt k w.fence) _ _ (λ t j. absurd j) (λ t. own call) i
  where
    names : (c : Content) (op : Op) → In x (records_of (names_answer c op)) → TellsOf cfg (k - 1) x
    names c (MkDirs p) j = absurd j
    names c (Create p z) j = absurd j
    names c (Append p z) j = absurd j
    names c (Close p) j = absurd j
    names c (Delete p) j = absurd j
    names c (Rename p q) j = absurd j
    names c (ListDir p) j = absurd j
    names c (Exist p) j = absurd j
    names c (Read p) j = absurd j
    names c (Bar a) j = absurd j

    un : (m : Option NameFault) (r : Reply) → (In x (records_of r) → TellsOf cfg (k - 1) x) → In x (records_of (unless_refused m r)) → TellsOf cfg (k - 1) x
    un None r g = g
    un (Some why) r g = λ j. absurd j

    own : (call : Store) → In x (records_of (own_reply w k call)) → TellsOf cfg (k - 1) x
    own (Names op) = un (refusal w.content op) (names_answer w.content op) (names w.content op)
    own (Append_record r) = if_cases (λ y. In x (records_of y) → TellsOf cfg (k - 1) x) (w.history k).is_sealed _ _ (λ t j. absurd j) (λ t j. absurd j)
    own Flush = if_cases (λ y. In x (records_of y) → TellsOf cfg (k - 1) x) (w.history k).is_sealed _ _ (λ t j. absurd j) (λ t j. absurd j)
    own Read_history = below-told cfg w.history k k (omega arith) o x

launch-made : (cfg : Config) (w : World) (k : ℕ) (t : TaskId) (n : ℕ) → 1 ≤ k → not_now cfg w (LaunchOn k t n) ≡ None → IsMade cfg k (seen_by cfg w k) (Launches (launch_of k (seen_by cfg w k) t n))
unfolding not_now
launch-made cfg w k t n one q =
    let a = unless_parts _ _ _ q in let b = unless_parts _ _ _ a.1 in let c = unless_parts _ _ _ b.1 in let d = unless_parts _ _ _ c.1 in
    (refl, one, b.0, c.0, d.0, d.1)

expiry-made : (cfg : Config) (w : World) (k n : ℕ) → not_now cfg w (Expire k n) ≡ None → IsMade cfg k (seen_by cfg w k) (Expires n)
unfolding not_now
expiry-made cfg w k n q = let a = unless_parts _ _ _ q in let b = unless_parts _ _ _ a.1 in let c = unless_parts _ _ _ b.1 in (b.0, c.0)

abbrev ActMade : Config → World → Master_act → Type 0
ActMade cfg w a = IsMade cfg a.who (seen_by cfg w a.who) a.step

duty-made : (cfg : Config) (w : World) (k : ℕ) (f : Weather) (o : Option Store) (a : Master_act) → ((j : ℕ) (x : Record) → Stores (w.history j) x → TellsOf cfg j x) →
    duty cfg w k ≡ o → duty_act w k f o ≡ Some a → ActMade cfg w a
duty-made cfg w k f None a h e q = cc
duty-made cfg w k f (Some call) a h e q = let x : record { who = k; step = Asks call (reply_under f (reply_of w k call)) } ≡ a = cc in
    subst (ActMade cfg w) x (e, reply-told cfg w k f call h)

act-made : (cfg : Config) (w : World) (e : Event) → not_now cfg w e ≡ None → Lives cfg w → (a : Master_act) → master_act cfg w e ≡ Some a → ActMade cfg w a
unfolding master_act
act-made cfg w (Duty k g) n o a q = duty-made cfg w k g (duty cfg w k) a o.stored refl q
act-made cfg w (LaunchOn k t m) n o a q =
    let x : record { who = k; step = Launches (launch_of k (seen_by cfg w k) t m) } ≡ a = cc in
    let alive = (is_allowed cfg w _ (permits cfg w (LaunchOn k t m) n) (record { who = k; step = Launches (launch_of k (seen_by cfg w k) t m) }) refl).0 in
    subst (ActMade cfg w) x (launch-made cfg w k t m (o.numbered.positive k alive) n)
act-made cfg w (Deliver i) n o a q = came-asks cfg w.bag i a (seen_by cfg w a.who) o.asks q
act-made cfg w (Expire k m) n o a q = let x : record { who = k; step = Expires m } ≡ a = cc in subst (ActMade cfg w) x (expiry-made cfg w k m n)
act-made cfg w (Start k kept) n o a q = cc
act-made cfg w (Crash k kept) n o a q = cc
act-made cfg w (ContainerStep c g) n o a q = cc
act-made cfg w (Compute c b) n o a q = cc
act-made cfg w (Die c) n o a q = cc
act-made cfg w (NodeRestart m) n o a q = cc

made-after : (cfg : Config) (w : World) (k : ℕ) (o : Option Master_act) → ((a : Master_act) → o ≡ Some a → ActMade cfg w a) → AllMade cfg k (w.master_past k) → AllMade cfg k (with_master_step w.master_past o k)
made-after cfg w k None f m = m
made-after cfg w k (Some a) f m = by (nat_eq k a.who) refl
  where
    here : k ≡ a.who → IsMade cfg k (seen_by cfg w k) a.step
    here e = subst (λ j. IsMade cfg j (seen_by cfg w j) a.step) (sym e) (f a refl)

    by : (b : Bool) → nat_eq k a.who ≡ b → AllMade cfg k (if b then a.step ∷ w.master_past k else w.master_past k)
    by true e = (here (eqb-true k a.who e), m)
    by false e = m

lives : (cfg : Config) (w : World) (e : Event) → Lives cfg w → not_now cfg w e ≡ None → Lives cfg (effect cfg w e)
lives cfg w e o n = record {
  numbered = numbers cfg w e o.numbered n;
  stored = λ j x i. by j x (stores_after cfg w e n j x i);
  made = λ k. made-after cfg w k (master_act cfg w e) (act-made cfg w e n o) (o.made k);
  asks = bag-asks cfg w e o.asks;
}
  where
    by : (j : ℕ) (x : Record) → StoredOrDue cfg w j x → TellsOf cfg j x
    by j x (inl i) = o.stored j x i
    by j x (inr q) = subst (TellsOf cfg j) q.4 (tells-written cfg j q.3 q.1 (due (appends-due cfg j (seen_by cfg w j) (Append_record q.1) q.2)))
      where
        due : (seen_by cfg w j).due ≡ q.1 ∷ rest_of (seen_by cfg w j).due → TellsOf cfg j q.1
        due e = (subst (Each (TellsOf cfg j)) e (fitted cfg j (w.master_past j) (o.made j)).dues).0

opening-lives : (cfg : Config) → Lives cfg opening_world
opening-lives cfg = record { numbered = opening-numbers cfg; stored = λ j x i. absurd i; made = λ k. tt; asks = tt }

always-lives : (cfg : Config) (within : Limits) (es : List Event) → Lives cfg (world_of cfg within es)
always-lives cfg within es = along (Lives cfg) cfg within (λ w e o n. lives cfg w e o n) opening_world es (opening-lives cfg)

pub pasts_are_made : PastsAreMade
pasts_are_made = record {
  made = λ cfg within es k. (always-lives cfg within es).made k;
  next = λ cfg within es e a n q. act-made cfg (world_of cfg within es) e n (always-lives cfg within es) a q;
  fit = all-fit;
  of_job = all-of-job;
}
