-- What is known of the step that an event adds to a master's past.
use Rattle.std.proofs.Common.{ℕ, zero, suc, ◌≡◌, refl, sym, subst, Bool, true, false, ◌||◌, not, List, [], ◌∷◌, ◌++◌, Option, Some, None, nat_eq, nat_lt, ◌⊎◌, inl, inr, slice_get}
use Rattle.std.proofs.lemmas.Bool.{false≢true, eqb-true, not-true}
use Rattle.mr_world_model.specs.Claims.{IsReduce}
use Rattle.mr_world_model.proofs.Tasks.{reduce-of}
use Rattle.mr_world_model.specs.Ids.{Attempt, JobId, is_reduce, of_reduces}
use Rattle.mr_world_model.specs.Records.{Record, winner_in, ReduceSucceeded, AttemptStarted, records_below}
use Rattle.mr_world_model.specs.Packets.{Config, Packet, Store, Reply, Names, Append_record, Flush, Read_history, Envelope, Master, Container, Node, Address}
use Rattle.mr_world_model.specs.Hearing.{Seen, Phase, Opening, Setting_up, Recovering, Running, Committing, Failing, Finished, Stopped, Launched, heard, only_known, is_running, has_winner, accepts_task, is_won, Recover_step, Measure, Look_below, Clear_own, Move_from, Commit_step, List_job, Merging, Cleaning, Marking, Succeeding, Failing_mark, Aborting, Merge_step, Look_at, List_into, Delete_then, Move_to}
use Rattle.mr_world_model.specs.Duties.{Master_step, Came, Launches, Expires, Asks, bar_call, first_bar, seen, next_seen, duty_of, opening, told, record_call, recover_call, commit_call, merge_call, mark_at, records_of, was_read, is_read, wants_flush, all_won, is_fine, worked, with_phase, with_read}
use Rattle.mr_world_model.specs.World.{World, Event, Start, Crash, Duty, LaunchOn, Deliver, ContainerStep, Compute, Die, NodeRestart, Expire, Weather, Calm, Unavailable, Unanswered, Master_act, master_act, duty_act, came_act, duty, seen_by, reply_of, reply_under}
use Rattle.mr_world_model.specs.Effect.{not_now, with_master_step, addressee}
use Rattle.mr_world_model.specs.Claims.{In}
use Rattle.mr_world_model.proofs.Basic.{if_cases, unless_parts}
use Rattle.mr_world_model.proofs.Lists.{In-parts}
use Rattle.mr_world_model.proofs.Sound.{SteadyOf, Steady, IsFirstDue, told-steady, heard-steady, only_known-steady, expired-steady}
use Rattle.mr_world_model.proofs.Phases.{Fits, PhaseFits, ReadFits, told-fits, heard-fits, only_known-fits, expired-fits, winners-all}

-- a step that may be added to the past of master k
abbrev pub Allowed : Config → World → ℕ → Master_step → Type 0
Allowed cfg w k (Came p) = Unit {0}
Allowed cfg w k (Launches l) = (is_running (seen_by cfg w k).phase ≡ true) ×
    (is_reduce l.attempt ≡ true → IsReduce cfg l.attempt.task × (has_winner (seen_by cfg w k).winners l.attempt.task ≡ false))
Allowed cfg w k (Expires n) = is_running (seen_by cfg w k).phase ≡ true
Allowed cfg w k (Asks call r) = (duty cfg w k ≡ Some call) × (f : Weather) × (r ≡ reply_under f (reply_of w k call))

abbrev pub Permits : Config → World → Option Master_act → Type 0
Permits cfg w None = Unit {0}
Permits cfg w (Some a) = (w.is_master a.who ≡ true) × Allowed cfg w a.who a.step

duty-permits : (cfg : Config) (w : World) (k : ℕ) (f : Weather) (o : Option Store) → duty cfg w k ≡ o → w.is_master k ≡ true → Permits cfg w (duty_act w k f o)
duty-permits cfg w k f None e m = tt
duty-permits cfg w k f (Some call) e m = (m, (e, f, refl))

came-permits : (cfg : Config) (w : World) (o : Option Envelope) → addressee w o ≡ None → Permits cfg w (came_act o)
came-permits cfg w None e = tt
came-permits cfg w (Some v) e = to v.to v.body e
  where
    to : (a : Address) (p : Packet) → addressee w (Some (record { to = a; body = p })) ≡ None → Permits cfg w (came_act (Some (record { to = a; body = p })))
    to (Master k) p e = ((unless_parts _ _ _ e).0, tt)
    to (Container c) p e = tt
    to (Node n) p e = tt

not-or : (a b : Bool) → not (a || b) ≡ true → b ≡ false
not-or true b e = absurd (false≢true e)
not-or false b e = not-true b e

pub permits : (cfg : Config) (w : World) (e : Event) → not_now cfg w e ≡ None → Permits cfg w (master_act cfg w e)
unfolding not_now master_act
permits cfg w (Start k kept) n = tt
permits cfg w (Crash k kept) n = tt
permits cfg w (Duty k f) n = duty-permits cfg w k f (duty cfg w k) refl (unless_parts _ _ _ n).0
permits cfg w (LaunchOn k t m) n =
    let a = unless_parts _ _ _ n in let b = unless_parts _ _ _ a.1 in let c = unless_parts _ _ _ b.1 in
    let d = unless_parts _ _ _ c.1 in let f = unless_parts _ _ _ d.1 in
    (a.0, (b.0, λ q. (reduce-of cfg t q c.0, won (of_reduces t.kind) q f.0)))
  where
    won : (r : Bool) → r ≡ true → not (is_won (seen_by cfg w k) r t) ≡ true → has_winner (seen_by cfg w k).winners t ≡ false
    won true q l = not-or _ _ l
    won false q l = absurd (false≢true q)
permits cfg w (Deliver i) n = came-permits cfg w (slice_get w.bag i) n
permits cfg w (ContainerStep c f) n = tt
permits cfg w (Compute c bytes) n = tt
permits cfg w (Die c) n = tt
permits cfg w (NodeRestart m) n = tt
permits cfg w (Expire k m) n = let a = unless_parts _ _ _ n in (a.0, (unless_parts _ _ _ a.1).0)

-- what a master has seen after an event: as before, or one step more
pub seen_after : (P : Seen → Type 0) (cfg : Config) (w : World) (o : Option Master_act) (k : ℕ) → P (seen_by cfg w k) →
    ((a : Master_act) → o ≡ Some a → a.who ≡ k → P (next_seen cfg k (seen_by cfg w k) a.step)) → P (seen cfg k (with_master_step w.master_past o k))
unfolding seen
seen_after P cfg w None k p f = p
seen_after P cfg w (Some a) k p f = if_cases (λ h. P (seen cfg k h)) (nat_eq k a.who) _ _ (λ e. f a refl (sym (eqb-true k a.who e))) (λ e. p)

-- Read replies

pub read-replies : (w : World) (k : ℕ) (f : Weather) (call : Store) (r : Reply) → r ≡ reply_under f (reply_of w k call) → ReadFits (records_below w.history k) call r
unfolding reply_of
read-replies w k Unavailable call r e t = inr (rw e refl)
read-replies w k Unanswered call r e t = inr (rw e refl)
read-replies w k Calm Read_history r e t = rw e (if_cases (λ x. (records_of x ≡ records_below w.history k) ⊎ (was_read x ≡ Stopped)) (nat_lt k w.fence) _ _ (λ t. inr refl) (λ t. inl refl))
read-replies w k Calm (Names op) r e t = absurd (false≢true t)
read-replies w k Calm (Append_record x) r e t = absurd (false≢true t)
read-replies w k Calm Flush r e t = absurd (false≢true t)

-- an appended record is the first that is due
abbrev FirstDue : Seen → Option Store → Type 0
FirstDue s None = Unit {0}
FirstDue s (Some call) = IsFirstDue s call

first-record : (s : Seen) (due tail : List Record) (o : Option Store) → s.due ≡ due → FirstDue s o → FirstDue s (record_call due tail o)
first-record s (r ∷ due) tail o e d = rw e (inl refl)
first-record s [] tail o e d = if_cases (FirstDue s) (wants_flush tail) _ _ (λ t. tt) (λ t. d)

first-barred : (s : Seen) (m : Option Attempt) (o : Option Store) → FirstDue s o → FirstDue s (bar_call m o)
first-barred s None o d = d
first-barred s (Some a) o d = tt

first-recover : (s : Seen) (k : ℕ) (ws : List Rattle.mr_world_model.specs.Hearing.Todo_winner) (at : Recover_step) → FirstDue s (recover_call k ws at)
first-recover s k [] at = tt
first-recover s k (w ∷ ws) (Look_below j) = tt
first-recover s k (w ∷ ws) (Measure j) = tt
first-recover s k (w ∷ ws) (Clear_own j) = tt
first-recover s k (w ∷ ws) (Move_from j) = tt

first-merge : (s : Seen) (ms : List Merge_step) → FirstDue s (merge_call ms)
first-merge s [] = tt
first-merge s (Look_at f t d ∷ ms) = tt
first-merge s (List_into f t ∷ ms) = tt
first-merge s (Delete_then f t ∷ ms) = tt
first-merge s (Move_to f t ∷ ms) = tt

first-commit : (s : Seen) (k : ℕ) (at : Commit_step) → FirstDue s (commit_call k at)
first-commit s k List_job = tt
first-commit s k (Merging ms) = first-merge s ms
first-commit s k Cleaning = tt
first-commit s k Marking = tt
first-commit s k Succeeding = tt
first-commit s k Failing_mark = tt
first-commit s k Aborting = tt

first-mark : (s : Seen) (n : ℕ) → IsFirstDue s (mark_at n)
first-mark s zero = tt
first-mark s (suc zero) = tt
first-mark s (suc (suc zero)) = tt
first-mark s (suc (suc (suc n))) = tt

first-duty : (cfg : Config) (k : ℕ) (s : Seen) (p : Phase) → FirstDue s (duty_of cfg k s p)
unfolding duty_of
first-duty cfg k s (Opening n) = first-mark s n
first-duty cfg k s Setting_up = tt
first-duty cfg k s (Recovering ws at) = first-recover s k ws at
first-duty cfg k s Running = first-barred s (first_bar s s.bars) _ (first-record s s.due s.tail _ refl (if_cases (FirstDue s) (all_won s.recorded s.winners cfg.job cfg.reduces) _ _ (λ t. tt) (λ t. tt)))
first-duty cfg k s (Failing b) = first-record s s.due s.tail _ refl (if_cases (FirstDue s) b _ _ (λ t. tt) (λ t. tt))
first-duty cfg k s (Committing at) = first-commit s k at
first-duty cfg k s (Finished b) = tt
first-duty cfg k s Stopped = tt

pub first-due : (cfg : Config) (k : ℕ) (s : Seen) (call : Store) → duty_of cfg k s s.phase ≡ Some call → IsFirstDue s call
first-due cfg k s call d = subst (FirstDue s) d (first-duty cfg k s s.phase)

running-is : (R : List Record) (j : JobId) (n : ℕ) (ws : List Rattle.mr_world_model.specs.Hearing.Todo_winner) (p : Phase) → is_running p ≡ true → PhaseFits R j n ws p → ws ≡ Rattle.mr_world_model.specs.Duties.winners_of R j n
running-is R j n ws Running e o = o
running-is R j n ws _ e o = absurd (false≢true e)

launched-steady : (cfg : Config) (R : List Record) (s : Seen) (l : Launched) → Fits R cfg.job cfg.reduces s → is_running s.phase ≡ true →
    (is_reduce l.attempt ≡ true → IsReduce cfg l.attempt.task × (has_winner s.winners l.attempt.task ≡ false)) → SteadyOf R s →
    Steady R (l ∷ s.launched) s.accepted s.asked s.ended (s.due ++ AttemptStarted l.attempt l.node ∷ []) s.tail
launched-steady cfg R s l fit run new o = record {
  launches = launches;
  accepts = o.accepts;
  named = o.named;
  dues = λ a z i. dues a z (In-parts _ s.due _ i);
  tails = o.tails;
}
  where
    launches : (m : Launched) → In m (l ∷ s.launched) → is_reduce m.attempt ≡ true → winner_in R m.attempt.task ≡ None
    launches m (inl e) p = let q = new (subst (λ (x : Launched). (is_reduce x.attempt) ≡ true) (sym e) p) in
        subst (λ (x : Launched). winner_in R x.attempt.task ≡ None) e
        (winners-all R cfg.job cfg.reduces l.attempt.task q.0 (subst (λ ws. has_winner ws l.attempt.task ≡ false) (running-is R cfg.job cfg.reduces s.winners s.phase run fit) q.1))
    launches m (inr i) p = o.launches m i p

    dues : (a : Attempt) (z : Option ℕ) → In (ReduceSucceeded a z) s.due ⊎ In (ReduceSucceeded a z) (AttemptStarted l.attempt l.node ∷ []) → In a s.accepted × (is_reduce a ≡ true)
    dues a z (inl i) = o.dues a z i
    dues a z (inr (inl e)) = cc
    dues a z (inr (inr i)) = absurd i

-- a step keeps what is known of a master
pub next-steady : (cfg : Config) (w : World) (k : ℕ) (x : Master_step) → Allowed cfg w k x → Fits (records_below w.history k) cfg.job cfg.reduces (seen_by cfg w k) →
    SteadyOf (records_below w.history k) (seen_by cfg w k) → SteadyOf (records_below w.history k) (next_seen cfg k (seen_by cfg w k) x)
unfolding next_seen
next-steady cfg w k (Came p) a fit o = if_cases (SteadyOf _) (is_running (seen_by cfg w k).phase) _ _ (λ t. heard-steady cfg _ _ p o) (λ t. only_known-steady _ _ p o)
next-steady cfg w k (Launches l) a fit o = launched-steady cfg _ (seen_by cfg w k) l fit a.0 a.1 o
next-steady cfg w k (Expires n) a fit o = expired-steady _ n (seen_by cfg w k) o
next-steady cfg w k (Asks call r) a fit o = told-steady cfg k _ (seen_by cfg w k) call r (first-due cfg k (seen_by cfg w k) call a.0) o

pub next-fits : (cfg : Config) (w : World) (k : ℕ) (x : Master_step) → Allowed cfg w k x → Fits (records_below w.history k) cfg.job cfg.reduces (seen_by cfg w k) →
    Fits (records_below w.history k) cfg.job cfg.reduces (next_seen cfg k (seen_by cfg w k) x)
unfolding next_seen
next-fits cfg w k (Came p) a o = if_cases (Fits _ cfg.job cfg.reduces) (is_running (seen_by cfg w k).phase) _ _ (λ t. heard-fits cfg _ cfg.job cfg.reduces _ p o) (λ t. only_known-fits _ cfg.job cfg.reduces _ p o)
next-fits cfg w k (Launches l) a o = o
next-fits cfg w k (Expires n) a o = expired-fits _ cfg.job cfg.reduces n (seen_by cfg w k) o
next-fits cfg w k (Asks call r) a o = told-fits cfg k _ (seen_by cfg w k) call r a.0 (read-replies w k a.1 call r a.2) o
