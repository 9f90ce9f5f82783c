-- As a master begins to run it is the newest, and what it has read of winners is all that is recorded.
use Rattle.std.proofs.Common.{ℕ, zero, suc, ◌≤◌, ◌≡◌, refl, sym, ◌∙◌, ap, subst, Bool, true, false, List, [], ◌∷◌, ◌++◌, Option, Some, None, if◌then◌else◌, nat_eq, nat_le, ◌⊎◌, inl, inr, arith, slice_get}
use Rattle.std.proofs.lemmas.Bool.{false≢true, true≢false, eqb-true}
use Rattle.mr_world_model.specs.Ids.{Attempt, TaskId, JobId, task_eq, reduce_of}
use Rattle.mr_world_model.specs.Records.{Record, ReduceSucceeded, AttemptStarted, MapSucceeded, AttemptFailed, JobUnsuccessful, winner_in, length_in, records_below}
use Rattle.mr_world_model.specs.Packets.{Config, Store, Reply, Found, Bytes}
use Rattle.mr_world_model.specs.Hearing.{Seen, Phase, Setting_up, Recovering, Failing, Stopped, Todo_winner, Recover_step, Look_below, Measure, Clear_own, Move_from, is_running}
use Rattle.mr_world_model.specs.Duties.{Master_step, Came, Launches, Expires, Asks, seen, next_seen, phase_told, recovering, is_fine, is_cleared, right_length, winners_of, one_winner}
use Rattle.mr_world_model.specs.World.{World, Event, Start, Crash, Duty, LaunchOn, Deliver, ContainerStep, Compute, Die, NodeRestart, Expire, Weather, Master_act, master_act, duty_act, duty, seen_by, reply_of, reply_under, launch_of, opening_world}
use Rattle.mr_world_model.specs.Effect.{effect, not_now, run, with_master_step}
use Rattle.mr_world_model.specs.Claims.{Limits, In, world_of, records}
use Rattle.mr_world_model.proofs.Basic.{if_cases, taken_or_not, run-append}
use Rattle.mr_world_model.proofs.Lists.{In-left}
use Rattle.mr_world_model.proofs.Grows.{duty_master, applied_newest}
use Rattle.mr_world_model.proofs.Told.{fine-applied, came_act-is}
use Rattle.mr_world_model.proofs.Masters.{came-phase, told-phase, launches-phase, expires-phase}
use Rattle.mr_world_model.proofs.Follows.{Follows, follows}
use Rattle.mr_world_model.proofs.Allowed.{seen_after}
use Rattle.mr_world_model.proofs.Steps.{IsHeard}
use Rattle.mr_world_model.proofs.Found.{Sure, always}

-- Records that tell no success change no winner

no-winner : (xs : List Record) → ((a : Attempt) (z : Option ℕ) → In (ReduceSucceeded a z) xs → ⊥) → (t : TaskId) → (winner_in xs t ≡ None) × (length_in xs t ≡ None)
unfolding winner_in length_in
no-winner [] f t = (refl, refl)
no-winner (ReduceSucceeded a z ∷ xs) f t = absurd (f a z (inl refl))
no-winner (AttemptStarted a n ∷ xs) f t = no-winner xs (λ b z i. f b z (inr i)) t
no-winner (MapSucceeded a n j ∷ xs) f t = no-winner xs (λ b z i. f b z (inr i)) t
no-winner (AttemptFailed a ∷ xs) f t = no-winner xs (λ b z i. f b z (inr i)) t
no-winner (JobUnsuccessful ∷ xs) f t = no-winner xs (λ b z i. f b z (inr i)) t

same-winner : (rs xs : List Record) → ((a : Attempt) (z : Option ℕ) → In (ReduceSucceeded a z) xs → ⊥) → (t : TaskId) → (winner_in (rs ++ xs) t ≡ winner_in rs t) × (length_in (rs ++ xs) t ≡ length_in rs t)
unfolding winner_in length_in
same-winner [] xs f t = no-winner xs f t
same-winner (ReduceSucceeded a z ∷ rs) xs f t = let q = same-winner rs xs f t in (ap (λ x. if task_eq a.task t then Some a else x) q.0, ap (λ x. if task_eq a.task t then z else x) q.1)
same-winner (AttemptStarted a n ∷ rs) xs f t = same-winner rs xs f t
same-winner (MapSucceeded a n j ∷ rs) xs f t = same-winner rs xs f t
same-winner (AttemptFailed a ∷ rs) xs f t = same-winner rs xs f t
same-winner (JobUnsuccessful ∷ rs) xs f t = same-winner rs xs f t

same-winners : (rs xs : List Record) → ((a : Attempt) (z : Option ℕ) → In (ReduceSucceeded a z) xs → ⊥) → (j : JobId) (n : ℕ) → winners_of (rs ++ xs) j n ≡ winners_of rs j n
unfolding winners_of
same-winners rs xs f j zero = refl
same-winners rs xs f j (suc n) = let q = same-winner rs xs f (reduce_of j n) in let u = same-winners rs xs f j n in let l = q.1 in let o = q.0 in
    λ i. u i ++ one_winner (reduce_of j n) (l i) (o i)

-- It is an answer with neither refusal nor fault that leads to it

neither : (b : Bool) (p q : Phase) → is_running p ≡ false → is_running q ≡ false → is_running (if b then p else q) ≡ false
neither true p q e f = e
neither false p q e f = f

recovers-fine : (k : ℕ) (ws : List Todo_winner) (at : Recover_step) (r : Reply) → is_running (recovering k ws at r) ≡ true → is_fine r ≡ true
recovers-fine k ws (Look_below j) (Found (Some kind)) e = absurd (false≢true e)
recovers-fine k ws (Look_below j) (Found None) e = absurd (false≢true (sym (neither (nat_le j 1) _ _ refl refl) ∙ e))
recovers-fine k ws (Look_below j) r e = absurd (false≢true e)
recovers-fine k ws (Measure j) (Bytes bs) e = absurd (false≢true (sym (neither (right_length ws bs) (Recovering ws (Clear_own j)) Stopped refl refl) ∙ e))
recovers-fine k ws (Measure j) r e = absurd (false≢true e)
recovers-fine k ws (Clear_own j) r e = absurd (false≢true (sym (neither (is_cleared r) (Recovering ws (Move_from j)) Stopped refl refl) ∙ e))
recovers-fine k [] (Move_from j) r e = absurd (false≢true e)
recovers-fine k (x ∷ ws) (Move_from j) r e = if_cases (λ p. is_running p ≡ true → is_fine r ≡ true) (is_fine r) _ _ (λ t q. t) (λ t q. absurd (false≢true q)) e

abbrev takes : Phase → Bool
takes Setting_up = true
takes (Recovering ws at) = true
takes _ = false

from-taking : (k : ℕ) (ws : List Todo_winner) (call : Store) (r : Reply) (p q : Phase) → Follows k ws call r p q → is_running p ≡ false → is_running q ≡ true → takes p ≡ true
from-taking k ws call r p q Follows.runs_now f e = refl
from-taking k ws call r p q (Follows.runs todo at) f e = refl
from-taking k ws call r p q Follows.works f e = absurd (true≢false f)
from-taking k ws call r p q (Follows.stops x) f e = absurd (false≢true e)
from-taking k ws call r p q (Follows.looks_on n) f e = absurd (false≢true e)
from-taking k ws call r p q (Follows.finds n b) f e = absurd (false≢true e)
from-taking k ws call r p q (Follows.reads_failed n) f e = absurd (false≢true e)
from-taking k ws call r p q (Follows.reads n a b) f e = absurd (false≢true e)
from-taking k ws call r p q (Follows.recovers_first at) f e = absurd (false≢true e)
from-taking k ws call r p q (Follows.recovers todo at next) f e = absurd (false≢true e)
from-taking k ws call r p q (Follows.recovered x todo at next) f e = absurd (false≢true e)
from-taking k ws call r p q Follows.commits f e = absurd (false≢true e)
from-taking k ws call r p q (Follows.works_failing a b) f e = absurd (false≢true e)
from-taking k ws call r p q (Follows.failed a) f e = absurd (false≢true e)
from-taking k ws call r p q (Follows.goes_on at next o) f e = absurd (false≢true e)
from-taking k ws call r p q (Follows.finished at b) f e = absurd (false≢true e)
from-taking k ws call r p q (Follows.rests b) f e = absurd (false≢true e)

taken-fine : (k : ℕ) (s : Seen) (p : Phase) (call : Store) (r : Reply) → takes p ≡ true → is_running (phase_told k s p call r) ≡ true → is_fine r ≡ true
unfolding phase_told
taken-fine k s Setting_up call r o e = if_cases (λ p. is_running p ≡ true → is_fine r ≡ true) (is_fine r) _ _ (λ t q. t) (λ t q. absurd (false≢true q)) e
taken-fine k s (Recovering ws at) call r o e = recovers-fine k ws at r e
taken-fine k s p call r o e = absurd (false≢true o)

module _ (cfg : Config) (w : World) (su : Sure cfg w) (k : ℕ) (old : is_running (seen_by cfg w k).phase ≡ false) where
  runs-now : (g : Weather) (call : Store) → w.is_master k ≡ true → is_running (phase_told k (seen_by cfg w k) (seen_by cfg w k).phase call (reply_under g (reply_of w k call))) ≡ true → k ≡ w.fence
  runs-now g call m e =
      let t = from-taking k (seen_by cfg w k).winners call r (seen_by cfg w k).phase _ (follows k (seen_by cfg w k) (seen_by cfg w k).phase call r) old e in
      let a = fine-applied w k g call (taken-fine k (seen_by cfg w k) (seen_by cfg w k).phase call r t e) in
      let up = applied_newest w k g a.0 in
      let low : k ≤ w.fence = su.known.honest.is_aged.masters_started k m in
      omega arith
    where
      r : Reply
      r = reply_under g (reply_of w k call)

  duty-runs : (j : ℕ) (g : Weather) → w.is_master j ≡ true → (o : Option Store) → is_running (seen cfg k (with_master_step w.master_past (duty_act w j g o) k)).phase ≡ true → k ≡ w.fence
  unfolding seen
  duty-runs j g m None e = absurd (false≢true (sym old ∙ e))
  duty-runs j g m (Some call) e = by (nat_eq k j) refl e
    where
      by : (t : Bool) → nat_eq k j ≡ t → is_running (seen cfg k (if t then Asks call (reply_under g (reply_of w j call)) ∷ w.master_past k else w.master_past k)).phase ≡ true → k ≡ w.fence
      by false t e = absurd (false≢true (sym old ∙ e))
      by true t e = let q = eqb-true k j t in
          subst (λ z. is_running (next_seen cfg k (seen_by cfg w k) (Asks call (reply_under g (reply_of w z call)))).phase ≡ true → k ≡ w.fence) q
          (λ f. runs-now g call (subst (λ z. w.is_master z ≡ true) (sym q) m) (subst (λ z. is_running z ≡ true) (told-phase cfg k (seen_by cfg w k) call _) f)) e

  heard-not : (x : Master_step) → IsHeard x → is_running (next_seen cfg k (seen_by cfg w k) x).phase ≡ false
  heard-not (Came p) i = by (came-phase cfg k (seen_by cfg w k) p)
    where
      by : ((next_seen cfg k (seen_by cfg w k) (Came p)).phase ≡ (seen_by cfg w k).phase) ⊎ ((is_running (seen_by cfg w k).phase ≡ true) × ((next_seen cfg k (seen_by cfg w k) (Came p)).phase ≡ Failing false)) →
          is_running (next_seen cfg k (seen_by cfg w k) (Came p)).phase ≡ false
      by (inl q) = subst (λ z. is_running z ≡ false) (sym q) old
      by (inr q) = subst (λ z. is_running z ≡ false) (sym q.1) refl
  heard-not (Launches l) i = subst (λ z. is_running z ≡ false) (sym (launches-phase cfg k (seen_by cfg w k) l)) old
  heard-not (Expires n) i = subst (λ z. is_running z ≡ false) (sym (expires-phase cfg k (seen_by cfg w k) n)) old
  heard-not (Asks call r) i = absurd i

  quiet-not : (e : Event) → ((a : Master_act) → master_act cfg w e ≡ Some a → IsHeard a.step) → is_running (seen_by cfg (effect cfg w e) k).phase ≡ true → k ≡ (effect cfg w e).fence
  quiet-not e f t = absurd (false≢true (sym (seen_after (λ s. is_running s.phase ≡ false) cfg w (master_act cfg w e) k old (λ a q m. heard-not a.step (f a q))) ∙ t))

  event-runs : (e : Event) → not_now cfg w e ≡ None → is_running (seen_by cfg (effect cfg w e) k).phase ≡ true → k ≡ (effect cfg w e).fence
  unfolding master_act
  event-runs (Duty j g) n t = duty-runs j g (duty_master cfg w j g n) (duty cfg w j) t
  event-runs (LaunchOn j u m) n t = quiet-not (LaunchOn j u m) (λ a q. let x : record { who = j; step = Launches (launch_of j (seen_by cfg w j) u m) } ≡ a = cc in subst IsHeard (ap (λ (z : Master_act). z.step) x) tt) t
  event-runs (Deliver i) n t = quiet-not (Deliver i) (λ a q. let p = came_act-is (slice_get w.bag i) a q in subst IsHeard (sym p.1) tt) t
  event-runs (Expire j m) n t = quiet-not (Expire j m) (λ a q. let x : record { who = j; step = Expires m } ≡ a = cc in subst IsHeard (ap (λ (z : Master_act). z.step) x) tt) t
  event-runs (Start j kept) n t = quiet-not (Start j kept) (λ a q. cc) t
  event-runs (Crash j kept) n t = quiet-not (Crash j kept) (λ a q. cc) t
  event-runs (ContainerStep c g) n t = quiet-not (ContainerStep c g) (λ a q. cc) t
  event-runs (Compute c b) n t = quiet-not (Compute c b) (λ a q. cc) t
  event-runs (Die c) n t = quiet-not (Die c) (λ a q. cc) t
  event-runs (NodeRestart m) n t = quiet-not (NodeRestart m) (λ a q. cc) t

-- as it begins to run, a master is the newest
pub begins-newest : (cfg : Config) (within : Limits) (es : List Event) (e : Event) (k : ℕ) → is_running (seen_by cfg (world_of cfg within es) k).phase ≡ false →
    is_running (seen_by cfg (world_of cfg within (es ++ e ∷ [])) k).phase ≡ true → k ≡ (world_of cfg within (es ++ e ∷ [])).fence
unfolding run
begins-newest cfg within es e k old t = subst (λ u. is_running (seen_by cfg u k).phase ≡ true → k ≡ u.fence) (sym (run-append cfg within opening_world es (e ∷ [])))
    (taken_or_not (λ u. is_running (seen_by cfg u k).phase ≡ true → k ≡ u.fence) cfg within (world_of cfg within es) e
    (λ q. absurd (false≢true (sym old ∙ q))) (λ n. event-runs cfg (world_of cfg within es) (always cfg within es) k old e n)) t

-- the newest master's winners are those of all records, while it accepted none
pub all-winners : (cfg : Config) (w : World) → Sure cfg w → (k : ℕ) → k ≡ w.fence → (seen_by cfg w k).accepted ≡ [] →
    (seen_by cfg w k).winners ≡ winners_of (records_below w.history k) cfg.job cfg.reduces → (seen_by cfg w k).winners ≡ winners_of (records w) cfg.job cfg.reduces
unfolding records_below
all-winners cfg w su k n o q = q ∙ sym (subst (λ z. winners_of (records_below w.history z ++ (w.history z).stable) cfg.job cfg.reduces ≡ winners_of (records_below w.history k) cfg.job cfg.reduces) n
    (same-winners (records_below w.history k) (w.history k).stable none cfg.job cfg.reduces))
  where
    none : (a : Attempt) (z : Option ℕ) → In (ReduceSucceeded a z) (w.history k).stable → ⊥
    none a z i = subst (In a) o (su.known.honest.held k a z (In-left (ReduceSucceeded a z) (w.history k).stable (w.history k).tail i)).0
