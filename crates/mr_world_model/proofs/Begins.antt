-- How a job commit begins: by an answered COMMIT_STARTED alone.
use Rattle.std.proofs.Common.{ℕ, ◌≤◌, ◌≡◌, refl, sym, ◌∙◌, ap, subst, Bool, true, false, List, [], ◌∷◌, Option, Some, None, is_some, nat_eq, if◌then◌else◌, ◌⊎◌, inl, inr, arith, slice_get}
use Rattle.std.proofs.lemmas.Bool.{false≢true, true≢false, eqb-true}
use Rattle.mr_world_model.specs.Ids.{Attempt, Path, commit_started}
use Rattle.mr_world_model.specs.Content.{Op, Create, bar_of}
use Rattle.mr_world_model.specs.Records.{Record}
use Rattle.mr_world_model.specs.Packets.{Config, Store, Reply, Names, Append_record, Flush, Read_history}
use Rattle.mr_world_model.specs.Hearing.{Seen, Phase, Running, Committing, Failing, Todo_winner, Commit_step}
use Rattle.mr_world_model.specs.Duties.{Master_step, Came, Launches, Expires, Asks, seen, next_seen, duty_of, phase_told, running, is_fine, bar_call, record_call, wants_flush, first_bar, all_won}
use Rattle.mr_world_model.specs.World.{World, Event, Start, Crash, Duty, LaunchOn, Deliver, ContainerStep, Compute, Die, NodeRestart, Expire, Weather, Master_act, master_act, duty_act, duty, seen_by, reply_of, reply_under, launch_of, opening_world}
use Rattle.mr_world_model.specs.Effect.{effect, not_now, run, with_master_step}
use Rattle.mr_world_model.specs.Claims.{Limits, world_of}
use Rattle.mr_world_model.specs.Beside.{is_committing, BeginsToCommit, OnlyStartedCommits}
use Rattle.mr_world_model.proofs.Basic.{if_cases, taken_or_not, run-append}
use Rattle.mr_world_model.proofs.Grows.{duty_master, applied_newest}
use Rattle.mr_world_model.proofs.Told.{fine-applied, came_act-is}
use Rattle.mr_world_model.proofs.Masters.{came-phase, told-phase, launches-phase, expires-phase}
use Rattle.mr_world_model.proofs.Follows.{Follows, follows}
use Rattle.mr_world_model.proofs.Allowed.{seen_after}
use Rattle.mr_world_model.proofs.Steps.{IsHeard}
use Rattle.mr_world_model.proofs.Recorded.{starts-won}
use Rattle.mr_world_model.proofs.Marks.{running-quiet}
use Rattle.mr_world_model.proofs.Found.{Sure, always}
use Rattle.mr_world_model.specs.Hearing.{is_running}

-- a step that makes no call begins none
heard-not : (cfg : Config) (k : ℕ) (s : Seen) (x : Master_step) → IsHeard x → is_committing s.phase ≡ false → is_committing (next_seen cfg k s x).phase ≡ false
heard-not cfg k s (Came p) i e = by (came-phase cfg k s p)
  where
    by : ((next_seen cfg k s (Came p)).phase ≡ s.phase) ⊎ ((is_running s.phase ≡ true) × ((next_seen cfg k s (Came p)).phase ≡ Failing false)) → is_committing (next_seen cfg k s (Came p)).phase ≡ false
    by (inl q) = subst (λ z. is_committing z ≡ false) (sym q) e
    by (inr q) = subst (λ z. is_committing z ≡ false) (sym q.1) refl
heard-not cfg k s (Launches l) i e = subst (λ z. is_committing z ≡ false) (sym (launches-phase cfg k s l)) e
heard-not cfg k s (Expires n) i e = subst (λ z. is_committing z ≡ false) (sym (expires-phase cfg k s n)) e
heard-not cfg k s (Asks call r) i e = absurd i

-- of the phases, Running alone leads to it
from-running : (k : ℕ) (ws : List Todo_winner) (call : Store) (r : Reply) (p q : Phase) → Follows k ws call r p q → is_committing p ≡ false → is_committing q ≡ true → p ≡ Running
from-running k ws call r p q (Follows.stops x) e f = absurd (false≢true f)
from-running k ws call r p q (Follows.looks_on n) e f = absurd (false≢true f)
from-running k ws call r p q (Follows.finds n b) e f = absurd (false≢true f)
from-running k ws call r p q (Follows.reads_failed n) e f = absurd (false≢true f)
from-running k ws call r p q (Follows.reads n a b) e f = absurd (false≢true f)
from-running k ws call r p q Follows.runs_now e f = absurd (false≢true f)
from-running k ws call r p q (Follows.recovers_first at) e f = absurd (false≢true f)
from-running k ws call r p q (Follows.recovers todo at next) e f = absurd (false≢true f)
from-running k ws call r p q (Follows.recovered x todo at next) e f = absurd (false≢true f)
from-running k ws call r p q (Follows.runs todo at) e f = absurd (false≢true f)
from-running k ws call r p q Follows.works e f = absurd (false≢true f)
from-running k ws call r p q Follows.commits e f = refl
from-running k ws call r p q (Follows.works_failing a b) e f = absurd (false≢true f)
from-running k ws call r p q (Follows.failed a) e f = absurd (false≢true f)
from-running k ws call r p q (Follows.goes_on at next o) e f = absurd (true≢false e)
from-running k ws call r p q (Follows.finished at b) e f = absurd (false≢true f)
from-running k ws call r p q (Follows.rests b) e f = absurd (false≢true f)

-- and by a call of names that was answered and bars nobody
pub record Commits (call : Store) (r : Reply) : Type 0 where
  pub op : Op
  pub is : call ≡ Names op
  pub fine : is_fine r ≡ true
  pub no_bar : is_some (bar_of op) ≡ false

running-commits : (tail : List Record) (call : Store) (r : Reply) → is_committing (running tail call r) ≡ true → Commits call r
running-commits tail (Names op) r e = by (is_fine r) refl (is_some (bar_of op)) refl e
  where
    by : (b : Bool) → is_fine r ≡ b → (c : Bool) → is_some (bar_of op) ≡ c → is_committing (if b then (if c then Running else Committing Commit_step.List_job) else Phase.Stopped) ≡ true → Commits (Names op) r
    by true p false q e = record { op = op; is = refl; fine = p; no_bar = q }
    by true p true q e = absurd (false≢true e)
    by false p c q e = absurd (false≢true e)
running-commits tail (Append_record x) r e = absurd (false≢true (sym (if_cases (λ p. is_committing p ≡ false) (is_fine r) _ _ (λ t. refl) (λ t. refl)) ∙ e))
running-commits tail Flush r e = absurd (false≢true (sym (if_cases (λ p. is_committing p ≡ false) (is_fine r) _ _ (λ t. refl) (λ t. refl)) ∙ e))
running-commits tail Read_history r e = absurd (false≢true e)

-- such a call is made with nothing due and nothing unflushed that matters
nothing-due : (m : Option Attempt) (due tail : List Record) (x : Option Store) (p : Path) (b : Bool) → bar_call m (record_call due tail x) ≡ Some (Names (Create p b)) → (due ≡ []) × (wants_flush tail ≡ false)
nothing-due (Some a) due tail x p b e = cc
nothing-due None (r ∷ due) tail x p b e = cc
nothing-due None [] tail x p b e = (refl, by (wants_flush tail) refl e)
  where
    by : (t : Bool) → wants_flush tail ≡ t → (if t then Some Flush else x) ≡ Some (Names (Create p b)) → wants_flush tail ≡ false
    by true q e = cc
    by false q e = q

running-due : (cfg : Config) (k : ℕ) (s : Seen) (p : Path) (b : Bool) → duty_of cfg k s Running ≡ Some (Names (Create p b)) → (s.due ≡ []) × (wants_flush s.tail ≡ false)
unfolding duty_of
running-due cfg k s p b e = nothing-due (first_bar s s.bars) s.due s.tail _ p b e

module _ (cfg : Config) (w : World) (su : Sure cfg w) (k : ℕ) (old : is_committing (seen_by cfg w k).phase ≡ false) where
  begins-now : (g : Weather) (call : Store) → w.is_master k ≡ true → duty cfg w k ≡ Some call → is_committing (phase_told k (seen_by cfg w k) (seen_by cfg w k).phase call (reply_under g (reply_of w k call))) ≡ true → BeginsToCommit cfg w (Duty k g) k
  unfolding phase_told
  begins-now g call m d e = by (subst (λ z. is_committing (phase_told k s z call r) ≡ true) runs e)
    where
      s : Seen
      s = seen_by cfg w k

      r : Reply
      r = reply_under g (reply_of w k call)

      runs : s.phase ≡ Running
      runs = from-running k s.winners call r s.phase (phase_told k s s.phase call r) (follows k s s.phase call r) old e

      by : is_committing (running s.tail call r) ≡ true → BeginsToCommit cfg w (Duty k g) k
      by f = own (starts-won cfg k s c.op du)
        where
          c : Commits call r
          c = running-commits s.tail call r f

          du : duty_of cfg k s Running ≡ Some (Names c.op)
          du = subst (λ z. duty_of cfg k s z ≡ Some call) runs d ∙ ap Some c.is

          own : (is_some (bar_of c.op) ≡ true) ⊎ ((c.op ≡ Create commit_started true) × (all_won s.recorded s.winners cfg.job cfg.reduces ≡ true)) → BeginsToCommit cfg w (Duty k g) k
          own (inl b) = absurd (true≢false (sym b ∙ c.no_bar))
          own (inr q) =
              let a = fine-applied w k g call c.fine in
              let up = applied_newest w k g a.0 in
              let low : k ≤ w.fence = su.known.honest.is_aged.masters_started k m in
              let new : k ≡ w.fence = omega arith in
              let none = running-due cfg k s commit_started true (du ∙ ap (λ z. Some (Names z)) q.0) in
              record {
                event = ap (λ z. Duty k z) a.2;
                call = d ∙ ap Some (c.is ∙ ap Names q.0);
                none_due = none.0;
                none_unflushed = none.1;
                newest = new;
                none_unsuccessful = (running-quiet cfg w su.marks su.mild_masters (subst (λ z. is_running (seen_by cfg w z).phase ≡ true) new (subst (λ z. is_running z ≡ true) (sym runs) refl))).not_unsuccessful;
              }

  duty-begins : (j : ℕ) (g : Weather) → w.is_master j ≡ true → (o : Option Store) → duty cfg w j ≡ o → is_committing (seen cfg k (with_master_step w.master_past (duty_act w j g o) k)).phase ≡ true → BeginsToCommit cfg w (Duty j g) k
  unfolding seen
  duty-begins j g m None d e = absurd (false≢true (sym old ∙ e))
  duty-begins j g m (Some call) d e = by (nat_eq k j) refl e
    where
      by : (t : Bool) → nat_eq k j ≡ t → is_committing (seen cfg k (if t then Asks call (reply_under g (reply_of w j call)) ∷ w.master_past k else w.master_past k)).phase ≡ true → BeginsToCommit cfg w (Duty j g) k
      by false t e = absurd (false≢true (sym old ∙ e))
      by true t e = let q = eqb-true k j t in
          subst (λ z. is_committing (next_seen cfg k (seen_by cfg w k) (Asks call (reply_under g (reply_of w z call)))).phase ≡ true → BeginsToCommit cfg w (Duty z g) k) q
          (λ f. begins-now g call (subst (λ z. w.is_master z ≡ true) (sym q) m) (subst (λ z. duty cfg w z ≡ Some call) (sym q) d) (subst (λ z. is_committing z ≡ true) (told-phase cfg k (seen_by cfg w k) call _) f)) e

  quiet-begins : (e : Event) → ((a : Master_act) → master_act cfg w e ≡ Some a → IsHeard a.step) → is_committing (seen_by cfg (effect cfg w e) k).phase ≡ true → BeginsToCommit cfg w e k
  quiet-begins e f t = absurd (false≢true (sym (seen_after (λ s. is_committing s.phase ≡ false) cfg w (master_act cfg w e) k old (λ a q m. heard-not cfg k (seen_by cfg w k) a.step (f a q) old)) ∙ t))

  event-begins : (e : Event) → not_now cfg w e ≡ None → is_committing (seen_by cfg (effect cfg w e) k).phase ≡ true → BeginsToCommit cfg w e k
  unfolding master_act
  event-begins (Duty j g) n t = duty-begins j g (duty_master cfg w j g n) (duty cfg w j) refl t
  event-begins (LaunchOn j u m) n t = quiet-begins (LaunchOn j u m) (λ a q. let x : record { who = j; step = Launches (launch_of j (seen_by cfg w j) u m) } ≡ a = cc in subst IsHeard (ap (λ (z : Master_act). z.step) x) tt) t
  event-begins (Deliver i) n t = quiet-begins (Deliver i) (λ a q. let p = came_act-is (slice_get w.bag i) a q in subst IsHeard (sym p.1) tt) t
  event-begins (Expire j m) n t = quiet-begins (Expire j m) (λ a q. let x : record { who = j; step = Expires m } ≡ a = cc in subst IsHeard (ap (λ (z : Master_act). z.step) x) tt) t
  event-begins (Start j kept) n t = quiet-begins (Start j kept) (λ a q. cc) t
  event-begins (Crash j kept) n t = quiet-begins (Crash j kept) (λ a q. cc) t
  event-begins (ContainerStep c g) n t = quiet-begins (ContainerStep c g) (λ a q. cc) t
  event-begins (Compute c b) n t = quiet-begins (Compute c b) (λ a q. cc) t
  event-begins (Die c) n t = quiet-begins (Die c) (λ a q. cc) t
  event-begins (NodeRestart m) n t = quiet-begins (NodeRestart m) (λ a q. cc) t

pub only_started : (cfg : Config) (within : Limits) → OnlyStartedCommits cfg within
unfolding run
only_started cfg within es e k old t = taken_or_not (λ u. is_committing (seen_by cfg u k).phase ≡ true → BeginsToCommit cfg (world_of cfg within es) e k) cfg within (world_of cfg within es) e
    (λ q. absurd (false≢true (sym old ∙ q))) (λ n. event-begins cfg (world_of cfg within es) (always cfg within es) k old e n)
    (subst (λ u. is_committing (seen_by cfg u k).phase ≡ true) (run-append cfg within opening_world es (e ∷ [])) t)
