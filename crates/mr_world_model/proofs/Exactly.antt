-- What is recorded of a reduce is exactly what succeeded for it, while the newest master lives and works: its segment is open then.
use Rattle.std.proofs.Common.{ℕ, suc, ◌≤◌, ◌<◌, ◌≡◌, refl, sym, ◌∙◌, subst, Bool, true, false, ◌&&◌, ◌||◌, not, List, [], ◌∷◌, Option, Some, None, nat_eq, nat_lt, ◌⊎◌, inl, inr, arith}
use Rattle.std.proofs.lemmas.Bool.{and_parts, false≢true, eqb-true, ltb-true, not-true}
use Rattle.mr_world_model.specs.Ids.{Attempt, TaskId, is_reduce, task_eq}
use Rattle.mr_world_model.specs.Records.{Record, Segment, History, ReduceSucceeded, appended, flushed, sealed_below, records_below, winner_in, bytes_kept}
use Rattle.mr_world_model.specs.Packets.{Config, Store, Names, Append_record, Flush, Read_history}
use Rattle.mr_world_model.specs.Hearing.{Phase, Running, Failing, Committing, Todo_winner, has_winner}
use Rattle.mr_world_model.specs.Duties.{winners_of, seen}
use Rattle.mr_world_model.specs.World.{World, Event, Start, Crash, Duty, LaunchOn, Deliver, ContainerStep, Compute, Die, NodeRestart, Expire, Made, call_of, is_applied, segment_left, seen_by, opening_world, master_act}
use Rattle.mr_world_model.specs.Effect.{effect, not_now, history_called}
use Rattle.mr_world_model.specs.Claims.{Limits, In, IsReduce, world_of, IsRecorded}
use Rattle.mr_world_model.specs.Beside.{RecordedIsSucceeded, HasSucceeded, is_at_work}
use Rattle.mr_world_model.proofs.Basic.{if_cases, along}
use Rattle.mr_world_model.proofs.Names.{task_eq-true}
use Rattle.mr_world_model.proofs.Lists.{In-left, In-right, In-parts, Each-In}
use Rattle.mr_world_model.proofs.Grows.{Aged, is_started, crash_master}
use Rattle.mr_world_model.proofs.Allowed.{Allowed, permits, seen_after}
use Rattle.mr_world_model.proofs.Told.{Stores, is_allowed, below_same, old_or_new, new_seen}
use Rattle.mr_world_model.proofs.Phases.{Wins, winners-win, winners-all}
use Rattle.mr_world_model.proofs.Dirs.{R}
use Rattle.mr_world_model.proofs.Fates.{winner-In}
use Rattle.mr_world_model.proofs.Found.{Sure, sure, opening-sure}
use Rattle.mr_world_model.proofs.Recorded.{SuccessIn}
use Rattle.mr_world_model.proofs.One_recorded.{recorded-case, old-winner}
use Rattle.mr_world_model.proofs.Outcomes.{ever}
use Rattle.mr_world_model.proofs.Steps.{newest}
use Rattle.mr_world_model.proofs.Beside.{accepted-at, launched-at}
use Rattle.mr_world_model.proofs.Accounted.{Accounted, Where, next-accounted, opening-accounted, takes}

-- The newest master's segment is open while it lives, and so are those of masters to come

pub record Open (w : World) : Type 0 where
  pub to_come : (j : ℕ) → w.fence < j → (w.history j).is_sealed ≡ false
  pub living : w.is_master w.fence ≡ true → (w.history w.fence).is_sealed ≡ false

left-open : (s : Segment) (call : Store) → s.is_sealed ≡ false → (segment_left s call).is_sealed ≡ false
left-open s (Names op) e = e
left-open s (Append_record r) e = if_cases (λ (z : Segment). z.is_sealed ≡ false) s.is_sealed s (appended s r) (λ t. e) (λ t. e)
left-open s Flush e = if_cases (λ (z : Segment). z.is_sealed ≡ false) s.is_sealed s (flushed s) (λ t. e) (λ t. e)
left-open s Read_history e = e

called-open : (w : World) (m : Option Made) (j : ℕ) → (w.history j).is_sealed ≡ false → (history_called w m j).is_sealed ≡ false
called-open w None j e = e
called-open w (Some m) j e = if_cases (λ (h : History). (h j).is_sealed ≡ false) (is_applied w m.app m.fault) _ _
    (λ t. if_cases (λ (s : Segment). s.is_sealed ≡ false) (nat_eq j m.app) _ _
    (λ q. left-open (w.history m.app) m.call (subst (λ z. (w.history z).is_sealed ≡ false) (eqb-true j m.app q) e)) (λ q. e))
    (λ t. e)

same-open : (w : World) (m : Option Made) → Open w → (j : ℕ) → w.fence < j → (history_called w m j).is_sealed ≡ false
same-open w m o j l = called-open w m j (o.to_come j l)

open-after : (cfg : Config) (w : World) (e : Event) → Aged w → not_now cfg w e ≡ None → Open w → Open (effect cfg w e)
unfolding call_of
open-after cfg w (Start k kept) a n o = record { to_come = λ j l. raised j (omega (arith, l)); living = λ t. raised k (omega arith) }
  where
    next : k ≡ suc w.fence
    next = is_started cfg w k kept n

    below : (i : ℕ) → k ≤ i → (sealed_below k kept w.history i).is_sealed ≡ false
    below i m = let s = next in if_cases (λ (s : Segment). s.is_sealed ≡ false) (nat_lt i k) _ _ (λ t. let x = ltb-true i k t in absurd (omega (arith, x, m))) (λ t. o.to_come i (omega (arith, m, s)))

    raised : (j : ℕ) → k ≤ j → ((effect cfg w (Start k kept)).history j).is_sealed ≡ false
    raised j l = if_cases (λ (s : Segment). s.is_sealed ≡ false) (nat_eq j k) _ _ (λ q. below k (omega arith)) (λ q. below j l)
open-after cfg w (Crash k kept) a n o = record { to_come = to_come; living = living }
  where
    old : k ≤ w.fence
    old = a.masters_started k (crash_master cfg w k kept n)

    to_come : (j : ℕ) → w.fence < j → ((effect cfg w (Crash k kept)).history j).is_sealed ≡ false
    to_come j l = if_cases (λ (s : Segment). s.is_sealed ≡ false) (nat_eq j k) _ _ (λ q. absurd (let p = eqb-true j k q in let b = old in omega arith)) (λ q. o.to_come j l)

    living : (not (nat_eq w.fence k) && w.is_master w.fence) ≡ true → ((effect cfg w (Crash k kept)).history w.fence).is_sealed ≡ false
    living t = let p = and_parts _ _ t in if_cases (λ (s : Segment). s.is_sealed ≡ false) (nat_eq w.fence k) _ _ (λ q. absurd (false≢true (sym (not-true _ p.0) ∙ q))) (λ q. o.living p.1)
open-after cfg w (Duty k f) a n o = record { to_come = same-open w _ o; living = λ t. called-open w _ w.fence (o.living t) }
open-after cfg w (ContainerStep c f) a n o = record { to_come = same-open w _ o; living = λ t. called-open w _ w.fence (o.living t) }
open-after cfg w (LaunchOn k t m) a n o = record { to_come = o.to_come; living = o.living }
open-after cfg w (Deliver i) a n o = record { to_come = o.to_come; living = o.living }
open-after cfg w (Compute c b) a n o = record { to_come = o.to_come; living = o.living }
open-after cfg w (Die c) a n o = record { to_come = o.to_come; living = o.living }
open-after cfg w (NodeRestart m) a n o = record { to_come = o.to_come; living = o.living }
open-after cfg w (Expire k m) a n o = record { to_come = o.to_come; living = o.living }

-- Over every list

pub record Counted (cfg : Config) (w : World) : Type 0 where
  pub sures : Sure cfg w
  pub opens : Open w
  pub accounted : (k : ℕ) → k ≤ w.fence → Accounted (records_below w.history k) cfg.job cfg.reduces (seen_by cfg w k)

counted : (cfg : Config) (w : World) (e : Event) → Counted cfg w → not_now cfg w e ≡ None → Counted cfg (effect cfg w e)
counted cfg w e c n = record { sures = sure cfg w e c.sures n; opens = open-after cfg w e c.sures.known.honest.is_aged n c.opens; accounted = λ k l. by k (old_or_new cfg w e n k l) }
  where
    by : (k : ℕ) → (k ≤ w.fence) ⊎ (w.fence < k) → Accounted (records_below (effect cfg w e).history k) cfg.job cfg.reduces (seen_by cfg (effect cfg w e) k)
    by k (inl l) = subst (λ rs. Accounted rs cfg.job cfg.reduces (seen_by cfg (effect cfg w e) k)) (sym (below_same cfg w e c.sures.known.honest.is_aged n k l))
        (seen_after (Accounted (records_below w.history k) cfg.job cfg.reduces) cfg w (master_act cfg w e) k (c.accounted k l)
        (λ a q m. next-accounted cfg w k a.step (subst (λ x. Allowed cfg w x a.step) m (is_allowed cfg w _ (permits cfg w e n) a q).1) (c.accounted k l)))
    by k (inr l) = subst (Accounted (records_below (effect cfg w e).history k) cfg.job cfg.reduces) (sym (new_seen cfg w e c.sures.known.honest n k l)) (opening-accounted _ cfg.job cfg.reduces)

opening-counted : (cfg : Config) → Counted cfg opening_world
unfolding seen
opening-counted cfg = record { sures = opening-sure cfg; opens = record { to_come = λ j l. refl; living = λ t. refl }; accounted = λ k l. opening-accounted _ cfg.job cfg.reduces }

pub always-counted : (cfg : Config) (within : Limits) (es : List Event) → Counted cfg (world_of cfg within es)
always-counted cfg within es = along (Counted cfg) cfg within (λ w e c n. counted cfg w e c n) opening_world es (opening-counted cfg)

-- Both ways

work-takes : (p : Phase) → is_at_work p ≡ true → takes p ≡ true
work-takes Running e = refl
work-takes (Failing f) e = refl
work-takes (Committing at) e = refl
work-takes p e = absurd (false≢true e)

has-In : (ws : List Todo_winner) (t : TaskId) → has_winner ws t ≡ true → (x : Todo_winner) × In x ws × (x.task ≡ t)
has-In [] t e = absurd (false≢true e)
has-In (x ∷ ws) t e = by (task_eq x.task t) refl e (has-In ws t)
  where
    by : (b : Bool) → task_eq x.task t ≡ b → (b || has_winner ws t) ≡ true → (has_winner ws t ≡ true → (y : Todo_winner) × In y ws × (y.task ≡ t)) → (y : Todo_winner) × In y (x ∷ ws) × (y.task ≡ t)
    by true q e f = (x, inl refl, task_eq-true x.task t q)
    by false q e f = let y = f e in (y.0, inr y.1, y.2)

winner-among : (rs : List Record) (cfg : Config) (t : TaskId) (a : Attempt) → IsReduce cfg t → winner_in rs t ≡ Some a → (x : Todo_winner) × In x (winners_of rs cfg.job cfg.reduces) × (x.attempt ≡ a)
winner-among rs cfg t a l e = by (has_winner (winners_of rs cfg.job cfg.reduces) t) refl
  where
    by : (b : Bool) → has_winner (winners_of rs cfg.job cfg.reduces) t ≡ b → (x : Todo_winner) × In x (winners_of rs cfg.job cfg.reduces) × (x.attempt ≡ a)
    by false q = let n : None ≡ Some a = sym (winners-all rs cfg.job cfg.reduces t l q) ∙ e in cc
    by true q = let x = has-In (winners_of rs cfg.job cfg.reduces) t q in
        let v : winner_in rs x.0.task ≡ Some x.0.attempt = (Each-In (Wins rs) (winners_of rs cfg.job cfg.reduces) (winners-win rs cfg.job cfg.reduces) x.0 x.1).0 in
        let u : winner_in rs t ≡ Some x.0.attempt = subst (λ z. winner_in rs z ≡ Some x.0.attempt) x.2 v in (x.0, x.1, cc (u, e))

module _ (cfg : Config) (w : World) (c : Counted cfg w) (p : is_at_work (newest cfg w).phase ≡ true) where
  winners-are : (newest cfg w).winners ≡ winners_of (R w) cfg.job cfg.reduces
  winners-are = (c.accounted w.fence (omega arith)).wins (work-takes (newest cfg w).phase p)

  pub recorded-succeeded : (a : Attempt) → IsRecorded cfg w a → HasSucceeded (newest cfg w) a
  recorded-succeeded a i = by (recorded-case cfg w c.sures.known.honest a i)
    where
      small : IsReduce cfg a.task
      small = let x = accepted-at cfg w c.sures.known.honest a i in let l = launched-at cfg w c.sures.known x.by a x.accepted x.reduce in
          subst (λ (z : Attempt). IsReduce cfg z.task) l.attempt (c.sures.known.masters.small x.by l.launch l.here (subst (λ z. is_reduce z ≡ true) (sym l.attempt) x.reduce))

      by : SuccessIn a (records_below w.history w.fence) ⊎ (In a (newest cfg w).accepted × (is_reduce a ≡ true)) → HasSucceeded (newest cfg w) a
      by (inr j) = inl j
      by (inl j) = let x = winner-among (R w) cfg a.task a small (old-winner cfg w c.sures.known.honest w.fence (omega arith) a j) in
          inr (x.0, subst (λ z. In x.0 z) (sym winners-are) x.1, x.2)

  pub succeeded-recorded : w.is_master w.fence ≡ true → ((a : Attempt) → In a (newest cfg w).recorded → is_reduce a ≡ true → SuccessIn a (w.history w.fence).stable) → (a : Attempt) → HasSucceeded (newest cfg w) a → IsRecorded cfg w a
  unfolding records_below
  succeeded-recorded m st a (inl i) = by ((c.accounted w.fence (omega arith)).counts a i.0 i.1)
    where
      stored : (z : Option ℕ) → Stores (w.history w.fence) (ReduceSucceeded a z) → IsRecorded cfg w a
      stored z j = parts (In-parts (ReduceSucceeded a z) (w.history w.fence).stable (w.history w.fence).tail j)
        where
          parts : In (ReduceSucceeded a z) (w.history w.fence).stable ⊎ In (ReduceSucceeded a z) (w.history w.fence).tail → IsRecorded cfg w a
          parts (inl k) = (z, inl (In-right (ReduceSucceeded a z) (records_below w.history w.fence) (w.history w.fence).stable k))
          parts (inr k) = (z, inr (inl k))

      by : Where (newest cfg w).due (newest cfg w).tail (newest cfg w).recorded a → IsRecorded cfg w a
      by (inl j) = (j.0, inr (inr j.1))
      by (inr (inl j)) = let t = c.sures.known.honest.tailed w.fence (c.opens.living m) (ReduceSucceeded a j.0) j.1 in stored (bytes_kept t.0 j.0) t.1
      by (inr (inr j)) = let s = st a j i.1 in (s.0, inl (In-right (ReduceSucceeded a s.0) (records_below w.history w.fence) (w.history w.fence).stable s.1))
  succeeded-recorded m st a (inr x) =
      let v : winner_in (R w) x.0.task ≡ Some x.0.attempt = (Each-In (Wins (R w)) (winners_of (R w) cfg.job cfg.reduces) (winners-win (R w) cfg.job cfg.reduces) x.0 (subst (λ z. In x.0 z) winners-are x.1)).0 in
      let i = winner-In (R w) x.0.task x.0.attempt v in
      (i.0, inl (In-left (ReduceSucceeded a i.0) (records_below w.history w.fence) (w.history w.fence).stable (subst (λ z. In (ReduceSucceeded z i.0) (R w)) x.2 i.1)))

pub recorded_is_succeeded : (cfg : Config) (within : Limits) → RecordedIsSucceeded cfg within
recorded_is_succeeded cfg within = record {
  succeeded = λ es a p i. recorded-succeeded cfg (world_of cfg within es) (always-counted cfg within es) p a i;
  recorded = λ es a m p i. succeeded-recorded cfg (world_of cfg within es) (always-counted cfg within es) p m (ever cfg within es).records.recorded a i;
}
