-- Over every list of events: what is known of masters, containers, marks and directories, and that recovery finds the winners.
use Rattle.std.proofs.Common.{[], ◌∷◌, ◌++◌, Bool, ◌&&◌, ◌||◌, not, nat_lt, ℕ, ◌≡◌, refl, sym, ◌∙◌, ap, subst, true, false, List, Option, Some, None, ◌⊎◌, inl, inr, arith}
use Rattle.std.proofs.lemmas.Bool.{false≢true, true≢false, not-true}
use Rattle.mr_world_model.proofs.Opening.{opening-dest}
use Rattle.mr_world_model.specs.Ids.{Attempt, TaskId, is_reduce, of_reduces, task_eq, generation_name, attempt_name, task_name, temporary_name}
use Rattle.mr_world_model.specs.Records.{records_below, winner_in, ReduceSucceeded}
use Rattle.mr_world_model.specs.Packets.{Config, Done}
use Rattle.mr_world_model.specs.Hearing.{Seen, Phase, Opening, Setting_up, Recovering, Running, Committing, Failing, Finished, Stopped, Launched, is_running, accepts_task, is_won}
use Rattle.mr_world_model.specs.Duties.{seen, winners_of}
use Rattle.mr_world_model.specs.World.{World, Event, LaunchOn, opening_world, seen_by, master_act}
use Rattle.mr_world_model.specs.Sending.{to_app}
use Rattle.mr_world_model.specs.Effect.{effect, not_now, run, NoMaster, NotRunning, NoTask, NoNode, Task, AlreadyWon, is_task, task_fault}
use Rattle.mr_world_model.specs.Claims.{In, Limits, world_of, RecoveryFindsTheWinners, HoldsWhole, has_not_run, IsQuiet, NewestHolds, winner}
use Rattle.mr_world_model.proofs.Basic.{along, unless_parts, run-append}
use Rattle.mr_world_model.proofs.Names.{task_eq-refl}
use Rattle.mr_world_model.proofs.Closed.{next-accepted}
use Rattle.mr_world_model.proofs.Allowed.{seen_after}
use Rattle.mr_world_model.proofs.Phases.{PhaseFits}
use Rattle.mr_world_model.proofs.Won.{opening-truthful}
use Rattle.mr_world_model.proofs.Sends.{opening-cluster}
use Rattle.mr_world_model.proofs.Told_yes.{opening-yes}
use Rattle.mr_world_model.proofs.Reports.{opening-reports, Sender, SaysDone, wish_as}
use Rattle.mr_world_model.proofs.Masters.{opening-masters, is_early}
use Rattle.mr_world_model.proofs.Mild.{Mild, mild, opening-mild}
use Rattle.mr_world_model.proofs.Steps.{newest, Calls}
use Rattle.mr_world_model.proofs.Lists.{In-left, Each-In}
use Rattle.mr_world_model.proofs.Regions.{commits, AwayFrom, attempt_from_committed, committed_other}
use Rattle.mr_world_model.specs.Ids.{committed}
use Rattle.mr_world_model.proofs.Dirs.{calls-new, calls-free, none-some, calls-away, Known, known_step, Dirs, PhaseDirs, AllHold, R, HoldsAt}
use Rattle.mr_world_model.proofs.Fates.{accepted-holds, winner-split, named-not-over}
use Rattle.mr_world_model.proofs.Dirs_kept.{dirs_after}
use Rattle.mr_world_model.proofs.Marks.{Marks, marks_after, quiet-before, quiet-not-loud, running-quiet}

pub record Sure (cfg : Config) (w : World) : Type 0 where
  pub known : Known cfg w
  pub mild_masters : Mild cfg w
  pub marks : Marks cfg w
  pub dirs : IsQuiet w → Dirs cfg w

pub sure : (cfg : Config) (w : World) (e : Event) → Sure cfg w → not_now cfg w e ≡ None → Sure cfg (effect cfg w e)
sure cfg w e s n = record {
  known = known_step cfg w e s.known n;
  mild_masters = mild cfg w e s.known.honest s.mild_masters n;
  marks = marks_after cfg w e s.known s.mild_masters s.marks n;
  dirs = λ q. let b = quiet-before cfg w e s.known s.mild_masters s.marks n q in
      dirs_after cfg w e s.known n (quiet-not-loud cfg w s.marks b) (s.dirs b);
}

pub opening-sure : (cfg : Config) → Sure cfg opening_world
unfolding seen records_below winner_in
opening-sure cfg = record {
  known = record { honest = (opening-truthful cfg).is_honest; cluster = opening-cluster cfg; heard = opening-yes cfg; reports = opening-reports cfg; masters = opening-masters cfg };
  mild_masters = opening-mild cfg;
  marks = record { start = tt; fail = tt };
  dirs = λ q. record {
    unborn = λ k l x. opening-dest (temporary_name ∷ generation_name k ∷ x);
    unplaced = λ a o x. opening-dest (temporary_name ∷ generation_name 0 ∷ temporary_name ∷ attempt_name a ∷ x);
    own = λ c p a e. cc;
    tidy = λ j t e x. opening-dest (temporary_name ∷ generation_name j ∷ task_name t ∷ x);
    renamed = λ c p a e. cc;
    old = λ t a e. cc;
    names = λ n i o x. opening-dest (temporary_name ∷ generation_name 0 ∷ n ∷ x);
    phase = λ t x. opening-dest (temporary_name ∷ generation_name 0 ∷ task_name t ∷ x);
  };
}

pub always : (cfg : Config) (within : Limits) (es : List Event) → Sure cfg (world_of cfg within es)
always cfg within es = along (Sure cfg) cfg within (λ w e s n. sure cfg w e s n) opening_world es (opening-sure cfg)

early-is : (p : Phase) → has_not_run p ≡ is_early p
early-is (Opening n) = refl
early-is Setting_up = refl
early-is (Recovering ws at) = refl
early-is Running = refl
early-is (Committing at) = refl
early-is (Failing f) = refl
early-is (Finished b) = refl
early-is Stopped = refl

-- A reduce whose success was accepted is not launched again

accepts-at : (rs : List Attempt) (a : Attempt) → In a rs → is_reduce a ≡ true → accepts_task rs a.task ≡ true
accepts-at [] a i d = absurd i
accepts-at (b ∷ rs) a (inl e) d = subst (λ (z : Attempt). (is_reduce z && task_eq z.task a.task || accepts_task rs a.task) ≡ true) (sym e) (rw (d, task_eq-refl a.task) refl)
accepts-at (b ∷ rs) a (inr i) d = by (is_reduce b && task_eq b.task a.task) (accepts-at rs a i d)
  where
    by : (t : Bool) → accepts_task rs a.task ≡ true → (t || accepts_task rs a.task) ≡ true
    by true e = refl
    by false e = e

launch-free : (cfg : Config) (w : World) (k : ℕ) (t : TaskId) (n : ℕ) → of_reduces t.kind ≡ true → not_now cfg w (LaunchOn k t n) ≡ None → accepts_task (seen_by cfg w k).accepted t ≡ true → ⊥
unfolding not_now
launch-free cfg w k t n d q e =
    let a = unless_parts (w.is_master k) NoMaster _ q in let b = unless_parts (is_running (seen_by cfg w k).phase) NotRunning _ a.1 in
    let c = unless_parts (is_task cfg t) NoTask _ b.1 in let f = unless_parts (nat_lt n cfg.nodes) NoNode (task_fault (seen_by cfg w k) t) c.1 in
    let g = unless_parts (not (is_won (seen_by cfg w k) (of_reduces t.kind) t)) (Task AlreadyWon) _ f.1 in
    let won : is_won (seen_by cfg w k) true t ≡ true = rw e refl in
    true≢false (sym (subst (λ z. is_won (seen_by cfg w k) z t ≡ true) (sym d) won) ∙ not-true _ g.0)

stays-accepted : (cfg : Config) (within : Limits) (w : World) (fs : List Event) (k : ℕ) (a : Attempt) → In a (seen_by cfg w k).accepted → In a (seen_by cfg (run cfg within w fs) k).accepted
stays-accepted cfg within w fs k a i = along (λ u. In a (seen_by cfg u k).accepted) cfg within
    (λ u e o n. seen_after (λ s. In a s.accepted) cfg u (master_act cfg u e) k o (λ b q m. next-accepted cfg k (seen_by cfg u k) b.step a o)) w fs i

launched-once : (cfg : Config) (within : Limits) (es fs : List Event) (k n : ℕ) (a : Attempt) → In a (seen_by cfg (world_of cfg within es) k).accepted → is_reduce a ≡ true →
    not_now cfg (world_of cfg within (es ++ fs)) (LaunchOn k a.task n) ≡ None → ⊥
launched-once cfg within es fs k n a i d q =
    let j = stays-accepted cfg within (world_of cfg within es) fs k a i in
    launch-free cfg (run cfg within (world_of cfg within es) fs) k a.task n d (subst (λ z. not_now cfg z (LaunchOn k a.task n) ≡ None) (run-append cfg within opening_world es fs) q) (accepts-at _ a j d)

pub recovery_finds : (cfg : Config) (within : Limits) → RecoveryFindsTheWinners cfg within
recovery_finds cfg within = record {
  files = λ es t a r l q. let s = always cfg within es in let d = s.dirs (running-quiet cfg (world_of cfg within es) s.marks s.mild_masters r) in
      holds (world_of cfg within es) t a (run-all (world_of cfg within es) (newest cfg (world_of cfg within es)).phase r d.phase t a l q);
  exactly = λ es r. let s = always cfg within es in fits (world_of cfg within es) (newest cfg (world_of cfg within es)).phase r (s.known.honest.fits (world_of cfg within es).fence (omega arith));
  before = λ es k e. (always cfg within es).known.masters.early k (sym (early-is (seen_by cfg (world_of cfg within es) k).phase) ∙ e);
  never = λ es k l b i r. ((always cfg within es).known.honest.steady k b).launches l i r;
  own = launched-once cfg within;
}
  where
    run-all : (w : World) (p : Phase) → is_running p ≡ true → PhaseDirs cfg w w.fence (R w) p → AllHold cfg w w.fence (R w)
    run-all w Running e o = o
    run-all w p e o = absurd (false≢true e)

    fits : (w : World) (p : Phase) → is_running p ≡ true → PhaseFits (R w) cfg.job cfg.reduces (newest cfg w).winners p → (newest cfg w).winners ≡ winners_of (R w) cfg.job cfg.reduces
    fits w Running e o = o
    fits w p e o = absurd (false≢true e)

    holds : (w : World) (t : TaskId) (a : Attempt) → HoldsAt w w.fence t a → HoldsWhole w w.fence t a
    holds w t a h = record { bytes = h.bytes; whole = h.whole; dir = h.holds.dir; file = h.holds.file; only = h.holds.only }

pub as-whole : (w : World) (k : ℕ) (t : TaskId) (a : Attempt) → HoldsAt w k t a → HoldsWhole w k t a
as-whole w k t a h = record { bytes = h.bytes; whole = h.whole; dir = h.holds.dir; file = h.holds.file; only = h.holds.only }

-- the newest committed directory of a recorded reduce
pub newest-holds : (cfg : Config) (w : World) → Sure cfg w → IsQuiet w → (t : TaskId) (a : Attempt) → winner w t ≡ Some a → NewestHolds w t a
unfolding records_below
newest-holds cfg w s q t a e = by (winner-split (R w) (w.history w.fence).stable t a e)
  where
    d : Dirs cfg w
    d = s.dirs q

    by : (winner_in (R w) t ≡ Some a) ⊎ ((z : Option ℕ) × In (ReduceSucceeded a z) (w.history w.fence).stable × (a.task ≡ t)) → NewestHolds w t a
    by (inl v) = let o = d.old t a v in record { at = o.at; old = o.old; here = as-whole w o.at t a o.here; none_newer = o.none_newer }
    by (inr v) = let acc = s.known.honest.held w.fence a v.0 (In-left (ReduceSucceeded a v.0) (w.history w.fence).stable (w.history w.fence).tail v.1) in
        record { at = w.fence; old = omega arith; here = subst (λ z. HoldsWhole w w.fence z a) v.2 (as-whole w w.fence a.task a (accepted-holds cfg w s.known d a acc.0 acc.1)); none_newer = λ i l u. absurd (omega (arith, l, u)) }

-- A container of the newest generation clears or renames no reduce with a recorded winner, also while its master commits
pub won-free : (cfg : Config) (w : World) (e : Event) (kn : Known cfg w) (n : not_now cfg w e ≡ None) (k : Calls cfg w e) → commits (wish_as cfg w k.who k.place) ≡ true → (a : Attempt) → winner w k.place.attempt.task ≡ Some a → ⊥
unfolding records_below
won-free cfg w e kn n k m a q = by (winner-split (R w) (w.history w.fence).stable k.place.attempt.task a q)
  where
    by : (winner_in (R w) k.place.attempt.task ≡ Some a) ⊎ ((z : Option ℕ) × In (ReduceSucceeded a z) (w.history w.fence).stable × (a.task ≡ k.place.attempt.task)) → ⊥
    by (inl v) = none-some (sym (calls-new cfg w e kn n k) ∙ v)
    by (inr v) =
        let acc = kn.honest.held w.fence a v.0 (In-left (ReduceSucceeded a v.0) (w.history w.fence).stable (w.history w.fence).tail v.1) in
        let s : Sender cfg w w.fence a = (let m = kn.masters.said w.fence a acc.0 in Each-In (SaysDone cfg w) w.bag kn.reports.done (to_app w.fence (Done a m.0)) m.1 w.fence a m.0 refl acc.1) in
        let over = named-not-over (newest cfg w).asked (newest cfg w).ended a.task a ((kn.honest.steady w.fence (omega arith)).named a acc.0 acc.1) in
        calls-free cfg w e kn n k m s.0 s.1 s.2 s.4 (subst (λ (z : Attempt). (is_reduce z) ≡ true) (sym s.3) acc.1) s.5 (subst (λ z. Rattle.mr_world_model.specs.Hearing.is_over (newest cfg w).ended z ≡ false) (sym s.3) over) (sym v.2 ∙ ap (λ (z : Attempt). z.task) (sym s.3))

-- so while a commit merges, no container reaches the directories that are still to be merged
pub merge-away : (cfg : Config) (w : World) (e : Event) (kn : Known cfg w) (n : not_now cfg w e ≡ None) (k : Calls cfg w e) (t : TaskId) (a : Attempt) → winner w t ≡ Some a → AwayFrom k.op (committed w.fence t)
merge-away cfg w e kn n k t a q = calls-away cfg w e kn n k (committed w.fence t) (attempt_from_committed k.who.app w.fence k.place.attempt t)
    (λ m. committed_other k.who.app w.fence k.place.attempt.task t (λ u v. won-free cfg w e kn n k m a (subst (λ z. winner w z ≡ Some a) (sym v) q)))
