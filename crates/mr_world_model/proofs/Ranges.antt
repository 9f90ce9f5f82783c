-- Each record that is due names an attempt that its master launched, on its node under its incarnation; and what is launched is a task of the job on one of its nodes.
use Rattle.std.proofs.Common.{ℕ, ◌≤◌, ◌<◌, ◌≡◌, refl, sym, ap, subst, Bool, true, false, ◌&&◌, not, List, [], ◌∷◌, ◌++◌, Option, Some, None, if◌then◌else◌, is_some, nat_eq, nat_lt, nat_le, ◌⊎◌, inl, inr, arith, slice_get}
use Rattle.std.proofs.lemmas.Bool.{and_parts, false≢true, ltb-true, eqb-true}
use Rattle.mr_world_model.specs.Ids.{Attempt, ContainerId, TaskKind, Map, Reduce, is_reduce, attempt_eq}
use Rattle.mr_world_model.specs.Content.{bar_of}
use Rattle.mr_world_model.specs.Records.{Record, AttemptStarted, MapSucceeded, ReduceSucceeded, AttemptFailed, JobUnsuccessful}
use Rattle.mr_world_model.specs.Packets.{Config, Packet, Store, Reply, Names, Append_record, Flush, Read_history, Master}
use Rattle.mr_world_model.specs.Pasts.{incarnation_of}
use Rattle.mr_world_model.specs.Hearing.{Seen, Launched, is_running, heard, only_known, after_end, after_ended, end_there, ended_by, over_with, has, find_launched, may_accept, is_live, is_won, failures, success_record, find_container, can_hear, know}
use Rattle.mr_world_model.specs.Duties.{Master_step, Came, Launches, Expires, Asks, seen, next_seen, told, worked, with_read, is_fine, is_read, phase_told, rest_of}
use Rattle.mr_world_model.specs.World.{World, Event, Start, Crash, Duty, LaunchOn, Deliver, ContainerStep, Compute, Die, NodeRestart, Expire, Master_act, master_act, duty_act, duty, seen_by, launch_of, opening_world, reply_of, reply_under, Weather}
use Rattle.mr_world_model.specs.Effect.{effect, not_now, is_task, tasks_of, task_fault, NoMaster, NotRunning, NoTask, NoNode}
use Rattle.mr_world_model.specs.Sending.{to_app}
use Rattle.mr_world_model.specs.Claims.{Limits, In, world_of}
use Rattle.mr_world_model.proofs.Basic.{if_cases, along, unless_parts}
use Rattle.mr_world_model.proofs.Names.{same_job-true}
use Rattle.mr_world_model.proofs.Lists.{Each, Each-append, Each-In, found_launched}
use Rattle.mr_world_model.proofs.Closed.{expired-by, bar-by}
use Rattle.mr_world_model.proofs.Allowed.{seen_after}
use Rattle.mr_world_model.proofs.Cluster.{PacketFits, EnvelopeFits, StepFits, step-fits, incarnation_after}
use Rattle.mr_world_model.proofs.Told.{came_act-is}
use Rattle.mr_world_model.proofs.Found.{Sure, sure, opening-sure}

-- what a record says of a launch
abbrev pub Says : Record → Launched → Type 0
Says (AttemptStarted a n) l = (l.attempt ≡ a) × (l.node ≡ n)
Says (MapSucceeded a n i) l = (l.attempt ≡ a) × (l.node ≡ n) × (l.incarnation ≡ i)
Says (ReduceSucceeded a z) l = l.attempt ≡ a
Says (AttemptFailed a) l = l.attempt ≡ a
Says JobUnsuccessful l = Unit {0}

-- a record names one of these launches, or nobody
abbrev pub NamesOne : List Launched → Record → Type 0
NamesOne ls r = (r ≡ JobUnsuccessful) ⊎ ((l : Launched) × In l ls × Says r l)

abbrev pub AllNamed : Seen → Type 0
AllNamed s = Each (NamesOne s.launched) s.due

more-named : (s : Seen) (rs : List Record) → Each (NamesOne s.launched) rs → AllNamed s → Each (NamesOne s.launched) (s.due ++ rs)
more-named s rs e o = Each-append (NamesOne s.launched) s.due rs o e

live-failed : (s : Seen) (a : Attempt) → is_live s a ≡ true → NamesOne s.launched (AttemptFailed a)
live-failed s a e = let f = found_launched s.launched a (and_parts _ _ e).0 in inr (f.0, f.1, f.2)

ended_by-named : (cfg : Config) (s : Seen) (a : Attempt) (f : Bool) → is_live s a ≡ true → AllNamed s → AllNamed (ended_by cfg s a f)
ended_by-named cfg s a false e o = o
ended_by-named cfg s a true e o = if_cases AllNamed (nat_le cfg.limit (failures (over_with s a true) a) && not (is_won s (is_reduce a) a.task)) _ _
    (λ t. more-named s (AttemptFailed a ∷ JobUnsuccessful ∷ []) (live-failed s a e, (inl refl, tt)) o) (λ t. more-named s (AttemptFailed a ∷ []) (live-failed s a e, tt) o)

after_end-named : (cfg : Config) (s : Seen) (a : Attempt) (f : Bool) → AllNamed s → AllNamed (after_end cfg s a f)
after_end-named cfg s a f o = if_cases AllNamed (is_live s a) _ _ (λ e. ended_by-named cfg s a f e o) (λ e. o)

after_ended-named : (cfg : Config) (s : Seen) (c : ContainerId) (l : Option Launched) → AllNamed s → AllNamed (after_ended cfg s c l)
after_ended-named cfg s c None o = o
after_ended-named cfg s c (Some l) o = after_end-named cfg s _ _ o

end_there-named : (n i : ℕ) (ls : List Launched) (s : Seen) → AllNamed s → AllNamed (end_there n i ls s)
end_there-named n i [] s o = o
end_there-named n i (l ∷ ls) s o = if_cases AllNamed (nat_eq l.node n && (nat_lt l.incarnation i && is_live s l.attempt)) _ _ (λ t. end_there-named n i ls _ o) (λ t. end_there-named n i ls s o)

pub found : (ls : List Launched) (a : Attempt) (l : Launched) → find_launched ls a ≡ Some l → In l ls × (l.attempt ≡ a)
found [] a l e = cc
found (m ∷ ls) a l e = by (attempt_eq a m.attempt) refl e (found ls a l)
  where
    by : (b : Bool) → attempt_eq a m.attempt ≡ b → (if b then Some m else find_launched ls a) ≡ Some l → (find_launched ls a ≡ Some l → In l ls × (l.attempt ≡ a)) → In l (m ∷ ls) × (l.attempt ≡ a)
    by true t q f = let g : m ≡ l = cc in (inl g, subst (λ (z : Launched). z.attempt ≡ a) g (sym (Rattle.mr_world_model.proofs.Lists.attempt_eq-true a m.attempt t)))
    by false t q f = let r = f q in (inr r.0, r.1)

success-named : (ls : List Launched) (a : Attempt) (z : Option ℕ) (o : Option Launched) → find_launched ls a ≡ o → is_some o ≡ true → NamesOne ls (success_record a z o)
success-named ls a z None e s = absurd (false≢true s)
success-named ls a z (Some l) e s = let f = found ls a l e in if_cases (NamesOne ls) (is_reduce a) _ _ (λ t. inr (l, f.0, f.1)) (λ t. inr (l, f.0, (f.1, refl, refl)))

heard-named : (cfg : Config) (s : Seen) (p : Packet) → AllNamed s → AllNamed (heard cfg s p)
unfolding heard
heard-named cfg s (Packet.Pending b) o = if_cases AllNamed (is_some (find_launched s.launched b) && not (has s.asked b)) _ _ (λ t. o) (λ t. o)
heard-named cfg s (Packet.Poll b) o = if_cases AllNamed (is_some (find_launched s.launched b) && not (has s.asked b)) _ _ (λ t. o) (λ t. o)
heard-named cfg s (Packet.Done b z) o = if_cases AllNamed (may_accept s b) _ _
    (λ t. more-named s (success_record b z (find_launched s.launched b) ∷ []) (success-named s.launched b z (find_launched s.launched b) refl (and_parts _ _ t).0, tt) o) (λ t. o)
heard-named cfg s (Packet.Failed b) o = after_end-named cfg s b true o
heard-named cfg s (Packet.Ended d) o = after_ended-named cfg s d _ o
heard-named cfg s (Packet.NodeUp m i) o = if_cases AllNamed (nat_lt (s.known m) i) _ _ (λ t. end_there-named m i s.launched _ o) (λ t. o)
heard-named cfg s (Packet.FetchLost d b) o = if_cases AllNamed (is_some (find_container s.launched d) && has s.recorded b) _ _ (λ t. o) (λ t. o)
heard-named cfg s (Packet.Where d m) o = o
heard-named cfg s _ o = o

known-named : (s : Seen) (p : Packet) → AllNamed s → AllNamed (only_known s p)
known-named s (Packet.NodeUp m i) o = if_cases AllNamed (can_hear s.phase && nat_lt (s.known m) i) _ _ (λ t. o) (λ t. o)
known-named s _ o = o

rest-named : (ls : List Launched) (rs : List Record) → Each (NamesOne ls) rs → Each (NamesOne ls) (rest_of rs)
rest-named ls [] o = o
rest-named ls (r ∷ rs) o = o.1

worked-named : (s : Seen) (call : Store) → AllNamed s → AllNamed (worked s call)
worked-named s (Append_record r) o = rest-named s.launched s.due o
worked-named s Flush o = o
worked-named s (Names op) o = bar-by AllNamed s (bar_of op) (λ a t ks. o) o
worked-named s Read_history o = o

told-named : (cfg : Config) (k : ℕ) (s : Seen) (call : Store) (r : Reply) → AllNamed s → AllNamed (told cfg k s call r)
unfolding told
told-named cfg k s call r o = if_cases AllNamed (is_running (phase_told k s s.phase call r) && not (is_running (with_read cfg (if is_fine r then worked s call else s) call r).phase)) _ _ (λ t. read) (λ t. read)
  where
    fine : AllNamed (if is_fine r then worked s call else s)
    fine = if_cases AllNamed (is_fine r) _ _ (λ t. worked-named s call o) (λ t. o)

    read : AllNamed (with_read cfg (if is_fine r then worked s call else s) call r)
    read = if_cases AllNamed (is_read call) _ _ (λ t. fine) (λ t. fine)

grow-named : (l : Launched) (ls : List Launched) (rs : List Record) → Each (NamesOne ls) rs → Each (NamesOne (l ∷ ls)) rs
grow-named l ls [] o = tt
grow-named l ls (r ∷ rs) o = (by o.0, grow-named l ls rs o.1)
  where
    by : NamesOne ls r → NamesOne (l ∷ ls) r
    by (inl e) = inl e
    by (inr x) = inr (x.0, inr x.1, x.2)

next-named : (cfg : Config) (k : ℕ) (s : Seen) (x : Master_step) → AllNamed s → AllNamed (next_seen cfg k s x)
unfolding next_seen
next-named cfg k s (Came p) o = if_cases AllNamed (is_running s.phase) _ _ (λ t. heard-named cfg s p o) (λ t. known-named s p o)
next-named cfg k s (Launches l) o = Each-append (NamesOne (l ∷ s.launched)) s.due (AttemptStarted l.attempt l.node ∷ []) (grow-named l s.launched s.due o) (inr (l, inl refl, (refl, refl)), tt)
next-named cfg k s (Expires n) o = expired-by AllNamed (λ u a t v. v) n s (λ st ks bs. o)
next-named cfg k s (Asks call r) o = told-named cfg k s call r o

-- What is known of a node's incarnation

abbrev pub Knows : World → Seen → Type 0
Knows w s = (n : ℕ) → s.known n ≤ incarnation_of (w.node_past n)

end_there-known : (n i : ℕ) (ls : List Launched) (s : Seen) → (end_there n i ls s).known ≡ s.known
end_there-known n i [] s = refl
end_there-known n i (l ∷ ls) s = if_cases (λ (x : Seen). x.known ≡ s.known) (nat_eq l.node n && (nat_lt l.incarnation i && is_live s l.attempt)) _ _ (λ t. end_there-known n i ls _) (λ t. end_there-known n i ls s)

know-knows : (w : World) (f : ℕ → ℕ) (n i : ℕ) → i ≤ incarnation_of (w.node_past n) → ((m : ℕ) → f m ≤ incarnation_of (w.node_past m)) → (m : ℕ) → know f n i m ≤ incarnation_of (w.node_past m)
know-knows w f n i u o m = if_cases (λ z. z ≤ incarnation_of (w.node_past m)) (nat_eq m n) _ _ (λ t. subst (λ z. i ≤ incarnation_of (w.node_past z)) (sym (eqb-true m n t)) u) (λ t. o m)

ended_by-known : (cfg : Config) (s : Seen) (a : Attempt) (f : Bool) → (ended_by cfg s a f).known ≡ s.known
ended_by-known cfg s a false = refl
ended_by-known cfg s a true = if_cases (λ (x : Seen). x.known ≡ s.known) (nat_le cfg.limit (failures (over_with s a true) a) && not (is_won s (is_reduce a) a.task)) _ _ (λ t. refl) (λ t. refl)

after_end-known : (cfg : Config) (s : Seen) (a : Attempt) (f : Bool) → (after_end cfg s a f).known ≡ s.known
after_end-known cfg s a f = if_cases (λ (x : Seen). x.known ≡ s.known) (is_live s a) _ _ (λ e. ended_by-known cfg s a f) (λ e. refl)

after_ended-known : (cfg : Config) (s : Seen) (c : ContainerId) (l : Option Launched) → (after_ended cfg s c l).known ≡ s.known
after_ended-known cfg s c None = refl
after_ended-known cfg s c (Some l) = after_end-known cfg s _ _

keeps-known : (w : World) (s u : Seen) → u.known ≡ s.known → Knows w s → Knows w u
keeps-known w s u e o n = subst (λ (f : ℕ → ℕ). f n ≤ incarnation_of (w.node_past n)) (sym e) (o n)

heard-knows : (cfg : Config) (w : World) (s : Seen) (p : Packet) → ((n i : ℕ) → p ≡ Packet.NodeUp n i → i ≤ incarnation_of (w.node_past n)) → Knows w s → Knows w (heard cfg s p)
unfolding heard
heard-knows cfg w s (Packet.Pending b) f o = if_cases (Knows w) (is_some (find_launched s.launched b) && not (has s.asked b)) _ _ (λ t. o) (λ t. o)
heard-knows cfg w s (Packet.Poll b) f o = if_cases (Knows w) (is_some (find_launched s.launched b) && not (has s.asked b)) _ _ (λ t. o) (λ t. o)
heard-knows cfg w s (Packet.Done b z) f o = if_cases (Knows w) (may_accept s b) _ _ (λ t. o) (λ t. o)
heard-knows cfg w s (Packet.Failed b) f o = keeps-known w s (after_end cfg s b true) (after_end-known cfg s b true) o
heard-knows cfg w s (Packet.Ended d) f o = keeps-known w s (after_ended cfg s d (find_container s.launched d)) (after_ended-known cfg s d (find_container s.launched d)) o
heard-knows cfg w s (Packet.NodeUp m i) f o = if_cases (Knows w) (nat_lt (s.known m) i) _ _ (λ t n. subst (λ (g : ℕ → ℕ). g n ≤ incarnation_of (w.node_past n)) (sym (end_there-known m i s.launched _)) (know-knows w s.known m i (f m i refl) o n)) (λ t. o)
heard-knows cfg w s (Packet.FetchLost d b) f o = if_cases (Knows w) (is_some (find_container s.launched d) && has s.recorded b) _ _ (λ t. o) (λ t. o)
heard-knows cfg w s (Packet.Where d m) f o = o
heard-knows cfg w s _ f o = o

only-knows : (w : World) (s : Seen) (p : Packet) → ((n i : ℕ) → p ≡ Packet.NodeUp n i → i ≤ incarnation_of (w.node_past n)) → Knows w s → Knows w (only_known s p)
only-knows w s (Packet.NodeUp m i) f o = if_cases (Knows w) (can_hear s.phase && nat_lt (s.known m) i) _ _ (λ t. know-knows w s.known m i (f m i refl) o) (λ t. o)
only-knows w s _ f o = o

worked-known : (s : Seen) (call : Store) → (worked s call).known ≡ s.known
worked-known s (Append_record r) = refl
worked-known s Flush = refl
worked-known s (Names op) = bar-by (λ (x : Seen). x.known ≡ s.known) s (bar_of op) (λ a t ks. refl) refl
worked-known s Read_history = refl

told-known : (cfg : Config) (k : ℕ) (s : Seen) (call : Store) (r : Reply) → (told cfg k s call r).known ≡ s.known
unfolding told
told-known cfg k s call r = if_cases (λ (x : Seen). x.known ≡ s.known) (is_running (phase_told k s s.phase call r) && not (is_running (with_read cfg (if is_fine r then worked s call else s) call r).phase)) _ _ (λ t. read) (λ t. read)
  where
    fine : (if is_fine r then worked s call else s).known ≡ s.known
    fine = if_cases (λ (x : Seen). x.known ≡ s.known) (is_fine r) _ _ (λ t. worked-known s call) (λ t. refl)

    read : (with_read cfg (if is_fine r then worked s call else s) call r).known ≡ s.known
    read = if_cases (λ (x : Seen). x.known ≡ s.known) (is_read call) _ _ (λ t. fine) (λ t. fine)

next-knows : (cfg : Config) (w : World) (k : ℕ) (s : Seen) (x : Master_step) → ((n i : ℕ) → x ≡ Came (Packet.NodeUp n i) → i ≤ incarnation_of (w.node_past n)) → Knows w s → Knows w (next_seen cfg k s x)
unfolding next_seen
next-knows cfg w k s (Came p) f o = if_cases (Knows w) (is_running s.phase) _ _ (λ t. heard-knows cfg w s p (λ n i e. f n i (ap Came e)) o) (λ t. only-knows w s p (λ n i e. f n i (ap Came e)) o)
next-knows cfg w k s (Launches l) f o = o
next-knows cfg w k s (Expires n) f o = expired-by (Knows w) (λ u a t v. v) n s (λ st ks bs. o)
next-knows cfg w k s (Asks call r) f o = keeps-known w s (told cfg k s call r) (told-known cfg k s call r) o

-- What is launched

pub record LaunchIn (cfg : Config) (w : World) (l : Launched) : Type 0 where
  pub job : l.attempt.task.job ≡ cfg.job
  pub number : l.attempt.task.number < tasks_of cfg l.attempt.task.kind
  pub node : l.node < cfg.nodes
  pub incarnation : l.incarnation ≤ incarnation_of (w.node_past l.node)

abbrev AllIn : Config → World → Seen → Type 0
AllIn cfg w s = (l : Launched) → In l s.launched → LaunchIn cfg w l

all-closed : (cfg : Config) (w : World) → Rattle.mr_world_model.proofs.Closed.Closed cfg (λ s l. LaunchIn cfg w l) (AllIn cfg w)
all-closed cfg w = record { asks = λ s a o. o; ends = λ s a f due p o. o; accepts = λ s a st due o. o; knows = λ s f ps o. o; calls = λ s p ws st rs ks h due tail o. o; launches = launches; expires = λ s ks bs o. o }
  where
    launches : (s : Seen) (l : Launched) (due : List Record) → LaunchIn cfg w l → AllIn cfg w s → (m : Launched) → In m (l ∷ s.launched) → LaunchIn cfg w m
    launches s l due u o m (inl e) = subst (LaunchIn cfg w) e u
    launches s l due u o m (inr i) = o m i

launch-in : (cfg : Config) (w : World) (k : ℕ) (t : Rattle.mr_world_model.specs.Ids.TaskId) (n : ℕ) → Knows w (seen_by cfg w k) → not_now cfg w (LaunchOn k t n) ≡ None → LaunchIn cfg w (launch_of k (seen_by cfg w k) t n)
unfolding not_now
launch-in cfg w k t n o q =
    let a = unless_parts (w.is_master k) NoMaster _ q in let b = unless_parts (is_running (seen_by cfg w k).phase) NotRunning _ a.1 in
    let c = unless_parts (is_task cfg t) NoTask _ b.1 in let d = unless_parts (nat_lt n cfg.nodes) NoNode (task_fault (seen_by cfg w k) t) c.1 in
    let p = and_parts _ _ c.0 in
    record { job = same_job-true t.job cfg.job p.0; number = ltb-true t.number (tasks_of cfg t.kind) p.1; node = ltb-true n cfg.nodes d.0; incarnation = o n }

-- Over every list

pub record Placed (cfg : Config) (w : World) : Type 0 where
  pub sures : Sure cfg w
  pub named : (k : ℕ) → AllNamed (seen_by cfg w k)
  pub knows : (k : ℕ) → Knows w (seen_by cfg w k)
  pub launched : (k : ℕ) → AllIn cfg w (seen_by cfg w k)

later-in : (cfg : Config) (w : World) (e : Event) (l : Launched) → LaunchIn cfg w l → LaunchIn cfg (effect cfg w e) l
later-in cfg w e l o = record { job = o.job; number = o.number; node = o.node; incarnation = let g = incarnation_after w e l.node in let h = o.incarnation in omega (arith, g, h) }

pub placed : (cfg : Config) (w : World) (e : Event) → Placed cfg w → not_now cfg w e ≡ None → Placed cfg (effect cfg w e)
unfolding master_act
placed cfg w e o n = record {
  sures = sure cfg w e o.sures n;
  named = λ k. seen_after AllNamed cfg w (master_act cfg w e) k (o.named k) (λ a q m. next-named cfg k (seen_by cfg w k) a.step (o.named k));
  knows = λ k m. let g = incarnation_after w e m in let h = knows k m in omega (arith, g, h);
  launched = λ k l i. later-in cfg w e l (launched k l i);
}
  where
    up : (k : ℕ) (x : Master_step) → StepFits cfg w k x → (m i : ℕ) → x ≡ Came (Packet.NodeUp m i) → i ≤ incarnation_of (w.node_past m)
    up k x f m i q = let j : In (to_app k (Packet.NodeUp m i)) w.bag = subst (StepFits cfg w k) q f in
        (let p : PacketFits cfg w (Master k) (Packet.NodeUp m i) = Each-In (EnvelopeFits cfg w) w.bag o.sures.known.cluster.packets _ j in p)

    knows : (k : ℕ) → Knows w (seen_by cfg (effect cfg w e) k)
    knows k = seen_after (Knows w) cfg w (master_act cfg w e) k (o.knows k)
        (λ a q m. next-knows cfg w k (seen_by cfg w k) a.step (up k a.step (subst (λ z. StepFits cfg w z a.step) m (step-fits cfg w e a q))) (o.knows k))

    fits : (k : ℕ) (a : Master_act) → master_act cfg w e ≡ Some a → a.who ≡ k → Rattle.mr_world_model.proofs.Closed.LaunchFits (λ s l. LaunchIn cfg w l) (seen_by cfg w k) a.step
    fits k a q m = by e n q
      where
        F : Master_step → Type 0
        F x = Rattle.mr_world_model.proofs.Closed.LaunchFits (λ s l. LaunchIn cfg w l) (seen_by cfg w k) x

        by-duty : (j : ℕ) (g : Weather) (d : Option Store) → duty_act w j g d ≡ Some a → F a.step
        by-duty j g None q = cc
        by-duty j g (Some call) q = let x : record { who = j; step = Asks call (reply_under g (reply_of w j call)) } ≡ a = cc in subst (λ (z : Master_act). F z.step) x tt

        by : (e : Event) → not_now cfg w e ≡ None → master_act cfg w e ≡ Some a → F a.step
        by (LaunchOn j t u) n q = let x : record { who = j; step = Launches (launch_of j (seen_by cfg w j) t u) } ≡ a = cc in subst (λ (z : Master_act). F z.step) x (launch-in cfg w j t u (o.knows j) n)
        by (Duty j g) n q = by-duty j g (duty cfg w j) q
        by (Deliver i) n q = let p = came_act-is (slice_get w.bag i) a q in subst F (sym p.1) tt
        by (Expire j u) n q = let x : record { who = j; step = Expires u } ≡ a = cc in subst (λ (z : Master_act). F z.step) x tt
        by (Start j kept) n q = cc
        by (Crash j kept) n q = cc
        by (ContainerStep c g) n q = cc
        by (Compute c b) n q = cc
        by (Die c) n q = cc
        by (NodeRestart u) n q = cc

    launched : (k : ℕ) → AllIn cfg w (seen_by cfg (effect cfg w e) k)
    launched k = seen_after (AllIn cfg w) cfg w (master_act cfg w e) k (o.launched k)
        (λ a q m. Rattle.mr_world_model.proofs.Closed.next-closed cfg (λ s l. LaunchIn cfg w l) (AllIn cfg w) (all-closed cfg w) k (seen_by cfg w k) a.step (fits k a q m) (o.launched k))

pub opening-placed : (cfg : Config) → Placed cfg opening_world
unfolding seen incarnation_of
opening-placed cfg = record { sures = opening-sure cfg; named = λ k. tt; knows = λ k n. omega arith; launched = λ k l i. absurd i }

pub always-placed : (cfg : Config) (within : Limits) (es : List Event) → Placed cfg (world_of cfg within es)
always-placed cfg within es = along (Placed cfg) cfg within (λ w e o n. placed cfg w e o n) opening_world es (opening-placed cfg)
