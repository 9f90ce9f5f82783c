-- Where no node is given up no bar is due, so that no attempt is barred.
use Rattle.std.proofs.Common.{ℕ, zero, suc, ◌≡◌, refl, sym, ◌∙◌, ap, subst, Bool, true, false, ◌&&◌, not, List, [], ◌∷◌, Option, Some, None, if◌then◌else◌, is_some, nat_eq, nat_lt, nat_le, slice_get}
use Rattle.mr_world_model.specs.Ids.{Attempt, ContainerId, is_reduce}
use Rattle.mr_world_model.specs.Content.{Op, bar_of}
use Rattle.mr_world_model.specs.Records.{Record}
use Rattle.mr_world_model.specs.Packets.{Config, Packet, Store, Reply, Names, Append_record, Flush, Read_history}
use Rattle.mr_world_model.specs.Pasts.{Place, Step, Wish, To_mkdirs, To_create, To_write, To_close, To_need, To_look, To_clear, To_rename, To_abort, computed, wished_op}
use Rattle.mr_world_model.specs.Hearing.{Seen, Phase, Launched, Opening, Setting_up, Recovering, Running, Committing, Failing, Finished, Stopped, Recover_step, Measure, Look_below, Clear_own, Move_from, Todo_winner, Commit_step, List_job, Merging, Cleaning, Marking, Succeeding, Failing_mark, Aborting, Merge_step, Look_at, List_into, Delete_then, Move_to, after_bar, after_end, after_ended, can_hear, end_there, ended_by, failures, find_container, find_launched, has, heard, is_live, is_running, is_won, may_accept, only_known, over_with}
use Rattle.mr_world_model.specs.Duties.{Master_step, Came, Launches, Expires, Asks, all_won, commit_call, duty_of, is_fine, is_read, mark_at, merge_call, next_seen, seen, phase_told, record_call, recover_call, told, wants_flush, with_phase, with_read, worked}
use Rattle.mr_world_model.specs.World.{World, Event, Start, Crash, Duty, LaunchOn, Deliver, ContainerStep, Compute, Die, NodeRestart, Expire, Weather, Master_act, barred_left, call_of, caller_of, duty, duty_act, duty_made, is_applied, is_stopped, launch_of, master_act, op_at, op_made, op_of, opening_world, reply_of, reply_under, seen_by, unless_stopped}
use Rattle.mr_world_model.specs.Effect.{barred_after, effect}
use Rattle.mr_world_model.proofs.Basic.{if_cases}
use Rattle.mr_world_model.proofs.Allowed.{seen_after}
use Rattle.mr_world_model.proofs.Told.{came_act-is}

-- The bars that are due change by an expiry alone

abbrev Due : List Attempt → Seen → Type 0
Due bs s = s.bars ≡ bs

abbrev IsNoExpiry : Master_step → Type 0
IsNoExpiry (Came p) = Unit {0}
IsNoExpiry (Launches l) = Unit {0}
IsNoExpiry (Expires n) = ⊥
IsNoExpiry (Asks call r) = Unit {0}

module _ (cfg : Config) (bs : List Attempt) where
  ended-due : (s : Seen) (a : Attempt) (f : Bool) → Due bs s → Due bs (ended_by cfg s a f)
  ended-due s a false o = o
  ended-due s a true o = if_cases (Due bs) (nat_le cfg.limit (failures (over_with s a true) a) && not (is_won s (is_reduce a) a.task)) _ _ (λ t. o) (λ t. o)

  end-due : (s : Seen) (a : Attempt) (f : Bool) → Due bs s → Due bs (after_end cfg s a f)
  end-due s a f o = if_cases (Due bs) (is_live s a) _ _ (λ t. ended-due s a f o) (λ t. o)

  after_ended-due : (s : Seen) (d : ContainerId) (l : Option Launched) → Due bs s → Due bs (after_ended cfg s d l)
  after_ended-due s d None o = o
  after_ended-due s d (Some l) o = end-due s _ _ o

  there-due : (n i : ℕ) (ls : List Launched) (s : Seen) → Due bs s → Due bs (end_there n i ls s)
  there-due n i [] s o = o
  there-due n i (l ∷ ls) s o = if_cases (Due bs) (nat_eq l.node n && (nat_lt l.incarnation i && is_live s l.attempt)) _ _ (λ t. there-due n i ls _ o) (λ t. there-due n i ls s o)

  bar-due : (s : Seen) (m : Option Attempt) → Due bs s → Due bs (after_bar s m)
  bar-due s None o = o
  bar-due s (Some a) o = if_cases (Due bs) (is_live s a) _ _ (λ t. o) (λ t. o)

  heard-due : (s : Seen) (p : Packet) → Due bs s → Due bs (heard cfg s p)
  unfolding heard
  heard-due s (Packet.Pending b) o = if_cases (Due bs) (is_some (find_launched s.launched b) && not (has s.asked b)) _ _ (λ t. o) (λ t. o)
  heard-due s (Packet.Poll b) o = if_cases (Due bs) (is_some (find_launched s.launched b) && not (has s.asked b)) _ _ (λ t. o) (λ t. o)
  heard-due s (Packet.Done b z) o = if_cases (Due bs) (may_accept s b) _ _ (λ t. o) (λ t. o)
  heard-due s (Packet.Failed b) o = end-due s b true o
  heard-due s (Packet.Ended d) o = after_ended-due s d _ o
  heard-due s (Packet.NodeUp m i) o = if_cases (Due bs) (nat_lt (s.known m) i) _ _ (λ t. there-due m i s.launched _ o) (λ t. o)
  heard-due s (Packet.FetchLost d b) o = if_cases (Due bs) (is_some (find_container s.launched d) && has s.recorded b) _ _ (λ t. o) (λ t. o)
  heard-due s (Packet.Where d m) o = o
  heard-due s _ o = o

  known-due : (s : Seen) (p : Packet) → Due bs s → Due bs (only_known s p)
  known-due s (Packet.NodeUp m i) o = if_cases (Due bs) (can_hear s.phase && nat_lt (s.known m) i) _ _ (λ t. o) (λ t. o)
  known-due s _ o = o

  worked-due : (s : Seen) (call : Store) → Due bs s → Due bs (worked s call)
  worked-due s (Append_record r) o = o
  worked-due s Flush o = o
  worked-due s (Names op) o = bar-due s (bar_of op) o
  worked-due s Read_history o = o

  phased-due : (s : Seen) (p : Phase) → Due bs s → Due bs (with_phase p s)
  phased-due s p o = if_cases (Due bs) (is_running p && not (is_running s.phase)) _ _ (λ t. o) (λ t. o)

  read-due : (s : Seen) (call : Store) (r : Reply) → Due bs s → Due bs (with_read cfg s call r)
  read-due s call r o = if_cases (Due bs) (is_read call) _ _ (λ t. o) (λ t. o)

  next-due : (k : ℕ) (s : Seen) (x : Master_step) → IsNoExpiry x → Due bs s → Due bs (next_seen cfg k s x)
  unfolding next_seen told
  next-due k s (Came p) u o = if_cases (Due bs) (is_running s.phase) _ _ (λ t. heard-due s p o) (λ t. known-due s p o)
  next-due k s (Launches l) u o = o
  next-due k s (Expires n) u o = absurd u
  next-due k s (Asks call r) u o = phased-due (with_read cfg (if is_fine r then worked s call else s) call r) (phase_told k s s.phase call r)
      (read-due (if is_fine r then worked s call else s) call r (if_cases (Due bs) (is_fine r) _ _ (λ t. worked-due s call o) (λ t. o)))

-- Where no bar is due, no duty bars

abbrev pub BarsNone : Option Store → Type 0
BarsNone None = Unit {0}
BarsNone (Some (Names op)) = bar_of op ≡ None
BarsNone (Some (Append_record r)) = Unit {0}
BarsNone (Some Flush) = Unit {0}
BarsNone (Some Read_history) = Unit {0}

mark-none : (n : ℕ) → BarsNone (Some (mark_at n))
mark-none zero = refl
mark-none (suc zero) = refl
mark-none (suc (suc zero)) = refl
mark-none (suc (suc (suc n))) = tt

record-none : (due tail : List Record) (o : Option Store) → BarsNone o → BarsNone (record_call due tail o)
record-none (r ∷ due) tail o l = tt
record-none [] tail o l = if_cases BarsNone (wants_flush tail) _ _ (λ t. tt) (λ t. l)

recover-none : (k : ℕ) (ws : List Todo_winner) (at : Recover_step) → BarsNone (recover_call k ws at)
recover-none k [] at = tt
recover-none k (x ∷ ws) (Look_below j) = refl
recover-none k (x ∷ ws) (Measure j) = refl
recover-none k (x ∷ ws) (Clear_own j) = refl
recover-none k (x ∷ ws) (Move_from j) = refl

merge-none : (ms : List Merge_step) → BarsNone (merge_call ms)
merge-none [] = tt
merge-none (Look_at f t d ∷ ms) = refl
merge-none (List_into f t ∷ ms) = refl
merge-none (Delete_then f t ∷ ms) = refl
merge-none (Move_to f t ∷ ms) = refl

commit-none : (k : ℕ) (at : Commit_step) → BarsNone (commit_call k at)
commit-none k List_job = refl
commit-none k (Merging ms) = merge-none ms
commit-none k Cleaning = refl
commit-none k Marking = refl
commit-none k Succeeding = refl
commit-none k Failing_mark = refl
commit-none k Aborting = refl

duty-none : (cfg : Config) (k : ℕ) (s : Seen) (p : Phase) → s.bars ≡ [] → BarsNone (duty_of cfg k s p)
unfolding duty_of
duty-none cfg k s (Opening n) b = mark-none n
duty-none cfg k s Setting_up b = refl
duty-none cfg k s (Recovering ws at) b = recover-none k ws at
duty-none cfg k s Running b = rw b (record-none s.due s.tail _ (if_cases BarsNone (all_won s.recorded s.winners cfg.job cfg.reduces) _ _ (λ t. refl) (λ t. tt)))
duty-none cfg k s (Failing f) b = record-none s.due s.tail _ (if_cases BarsNone f _ _ (λ t. refl) (λ t. tt))
duty-none cfg k s (Committing at) b = commit-none k at
duty-none cfg k s (Finished d) b = tt
duty-none cfg k s Stopped b = tt

-- no container bars
wish-none : (k : ℕ) (a : Attempt) (bytes : List ℕ) (v : Wish) (op : Op) → wished_op k a bytes v ≡ Some op → bar_of op ≡ None
unfolding wished_op
wish-none k a bytes To_mkdirs op q = cc
wish-none k a bytes To_create op q = cc
wish-none k a bytes To_write op q = cc
wish-none k a bytes To_close op q = cc
wish-none k a bytes To_need op q = cc
wish-none k a bytes To_look op q = cc
wish-none k a bytes To_clear op q = cc
wish-none k a bytes To_rename op q = cc
wish-none k a bytes To_abort op q = cc
wish-none k a bytes _ op q = cc

pub op-none : (cfg : Config) (c : ContainerId) (p : Option Place) (h : List Step) (op : Op) → op_at cfg c p h ≡ Some op → bar_of op ≡ None
op-none cfg c None h op q = cc
op-none cfg c (Some p) h op q = wish-none c.app p.attempt (computed h) _ op q

-- The bars of a world

pub record Unbarred (cfg : Config) (w : World) : Type 0 where
  pub due : (k : ℕ) → (seen_by cfg w k).bars ≡ []
  pub none : w.barred ≡ []

abbrev pub gives_up : Event → Bool
gives_up (Expire k n) = true
gives_up _ = false

duty-step : (w : World) (k : ℕ) (g : Weather) (o : Option Store) (a : Master_act) → duty_act w k g o ≡ Some a → IsNoExpiry a.step
duty-step w k g None a q = cc
duty-step w k g (Some call) a q = let x : record { who = k; step = Asks call (reply_under g (reply_of w k call)) } ≡ a = cc in subst (λ (z : Master_act). IsNoExpiry z.step) x tt

step-of : (cfg : Config) (w : World) (e : Event) → gives_up e ≡ false → (a : Master_act) → master_act cfg w e ≡ Some a → IsNoExpiry a.step
unfolding master_act
step-of cfg w (Duty k g) n a q = duty-step w k g (duty cfg w k) a q
step-of cfg w (LaunchOn k t m) n a q = let x : record { who = k; step = Launches (launch_of k (seen_by cfg w k) t m) } ≡ a = cc in subst (λ (z : Master_act). IsNoExpiry z.step) x tt
step-of cfg w (Deliver i) n a q = let p = came_act-is (slice_get w.bag i) a q in subst IsNoExpiry (sym p.1) tt
step-of cfg w (Expire k m) n a q = cc
step-of cfg w (Start k kept) n a q = cc
step-of cfg w (Crash k kept) n a q = cc
step-of cfg w (ContainerStep c g) n a q = cc
step-of cfg w (Compute c b) n a q = cc
step-of cfg w (Die c) n a q = cc
step-of cfg w (NodeRestart m) n a q = cc

left-none : (call : Store) → BarsNone (Some call) → barred_left [] call ≡ []
left-none (Names op) b = rw b refl
left-none (Append_record r) b = refl
left-none Flush b = refl
left-none Read_history b = refl

made-none : (w : World) (k : ℕ) (f : Weather) (call : Store) → w.barred ≡ [] → BarsNone (Some call) → barred_after w (Some (record { app = k; call = call; fault = f })) ≡ []
made-none w k f call n b = if_cases (λ z. z ≡ []) (is_applied w k f) _ _ (λ t. ap (λ z. barred_left z call) n ∙ left-none call b) (λ t. n)

by-duty : (w : World) (k : ℕ) (f : Weather) (o : Option Store) → w.barred ≡ [] → BarsNone o → barred_after w (duty_made k f o) ≡ []
by-duty w k f None n b = n
by-duty w k f (Some call) n b = made-none w k f call n b

by-step : (w : World) (k : ℕ) (f : Weather) (t : Bool) (o : Option Op) → w.barred ≡ [] → ((op : Op) → o ≡ Some op → bar_of op ≡ None) → barred_after w (unless_stopped t (op_made k f o)) ≡ []
by-step w k f true o n b = n
by-step w k f false None n b = n
by-step w k f false (Some op) n b = made-none w k f (Names op) n (b op refl)

barred-none : (cfg : Config) (w : World) (e : Event) → Unbarred cfg w → barred_after w (call_of cfg w e) ≡ []
unfolding call_of
barred-none cfg w (Duty k f) h = by-duty w k f (duty cfg w k) h.none (duty-none cfg k (seen_by cfg w k) (seen_by cfg w k).phase (h.due k))
barred-none cfg w (ContainerStep c f) h = by-step w c.app f (is_stopped w (caller_of w c)) (op_of cfg w c) h.none (op-none cfg c (w.place c) (w.container_past c))
barred-none cfg w (Start k kept) h = h.none
barred-none cfg w (Crash k kept) h = h.none
barred-none cfg w (LaunchOn k t n) h = h.none
barred-none cfg w (Deliver i) h = h.none
barred-none cfg w (Compute c b) h = h.none
barred-none cfg w (Die c) h = h.none
barred-none cfg w (NodeRestart n) h = h.none
barred-none cfg w (Expire k n) h = h.none

pub unbarred : (cfg : Config) (w : World) (e : Event) → gives_up e ≡ false → Unbarred cfg w → Unbarred cfg (effect cfg w e)
unbarred cfg w e g h = record {
  due = λ k. seen_after (Due []) cfg w (master_act cfg w e) k (h.due k) (λ a q m. next-due cfg [] k (seen_by cfg w k) a.step (step-of cfg w e g a q) (h.due k));
  none = barred-none cfg w e h;
}

pub opening-unbarred : (cfg : Config) → Unbarred cfg opening_world
unfolding seen
opening-unbarred cfg = record { due = λ k. refl; none = refl }
