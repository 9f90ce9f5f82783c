-- A master launches: when it can, and what the parts stand for then.
use Rattle.std.proofs.Common.{◌≡◌, ◌≤◌, ◌<◌, ℕ, ◌+◌, refl, sym, ◌∙◌, ap, subst, Bool, true, false, ◌&&◌, [], ◌∷◌, ◌++◌, Option, Some, None, is_some, nat_lt, List, length, if◌then◌else◌, arith}
use Rattle.std.proofs.lemmas.Bool.{lt-ltb, le-ltb}
use Rattle.mr_ids.specs.declared.id.TaskId.{TaskId}
use Rattle.mr_packet.specs.Bag.{Held}
use Rattle.mr_packet.specs.declared.packet.Envelope.{Envelope}
use Rattle.mr_packet.specs.declared.bag.TheConstants.{MAX_PACKETS}
use Rattle.mr_master_model.specs.declared.phase.LaunchFault.{LaunchFault}
use Rattle.mr_master_model.specs.Past as machine
use Rattle.mr_master_model.specs.Readings as read
use Rattle.mr_master_model.specs.Next as next
use Rattle.mr_master.specs.Prepared.{Prepared, IsOne}
use Rattle.mr_master.specs.Refused.{LaunchError, MOST_CONTAINERS, error_of, launch_error}
use Rattle.mr_master.specs.State as master
use Rattle.mr_world_model.specs.Packets.{Config}
use Rattle.mr_world_model.specs.Duties.{Launches}
use Rattle.mr_world_model.specs.World.{World, LaunchOn, call_of, master_act, launch_of, seen_by}
use Rattle.std.specs.Option.{option_map}
use Rattle.mr_world_model.specs.Hearing.{Seen, is_running}
use Rattle.mr_world_model.specs.Effect.{effect, not_now, is_task, task_fault, NoMaster, NotRunning, NoTask, NoNode, Task, AlreadyWon, TooManyLive, TooManyAttempts, Why, unless}
use Rattle.mr_world_model.specs.Sending.{sent}
use Rattle.mr_world_model.proofs.Stored.{stores_go_on}
use Rattle.mr_master_refinement.specs.Steps.{setting, steps}
use Rattle.mr_master_refinement.specs.Points.{refusal_as, launch_why}
use Rattle.mr_master_refinement.proofs.Stores.{masters_go_on, masters_send}
use Rattle.mr_world_state.specs.declared.fault.WorldFault.TheVariants as fault
use Rattle.mr_world_state.specs.declared.limits.TheConstants.{MAX_CONTAINERS}
use Rattle.mr_world_state.specs.declared.masters.Masters.{Masters}
use Rattle.mr_world_state.specs.declared.parts.Parts.{Parts}
use Rattle.mr_world_state.specs.Machines.{master_of}
use Rattle.mr_world_state.specs.inner.Masters.{Returns}
use Rattle.mr_world_state.specs.inner.Reasons.{why_of}
use Rattle.mr_world_state.specs.Limits.{within, fits_bag, launch_count}
use Rattle.mr_world_state.specs.Standing.{Standing, Reached, IsTaken, RefusesEvent}
use Rattle.mr_world_state.proofs.Refusals.{NeedsRoom, refuses-now, refuses-full}
use Rattle.mr_world_state.proofs.Mastering.{goes-on, not-kept, is-generation}
use Rattle.mr_world_state.proofs.Stepping.{agrees, masters-step, one-launch, launches-add}
use Rattle.mr_world_state.proofs.Counting.{launched-among}

-- ---- reasons

pub reason : (o : Option Why) (f : LaunchFault) → refusal_as o ≡ Some f → o ≡ Some (why_of f)
reason (Some NotRunning) f e = subst (λ (z : Option LaunchFault). Some NotRunning ≡ option_map why_of z) e refl
reason (Some NoTask) f e = subst (λ (z : Option LaunchFault). Some NoTask ≡ option_map why_of z) e refl
reason (Some NoNode) f e = subst (λ (z : Option LaunchFault). Some NoNode ≡ option_map why_of z) e refl
reason (Some (Task t)) f e = subst (λ (z : Option LaunchFault). Some (Task t) ≡ option_map why_of z) e refl
reason _ f e = cc

no-task-reason : (b d g : Bool) → refusal_as (unless b (Task AlreadyWon) (unless d (Task TooManyLive) (unless g (Task TooManyAttempts) None))) ≡ None → unless b (Task AlreadyWon) (unless d (Task TooManyLive) (unless g (Task TooManyAttempts) None)) ≡ None
no-task-reason true true true e = refl
no-task-reason _ _ _ e = cc

no-own-reason : (a b d : Bool) (o : Option Why) → (refusal_as o ≡ None → o ≡ None) → refusal_as (unless a NotRunning (unless b NoTask (unless d NoNode o))) ≡ None → unless a NotRunning (unless b NoTask (unless d NoNode o)) ≡ None
no-own-reason true true true o rest e = rest e
no-own-reason _ _ _ o rest e = cc

no-reason : (cfg : Config) (s : Seen) (t : TaskId) (n : ℕ) → refusal_as (launch_why cfg s t n) ≡ None → launch_why cfg s t n ≡ None
no-reason cfg s t n e = no-own-reason (is_running s.phase) (is_task cfg t) (nat_lt n cfg.nodes) (task_fault s t) (no-task-reason _ _ _) e

-- ---- when it can

not-alive : (cfg : Config) (w : World) (k : ℕ) (t : TaskId) (n : ℕ) → w.is_master k ≡ false → not_now cfg w (LaunchOn k t n) ≡ Some NoMaster
unfolding not_now
not-alive cfg w k t n e = rw e refl

alive : (cfg : Config) (w : World) (k : ℕ) (t : TaskId) (n : ℕ) → w.is_master k ≡ true → not_now cfg w (LaunchOn k t n) ≡ launch_why cfg (seen_by cfg w k) t n
unfolding not_now
alive cfg w k t n e = rw e refl

pub dead : (p : Parts) (k : ℕ) (t : TaskId) (n : ℕ) → is_some (master_of p.masters k) ≡ false → (w : World) → Standing p w → RefusesEvent p.config w (LaunchOn k t n) (fault.NotNow NoMaster)
dead p k t n e w s = refuses-now _ _ (not-alive p.config w k t n (not-kept p k e w s))

-- what the machine answers
abbrev pub Asked : Parts → ℕ → TaskId → ℕ → master.Master → Option LaunchFault → Type 0
Asked p k t n m o = (master_of p.masters k ≡ Some m) × master.Answers m (λ w past. read.launch_refusal w (next.seen w past) t n) o

asked : (p : Parts) (k : ℕ) (t : TaskId) (n : ℕ) (m : master.Master) (o : Option LaunchFault) → Asked p k t n m o → (w : World) → Standing p w → o ≡ refusal_as (launch_why p.config (seen_by p.config w k) t n)
asked p k t n m o a w s = a.1 (setting p.config k) (steps (w.master_past k)) (s.masters.machines k m a.0) ∙ (agrees k s.reached).point.launch t n

lives : (p : Parts) (k : ℕ) (m : master.Master) (w : World) → Standing p w → master_of p.masters k ≡ Some m → w.is_master k ≡ true
lives p k m w s at = sym (s.masters.alive k) ∙ ap is_some at

pub refused : (p : Parts) (k : ℕ) (t : TaskId) (n : ℕ) (m : master.Master) (o : Option LaunchFault) (f : LaunchFault) (y : Why) → Asked p k t n m o → o ≡ Some f → y ≡ why_of f → (w : World) → Standing p w
    → RefusesEvent p.config w (LaunchOn k t n) (fault.NotNow y)
refused p k t n m o f y a e is w s = refuses-now _ _ (alive p.config w k t n (lives p k m w s a.0) ∙ (reason _ f (sym (asked p k t n m o a w s) ∙ e) ∙ ap Some (sym is)))

allowed : (p : Parts) (k : ℕ) (t : TaskId) (n : ℕ) (m : master.Master) (o : Option LaunchFault) → Asked p k t n m o → o ≡ None → (w : World) → Standing p w → not_now p.config w (LaunchOn k t n) ≡ None
allowed p k t n m o a e w s = alive p.config w k t n (lives p k m w s a.0) ∙ no-reason p.config (seen_by p.config w k) t n (sym (asked p k t n m o a w s) ∙ e)

limit-is : (cfg : Config) (w : World) (k : ℕ) (t : TaskId) (n : ℕ) → within cfg w (LaunchOn k t n) ≡ (nat_lt (launch_count w) MAX_CONTAINERS && fits_bag cfg w (LaunchOn k t n))
unfolding within call_of
limit-is cfg w k t n = refl

sends-one : (cfg : Config) (w : World) (k : ℕ) (t : TaskId) (n : ℕ) → length (sent cfg w (LaunchOn k t n)) ≡ 1
unfolding sent master_act
sends-one cfg w k t n = refl

-- its launches have numbers, so nothing is left to refuse one but memory
pub only-memory : (p : Parts) (k : ℕ) (t : TaskId) (n : ℕ) (m : master.Master) (o : Option LaunchFault) (e : LaunchError) → Asked p k t n m o → o ≡ None → p.launched < MAX_CONTAINERS
    → master.Answers m (λ w past. launch_error w (next.seen w past) t n) e → (w : World) → Standing p w → error_of None 0 ≡ e
only-memory p k t n m o e a none few says w s =
    let past = steps (w.master_past k) in let cfg = setting p.config k in let st = s.masters.machines k m a.0 in
    let of = is-generation p w k s (ap is_some a.0) in
    let among = launched-among cfg w.master_past k 1000 of.0 of.1 in
    let numbered : length (next.seen cfg past).launched < MOST_CONTAINERS = omega (arith, among, few, s.launched) in
    sym (says cfg past st ∙ ap (λ (r : Option LaunchFault). error_of r (length (next.seen cfg past).launched)) (sym (a.1 cfg past st) ∙ none) ∙ ap (λ (b : Bool). if b then error_of None 0 else error_of None MOST_CONTAINERS) (lt-ltb _ _ numbered))

pub full : (p : Parts) (k : ℕ) (t : TaskId) (n : ℕ) (m : master.Master) (o : Option LaunchFault) → Asked p k t n m o → o ≡ None → MAX_CONTAINERS ≤ p.launched → (w : World) → Standing p w
    → RefusesEvent p.config w (LaunchOn k t n) fault.Full
full p k t n m o a e many w s = refuses-full _ (allowed p k t n m o a e w s)
    (limit-is p.config w k t n ∙ ap (λ (b : Bool). b && fits_bag p.config w (LaunchOn k t n)) (le-ltb (launch_count w) MAX_CONTAINERS (subst (λ c. MAX_CONTAINERS ≤ c) s.launched many)))

pub needs : (p : Parts) (k : ℕ) (t : TaskId) (n : ℕ) (m : master.Master) (o : Option LaunchFault) → Asked p k t n m o → o ≡ None → p.launched < MAX_CONTAINERS → (w : World) → Standing p w → NeedsRoom p w (LaunchOn k t n) 1
needs p k t n m o a e few w s = record {
  now = allowed p k t n m o a e w s;
  limit = limit-is p.config w k t n ∙ ap (λ (b : Bool). b && fits_bag p.config w (LaunchOn k t n)) (lt-ltb (launch_count w) MAX_CONTAINERS (subst (λ c. c < MAX_CONTAINERS) s.launched few));
  count = sends-one p.config w k t n;
}

-- ---- what stands then

says : (cfg : Config) (w : World) (k : ℕ) (t : TaskId) (n : ℕ) → Reached cfg w → not_now cfg w (LaunchOn k t n) ≡ None → next.sent (setting cfg k) (steps (w.master_past k)) (machine.Launches t n) ≡ sent cfg w (LaunchOn k t n)
says cfg w k t n r = subst (λ u. not_now cfg u (LaunchOn k t n) ≡ None → next.sent (setting cfg k) (steps (u.master_past k)) (machine.Launches t n) ≡ sent cfg u (LaunchOn k t n)) r.is
    (masters_send.launches cfg (within cfg) r.events k t n)

pub stands : (p : Parts) (w : World) (k : ℕ) (t : TaskId) (n : ℕ) (masters : Masters) (bag : Held) (before m : master.Master) (packet : Envelope) → Standing p w → IsTaken p.config w (LaunchOn k t n)
    → master_of p.masters k ≡ Some before → Returns p.masters k m masters → master.Stands before (machine.Launches t n) m → master.Answers before (λ w past. next.sent w past (machine.Launches t n)) (packet ∷ [])
    → bag.packets ≡ p.bag.packets ++ packet ∷ [] → Standing (record p { masters = masters; bag = bag; launched = p.launched + 1 }) (effect p.config w (LaunchOn k t n))
stands p w k t n masters bag before m packet s taken at back step says-packet b =
    let moves = masters_go_on.launches p.config w k t n in let of = is-generation p w k s (ap is_some at) in
    goes-on p w (LaunchOn k t n) p.names p.history bag masters (p.launched + 1) s taken refl (stores_go_on.rests p.config w p.names p.history (LaunchOn k t n) s.stores refl)
    (masters-step p.config w (LaunchOn k t n) k (Launches (launch_of k (seen_by p.config w k) t n)) p.masters masters before m s.masters at back refl moves step)
    (let more : launch_count (effect p.config w (LaunchOn k t n)) ≡ 1 + launch_count w = launches-add w.master_past (effect p.config w (LaunchOn k t n)).master_past k 1 of.0 moves.others (one-launch moves) 1000 of.1 in omega (arith, more, s.launched))
    (b ∙ ap (λ es. p.bag.packets ++ es) (says-packet (setting p.config k) (steps (w.master_past k)) (s.masters.machines k before at) ∙ says p.config w k t n s.reached taken.now))

-- one packet finds the room that one packet finds
pub one-fits : (n : ℕ) (packets : List Envelope) → IsOne packets → n + 1 ≤ MAX_PACKETS → n + length packets ≤ MAX_PACKETS
one-fits n packets one room = let e : length packets ≡ 1 = ap (λ (es : List Envelope). length es) one.1 in omega (arith, e, room)
