-- A master gives a node up: when it can, and what the parts stand for then.
use Rattle.std.proofs.Common.{◌≡◌, ℕ, ◌+◌, refl, sym, ◌∙◌, ap, subst, Bool, true, false, List, ◌++◌, Option, Some, None, is_some, length, arith}
use Rattle.std.specs.Prelude.{unwrap_or}
use Rattle.mr_packet.specs.Bag.{Held}
use Rattle.mr_packet.specs.declared.packet.Envelope.{Envelope}
use Rattle.mr_master_model.specs.declared.phase.LaunchFault.{LaunchFault}
use Rattle.mr_master_model.specs.Past as machine
use Rattle.mr_master_model.specs.Readings as read
use Rattle.mr_master_model.specs.Next as next
use Rattle.mr_master.specs.Prepared.{Prepared}
use Rattle.mr_master.specs.State as master
use Rattle.mr_world_model.specs.Packets.{Config}
use Rattle.mr_world_model.specs.Duties.{Expires}
use Rattle.mr_world_model.specs.World.{World, Expire, call_of, seen_by}
use Rattle.mr_world_model.specs.Effect.{effect, not_now, NoMaster, NotRunning, NoNode, Why, unless}
use Rattle.mr_world_model.specs.Sending.{sent}
use Rattle.mr_world_model.proofs.Stored.{stores_go_on}
use Rattle.mr_master_refinement.specs.Steps.{setting, steps}
use Rattle.mr_master_refinement.specs.Points.{refusal_as, expire_why}
use Rattle.mr_master_refinement.proofs.Stores.{masters_go_on, masters_send}
use Rattle.mr_world_state.specs.declared.fault.WorldFault.TheVariants as fault
use Rattle.mr_world_state.proofs.Launching.{reason}
use Rattle.mr_world_state.specs.declared.masters.Masters.{Masters}
use Rattle.mr_world_state.specs.declared.parts.Parts.{Parts}
use Rattle.mr_world_state.specs.Machines.{master_of}
use Rattle.mr_world_state.specs.inner.Masters.{Returns}
use Rattle.mr_world_state.specs.inner.Reasons.{why_of}
use Rattle.mr_world_state.specs.Limits.{within, fits_bag, launch_count}
use Rattle.mr_world_state.specs.Standing.{Standing, Reached, IsTaken, RefusesEvent}
use Rattle.mr_world_state.proofs.Refusals.{NeedsRoom, refuses-now}
use Rattle.mr_world_state.proofs.Mastering.{goes-on, not-kept, is-generation}
use Rattle.mr_world_state.proofs.Stepping.{agrees, masters-step, other-steps, launches-add}

-- ---- when it can

no-reason : (a d : Bool) → refusal_as (unless a NotRunning (unless d NoNode None)) ≡ None → unless a NotRunning (unless d NoNode None) ≡ None
no-reason false d e = cc
no-reason true false e = cc
no-reason true true e = refl

not-alive : (cfg : Config) (w : World) (k n : ℕ) → w.is_master k ≡ false → not_now cfg w (Expire k n) ≡ Some NoMaster
unfolding not_now
not-alive cfg w k n e = rw e refl

alive : (cfg : Config) (w : World) (k n : ℕ) → w.is_master k ≡ true → not_now cfg w (Expire k n) ≡ expire_why cfg (seen_by cfg w k) n
unfolding not_now
alive cfg w k n e = rw e refl

pub dead : (p : Parts) (k n : ℕ) → is_some (master_of p.masters k) ≡ false → (w : World) → Standing p w → RefusesEvent p.config w (Expire k n) (fault.NotNow NoMaster)
dead p k n e w s = refuses-now _ _ (not-alive p.config w k n (not-kept p k e w s))

-- what the machine answers
abbrev pub Asked : Parts → ℕ → ℕ → master.Master → Option LaunchFault → Type 0
Asked p k n m o = (master_of p.masters k ≡ Some m) × master.Answers m (λ w past. read.expire_refusal w (next.seen w past) n) o

asked : (p : Parts) (k n : ℕ) (m : master.Master) (o : Option LaunchFault) → Asked p k n m o → (w : World) → Standing p w → o ≡ refusal_as (expire_why p.config (seen_by p.config w k) n)
asked p k n m o a w s = a.1 (setting p.config k) (steps (w.master_past k)) (s.masters.machines k m a.0) ∙ (agrees k s.reached).point.expiry n

lives : (p : Parts) (k : ℕ) (m : master.Master) (w : World) → Standing p w → master_of p.masters k ≡ Some m → w.is_master k ≡ true
lives p k m w s at = sym (s.masters.alive k) ∙ ap is_some at

pub refused : (p : Parts) (k n : ℕ) (m : master.Master) (o : Option LaunchFault) (f : LaunchFault) (y : Why) → Asked p k n m o → o ≡ Some f → y ≡ why_of f → (w : World) → Standing p w
    → RefusesEvent p.config w (Expire k n) (fault.NotNow y)
refused p k n m o f y a e is w s = refuses-now _ _ (alive p.config w k n (lives p k m w s a.0) ∙ (reason _ f (sym (asked p k n m o a w s) ∙ e) ∙ ap Some (sym is)))

pub allowed : (p : Parts) (k n : ℕ) (m : master.Master) (o : Option LaunchFault) → Asked p k n m o → o ≡ None → (w : World) → Standing p w → not_now p.config w (Expire k n) ≡ None
allowed p k n m o a e w s = alive p.config w k n (lives p k m w s a.0) ∙ no-reason _ _ (sym (asked p k n m o a w s) ∙ e)

-- a machine that refuses no expiry has memory alone to answer
pub only-memory : (m : master.Master) (n : ℕ) (o : Option LaunchFault) (f wanting : LaunchFault) → master.StandsForSome m → master.Answers m (λ w past. read.expire_refusal w (next.seen w past) n) o → o ≡ None
    → master.Answers m (λ w past. unwrap_or (read.expire_refusal w (next.seen w past) n) wanting) f → f ≡ wanting
only-memory m n o f wanting st asked none says =
    says m.setting st.0 st.1 ∙ ap (λ (r : Option LaunchFault). unwrap_or r wanting) (sym (asked m.setting st.0 st.1) ∙ none)

limit-is : (cfg : Config) (w : World) (k n : ℕ) → within cfg w (Expire k n) ≡ fits_bag cfg w (Expire k n)
unfolding within call_of
limit-is cfg w k n = refl

says : (cfg : Config) (w : World) (k n : ℕ) → Reached cfg w → not_now cfg w (Expire k n) ≡ None → next.sent (setting cfg k) (steps (w.master_past k)) (machine.Expires n) ≡ sent cfg w (Expire k n)
says cfg w k n r = subst (λ u. not_now cfg u (Expire k n) ≡ None → next.sent (setting cfg k) (steps (u.master_past k)) (machine.Expires n) ≡ sent cfg u (Expire k n)) r.is
    (masters_send.expires cfg (within cfg) r.events k n)

sends-these : (p : Parts) (k n : ℕ) (m : master.Master) (packets : List Envelope) → master_of p.masters k ≡ Some m → master.Answers m (λ w past. next.sent w past (machine.Expires n)) packets
    → (w : World) → Standing p w → not_now p.config w (Expire k n) ≡ None → packets ≡ sent p.config w (Expire k n)
sends-these p k n m packets at told w s now = told (setting p.config k) (steps (w.master_past k)) (s.masters.machines k m at) ∙ says p.config w k n s.reached now

pub needs : (p : Parts) (k n : ℕ) (m : master.Master) (o : Option LaunchFault) (packets : List Envelope) → Asked p k n m o → o ≡ None → master.Answers m (λ w past. next.sent w past (machine.Expires n)) packets
    → (w : World) → Standing p w → NeedsRoom p w (Expire k n) (length packets)
needs p k n m o packets a e told w s = let now = allowed p k n m o a e w s in record { now = now; limit = limit-is p.config w k n; count = ap length (sym (sends-these p k n m packets a.0 told w s now)) }

-- ---- what stands then

pub acted : (p : Parts) (w : World) (k n : ℕ) (masters : Masters) (bag : Held) (before m : master.Master) (packets : List Envelope) → Standing p w → IsTaken p.config w (Expire k n) → master_of p.masters k ≡ Some before
    → Returns p.masters k m masters → master.Stands before (machine.Expires n) m → master.Answers before (λ w past. next.sent w past (machine.Expires n)) packets → bag.packets ≡ p.bag.packets ++ packets
    → Standing (record p { masters = masters; bag = bag }) (effect p.config w (Expire k n))
acted p w k n masters bag before m packets s taken at back step told b =
    let moves = masters_go_on.expires p.config w k n in let of = is-generation p w k s (ap is_some at) in
    goes-on p w (Expire k n) p.names p.history bag masters p.launched s taken refl (stores_go_on.rests p.config w p.names p.history (Expire k n) s.stores refl)
    (masters-step p.config w (Expire k n) k (Expires n) p.masters masters before m s.masters at back refl moves step)
    (let same : launch_count (effect p.config w (Expire k n)) ≡ 0 + launch_count w = launches-add w.master_past (effect p.config w (Expire k n)).master_past k 0 of.0 moves.others (other-steps moves refl) 1000 of.1 in omega (arith, same, s.launched))
    (b ∙ ap (λ es. p.bag.packets ++ es) (sends-these p k n before packets at told w s taken.now))
