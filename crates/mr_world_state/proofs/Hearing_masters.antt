-- A packet is delivered to a master: when it can, and what the parts stand for then.
use Rattle.std.proofs.Common.{◌≡◌, ℕ, ◌+◌, refl, sym, ◌∙◌, ap, subst, true, false, ◌||◌, List, ◌++◌, Some, None, is_some, length, slice_get, arith}
use Rattle.mr_packet.specs.Bag.{Held}
use Rattle.mr_packet.specs.declared.packet.Envelope.{Envelope}
use Rattle.mr_master_model.specs.Past as machine
use Rattle.mr_master_model.specs.Next as next
use Rattle.mr_master.specs.Prepared.{Prepared, PlansFor}
use Rattle.mr_master.specs.State as master
use Rattle.mr_packet.specs.declared.packet.Packet.{Packet}
use Rattle.mr_packet.specs.declared.packet.Address.TheVariants.{Master}
use Rattle.mr_world_model.specs.Packets.{Config}
use Rattle.mr_world_model.proofs.Acts.{masters_act}
use Rattle.mr_world_model.specs.Duties.{Came}
use Rattle.mr_world_model.specs.World.{World, Deliver, call_of}
use Rattle.mr_world_model.specs.Effect.{effect, not_now, NoAddressee}
use Rattle.mr_world_model.specs.Sending.{sent}
use Rattle.mr_world_model.proofs.Stored.{stores_go_on}
use Rattle.mr_master_refinement.specs.Steps.{setting, steps}
use Rattle.mr_master_refinement.proofs.Stores.{masters_go_on, masters_send}
use Rattle.mr_world_state.specs.declared.fault.WorldFault.TheVariants as fault
use Rattle.mr_world_state.specs.declared.masters.Masters.{Masters}
use Rattle.mr_world_state.specs.declared.parts.Parts.{Parts}
use Rattle.mr_world_state.specs.Machines.{master_of}
use Rattle.mr_world_state.specs.inner.Masters.{Returns}
use Rattle.mr_world_state.specs.Limits.{within, fits_counted, goes_to_master, fits_bag, launch_count}
use Rattle.mr_world_state.specs.Standing.{Standing, Reached, IsTaken, IsTo, RefusesEvent}
use Rattle.mr_world_state.proofs.Refusals.{NeedsRoom, refuses-now}
use Rattle.mr_world_state.proofs.Mastering.{not-kept, is-generation}
use Rattle.mr_world_state.proofs.Frames.{reached-on, living-stay, nodes-stay}
use Rattle.mr_world_state.proofs.Stepping.{masters-step, other-steps, launches-add}

-- ---- when it can be

carried : (p : Parts) (w : World) (i k : ℕ) (b : Packet) → Standing p w → slice_get p.bag.packets i ≡ Some (record { to = Master k; body = b }) → slice_get w.bag i ≡ Some (record { to = Master k; body = b })
carried p w i k b s at = subst (λ es. slice_get es i ≡ Some (record { to = Master k; body = b })) s.bag at

not-alive : (cfg : Config) (w : World) (i k : ℕ) (b : Packet) → slice_get w.bag i ≡ Some (record { to = Master k; body = b }) → w.is_master k ≡ false → not_now cfg w (Deliver i) ≡ Some NoAddressee
unfolding not_now
not-alive cfg w i k b at e = rw (at, e) refl

alive : (cfg : Config) (w : World) (i k : ℕ) (b : Packet) → slice_get w.bag i ≡ Some (record { to = Master k; body = b }) → w.is_master k ≡ true → not_now cfg w (Deliver i) ≡ None
unfolding not_now
alive cfg w i k b at e = rw (at, e) refl

pub dead : (p : Parts) (i k : ℕ) → IsTo p i (Master k) → is_some (master_of p.masters k) ≡ false → (w : World) → Standing p w → RefusesEvent p.config w (Deliver i) (fault.NotNow NoAddressee)
dead p i k to e w s = refuses-now _ _ (not-alive p.config w i k to.0 (carried p w i k to.0 s to.1) (not-kept p k e w s))

pub allowed : (p : Parts) (i k : ℕ) (m : master.Master) → IsTo p i (Master k) → master_of p.masters k ≡ Some m → (w : World) → Standing p w → not_now p.config w (Deliver i) ≡ None
allowed p i k m to at w s = alive p.config w i k to.0 (carried p w i k to.0 s to.1) (sym (s.masters.alive k) ∙ ap is_some at)

-- what a master hears is a step of a master
pub of-master : (p : Parts) (w : World) (i k : ℕ) → Standing p w → IsTo p i (Master k) → fits_counted p.config w (Deliver i) ≡ true
of-master p w i k s to = ap (λ o. goes_to_master o || fits_bag p.config w (Deliver i)) (carried p w i k to.0 s to.1)

limit-is : (cfg : Config) (w : World) (i : ℕ) → within cfg w (Deliver i) ≡ fits_bag cfg w (Deliver i)
unfolding within call_of
limit-is cfg w i = refl

says : (cfg : Config) (w : World) (i k : ℕ) (b : Packet) → Reached cfg w → slice_get w.bag i ≡ Some (record { to = Master k; body = b }) → not_now cfg w (Deliver i) ≡ None
    → next.sent (setting cfg k) (steps (w.master_past k)) (machine.Hears b) ≡ sent cfg w (Deliver i)
says cfg w i k b r = subst (λ u. slice_get u.bag i ≡ Some (record { to = Master k; body = b }) → not_now cfg u (Deliver i) ≡ None → next.sent (setting cfg k) (steps (u.master_past k)) (machine.Hears b) ≡ sent cfg u (Deliver i)) r.is
    (λ c n. masters_send.hears cfg (within cfg) r.events i k (record { to = Master k; body = b }) c refl n)

-- what the machine says of the packet
abbrev pub Replies : Parts → ℕ → master.Master → List Envelope → Type 0
Replies p i m packets = (e : Envelope) → slice_get p.bag.packets i ≡ Some e → master.Answers m (λ w past. next.sent w past (machine.Hears e.body)) packets

-- what is planned tells it
pub replies : (p : Parts) (i : ℕ) (m : master.Master) (x : Prepared) → ((e : Envelope) → slice_get p.bag.packets i ≡ Some e → PlansFor m (machine.Hears e.body) x) → Replies p i m x.packets
replies p i m x plans e at w past stands = (plans e at).sent w (next.seen w past) stands

sends-these : (p : Parts) (i k : ℕ) (m : master.Master) (packets : List Envelope) (to : IsTo p i (Master k)) → master_of p.masters k ≡ Some m → Replies p i m packets → (w : World) → Standing p w → packets ≡ sent p.config w (Deliver i)
sends-these p i k m packets to at told w s = told (record { to = Master k; body = to.0 }) to.1 (setting p.config k) (steps (w.master_past k)) (s.masters.machines k m at)
    ∙ says p.config w i k to.0 s.reached (carried p w i k to.0 s to.1) (allowed p i k m to at w s)

pub needs : (p : Parts) (i k : ℕ) (m : master.Master) (packets : List Envelope) → IsTo p i (Master k) → master_of p.masters k ≡ Some m → Replies p i m packets → (w : World) → Standing p w → NeedsRoom p w (Deliver i) (length packets)
needs p i k m packets to at told w s = record { now = allowed p i k m to at w s; limit = limit-is p.config w i; count = ap length (sym (sends-these p i k m packets to at told w s)) }

-- ---- what stands then

pub acted : (p : Parts) (w : World) (i k : ℕ) (masters : Masters) (bag : Held) (before m : master.Master) (packets : List Envelope) → Standing p w → IsTaken p.config w (Deliver i) → (to : IsTo p i (Master k)) → master_of p.masters k ≡ Some before
    → Returns p.masters k m masters → master.Stands before (machine.Hears to.0) m → Replies p i before packets → bag.packets ≡ p.bag.packets ++ packets
    → Standing (record p { masters = masters; bag = bag }) (effect p.config w (Deliver i))
acted p w i k masters bag before m packets s taken to at back step told b =
    let is = carried p w i k to.0 s to.1 in let moves = masters_go_on.hears p.config w i k (record { to = Master k; body = to.0 }) is refl in let of = is-generation p w k s (ap is_some at) in record {
      reached = reached-on s.reached taken;
      dest = s.dest;
      stores = stores_go_on.rests p.config w p.names p.history (Deliver i) s.stores refl;
      bag = b ∙ (ap (λ es. p.bag.packets ++ es) (sends-these p i k before packets to at told w s) ∙ ap (λ es. es ++ sent p.config w (Deliver i)) s.bag);
      living = living-stay (masters_act.containers_told p.config w i k to.0 is) (λ c. refl) s.living;
      nodes = nodes-stay (masters_act.nodes_told p.config w i k to.0 is) (λ n. refl) s.nodes;
      masters = masters-step p.config w (Deliver i) k (Came to.0) p.masters masters before m s.masters at back refl moves step;
      launched = (let same : launch_count (effect p.config w (Deliver i)) ≡ 0 + launch_count w = launches-add w.master_past (effect p.config w (Deliver i)).master_past k 0 of.0 moves.others (other-steps moves refl) 1000 of.1 in omega (arith, same, s.launched));
    }
