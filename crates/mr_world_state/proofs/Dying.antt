-- A container dies: when it can, and what the parts stand for then.
use Rattle.std.proofs.Common.{◌≡◌, refl, sym, ◌∙◌, ap, true, false, [], ◌∷◌, ◌++◌, Some, None, is_some, length}
use Rattle.mr_packet.specs.Bag.{Held}
use Rattle.mr_packet.specs.Sends.{ended}
use Rattle.mr_world_model.specs.Ids.{ContainerId}
use Rattle.mr_world_model.specs.Packets.{Config}
use Rattle.mr_world_model.specs.World.{World, Die, call_of}
use Rattle.mr_world_model.specs.Effect.{effect, not_now, NoContainer}
use Rattle.mr_world_model.specs.Sending.{sent}
use Rattle.mr_world_model.proofs.Acts.{nodes_act}
use Rattle.mr_world_model.proofs.Stored.{stores_go_on}
use Rattle.mr_master_refinement.proofs.Stores.{masters_go_on}
use Rattle.mr_world_actors.specs.declared.living.Living.{Living}
use Rattle.mr_world_actors.specs.Living.{kept, Changes}
use Rattle.mr_world_state.specs.declared.fault.WorldFault.TheVariants as fault
use Rattle.mr_world_state.specs.declared.parts.Parts.{Parts}
use Rattle.mr_world_state.specs.Limits.{within, fits_bag}
use Rattle.mr_world_state.specs.Standing.{Standing, IsTaken, RefusesEvent}
use Rattle.mr_world_state.proofs.Refusals.{NeedsRoom, refuses-now}
use Rattle.mr_world_state.proofs.Frames.{rests, living-without, nodes-stay}

pub stands : (p : Parts) (w : World) (c : ContainerId) (living : Living) (bag : Held) → Standing p w → IsTaken p.config w (Die c)
    → Changes p.living c None living → bag.packets ≡ p.bag.packets ++ ended c ∷ [] → Standing (record p { living = living; bag = bag }) (effect p.config w (Die c))
stands p w c living bag s t l b = let d = nodes_act.dies p.config w c in
    rests p w (Die c) p.names living bag p.nodes s t refl (masters_go_on.rests p.config w (Die c) refl) (stores_go_on.rests p.config w p.names p.history (Die c) s.stores refl)
    (living-without c d.machines d.living l s.living) (nodes-stay d.nodes (λ n. refl) s.nodes) (b ∙ ap (λ es. p.bag.packets ++ es) (sym d.sends))

-- ---- when it can

not-alive : (cfg : Config) (w : World) (c : ContainerId) → w.is_alive c ≡ false → not_now cfg w (Die c) ≡ Some NoContainer
unfolding not_now
not-alive cfg w c e = rw e refl

allowed : (cfg : Config) (w : World) (c : ContainerId) → w.is_alive c ≡ true → not_now cfg w (Die c) ≡ None
unfolding not_now
allowed cfg w c e = rw e refl

limit-is : (cfg : Config) (w : World) (c : ContainerId) → within cfg w (Die c) ≡ fits_bag cfg w (Die c)
unfolding within call_of
limit-is cfg w c = refl

sends-one : (cfg : Config) (w : World) (c : ContainerId) → length (sent cfg w (Die c)) ≡ 1
unfolding sent
sends-one cfg w c = refl

pub refused : (p : Parts) (c : ContainerId) → is_some (kept p.living c) ≡ false → (w : World) → Standing p w → RefusesEvent p.config w (Die c) (fault.NotNow NoContainer)
refused p c e w s = refuses-now _ _ (not-alive p.config w c (sym (s.living.alive c) ∙ e))

pub needs : (p : Parts) (c : ContainerId) → is_some (kept p.living c) ≡ true → (w : World) → Standing p w → NeedsRoom p w (Die c) 1
needs p c e w s = record { now = allowed p.config w c (sym (s.living.alive c) ∙ e); limit = limit-is p.config w c; count = sends-one p.config w c }
