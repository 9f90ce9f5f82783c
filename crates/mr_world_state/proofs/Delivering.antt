-- Where there is no packet at a place of the bag, its delivery is refused so.
use Rattle.std.proofs.Common.{◌≡◌, ℕ, refl, subst, Option, Some, None, slice_get}
use Rattle.mr_packet.specs.declared.packet.Address.{Address}
use Rattle.mr_packet.specs.declared.packet.Address.TheVariants as address
use Rattle.mr_packet.specs.declared.packet.Envelope.{Envelope}
use Rattle.mr_world_model.specs.Packets.{Config}
use Rattle.mr_world_model.specs.World.{World, Deliver}
use Rattle.mr_world_model.specs.Effect.{not_now, NoPacket}
use Rattle.mr_world_state.specs.declared.deliver.Addressee.TheVariants.{Nobody}
use Rattle.mr_world_state.specs.declared.fault.WorldFault.TheVariants as fault
use Rattle.mr_world_state.specs.declared.parts.Parts.{Parts}
use Rattle.mr_world_state.specs.inner.Addressees.{named, whom}
use Rattle.mr_world_state.specs.Standing.{Standing, RefusesEvent}
use Rattle.mr_world_state.proofs.Refusals.{refuses-now}

somebody : (a : Address) → named a ≡ Nobody → ⊥
somebody (address.Master k) e = cc e
somebody (address.Container c) e = cc e
somebody (address.Node n) e = cc e

none-there : (o : Option Envelope) → whom o ≡ Nobody → o ≡ None
none-there None is = refl
none-there (Some e) is = absurd (somebody e.to is)

no-packet : (cfg : Config) (w : World) (i : ℕ) → slice_get w.bag i ≡ None → not_now cfg w (Deliver i) ≡ Some NoPacket
unfolding not_now
no-packet cfg w i e = rw e refl

pub refused : (p : Parts) (i : ℕ) → whom (slice_get p.bag.packets i) ≡ Nobody → (w : World) → Standing p w → RefusesEvent p.config w (Deliver i) (fault.NotNow NoPacket)
refused p i is w s = refuses-now _ _ (no-packet p.config w i (subst (λ es. slice_get es i ≡ None) s.bag (none-there (slice_get p.bag.packets i) is)))
