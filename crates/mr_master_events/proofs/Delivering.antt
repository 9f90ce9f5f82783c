-- A packet is delivered.
use Rattle.std.proofs.Common.{ℕ, ◌≡◌, refl, sym, ap, true, false, [], if◌then◌else◌}
use Rattle.mr_packet.specs.declared.packet.Packet.{Packet}
use Rattle.mr_packet.specs.declared.packet.Packet.TheVariants as packet
use Rattle.mr_master_model.specs.declared.setting.Setting.{Setting}
use Rattle.mr_master_model.specs.Past.{Hears}
use Rattle.mr_master_model.specs.Readings.{Seen, is_running, is_over}
use Rattle.mr_master_model.specs.Hearing.{heard, delivered, after_node_up}
use Rattle.mr_master_model.specs.Sends.{replies}
use Rattle.mr_master_model.specs.Next.{sent_by}

pub delivered-is : (w : Setting) (s : Seen) (p : Packet) → ((n i : ℕ) → p ≡ packet.NodeUp n i → ⊥) → delivered w s p ≡ (if is_running s.work then heard w s p else s)
unfolding delivered
delivered-is w s (packet.NodeUp n i) none = absurd (none n i refl)
delivered-is w s _ none = refl

pub node-up-is : (w : Setting) (s : Seen) (p : Packet) (n i : ℕ) → p ≡ packet.NodeUp n i → delivered w s p ≡ (if is_over s.work then s else after_node_up w s n i)
unfolding delivered
node-up-is w s p n i e = ap (λ (x : Packet). delivered w s x) e

pub quiet-is : (w : Setting) (s : Seen) (p : Packet) → is_running s.work ≡ false → [] ≡ sent_by w s (Hears p)
unfolding sent_by
quiet-is w s p e = ap (λ b. if b then replies w s (heard w s p) p else []) (sym e)

pub replies-are : (w : Setting) (s : Seen) (p : Packet) → is_running s.work ≡ true → replies w s (heard w s p) p ≡ sent_by w s (Hears p)
unfolding sent_by
replies-are w s p e = ap (λ b. if b then replies w s (heard w s p) p else []) (sym e)
