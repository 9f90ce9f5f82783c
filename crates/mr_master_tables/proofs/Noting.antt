-- Which packets are Kills.
use Rattle.std.proofs.Common.{ℕ, ◌+◌, ◌<◌, ◌≡◌, refl, sym, ap, ◌∙◌, Bool, false, List, [], ◌∷◌, ◌++◌, take, length, get_or, add-one}
use Rattle.std.proofs.Math.Seq.{take-suc}
use Rattle.mr_packet.specs.declared.packet.ContainerId.{ContainerId}
use Rattle.mr_packet.specs.declared.packet.Envelope.{Envelope}
use Rattle.mr_packet.specs.declared.packet.Packet.{Packet}
use Rattle.mr_packet.specs.declared.packet.Packet.TheVariants as packet
use Rattle.mr_master_model.specs.Sends.{is_kill, with_kill, killed_by}

pub not-kill : (p : Packet) (n : ℕ) → ((c : ContainerId) → p ≡ packet.Kill c → ⊥) → is_kill p n ≡ false
not-kill (packet.Kill c) n none = absurd (none c refl)
not-kill _ n none = refl

pub killed-append : (xs ys : List Envelope) (killed : ℕ → Bool) → killed_by (xs ++ ys) killed ≡ killed_by ys (killed_by xs killed)
unfolding killed_by
killed-append [] ys killed = refl
killed-append (x ∷ xs) ys killed = killed-append xs ys (with_kill x.body killed)

pub killed-step : (es : List Envelope) (i : ℕ) (e : Envelope) (killed : ℕ → Bool) → i < length es → e ≡ get_or es i e
    → killed_by (e ∷ []) (killed_by (take i es) killed) ≡ killed_by (take (i + 1) es) killed
killed-step es i e killed within is =
    sym (killed-append (take i es) (e ∷ []) killed)
    ∙ ap (λ (l : List Envelope). killed_by l killed)
    (ap (λ (x : Envelope). take i es ++ x ∷ []) is ∙ sym (ap (λ (n : ℕ). take n es) (add-one i) ∙ take-suc es i e within))
