-- What was put off in two plays, one by one.
use Rattle.std.proofs.Common.{ℕ, zero, suc, ◌+◌, ◌<◌, ◌≡◌, sym, subst, arith, List, [], ◌∷◌, take, length, get_or}
use Rattle.mr_packet.specs.declared.packet.Envelope.{Envelope}
use Rattle.mr_explore_faults.specs.declared.fault.Fault.{Fault}
use Rattle.mr_explore_likeness.specs.Owed.{AreOneLater, IsOneLater}

module _ (bag other : List Envelope) (m n : ℕ) where
  -- one more is one
  pub one-more : (o p : List Fault) (i : ℕ) (f g : Fault) → i < length o → i < length p → f ≡ get_or o i f → g ≡ get_or p i g → AreOneLater bag other m n (take i o) (take i p)
      → IsOneLater bag other m n f g → AreOneLater bag other m n (take (i + 1) o) (take (i + 1) p)
  one-more [] p i f g l k a b so one = absurd (omega (arith, l))
  one-more (x ∷ o) [] i f g l k a b so one = absurd (omega (arith, k))
  one-more (x ∷ o) (y ∷ p) zero f g l k a b so one = (subst (λ (z : Fault). IsOneLater bag other m n z y) a (subst (λ (z : Fault). IsOneLater bag other m n f z) b one), tt)
  one-more (x ∷ o) (y ∷ p) (suc i) f g l k a b so one =
      let on : suc i + 1 ≡ suc (i + 1) = omega arith in
      subst (λ k. AreOneLater bag other m n (take k (x ∷ o)) (take k (y ∷ p))) (sym on) (so.0, one-more o p i f g (omega (arith, l)) (omega (arith, k)) a b so.1 one)
