-- Packets of two bags that are one, and what `==` says of packets.
use Rattle.std.proofs.Common.{ℕ, ◌-◌, ◌≤◌, ◌<◌, ◌≡◌, inl, inr, refl, arith, List, [], ◌∷◌, ap, Bool, ◌&&◌, true, false, slice_get}
use Rattle.std.specs.Bool.{IsTrue}
use Rattle.std.specs.Cmp.Lexicographic.{pointwise}
use Rattle.mr_packet.specs.contracts.packet.EnvelopePartialEq.TheImpl as envelopes
use Rattle.mr_packet.specs.declared.packet.Envelope.{Envelope}
use Rattle.mr_packet.proofs.Comparing.{envelopes_decide}
use Rattle.mr_play.specs.declared.player.Player.{Player}
use Rattle.mr_play.specs.Players.{cluster_in, state_in}
use Rattle.mr_explore_compared.specs.inner.Compared.{IsOne}

-- they lie as far ahead
pub as_far_is_one : (p q : Player) (i j : ℕ) → (state_in p).cursor ≤ i → ((state_in q).cursor ≤ j) × (i - (state_in p).cursor ≡ j - (state_in q).cursor) → IsOne p q i j
as_far_is_one p q i j a both = let b = both.0 in let e = both.1 in inr (i - (state_in p).cursor, omega (arith, a), omega (arith, b, e))

-- both were passed over
pub passed_is_one : (p q : Player) (i j : ℕ) → i < (state_in p).cursor → j < (state_in q).cursor → slice_get (cluster_in p).bag i ≡ slice_get (cluster_in q).bag j → IsOne p q i j
passed_is_one p q i j a b e = inl (a, b, e)

-- two lists of packets that are found equal are one
pub packets_are : (a b : List Envelope) → IsTrue (pointwise envelopes.eq-value.it a b) → a ≡ b
packets_are a b e = (envelopes_decide a b).0 e

head_or : Envelope → List Envelope → Envelope
head_or x [] = x
head_or x (y ∷ ys) = y

and-true : (b : Bool) → b ≡ true → (b && true) ≡ true
and-true true e = refl
and-true false e = e

pub packet_is : (a b : Envelope) → IsTrue (envelopes.eq-value.it a b) → a ≡ b
unfolding head_or
packet_is a b e = ap (head_or a) ((envelopes_decide (a ∷ []) (b ∷ [])).0 (and-true (envelopes.eq-value.it a b) e))
