-- What a step adds to the bag in which a packet is sent.
use Rattle.std.proofs.Common.{◌≡◌, ℕ, ◌+◌, length, arith, List, [], ◌∷◌, ◌++◌, Option, Some, sym, ap, ◌∙◌, append_assoc}
use Rattle.mr_packet.specs.declared.packet.Envelope.{Envelope}
use Rattle.mr_container.specs.Past.{Sends}
use Rattle.mr_container.specs.Readings.{next_seen, wish_sent}
use Rattle.mr_container.specs.Wished.{wished_packet, end_of, sent_and_ended, step_packets}
use Rattle.mr_container.specs.State.{Container, after}

-- the packet goes into the bag, and then the end, if it is one
pub sent-adds : (m new : Container) (e : Envelope) (before with_packet now : List Envelope)
    → wished_packet m.id m.place.attempt m.seen m.seen.wish ≡ Some e
    → with_packet ≡ before ++ e ∷ []
    → new ≡ after m (Sends e.body)
    → now ≡ with_packet ++ end_of new.id new.seen.wish
    → now ≡ before ++ step_packets m.maps m.id m.place.attempt m.seen
unfolding next_seen
sent-adds m new e before with_packet now wished pushed sent told =
    told
    ∙ ap (λ (n : Container). with_packet ++ end_of n.id n.seen.wish) sent
    ∙ ap (λ (es : List Envelope). es ++ end_of m.id (wish_sent m.maps m.seen.pieces.blocks m.seen.wish)) pushed
    ∙ append_assoc before (e ∷ []) (end_of m.id (wish_sent m.maps m.seen.pieces.blocks m.seen.wish))
    ∙ ap (λ (o : Option Envelope). before ++ sent_and_ended m.id (wish_sent m.maps m.seen.pieces.blocks m.seen.wish) o) (sym wished)

-- the room that the packet and the end take
pub sent-takes : (m new : Container) (e : Envelope) (before between now : ℕ)
    → wished_packet m.id m.place.attempt m.seen m.seen.wish ≡ Some e
    → before ≡ between + 1
    → new ≡ after m (Sends e.body)
    → between ≡ now + length (end_of new.id new.seen.wish)
    → before ≡ now + length (step_packets m.maps m.id m.place.attempt m.seen)
unfolding next_seen
sent-takes m new e before between now wished pushed sent told =
    let ends : List Envelope = end_of m.id (wish_sent m.maps m.seen.pieces.blocks m.seen.wish) in
    let after_end : between ≡ now + length ends = told ∙ ap (λ (n : Container). now + length (end_of n.id n.seen.wish)) sent in
    let both : before ≡ now + length (e ∷ ends) = omega (arith, pushed, after_end) in
    both ∙ ap (λ (o : Option Envelope). now + length (sent_and_ended m.id (wish_sent m.maps m.seen.pieces.blocks m.seen.wish) o)) (sym wished)
