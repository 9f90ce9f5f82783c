-- By which packets a container comes to its end: by the answer to its report alone.
use Rattle.std.proofs.Common.{◌≡◌, ℕ, refl, sym, ◌∙◌, Bool, true, false, ◌&&◌, ◌||◌, List, if◌then◌else◌}
use Rattle.mr_ids.specs.Attempt.{Attempt}
use Rattle.mr_ids.specs.Same.{same_attempt}
use Rattle.mr_packet.specs.declared.packet.Packet.{Packet}
use Rattle.mr_packet.specs.declared.packet.Packet.TheVariants as packet
use Rattle.mr_container.specs.declared.wish.Wish.{Wish}
use Rattle.mr_container.specs.declared.wish.Wish.TheVariants as wish
use Rattle.mr_container.specs.Past.{Hears}
use Rattle.mr_container.specs.Readings.{Seen, after_packet, next_seen, asks_where, fetches, is_reporting, is_awaited, is_all, with_bytes, with_piece, with_wish, ask_next, answered}
use Rattle.mr_container.specs.State.{Container, after}
use Rattle.mr_world_model.specs.Actors.{is_finished}
use Rattle.mr_world_actors.specs.Ending.{acknowledges}

-- who asks or fetches is not at its end
asks-on : (v : Wish) (m : ℕ) → asks_where v m ≡ true → is_finished v ≡ false
asks-on wish.Over m e = cc
asks-on v m e = refl

fetches-on : (v : Wish) (a : Attempt) (b : Bool) → (fetches v a && b) ≡ true → is_finished v ≡ false
fetches-on wish.Over a b e = cc
fetches-on v a b e = refl

lost-on : (v : Wish) (a : Attempt) → fetches v a ≡ true → is_finished v ≡ false
lost-on wish.Over a e = cc
lost-on v a e = refl

asked : (b : Bool) (n : ℕ) → is_finished (if b then wish.Where n else wish.Compute) ≡ false
asked true n = refl
asked false n = refl

piece-on : (b : Bool) (v u : Wish) → is_finished u ≡ false → is_finished v ≡ false → is_finished (if b then u else v) ≡ false
piece-on true v u e f = e
piece-on false v u e f = f

answered-on : (yes : Bool) (v : Wish) → is_finished (answered yes v) ≡ is_finished v
answered-on true wish.Pending = refl
answered-on true wish.Poll = refl
answered-on true v = refl
answered-on false wish.Pending = refl
answered-on false wish.Poll = refl
answered-on false v = refl

-- what leads on where it applies
other : (b : Bool) (s t : Seen) → (b ≡ true → is_finished t.wish ≡ is_finished s.wish) → is_finished (if b then t else s).wish ≡ is_finished s.wish
other true s t e = e refl
other false s t e = refl

alike : (f g : Bool) → f ≡ false → g ≡ false → f ≡ g
alike f g e h = e ∙ sym h

acked : (b f : Bool) (s : Seen) → is_finished s.wish ≡ f → is_finished (if b then with_wish s wish.Over else s).wish ≡ (f || b)
acked true true s e = refl
acked true false s e = refl
acked false true s e = e
acked false false s e = e

none-else : (f r : Bool) → f ≡ (f || (r && false))
none-else true r = refl
none-else false true = refl
none-else false false = refl

ends : (maps : ℕ) (x : Attempt) (s : Seen) (p : Packet) → is_finished (after_packet maps x s p).wish ≡ (is_finished s.wish || (is_reporting s.wish && acknowledges x p))
unfolding after_packet
ends maps x s (packet.MapReady m a n i) = other (asks_where s.wish m) s _ (λ e. sym (asks-on s.wish m e)) ∙ none-else _ _
ends maps x s (packet.Piece a r o total bytes) = other (is_awaited x s a r o) s (with_piece maps s total bytes) (λ e. let on = fetches-on s.wish a _ e in alike _ _ (piece-on (is_all s.pieces total bytes) s.wish (ask_next maps (with_bytes s.pieces total bytes).blocks) (asked _ _) on) on) ∙ none-else _ _
ends maps x s (packet.FetchLost c a) = other (fetches s.wish a) s _ (λ e. sym (lost-on s.wish a e)) ∙ none-else _ _
ends maps x s (packet.Answer a is_yes) = other (same_attempt x a) s _ (λ e. answered-on is_yes s.wish) ∙ none-else _ _
ends maps x s (packet.DoneAck a) = acked (is_reporting s.wish && same_attempt x a) (is_finished s.wish) s refl
ends maps x s p = none-else _ _

pub ends_by_answer : (m : Container) (p : Packet) → is_finished (after m (Hears p)).seen.wish ≡ (is_finished m.seen.wish || (is_reporting m.seen.wish && acknowledges m.place.attempt p))
unfolding next_seen
ends_by_answer m p = ends m.maps m.place.attempt m.seen p
