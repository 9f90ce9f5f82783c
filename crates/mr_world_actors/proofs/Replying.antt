-- Which launch a node answers: one for another incarnation, of a container that it does not know.
use Rattle.std.proofs.Common.{◌≡◌, ℕ, refl, Bool, true, false, ◌&&◌, ◌==◌, not, is_some, if◌then◌else◌}
use Rattle.mr_ids.specs.Attempt.{Attempt}
use Rattle.mr_packet.specs.declared.packet.ContainerId.{ContainerId}
use Rattle.mr_packet.specs.Same.{has}
use Rattle.mr_node.specs.Readings.{Seen, launched, up}
use Rattle.mr_node.specs.declared.reaction.Reaction.TheVariants.{Nothing, Starts, Adds}
use Rattle.mr_world_actors.specs.Nodes.{added_by}

pub answers_launch : (n : ℕ) (s : Seen) (c : ContainerId) (a : Attempt) (i : ℕ) → is_some (added_by (launched n s c a i)) ≡ (not (has s.known c) && not (i == s.incarnation))
answers_launch n s c a i = by (has s.known c) (i == s.incarnation)
  where
    by : (known same : Bool) → is_some (added_by (if known then Nothing else (if same then Starts c a else Adds (up n s.incarnation c.app)))) ≡ (not known && not same)
    by true same = refl
    by false true = refl
    by false false = refl
