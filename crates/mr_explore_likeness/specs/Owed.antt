-- When what was put off in one play was put off in another. Our own.
use Rattle.std.specs.Prelude.{ℕ, List, [], ◌∷◌}
use Rattle.mr_world_model.specs.Packets.{Envelope}
use Rattle.mr_explore_faults.specs.declared.fault.Fault.{Fault}
use Rattle.mr_explore_faults.specs.declared.fault.Fault.TheVariants as fault
use Rattle.mr_explore_likeness.specs.Plays.{IsOnePacket}

-- two bags, of which calms have passed over m and n packets
module _ (bag other : List Envelope) (m n : ℕ) where
  -- a packet that may come late, or the next master's start
  abbrev pub IsOneLater : Fault → Fault → Type 0
  IsOneLater (fault.Late i) (fault.Late j) = IsOnePacket bag other m n i j
  IsOneLater fault.Next fault.Next = Unit {0}
  IsOneLater f g = ⊥

  -- one by one
  abbrev pub AreOneLater : List Fault → List Fault → Type 0
  AreOneLater [] [] = Unit {0}
  AreOneLater [] (g ∷ gs) = ⊥
  AreOneLater (f ∷ fs) [] = ⊥
  AreOneLater (f ∷ fs) (g ∷ gs) = IsOneLater f g × AreOneLater fs gs
