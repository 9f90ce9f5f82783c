-- Which past the machine of a container stands for. Our own: where code and definitions meet.
use Rattle.std.specs.Prelude.{◌≡◌, ℕ}
use Rattle.mr_packet.specs.declared.packet.ContainerId.{ContainerId}
use Rattle.mr_container.specs.declared.place.Place.{Place}
use Rattle.mr_container.specs.Past.{Step, Past, followed_by}
use Rattle.mr_container.specs.Readings.{Seen, seen, next_seen}

-- what a machine stores: which container it is, what it was launched as, how many maps there are, and what is read off its past
pub record Container : Type 0 where
  pub id : ContainerId
  pub place : Place
  pub maps : ℕ
  pub seen : Seen

-- The machine m stands for the past of container c in a job with `count` maps: what it stores is what is read off the past.
pub record StandsFor (m : Container) (c : ContainerId) (count : ℕ) (past : Past) : Type 0 where
  pub id : m.id ≡ c
  pub place : m.place ≡ past.launched
  pub maps : m.maps ≡ count
  pub seen : m.seen ≡ seen count past.launched.attempt past.steps

-- what a machine is after a step
abbrev pub after : Container → Step → Container
after m step = record m { seen = next_seen m.maps m.place.attempt m.seen step }

-- whatever past the machine stood for, it stands for it and this step
abbrev pub Stands : Container → Step → Container → Type 0
Stands old step new = (c : ContainerId) (count : ℕ) (past : Past) → StandsFor old c count past → StandsFor new c count (followed_by past step)
