-- What a container's step puts into the bag, where it is no store call (our own).
use Rattle.std.specs.Prelude.{ℕ, Bool, true, false, Option, Some, None, if◌then◌else◌}
use Rattle.mr_packet.specs.declared.packet.Envelope.{Envelope}
use Rattle.mr_container.specs.declared.wish.Wish.{Wish}
use Rattle.mr_container.specs.declared.wish.Wish.TheVariants as wish
use Rattle.mr_container.specs.State.{Container}
use Rattle.mr_container.specs.Wished.{wished_packet}
use Rattle.mr_world_actors.specs.declared.letters.Letters.{Letters}
use Rattle.mr_world_actors.specs.declared.letters.Letters.TheVariants.{Nothing, One, Last}

-- who tells that it failed does nothing more
abbrev pub is_last : Wish → Bool
is_last wish.Failed = true
is_last _ = false

abbrev pub letters_by : Bool → Option Envelope → Letters
letters_by last None = Nothing
letters_by last (Some e) = if last then Last e else One e

abbrev pub letters_of : Option Container → Letters
letters_of None = Nothing
letters_of (Some m) = letters_by (is_last m.seen.wish) (wished_packet m.id m.place.attempt m.seen m.seen.wish)

abbrev pub count_of : Letters → ℕ
count_of Nothing = 0
count_of (One e) = 1
count_of (Last e) = 2
