-- Which word of a line what is wrong with it is about: our own.
use Rattle.std.specs.Prelude.{ℕ}
use Rattle.mr_sim_hints.specs.declared.hint.Trouble.{Trouble}
use Rattle.mr_sim_hints.specs.declared.hint.Trouble.TheVariants.{CarriageReturn, NoCommand, Bad, Missing, TooMany, Comment, Empty, Tab}

-- the word, counted from 1: the first one, where it is about the whole line
abbrev pub place_of : Trouble → ℕ
place_of CarriageReturn = 1
place_of NoCommand = 1
place_of (Bad word) = word
place_of (Missing word) = word
place_of (TooMany word) = word
place_of (Comment word) = word
place_of (Empty word) = word
place_of (Tab word) = word
