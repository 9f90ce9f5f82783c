-- What is so of what a script expects, and what is told where that is something else (our own profile). The words are those in which `play` prints a cluster.
use Rattle.std.specs.Prelude.{ℕ, Bool, List, [], ◌∷◌, ◌++◌, nat_lt, if◌then◌else◌, codes, decimal}
use Rattle.std.specs.Str.{bytes_eq}
use Rattle.mr_script.specs.declared.expectation.Expectation.{Expectation}
use Rattle.mr_script.specs.declared.expectation.Expectation.TheVariants.{Winner, Marker, Outcome}
use Rattle.mr_script.specs.Expected.{winner_word, marker_word, outcome_word, value_word, expected_words}
use Rattle.mr_world_model.specs.Ids.{marker, reduce_of}
use Rattle.mr_world_model.specs.Content.{entry_at, is_file}
use Rattle.mr_world_model.specs.Packets.{Config}
use Rattle.mr_world_model.specs.World.{World}
use Rattle.mr_world_model.specs.Claims.{winner}
use Rattle.mr_world_model.specs.Results.{outcome}

-- what is so of what an expectation speaks of; the job may have no reduce of that number
abbrev pub value_in : Config → World → Expectation → List ℕ
value_in cfg w (Winner r won) = if nat_lt r cfg.reduces then winner_word (winner w (reduce_of cfg.job r)) else codes "no reduce"
value_in cfg w (Marker there) = marker_word (is_file (entry_at w.content marker))
value_in cfg w (Outcome told) = outcome_word (outcome w)

-- it is what is expected
abbrev pub is_met : Config → World → Expectation → Bool
is_met cfg w e = bytes_eq (value_in cfg w e) (value_word e)

-- the line of one that is not met, with the number of its line in the input
abbrev pub unmet_line : ℕ → Expectation → List ℕ → List ℕ
unmet_line line e value = decimal line ++ codes ": expected " ++ expected_words e ++ codes ", is " ++ value ++ 10 ∷ []
