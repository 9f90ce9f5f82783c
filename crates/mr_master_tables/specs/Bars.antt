-- Attempts whose bars come due, each once. Our own: where code and definitions meet.
use Rattle.std.specs.Prelude.{ℕ, List, [], ◌∷◌}
use Rattle.mr_ids.specs.Attempt.{Attempt}
use Rattle.mr_grant.specs.Attempts.{with_last}

pub record Bars : Type 0 where
  pub due : List Attempt
  pub room : ℕ  -- how many more need no memory for sure

-- each is added as the last, if it is not there
abbrev pub all_added : (bars more : List Attempt) → List Attempt
all_added bars [] = bars
all_added bars (a ∷ as') = all_added (with_last bars a) as'
