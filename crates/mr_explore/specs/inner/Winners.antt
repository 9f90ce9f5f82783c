-- Winners that were read of the stable bytes of a history.
use Rattle.std.specs.Prelude.{ℕ, List, map, Option}
use Rattle.std.specs.List.{flat_map, range_with_len}
use Rattle.mr_ids.specs.Attempt.{Attempt}
use Rattle.mr_ids.specs.declared.id.JobId.{JobId}
use Rattle.mr_history.specs.Reading.{records_of}
use Rattle.mr_world_model.specs.Ids.{reduce_of}
use Rattle.mr_world_model.specs.Records.{winner_in}

-- the winners of the first `reduces` reduces of a job, by the bytes of the segments in their order
abbrev pub told_winners : JobId → ℕ → List (List ℕ) → List (Option Attempt)
told_winners job reduces segments = map (λ r. winner_in (flat_map records_of segments) (reduce_of job r)) (range_with_len 0 reduces)
