use Rattle.std.proofs.Common.{◌≡◌, [], drop}
use Rattle.mr_recover.specs.inner.Placing.{put_all}
use Rattle.mr_recover.proofs.winner.Winners.of_records.Given as goal

-- the records so far and then what is left give all winners
abbrev pub invariant-loop-entry : goal.invariant-loop-entry
invariant-loop-entry l = put_all l.winners (drop l.entry-index l.records) ≡ put_all [] l.records
