-- What is stored of what a master is at.
-- `work_of` gives the work of mr_master_model for what `src/work.rt` stores.
use Rattle.std.specs.Prelude.{Bool, true, false}
use Rattle.mr_commit.specs.Recovery.{Recovery}
use Rattle.mr_commit.specs.Recovery.Recovery.{Nowhere, Left}
use Rattle.mr_master_model.specs.Past.{Work, LooksForSuccess, LooksForFail, LooksForStarted, Reads, SetsUp, Runs, CommitsJob, TellsSuccess, TellsFail, AbortsCommit, Fails, Ends, Stops}
use Rattle.mr_master_model.specs.Answered.{takes_over}
use Rattle.mr_master_phase.specs.declared.work.At.{At}
use Rattle.mr_master_phase.specs.declared.work.At.TheVariants as at

abbrev pub work_of : At → Work
work_of at.LooksForSuccess = LooksForSuccess
work_of at.LooksForFail = LooksForFail
work_of at.LooksForStarted = LooksForStarted
work_of at.Reads = Reads
work_of (at.SetsUp left) = SetsUp left
work_of (at.TakesOver winner step others) = takes_over winner step others.items
work_of at.Runs = Runs
work_of (at.CommitsJob left) = CommitsJob left
work_of at.TellsSuccess = TellsSuccess
work_of at.TellsFail = TellsFail
work_of at.AbortsCommit = AbortsCommit
work_of (at.Fails is_stable) = Fails is_stable
work_of (at.Ends succeeded) = Ends succeeded
work_of at.Stops = Stops

-- what is taken over has an earlier generation
abbrev pub is_left : Recovery → Bool
is_left Nowhere = false
is_left (Left lines) = true

abbrev pub has_table : At → Bool
has_table (at.TakesOver winner step others) = is_left step
has_table _ = true
