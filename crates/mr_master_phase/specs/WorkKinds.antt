-- Kinds of work, and what the answer of a committer's call changes of one.
-- Work is what a master is at in its phase. Our own: where code and definitions meet.
use Rattle.std.specs.Prelude.{ℕ, Bool, true, false, Option, Some, None, Ok, Err, List, [], if◌then◌else◌}
use Rattle.mr_commit.specs.Line.{Line, is_done}
use Rattle.mr_commit.specs.Steps.{MayWantOn}
use Rattle.mr_commit.specs.Recovery.{Recovery}
use Rattle.mr_commit.specs.Recovery.Recovery.{Nowhere, Left}
use Rattle.mr_history.specs.declared.record.Record.{Record}
use Rattle.mr_recover.specs.declared.winner.TaskWinner.{TaskWinner}
use Rattle.mr_names.specs.declared.fault.NameFault.TheVariants as names
use Rattle.mr_master_model.specs.declared.store.StoreAnswer.{StoreAnswer}
use Rattle.mr_master_model.specs.declared.store.StoreAnswer.TheVariants as answer
use Rattle.mr_master_model.specs.declared.setting.Setting.{Setting}
use Rattle.mr_master_model.specs.Readings.{Seen}
use Rattle.mr_master_model.specs.Answered.{next_winner, winners}
use Rattle.mr_master_model.specs.Past.{Work, LooksForSuccess, LooksForFail, LooksForStarted, Reads, SetsUp, TakesOver, Runs, CommitsJob, TellsSuccess, TellsFail, AbortsCommit, Fails, Ends, Stops}

-- its next call follows from the work alone
abbrev pub is_own : Work → Bool
is_own Runs = false
is_own (Fails is_stable) = false
is_own _ = true

-- while it is Failing: whether a JobUnsuccessful is stable
abbrev pub fails_as : Work → Option Bool
fails_as (Fails is_stable) = Some is_stable
fails_as _ = None

abbrev pub is_read : Work → Bool
is_read Reads = true
is_read _ = false

-- what was read
abbrev pub records_in : StoreAnswer → Option (List Record)
records_in (answer.Told rs) = Some rs
records_in _ = None

-- ---- looks for marks

abbrev pub is_look : Work → Bool
is_look LooksForSuccess = true
is_look LooksForFail = true
is_look LooksForStarted = true
is_look _ = false

abbrev pub looked_on : Work → Work
looked_on LooksForSuccess = LooksForFail
looked_on LooksForFail = LooksForStarted
looked_on _ = Reads

-- what is next where the mark is there
abbrev pub found_by : Work → Work
found_by LooksForSuccess = Ends true
found_by _ = Ends false

-- ---- marks are created, and a failed job commit is aborted

abbrev pub is_tell : Work → Bool
is_tell TellsSuccess = true
is_tell TellsFail = true
is_tell AbortsCommit = true
is_tell _ = false

-- where the job ended: whether it succeeded
abbrev pub ends_as : Work → Option Bool
ends_as (Ends succeeded) = Some succeeded
ends_as _ = None

-- ---- the abort of a job that failed: the delete was made, or there was nothing to delete

abbrev pub passes_abort : StoreAnswer → Bool
passes_abort (answer.Names (Ok a)) = is_done a
passes_abort (answer.Names (Err names.Missing)) = true
passes_abort _ = false

abbrev pub aborted : StoreAnswer → Work
aborted a = if passes_abort a then Ends false else Stops

-- ---- a committer's table

abbrev pub is_step : Work → Bool
is_step (SetsUp left) = true
is_step (TakesOver winner left others) = true
is_step (CommitsJob left) = true
is_step _ = false

-- what is next after the last line
abbrev pub finished_by : Setting → Seen → Work → Work
finished_by w s (SetsUp left) = next_winner w (winners w s)
finished_by w s (TakesOver winner left others) = next_winner w others
finished_by w s (CommitsJob left) = TellsSuccess
finished_by w s work = work

-- the reduces that are taken over after the one that is
abbrev pub others_of : Work → List TaskWinner
others_of (TakesOver winner left others) = others
others_of _ = []

abbrev pub with_others : Work → List TaskWinner → Work
with_others (TakesOver winner left old) others = TakesOver winner left others
with_others work others = work

-- the lines that are left
abbrev pub left_of : Work → List Line
left_of (SetsUp left) = left
left_of (TakesOver winner left others) = left
left_of (CommitsJob left) = left
left_of _ = []

abbrev pub with_left : Work → List Line → Work
with_left (SetsUp old) left = SetsUp left
with_left (TakesOver winner old others) left = TakesOver winner left others
with_left (CommitsJob old) left = CommitsJob left
with_left work left = work

-- where a refusal or a fault leads, and where Superseded does
pub record Refusals : Type 0 where
  pub refused : Work
  pub superseded : Work

abbrev pub refused_by : Work → Refusals
refused_by (SetsUp left) = record { refused = Stops; superseded = Stops }
refused_by (TakesOver winner left others) = record { refused = Stops; superseded = Stops }
refused_by (CommitsJob left) = record { refused = TellsFail; superseded = Stops }
refused_by work = record { refused = work; superseded = work }

abbrev pub refused_when : Bool → Work → Work
refused_when b work = if b then (refused_by work).superseded else (refused_by work).refused

-- there may be an allocation failure for an answer: lines follow from it
abbrev pub WantsMore : List Line → StoreAnswer → Type 0
WantsMore left (answer.Names r) = MayWantOn left r
WantsMore left _ = ⊥

abbrev pub lines_of : Recovery → List Line
lines_of Nowhere = []
lines_of (Left lines) = lines

-- ---- comparisons

-- what a work is at, as a number; where calls of a table are left: 0
abbrev pub number_of : Work → ℕ
number_of LooksForSuccess = 1
number_of LooksForFail = 2
number_of LooksForStarted = 3
number_of Reads = 4
number_of Runs = 5
number_of TellsSuccess = 6
number_of TellsFail = 7
number_of AbortsCommit = 8
number_of (Fails false) = 9
number_of (Fails true) = 10
number_of (Ends false) = 11
number_of (Ends true) = 12
number_of Stops = 13
number_of _ = 0
