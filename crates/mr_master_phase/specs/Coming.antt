-- What comes of the answer of a committer's call.
use Rattle.std.specs.Prelude.{◌≡◌, List, ◌++◌, take, drop, Result, Ok, Err}
use Rattle.mr_commit.specs.Line.{Line}
use Rattle.mr_commit.specs.Halves.{Following, Fits}
use Rattle.mr_commit.specs.declared.fault.CommitFault.{CommitFault}
use Rattle.mr_commit.specs.declared.fault.StepDone.{StepDone}
use Rattle.mr_commit.specs.declared.fault.StepDone.TheVariants as done
use Rattle.mr_master_model.specs.declared.store.StoreAnswer.{StoreAnswer}
use Rattle.mr_master_model.specs.declared.setting.Setting.{Setting}
use Rattle.mr_master_model.specs.Past.{Work, TakesOver}
use Rattle.mr_master_model.specs.Readings.{Seen}
use Rattle.mr_master_model.specs.Answered.{heard_by, next_winner}
use Rattle.mr_master_phase.specs.WorkKinds.{finished_by}
use Rattle.mr_master_phase.specs.declared.store.Coming.{Coming}
use Rattle.mr_master_phase.specs.declared.store.Coming.TheVariants as coming
use Rattle.mr_master_phase.specs.Heard.{More, Finished, Refused, heard_as}

abbrev pub coming_so : StepDone → Following → Coming
coming_so done.More f = coming.More f
coming_so done.Finished f = coming.Finished

abbrev pub coming_by : Result Following CommitFault → Coming
coming_by (Ok f) = coming_so f.done f
coming_by (Err f) = coming.Refused

-- it is what comes of this answer where these lines are left
abbrev pub IsComing : List Line → StoreAnswer → Coming → Type 0
IsComing left a (coming.More f) = (More ≡ heard_as (heard_by left a).0) × (f.lines ++ drop 1 left ≡ (heard_by left a).1) × Fits f.lines left
IsComing left a coming.Finished = Finished ≡ heard_as (heard_by left a).0
IsComing left a coming.Refused = Refused ≡ heard_as (heard_by left a).0

-- what is next after the last line, where the reduces that are left after the next one are not in it yet
abbrev pub begun_by : Setting → Seen → Work → Work
begun_by w s (TakesOver winner left others) = next_winner w (take 1 others)
begun_by w s work = finished_by w s work
