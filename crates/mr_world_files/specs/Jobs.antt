-- A job of the crates, as the model of the cluster asks for it. The sequential execution is Dean and Ghemawat's (3.3).
use Rattle.std.specs.Prelude.{Option, Some, None, Result, Ok, Err}
use Rattle.mr_user.specs.Computation.{Computation}
use Rattle.mr_user.specs.Sequential.{output}
use Rattle.mr_mapside.specs.Block.{block, map_output}
use Rattle.mr_shuffle.specs.Part.{part}
use Rattle.mr_shuffle.specs.SequentialText.{AreSplits}
use Rattle.mr_world_model.specs.Packets.{Config}
use Rattle.mr_world_model.specs.Claims.{Limits}
use Rattle.mr_world_model.specs.Sequential.{Job, JobLaws, BoundsOutputs, WholeIsSequential, MarkedFilesAreSequential}

abbrev pub ok_of : {A E : Type 0} → Result A E → Option A
ok_of (Ok x) = Some x
ok_of (Err e) = None

abbrev pub job_of : {K V : Type 0} → Computation K V → Job
job_of job = record { output = map_output job; block = block job; part = λ pieces. ok_of (part job pieces); sequential = output job }

-- files of a job are those of its sequential execution
abbrev pub FilesOf : {K V : Type 0} → Computation K V → Type 0
FilesOf job = (config : Config) (within : Limits) → AreSplits config.splits → BoundsOutputs within → WholeIsSequential (job_of job) config within × MarkedFilesAreSequential (job_of job) config within

-- a job has the laws that the cluster's definitions ask for
abbrev pub LawsOf : {K V : Type 0} → Computation K V → Type 0
LawsOf job = (config : Config) → AreSplits config.splits → JobLaws (job_of job) config
