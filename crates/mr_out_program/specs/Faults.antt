-- Which fault tells an end that no command says. Our own.
use Rattle.std.specs.Prelude.{◌≡◌, ◌≤◌, ℕ, List, [], ◌∷◌, ◌++◌, codes, decimal, Option, Some, None}
use Rattle.std.specs.String.{string_bytes}
use Rattle.mr_out_disk.specs.declared.call.Call.{Call}
use Rattle.mr_out_disk.specs.declared.answer.Answer.{Answer}
use Rattle.mr_out_disk.specs.declared.answer.Answer.TheVariants.{Says}
use Rattle.mr_out_disk.specs.declared.answer.Reply.TheVariants.{Failed}
use Rattle.mr_out_layout.specs.Faults.{IsRefusal}
use Rattle.mr_out_layout.specs.Layout.{part_name, kept_path, work_path}
use Rattle.mr_out_layout.specs.declared.fault.Fault.{Fault}
use Rattle.mr_out_layout.specs.declared.fault.Fault.TheVariants as fault
use Rattle.mr_out_layout.specs.declared.fault.Why.TheVariants.{Foreign, NoFile, NotAFile, StillWritten, Vanished, NoTask}
use Rattle.mr_out_layout.specs.declared.job.Job.{Job}
use Rattle.mr_out_steps.specs.declared.order.Order.{Order}
use Rattle.mr_out_steps.specs.declared.order.Order.TheVariants as order
use Rattle.mr_out_steps.specs.declared.order.Outcome.{Outcome}
use Rattle.mr_out_steps.specs.declared.order.Outcome.TheVariants as outcome
use Rattle.mr_out_files.specs.declared.directory.Directory.{Directory}
use Rattle.mr_out_files.specs.Made.{calls_of}
use Rattle.mr_out_files.specs.Troubles.{IsTroubleOf, HasTrouble}

-- ---- of a call that failed

-- where the last call that was made meanwhile failed, this holds of it
abbrev pub IfLastFailed : (Call → Type 0) → Directory → Directory → Type 0
IfLastFailed P old new = (front : List (Call × Answer)) (call : Call) → calls_of new ≡ calls_of old ++ (front ++ (call, Says Failed) ∷ []) → P call

-- where the last call failed, the directory tells why
abbrev pub TellsTrouble : Directory → Directory → Type 0
TellsTrouble old new = IfLastFailed (HasTrouble new (string_bytes old.job.suffix)) old new

-- it is of the call that failed last
abbrev pub IsOfLast : Directory → Directory → Fault → Type 0
IsOfLast old new f = IfLastFailed (λ call. IsTroubleOf (string_bytes old.job.suffix) call f) old new

-- what a failed call of the history says: the record may be there, or not
abbrev pub not_known : List ℕ
not_known = codes "it is not known whether it was recorded; say it again"

-- the same fault, but that of a call says this
abbrev pub IsNotKnown : Fault → Fault → Type 0
IsNotKnown (fault.Call what path error) (fault.Call w p e) = (w.now ≡ not_known) × (p ≡ path) × (e ≡ error)
IsNotKnown (fault.Call what path error) _ = ⊥
IsNotKnown told f = f ≡ told

abbrev pub IsNotKnownOfLast : Directory → Directory → Fault → Type 0
IsNotKnownOfLast old new f = IfLastFailed (λ call. (told : Fault) × IsTroubleOf (string_bytes old.job.suffix) call told × IsNotKnown told f) old new

-- ---- of an end

-- the file that the order is about, which can't be handed in
abbrev pub unfit_path : Job → Order → List ℕ
unfit_path job (order.Done a) = work_path (string_bytes job.suffix) a
unfit_path job o = codes "_mrout"

-- what stands at some path is refused: of an end that speaks of a file
abbrev pub IsFileFault : Order → Job → Outcome → Fault → Type 0
IsFileFault o job (outcome.Foreign a) f = IsRefusal (part_name (string_bytes job.suffix) a.task.number) Foreign f
IsFileFault o job (outcome.Vanished a) f = IsRefusal (kept_path a) Vanished f
IsFileFault o job outcome.NoFile f = IsRefusal (unfit_path job o) NoFile f
IsFileFault o job outcome.NotAFile f = IsRefusal (unfit_path job o) NotAFile f
IsFileFault o job outcome.StillWritten f = IsRefusal (unfit_path job o) StillWritten f
IsFileFault o job _ f = ⊥

-- the fault that tells such an end of an order, by the calls that were made for it
abbrev pub IsFaultOf : Order → Directory → Directory → Outcome → Fault → Type 0
IsFaultOf o old new outcome.NoMemory f = f ≡ fault.NoMemory
IsFaultOf o old new outcome.Failed f = IsOfLast old new f
IsFaultOf o old new outcome.NotKnown f = IsNotKnownOfLast old new f
IsFaultOf o old new end f = IsFileFault o old.job end f

-- ---- of what a command is asked about

-- the job has no task of this number, and that is told
abbrev pub IsNoTask : Option ℕ → Job → Fault → Type 0
IsNoTask None job f = ⊥
IsNoTask (Some n) job f = (job.tasks ≤ n) × IsRefusal (decimal n) NoTask f
