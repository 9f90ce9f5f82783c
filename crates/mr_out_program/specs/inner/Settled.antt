-- The fault of an end, by what the directory itself tells.
use Rattle.std.specs.Prelude.{◌≡◌, true, false, codes, Option, Some, None, Result, Ok, Err}
use Rattle.mr_out_layout.specs.Faults.{IsRefusal}
use Rattle.mr_out_layout.specs.declared.fault.Fault.{Fault}
use Rattle.mr_out_layout.specs.declared.fault.Fault.TheVariants as fault
use Rattle.mr_out_layout.specs.declared.fault.Why.TheVariants.{Foreign}
use Rattle.mr_out_steps.specs.declared.order.Order.{Order}
use Rattle.mr_out_steps.specs.declared.order.Outcome.{Outcome}
use Rattle.mr_out_steps.specs.declared.order.Outcome.TheVariants as outcome
use Rattle.mr_out_files.specs.declared.directory.Directory.{Directory}
use Rattle.mr_out_files.specs.Troubles.{trouble_of}
use Rattle.mr_out_program.specs.Faults.{IsFileFault, IsNotKnown}
use Rattle.mr_out_program.specs.Carried.{is_fault}

-- it is what was told, if anything was
abbrev pub IsToldBy : Option Fault → Fault → Type 0
IsToldBy None f = IsRefusal (codes "_mrout") Foreign f
IsToldBy (Some told) f = f ≡ told

abbrev pub IsEndFault : Order → Directory → Outcome → Fault → Type 0
IsEndFault o d outcome.NoMemory f = f ≡ fault.NoMemory
IsEndFault o d outcome.Failed f = IsToldBy (trouble_of d) f
IsEndFault o d outcome.NotKnown f = (told : Fault) × IsToldBy (trouble_of d) told × IsNotKnown told f
IsEndFault o d end f = IsFileFault o d.job end f

abbrev pub SettlesAs : Order → Directory → Outcome → Result Outcome Fault → Type 0
SettlesAs order d end (Ok told) = (told ≡ end) × (is_fault end ≡ false)
SettlesAs order d end (Err f) = (is_fault end ≡ true) × IsEndFault order d end f
