-- What is found in a directory that is read, and why it can't be told. Our own.
use Rattle.std.specs.Prelude.{◌≡◌, ◌⊎◌, ℕ, List, ◌++◌, codes, length}
use Rattle.std.specs.List.{AllByRecursion}
use Rattle.mr_history.specs.Line.{lines, IsRecordOf}
use Rattle.mr_out_layout.specs.declared.ahead.Ahead.{Ahead}
use Rattle.mr_out_layout.specs.declared.fault.Fault.{Fault}
use Rattle.mr_out_layout.specs.declared.fault.Why.TheVariants.{OtherVersion, Damaged, NoFile}
use Rattle.mr_out_layout.specs.declared.recorded.Recorded.{Recorded}
use Rattle.mr_out_layout.specs.Faults.{IsFailure, IsRefusal}
use Rattle.mr_out_layout.specs.Jobs.{IsTold}
use Rattle.mr_out_layout.specs.Layout.{segment_path}

-- its job is one that a file tells, and its records are such as this program writes
pub record IsSound (found : Recorded) : Type 0 where
  pub job : IsTold found.job
  pub records : AllByRecursion (IsRecordOf 1) found.records

-- what was read ahead of a segment: whole lines, of so many bytes
pub record IsOfLines (ahead : Ahead) : Type 0 where
  pub records : AllByRecursion (IsRecordOf 1) ahead.records
  pub len : ahead.len ≡ length (lines ahead.records)

-- ---- why it can't be told

-- this segment can't be read, or a line of it is damaged
abbrev pub IsSegmentFault : ℕ → Fault → Type 0
IsSegmentFault n f = IsFailure (codes "read") (segment_path n) f ⊎ ((line : ℕ) × IsRefusal (segment_path n) (Damaged line) f)

-- the folder of the segments can't be listed, or this one is missing
abbrev pub IsGap : ℕ → Fault → Type 0
IsGap n f = IsFailure (codes "list") (codes "_mrout") f ⊎ IsRefusal (segment_path n) NoFile f

abbrev pub IsHistoryFault : Fault → Type 0
IsHistoryFault f = (n : ℕ) × (IsSegmentFault n f ⊎ IsGap n f)

-- the file that tells the job can't be read, or tells none of this version
abbrev pub IsJobFault : Fault → Type 0
IsJobFault f = IsFailure (codes "read") (codes "_mrout/job") f ⊎ IsRefusal (codes "_mrout/job") OtherVersion f

-- of this directory: it can't be looked at, its job or its history can't be told, or what was handed in can't be listed
abbrev pub IsReadingFault : List ℕ → Fault → Type 0
IsReadingFault dir f = (IsFailure (codes "look") (dir ++ codes "/_mrout") f ⊎ IsJobFault f) ⊎ (IsHistoryFault f ⊎ IsFailure (codes "list") (codes "_mrout/kept") f)
