-- What is stored of the records that are to be appended, and of those that were appended and are not flushed.
-- Our own: where code and definitions meet.
use Rattle.std.specs.Prelude.{◌≡◌, ℕ, Bool, true, false, List}
use Rattle.std.specs.List.{list_any}
use Rattle.mr_history.specs.declared.record.Record.{Record}
use Rattle.mr_master_model.specs.declared.phase.DutyName.{DutyName}
use Rattle.mr_master_model.specs.declared.phase.DutyName.TheVariants as name
use Rattle.mr_master_model.specs.Duty.{wants_flush}

pub record Writing : Type 0 where
  pub due : List Record
  pub tail : List Record
  pub is_flush_wanted : Bool
  pub room : ℕ  -- how many more can be due without taking memory
  pub tail_room : ℕ  -- how many more can be appended, beyond those that are due

pub record KeepsRecords (m : Writing) (all_due all_tail : List Record) : Type 0 where
  pub due : m.due ≡ all_due
  pub tail : m.tail ≡ all_tail
  pub is_flush_wanted : m.is_flush_wanted ≡ list_any wants_flush all_tail

-- the same, room aside
pub record SameRecords (old new : Writing) : Type 0 where
  pub due : new.due ≡ old.due
  pub tail : new.tail ≡ old.tail
  pub is_flush_wanted : new.is_flush_wanted ≡ old.is_flush_wanted

-- what a call is for that appends, or flushes
abbrev pub written_by : Bool → DutyName
written_by true = name.Append
written_by false = name.Flush
