-- What a power cut leaves of a segment's bytes, told in records. That a write-ahead log keeps what was flushed and a front of the rest is what
-- any such log promises; segments and their lines are those of mr_history.
use Rattle.std.specs.Prelude.{◌≡◌, ◌≤◌, ℕ, List, ◌++◌, length, take}
use Rattle.std.specs.List.{AllByRecursion}
use Rattle.mr_history.specs.declared.record.Record.{Record}
use Rattle.mr_history.specs.Line.{text, IsRecordOf}
use Rattle.mr_history.specs.Reading.{records_of}
use Rattle.mr_out_disk.specs.Cuts.{IsFront}

-- the bytes that are left tell the records that were durable, and a front of those that were appended
pub record TellsFront (synced appended : List Record) (bytes : List ℕ) : Type 0 where
  pub kept : List Record
  pub front : IsFront kept appended
  pub told : records_of bytes ≡ synced ++ kept

-- whichever front of a segment's bytes is left, if it is no shorter than what was durable
abbrev pub SegmentsKeepFronts : Type 0
SegmentsKeepFronts = (synced appended : List Record) (n : ℕ) → AllByRecursion (IsRecordOf 1) (synced ++ appended) → length (text 1 synced) ≤ n
    → TellsFront synced appended (take n (text 1 (synced ++ appended)))
