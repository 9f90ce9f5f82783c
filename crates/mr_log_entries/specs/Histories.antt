-- The job history that a log tells: the lines that a master writes down, as its records. Our own; the records are those of mr_history.
use Rattle.std.specs.Prelude.{List, filter_map, Option, Some, None}
use Rattle.mr_history.specs.declared.record.Record.{Record}
use Rattle.mr_history.specs.declared.record.Record.TheVariants.{AttemptStarted, ReduceSucceeded, AttemptFailed, JobUnsuccessful}
use Rattle.mr_log_entries.specs.declared.line.Line.{Line}
use Rattle.mr_log_entries.specs.declared.line.Line.TheVariants.{Started, Won, Failed, Interrupted, Unsuccessful, Publish, Published}

-- an attempt runs on no node that a log knows of, so it is told as on node 0
abbrev pub record_of : Line → Option Record
record_of (Started a) = Some (AttemptStarted a 0)
record_of (Won a handed) = Some (ReduceSucceeded a None)
record_of (Failed a) = Some (AttemptFailed a)
record_of (Interrupted a) = Some (AttemptFailed a)
record_of Unsuccessful = Some JobUnsuccessful
record_of Publish = None
record_of Published = None

abbrev pub records_of : List Line → List Record
records_of lines = filter_map record_of lines
