-- The records that tell a success. Our own.
use Rattle.std.specs.Prelude.{Bool, true, false}
use Rattle.mr_history.specs.declared.record.Record.{Record}
use Rattle.mr_history.specs.declared.record.Record.TheVariants.{ReduceSucceeded}

abbrev pub tells_success : Record → Bool
tells_success (ReduceSucceeded a bytes) = true
tells_success _ = false
