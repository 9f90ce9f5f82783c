-- The calls that the machine of one task gets. A list of them is the past of the task, the newest first. Our own: a past and its readings.
use Rattle.std.specs.Prelude.{Bool}
use Rattle.mr_ids.specs.Attempt.{Attempt}

pub data TaskCall : Type 0 where
  -- an attempt is launched: which one follows from the calls before
  Launches : TaskCall
  -- the attempt is heard of
  Hears : (a : Attempt) → TaskCall
  -- it asks for permission to commit
  Asks : (a : Attempt) → TaskCall
  -- it says that it is done
  Reports : (a : Attempt) → TaskCall
  -- it says that it failed
  Fails : (a : Attempt) → TaskCall
  -- its container ended, with or without having been asked to stop
  Ends : (a : Attempt) → (was_asked : Bool) → TaskCall
  -- it ended without a failure
  Dies : (a : Attempt) → TaskCall
  -- its success is recorded
  Records : (a : Attempt) → TaskCall
  -- it succeeded under an earlier master
  Recovers : (a : Attempt) → TaskCall
  -- its output is lost
  Loses : (a : Attempt) → TaskCall
