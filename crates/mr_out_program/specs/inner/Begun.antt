-- Orders to begin an attempt, with their lines; where one failed, that they were carried out.
use Rattle.std.specs.Prelude.{ℕ, Bool, List, Result, Ok, Err}
use Rattle.mr_out_layout.specs.declared.fault.Fault.{Fault}
use Rattle.mr_out_files.specs.declared.directory.Directory.{Directory}
use Rattle.mr_out_program.specs.Turns.{IsTurn, TurnsOf, IsStart}
use Rattle.mr_out_program.specs.Starting.{StartsNext, StartsAll}

abbrev pub StartsNextOrTurns : Directory → Directory → List ℕ → List ℕ → Result Bool Fault → Type 0
StartsNextOrTurns old new before after (Ok more) = StartsNext old new before after
StartsNextOrTurns old new before after (Err f) = IsTurn IsStart old new

abbrev pub StartsOrTurns : {T : Type 0} → Directory → Directory → List ℕ → List ℕ → Result T Fault → Type 0
StartsOrTurns old new before after (Ok done) = StartsAll old new before after
StartsOrTurns old new before after (Err f) = TurnsOf IsStart old new
