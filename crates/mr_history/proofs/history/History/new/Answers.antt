use Rattle.std.proofs.Common.{ap}
use Rattle.mr_history.proofs.Stored.{history_of}
use Rattle.mr_history.proofs.history.History.new.Goals as goal

pub returns-clause-made : goal.returns-clause-made
returns-clause-made c = ap history_of c.in_ok-segments.ensures.items
