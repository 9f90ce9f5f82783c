use Rattle.mr_attempt.proofs.TableLaws.{wins}
use Rattle.mr_attempt.proofs.laws.wins.Goals as goal

pub returns : goal.returns
returns c = wins
