use Rattle.mr_attempt.proofs.TableLaws.{lives}
use Rattle.mr_attempt.proofs.laws.lives.Goals as goal

pub returns : goal.returns
returns c = lives
