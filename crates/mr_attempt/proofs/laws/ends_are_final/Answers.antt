use Rattle.mr_attempt.proofs.TableLaws.{ends_are_final}
use Rattle.mr_attempt.proofs.laws.ends_are_final.Goals as goal

pub returns : goal.returns
returns c = ends_are_final
