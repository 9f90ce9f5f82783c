use Rattle.mr_grant.proofs.GrantLaws.{same_attempts}
use Rattle.mr_grant.proofs.laws.same_attempts.Goals as goal

pub returns : goal.returns
returns c = same_attempts
