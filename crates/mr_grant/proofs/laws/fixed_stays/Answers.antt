use Rattle.mr_grant.proofs.GrantLaws.{fixed_stays}
use Rattle.mr_grant.proofs.laws.fixed_stays.Goals as goal

pub returns : goal.returns
returns c = fixed_stays
