use Rattle.mr_grant.proofs.GrantLaws.{first_stays}
use Rattle.mr_grant.proofs.laws.first_stays.Goals as goal

pub returns : goal.returns
returns c = first_stays
