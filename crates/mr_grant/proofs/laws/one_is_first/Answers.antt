use Rattle.mr_grant.proofs.GrantLaws.{one_is_first}
use Rattle.mr_grant.proofs.laws.one_is_first.Goals as goal

pub returns : goal.returns
returns c = one_is_first
