use Rattle.mr_user.proofs.Meanings.{keys_rise}
use Rattle.mr_user.proofs.laws.keys_rise.Goals as goal

pub returns : goal.returns
returns g c = keys_rise g.K.Ord.cmp g.met.K.Ord.total
