use Rattle.mr_ids.proofs.Generations.{first_is_own, own_range, only_own}
use Rattle.mr_ids.proofs.laws.numbers_tell_generations.Goals as goal

pub returns : goal.returns
returns c = record { first = first_is_own; own = own_range; only = only_own }
