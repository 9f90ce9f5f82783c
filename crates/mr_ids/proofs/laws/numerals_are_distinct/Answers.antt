use Rattle.mr_ids.proofs.Texts.{numeral_injective}
use Rattle.mr_ids.proofs.laws.numerals_are_distinct.Goals as goal

pub returns : goal.returns
returns c = numeral_injective
