use Rattle.mr_page.proofs.Within.{lines_stay_within_law}
use Rattle.mr_page.proofs.laws.lines_stay_within.Goals as goal

pub returns : goal.returns
returns c = lines_stay_within_law
