use Rattle.mr_play.proofs.Rows.{played_rows_law}
use Rattle.mr_play.proofs.laws.played_rows.Goals as goal

pub returns : goal.returns
returns c = played_rows_law
