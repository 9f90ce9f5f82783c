use Rattle.mr_log_entries.proofs.Widths.{usual_fits}
use Rattle.mr_log_entries.proofs.laws.usual_entries_are_short.Goals as goal

pub returns : goal.returns
returns c = usual_fits
