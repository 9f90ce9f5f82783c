use Rattle.mr_log_entries.proofs.Widths.{line_fits}
use Rattle.mr_log_entries.proofs.laws.lines_fit.Goals as goal

pub returns : goal.returns
returns c = line_fits
