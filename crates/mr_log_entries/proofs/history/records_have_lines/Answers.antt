use Rattle.mr_log_entries.proofs.Told.{fits}
use Rattle.mr_log_entries.proofs.history.records_have_lines.Goals as goal

pub returns : goal.returns
returns c = fits
