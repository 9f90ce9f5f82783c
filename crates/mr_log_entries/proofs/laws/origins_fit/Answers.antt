use Rattle.std.proofs.Common.{arith}
use Rattle.mr_log_entries.proofs.Widths.{origin_fits}
use Rattle.mr_log_entries.proofs.laws.origins_fit.Goals as goal

pub returns : goal.returns
returns c o is = let range = is.time in origin_fits o 11 (omega arith) is (omega arith)
