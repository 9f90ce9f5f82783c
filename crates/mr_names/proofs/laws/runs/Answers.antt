use Rattle.mr_names.proofs.RowLaws.{namespace_refusals, root_refusals, read_and_foresee}
use Rattle.mr_names.proofs.laws.runs.Goals as goal

pub returns : goal.returns
returns c = record { refusals = namespace_refusals; root = root_refusals; reading = read_and_foresee }
