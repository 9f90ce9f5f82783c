use Rattle.mr_log_standing.proofs.Following.{lawful-both, published-lawful}
use Rattle.mr_log_standing.proofs.Beginning.{decided-lawful, concluded-lawful}
use Rattle.mr_log_standing.proofs.laws.decisions_are_lawful.Goals as goal

pub returns : goal.returns
returns c = record {
  decided = decided-lawful;
  concluded = concluded-lawful;
  published = published-lawful;
  both = lawful-both;
}
