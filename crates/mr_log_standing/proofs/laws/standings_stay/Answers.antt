use Rattle.mr_log_standing.proofs.Lost.{won-stays, has-won, is-open, lost-stays}
use Rattle.mr_log_standing.proofs.Once.{once}
use Rattle.mr_log_standing.proofs.laws.standings_stay.Goals as goal

pub returns : goal.returns
returns c = record {
  won = won-stays;
  has_won = has-won;
  is_open = is-open;
  lost = lost-stays;
  once = once;
}
