use Rattle.mr_names.proofs.CallerLaws as laws
use Rattle.mr_names.proofs.laws.bars_stay.Goals as goal

pub returns : goal.returns
returns c = record {
  grow = laws.barred_grow;
  only = laws.only_bar_bars;
  others = laws.others_bar_none;
  content = laws.bar_keeps_content;
  bars = laws.bar_bars;
  for_good = laws.barred_for_good;
}
