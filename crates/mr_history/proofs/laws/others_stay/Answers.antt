use Rattle.mr_history.proofs.Histories.{named, others, segment-raised, raised-below, length-raised}
use Rattle.mr_history.proofs.laws.others_stay.Goals as goal

pub returns : goal.returns
returns c = record {
  named = named;
  others = others;
  after_raise = segment-raised;
  no_raise = raised-below;
  count = length-raised;
}
