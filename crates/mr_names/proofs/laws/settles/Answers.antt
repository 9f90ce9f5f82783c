use Rattle.mr_names.proofs.CallerLaws as laws
use Rattle.mr_names.proofs.laws.settles.Goals as goal

pub returns : goal.returns
returns c = record {
  below = laws.below_the_fence;
  barred = laws.barred_is_refused;
  heard = laws.heard_is;
  own = laws.heard_has_its_own;
  answered = laws.answered_is_heard;
  may_be = laws.answered_may_be_made;
  alike = laws.heard_alike;
  refused = laws.refused_stays;
  made = laws.answered_is_made;
  fence = laws.fence_stays;
  tree = laws.tree_stays;
  sound = laws.sound_stays;
}
