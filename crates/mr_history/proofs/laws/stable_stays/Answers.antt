use Rattle.mr_history.proofs.Staying.{sealed_after, grows_after, below_after, fence_after}
use Rattle.mr_history.proofs.laws.stable_stays.Goals as goal

pub returns : goal.returns
returns c = record {
  of_sealed = sealed_after;
  grows = grows_after;
  below = below_after;
  fence = λ h c is may. fence_after h c;
}
