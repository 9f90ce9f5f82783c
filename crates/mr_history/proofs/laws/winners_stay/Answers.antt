use Rattle.mr_history.proofs.Winners.{winner-stays, winner-decided, winner-of}
use Rattle.mr_history.proofs.laws.winners_stay.Goals as goal

pub returns : goal.returns
returns c = record {
  stays = winner-stays;
  decided = winner-decided;
  of_task = winner-of;
}
