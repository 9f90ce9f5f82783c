use Rattle.mr_log_standing.proofs.Winning.{winner-stays, winner-decided, winner-task, win-stays, win-is, has-win, begun-stays, lines-both}
use Rattle.mr_log_standing.proofs.laws.winners_stay.Goals as goal

pub returns : goal.returns
returns c = record {
  stays = winner-stays;
  decided = winner-decided;
  of_task = winner-task;
  win_stays = win-stays;
  win_is = win-is;
  has_win = has-win;
  begun_stays = begun-stays;
  lines = lines-both;
}
