use Rattle.mr_history.proofs.Staying.{history_new, history_after, segment_sound}
use Rattle.mr_history.proofs.laws.histories_stay.Goals as goal

pub returns : goal.returns
returns c = record {
  of_new = history_new;
  of_change = history_after;
  each = segment_sound;
}
