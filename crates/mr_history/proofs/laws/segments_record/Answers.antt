use Rattle.mr_history.proofs.Segments.{told_fresh, told_appended, told_flushed, told_sealed, sealed_stays, tail_len}
use Rattle.mr_history.proofs.laws.segments_record.Goals as goal

pub returns : goal.returns
returns c = record {
  of_fresh = told_fresh;
  of_appended = told_appended;
  of_flushed = told_flushed;
  of_sealed = told_sealed;
  stays = sealed_stays;
  tail_len = tail_len;
}
