use Rattle.mr_history.proofs.Splits.{torn-append}
use Rattle.mr_history.proofs.Tellings.{records-append, tells_lines}
use Rattle.mr_history.proofs.Segments.{length-lines}
use Rattle.mr_history.proofs.laws.lines_replay.Goals as goal

pub returns : goal.returns
returns c = record {
  both = λ version bytes more none. (records-append version bytes more none, torn-append bytes more none);
  of_lines = tells_lines;
  len = length-lines;
}
