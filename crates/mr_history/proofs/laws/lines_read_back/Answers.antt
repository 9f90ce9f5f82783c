use Rattle.mr_history.specs.Line.{line_of}
use Rattle.mr_history.proofs.Lines.{read-line_of}
use Rattle.mr_history.proofs.Told.{record_of-line_of, record_of-is, version_line-none}
use Rattle.mr_history.proofs.Splits.{no_feed, line_clean}
use Rattle.mr_history.proofs.Widths.{line_short}
use Rattle.mr_history.proofs.laws.lines_read_back.Goals as goal

pub returns : goal.returns
returns c = record {
  there = record_of-line_of;
  back = record_of-is;
  is_json = λ r h. read-line_of r h.1;
  has_no_feed = λ r h. no_feed (line_of r) (line_clean r h.1);
  is_short = line_short;
  of_version = version_line-none;
}
