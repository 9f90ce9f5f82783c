use Rattle.std.proofs.Common.{codes}
use Rattle.mr_trace_marks.specs.Words.{at_event}
use Rattle.mr_trace_marks.proofs.Appended.{appended}
use Rattle.mr_trace_marks.proofs.fate_words.put_commit.Goals as goal

pub returns : goal.returns
returns c = appended c.put_words.result c.put_words.new.out.items c.args.out.now.items (codes " It had committed") (at_event c.args.place) c.put_words.ensures
