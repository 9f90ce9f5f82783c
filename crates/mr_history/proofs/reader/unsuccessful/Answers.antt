use Rattle.std.proofs.Common.{sym, ◌∙◌}
use Rattle.mr_history.specs.Line.{line_of}
use Rattle.mr_history.proofs.reader.unsuccessful.Goals as goal

pub returns-then-is_word-clause-found : goal.returns-then-is_word-clause-found
unfolding line_of
returns-then-is_word-clause-found c = (tt, c.is_word.ensures.yes c.if-is_word.true)
