use Rattle.std.proofs.Common.{drop}
use Rattle.serde_json.specs.View.{items_view}
use Rattle.mr_pipe_json.proofs.Joins.{Puts}
use Rattle.mr_pipe_json.proofs.told.put_words.Given as goal

abbrev pub invariant-loop-word : goal.invariant-loop-word
invariant-loop-word l = Puts l.fn.out.items l.out.items (items_view (drop l.word-index l.words)) (items_view l.words)
