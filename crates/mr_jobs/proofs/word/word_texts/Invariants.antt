use Rattle.std.proofs.Common.{◌≡◌, take, map}
use Rattle.mr_jobs.proofs.word.word_texts.Given as goal

abbrev pub invariant-loop-word : goal.invariant-loop-word
invariant-loop-word l = l.texts.items ≡ map (λ word. word.now) (take l.word-index l.word-items)
