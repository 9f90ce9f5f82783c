use Rattle.std.proofs.Common.{ℕ, List}
use Rattle.mr_jobs.proofs.Joining.{mapped_more}
use Rattle.mr_jobs.proofs.word_count.counted.Goals as goal

pub loop-word-init : goal.loop-word-init
loop-word-init c = c.new-pairs.ensures.items

pub loop-word-preserved : goal.loop-word-preserved
loop-word-preserved c = mapped_more (λ (word : List ℕ). (word, 1)) c.loop-word.pairs.items c.push.new.self.items c.loop-word.yielded c.in-Some.word c.loop-word.invariant c.in_ok-push.ensures.items
