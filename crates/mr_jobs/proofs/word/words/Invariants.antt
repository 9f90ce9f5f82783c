use Rattle.std.proofs.Common.{◌≡◌, not, map, filter, List, ℕ, Bor}
use Rattle.mr_jobs.specs.Words.{is_empty}
use Rattle.mr_jobs.proofs.word.words.Given as goal

abbrev pub invariant-loop-word : goal.invariant-loop-word
invariant-loop-word l = map (λ (word : Bor (List ℕ)). word.now) l.words.items ≡ filter (λ word. not (is_empty word)) (map (λ (word : Bor (List ℕ)). word.now) l.yielded)
