use Rattle.std.proofs.Common.{◌≡◌, map, List, ℕ, Bor}
use Rattle.percent_encoding.specs.Percent.{percent_decode}
use Rattle.mr_call_words.proofs.word.words_in.Given as goal

abbrev pub invariant-loop-word : goal.invariant-loop-word
invariant-loop-word l = l.words.items ≡ map percent_decode (map (λ (word : Bor (List ℕ)). word.now) l.yielded)
