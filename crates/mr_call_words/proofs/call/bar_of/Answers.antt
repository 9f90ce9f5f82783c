use Rattle.std.proofs.Common.{sym, ◌∙◌}
use Rattle.mr_script.specs.Words.{attempt_word}
use Rattle.mr_call_words.proofs.call.bar_of.Goals as goal

pub returns-in-Some-clause-only : goal.returns-in-Some-clause-only
unfolding attempt_word
returns-in-Some-clause-only c a h e = let same = sym c.in-Some.is ∙ c.attempt.ensures.only a h e in cc

pub returns-in-None-clause-only : goal.returns-in-None-clause-only
unfolding attempt_word
returns-in-None-clause-only c a h e = let same = sym c.in-None.is ∙ c.attempt.ensures.only a h e in absurd cc
