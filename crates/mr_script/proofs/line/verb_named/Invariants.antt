use Rattle.std.proofs.Common.{◌≡◌, ◌<◌}
use Rattle.mr_script.specs.declared.line.Verb.{Verb}
use Rattle.mr_script.specs.Verb.{text_of}
use Rattle.mr_script.proofs.Spellings.{place_of}
use Rattle.mr_script.proofs.line.verb_named.Given as goal

abbrev pub invariant-loop-verb : goal.invariant-loop-verb
invariant-loop-verb l = (v : Verb) → place_of v < l.verb-index → l.word ≡ text_of v → ⊥
