use Rattle.std.proofs.Common.{◌≡◌, ◌<◌}
use Rattle.mr_task_talk.specs.Line.{verb_text}
use Rattle.mr_task_talk.specs.declared.line.Verb.{Verb}
use Rattle.mr_task_talk.proofs.Verbs.{place_of}
use Rattle.mr_task_talk.proofs.line.verb_named.Given as goal

abbrev pub invariant-loop-verb : goal.invariant-loop-verb
invariant-loop-verb l = (v : Verb) → place_of v < l.verb-index → l.word ≡ verb_text v → ⊥
