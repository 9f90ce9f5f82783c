use Rattle.std.proofs.Common.{◌≡◌, ◌<◌}
use Rattle.mr_sim_commands.specs.declared.committer.command.Verb.{Verb}
use Rattle.mr_sim_commands.specs.inner.Verb.{verb_text}
use Rattle.mr_sim_commands.proofs.committer.Verbs.{place_of}
use Rattle.mr_sim_commands.proofs.committer.command.verb_named.Given as goal

abbrev pub invariant-loop-verb : goal.invariant-loop-verb
invariant-loop-verb l = (v : Verb) → place_of v < l.verb-index → l.word ≡ verb_text v → ⊥
