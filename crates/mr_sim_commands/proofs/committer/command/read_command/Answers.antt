use Rattle.std.proofs.Common.{None, ◌∙◌}
use Rattle.mr_sim_commands.proofs.committer.Verbs.{bad_from_rest, bad_from_word}
use Rattle.mr_sim_commands.proofs.committer.command.read_command.Goals as goal

pub returns-in-None-verb_named-clause-none : goal.returns-in-None-verb_named-clause-none
returns-in-None-verb_named-clause-none c = bad_from_word c.args.line.now c.in-Some.word.now c.in-Some.ensures.some.0 c.in-None-verb_named.ensures.none

pub returns-in-Some-verb_named-2-clause-none : goal.returns-in-Some-verb_named-2-clause-none
returns-in-Some-verb_named-2-clause-none c =
    bad_from_rest c.command_of_word.result c.args.line.now c.in-Some-verb_named-2.verb None (c.in-None.ensures.none.0 ∙ c.in-Some-verb_named-2.ensures.some) c.in-None.ensures.none.1 c.command_of_word.ensures.none

pub returns-in-None-verb_named-2-clause-none : goal.returns-in-None-verb_named-2-clause-none
returns-in-None-verb_named-2-clause-none c = bad_from_word c.args.line.now c.args.line.now c.in-None.ensures.none.0 c.in-None-verb_named-2.ensures.none
