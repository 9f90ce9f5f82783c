use Rattle.mr_script.proofs.Verbs.{no-verb}
use Rattle.mr_script.proofs.line.command_in.Goals as goal

pub returns-in_default-verb_named-clause-none : goal.returns-in_default-verb_named-clause-none
returns-in_default-verb_named-clause-none c = no-verb c.args.job c.args.line.now c.in-Some.word.now c.in-Some.ensures.some.0 c.in_default-verb_named.ensures.none
