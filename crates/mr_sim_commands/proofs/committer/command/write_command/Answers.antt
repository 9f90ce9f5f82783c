use Rattle.std.proofs.Common.{◌≡◌, Some, None, sym, ap, ◌∙◌}
use Rattle.mr_script.specs.Lines.{before, after}
use Rattle.mr_script.specs.Words.{attempt_word}
use Rattle.mr_script.proofs.Attempts.{no_space-attempt_word}
use Rattle.mr_script.proofs.Words.{before-by, after-by}
use Rattle.mr_sim_commands.proofs.committer.command.write_command.Goals as goal

pub returns-in_default-clause-none : goal.returns-in_default-clause-none
returns-in_default-clause-none c a text h k e =
    let p : None ≡ Some text = sym c.in_default.ensures.none.1 ∙ ap (after 32) e ∙ after-by 32 (attempt_word a) text (no_space-attempt_word a) in
    cc

pub returns-in_default-reduce_attempt-clause-none : goal.returns-in_default-reduce_attempt-clause-none
returns-in_default-reduce_attempt-clause-none c a text h k e =
    let read = c.reduce_attempt.ensures.only a h k (sym c.in-Some.ensures.some.0 ∙ ap (before 32) e ∙ before-by 32 (attempt_word a) text (no_space-attempt_word a)) in
    cc
