use Rattle.std.proofs.Common.{◌≡◌, Ok, sym, ◌∙◌, rules}
use Rattle.std.specs.Prelude.{IsUtf8}
use Rattle.std.proofs.lemmas.Str.{IsUtf8-from_ascii}
use Rattle.mr_sim_commands.specs.committer.Script.{task_word}
use Rattle.mr_sim_commands.proofs.committer.Tasks.{IsAscii-task_word}
use Rattle.mr_sim_commands.proofs.committer.command.task.Goals as goal

pub returns-in_default-clause-only : goal.returns-in_default-clause-only
returns-in_default-clause-only c a h e =
    let text : IsUtf8 c.args.word.now = rw e (IsUtf8-from_ascii (task_word a) (IsAscii-task_word a)) in
    absurd (c.in_default.ensures.cases.0 text)

pub returns-in-Err-clause-only : goal.returns-in-Err-clause-only
unfolding task_word
returns-in-Err-clause-only c a h e =
    let read : c.parse.result ≡ Ok a = c.parse.ensures.only a h (c.in-Ok.ensures.cases.0 ∙ e) in
    absurd (cc)

pub returns-in-Ok-parse-clause-found : goal.returns-in-Ok-parse-clause-found
unfolding task_word
returns-in-Ok-parse-clause-found c = (search rules, sym c.in-Ok.ensures.cases.0 ∙ c.in-Ok-parse.ensures.found)

pub returns-in-Ok-parse-clause-only : goal.returns-in-Ok-parse-clause-only
unfolding task_word
returns-in-Ok-parse-clause-only c a h e =
    let read : c.parse.result ≡ Ok a = c.parse.ensures.only a h (c.in-Ok.ensures.cases.0 ∙ e) in
    cc
