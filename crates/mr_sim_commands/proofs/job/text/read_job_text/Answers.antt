use Rattle.std.proofs.Common.{sym, ◌∙◌}
use Rattle.std.proofs.lemmas.Bool.{false≢true}
use Rattle.std.proofs.lemmas.Str.{is_utf8-from_IsUtf8}
use Rattle.mr_sim_commands.specs.job.Text.{submission_of}
use Rattle.mr_sim_commands.proofs.job.Texts.{refused}
use Rattle.mr_sim_commands.proofs.job.text.read_job_text.Goals as goal

pub returns-in-Ok-clause-said : goal.returns-in-Ok-clause-said
unfolding submission_of
returns-in-Ok-clause-said c = rw (is_utf8-from_IsUtf8 c.args.text.now c.in-Ok.ensures.ok.0, c.in-Ok.ensures.ok.1) c.submission_in.ensures.said

pub returns-in-Err-2-clause-said : goal.returns-in-Err-2-clause-said
returns-in-Err-2-clause-said c = refused c.args.text.now (c.in-Err.ensures.err (λ m. false≢true (sym c.if-is_memory.false ∙ c.is_memory.ensures.1 m)))
