use Rattle.std.proofs.Common.{sym, ◌∙◌}
use Rattle.std.proofs.lemmas.Bool.{false≢true}
use Rattle.mr_log_layout.proofs.job.parsed.Goals as goal

pub returns-in-Err-2-clause-told : goal.returns-in-Err-2-clause-told
returns-in-Err-2-clause-told c = c.in-Err.ensures.err (λ m. false≢true (sym c.if-is_memory.false ∙ c.is_memory.ensures.1 m))
