use Rattle.std.proofs.Common.{◌++◌, ◌∷◌, [], ℕ, List, ap, ◌∙◌}
use Rattle.std.proofs.lemmas.Result.{IfOk-weaker}
use Rattle.serde_json.specs.Written.{has_float, compact_text}
use Rattle.mr_log_layout.specs.Jobs.{job_line}
use Rattle.mr_log_layout.proofs.Told.{no_float}
use Rattle.mr_log_layout.proofs.job.compact.Goals as goal

pub returns : goal.returns
unfolding job_line
returns c = IfOk-weaker c.to_string.result _ _ (λ s h. ap (λ (l : List ℕ). l ++ 10 ∷ []) (h (ap has_float c.in_ok-value.ensures ∙ no_float c.args.job.now) ∙ ap compact_text c.in_ok-value.ensures)) c.to_string.ensures.text
