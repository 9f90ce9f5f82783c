use Rattle.std.proofs.Common.{ap, ◌∙◌}
use Rattle.std.proofs.lemmas.Result.{IfOk-weaker}
use Rattle.serde_json.specs.Written.{has_float, compact_text}
use Rattle.mr_history.proofs.Lines.{has_float-value_of, compact-value_of}
use Rattle.mr_history.proofs.line.line.Goals as goal

pub returns : goal.returns
returns c = IfOk-weaker c.to_string.result _ _ (λ s h. h (ap has_float c.in_ok-value.ensures ∙ has_float-value_of c.args.record.now) ∙ ap compact_text c.in_ok-value.ensures ∙ compact-value_of c.args.record.now) c.to_string.ensures.text
