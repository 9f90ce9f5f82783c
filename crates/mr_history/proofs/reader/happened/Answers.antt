use Rattle.std.proofs.Common.{Some, sym, ap, ◌∙◌}
use Rattle.mr_history.proofs.Endings.{only_ended, reduced, failed}
use Rattle.mr_history.proofs.reader.happened.Goals as goal

pub returns-in_default-after-2-clause-only : goal.returns-in_default-after-2-clause-only
returns-in_default-after-2-clause-only c r h e = elim (only_ended c.args.attempt c.args.text.now r e c.in_default.ensures c.in_default-after.ensures c.in_default-after-2.ensures) [
  | reduced is text ↦ c.ended.ensures.reduce text ∙ ap Some (sym is)
  | failed is text ↦ c.ended.ensures.failed text ∙ ap Some (sym is)
]
