use Rattle.std.proofs.Common.{sym, ◌∙◌}
use Rattle.std.proofs.lemmas.Bool.Decides.{Decides-eqb}
use Rattle.std.proofs.lemmas.Slice.Eq.{slice_eq-Decides}
use Rattle.mr_out_layout.proofs.lines.is_text.Goals as goal

pub returns-clause-yes : goal.returns-clause-yes
returns-clause-yes c = λ t. (slice_eq-Decides Decides-eqb c.args.bytes.now c.as_bytes.result.now c.eq.result c.eq.ensures).0 t ∙ c.as_bytes.ensures.value

pub returns-clause-no : goal.returns-clause-no
returns-clause-no c = λ e. (slice_eq-Decides Decides-eqb c.args.bytes.now c.as_bytes.result.now c.eq.result c.eq.ensures).1 (e ∙ sym c.as_bytes.ensures.value)
