use Rattle.std.proofs.Common.{◌++◌, decimal, sym, ap, ◌∙◌}
use Rattle.std.proofs.lemmas.List.{append_cancel_right}
use Rattle.std.proofs.lemmas.Option.{IfSome_then}
use Rattle.mr_history.proofs.reader.number_before.Goals as goal

pub returns-in_default-clause-only : goal.returns-in_default-clause-only
returns-in_default-clause-only c n h e = absurd (c.in_default.ensures (decimal n) e)

pub returns-clause-found : goal.returns-clause-found
returns-clause-found c = IfSome_then c.number.result c.number.ensures.found (λ n h. (h.0, c.in-Some.ensures ∙ ap (λ l. l ++ c.args.ending.now) h.1))

pub returns-clause-only : goal.returns-clause-only
returns-clause-only c n h e = c.number.ensures.only n h (append_cancel_right c.in-Some.word.now (decimal n) c.args.ending.now (sym c.in-Some.ensures ∙ e))
