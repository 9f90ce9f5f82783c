use Rattle.std.proofs.Common.{◌++◌, codes, decimal, sym, ap, ◌∙◌}
use Rattle.std.proofs.lemmas.List.{append_cancel_left}
use Rattle.std.proofs.lemmas.Option.{IfSome_then}
use Rattle.mr_history.proofs.reader.node_in.Goals as goal

pub returns-in_default-clause-only : goal.returns-in_default-clause-only
returns-in_default-clause-only c n h e = absurd (c.in_default.ensures (decimal n ++ codes "}") e)

pub returns-clause-found : goal.returns-clause-found
returns-clause-found c = IfSome_then c.number_before.result c.number_before.ensures.found (λ n h. (h.0, c.in-Some.ensures ∙ ap (λ l. codes "\"node\":" ++ l) h.1))

pub returns-clause-only : goal.returns-clause-only
returns-clause-only c n h e = c.number_before.ensures.only n h (append_cancel_left (codes "\"node\":") c.in-Some.rest.now (decimal n ++ codes "}") (sym c.in-Some.ensures ∙ e))
