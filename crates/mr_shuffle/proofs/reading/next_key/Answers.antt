use Rattle.std.proofs.Common.{◌∙◌, refl, sym}
use Rattle.mr_shuffle.proofs.reading.next_key.Goals as goal

pub returns-then-falls-clause-fault : goal.returns-then-falls-clause-fault
returns-then-falls-clause-fault g c = (c.in-Ok.pair, c.in-Ok.len, c.in-Ok.ensures.read, sym c.falls.ensures ∙ c.if-falls.true)

pub returns-else-falls-clause-reads : goal.returns-else-falls-clause-reads
returns-else-falls-clause-reads g c = record { pair = c.in-Ok.pair; read = c.in-Ok.ensures.read; level = sym c.falls.ensures ∙ c.if-falls.false; is_last = refl }
