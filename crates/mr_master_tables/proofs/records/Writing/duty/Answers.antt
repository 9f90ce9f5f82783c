use Rattle.std.proofs.Common.{sym, subst, ◌∙◌, ap, length, List, arith}
use Rattle.mr_history.specs.declared.record.Record.{Record}
use Rattle.mr_master_tables.specs.Records.{Writing, KeepsRecords}
use Rattle.mr_master_tables.proofs.Listing.{empty-due}
use Rattle.mr_master_tables.proofs.records.Writing.duty.Goals as goal

pub returns-then-len-eq0 : goal.returns-then-len-eq0
returns-then-len-eq0 c = λ due tail keeps.
    let k = subst (λ (x : Writing). KeepsRecords x due tail) (sym c.self.view_is) keeps in
    let e = ap (λ (l : List Record). length l) k.due in
    c.flush_duty.ensures due tail keeps ∙ empty-due due tail (omega (arith, e, c.len.ensures, c.if-len-eq0.true))
