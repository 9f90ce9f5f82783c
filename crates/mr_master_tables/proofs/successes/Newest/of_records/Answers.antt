use Rattle.std.proofs.Common.{◌∙◌, sym, subst, ap, take, List, ◌++◌, ◌∷◌, []}
use Rattle.std.proofs.lemmas.List.{take_more}
use Rattle.mr_history.specs.declared.record.Record.{Record}
use Rattle.mr_master_tables.specs.Earlier.{TellsNewest}
use Rattle.mr_master_tables.proofs.successes.Newest.of_records.Goals as goal

pub loop-told-preserved : goal.loop-told-preserved
loop-told-preserved c =
    let rs = c.args.records.now in
    let i = c.loop-told.told-index in
    let more = take_more rs i c.told-item.result c.loop-told-test.true in
    subst (λ (l : List Record). TellsNewest c.note.new.self l) (ap (λ (r : Record). take i rs ++ r ∷ []) c.told-item.is ∙ sym more)
    (c.in_ok-note.ensures (take i rs) c.loop-told.invariant)
