use Rattle.std.proofs.Common.{◌∙◌, sym, subst, ap, ◌++◌, ◌∷◌, []}
use Rattle.mr_history.specs.declared.record.Record.{Record}
use Rattle.mr_ids.specs.declared.id.TaskId.{TaskId}
use Rattle.mr_master_tables.specs.Earlier.{TellsSpots}
use Rattle.mr_master_tables.specs.Spots.{has_spot}
use Rattle.mr_master_tables.proofs.Spreading.{on-ok}
use Rattle.mr_master_tables.proofs.Placing.{spots-more, spots-same, told-is}
use Rattle.mr_master_tables.proofs.successes.note_spot.Goals as goal

pub returns-in_default : goal.returns-in_default
returns-in_default c = λ rs tells. spots-same c.args.spread.now c.args.told.now c.in_default.ensures rs tells

pub returns : goal.returns
returns c = on-ok c.add.result _ _ (λ there rs tells.
    let s = c.in-Some.success in
    subst (λ (r : Record). TellsSpots c.add.new.self (rs ++ r ∷ [])) (sym (told-is c.args.told.now s.0 s.1 s.2 c.in-Some.ensures))
    (spots-more c.args.spread.now c.add.new.self s.0 s.1 s.2 c.add.ensures.kept (ap (λ (t : TaskId). has_spot c.add.new.self t.kind s.1 t.number) (sym c.task.ensures) ∙ there) rs tells)) c.add.ensures.added
