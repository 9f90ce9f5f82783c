use Rattle.std.proofs.Common.{sym, subst, ap, cond, ◌∙◌, ◌++◌, ◌∷◌, [], List, ℕ, Some}
use Rattle.std.specs.Map.{lookup}
use Rattle.mr_ids.specs.Attempt.{Attempt}
use Rattle.mr_ids.specs.declared.id.TaskId.{TaskId}
use Rattle.mr_ids.specs.contracts.id.TaskIdPartialEq.TheImpl.{eq-value}
use Rattle.mr_history.specs.declared.record.Record.{Record}
use Rattle.mr_master_tables.specs.Earlier.{TellsNewest}
use Rattle.mr_master_tables.proofs.Placing.{newest-more, newest-same, told-is}
use Rattle.mr_master_tables.proofs.successes.Newest.note.Goals as goal

pub returns-in_default : goal.returns-in_default
returns-in_default c = λ rs tells. newest-same c.args.self.now c.args.told.now c.in_default.ensures rs tells

pub returns : goal.returns
returns c = λ rs tells.
    let old = c.self.inside.map.entries in
    let new = c.insert.new.self.entries in
    let s = c.in-Some.success in
    subst (λ (r : Record). TellsNewest new (rs ++ r ∷ [])) (sym (told-is c.args.told.now s.0 s.1 s.2 c.in-Some.ensures))
    (newest-more old new s.0 s.1 s.2 (λ t. c.in_ok-insert.ensures.updates.0 t ∙ ap (λ (u : TaskId). cond (eq-value.it u t) (Some s) (lookup (eq-value.it t) old)) c.task.ensures) rs
    (subst (λ (m : List (TaskId × (Attempt × ℕ × ℕ))). TellsNewest m rs) (sym c.self.view_is) tells))
