use Rattle.std.proofs.Common.{sym, subst, ◌∙◌, ◌++◌, ◌∷◌, [], List}
use Rattle.mr_ids.specs.declared.id.TaskId.{TaskId}
use Rattle.mr_recover.specs.declared.winner.TaskWinner.{TaskWinner}
use Rattle.mr_master_tables.specs.Earlier.{SaysListed}
use Rattle.mr_master_tables.proofs.Placing.{winners-kept, winners-more}
use Rattle.mr_master_tables.proofs.by_task.ByTask.note.Goals as goal

pub returns-then-contains_key : goal.returns-then-contains_key
returns-then-contains_key c = λ ws says.
    let w = c.args.winner.now in
    subst (λ (m : List (TaskId × TaskWinner)). SaysListed m (ws ++ w ∷ [])) c.self.view_is
    (winners-kept c.self.inside.map.entries w (sym c.contains_key.ensures ∙ c.if-contains_key.true) ws
    (subst (λ (m : List (TaskId × TaskWinner)). SaysListed m ws) (sym c.self.view_is) says))

pub returns : goal.returns
returns c = λ ws says.
    winners-more c.self.inside.map.entries c.insert.new.self.entries c.args.winner.now (sym c.contains_key.ensures ∙ c.if-contains_key.false) c.in_ok-insert.ensures.updates.0 ws
    (subst (λ (m : List (TaskId × TaskWinner)). SaysListed m ws) (sym c.self.view_is) says)
