use Rattle.std.proofs.Common.{rules, of_calls}
use Rattle.std.proofs.lemmas.Fn.{always_returns_same}
use Rattle.mr_recover.specs.declared.winner.TaskWinner.{TaskWinner}
use Rattle.mr_recover.specs.inner.Placing.{task_cmp}
use Rattle.mr_recover.proofs.Searching.{searched}
use Rattle.mr_recover.proofs.winner.search.Goals as goal

pub returns : goal.returns
returns c =
    let facts = c.binary_search_by.ensures in
    let position = facts.position (λ (x : TaskWinner). task_cmp x.task c.args.task.now) (always_returns_same _ _ _ (λ a r f called. search (rules, of_calls))) in
    let both = searched c.args.winners.now c.args.task.now c.binary_search_by.result c.requires facts.bound position in
    record { found = both.0; absent = both.1 }
