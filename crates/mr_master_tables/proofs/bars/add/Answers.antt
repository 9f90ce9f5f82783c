use Rattle.std.proofs.Common.{Bool, [], ◌∷◌, ◌++◌, ap, ◌∙◌, if◌then◌else◌}
use Rattle.std.specs.List.{list_any}
use Rattle.mr_ids.specs.Attempt.{Attempt}
use Rattle.mr_grant.proofs.Same.{the_same}
use Rattle.mr_master_tables.proofs.bars.add.Goals as goal

pub returns-clause-added : goal.returns-clause-added
returns-clause-added c =
    let keys = c.args.due.now.keys in
    (rw c.unwrap.ensures at c.insert.ensures.keys)
    ∙ ap (λ (f : Attempt → Attempt → Bool). if list_any (f c.args.attempt) keys then keys else keys ++ c.args.attempt ∷ []) the_same
