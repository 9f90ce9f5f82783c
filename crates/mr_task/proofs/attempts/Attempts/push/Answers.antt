use Rattle.std.proofs.Common.{ap, ◌∙◌, ◌≡◌, List, ◌++◌, ◌∷◌, [], None}
use Rattle.std.specs.Map.{lookup}
use Rattle.indexmap.proofs.MapLemmas.{absent_from_lookup, insert_entry-absent}
use Rattle.mr_ids.specs.Attempt.{Attempt}
use Rattle.mr_ids.specs.contracts.id.AttemptIdPartialEq.TheImpl.{eq-value}
use Rattle.mr_grant.proofs.Same.{the_same}
use Rattle.mr_task.specs.declared.attempts.Entry.{Entry}
use Rattle.mr_task.specs.Steps.{entry_in}
use Rattle.mr_task.proofs.attempts.Attempts.push.Goals as goal

pub returns-clause-added : goal.returns-clause-added
returns-clause-added c = λ absent.
    let es = c.self.inside.entries.entries in
    let none : lookup (eq-value.it c.args.attempt) es ≡ None =
    (λ j. lookup (the_same j c.args.attempt) es) ∙ ap (λ (xs : List (Attempt × Entry)). entry_in xs c.args.attempt) c.self.view_is ∙ absent in
    c.in_ok-insert.ensures.entries
    ∙ insert_entry-absent eq-value.it c.args.attempt c.args.entry es (absent_from_lookup (eq-value.it c.args.attempt) es none)
    ∙ ap (λ (xs : List (Attempt × Entry)). xs ++ (c.args.attempt, c.args.entry) ∷ []) c.self.view_is
