use Rattle.std.proofs.Common.{ap, ◌∙◌, ◌≡◌, ◌++◌, ◌∷◌, [], None, Some, sym, cond}
use Rattle.std.specs.Map.{lookup}
use Rattle.indexmap.proofs.MapLemmas.{absent_from_lookup, insert_entry-absent}
use Rattle.mr_ids.specs.contracts.id.AttemptIdPartialEq.TheImpl.{eq-value}
use Rattle.mr_grant.specs.Attempts.{same_attempt}
use Rattle.mr_grant.proofs.Same.{the_same}
use Rattle.mr_master_tables.specs.Launches.{Entries}
use Rattle.mr_master_tables.proofs.launches.Entries.push_reserved.Goals as goal

pub returns-clause-last : goal.returns-clause-last
returns-clause-last c = λ absent.
    let es = c.self.inside.map.entries in
    let none : lookup (eq-value.it c.args.attempt) es ≡ None =
    (λ j. lookup (the_same j c.args.attempt) es) ∙ ap (λ (x : Entries). lookup (same_attempt c.args.attempt) x.entries) c.self.view_is ∙ absent in
    (rw c.unwrap.ensures at c.insert.ensures.entries)
    ∙ insert_entry-absent eq-value.it c.args.attempt c.args.launch es (absent_from_lookup (eq-value.it c.args.attempt) es none)
    ∙ ap (λ (x : Entries). x.entries ++ (c.args.attempt, c.args.launch) ∷ []) c.self.view_is

pub returns-clause-looked : goal.returns-clause-looked
returns-clause-looked c = λ a.
    let es = c.self.inside.map.entries in
    let updated = rw c.unwrap.ensures at c.insert.ensures.updates in
    (λ j. lookup (sym the_same j a) c.insert.new.self.entries)
    ∙ updated.0 a
    ∙ (λ j. cond (the_same j c.args.attempt a) (Some c.args.launch) (lookup (the_same j a) es))
    ∙ ap (λ (x : Entries). cond (same_attempt c.args.attempt a) (Some c.args.launch) (lookup (same_attempt a) x.entries)) c.self.view_is
