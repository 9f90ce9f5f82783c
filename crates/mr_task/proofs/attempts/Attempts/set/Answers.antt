use Rattle.std.proofs.Common.{ap, sym, ◌∙◌, ◌≡◌, List, Some, Option, length, is_some, false, ℕ}
use Rattle.std.specs.List.{position}
use Rattle.std.specs.Map.{lookup, keys_of}
use Rattle.indexmap.specs.Layout.{length-set_value_at}
use Rattle.mr_ids.specs.Attempt.{Attempt}
use Rattle.mr_grant.specs.Attempts.{same_attempt}
use Rattle.mr_grant.proofs.Same.{the_same}
use Rattle.mr_task.specs.declared.attempts.Entry.{Entry}
use Rattle.mr_task.specs.Steps.{entry_in, with_entry}
use Rattle.mr_task.proofs.Tables.{place-set, absent-set}
use Rattle.mr_task.proofs.attempts.Attempts.set.Goals as goal

pub returns-in-Some-clause-set : goal.returns-in-Some-clause-set
returns-in-Some-clause-set c =
    let es = c.self.inside.entries.entries in
    let p : position (same_attempt c.args.attempt.now) (keys_of es) ≡ Some c.in-Some.place =
    sym (c.in-Some.ensures.index ∙ (λ j. position (the_same j c.args.attempt.now) (keys_of es))) in
    place-set c.args.attempt.now es c.in-Some.place c.args.entry p
    ∙ ap (λ (xs : List (Attempt × Entry)). with_entry xs c.args.attempt.now c.args.entry) c.self.view_is

pub returns-in_default-clause-set : goal.returns-in_default-clause-set
returns-in_default-clause-set c =
    let none : is_some (entry_in c.args.self.now c.args.attempt.now) ≡ false =
    ap (λ (xs : List (Attempt × Entry)). is_some (entry_in xs c.args.attempt.now)) (sym c.self.view_is)
    ∙ sym (λ j. is_some (lookup (the_same j c.args.attempt.now) c.self.inside.entries.entries)) ∙ sym c.get_index_of.ensures.found ∙ ap (λ (o : Option ℕ). is_some o) c.in_default.is in
    sym (absent-set c.args.attempt.now c.args.self.now c.args.entry none)

pub returns-in-Some-clause-len : goal.returns-in-Some-clause-len
returns-in-Some-clause-len c = length-set_value_at c.self.inside.entries.entries c.in-Some.place c.args.entry ∙ ap (λ (xs : List (Attempt × Entry)). length xs) c.self.view_is
