use Rattle.std.proofs.Common.{ap, ◌∙◌, List, ℕ}
use Rattle.std.specs.Map.{lookup}
use Rattle.mr_ids.specs.Attempt.{Attempt}
use Rattle.mr_grant.specs.Attempts.{same_attempt}
use Rattle.mr_grant.proofs.Same.{the_same}
use Rattle.mr_master_tables.proofs.successes.Places.of.Goals as goal

pub returns : goal.returns
returns c =
    c.copied.ensures ∙ c.get.ensures.value ∙ (λ j. lookup (the_same j c.args.attempt.now) c.self.inside.map.entries)
    ∙ ap (λ (x : List (Attempt × (ℕ × ℕ))). lookup (same_attempt c.args.attempt.now) x) c.self.view_is
