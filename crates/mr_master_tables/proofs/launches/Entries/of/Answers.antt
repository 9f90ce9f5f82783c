use Rattle.std.proofs.Common.{ap, ◌∙◌}
use Rattle.std.specs.Map.{lookup}
use Rattle.mr_grant.specs.Attempts.{same_attempt}
use Rattle.mr_grant.proofs.Same.{the_same}
use Rattle.mr_master_tables.specs.Launches.{Entries}
use Rattle.mr_master_tables.proofs.launches.Entries.of.Goals as goal

pub returns : goal.returns
returns c =
    c.copied.ensures ∙ c.get.ensures.value ∙ (λ j. lookup (the_same j c.args.attempt.now) c.self.inside.map.entries)
    ∙ ap (λ (x : Entries). lookup (same_attempt c.args.attempt.now) x.entries) c.self.view_is
