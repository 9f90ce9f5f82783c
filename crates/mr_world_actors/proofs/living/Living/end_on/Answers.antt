use Rattle.std.proofs.Common.{rules, refl, ◌≡◌}
use Rattle.std.proofs.lemmas.Map.Entries.{filter_from_retain_pairs}
use Rattle.mr_world_actors.specs.Living.{kept, stays}
use Rattle.mr_world_actors.proofs.Ending.{ended_on}
use Rattle.mr_world_actors.proofs.living.Living.end_on.Goals as goal

pub returns : goal.returns
unfolding kept
returns c = ended_on c.args.n c.args.self.now.machines.entries c.retain.new.self.entries c.retain.ensures.was_ordered
    (filter_from_retain_pairs _ (λ g. g.0.now ≡ c.args.n) (λ e. stays c.args.n e.1) (λ g k v b w f i t. search rules) _ _ _ refl c.retain.ensures.filtered)
