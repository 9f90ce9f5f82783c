-- A copy keeps the same machine of each container.
use Rattle.std.proofs.Common.{◌≡◌, ap, List}
use Rattle.std.proofs.lemmas.List.Elements.{same_from_all_zip}
use Rattle.std.specs.BTreeMap.{is_at}
use Rattle.std.specs.List.{AllZip}
use Rattle.std.specs.Map.{lookup}
use Rattle.mr_container.specs.State.{Container}
use Rattle.mr_world_model.specs.Ids.{ContainerId}
use Rattle.mr_world_actors.specs.declared.living.Living.{Living}
use Rattle.mr_world_actors.specs.Living.{container_cmp, kept, Same}

abbrev SameEntry : ContainerId × Container → ContainerId × Container → Type 0
SameEntry p q = (q.0 ≡ p.0) × (q.1 ≡ p.1)

same_entries : (xs ys : List (ContainerId × Container)) → AllZip SameEntry xs ys → ys ≡ xs
same_entries xs ys all = same_from_all_zip SameEntry xs ys all (λ p q same. λ i. (same.0 i, same.1 i))

pub living_copied : (old new : Living) → AllZip SameEntry old.machines.entries new.machines.entries → Same old new
unfolding kept
living_copied old new all d = ap (lookup (is_at (container_cmp d))) (same_entries old.machines.entries new.machines.entries all)
