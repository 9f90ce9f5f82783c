-- The containers of a node leave the map of the living.
use Rattle.std.proofs.Common.{◌≡◌, ℕ, refl, ◌∙◌, ap, Bool, true, false, not, nat_eq, List, Option, Some, None, cond, filter}
use Rattle.std.proofs.lemmas.Cmp.{eq_by_cmp_equiv, then_total, on_total, nat_cmp_total}
use Rattle.std.proofs.lemmas.Map.Entries.{lookup-filter-values, option_filter}
use Rattle.std.proofs.lemmas.Map.Keys.{IsDistinct-from_sorted}
use Rattle.std.specs.BTreeMap.{is_at}
use Rattle.std.specs.Cmp.{IsTotalOrder}
use Rattle.std.specs.List.Sorted.{IsStrictlySortedBy}
use Rattle.std.specs.Map.{keys_of, lookup}
use Rattle.mr_container.specs.State.{Container}
use Rattle.mr_world_model.specs.Ids.{ContainerId}
use Rattle.mr_world_actors.specs.Living.{container_cmp}
use Rattle.mr_world_actors.specs.Living.{stays, unless_on}

total : IsTotalOrder container_cmp
total = then_total (on_total (λ (c : ContainerId). c.app) nat_cmp_total) (on_total (λ (c : ContainerId). c.number) nat_cmp_total)

filtered-is : (n : ℕ) (o : Option Container) → option_filter (stays n) o ≡ unless_on n o
filtered-is n None = refl
filtered-is n (Some m) = by (nat_eq m.place.node n)
  where
    by : (b : Bool) → cond (not b) (Some m) None ≡ cond b None (Some m)
    by true = refl
    by false = refl

pub ended_on : (n : ℕ) (es fs : List (ContainerId × Container)) → IsStrictlySortedBy container_cmp (keys_of es) → fs ≡ filter (λ e. stays n e.1) es → (d : ContainerId) → lookup (is_at (container_cmp d)) fs ≡ unless_on n (lookup (is_at (container_cmp d)) es)
ended_on n es fs sorted is d = ap (lookup (is_at (container_cmp d))) is ∙ (lookup-filter-values (eq_by_cmp_equiv total) (stays n) d es (IsDistinct-from_sorted container_cmp (keys_of es) sorted) ∙ filtered-is n (lookup (is_at (container_cmp d)) es))
