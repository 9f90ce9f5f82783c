-- What a merge gives: the first of its groups.
use Rattle.std.proofs.Common.{◌≡◌, ◌∙◌, ◌<◌, ◌++◌, ◌∷◌, List, Option, Some, length, sym, ap, subst, arith, append_assoc}
use Rattle.std.specs.List.{flat_map}
use Rattle.mr_mapside.specs.Runs.{GivesGroup}

-- the group that is given is the first
pub first_given : {K V W : Type 0} (values : W → List V) (before after : List (K × List V)) (found : Option (K × W)) (group : K × W) → found ≡ Some group → GivesGroup values before found after → before ≡ (group.0, values group.1) ∷ after
first_given values before after found group is gives = subst (λ o. GivesGroup values before o after) is gives

-- and then fewer are left
pub fewer_left : {G : Type 0} (groups after : List G) (group : G) → groups ≡ group ∷ after → length after < length groups
fewer_left groups after group first = omega (arith, ap length first)

-- one group more is written
pub written_then : {G A : Type 0} (text : G → List A) (all was now : List A) (groups after : List G) (group : G) → all ≡ was ++ flat_map text groups → groups ≡ group ∷ after → now ≡ was ++ text group → all ≡ now ++ flat_map text after
written_then text all was now groups after group so_far first is =
    so_far ∙ ap (λ gs. was ++ flat_map text gs) first ∙ sym (append_assoc was (text group) (flat_map text after)) ∙ ap (λ w. w ++ flat_map text after) (sym is)
