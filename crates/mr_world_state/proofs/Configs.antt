-- What each config tells of its splits.
use Rattle.std.proofs.Common.{◌≤◌, ◌^◌, List, [], ◌∷◌, length}
use Rattle.std.specs.List.{AllByRecursion}
use Rattle.mr_user.specs.Laws.{AreBytes}
use Rattle.mr_shuffle.specs.SequentialText.{AreSplits}
use Rattle.mr_world_model.specs.Packets.{Config}
use Rattle.mr_world_state.specs.Ranges.{IsInRange}

both : {A : Type 0} (P Q : A → Type 0) (xs : List A) → AllByRecursion P xs → AllByRecursion Q xs → AllByRecursion (λ x. P x × Q x) xs
both P Q [] p q = tt
both P Q (x ∷ xs) p q = ((p.0, q.0), both P Q xs p.1 q.1)

pub are-splits : (cfg : Config) → IsInRange cfg → AllByRecursion AreBytes cfg.splits → AreSplits cfg.splits
are-splits cfg r bytes = record { few = r.splits; bytes = both (λ split. length split ≤ 2 ^ 24) AreBytes cfg.splits r.short bytes }
