-- What the opening world's content holds: the root and the staging folder alone.
use Rattle.std.proofs.Common.{◌≡◌, refl, ◌∙◌, [], ◌∷◌, ◌++◌, None, inl}
use Rattle.std.specs.FinMap as finite
use Rattle.mr_paths.specs.Path.{path_cmp}
use Rattle.mr_world_model.specs.Ids.{Path, Name, dest, staged, staging_name}
use Rattle.mr_world_model.specs.Content.{Dir, entry_at, put}
use Rattle.mr_world_model.specs.World.{opening_world}
use Rattle.mr_world_model.proofs.Paths.{put-other}
use Rattle.mr_world_model.proofs.Files.{append-inj}
use Rattle.mr_world_model.proofs.Apart.{diverge-ne}

-- nothing but these two
pub opening-empty : (p : Path) → (staged ≡ p → ⊥) → ([] ≡ p → ⊥) → entry_at opening_world.content p ≡ None
opening-empty p n m = put-other (put finite.empty [] Dir) staged Dir p n ∙ (put-other finite.empty [] Dir p m ∙ finite.get-empty path_cmp p)

pub opening-dest : (x : Path) → entry_at opening_world.content (dest ++ x) ≡ None
opening-dest x = opening-empty (dest ++ x) (λ e. diverge-ne staged dest [] x (inl refl) e) (λ e. cc)

pub opening-mark : (n : Name) → entry_at opening_world.content (staging_name ∷ n ∷ []) ≡ None
opening-mark n = opening-empty (staging_name ∷ n ∷ []) (λ e. let q : [] ≡ n ∷ [] = append-inj (staging_name ∷ []) [] (n ∷ []) e in cc) (λ e. cc)
