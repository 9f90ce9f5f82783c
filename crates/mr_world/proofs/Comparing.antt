-- Where the parts of two worlds hold the same, and the same outcome was told, the worlds are alike.
use Rattle.std.proofs.Common.{◌≡◌, ◌∙◌, ◌↔◌, Bool, IsTrue, Option, sym}
use Rattle.mr_world_model.specs.Results.{outcome}
use Rattle.mr_world_model.specs.World.{World}
use Rattle.mr_world_alike.specs.Alike.{Alike}
use Rattle.mr_world_same.proofs.Alike.{same_is_alike}
use Rattle.mr_world_state.specs.Same.{SameParts}
use Rattle.mr_world_state.specs.Standing.{Standing}
use Rattle.mr_world_state.specs.declared.parts.Parts.{Parts}

pub same_told : (p q : Parts) (x : Bool) (first second : Option Bool) → ((w : World) → Standing p w → first ≡ outcome w) → ((u : World) → Standing q u → second ≡ outcome u) → first ≡ second
    → (IsTrue x ↔ SameParts p q) → IsTrue x → (w u : World) → Standing p w → Standing q u → Alike p.config w u
same_told p q x first second a b one is holds w u s t = same_is_alike p q w u s t (is.0 holds) (sym (a w s) ∙ (one ∙ b u t))
