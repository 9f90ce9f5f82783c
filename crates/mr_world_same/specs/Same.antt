-- When the parts of two worlds hold the same, their worlds are alike. Our own: where code and definitions meet.
use Rattle.std.specs.Prelude.{◌≡◌}
use Rattle.mr_world_model.specs.World.{World}
use Rattle.mr_world_model.specs.Results.{outcome}
use Rattle.mr_world_alike.specs.Alike.{Alike}
use Rattle.mr_world_state.specs.declared.parts.Parts.{Parts}
use Rattle.mr_world_state.specs.Standing.{Standing}
-- the words of mr_world_state: what a comparison of parts has to find equal
pub use Rattle.mr_world_state.specs.Same.{SameParts}

-- the worlds that they stand for are alike, if the same outcome was told
abbrev pub WhatIsSameIsAlike : Type 0
WhatIsSameIsAlike = (p q : Parts) (w u : World) → Standing p w → Standing q u → SameParts p q → outcome w ≡ outcome u → Alike p.config w u
