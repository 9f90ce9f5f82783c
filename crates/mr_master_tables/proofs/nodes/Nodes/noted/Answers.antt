use Rattle.std.proofs.Common.{ℕ, List, ap, ◌∙◌}
use Rattle.std.specs.Map.{keys_of}
use Rattle.mr_master_tables.proofs.nodes.Nodes.noted.Goals as goal

pub returns : goal.returns
returns c = c.as_slice.ensures ∙ c.keys.ensures.rest ∙ ap (λ (es : List (ℕ × ℕ)). keys_of es) c.self.view_is
