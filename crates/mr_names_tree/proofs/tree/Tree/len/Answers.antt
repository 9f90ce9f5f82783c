use Rattle.std.proofs.Common.{◌∙◌, ap}
use Rattle.std.specs.FinMap as finite
use Rattle.mr_names_tree.proofs.Counting.{len_is}
use Rattle.mr_names_tree.proofs.tree.Tree.len.Goals as goal

pub returns : goal.returns
returns c = c.len.ensures ∙ len_is c.self.inside.nodes c.self.inside.root c.self.inside.held.0 c.self.inside.held.1 ∙ ap finite.len c.self.view_is
