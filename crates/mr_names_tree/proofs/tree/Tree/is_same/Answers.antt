use Rattle.std.proofs.Common.{◌≡◌, ◌∙◌, ap, rules}
use Rattle.std.specs.FinMap as finite
use Rattle.mr_names_tree.proofs.Comparing.{walk_tells}
use Rattle.mr_names_tree.proofs.tree.Tree.is_same.Goals as goal

pub returns : goal.returns
returns c =
    let len : finite.len c.args.self.now ≡ finite.len c.args.other.now = search rules in
    walk_tells c.args.self.now c.args.other.now c.as_slice.result.now c.are_alike.result len (c.as_slice.ensures ∙ c.in_ok-found.ensures) c.are_alike.ensures
