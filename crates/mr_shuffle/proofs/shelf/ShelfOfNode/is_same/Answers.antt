use Rattle.std.proofs.Common.{◌≡◌, arith}
use Rattle.mr_shuffle.proofs.Shelves.{shelves_decide}
use Rattle.mr_shuffle.proofs.shelf.ShelfOfNode.is_same.Goals as goal

pub returns : goal.returns
returns c =
    let counts : c.self.inside.reduces ≡ c.other.inside.reduces = omega arith in
    shelves_decide c.args.self.now c.args.other.now c.self.inside.reduces c.other.inside.reduces c.self.inside.outputs c.other.inside.outputs c.eq.result c.self.view_is c.other.view_is counts c.eq.ensures
