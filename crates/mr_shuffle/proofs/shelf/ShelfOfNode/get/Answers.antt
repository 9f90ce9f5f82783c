use Rattle.std.proofs.Common.{◌∙◌, ap}
use Rattle.std.specs.Option.{option_map}
use Rattle.mr_shuffle.specs.Shelf.{Shelf, block_there}
use Rattle.mr_shuffle.proofs.Shelves.{nothing_there, something_there}
use Rattle.mr_shuffle.proofs.shelf.ShelfOfNode.get.Goals as goal

pub returns-in_err-get : goal.returns-in_err-get
returns-in_err-get c =
    ap (option_map (λ block. block.now)) c.from_residual.ensures
    ∙ nothing_there c.self.inside.outputs.entries c.self.inside.reduces c.args.a c.args.reduce c.in_err-get.ensures.value
    ∙ ap (λ (shelf : Shelf). block_there shelf c.args.a c.args.reduce) c.self.view_is

pub returns : goal.returns
returns c =
    c.block.ensures
    ∙ something_there c.self.inside.outputs.entries c.self.inside.reduces c.args.a c.args.reduce c.in_ok-get.field-0.now c.in_ok-get.ensures.value
    ∙ ap (λ (shelf : Shelf). block_there shelf c.args.a c.args.reduce) c.self.view_is
