use Rattle.std.proofs.Common.{◌≡◌, ◌∙◌, ap, subst, IfOk, List, ℕ, Option}
use Rattle.mr_shuffle.specs.Shelf.{Shelf, block_there}
use Rattle.mr_shuffle.proofs.Shelves.{nothing_there, something_there}
use Rattle.mr_shuffle.proofs.shelf.ShelfOfNode.share.Goals as goal

pub returns-in-Some : goal.returns-in-Some
returns-in-Some c =
    subst (λ (there : Option (List ℕ)). IfOk c.share_block.result (λ block. block ≡ there))
    (something_there c.self.inside.outputs.entries c.self.inside.reduces c.args.a c.args.reduce c.in-Some.output.now c.in-Some.ensures.value
    ∙ ap (λ (shelf : Shelf). block_there shelf c.args.a c.args.reduce) c.self.view_is)
    c.share_block.ensures

pub returns-in-None : goal.returns-in-None
returns-in-None c =
    nothing_there c.self.inside.outputs.entries c.self.inside.reduces c.args.a c.args.reduce c.in-None.ensures.value
    ∙ ap (λ (shelf : Shelf). block_there shelf c.args.a c.args.reduce) c.self.view_is
