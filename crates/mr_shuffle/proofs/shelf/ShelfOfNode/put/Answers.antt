use Rattle.std.proofs.Common.{◌∙◌}
use Rattle.mr_shuffle.specs.Shelf.{with_output}
use Rattle.mr_shuffle.proofs.Shelves.{output_put}
use Rattle.mr_shuffle.proofs.shelf.ShelfOfNode.put.Goals as goal

pub returns-clause-ok : goal.returns-clause-ok
returns-clause-ok c =
    (λ i. record { reduces = c.self.inside.reduces; outputs = output_put c.self.inside.outputs.entries c.insert.new.self.entries c.args.a c.in_ok-new.field-0 c.in_ok-insert.ensures.updates.0 i })
    ∙ (λ i. with_output (c.self.view_is i) c.args.a (c.in_ok-new.ensures i))
