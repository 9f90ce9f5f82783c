use Rattle.std.proofs.Common.{◌+◌, ◌^◌, ◌≡◌, ◌∙◌, sym, ap, Bool, false, List, slice_index_or, arith}
use Rattle.std.proofs.lemmas.List.{get_or-drop, get_or_default}
use Rattle.std.proofs.lemmas.Nat.{pow_pos}
use Rattle.mr_master_tables.specs.Marks.{is_marked}
use Rattle.mr_master_tables.proofs.Marking.{all-dark}
use Rattle.mr_master_tables.proofs.marks.Marks.first.Goals as goal

pub returns-else-index-clause-none : goal.returns-else-index-clause-none
returns-else-index-clause-none c = λ i.
    let m = c.self.inside in
    let tree = m.tree.items in
    let size = 2 ^ m.height in
    let positive = pow_pos m.height in
    let count = c.self.invariant.count in
    let root : slice_index_or tree 1 false ≡ false = get_or_default tree 1 false c.index.result.now (omega arith) ∙ sym c.index.ensures ∙ c.if-index.false in
    ap (λ (marks : List Bool). is_marked marks i) (sym c.self.view_is) ∙ get_or-drop size tree i false
    ∙ all-dark tree size c.self.invariant.nodes count root (size + i) (omega arith)
