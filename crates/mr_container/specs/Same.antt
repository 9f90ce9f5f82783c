-- Whether two containers fetched the same (our own).
use Rattle.std.specs.Prelude.{Bool, ◌&&◌, nat_eq}
use Rattle.std.specs.Cmp.{IsEquivalence, and_equiv, on_equiv}
use Rattle.std.specs.Cmp.Lexicographic.{pointwise, lists_equiv, nat_list_eq_equiv}
use Rattle.mr_container.specs.Readings.{Pieces}

-- what was got of the next block, and the blocks that are there
abbrev pub same_pieces : Pieces → Pieces → Bool
same_pieces p q = pointwise nat_eq p.got q.got && pointwise (pointwise nat_eq) p.blocks q.blocks

-- it is an equivalence
pub pieces_equiv : IsEquivalence same_pieces
pieces_equiv = and_equiv (on_equiv (λ (p : Pieces). p.got) nat_list_eq_equiv) (on_equiv (λ (p : Pieces). p.blocks) (lists_equiv nat_list_eq_equiv))
