use Rattle.std.proofs.Common.{◌∙◌, sym, ap, refl, rules}
use Rattle.slab.proofs.SlabLemmas.{Updates-with_value}
use Rattle.std.specs.Option.{option_copied_mut}
use Rattle.mr_names_tree.specs.inner.Tree.{first_by, first_of}
use Rattle.mr_names_tree.proofs.Graph.{edge_set, name_apart}
use Rattle.mr_names_tree.proofs.links.unlink_first.Goals as goal

pub returns-in-Some-pop_first : goal.returns-in-Some-pop_first
returns-in-Some-pop_first c =
    let was = sym c.get_mut.ensures.value ∙ ap option_copied_mut c.in-Some.is in (
      c.in-Some-pop_first._name,
      ap first_by was ∙ ap first_of c.in-Some-pop_first.ensures.removal,
      edge_set _ _ c.args.at c.in-Some.place.now _ c.in-Some-pop_first._name _ was (Updates-with_value _ _ _ (search (rules, was))) refl
          c.in-Some-pop_first.ensures.updates.1 (λ other apart. c.in-Some-pop_first.ensures.updates.2 other (name_apart c.in-Some-pop_first._name other apart)),
    )
