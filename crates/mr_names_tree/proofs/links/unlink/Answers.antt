use Rattle.std.proofs.Common.{◌∙◌, sym, ap, refl, rules}
use Rattle.slab.proofs.SlabLemmas.{Updates-with_value}
use Rattle.std.specs.Option.{option_copied_mut}
use Rattle.mr_names_tree.proofs.Graph.{edge_set, name_apart}
use Rattle.mr_names_tree.proofs.links.unlink.Goals as goal

pub returns-in-Some : goal.returns-in-Some
returns-in-Some c =
    let was = sym c.get_mut.ensures.value ∙ ap option_copied_mut c.in-Some.is in
    edge_set _ _ c.args.at c.in-Some.place.now _ c.args.name.now _ was (Updates-with_value _ _ _ (search (rules, was))) refl
    c.remove.ensures.updates.1 (λ other apart. c.remove.ensures.updates.2 other (name_apart c.args.name.now other apart))
