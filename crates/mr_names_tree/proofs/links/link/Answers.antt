use Rattle.std.proofs.Common.{◌∙◌, sym, ap, refl, rules}
use Rattle.slab.proofs.SlabLemmas.{Updates-with_value}
use Rattle.std.specs.Option.{option_copied_mut}
use Rattle.mr_names_tree.proofs.Graph.{edge_set, graph_same, name_apart, on_err}
use Rattle.mr_names_tree.proofs.links.link.Goals as goal

pub returns-in_err-insert-in-Some-clause-err : goal.returns-in_err-insert-in-Some-clause-err
returns-in_err-insert-in-Some-clause-err c =
    let was = sym c.get_mut.ensures.value ∙ ap option_copied_mut c.in-Some.is in
    on_err _ _ (graph_same _ _ c.args.at c.in-Some.place.now _ was (Updates-with_value _ _ _ (search (rules, was))) refl c.in_err-insert-in-Some.ensures.err)

pub returns-clause-ok : goal.returns-clause-ok
returns-clause-ok c =
    let was = sym c.get_mut.ensures.value ∙ ap option_copied_mut c.in-Some.is in
    edge_set _ _ c.args.at c.in-Some.place.now _ c.args.name _ was (Updates-with_value _ _ _ (search (rules, was))) refl
    c.in_ok-insert-in-Some.ensures.updates.1 (λ other apart. c.in_ok-insert-in-Some.ensures.updates.2 other (name_apart c.args.name other apart))
