use Rattle.std.proofs.Common.{◌∙◌, sym, ap, refl, rules}
use Rattle.slab.proofs.SlabLemmas.{Updates-with_value}
use Rattle.std.specs.Option.{option_copied_mut}
use Rattle.mr_names_tree.specs.Node.{appended}
use Rattle.mr_names_tree.proofs.Graph.{node_changed, graph_same, on_ok_by, on_err_by}
use Rattle.mr_names_tree.proofs.links.append_at.Goals as goal

pub returns-in-Some-clause-ok : goal.returns-in-Some-clause-ok
returns-in-Some-clause-ok c =
    let was = sym c.get_mut.ensures.value ∙ ap option_copied_mut c.in-Some.is in
    on_ok_by c.append.result (λ is. node_changed _ _ c.args.key c.in-Some.place.now _ (appended c.args.more.now) was (Updates-with_value _ _ _ (search (rules, was))) is refl) c.append.ensures.ok

pub returns-in-Some-clause-err : goal.returns-in-Some-clause-err
returns-in-Some-clause-err c =
    let was = sym c.get_mut.ensures.value ∙ ap option_copied_mut c.in-Some.is in
    on_err_by c.append.result (λ same. graph_same _ _ c.args.key c.in-Some.place.now _ was (Updates-with_value _ _ _ (search (rules, was))) same refl) c.append.ensures.err
