use Rattle.std.proofs.Common.{◌∙◌}
use Rattle.mr_names_tree.proofs.links.move_edge.Goals as goal

pub returns-clause-ok : goal.returns-clause-ok
returns-clause-ok c = record {
  put = λ apart. c.set_above.ensures.edges c.args.at c.args.name ∙ c.unlink.ensures.others c.args.at c.args.name apart ∙ c.in_ok-link.ensures.ok.here;
  gone = c.set_above.ensures.edges c.args.from c.args.from_name.now ∙ c.unlink.ensures.here;
  others = λ other by a b. c.set_above.ensures.edges other by ∙ c.unlink.ensures.others other by b ∙ c.in_ok-link.ensures.ok.others other by a;
  nodes = λ other. c.set_above.ensures.nodes other ∙ c.unlink.ensures.nodes other ∙ c.in_ok-link.ensures.ok.nodes other;
}
