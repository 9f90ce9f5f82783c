use Rattle.std.proofs.Common.{Bool, refl, ap, ◌∙◌}
use Rattle.mr_explore_search.specs.Parting.{whole}
use Rattle.mr_explore_search.specs.Runs.{runs}
use Rattle.mr_explore.specs.Faults.{most_onward}
use Rattle.mr_explore.specs.Runs.{explored}
use Rattle.mr_explore.proofs.exploration.Exploration.parts.Goals as goal

pub returns-in-Ok-clause-begins : goal.returns-in-Ok-clause-begins
returns-in-Ok-clause-begins c = record {
  run = c.in_ok-run.run';
  is = c.in_ok-run.ensures.run;
  left = ap whole c.in-Ok.ensures.all ∙ ((λ i. runs explored (c.most_onward.ensures i) c.args.faults (c.with_depth-run_on.ensures i)) ∙ ap (λ (d : Bool). runs explored (most_onward c.args.deep) c.args.faults (record c.in_ok-run.run' { deep = d })) c.is_some.ensures);
  faults = refl;
  table = refl;
}
