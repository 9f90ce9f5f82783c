use Rattle.std.proofs.Common.{ap, ◌∙◌}
use Rattle.mr_explore_search.specs.Taking.{no_more}
use Rattle.mr_explore_search.proofs.Looking.{done_as}
use Rattle.mr_explore_search.proofs.walk.Walk.is_done.Goals as goal

pub returns : goal.returns
returns g c = done_as g.R.Run.steps c.self.inside.most c.self.inside.next c.self.inside.levels c.is_none.result c.is_none.ensures ∙ ap no_more c.self.view_is
