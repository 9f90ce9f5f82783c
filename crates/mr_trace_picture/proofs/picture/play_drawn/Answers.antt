use Rattle.mr_trace.specs.mr_play.proofs.Showing.{as_expected, draws}
use Rattle.mr_trace_picture.proofs.picture.play_drawn.Goals as goal

pub returns-clause-ok : goal.returns-clause-ok
returns-clause-ok c = draws c.args.input.now c.in_ok-player.player c.in_ok-player.ensures.ok

pub returns-clause-met : goal.returns-clause-met
returns-clause-met c = as_expected c.args.input.now c.in_ok-player.player c.printed.result.met c.printed.ensures.met c.in_ok-player.ensures.ok
