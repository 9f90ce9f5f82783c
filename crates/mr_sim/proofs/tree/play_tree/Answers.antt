use Rattle.std.proofs.Common.{ℕ, sym, ap, subst, Vec, Global}
use Rattle.mr_trace.specs.mr_world.specs.Limits.{within}
use Rattle.mr_trace.specs.mr_play.proofs.Showing.{as_expected}
use Rattle.mr_sim.specs.Trees.{ListsPlay}
use Rattle.mr_sim.proofs.ListedPlays.{lists}
use Rattle.mr_sim.proofs.tree.play_tree.Goals as goal

pub returns-clause-ok : goal.returns-clause-ok
returns-clause-ok c = subst (λ text. ListsPlay within c.args.input.now text) (sym (ap (λ (v : Vec ℕ Global). v.items) c.printed.ensures.text))
    (lists c.args.input.now c.in_ok-text.text.items c.in_ok-player.player c.in_ok-player.ensures.ok c.in_ok-text.ensures)

pub returns-clause-met : goal.returns-clause-met
returns-clause-met c = as_expected c.args.input.now c.in_ok-player.player c.printed.result.met c.printed.ensures.met c.in_ok-player.ensures.ok
