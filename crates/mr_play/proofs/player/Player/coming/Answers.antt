use Rattle.std.proofs.Common.{◌≤◌, length, sym, ap, ◌∙◌, arith}
use Rattle.mr_world.specs.Limits.{within}
use Rattle.mr_play.specs.Text.{job_as}
use Rattle.mr_play.specs.Players.{cluster_in}
use Rattle.mr_play.proofs.Coming.{step_is}
use Rattle.mr_play.proofs.player.Player.coming.Goals as goal

pub returns-clause-is : goal.returns-clause-is
returns-clause-is c = λ on.
    let p = c.args.self.now in
    let all : length (cluster_in p).bag ≤ p.cursor = omega (arith, c.if-self-bag.false, ap length c.bag.ensures) in
    step_is (job_as p.job) p.world.config (within p.world.config) (cluster_in p) c.args.k p.stepped p.cursor on all
    (sym c.in_ok-duty.ensures.is ∙ c.in_default.is) (sym c.wanted.ensures ∙ c.in_default-wanted.is) c.coming_step.result (c.coming_step.ensures.is c.args.k)

pub returns-clause-packet : goal.returns-clause-packet
returns-clause-packet c = λ e. absurd (c.coming_step.ensures.other e)
