use Rattle.std.proofs.Common.{sym, ◌∙◌}
use Rattle.mr_world.specs.Limits.{within}
use Rattle.mr_play.specs.Text.{job_as}
use Rattle.mr_play.specs.Players.{cluster_in}
use Rattle.mr_play.proofs.Coming.{compute_is, other_is}
use Rattle.mr_play.proofs.player.Player.coming_step.Goals as goal

pub returns-then-is_computing-clause-is : goal.returns-then-is_computing-clause-is
returns-then-is_computing-clause-is c = λ k.
    let p = c.args.self.now in
    compute_is (job_as p.job) p.world.config (within p.world.config) (cluster_in p) k p.stepped p.cursor c.in-Some.c c.in-Some-wish.wish
    (sym c.next_living.ensures ∙ c.in-Some.is) (sym c.wish.ensures ∙ c.in-Some-wish.is) (sym c.is_computing.ensures ∙ c.if-is_computing.true)

pub returns-else-is_computing-clause-is : goal.returns-else-is_computing-clause-is
returns-else-is_computing-clause-is c = λ k.
    let p = c.args.self.now in
    rw c.wish_event.ensures
    (other_is (job_as p.job) p.world.config (within p.world.config) (cluster_in p) k p.stepped p.cursor c.in-Some.c c.in-Some-wish.wish
    (sym c.next_living.ensures ∙ c.in-Some.is) (sym c.wish.ensures ∙ c.in-Some-wish.is) (sym c.is_computing.ensures ∙ c.if-is_computing.false))
