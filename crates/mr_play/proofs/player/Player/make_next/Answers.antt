use Rattle.mr_play.proofs.player.Player.make_next.Goals as goal

pub returns-in-Deliver : goal.returns-in-Deliver
returns-in-Deliver c = rw c.in-Deliver.is (c.deliver.ensures c.args.k)

pub returns-in-Compute : goal.returns-in-Compute
returns-in-Compute c = rw c.in-Compute.is (c.compute.ensures c.args.k)
