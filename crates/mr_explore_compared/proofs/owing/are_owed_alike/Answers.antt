use Rattle.std.proofs.Common.{◌<◌, length, arith}
use Rattle.mr_play.specs.Players.{cluster_in, state_in}
use Rattle.mr_explore_compared.proofs.Later.{one-more}
use Rattle.mr_explore_compared.proofs.owing.are_owed_alike.Goals as goal

pub loop-i-preserved : goal.loop-i-preserved
loop-i-preserved c =
    let less : c.loop-i.i < length c.args.others.now = omega (arith, c.loop-i-test.true, c.if-owed-others.false) in
    one-more (cluster_in c.args.here.now).bag (cluster_in c.args.there.now).bag (state_in c.args.here.now).cursor (state_in c.args.there.now).cursor c.args.owed.now c.args.others.now c.loop-i.i
    c.index-owed-i.result c.index-others-i.result c.loop-i-test.true less c.index-owed-i.is c.index-others-i.is c.loop-i.invariant (c.is_one_later.ensures c.if-not-is_one_later.false)
