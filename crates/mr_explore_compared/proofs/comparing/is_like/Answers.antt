use Rattle.std.proofs.lemmas.Result.{IfOk-weaker}
use Rattle.mr_explore_compared.proofs.Gathering.{likens}
use Rattle.mr_explore_compared.proofs.comparing.is_like.Goals as goal

pub returns-clause-known : goal.returns-clause-known
returns-clause-known c =
    IfOk-weaker c.led_alike.result _ _ (λ known led told.
    likens c.args.run.now c.args.other.now c.args.owed.now c.args.other_owed.now c.player-player.result.now c.player-beside.result.now
    c.player-player.ensures.config c.player-player.ensures.played c.player-beside.ensures.config c.player-beside.ensures.played
    (c.are_comparable.ensures c.if-not-are_comparable.false) (c.look_alike.ensures c.if-not-look_alike.false) (c.are_owed_alike.ensures c.if-not-are_owed_alike.false) (led told))
    c.led_alike.ensures.led
