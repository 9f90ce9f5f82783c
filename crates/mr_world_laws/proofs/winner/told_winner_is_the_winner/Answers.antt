use Rattle.std.proofs.Common.{ap, refl, sym, slice_get, ◌∙◌}
use Rattle.std.proofs.lemmas.Option.{slice_get_read}
use Rattle.mr_world_laws.proofs.Again.{bag_winner}
use Rattle.mr_world_laws.proofs.winner.told_winner_is_the_winner.Goals as goal

pub returns-in_ok-winner-in-Won-clause-same : goal.returns-in_ok-winner-in-Won-clause-same
returns-in_ok-winner-in-Won-clause-same c =
    c.in_ok-winner-in-Won.ensures.is
    ∙ bag_winner c.args.world.now c.args.place c.in-Some.envelope.now c.in-Won.task c.in-Won.attempt
    (ap (λ b. slice_get b c.args.place) (sym c.bag.ensures) ∙ slice_get_read c.bag.result.now _ c.args.place c.in-Some.envelope.now refl c.in-Some.ensures.lookup.3.0 c.in-Some.ensures.lookup.1) c.in-Won.is
