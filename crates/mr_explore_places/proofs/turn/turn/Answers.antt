use Rattle.std.proofs.Common.{Ok, None, sym, subst}
use Rattle.mr_explore_places.specs.Searching.{Turns}
use Rattle.mr_explore_places.specs.declared.level.Level.{Level}
use Rattle.mr_explore_places.specs.declared.level.Level.TheVariants.{Faults, Late}
use Rattle.mr_explore_places.proofs.Begun.{turned_alike, turned_same}
use Rattle.mr_explore_places.proofs.turn.turn.Goals as goal

pub returns-in_ok-turn_faults-in-Faults : goal.returns-in_ok-turn_faults-in-Faults
returns-in_ok-turn_faults-in-Faults g c =
    subst (λ (l : Level g.row.R.Denot g.row.R-Fault.Denot). Turns g.R.Run.steps g.R.AlikeRun.rest g.R.AlikeRun.before g.R.AlikeRun.void g.R.AlikeRun.like g.R.AlikeRun.ends c.args.bounds.now.faults c.args.bounds.now.steps l c.args.stores.now c.args.front.now c.args.levels.now (Ok None) c.args.stores.now c.keep_abreast.new.front c.turn_faults.new.levels) (sym c.in-Faults.is)
    (turned_same g.R.Run.steps g.R.AlikeRun.rest g.R.AlikeRun.before g.R.AlikeRun.void g.R.AlikeRun.like g.R.AlikeRun.ends c.args.bounds.now.faults c.args.bounds.now.steps (Faults c.in-Faults.level) c.args.stores.now c.args.front.now c.keep_abreast.new.front c.args.levels.now c.turn_faults.new.levels c.in_ok-keep_abreast-in-Faults.ensures c.in_ok-turn_faults-in-Faults.ensures.leads)

pub returns-in_ok-turn_late-in-Late : goal.returns-in_ok-turn_late-in-Late
returns-in_ok-turn_late-in-Late g c =
    subst (λ (l : Level g.row.R.Denot g.row.R-Fault.Denot). Turns g.R.Run.steps g.R.AlikeRun.rest g.R.AlikeRun.before g.R.AlikeRun.void g.R.AlikeRun.like g.R.AlikeRun.ends c.args.bounds.now.faults c.args.bounds.now.steps l c.args.stores.now c.args.front.now c.args.levels.now (Ok None) c.args.stores.now c.args.front.now c.turn_late.new.levels) (sym c.in-Late.is)
    (turned_alike g.R.Run.steps g.R.AlikeRun.rest g.R.AlikeRun.before g.R.AlikeRun.void g.R.AlikeRun.like g.R.AlikeRun.ends c.args.bounds.now.faults c.args.bounds.now.steps (Late c.in-Late.level) c.args.stores.now c.args.front.now c.args.levels.now c.turn_late.new.levels (c.in_ok-turn_late-in-Late.ensures.leads c.args.bounds.now.faults))
