use Rattle.std.proofs.Common.{sym, ◌∙◌, ap}
use Rattle.mr_master_model.specs.Past.{Work}
use Rattle.mr_master_model.specs.Readings.{is_running}
use Rattle.mr_master_events.proofs.Planned.{plan-end}
use Rattle.mr_master_events.proofs.end.prepare_end.Goals as goal

pub returns : goal.returns
returns c =
    plan-end c.args.place c.args.attempt c.args.end.now c.blame_of-blame.result c.in_ok-packets.packets.items c.new.ensures c.requires.at
    (λ w s k. ap (λ (x : Work). is_running x) (sym k.work) ∙ c.requires.runs)
    c.blame_of-blame.ensures c.in_ok-packets.ensures
