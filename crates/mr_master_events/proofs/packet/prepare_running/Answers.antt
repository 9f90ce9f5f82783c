use Rattle.std.proofs.Common.{[]}
use Rattle.mr_packet.specs.declared.packet.Packet.TheVariants as packet
use Rattle.mr_master_model.specs.Hearing.{heard}
use Rattle.mr_master_state.specs.declared.change.Change.TheVariants as change
use Rattle.mr_master_state.proofs.Made.{plan-as}
use Rattle.mr_master_events.proofs.Planned.{Unheard, unheard}
use Rattle.mr_master_events.proofs.packet.prepare_running.Goals as goal

pub returns-in_default : goal.returns-in_default
returns-in_default c = plan-as [] change.Nothing c.silent.ensures tt
    (λ w s k. (unheard w s (heard w s c.args.packet.now) c.args.packet.now not).sends)
    (λ w s k. (unheard w s (heard w s c.args.packet.now) c.args.packet.now not).changes)
  where
    not : Unheard c.args.packet.now
    not = record {
      pending = λ a e. c.in_default.not-Pending a e;
      poll = λ a e. c.in_default.not-Poll a e;
      done = λ a b e. c.in_default.not-Done a b e;
      failed = λ a e. c.in_default.not-Failed a e;
      ended = λ d e. c.in_default.not-Ended d e;
      where' = λ d n e. c.in_default.not-Where d n e;
      lost = λ d a e. c.in_default.not-FetchLost d a e;
    }
