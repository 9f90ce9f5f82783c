use Rattle.std.proofs.Common.{sym, ◌∙◌, ap, ◌++◌, Option}
use Rattle.mr_packet.specs.declared.packet.Packet.TheVariants as packet
use Rattle.mr_recover.specs.declared.winner.TaskWinner.{TaskWinner}
use Rattle.mr_master_model.specs.Past.{Work}
use Rattle.mr_master_model.specs.Sends.{to_all}
use Rattle.mr_master_state.specs.mr_master_phase.specs.Taking.{winner_of, won_of}
use Rattle.mr_master_state.proofs.Keeping.{held}
use Rattle.mr_master_calls.proofs.table.won_packets.Goals as goal

pub returns : goal.returns
returns c = λ w s keeps. let k = held c.master.view_is keeps in
    c.in_ok-push_won.ensures
    ∙ (λ i. c.new-packets.ensures.items i ++ to_all (k.setting i).nodes (packet.Won c.in-Some.winner.task c.in-Some.winner.attempt))
    ∙ ap (λ (o : Option TaskWinner). won_of w o) (sym c.in-Some.is ∙ c.winner.ensures ∙ ap (λ (x : Work). winner_of x) k.work)

pub returns-in_default : goal.returns-in_default
returns-in_default c = λ w s keeps.
    c.new-packets.ensures.items ∙ ap (λ (o : Option TaskWinner). won_of w o) (sym c.in_default.is ∙ c.winner.ensures ∙ ap (λ (x : Work). winner_of x) (held c.master.view_is keeps).work)
