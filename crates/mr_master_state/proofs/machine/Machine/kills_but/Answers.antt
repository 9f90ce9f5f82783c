use Rattle.std.proofs.Common.{sym, ◌∙◌, ap, List, ◌++◌}
use Rattle.std.specs.List.{flat_map}
use Rattle.std.proofs.lemmas.Grind.{flat_map-append}
use Rattle.mr_packet.specs.declared.packet.Envelope.{Envelope}
use Rattle.mr_master_model.specs.Job.{all_maps, all_reduces}
use Rattle.mr_master_state.specs.Kills.{kills_but}
use Rattle.mr_master_state.proofs.machine.Machine.kills_but.Goals as goal

pub returns : goal.returns
returns c = λ w s keeps.
    let a = c.args.ended.now in
    c.in_ok-push_all_kills_but-2.ensures w s keeps
    ∙ ap (λ (l : List Envelope). l ++ flat_map (kills_but w s a) (all_reduces w)) (c.in_ok-push_all_kills_but.ensures w s keeps ∙ ap (λ (l : List Envelope). l ++ flat_map (kills_but w s a) (all_maps w)) c.new-packets.ensures.items)
    ∙ sym (flat_map-append (kills_but w s a) (all_maps w) (all_reduces w))
