use Rattle.std.proofs.Common.{◌∙◌, ap}
use Rattle.mr_master_state.specs.mr_master_phase.specs.WorkKinds.{is_step}
use Rattle.mr_master_state.specs.mr_master_phase.specs.Coming.{begun_by}
use Rattle.mr_master_state.specs.State.{Master}
use Rattle.mr_master_state.proofs.Keeping.{held}
use Rattle.mr_master_calls.proofs.table.next_work.Goals as goal

pub finished-requires : goal.finished-requires
finished-requires c = ap (λ (m : Master). is_step m.work) c.master.view_is ∙ c.requires

pub returns : goal.returns
returns c = λ w s keeps. let k = held c.master.view_is keeps in
    c.in_ok-next.ensures s
    ∙ (λ i. begun_by (k.setting i) (record s { earlier = (c.as_slice.ensures ∙ k.earlier) i }) (k.work i))
