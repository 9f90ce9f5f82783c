use Rattle.std.proofs.Common.{◌≡◌, sym, subst, refl, ◌∙◌, ap, true, length, true≢false}
use Rattle.mr_packet.specs.declared.packet.Packet.TheVariants as packet
use Rattle.mr_packet.specs.Sends.{to_node}
use Rattle.mr_master_model.specs.Job.{is_task}
use Rattle.mr_master_model.specs.Next.{seen}
use Rattle.mr_master_state.specs.Prepared.{Prepared}
use Rattle.mr_master_state.specs.State.{Master}
use Rattle.mr_master_state.specs.mr_master_tasks.proofs.Keeping.{not-placed}
use Rattle.mr_master_events.proofs.Entering.{of-the-job, free-place, plan-launch}
use Rattle.mr_master_events.proofs.launch.prepare_launch.Goals as goal

pub unreachable-requires : goal.unreachable-requires
unreachable-requires c =
    let w = c.args.master.now.setting in
    let t = c.args.task in
    let keeps = c.requires.1 in
    let s = seen w c.requires.0 in
    let none = sym (sym c.in_default.is ∙ c.launch_refusal.ensures w s keeps) in
    let own : is_task w t ≡ true = of-the-job w s t c.args.node none in
    true≢false (sym own ∙ not-placed w w t refl (sym c.in_default-place_within.is ∙ c.place_within.ensures.place w s keeps))

pub launch_on-requires : goal.launch_on-requires
launch_on-requires c = subst (λ (x : Master). c.in-Some-number_after.number ≡ length x.launches.entries) c.master.view_is (c.in-Some-number_after.ensures.some ∙ c.len.ensures)

pub prepare_next-requires-clause-free : goal.prepare_next-requires-clause-free
prepare_next-requires-clause-free c =
    let w = c.args.master.now.setting in
    let keeps = c.requires.1 in
    let s = seen w c.requires.0 in
    free-place w s c.args.task c.args.node c.in-Some-place_within.place keeps (sym (sym c.in_default.is ∙ c.launch_refusal.ensures w s keeps)) (c.in-Some-place_within.ensures.place w s keeps)

pub returns-in-Ok-clause-planned : goal.returns-in-Ok-clause-planned
returns-in-Ok-clause-planned c =
    plan-launch c.args.task c.args.node c.in-Some-place_within.place c.launch_on.result c.requires (λ w s keeps. sym (sym c.in_default.is ∙ c.launch_refusal.ensures w s keeps))
    c.in-Some-place_within.ensures.within c.in-Some-place_within.ensures.place c.in-Ok.ensures c.launch_on.ensures

pub returns-in-Ok-clause-one : goal.returns-in-Ok-clause-one
returns-in-Ok-clause-one c =
    let l = c.launch_on.result in
    (to_node l.node (packet.Launch l.container c.in-Ok.ensures.attempt l.incarnation), ap (λ (x : Prepared). x.packets) c.in-Ok.ensures.is)

pub returns-in-Ok-clause-allowed : goal.returns-in-Ok-clause-allowed
returns-in-Ok-clause-allowed c = λ w s keeps. sym c.in_default.is ∙ c.launch_refusal.ensures w s keeps
