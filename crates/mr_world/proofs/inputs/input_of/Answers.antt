use Rattle.std.proofs.Common.{sym, ◌∙◌, ap, slice_get}
use Rattle.std.specs.Option.{option_map}
use Rattle.mr_container.specs.Readings.{is_computing}
use Rattle.mr_world_model.specs.Packets.{Config}
use Rattle.mr_world.specs.Readings.{as_input}
use Rattle.mr_world.proofs.Read_containers.{none-wished, no-split, split-is, pieces-are}
use Rattle.mr_world.proofs.inputs.input_of.Goals as goal

pub returns-then-not-is_computing : goal.returns-then-not-is_computing
returns-then-not-is_computing c = λ w s. none-wished c.args.parts.now w c.args.c.now c.in_ok-machine.machine.now s (sym c.in_ok-machine.ensures)
    (sym (ap is_computing c.wish.ensures) ∙ sym c.if-not-is_computing.ensures)

pub returns-in_err-bytes-in-Map : goal.returns-in_err-bytes-in-Map
returns-in_err-bytes-in-Map c = λ w s. ap (option_map as_input) c.from_residual-in_err-bytes-in-Map.ensures
    ∙ no-split c.args.parts.now w c.args.c.now c.in_ok-machine.machine.now c.wish.result c.place.result c.task-task.result s
    (record { there = c.in_ok-machine.ensures; wish = c.wish.ensures; computes = c.if-not-is_computing.ensures; place = c.place.ensures; task = c.task-task.ensures }) c.in-Map.is (c.in_err-bytes-in-Map.ensures ∙ ap (λ (cfg : Config). slice_get cfg.splits c.task-task.result.number) c.deref.ensures)

pub returns-in_ok-bytes-in-Map : goal.returns-in_ok-bytes-in-Map
returns-in_ok-bytes-in-Map c = λ w s. split-is c.args.parts.now w c.args.c.now c.in_ok-machine.machine.now c.wish.result c.place.result c.task-task.result c.in_ok-bytes-in-Map.bytes.now s
    (record { there = c.in_ok-machine.ensures; wish = c.wish.ensures; computes = c.if-not-is_computing.ensures; place = c.place.ensures; task = c.task-task.ensures }) c.in-Map.is (c.in_ok-bytes-in-Map.ensures ∙ ap (λ (cfg : Config). slice_get cfg.splits c.task-task.result.number) c.deref.ensures)

pub returns-in-Reduce : goal.returns-in-Reduce
returns-in-Reduce c = λ w s. pieces-are c.args.parts.now w c.args.c.now c.in_ok-machine.machine.now c.wish.result c.place.result c.task-task.result c.blocks-in-Reduce.result.now s
    (record { there = c.in_ok-machine.ensures; wish = c.wish.ensures; computes = c.if-not-is_computing.ensures; place = c.place.ensures; task = c.task-task.ensures }) c.in-Reduce.is c.blocks-in-Reduce.ensures
