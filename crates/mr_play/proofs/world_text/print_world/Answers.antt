use Rattle.std.proofs.Common.{◌++◌, ◌∙◌, ap, refl}
use Rattle.mr_script_writer.specs.Results.{winners_text}
use Rattle.mr_world_model.specs.Results.{visible}
use Rattle.mr_world.specs.Journal.{world_in}
use Rattle.mr_play.proofs.WorldText.{world-is-printed}
use Rattle.mr_play.proofs.world_text.print_world.Goals as goal

pub returns-clause-text : goal.returns-clause-text
returns-clause-text c =
    let won = rw c.in_ok-winners.ensures.value at c.winners.ensures.is in
    let there = rw c.in_ok-marker.ensures.value at c.marker.ensures.is in
    world-is-printed c.args.world.now.config (world_in c.args.world.now) c.args.out.now.items c.put_winner_lines.new.out.items c.put_marker_line.new.out.items c.put_outcome_line.new.out.items c.print_visible.new.out.items
    c.in_ok-winners.winners.items c.in_ok-marker.marker c.outcome.result (visible (world_in c.args.world.now))
    won there c.outcome.ensures refl
    (c.in_ok-put_winner_lines.ensures ∙ ap (λ l. c.args.out.now.items ++ winners_text 0 l) c.deref.ensures.value)
    c.in_ok-put_marker_line.ensures c.in_ok-put_outcome_line.ensures
    c.in_ok-print_visible.ensures
