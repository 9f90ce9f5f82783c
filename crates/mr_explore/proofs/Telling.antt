-- What a run came to is written as `play` prints its cluster.
use Rattle.std.proofs.Common.{[], ◌++◌, refl}
use Rattle.std.specs.List.{flat_map}
use Rattle.mr_script_writer.specs.Results.{winners_text, line_of_marker, line_of_outcome}
use Rattle.mr_world_model.specs.Ids.{marker}
use Rattle.mr_world_model.specs.Content.{entry_at, is_file}
use Rattle.mr_world_model.specs.Results.{outcome, visible}
use Rattle.mr_play.specs.WorldText.{visible_text, won_in}
use Rattle.mr_play.proofs.WorldText.{world-is-printed}
use Rattle.mr_explore.specs.Laws.{OutcomesArePrinted}

pub outcomes_are_printed_law : OutcomesArePrinted
outcomes_are_printed_law cfg w =
    let won = winners_text 0 (won_in cfg w) in
    let there = is_file (entry_at w.content marker) in
    let marked = won ++ line_of_marker there in
    let told = marked ++ line_of_outcome (outcome w) in
    world-is-printed cfg w [] won marked told (told ++ flat_map visible_text (visible w)) (won_in cfg w) there (outcome w) (visible w) refl refl refl refl refl refl refl refl
