use Rattle.std.proofs.Common.{◌∙◌}
use Rattle.mr_world.proofs.Read_results.{entries-listed, none-listed}
use Rattle.mr_world.proofs.results.entries_at.Goals as goal

pub returns-in-Ok : goal.returns-in-Ok
returns-in-Ok c = entries-listed c.args.names.now c.onlooker.result c.args.path.now c.in-Ok.entries _ c.in-Ok.ensures.made

pub returns-in_ok-check_memory-in-Err : goal.returns-in_ok-check_memory-in-Err
returns-in_ok-check_memory-in-Err c = c.new.ensures ∙ none-listed c.args.names.now c.onlooker.result c.args.path.now _ c.onlooker.ensures.heard c.onlooker.ensures.sound c.in-Err.ensures.made.0 c.in_ok-check_memory-in-Err.ensures
