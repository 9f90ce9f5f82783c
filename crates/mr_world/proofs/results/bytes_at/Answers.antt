use Rattle.mr_world.proofs.Read_results.{bytes-read, none-read}
use Rattle.mr_world.proofs.results.bytes_at.Goals as goal

pub returns-in-Ok : goal.returns-in-Ok
returns-in-Ok c = bytes-read c.args.names.now c.onlooker.result c.args.path.now _ _ c.onlooker.ensures.heard c.in-Ok.ensures.made

pub returns-in_ok-check_memory-in-Err : goal.returns-in_ok-check_memory-in-Err
returns-in_ok-check_memory-in-Err c = none-read c.args.names.now c.onlooker.result c.args.path.now _ c.onlooker.ensures.heard c.in-Err.ensures.made.0 c.in_ok-check_memory-in-Err.ensures
