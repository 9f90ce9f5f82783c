use Rattle.mr_task.proofs.Telling.{live-told, stands-told, over-told, won-told, winner-told}
use Rattle.mr_task.proofs.laws.states_tell.Goals as goal

pub returns : goal.returns
returns c = record { live = live-told; stands = stands-told; over = over-told; won = won-told; winner = winner-told }
