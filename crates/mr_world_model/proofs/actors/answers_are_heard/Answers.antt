use Rattle.mr_world_model.proofs.Runs as laws
use Rattle.mr_world_model.proofs.actors.answers_are_heard.Goals as goal

pub returns : goal.returns
returns c = laws.answers_are_heard
