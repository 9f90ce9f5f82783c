use Rattle.mr_paths.proofs.TextReading.{path_by_text}
use Rattle.mr_paths.proofs.laws.texts_are_distinct.Goals as goal

pub returns : goal.returns
returns c = path_by_text
