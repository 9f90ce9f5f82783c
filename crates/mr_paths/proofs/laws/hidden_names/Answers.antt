use Rattle.std.proofs.Common.{refl}
use Rattle.mr_paths.proofs.Apart.{part_is_visible}
use Rattle.mr_paths.proofs.laws.hidden_names.Goals as goal

pub returns : goal.returns
returns c = record { works = refl; markers = refl; parts = part_is_visible; tasks = λ t. refl }
