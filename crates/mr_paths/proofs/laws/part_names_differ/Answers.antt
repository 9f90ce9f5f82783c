use Rattle.mr_paths.proofs.Apart.{part_injective, part_is_not_marker}
use Rattle.mr_paths.proofs.laws.part_names_differ.Goals as goal

pub returns : goal.returns
returns c = record { parts = part_injective; part_and_marker = part_is_not_marker }
