use Rattle.std.proofs.Common.{◌≡◌, ◌++◌, map, take, flat_map}
use Rattle.mr_world.specs.VisibleFiles.{as_pair}
use Rattle.mr_play.specs.WorldText.{visible_text}
use Rattle.mr_play.proofs.world_text.print_files.Given as goal

abbrev pub invariant-loop-file : goal.invariant-loop-file
invariant-loop-file l = l.out.items ≡ l.fn.out.items ++ flat_map visible_text (map as_pair (take l.file-index l.files))
