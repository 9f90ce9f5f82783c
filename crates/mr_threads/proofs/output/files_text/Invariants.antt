use Rattle.std.proofs.Common.{◌≡◌, map, take, flat_map}
use Rattle.mr_play.specs.mr_world.specs.VisibleFiles.{as_pair}
use Rattle.mr_play.specs.WorldText.{visible_text}
use Rattle.mr_threads.proofs.output.files_text.Given as goal

abbrev pub invariant-loop-file : goal.invariant-loop-file
invariant-loop-file l = l.text.items ≡ flat_map visible_text (map as_pair (take l.file-index l.files))
