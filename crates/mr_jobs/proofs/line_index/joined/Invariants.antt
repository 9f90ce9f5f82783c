use Rattle.std.proofs.Common.{◌≡◌, map, take}
use Rattle.std.specs.List.{join_with_byte}
use Rattle.mr_jobs.specs.LineIndex.{position_text}
use Rattle.mr_jobs.proofs.line_index.joined.Given as goal

abbrev pub invariant-loop-position : goal.invariant-loop-position
invariant-loop-position l = l.text.items ≡ join_with_byte 44 (map position_text (take l.position-index l.positions))
