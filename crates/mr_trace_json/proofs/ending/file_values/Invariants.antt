use Rattle.std.proofs.Common.{◌≡◌, ◌++◌, drop, map}
use Rattle.mr_trace.specs.mr_world.specs.VisibleFiles.{as_pair}
use Rattle.serde_json.specs.View.{view}
use Rattle.mr_trace_json.specs.Endings.{file_object}
use Rattle.mr_trace_json.proofs.ending.file_values.Given as goal

-- the files so far, in front of those that are left, are all files
abbrev pub invariant-loop-file : goal.invariant-loop-file
invariant-loop-file l = map view l.all.items ++ map file_object (map as_pair (drop l.file-index l.files)) ≡ map file_object (map as_pair l.files)
