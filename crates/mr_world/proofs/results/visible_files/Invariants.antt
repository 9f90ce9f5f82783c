use Rattle.std.proofs.Common.{◌≡◌, ◌++◌, drop, map}
use Rattle.std.specs.List.{flat_map}
use Rattle.mr_world_model.specs.Content.{Listed}
use Rattle.mr_world.specs.VisibleFiles.{as_pair, seen_beneath}
use Rattle.mr_world.proofs.results.visible_files.Given as goal

-- the files so far and those of the entries that are left are those of all
abbrev pub invariant-loop-entry : goal.invariant-loop-entry
invariant-loop-entry l = map as_pair l.files.items ++ flat_map (λ (line : Listed). seen_beneath l.names.content l.dest line.name) (drop l.entry-index l.entries) ≡ flat_map (λ (line : Listed). seen_beneath l.names.content l.dest line.name) l.entries
