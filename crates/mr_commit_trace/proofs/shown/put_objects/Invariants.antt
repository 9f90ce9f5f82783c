use Rattle.std.proofs.Common.{◌≡◌, ◌++◌, take}
use Rattle.std.specs.List.{flat_map}
use Rattle.mr_sim_json.specs.Members.{line_of}
use Rattle.mr_commit_trace.specs.Shown.{told_object}
use Rattle.mr_commit_trace.proofs.shown.put_objects.Given as goal

abbrev pub invariant-loop-one : goal.invariant-loop-one
invariant-loop-one l = l.out.items ≡ l.initial.out.items ++ flat_map (λ told. line_of (told_object (l.line, l.command) told)) (take l.one-index l.told)
