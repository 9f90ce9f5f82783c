use Rattle.std.proofs.Common.{◌≡◌, length, take, All}
use Rattle.std.specs.Str.{IsUtf8}
use Rattle.std.specs.List.{slice_split}
use Rattle.mr_paths.specs.Text.{is_slash}
use Rattle.mr_paths.proofs.path.read_names.Given as goal

abbrev pub invariant-loop-name : goal.invariant-loop-name
invariant-loop-name l = record { parts : l.path ≡ take (length l.yielded) (slice_split is_slash l.text); utf8 : All IsUtf8 l.path }
