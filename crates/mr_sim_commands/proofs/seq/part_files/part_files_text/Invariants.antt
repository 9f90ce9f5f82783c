use Rattle.std.proofs.Common.{◌≡◌, ◌++◌, drop, map}
use Rattle.mr_sim_commands.specs.seq.PartFiles.{part_files_text}
use Rattle.mr_sim_commands.proofs.seq.part_files.part_files_text.Given as goal

abbrev pub invariant-loop-file : goal.invariant-loop-file
invariant-loop-file l = record {
  number : l.reduce ≡ l.file-index;
  printed : l.text.items ++ part_files_text l.file-index (map (λ file. file.items) (drop l.file-index l.files)) ≡ part_files_text 0 (map (λ file. file.items) l.files);
}
