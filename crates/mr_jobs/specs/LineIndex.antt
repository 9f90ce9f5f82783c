-- What the index of lines gives (a profile of its own).
use Rattle.std.specs.Prelude.{ℕ, map, List, [], ◌∷◌, ◌++◌, Some, decimal}
use Rattle.std.specs.List.{join_with_byte}
use Rattle.mr_user.specs.declared.position.Position.{Position}
use Rattle.mr_user.specs.Computation.{Functions}
use Rattle.mr_jobs.specs.Words.{words_of, word_partition}

-- split and line, a colon between them
abbrev pub position_text : Position → List ℕ
position_text p = decimal p.split ++ 58 ∷ decimal p.line

-- each word with the position of its line, and all positions of a word, a comma between two
abbrev pub line_index : Functions (List ℕ) Position
line_index = record {
  mapped = λ split line_no line. Some (map (λ word. (word, record { split = split; line = line_no })) (words_of line));
  partition_of = word_partition;
  combined = λ word positions. positions;
  reduced = λ word positions. join_with_byte 44 (map position_text positions) ∷ [];
  key_text = λ word. word;
}
