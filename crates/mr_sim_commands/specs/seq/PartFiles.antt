-- Files as they are printed. The names are those of Hadoop's FileOutputFormat, the format is our own.
use Rattle.std.specs.Prelude.{◌+◌, ℕ, List, [], ◌∷◌, ◌++◌, length, codes, decimal}
use Rattle.mr_paths.specs.Layout.{part}

-- a file: its name and its length on a line, and then its bytes, with nothing behind them
abbrev pub file_text : List ℕ → List ℕ → List ℕ
file_text name bytes = codes "== " ++ name ++ codes " " ++ decimal (length bytes) ++ 10 ∷ bytes

-- the part files of the reduces from n on, by rising name
abbrev pub part_files_text : ℕ → List (List ℕ) → List ℕ
part_files_text n [] = []
part_files_text n (file ∷ files) = file_text (part n) file ++ part_files_text (n + 1) files
