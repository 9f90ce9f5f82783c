-- A summary of the log: the texts of entries, each ended by a line feed. Our own.
use Rattle.std.specs.Prelude.{ℕ, List, [], ◌∷◌, ◌++◌}
use Rattle.mr_log_entries.specs.declared.entry.Entry.{Entry}
use Rattle.mr_log_entries.specs.Texts.{entry_text}

unfoldable pub summary_text : List Entry → List ℕ
summary_text [] = []
summary_text (e ∷ es) = entry_text e ++ 10 ∷ summary_text es
