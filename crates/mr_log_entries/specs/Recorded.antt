-- What a log records: the lines of its entries, one after another. Our own.
use Rattle.std.specs.Prelude.{List, [], ◌∷◌, ◌++◌}
use Rattle.mr_log_entries.specs.declared.line.Line.{Line}
use Rattle.mr_log_entries.specs.declared.entry.Entry.{Entry}

-- the lines of all entries, in order
unfoldable pub lines_of : List Entry → List Line
lines_of [] = []
lines_of (e ∷ es) = e.lines ++ lines_of es
