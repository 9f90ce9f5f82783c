use Rattle.std.proofs.Common.{◌≡◌, ◌++◌, take}
use Rattle.std.specs.String.{string_bytes}
use Rattle.mr_log_entries.specs.Texts.{lines_text}
use Rattle.mr_log_entries.proofs.text.push_lines.Given as goal

-- the text of the lines so far was appended
abbrev pub invariant-loop-line : goal.invariant-loop-line
invariant-loop-line l = string_bytes l.out ≡ string_bytes l.fn.out ++ lines_text (take l.line-index l.lines)
