use Rattle.std.proofs.Common.{◌≡◌, ◌++◌, take}
use Rattle.mr_page.specs.Page.{escaped}
use Rattle.mr_page.proofs.page.put_lines.Given as goal

-- the lines so far
abbrev pub invariant-loop-byte : goal.invariant-loop-byte
invariant-loop-byte l = l.out.items ≡ l.fn.out.items ++ escaped (take l.byte-index l.lines)
