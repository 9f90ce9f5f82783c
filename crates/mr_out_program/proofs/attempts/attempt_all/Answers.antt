use Rattle.std.proofs.Common.{ℕ, ◌==◌, List, length, sym, ap, ◌∙◌}
use Rattle.std.specs.String.{string_bytes}
use Rattle.mr_out_program.proofs.Starting.{tells_empty}
use Rattle.mr_out_program.proofs.attempts.attempt_all.Goals as goal

pub returns-then-is_empty : goal.returns-then-is_empty
returns-then-is_empty c =
    tells_empty c.args.directory.now c.attempt_each.new.directory c.begun.new.directory (string_bytes c.new-lines.result) (string_bytes c.attempt_each.new.lines) c.begun.result c.new-lines.ensures.bytes
    (ap (λ (x : List ℕ). length x == 0) (sym c.as_str.ensures.value) ∙ sym c.is_empty.ensures ∙ c.if-is_empty.true) c.in_ok-attempt_each.ensures c.begun.ensures
