use Rattle.std.proofs.Common.{◌≤◌, length, arith}
use Rattle.mr_log_entries.specs.Numerals.{number_text}
use Rattle.mr_log_entries.proofs.Widths.{number_fits}
use Rattle.mr_log_entries.proofs.text.plain_len.Goals as goal

pub returns-clause-small : goal.returns-clause-small
returns-clause-small c =
    let few : length (number_text 64 c.args.n) ≤ 11 = number_fits 64 11 c.args.n (omega arith) (omega arith) (omega arith) in
    let own = c.number_len.ensures.len in
    omega arith
