use Rattle.std.proofs.Common.{◌≡◌, length}
use Rattle.std.specs.Prelude.{All}
use Rattle.mr_user.proofs.execution.empty_shares.Given as goal

abbrev pub invariant-loop : goal.invariant-loop
invariant-loop g l = record { count : length l.shares.items ≡ l.counter; empty : All (λ share. length share.items ≡ 0) l.shares.items }
