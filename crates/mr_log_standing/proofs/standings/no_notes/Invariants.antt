use Rattle.std.proofs.Common.{◌≡◌, ℕ, [], length, get_or}
use Rattle.mr_log_standing.proofs.standings.no_notes.Given as goal

abbrev pub invariant-loop : goal.invariant-loop
invariant-loop l = record { count : length l.tasks.items ≡ l.counter; empty : (k : ℕ) → get_or l.tasks.items k [] ≡ [] }
