use Rattle.std.proofs.Common.{◌≡◌, ℕ, None, replicate}
use Rattle.mr_world.proofs.Noting.{SoFar}
use Rattle.mr_world.proofs.winners.note_all.Given as goal

-- what is noted, and the entries that are left, tell who won
abbrev pub invariant-loop-entry : goal.invariant-loop-entry
invariant-loop-entry l = (n : ℕ) → l.fn.all ≡ replicate n None → SoFar l.job l.told n l.entry-index l.all
