-- A number's generation, by the thousand that it lies in.
use Rattle.std.proofs.Common.{ℕ, ◌≤◌, ◌<◌, ◌+◌, ◌≡◌, arith}
use Rattle.mr_ids.specs.Generations.{first_attempt_number, generation_of}

pub first_is_own : (k : ℕ) → 1 ≤ k → generation_of (first_attempt_number k) ≡ k
first_is_own k p = omega arith

pub own_range : (n k : ℕ) → generation_of n ≡ k → (first_attempt_number k ≤ n) × (n < first_attempt_number (k + 1))
own_range n k e = (omega arith, omega arith)

pub only_own : (n k : ℕ) → 1 ≤ k → first_attempt_number k ≤ n → n < first_attempt_number (k + 1) → generation_of n ≡ k
only_own n k p l u = omega arith
