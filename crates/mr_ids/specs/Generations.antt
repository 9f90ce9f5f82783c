-- Which generation of the master numbered an attempt: generation k numbers the attempts at each task from 1000 * (k - 1) on.
-- So does the MRAppMaster of Hadoop, whose attempts of a later application attempt begin at a higher number; that it is a thousand, and exactly so, is our own profile.
use Rattle.std.specs.Prelude.{◌≡◌, ◌≤◌, ◌<◌, ◌+◌, ◌-◌, ◌*◌, ◌/◌, ℕ}

-- the first number that generation k gives
abbrev pub first_attempt_number : ℕ → ℕ
first_attempt_number k = 1000 * (k - 1)

-- the generation that gave a number
abbrev pub generation_of : ℕ → ℕ
generation_of n = n / 1000 + 1

-- a number is generation k's exactly where it is from its first on and below that of the next; a generation's first number is its own
pub record NumbersTellGenerations : Type 0 where
  pub first : (k : ℕ) → 1 ≤ k → generation_of (first_attempt_number k) ≡ k
  pub own : (n k : ℕ) → generation_of n ≡ k → (first_attempt_number k ≤ n) × (n < first_attempt_number (k + 1))
  pub only : (n k : ℕ) → 1 ≤ k → first_attempt_number k ≤ n → n < first_attempt_number (k + 1) → generation_of n ≡ k
