-- Numbers in a base of at most 64. Our own.
use Rattle.std.specs.Prelude.{ℕ, zero, suc, ◌+◌, nat_eq, nat_lt, List, [], ◌∷◌, map, if◌then◌else◌}
use Rattle.std.specs.Int.Digits.{digits_of}

-- what stands for a digit: `0` to `9`, `a` to `z`, `A` to `Z`, `-` and `_`
abbrev pub digit_byte : ℕ → ℕ
digit_byte d = if nat_lt d 10 then 48 + d else (if nat_lt d 36 then 87 + d else (if nat_lt d 62 then 29 + d else (if nat_eq d 62 then 45 else 95)))

-- a number in a base: its digits, the highest first, which is not 0; or `0`
unfoldable pub number_text : ℕ → ℕ → List ℕ
number_text base zero = 48 ∷ []
number_text base (suc n) = map digit_byte (digits_of base (suc n))
