use Rattle.std.proofs.Common.{◌≡◌, ◌<◌, ◌^◌, List, ℕ, map, length}
use Rattle.std.specs.Int.Digits.{number_from_digits, AllBelowBase}
use Rattle.mr_log_entries.specs.Numerals.{digit_byte}
use Rattle.mr_log_entries.proofs.Digits.{Read, Left}
use Rattle.mr_log_entries.proofs.numeral.value_of.Given as goal

abbrev pub invariant-loop-byte : goal.invariant-loop-byte
invariant-loop-byte l = record {
  small : l.value < 2 ^ 64;
  read : Read l.base l.bytes l.rest l.value;
  left : (ds : List ℕ) → AllBelowBase l.base ds → l.bytes ≡ map digit_byte ds → number_from_digits l.base ds < 2 ^ 64 → Left l.base l.rest l.value (number_from_digits l.base ds);
}

abbrev pub decreases-loop-byte : goal.decreases-loop-byte
decreases-loop-byte l = length l.rest
