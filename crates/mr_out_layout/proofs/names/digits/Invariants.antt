use Rattle.std.proofs.Common.{◌≡◌, length}
use Rattle.std.specs.Char.{is_ascii_digit}
use Rattle.std.specs.List.{list_all}
use Rattle.std.specs.Str.Parse.{digits_value, digits_value_after}
use Rattle.mr_out_layout.proofs.names.digits.Given as goal

-- the value of what is left, behind what was read, is that of the whole
abbrev pub invariant-loop-byte : goal.invariant-loop-byte
invariant-loop-byte l = (digits_value_after 10 l.value l.rest ≡ digits_value 10 l.fn.bytes) × (list_all is_ascii_digit l.rest ≡ list_all is_ascii_digit l.fn.bytes)

abbrev pub decreases-loop-byte : goal.decreases-loop-byte
decreases-loop-byte l = length l.rest
