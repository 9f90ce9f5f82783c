-- The attempts that are barred, as a finite set: our own profile. The container of a barred attempt may still run, and whatever
-- it asks of the namespace is refused.
use Rattle.std.specs.Prelude.{◌+◌, Bool, false, not, ◌&&◌, Option, Some, None, nat_lt}
use Rattle.std.specs.Coded.{Coded}
use Rattle.std.specs.FinSet as set
use Rattle.mr_ids.specs.Attempt.{Attempt}
use Rattle.mr_ids.specs.Code.{attempt_code}
use Rattle.mr_names.specs.declared.namespace.TheConstants.{MAX_BARRED}
use Rattle.mr_names.specs.Attempts.{attempt_cmp}

abbrev pub Barred : Type 0
Barred = set.FinSet attempt_cmp

abbrev pub barred_code : Coded Barred
barred_code = set.code attempt_code

-- whether an attempt is barred
abbrev pub is_barred : Barred → Attempt → Bool
is_barred barred a = set.contains barred a

-- whether a caller's attempt is barred. A caller without an attempt is not
abbrev pub bars : Barred → Option Attempt → Bool
bars barred None = false
bars barred (Some a) = is_barred barred a

-- whether an attempt finds no room, since MAX_BARRED others are barred. One that is barred needs none
abbrev pub has_no_room : Barred → Attempt → Bool
has_no_room barred a = not (is_barred barred a) && nat_lt MAX_BARRED (set.len barred + 1)
