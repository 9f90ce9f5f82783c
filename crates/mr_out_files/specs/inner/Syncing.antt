-- What may befall a file that is synced.
use Rattle.std.specs.Prelude.{◌⊎◌, ℕ, List}
use Rattle.mr_out_disk.specs.declared.place.Place.{Place}
use Rattle.mr_out_layout.specs.declared.fault.Fault.{Fault}
use Rattle.mr_out_layout.specs.declared.fault.Why.TheVariants.{Foreign}
use Rattle.mr_out_layout.specs.Faults.{IsRefusal}
use Rattle.mr_out_files.specs.Troubles.{FailsAt, IsBarred}

-- some call failed, on whatever path
abbrev pub FailsSomewhere : Fault → Type 0
FailsSomewhere f = (path : List ℕ) × FailsAt path f

-- its attempt is barred; what stands there is no regular file; or a call failed, there or where its length is noted
abbrev pub IsSyncFault : List ℕ → Place → Fault → Type 0
IsSyncFault path p f = IsBarred p f ⊎ (IsRefusal path Foreign f ⊎ FailsSomewhere f)
