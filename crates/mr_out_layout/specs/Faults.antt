-- Why a directory is refused, or a call on it failed: which error of the system becomes which fault. Our own.
use Rattle.std.specs.Prelude.{◌≡◌, ◌≢◌, ℕ, Bool, true, false, List, codes, Option, Some, None, Result, Ok, Err}
use Rattle.std.specs.Str.{bytes_eq}
use Rattle.std.specs.String.{string_bytes}
use Rattle.std.specs.IoError.{error_kind}
use Rattle.std.specs.declared.io.Error.{Error}
use Rattle.std.specs.declared.io.ErrorKind.{ErrorKind}
use Rattle.std.specs.declared.io.ErrorKind.TheVariants as kind
use Rattle.mr_out_layout.specs.declared.fault.Fault.{Fault}
use Rattle.mr_out_layout.specs.declared.fault.Fault.TheVariants as fault
use Rattle.mr_out_layout.specs.declared.fault.Why.{Why}
use Rattle.mr_out_layout.specs.declared.fault.Why.TheVariants.{BadSuffix, NoAttempt, NoTask, EarlierBoot}

-- what stands at the path is refused; or there was no memory to say so
abbrev pub IsRefusal : List ℕ → Why → Fault → Type 0
IsRefusal path why fault.NoMemory = Unit {0}
IsRefusal path why (fault.Refused text w) = (string_bytes text ≡ path) × (w ≡ why)
IsRefusal path why _ = ⊥

-- this call on the path failed, and not for memory; or there was no memory, for it or to say so
abbrev pub IsFailure : List ℕ → List ℕ → Fault → Type 0
IsFailure call path fault.NoMemory = Unit {0}
IsFailure call path (fault.Call what text error) = (what.now ≡ call) × (string_bytes text ≡ path) × (error_kind error ≢ kind.OutOfMemory)
IsFailure call path _ = ⊥

-- a failed call is told with this error
abbrev pub TellsError : Error → Fault → Type 0
TellsError error (fault.Call what text told) = told ≡ error
TellsError error _ = Unit {0}

-- nothing stands at a path, or what should be its folder is none
abbrev pub is_absent : ErrorKind → Bool
is_absent kind.NotFound = true
is_absent kind.NotADirectory = true
is_absent _ = false

-- What is told of a look that the system answered so: what was found; nothing, where nothing is there; of any other error that the look failed.
abbrev pub LooksAs : {T : Type 0} → List ℕ → Result T Error → Result (Option T) Fault → Type 0
LooksAs path (Ok found) r = r ≡ Ok (Some found)
LooksAs path (Err error) (Ok o) = (o ≡ None) × (is_absent (error_kind error) ≡ true)
LooksAs path (Err error) (Err f) = (is_absent (error_kind error) ≡ false) × (IsFailure (codes "look") path f × TellsError error f)

-- a path is refused, and not a word of the command line
abbrev pub is_of_path : Why → Bool
is_of_path BadSuffix = false
is_of_path NoAttempt = false
is_of_path NoTask = false
is_of_path EarlierBoot = false
is_of_path _ = true

-- this call failed
abbrev pub is_failure_of : List ℕ → Fault → Bool
is_failure_of name (fault.Call what text error) = bytes_eq what.now name
is_failure_of name _ = false

-- the same fault, whose path may be told otherwise; or there was no memory to say so
abbrev pub IsPlaced : Fault → Fault → Type 0
IsPlaced f fault.NoMemory = Unit {0}
IsPlaced (fault.Call what text error) (fault.Call w t e) = (w ≡ what) × (e ≡ error)
IsPlaced (fault.Refused text why) (fault.Refused t w) = (w ≡ why) × (is_of_path why ≡ false → t ≡ text)
IsPlaced fault.Busy fault.Busy = Unit {0}
IsPlaced fault.Full fault.Full = Unit {0}
IsPlaced f _ = ⊥
