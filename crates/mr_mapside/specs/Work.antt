-- Why a map work gives no output (our own profile).
use Rattle.std.specs.Prelude.{◌≡◌, ℕ, ◌<◌, ◌^◌, List, length, Option, Some, None}
use Rattle.mr_user.specs.declared.fault.UserFault.{UserFault}
use Rattle.mr_user.specs.declared.fault.UserFault.TheVariants as user
use Rattle.mr_mapside.specs.declared.fault.WorkFault.{WorkFault}
use Rattle.mr_mapside.specs.declared.fault.WorkFault.TheVariants.{User, Gate, Shuffle, Full, NoMemory}

-- a user function's fault as a work's
abbrev pub of_user : UserFault → WorkFault
of_user user.Refused = User user.Refused
of_user user.BadWire = User user.BadWire
of_user user.NoMemory = NoMemory

-- a refused line, where p holds, and no other fault of a user function
abbrev pub RefusedWhere : UserFault → Type 0 → Type 0
RefusedWhere user.Refused p = p
RefusedWhere user.BadWire p = ⊥
RefusedWhere user.NoMemory p = ⊥

-- bytes that pass what an output may have, or an allocation failure
abbrev pub FullIf : WorkFault → List ℕ → Type 0
FullIf (User fault) bytes = ⊥
FullIf (Gate fault) bytes = ⊥
FullIf (Shuffle fault) bytes = ⊥
FullIf Full bytes = 2 ^ 24 < length bytes
FullIf NoMemory bytes = Unit {0}

-- A map work's fault, where the output is none or some bytes. It is the gate's, where the gate may refuse, or a
-- refused line, where one is refused. Or the bytes pass what an output may have, or it is an allocation failure.
abbrev pub MapFaultIs : (GateRefuses : Type 0) → WorkFault → Option (List ℕ) → Type 0
MapFaultIs GateRefuses (User fault) output = RefusedWhere fault (output ≡ None)
MapFaultIs GateRefuses (Gate fault) output = GateRefuses
MapFaultIs GateRefuses (Shuffle fault) output = ⊥
MapFaultIs GateRefuses Full output = (bytes : List ℕ) × (output ≡ Some bytes) × (2 ^ 24 < length bytes)
MapFaultIs GateRefuses NoMemory output = Unit {0}
