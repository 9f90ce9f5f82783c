-- Which fault may stand in the place of an answer. Our own profile.
use Rattle.mr_user.specs.declared.fault.UserFault.{UserFault}
use Rattle.mr_user.specs.declared.fault.UserFault.TheVariants.{Refused, BadWire, NoMemory}

-- an allocation failure, or a refusal where p holds
abbrev pub RefusedIf : UserFault → Type 0 → Type 0
RefusedIf Refused p = p
RefusedIf BadWire p = ⊥
RefusedIf NoMemory p = Unit {0}

-- an allocation failure, or bytes that begin with no value, where p holds
abbrev pub BadWireIf : UserFault → Type 0 → Type 0
BadWireIf Refused p = ⊥
BadWireIf BadWire p = p
BadWireIf NoMemory p = Unit {0}
