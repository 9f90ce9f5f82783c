-- Why a script is not read. Our own format.
use Rattle.std.specs.Prelude.{ℕ, List}
use Rattle.mr_script.specs.declared.script.ScriptFault.{ScriptFault}
use Rattle.mr_script.specs.declared.script.ScriptFault.TheVariants.{NoMemory, BadCommand}
use Rattle.mr_script.specs.Lines.{lines_of, IsFirstNoLine}

-- there may be an allocation failure at any script
abbrev pub IsScriptFault : {C : Type 0} → (List ℕ → C → Type 0) → ℕ → List ℕ → ScriptFault → Type 0
IsScriptFault IsLine first bytes NoMemory = Unit {0}
IsScriptFault IsLine first bytes (BadCommand n) = IsFirstNoLine IsLine first (lines_of bytes) n
