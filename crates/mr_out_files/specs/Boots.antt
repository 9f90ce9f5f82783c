-- The boot of the machine in which a history is open. Our own.
use Rattle.std.specs.Prelude.{ℕ, List, [], option_map, unwrap_or}
use Rattle.std.specs.String.{string_bytes}
use Rattle.mr_out_files.specs.declared.history.History.{History}

-- its number, or nothing where the system tells none
abbrev pub boot_text : History → List ℕ
boot_text h = unwrap_or (option_map string_bytes h.boot) []
