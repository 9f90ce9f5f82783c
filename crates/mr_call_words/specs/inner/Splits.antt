-- Where a line and a path are cut.
use Rattle.std.specs.Prelude.{ℕ, Bool, ◌==◌}

abbrev pub is_space : ℕ → Bool
is_space b = b == 32
