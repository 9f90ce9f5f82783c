-- The host on which a command runs, as its parts. Our own: what was not synced is lost with the boot in which it was written.
use Rattle.std.specs.Prelude.{ℕ, List}

pub record Host : Type 0 where
  -- the boot that it is in
  pub boot : ℕ
  -- the boots that it was in before
  pub earlier : List ℕ
