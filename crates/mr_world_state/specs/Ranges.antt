-- The ranges of a config's numbers (our own profile).
use Rattle.std.specs.Prelude.{◌≤◌, ◌^◌, length}
use Rattle.std.specs.List.{AllByRecursion}
use Rattle.mr_world_model.specs.Packets.{Config}

pub record IsInRange (cfg : Config) : Type 0 where
  pub splits : length cfg.splits ≤ 1000
  pub short : AllByRecursion (λ split. length split ≤ 2 ^ 24) cfg.splits
  pub reduces : (1 ≤ cfg.reduces) × (cfg.reduces ≤ 1000)
  pub nodes : (1 ≤ cfg.nodes) × (cfg.nodes ≤ 64)
  pub limit : (1 ≤ cfg.limit) × (cfg.limit ≤ 100)
  pub v2_from : (1 ≤ cfg.v2_from) × (cfg.v2_from ≤ 1000)
