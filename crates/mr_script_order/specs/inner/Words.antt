-- The numbers of an event in two parts, so that a comparison takes no memory.
use Rattle.std.specs.Prelude.{ℕ, List, [], ◌∷◌, length}
use Rattle.mr_world_events.specs.declared.event.Event.{Event}
use Rattle.mr_world_events.specs.declared.event.Event.TheVariants.{Start, Crash, Duty, LaunchOn, Deliver, ContainerStep, Computed, Die, NodeRestart, Expire}
use Rattle.mr_script_order.specs.Order.{kind_number, weather_number}

-- the numbers before computed bytes, seven with zeros behind them
abbrev pub words : Event → List ℕ
words (Crash generation kept) = 0 ∷ generation ∷ kept ∷ 0 ∷ 0 ∷ 0 ∷ 0 ∷ []
words (Start generation kept) = 1 ∷ generation ∷ kept ∷ 0 ∷ 0 ∷ 0 ∷ 0 ∷ []
words (Die c) = 2 ∷ c.app ∷ c.number ∷ 0 ∷ 0 ∷ 0 ∷ 0 ∷ []
words (NodeRestart node) = 3 ∷ node ∷ 0 ∷ 0 ∷ 0 ∷ 0 ∷ 0 ∷ []
words (Expire generation node) = 4 ∷ generation ∷ node ∷ 0 ∷ 0 ∷ 0 ∷ 0 ∷ []
words (LaunchOn generation task node) = 5 ∷ generation ∷ task.job.start ∷ task.job.number ∷ kind_number task.kind ∷ task.number ∷ node ∷ []
words (Deliver packet) = 6 ∷ packet ∷ 0 ∷ 0 ∷ 0 ∷ 0 ∷ 0 ∷ []
words (Duty generation weather) = 7 ∷ generation ∷ weather_number weather ∷ 0 ∷ 0 ∷ 0 ∷ 0 ∷ []
words (ContainerStep c weather) = 8 ∷ c.app ∷ c.number ∷ weather_number weather ∷ 0 ∷ 0 ∷ 0 ∷ []
words (Computed c bytes) = 9 ∷ c.app ∷ c.number ∷ length bytes ∷ 0 ∷ 0 ∷ 0 ∷ []

-- what was computed
abbrev pub bytes_of : Event → List ℕ
bytes_of (Computed c bytes) = bytes
bytes_of _ = []
