-- Maps whose outputs are not lost with a node.
use Rattle.std.specs.Prelude.{◌≡◌, ◌<◌, ◌≤◌, ℕ, []}
use Rattle.mr_ids.specs.declared.id.TaskKind.TheVariants.{Map}
use Rattle.mr_master_model.specs.declared.setting.Setting.{Setting}
use Rattle.mr_master_model.specs.Job.{task_of}
use Rattle.mr_master_model.specs.Readings.{Seen}
use Rattle.mr_master_tables.specs.declared.gone.Gone.{Gone}
use Rattle.mr_master_tables.specs.Gone.{lost_of}
use Rattle.mr_master_state.specs.State.{Master, Keeps}

-- of the map of this number what is gone loses no output
abbrev pub IsKept : Master → Gone → ℕ → Type 0
IsKept m g number = (w : Setting) (s : Seen) → Keeps m w s → lost_of w s g (task_of w Map number) ≡ []

-- of none of the maps whose numbers are from one on, up to another
abbrev pub NoneLost : Master → Gone → ℕ → ℕ → Type 0
NoneLost m g from to = (number : ℕ) → from ≤ number → number < to → IsKept m g number

abbrev pub NoneLostFrom : Master → Gone → ℕ → Type 0
NoneLostFrom m g from = (number : ℕ) → from ≤ number → IsKept m g number
