-- What is known after attempts ended and outputs were lost.
use Rattle.std.specs.Prelude.{List}
use Rattle.mr_ids.specs.Attempt.{Attempt}
use Rattle.mr_master_model.specs.declared.setting.Setting.{Setting}
use Rattle.mr_master_model.specs.Readings.{Seen}
use Rattle.mr_master_state.specs.Told.{with_deaths, with_losses}

abbrev pub without : Setting → Seen → (dead lost : List Attempt) → Seen
without w s dead lost = with_losses w (with_deaths w s dead) lost
