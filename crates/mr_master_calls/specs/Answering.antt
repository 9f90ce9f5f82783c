-- When a call is due. Our own: where code and definitions meet.
use Rattle.std.specs.Prelude.{◌≡◌, true}
use Rattle.std.specs.Option.{is_some}
use Rattle.mr_master_model.specs.declared.setting.Setting.{Setting}
use Rattle.mr_master_model.specs.Duty.{duty}
use Rattle.mr_master_model.specs.Readings.{Seen}
use Rattle.mr_master_state.specs.State.{Master, Keeps}

-- a call is due
abbrev pub IsDue : Master → Type 0
IsDue m = (w : Setting) (s : Seen) → Keeps m w s → is_some (duty w s) ≡ true
