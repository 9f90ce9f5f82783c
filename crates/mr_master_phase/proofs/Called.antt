-- Where no call is due.
use Rattle.std.proofs.Common.{◌≡◌, refl, false, None, is_some}
use Rattle.mr_master_model.specs.declared.setting.Setting.{Setting}
use Rattle.mr_master_model.specs.Past.{Work, Ends, Stops}
use Rattle.mr_master_model.specs.Readings.{Seen, is_running}
use Rattle.mr_master_model.specs.Duty.{duty_at}
use Rattle.mr_master_phase.specs.WorkKinds.{is_look, is_tell, is_read, is_step, fails_as}

-- where the work is over
pub over-idle : (w : Setting) (s : Seen) (work : Work) → is_look work ≡ false → is_tell work ≡ false → is_read work ≡ false → is_step work ≡ false → None ≡ fails_as work → is_running work ≡ false → is_some (duty_at w s work) ≡ false
unfolding duty_at
over-idle w s (Ends x) a b c d e f = refl
over-idle w s Stops a b c d e f = refl
over-idle w s _ a b c d e f = cc
