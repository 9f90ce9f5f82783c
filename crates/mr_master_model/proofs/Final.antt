-- A master that is Ended or Stopped stays as it is and sends nothing.
use Rattle.std.proofs.Common.{◌≡◌, refl, sym, subst, Bool, true, [], true≢false}
use Rattle.mr_packet.specs.declared.packet.Packet.TheVariants as packet
use Rattle.mr_master_model.specs.declared.setting.Setting.{Setting}
use Rattle.mr_master_model.specs.Past.{Step, Hears, Launches, Expires, Answered, Work, Ends, Stops}
use Rattle.mr_master_model.specs.Readings.{Seen, is_over}
use Rattle.mr_master_model.specs.Hearing.{delivered}
use Rattle.mr_master_model.specs.Duty.{duty_at}
use Rattle.mr_master_model.specs.Sends.{killed_by}
use Rattle.mr_master_model.specs.Next.{moved, sent_by, next_seen, seen}
use Rattle.mr_master_model.specs.Laws.{OverIsFinal}

abbrev Still : Setting → Seen → Step → Type 0
Still w s step = (next_seen w s step ≡ s) × (sent_by w s step ≡ [])

ended-still : (w : Setting) (s : Seen) (b : Bool) (step : Step) → Still w (record s { work = Ends b }) step
unfolding next_seen moved sent_by delivered duty_at killed_by
ended-still w s b (Hears (packet.NodeUp n i)) = (refl, refl)
ended-still w s b (Hears p) = (refl, refl)
ended-still w s b (Launches t n) = (refl, refl)
ended-still w s b (Expires n) = (refl, refl)
ended-still w s b (Answered a) = (refl, refl)

stopped-still : (w : Setting) (s : Seen) (step : Step) → Still w (record s { work = Stops }) step
unfolding next_seen moved sent_by delivered duty_at killed_by
stopped-still w s (Hears (packet.NodeUp n i)) = (refl, refl)
stopped-still w s (Hears p) = (refl, refl)
stopped-still w s (Launches t n) = (refl, refl)
stopped-still w s (Expires n) = (refl, refl)
stopped-still w s (Answered a) = (refl, refl)

still : (w : Setting) (s : Seen) (step : Step) (x : Work) → s.work ≡ x → is_over x ≡ true → Still w s step
still w s step (Ends b) e o = subst (λ r. Still w r step) (λ i. record s { work = sym e i }) (ended-still w s b step)
still w s step Stops e o = subst (λ r. Still w r step) (λ i. record s { work = sym e i }) (stopped-still w s step)
still w s step _ e o = absurd (true≢false (sym o))

pub over_is_final : OverIsFinal
unfolding seen
over_is_final w past step e = still w (seen w past) step (seen w past).work refl e
