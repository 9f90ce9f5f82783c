-- What an answer changes and sends, by what the master is at. Our own: where code and definitions meet.
use Rattle.std.specs.Prelude.{List, ◌++◌}
use Rattle.mr_packet.specs.declared.packet.Envelope.{Envelope}
use Rattle.mr_master_model.specs.declared.setting.Setting.{Setting}
use Rattle.mr_master_model.specs.declared.store.StoreAnswer.{StoreAnswer}
use Rattle.mr_master_model.specs.Readings.{Seen}
use Rattle.mr_master_model.specs.Answered.{with_work, changed, work_after}
use Rattle.mr_master_model.specs.Sends.{work_sends, outcome_of}

abbrev pub answered_sends : Setting → Seen → StoreAnswer → List Envelope
answered_sends w s a = work_sends w s a s.work ++ outcome_of w (work_after w s a s.work)

abbrev pub answered_seen : Setting → Seen → StoreAnswer → Seen
answered_seen w s a = with_work w (changed w s a s.work) (work_after w s a s.work)
