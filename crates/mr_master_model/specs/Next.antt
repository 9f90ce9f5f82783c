-- What is read off a master's past, step by step, and what it sent at each. Our own: a past and its readings.
use Rattle.std.specs.Prelude.{List, [], ◌∷◌, if◌then◌else◌}
use Rattle.mr_packet.specs.declared.packet.Envelope.{Envelope}
use Rattle.mr_master_model.specs.declared.setting.Setting.{Setting}
use Rattle.mr_master_model.specs.Past.{Step, Hears, Launches, Expires, Answered}
use Rattle.mr_master_model.specs.Readings.{Seen, opening, is_running}
use Rattle.mr_master_model.specs.Hearing.{heard, delivered, after_launch, after_expiry}
use Rattle.mr_master_model.specs.Answered.{after_answer}
use Rattle.mr_master_model.specs.Sends.{replies, launch_sends, expiry_sends, answer_sends, killed_by}

-- what a step changes, Kills aside
unfoldable pub moved : Setting → Seen → Step → Seen
moved w s (Hears p) = delivered w s p
moved w s (Launches t n) = after_launch w s t n
moved w s (Expires n) = after_expiry w s n
moved w s (Answered a) = after_answer w s a

-- what is sent at a step
unfoldable pub sent_by : Setting → Seen → Step → List Envelope
sent_by w s (Hears p) = if is_running s.work then replies w s (heard w s p) p else []
sent_by w s (Launches t n) = launch_sends w s t n
sent_by w s (Expires n) = expiry_sends w s n
sent_by w s (Answered a) = answer_sends w s a

abbrev pub with_kills : List Envelope → Seen → Seen
with_kills es s = record s { killed = killed_by es s.killed }

-- what is seen after a step
unfoldable pub next_seen : Setting → Seen → Step → Seen
next_seen w s step = with_kills (sent_by w s step) (moved w s step)

-- what is read off a past
unfoldable pub seen : Setting → List Step → Seen
seen w [] = opening
seen w (step ∷ past) = next_seen w (seen w past) step

-- what is sent at a step after a past
abbrev pub sent : Setting → List Step → Step → List Envelope
sent w past step = sent_by w (seen w past) step
