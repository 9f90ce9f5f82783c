-- What is sent where a node is given up.
use Rattle.std.specs.Prelude.{ℕ, List, flat_map}
use Rattle.mr_packet.specs.declared.packet.Envelope.{Envelope}
use Rattle.mr_master_model.specs.declared.setting.Setting.{Setting}
use Rattle.mr_master_model.specs.Job.{all_maps}
use Rattle.mr_master_model.specs.Readings.{Seen}
use Rattle.mr_master_model.specs.Hearing.{given_up_of_maps}
use Rattle.mr_master_model.specs.Sends.{kill_of}

-- Kills to the maps' live attempts on the node
abbrev pub kills_on : Setting → Seen → ℕ → List Envelope
kills_on w s n = flat_map (kill_of w s) (flat_map (given_up_of_maps w s n) (all_maps w))
