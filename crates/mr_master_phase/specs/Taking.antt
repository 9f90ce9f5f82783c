-- A reduce that succeeded under an earlier master is taken over. Our own: where code and definitions meet.
use Rattle.std.specs.Prelude.{Bool, Option, Some, None, List, [], ◌∷◌, if◌then◌else◌}
use Rattle.mr_ids.specs.Same.{same_task}
use Rattle.mr_ids.specs.declared.id.TaskId.{TaskId}
use Rattle.mr_task.specs.Calls.{TaskCall, Recovers}
use Rattle.mr_packet.specs.declared.packet.Envelope.{Envelope}
use Rattle.mr_packet.specs.declared.packet.Packet.TheVariants as packet
use Rattle.mr_recover.specs.declared.winner.TaskWinner.{TaskWinner}
use Rattle.mr_master_model.specs.declared.setting.Setting.{Setting}
use Rattle.mr_master_model.specs.Past.{Work, TakesOver}
use Rattle.mr_master_model.specs.Readings.{Seen}
use Rattle.mr_master_model.specs.Answered.{with_maps}
use Rattle.mr_master_model.specs.Sends.{to_all}

-- the reduce that is taken over
abbrev pub winner_of : Work → Option TaskWinner
winner_of (TakesOver winner left others) = Some winner
winner_of _ = None

-- once its output is taken over, its attempt is entered as Succeeded
abbrev pub calls_with : Option TaskWinner → (TaskId → List TaskCall) → TaskId → List TaskCall
calls_with None calls = calls
calls_with (Some x) calls = λ u. if same_task u x.task then Recovers x.attempt ∷ calls u else calls u

abbrev pub after_winner : Seen → Option TaskWinner → Seen
after_winner s o = record s { calls = calls_with o s.calls }

-- and every node is told of it
abbrev pub won_of : Setting → Option TaskWinner → List Envelope
won_of w None = []
won_of w (Some x) = to_all w.nodes (packet.Won x.task x.attempt)

-- and where the master runs then, the maps' newest successes are entered
abbrev pub after_table : Setting → Seen → Option TaskWinner → (runs : Bool) → Seen
after_table w s o runs = if runs then with_maps w (after_winner s o) else after_winner s o
