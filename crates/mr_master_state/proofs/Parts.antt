-- One part changes, and the machine keeps what was seen with that part changed.
use Rattle.std.proofs.Common.{ℕ, ◌≡◌, Bool, List}
use Rattle.mr_ids.specs.Attempt.{Attempt}
use Rattle.mr_ids.specs.declared.id.TaskId.{TaskId}
use Rattle.mr_task.specs.Calls.{TaskCall}
use Rattle.mr_history.specs.declared.record.Record.{Record}
use Rattle.mr_master_model.specs.declared.launch.Launch.{Launch}
use Rattle.mr_master_model.specs.declared.setting.Setting.{Setting}
use Rattle.mr_master_model.specs.Past.{Work}
use Rattle.mr_master_model.specs.Readings.{Seen}
use Rattle.mr_master_tasks.specs.Tasks.{Tasks, KeepsTasks}
use Rattle.mr_master_tables.specs.Bars.{Bars}
use Rattle.mr_master_tables.specs.Launches.{Launched, KeepsLaunches}
use Rattle.mr_master_tables.specs.Nodes.{KeepsNodes}
use Rattle.mr_master_tables.specs.Records.{Writing, KeepsRecords}
use Rattle.mr_master_state.specs.State.{Master, Keeps}

pub with-work : {m : Master} {w : Setting} {s : Seen} (stored work : Work) → stored ≡ work → Keeps m w s → Keeps (record m { work = stored }) w (record s { work = work })
with-work stored work e k = record { setting = k.setting; work = e; tasks = k.tasks; launches = k.launches; nodes = k.nodes; earlier = k.earlier; writing = k.writing; bars = k.bars }

pub with-tasks : {m : Master} {w : Setting} {s : Seen} (tasks : Tasks) (calls : TaskId → List TaskCall) → KeepsTasks tasks w calls → Keeps m w s → Keeps (record m { tasks = tasks }) w (record s { calls = calls })
with-tasks tasks calls t k = record { setting = k.setting; work = k.work; tasks = t; launches = k.launches; nodes = k.nodes; earlier = k.earlier; writing = k.writing; bars = k.bars }

pub with-launches : {m : Master} {w : Setting} {s : Seen} (launches : Launched) (launched : List (Attempt × Launch)) (killed : ℕ → Bool) → KeepsLaunches launches launched killed → Keeps m w s
    → Keeps (record m { launches = launches }) w (record s { launched = launched; killed = killed })
with-launches launches launched killed l k = record { setting = k.setting; work = k.work; tasks = k.tasks; launches = l; nodes = k.nodes; earlier = k.earlier; writing = k.writing; bars = k.bars }

pub with-nodes : {m : Master} {w : Setting} {s : Seen} (nodes : List (ℕ × ℕ)) (known : ℕ → ℕ) → KeepsNodes nodes known → Keeps m w s → Keeps (record m { nodes = nodes }) w (record s { known = known })
with-nodes nodes known n k = record { setting = k.setting; work = k.work; tasks = k.tasks; launches = k.launches; nodes = n; earlier = k.earlier; writing = k.writing; bars = k.bars }

pub with-earlier : {m : Master} {w : Setting} {s : Seen} (stored earlier : List Record) → stored ≡ earlier → Keeps m w s → Keeps (record m { earlier = stored }) w (record s { earlier = earlier })
with-earlier stored earlier e k = record { setting = k.setting; work = k.work; tasks = k.tasks; launches = k.launches; nodes = k.nodes; earlier = e; writing = k.writing; bars = k.bars }

pub with-writing : {m : Master} {w : Setting} {s : Seen} (writing : Writing) (due tail : List Record) → KeepsRecords writing due tail → Keeps m w s
    → Keeps (record m { writing = writing }) w (record s { due = due; tail = tail })
with-writing writing due tail r k = record { setting = k.setting; work = k.work; tasks = k.tasks; launches = k.launches; nodes = k.nodes; earlier = k.earlier; writing = r; bars = k.bars }

pub with-bars : {m : Master} {w : Setting} {s : Seen} (stored : Bars) (bars : List Attempt) → stored.due ≡ bars → Keeps m w s → Keeps (record m { bars = stored }) w (record s { bars = bars })
with-bars stored bars e k = record { setting = k.setting; work = k.work; tasks = k.tasks; launches = k.launches; nodes = k.nodes; earlier = k.earlier; writing = k.writing; bars = e }
