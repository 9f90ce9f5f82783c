-- A master's past in the cluster, as the past of a master's machine: its setting, its store calls, their answers and its steps.
-- Our own: it ties two sets of definitions.
use Rattle.std.specs.Prelude.{ℕ, List, [], ◌∷◌, length, Ok, Err}
use Rattle.mr_names.specs.declared.op.Op.{Op}
use Rattle.mr_names.specs.declared.op.Op.TheVariants as op
use Rattle.mr_names.specs.declared.op.Answer.TheVariants as found
use Rattle.mr_names.specs.declared.fault.NameFault.{NameFault}
use Rattle.mr_names.specs.declared.fault.NameFault.TheVariants as name
use Rattle.mr_history.specs.declared.fault.HistoryFault.TheVariants as history
use Rattle.mr_master_model.specs.declared.setting.Setting.{Setting}
use Rattle.mr_master_model.specs.declared.store.StoreCall.{StoreCall}
use Rattle.mr_master_model.specs.declared.store.StoreCall.TheVariants as call
use Rattle.mr_master_model.specs.declared.store.StoreAnswer.{StoreAnswer}
use Rattle.mr_master_model.specs.declared.store.StoreAnswer.TheVariants as answer
use Rattle.mr_master_model.specs.Past as machine
use Rattle.mr_world_model.specs.Ids.{dest}
use Rattle.mr_world_model.specs.Packets.{Config, Store, Names, Append_record, Flush, Read_history, Reply, Fine, Found, Entries, Bytes, Records, Refused, Sealed}
use Rattle.mr_world_model.specs.Duties.{Master_step, Came, Launches, Expires, Asks}

-- what generation k of the cluster's master is for
abbrev pub setting : Config → ℕ → Setting
setting cfg k = record {
  app = k;
  job = cfg.job;
  maps = length cfg.splits;
  reduces = cfg.reduces;
  nodes = cfg.nodes;
  limit = cfg.limit;
  layout = record { dest = dest };
}

abbrev pub store_call : Store → StoreCall
store_call (Names o) = call.Names o
store_call (Append_record r) = call.Append r
store_call Flush = call.Flush
store_call Read_history = call.Read

-- ---- answers. One that a call cannot have is a fault

abbrev pub plain : Reply → StoreAnswer
plain Fine = answer.Names (Ok found.Done)
plain (Refused why) = answer.Names (Err why)
plain _ = answer.Fault

abbrev pub looked_up : Reply → StoreAnswer
looked_up (Found kind) = answer.Names (Ok (found.Found kind))
looked_up (Refused why) = answer.Names (Err why)
looked_up _ = answer.Fault

abbrev pub listed : Reply → StoreAnswer
listed (Entries names) = answer.Names (Ok (found.Listed names))
listed (Refused why) = answer.Names (Err why)
listed _ = answer.Fault

abbrev pub read : Reply → StoreAnswer
read (Bytes bytes) = answer.Names (Ok (found.Contents bytes))
read (Refused why) = answer.Names (Err why)
read _ = answer.Fault

abbrev pub answer_of_names : Op → Reply → StoreAnswer
answer_of_names (op.Mkdirs p) r = plain r
answer_of_names (op.Create p closed) r = plain r
answer_of_names (op.Append p bytes) r = plain r
answer_of_names (op.Close p) r = plain r
answer_of_names (op.Delete p) r = plain r
answer_of_names (op.Rename p q) r = plain r
answer_of_names (op.List p) r = listed r
answer_of_names (op.Exists p) r = looked_up r
answer_of_names (op.Read p) r = read r
answer_of_names (op.Bar a) r = plain r

-- the history refuses a superseded master, or a sealed segment
abbrev pub not_written : NameFault → StoreAnswer
not_written (name.Superseded fence) = answer.Wrote (Err (history.Superseded fence))
not_written _ = answer.Fault

abbrev pub written : Reply → StoreAnswer
written Fine = answer.Wrote (Ok tt)
written (Refused why) = not_written why
written Sealed = answer.Wrote (Err history.Sealed)
written _ = answer.Fault

abbrev pub not_told : NameFault → StoreAnswer
not_told (name.Superseded fence) = answer.Unread (history.Superseded fence)
not_told _ = answer.Fault

abbrev pub told : Reply → StoreAnswer
told (Records records) = answer.Told records
told (Refused why) = not_told why
told _ = answer.Fault

abbrev pub answer_of : Store → Reply → StoreAnswer
answer_of (Names o) r = answer_of_names o r
answer_of (Append_record x) r = written r
answer_of Flush r = written r
answer_of Read_history r = told r

-- ---- steps

abbrev pub step_of : Master_step → machine.Step
step_of (Came p) = machine.Hears p
step_of (Launches l) = machine.Launches l.attempt.task l.node
step_of (Expires n) = machine.Expires n
step_of (Asks call r) = machine.Answered (answer_of call r)

abbrev pub steps : List Master_step → List machine.Step
steps [] = []
steps (x ∷ past) = step_of x ∷ steps past
