-- The calls of mr_names and of mr_history, and what the model hears of their answers. Our own: it ties the cluster to the crates beneath it.
use Rattle.std.specs.Prelude.{ℕ, ◌≡◌, ◌≤◌, ◌+◌, false, nat_lt, length, Option, Some, None, Result, Ok, Err, true}
use Rattle.mr_names.specs.declared.fault.NameFault as name
use Rattle.mr_names.specs.declared.op.Answer as answered
use Rattle.mr_names.specs.declared.op.Answer.TheVariants as answers
use Rattle.mr_names.specs.Calls as names
use Rattle.mr_history.specs.declared.fault.HistoryFault as old
use Rattle.mr_history.specs.declared.fault.HistoryFault.TheVariants as fault
use Rattle.mr_history.specs.Calls as history
use Rattle.mr_history.specs.State.{State}
use Rattle.mr_history.specs.Line as lines
use Rattle.mr_history.specs.Segment as segments
use Rattle.mr_history.specs.declared.segment.TheConstants.{MAX_SEGMENT_LEN}
use Rattle.mr_world_model.specs.Content.{Op, Superseded}
use Rattle.mr_world_model.specs.Packets.{Caller, Reply, Fine, Found, Entries, Bytes, Records, Refused, Sealed, Fault, Store, Names, Append_record, Flush, Read_history}
use Rattle.mr_world_model.specs.Bytes.{TellsAll}
use Rattle.mr_names.specs.Barred.{is_barred}
use Rattle.mr_world_model.specs.Ids.{Attempt}
use Rattle.mr_world_model.specs.Hearing.{has}
use Rattle.mr_world_model.specs.World.{World, Made, Calm, unless_stopped, is_stopped}

abbrev pub reply_of_names : Result answered.Answer name.NameFault → Reply
reply_of_names (Ok answers.Done) = Fine
reply_of_names (Ok (answers.Listed entries)) = Entries entries
reply_of_names (Ok (answers.Found kind)) = Found kind
reply_of_names (Ok (answers.Contents bytes)) = Bytes bytes
reply_of_names (Err f) = Refused f

-- a namespace of mr_names is the world's
pub record NamesStand (s : names.State) (w : World) : Type 0 where
  pub content : s.content ≡ w.content
  pub fence : s.fence ≡ w.fence
  pub barred : (a : Attempt) → is_barred s.barred a ≡ has w.barred a

-- the call that a caller makes, if no bar turns it away
abbrev pub made_by : World → Caller → Op → Option Made
made_by w c o = unless_stopped (is_stopped w c) (Some (record { app = c.app; call = Names o; fault = Calm }))

-- the history's call
abbrev pub call_of_history : Store → Option history.Call
call_of_history (Names o) = None
call_of_history (Append_record r) = Some (history.Append r)
call_of_history Flush = Some history.Flush
call_of_history Read_history = Some history.Read

-- that a segment is full is no answer of the model: such an event is not taken
abbrev pub reply_of_history : Result history.Answer old.HistoryFault → Reply
reply_of_history (Ok history.Done) = Fine
reply_of_history (Ok (history.Told records)) = Records records
reply_of_history (Err (fault.Superseded k)) = Refused (Superseded k)
reply_of_history (Err fault.Sealed) = Sealed
reply_of_history (Err (fault.BadLine n)) = Fault
reply_of_history (Err fault.Full) = Fault
reply_of_history (Err fault.NoMemory) = Fault

-- a record that is appended is one, its segment's version can take it, and it has room there
abbrev pub HasRoom : State → ℕ → Store → Type 0
HasRoom h k (Names o) = Unit {0}
HasRoom h k (Append_record r) = lines.IsRecord r × (lines.suits (history.segment h k).version r ≡ true)
    × (nat_lt MAX_SEGMENT_LEN (length (history.segment h k).stable + length (history.segment h k).tail + length (segments.opening (history.segment h k)) + lines.width (lines.as_written (history.segment h k).version r)) ≡ false)
HasRoom h k Flush = Unit {0}
HasRoom h k Read_history = Unit {0}

-- a history that tells what the world remembers, raised to k
pub record Stands (h : State) (w : World) (k : ℕ) : Type 0 where
  pub tells : TellsAll h w.history
  pub fence : h.fence ≡ w.fence
  pub from : 1 ≤ k
  pub to : k ≤ length h.segments
