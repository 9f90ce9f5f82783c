-- The packets of the cluster, the calls of its stores, and the config. What is asked and answered restates Hadoop's `commitPending`, `canCommit` and `done` between a task
-- and its application master. That maps tell where their output lies is Dean and Ghemawat's (3.1, 3.3). The rest is our own profile.
use Rattle.std.specs.Prelude.{ℕ, List, Option}
use Rattle.mr_world_model.specs.Ids.{JobId}
use Rattle.mr_world_model.specs.Content.{Op, NameFault, Kind, Listed}
use Rattle.mr_world_model.specs.Records.{Record}
pub use Rattle.mr_packet.specs.declared.packet.Packet.{Packet}
pub use Rattle.mr_packet.specs.declared.packet.Packet.TheVariants.{Launch, Kill, Fetch, Won, Outcome, Pending, Poll, Done, Failed, Ended, NodeUp, Where, FetchLost, Answer, DoneAck, MapReady, Piece}
pub use Rattle.mr_packet.specs.declared.packet.Address.{Address}
pub use Rattle.mr_packet.specs.declared.packet.Address.TheVariants.{Master, Container, Node}
pub use Rattle.mr_packet.specs.declared.packet.Envelope.{Envelope}
pub use Rattle.mr_names.specs.declared.op.Caller.{Caller}  -- who calls a store: a master, or a container of a reduce with its attempt

pub record Config : Type 0 where
  pub job : JobId
  pub splits : List (List ℕ)
  pub reduces : ℕ
  pub nodes : ℕ
  pub limit : ℕ
  pub v2_from : ℕ  -- the first generation that writes the second version of the history

pub data Store : Type 0 where
  Names : (op : Op) → Store
  Append_record : (r : Record) → Store
  Flush : Store
  Read_history : Store

pub data Reply : Type 0 where
  Fine : Reply
  Found : (kind : Option Kind) → Reply
  Entries : (names : List Listed) → Reply
  Bytes : (bytes : List ℕ) → Reply
  Records : (records : List Record) → Reply
  Refused : (why : NameFault) → Reply
  Sealed : Reply
  Fault : Reply
