-- What ties the model to the crates beneath it.
use Rattle.std.specs.Prelude.{length, replicate, ◌≤◌, ◌+◌, ◌^◌, ℕ, ◌≡◌, ◌<◌, true, List, [], ◌∷◌, ◌++◌, Some, not, nat_lt, if◌then◌else◌, false}
use Rattle.mr_paths.specs.Layout as layout
use Rattle.mr_names.specs.Calls as names
use Rattle.mr_history.specs.State.{State}
use Rattle.mr_history.specs.Segment as segments
use Rattle.mr_history.specs.Winner as winners
use Rattle.mr_history.specs.Recorded.{tail_width}
use Rattle.mr_history.specs.Calls as history
use Rattle.mr_history.specs.Line as lines
use Rattle.mr_ids.specs.Generations.{first_attempt_number}
use Rattle.mr_ids.specs.Text.{IsJob}
use Rattle.mr_world_model.specs.Pasts.{incarnation_of}
use Rattle.mr_world_model.specs.Ids.{Attempt, TaskId, dest, temporary, job_attempt, task_attempt, committed, marker, part}
use Rattle.mr_world_model.specs.Content.{Op}
use Rattle.mr_world_model.specs.Records.{Record, winner_in, length_in, with_segment, with_version, sealed_below, sealed}
use Rattle.mr_world_model.specs.Packets.{Caller, Config, Store, Names, Append_record}
use Rattle.mr_world_model.specs.World.{World, opening_world, Event, seen_by, duty, reply_of, segment_left, reply_to}
use Rattle.mr_world_model.specs.Effect.{content_after, barred_after}
use Rattle.mr_world_model.specs.Bytes.{TellsAll}
use Rattle.mr_world_model.specs.Claims.{Limits, In, world_of}
use Rattle.mr_world_model.specs.Hearing.{Launched}
use Rattle.mr_world_model.specs.Stores.{NamesStand, made_by, reply_of_names, call_of_history, reply_of_history, HasRoom, Stands}

-- the model's paths are the layout's
pub record PathsAreTheLayouts : Type 0 where
  pub temporaries : layout.temporary dest ≡ temporary
  pub generations : (k : ℕ) → layout.job_attempt dest k ≡ job_attempt k
  pub attempts : (k : ℕ) (a : Attempt) → layout.task_attempt dest k a ≡ task_attempt k a
  pub tasks : (k : ℕ) (t : TaskId) → layout.committed dest k t ≡ committed k t
  pub markers : layout.marker dest ≡ marker
  pub parts : (t : TaskId) → dest ++ layout.part t.number ∷ [] ≡ part t

-- A call of a store is answered as the model's master or container hears it, and leaves what the model has after it. That a call is `Full` is no answer
-- of the model.
pub record StoresAreTheModels : Type 0 where
  pub names_reply : (s : names.State) (w : World) → NamesStand s w → (c : Caller) (o : Op) → names.passes_limit s.barred o ≡ false → reply_to w c (Names o) ≡ reply_of_names (names.call_of s c o).0
  pub names_left : (s : names.State) (w : World) → NamesStand s w → (c : Caller) (o : Op) → names.passes_limit s.barred o ≡ false →
      NamesStand (names.call_of s c o).1 (record w { content = content_after w (made_by w c o); barred = barred_after w (made_by w c o) })
  -- the fence is raised, and at first nothing is barred
  pub names_raised : (s : names.State) (w : World) (k : ℕ) → NamesStand s w → w.fence ≤ k → NamesStand (names.raised s k) (record w { fence = k })
  pub history_reply : (h : State) (w : World) (k : ℕ) → Stands h w k → (call : Store) (q : history.Call) → call_of_history call ≡ Some q → HasRoom h k call → reply_of w k call ≡ reply_of_history (history.call_of h k q).0
  pub history_left : (h : State) (w : World) (k : ℕ) → Stands h w k → (call : Store) (q : history.Call) → call_of_history call ≡ Some q → HasRoom h k call →
      TellsAll (history.call_of h k q).1 (if not (nat_lt k w.fence) then with_segment w.history k (segment_left (w.history k) call) else w.history)
  -- the length of the bytes that are not flushed, and the winner among records, with its length
  pub unflushed : (h : State) (w : World) (k : ℕ) → Stands h w k → length (history.segment h k).tail ≡ tail_width (w.history k)
  pub winners : (rs : List Record) (t : TaskId) → (winner_in rs t ≡ winners.winner_in rs t) × (length_in rs t ≡ winners.length_in rs t)
  pub opening : (n : ℕ) → TellsAll (record { segments = replicate n (segments.fresh 1); fence = 0 }) opening_world.history
  pub raised : (h : State) (w : World) (k kept version : ℕ) → TellsAll h w.history → history.AreUnraised h → h.fence < k → lines.IsVersion version →
      TellsAll (history.raised k kept version h) (with_version version k (sealed_below k kept w.history))
  pub crashed : (h : State) (w : World) (k kept : ℕ) → Stands h w k → TellsAll (history.sealed_at k kept h) (with_segment w.history k (sealed kept (w.history k)))

-- the numbers of a config and of a world are in the ranges of the machines' types: generations are at most 1,000, all else is below 2^32
pub record IsRanged (cfg : Config) (w : World) : Type 0 where
  pub job : IsJob cfg.job
  pub splits : length cfg.splits ≤ 2 ^ 32
  pub reduces : cfg.reduces ≤ 2 ^ 32
  pub nodes : cfg.nodes ≤ 2 ^ 32
  pub generations : w.fence ≤ 1000
  pub incarnations : (n : ℕ) → incarnation_of (w.node_past n) < 2 ^ 32

-- Whatever a master appends is a record that the history takes, in each version. Its attempt is of the kind that succeeds so, its incarnation is one, and the success of a
-- reduce has a length, at most a file's. (A longer write is refused to its container.) So what is stored tells a length exactly where its segment is of version 2.
pub record AppendedRecordsFit : Type 0 where
  pub fits : (cfg : Config) (within : Limits) (es : List Event) (k : ℕ) (r : Record) → duty cfg (world_of cfg within es) k ≡ Some (Append_record r) → lines.fits r ≡ true
  pub suits : (cfg : Config) (within : Limits) (es : List Event) (k : ℕ) (r : Record) (version : ℕ) → duty cfg (world_of cfg within es) k ≡ Some (Append_record r) → lines.suits version r ≡ true
  -- its numbers are in their ranges, where the cluster's are
  pub ranges : (cfg : Config) (within : Limits) (es : List Event) (k : ℕ) (r : Record) → IsRanged cfg (world_of cfg within es) → (world_of cfg within es).is_master k ≡ true →
      duty cfg (world_of cfg within es) k ≡ Some (Append_record r) → lines.InRange r
  pub told : (cfg : Config) (within : Limits) (es : List Event) (k : ℕ) (r : Record) → In r (((world_of cfg within es).history k).stable ++ ((world_of cfg within es).history k).tail) →
      lines.is_of ((world_of cfg within es).history k).version r ≡ true

-- A living master's generation is one that both stores were raised to, and what it launches has the numbers of its generation.
pub record MastersAreRaised : Type 0 where
  pub raised : (cfg : Config) (within : Limits) (es : List Event) (k : ℕ) → (world_of cfg within es).is_master k ≡ true → (1 ≤ k) × (k ≤ (world_of cfg within es).fence)
  pub numbered : (cfg : Config) (within : Limits) (es : List Event) (k : ℕ) (l : Launched) → In l (seen_by cfg (world_of cfg within es) k).launched
      → (first_attempt_number k ≤ l.attempt.number) × (l.attempt.number < first_attempt_number k + 1000)
