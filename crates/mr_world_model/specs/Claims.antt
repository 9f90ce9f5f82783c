-- What is claimed of every run: the winner, what nodes are told, what a reader of the destination sees, and the outcome.
-- That the marker tells a whole output, and that hidden names are no output, is Hadoop's committer document's. That one attempt of a task
-- counts is the OutputCommitter API's and Dean and Ghemawat's (3.3). What is claimed of crashes, restarts and suspicion is our own.
use Rattle.std.specs.Prelude.{ℕ, suc, nat_lt, ◌<◌, ◌≤◌, Bool, true, false, List, [], ◌∷◌, ◌++◌, ◌≡◌, Option, Some, None, if◌then◌else◌, ◌⊎◌, length}
use Rattle.mr_world_model.specs.Ids.{Attempt, ContainerId, Path, Name, JobId, TaskId, is_reduce, reduce_of, dest, marker, part, is_hidden, committed, part_name, commit_started}
use Rattle.mr_world_model.specs.Content.{Op, Bar, Superseded, Barred, Entry, File, Dir, entry_at, is_file}
use Rattle.mr_world_model.specs.Records.{Record, records_below, winner_in, JobUnsuccessful, ReduceSucceeded}
use Rattle.mr_world_model.specs.Packets.{Config, Won, Outcome, Envelope, Answer, Container, Caller, Names, Fine, Refused, Store, Bytes}
use Rattle.mr_world_model.specs.Pasts.{computed, was_computed, Place}
use Rattle.mr_world_model.specs.Hearing.{Phase, Opening, Setting_up, Recovering, Launched, is_running, has, is_over, Todo_winner, Measure}
use Rattle.mr_world_model.specs.Duties.{winners_of, Asks, right_length}
use Rattle.mr_world_model.specs.World.{World, Event, LaunchOn, Expire, opening_world, seen_by, reply_to, duty, reply_of}
use Rattle.mr_world_model.specs.Effect.{run, not_now}

-- the record of every stable line, by rising generation
abbrev pub records : World → List Record
records w = records_below w.history (suc w.fence)

abbrev pub winner : World → TaskId → Option Attempt
winner w t = winner_in (records w) t

-- one of the first n reduces of a job
pub record IsOf (j : JobId) (n : ℕ) (t : TaskId) : Type 0 where
  pub is : t ≡ reduce_of j t.number
  pub small : t.number < n

-- a reduce of the cluster's job
abbrev pub IsReduce : Config → TaskId → Type 0
IsReduce cfg t = IsOf cfg.job cfg.reduces t

-- e stands in the list
abbrev pub In : {A : Type 0} → A → List A → Type 0
In e [] = ⊥
In e (x ∷ xs) = (x ≡ e) ⊎ In e xs

-- a node was told that a won t
abbrev pub IsToldWon : World → TaskId → Attempt → Type 0
IsToldWon w t a = (e : Envelope) × In e w.bag × (e.body ≡ Won t a)

abbrev pub IsToldOutcome : World → Bool → Type 0
IsToldOutcome w b = (e : Envelope) × In e w.bag × (e.body ≡ Outcome b)

abbrev pub IsMarked : World → Type 0
IsMarked w = is_file (entry_at w.content marker) ≡ true

-- a path of the destination beneath an entry that is not hidden
abbrev pub IsVisible : Path → Type 0
IsVisible p = (n : Name) × (rest : Path) × (p ≡ dest ++ n ∷ rest) × (is_hidden n ≡ false)

abbrev pub Limits : Type 0
Limits = World → Event → Bool

abbrev pub world_of : Config → Limits → List Event → World
world_of cfg within es = run cfg within opening_world es

-- a recorded winner never changes
abbrev pub WinnerStays : Config → Limits → Type 0
WinnerStays cfg within = (es fs : List Event) (t : TaskId) (a : Attempt) →
    winner (world_of cfg within es) t ≡ Some a → winner (world_of cfg within (es ++ fs)) t ≡ Some a

-- every node that is told of a winner is told the one
abbrev pub NodesAreToldTheWinner : Config → Limits → Type 0
NodesAreToldTheWinner cfg within = (es : List Event) (t : TaskId) (a : Attempt) →
    IsToldWon (world_of cfg within es) t a → winner (world_of cfg within es) t ≡ Some a

-- a success of a is recorded, with any length: stable, in the newest segment's tail, or due at the newest master
abbrev pub IsRecorded : Config → World → Attempt → Type 0
IsRecorded cfg w a = (z : Option ℕ) × (In (ReduceSucceeded a z) (records w) ⊎ (In (ReduceSucceeded a z) (w.history w.fence).tail ⊎ In (ReduceSucceeded a z) (seen_by cfg w w.fence).due))

-- one attempt is recorded: every older segment is sealed, and a reduce has at most one attempt that is recorded
pub record OneAttemptIsRecorded (cfg : Config) (within : Limits) : Type 0 where
  pub sealed : (es : List Event) (j : ℕ) → j < (world_of cfg within es).fence → ((world_of cfg within es).history j).is_sealed ≡ true
  pub one : (es : List Event) (a b : Attempt) → IsRecorded cfg (world_of cfg within es) a → IsRecorded cfg (world_of cfg within es) b → a.task ≡ b.task → a ≡ b

-- of one master's containers for one reduce, at most one that lives and is not barred was sent a yes
abbrev pub OneContainerWasToldYes : Config → Limits → Type 0
OneContainerWasToldYes cfg within = (es : List Event) (c d : ContainerId) (a b : Attempt) →
    (world_of cfg within es).is_alive c ≡ true → (world_of cfg within es).is_alive d ≡ true → c.app ≡ d.app → a.task ≡ b.task →
    has (world_of cfg within es).barred a ≡ false → has (world_of cfg within es).barred b ≡ false →
    In (record { to = Container c; body = Answer a true }) (world_of cfg within es).bag → In (record { to = Container d; body = Answer b true }) (world_of cfg within es).bag → c ≡ d

-- the bytes that were handed in for the container of an attempt that was launched so
abbrev pub IsWhole : World → Attempt → List ℕ → Type 0
IsWhole w a bytes = (c : ContainerId) × (p : Place) × (w.place c ≡ Some p) × (p.attempt ≡ a) × (computed (w.container_past c) ≡ bytes) × (was_computed (w.container_past c) ≡ true)

-- they are one: no two containers have an attempt, and a container's bytes are handed in once
abbrev pub OneWholeOutput : Config → Limits → Type 0
OneWholeOutput cfg within = (es : List Event) (a : Attempt) (b c : List ℕ) → IsWhole (world_of cfg within es) a b → IsWhole (world_of cfg within es) a c → b ≡ c

-- a length that is recorded is that of the output, and no recovery stops for one
pub record LengthsAreRight (cfg : Config) (within : Limits) : Type 0 where
  pub recorded : (es : List Event) (a : Attempt) (n : ℕ) → In (ReduceSucceeded a (Some n)) (records (world_of cfg within es)) →
      (bytes : List ℕ) × IsWhole (world_of cfg within es) a bytes × (length bytes ≡ n)
  -- what the newest master reads of the file that it measures has the length that was recorded
  pub measured : (es : List Event) (todo : List Todo_winner) (j : ℕ) (call : Store) (bytes : List ℕ) →
      (seen_by cfg (world_of cfg within es) (world_of cfg within es).fence).phase ≡ Recovering todo (Measure j) →
      duty cfg (world_of cfg within es) (world_of cfg within es).fence ≡ Some call →
      reply_of (world_of cfg within es) (world_of cfg within es).fence call ≡ Bytes bytes → right_length todo bytes ≡ true

-- a committed directory has the one closed file, the whole of the attempt's
pub record HoldsWhole (w : World) (k : ℕ) (t : TaskId) (a : Attempt) : Type 0 where
  pub bytes : List ℕ
  pub whole : IsWhole w a bytes
  pub dir : entry_at w.content (committed k t) ≡ Some Dir
  pub file : entry_at w.content (committed k t ++ part_name t ∷ []) ≡ Some (File bytes true)
  pub only : (x : Path) → (x ≡ [] → ⊥) → (x ≡ part_name t ∷ [] → ⊥) → entry_at w.content (committed k t ++ x) ≡ None

abbrev pub has_not_run : Phase → Bool
has_not_run (Opening n) = true
has_not_run Setting_up = true
has_not_run (Recovering ws at) = true
has_not_run _ = false

-- Recovery finds the winners. Read: those of the generations before the master's, whose records it has read
pub record RecoveryFindsTheWinners (cfg : Config) (within : Limits) : Type 0 where
  -- while the newest master runs, each earlier winner's whole file is in its own generation
  pub files : (es : List Event) (t : TaskId) (a : Attempt) → is_running (seen_by cfg (world_of cfg within es) (world_of cfg within es).fence).phase ≡ true → IsReduce cfg t →
      winner_in (records_below (world_of cfg within es).history (world_of cfg within es).fence) t ≡ Some a → HoldsWhole (world_of cfg within es) (world_of cfg within es).fence t a
  -- and those it takes for won are exactly these
  pub exactly : (es : List Event) → is_running (seen_by cfg (world_of cfg within es) (world_of cfg within es).fence).phase ≡ true →
      (seen_by cfg (world_of cfg within es) (world_of cfg within es).fence).winners ≡ winners_of (records_below (world_of cfg within es).history (world_of cfg within es).fence) cfg.job cfg.reduces
  -- until it runs, a master launches nothing
  pub before : (es : List Event) (k : ℕ) → has_not_run (seen_by cfg (world_of cfg within es) k).phase ≡ true → (seen_by cfg (world_of cfg within es) k).launched ≡ []
  -- and never a reduce with an earlier winner
  pub never : (es : List Event) (k : ℕ) (l : Launched) → k ≤ (world_of cfg within es).fence → In l (seen_by cfg (world_of cfg within es) k).launched → is_reduce l.attempt ≡ true →
      winner_in (records_below (world_of cfg within es).history k) l.attempt.task ≡ None
  -- nor ever again one whose success it accepted
  pub own : (es fs : List Event) (k n : ℕ) (a : Attempt) → In a (seen_by cfg (world_of cfg within es) k).accepted → is_reduce a ≡ true →
      not_now cfg (world_of cfg within (es ++ fs)) (LaunchOn k a.task n) ≡ None → ⊥

-- neither job commit nor job abort has begun
pub record IsQuiet (w : World) : Type 0 where
  pub not_started : entry_at w.content commit_started ≡ None
  pub not_unsuccessful : In JobUnsuccessful (records w) → ⊥

-- Until then, of the committed directories of a recorded attempt's reduce the newest holds that attempt's whole file
pub record NewestHolds (w : World) (t : TaskId) (a : Attempt) : Type 0 where
  pub at : ℕ
  pub old : at ≤ w.fence
  pub here : HoldsWhole w at t a
  pub none_newer : (i : ℕ) → at < i → i ≤ w.fence → (x : Path) → entry_at w.content (committed i t ++ x) ≡ None

abbrev pub CommittedFileIsTheWinners : Config → Limits → Type 0
CommittedFileIsTheWinners cfg within = (es : List Event) (a : Attempt) → IsQuiet (world_of cfg within es) → IsRecorded cfg (world_of cfg within es) a → NewestHolds (world_of cfg within es) a.task a

-- the published files are the winners': whatever is seen, marked or not, is a reduce's part, its winner's whole file
abbrev pub PublishedFilesAreTheWinners : Config → Limits → Type 0
PublishedFilesAreTheWinners cfg within = (es : List Event) (p : Path) (x : Entry) → IsVisible p → entry_at (world_of cfg within es).content p ≡ Some x →
    (t : TaskId) × IsReduce cfg t × (p ≡ part t) × (a : Attempt) × (bytes : List ℕ) × (winner (world_of cfg within es) t ≡ Some a) × IsWhole (world_of cfg within es) a bytes × (x ≡ File bytes true)

-- a reader of the destination sees, for each reduce, its winner's whole file, and nothing else
pub record IsComplete (cfg : Config) (w : World) : Type 0 where
  pub files : (t : TaskId) → IsReduce cfg t → (a : Attempt) × (bytes : List ℕ) × (winner w t ≡ Some a) × IsWhole w a bytes × (entry_at w.content (part t) ≡ Some (File bytes true))
  pub only : (p : Path) → IsVisible p → ((t : TaskId) → IsReduce cfg t → p ≡ part t → ⊥) → entry_at w.content p ≡ None

-- a marker means whole files
abbrev pub MarkerMeansWholeFiles : Config → Limits → Type 0
MarkerMeansWholeFiles cfg within = (es : List Event) → IsMarked (world_of cfg within es) → IsComplete cfg (world_of cfg within es)

-- two worlds look the same to a reader of the destination
abbrev pub LooksTheSame : World → World → Type 0
LooksTheSame w u = (p : Path) → IsVisible p → entry_at u.content p ≡ entry_at w.content p

-- a marker is final
abbrev pub MarkerIsFinal : Config → Limits → Type 0
MarkerIsFinal cfg within = (es fs : List Event) → IsMarked (world_of cfg within es) →
    IsMarked (world_of cfg within (es ++ fs)) × LooksTheSame (world_of cfg within es) (world_of cfg within (es ++ fs))

-- one outcome
pub record OneOutcome (cfg : Config) (within : Limits) : Type 0 where
  -- no two told differ
  pub agree : (es : List Event) (b c : Bool) → IsToldOutcome (world_of cfg within es) b → IsToldOutcome (world_of cfg within es) c → b ≡ c
  -- success is told only where the world is marked
  pub marked : (es : List Event) → IsToldOutcome (world_of cfg within es) true → IsMarked (world_of cfg within es)
  -- an outcome told, a failed one too, no later event changes what is seen, nor whether it is marked
  pub settled : (es fs : List Event) (b : Bool) → IsToldOutcome (world_of cfg within es) b →
      LooksTheSame (world_of cfg within es) (world_of cfg within (es ++ fs)) ×
      ((IsMarked (world_of cfg within es) → IsMarked (world_of cfg within (es ++ fs))) × (IsMarked (world_of cfg within (es ++ fs)) → IsMarked (world_of cfg within es)))

-- a master's bar of an attempt was answered with neither refusal nor fault
abbrev pub WasBarred : World → ℕ → Attempt → Type 0
WasBarred w k a = In (Asks (Names (Bar a)) Fine) (w.master_past k)

-- A node may be given up wrongly
pub record WrongSuspicionDoesNoHarm (cfg : Config) (within : Limits) : Type 0 where
  -- from an answered bar on, every call for that attempt is refused
  pub refused : (es fs : List Event) (k : ℕ) (a : Attempt) → WasBarred (world_of cfg within es) k a → (c : Caller) → c.attempt ≡ Some a → (op : Op) →
      reply_to (world_of cfg within (es ++ fs)) c (Names op) ≡
      Refused (if nat_lt c.app (world_of cfg within (es ++ fs)).fence then Superseded (world_of cfg within (es ++ fs)).fence else Barred)
  -- an attempt whose bar was so answered is over
  pub over : (es : List Event) (k : ℕ) (a : Attempt) → WasBarred (world_of cfg within es) k a → is_over (seen_by cfg (world_of cfg within es) k).ended a ≡ true
  -- and an expiry alone makes no attempt of a reduce over
  pub expiry : (es : List Event) (k n j : ℕ) (a : Attempt) → is_reduce a ≡ true →
      is_over (seen_by cfg (world_of cfg within (es ++ Expire k n ∷ [])) j).ended a ≡ is_over (seen_by cfg (world_of cfg within es) j).ended a
