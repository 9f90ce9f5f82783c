-- The headline, of a world before and after a call. What is claimed is mr_world_model's, which says what of it is Hadoop's
-- and Dean and Ghemawat's.
use Rattle.std.specs.Prelude.{◌≡◌, ◌≤◌, ℕ, Bool, true, nat_lt, List, [], ◌∷◌, ◌++◌, Some, None, if◌then◌else◌}
use Rattle.mr_world_model.specs.Ids.{Attempt, Path, TaskId, is_reduce, part}
use Rattle.mr_world_model.specs.Content.{Entry, File, Op, Superseded, Barred, entry_at}
use Rattle.mr_world_model.specs.Records.{records_below, winner_in}
use Rattle.mr_world_model.specs.Packets.{Caller, Names, Refused}
use Rattle.mr_world_model.specs.Hearing.{Launched, Seen, is_running, is_over}
use Rattle.mr_world_model.specs.Duties.{winners_of}
use Rattle.mr_world_model.specs.World.{LaunchOn, Expire, reply_to, seen_by}
use Rattle.mr_world_model.specs.Effect.{not_now}
use Rattle.mr_world_model.specs.Claims.{In, winner, IsToldWon, IsToldOutcome, IsMarked, IsComplete, IsReduce, IsVisible, IsWhole, LooksTheSame, HoldsWhole, WasBarred, has_not_run}
use Rattle.mr_world_model.specs.Results.{outcome, visible}
use Rattle.mr_world_model.specs.Sequential.{Job, JobLaws, IsFaithful, SeesSequential}
use Rattle.mr_world_state.specs.Limits.{within}
use Rattle.mr_world.specs.Journal.{Journal, world_in, run_of}

-- what the newest master has seen
abbrev pub newest : Journal → Seen
newest j = seen_by j.config (world_in j) (world_in j).fence

pub record HeadlineHolds (old new : Journal) : Type 0 where
  -- a recorded winner never changes
  pub winner_stays : (t : TaskId) (a : Attempt) → winner (world_in old) t ≡ Some a → winner (world_in new) t ≡ Some a
  -- every node that was told of a winner was told the recorded one
  pub told : (t : TaskId) (a : Attempt) → IsToldWon (world_in new) t a → winner (world_in new) t ≡ Some a
  -- where the marker is, a reader of the destination sees for each reduce its winner's whole file, and nothing else
  pub whole_files : IsMarked (world_in new) → IsComplete new.config (world_in new)
  -- an attempt has one whole output
  pub one_whole : (a : Attempt) (b c : List ℕ) → IsWhole (world_in new) a b → IsWhole (world_in new) a c → b ≡ c
  -- whatever is seen, marked or not, is a reduce's file, its winner's whole output
  pub published : (p : Path) (x : Entry) → IsVisible p → entry_at (world_in new).content p ≡ Some x →
      (t : TaskId) × IsReduce new.config t × (p ≡ part t) × (a : Attempt) × (bytes : List ℕ) × (winner (world_in new) t ≡ Some a) × IsWhole (world_in new) a bytes × (x ≡ File bytes true)
  -- once the marker is there, it stays, and nothing that is seen changes
  pub marker_stays : IsMarked (world_in old) → IsMarked (world_in new) × LooksTheSame (world_in old) (world_in new)
  pub files_stay : IsMarked (world_in old) → visible (world_in new) ≡ visible (world_in old)
  -- one outcome: the first that was told is the only one and stays, and success is told only where the marker is
  pub one_outcome : (b : Bool) → IsToldOutcome (world_in new) b → outcome (world_in new) ≡ Some b
  pub outcome_stays : (b : Bool) → outcome (world_in old) ≡ Some b → outcome (world_in new) ≡ Some b
  pub success_is_marked : IsToldOutcome (world_in new) true → IsMarked (world_in new)
  -- once an outcome was told, a failed one too, nothing that is seen changes, nor whether the marker is there
  pub settled : (b : Bool) → outcome (world_in old) ≡ Some b → LooksTheSame (world_in old) (world_in new)
  pub files_settled : (b : Bool) → outcome (world_in old) ≡ Some b → visible (world_in new) ≡ visible (world_in old)
  pub marker_settled : (b : Bool) → outcome (world_in old) ≡ Some b → IsMarked (world_in new) → IsMarked (world_in old)
  -- with deterministic functions, each of whose results is the definition's, the files are the sequential
  -- execution's, once the marker is there
  pub sequential : (job : Job) → JobLaws job new.config → IsFaithful job new.config (within new.config) new.events → IsMarked (world_in new) → SeesSequential job new.config (world_in new)
  -- recovery finds the winners: while the newest master runs, each earlier winner's whole file is in its own
  -- generation, and it takes exactly these for won
  pub recovered : (t : TaskId) (a : Attempt) → is_running (newest new).phase ≡ true → IsReduce new.config t → winner_in (records_below (world_in new).history (world_in new).fence) t ≡ Some a → HoldsWhole (world_in new) (world_in new).fence t a
  pub exactly : is_running (newest new).phase ≡ true → (newest new).winners ≡ winners_of (records_below (world_in new).history (world_in new).fence) new.config.job new.config.reduces
  -- a master launches nothing before it runs, and never a reduce that had a winner in a generation below its own
  pub launches_later : (k : ℕ) → has_not_run (seen_by new.config (world_in new) k).phase ≡ true → (seen_by new.config (world_in new) k).launched ≡ []
  pub never_again : (k : ℕ) (l : Launched) → k ≤ (world_in new).fence → In l (seen_by new.config (world_in new) k).launched → is_reduce l.attempt ≡ true → winner_in (records_below (world_in new).history k) l.attempt.task ≡ None
  -- nor ever again one whose success it accepted
  pub never_its_own : (k n : ℕ) (a : Attempt) → In a (seen_by old.config (world_in old) k).accepted → is_reduce a ≡ true → not_now new.config (world_in new) (LaunchOn k a.task n) ≡ None → ⊥
  -- once a bar of an attempt was answered, each call of that attempt is refused, by the fence where it is below it
  pub barred : (k : ℕ) (a : Attempt) → WasBarred (world_in old) k a → (c : Caller) → c.attempt ≡ Some a → (op : Op) →
      reply_to (world_in new) c (Names op) ≡ Refused (if nat_lt c.app (world_in new).fence then Superseded (world_in new).fence else Barred)
  -- and it is over for the master that barred it; giving up a node alone makes no attempt of a reduce over
  pub over : (k : ℕ) (a : Attempt) → WasBarred (world_in new) k a → is_over (seen_by new.config (world_in new) k).ended a ≡ true
  pub expiry : (k n j : ℕ) (a : Attempt) → is_reduce a ≡ true →
      is_over (seen_by new.config (run_of new.config (new.events ++ Expire k n ∷ [])) j).ended a ≡ is_over (seen_by new.config (world_in new) j).ended a
