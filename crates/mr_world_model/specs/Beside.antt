-- What the four facts need beside them, each of every run. It is which container may still change a reduce's committed directory, what a container's
-- directory holds, that an end is an end, and how a job commit begins and fails. Our own.
use Rattle.std.specs.Prelude.{ℕ, Bool, true, false, List, [], ◌∷◌, ◌++◌, ◌≡◌, ◌≤◌, ◌||◌, Option, Some, None, ◌⊎◌, is_some}
use Rattle.mr_container.specs.declared.reply.Reply as reply
use Rattle.mr_container.specs.Readings.{is_fine}
use Rattle.mr_world_model.specs.Ids.{Attempt, ContainerId, TaskId, Path, part_name, is_reduce, generation, commit_started, commit_fail, task_attempt, committed}
use Rattle.mr_world_model.specs.Content.{Create, Rename, Dir, File, entry_at}
use Rattle.mr_world_model.specs.Records.{JobUnsuccessful, records_below}
use Rattle.mr_world_model.specs.Packets.{Config, Answer, Done, Container, Master, Names}
use Rattle.mr_world_model.specs.Pasts.{Place, Called, Wish, computed, To_need, To_pend, To_poll, To_look, To_clear, To_rename, To_report}
use Rattle.mr_world_model.specs.Hearing.{Phase, Running, Committing, Failing, Aborting, Launched, Seen, Todo_winner, has, is_over, is_running}
use Rattle.mr_world_model.specs.Duties.{Master_step, wants_flush, seen, winners_of}
use Rattle.mr_world_model.specs.World.{World, Event, Duty, Calm, seen_by, duty, wish_of}
use Rattle.mr_world_model.specs.Claims.{Limits, In, world_of, records, IsRecorded, IsQuiet, HoldsWhole}

-- a master that runs, fails or commits
abbrev pub is_at_work : Phase → Bool
is_at_work Running = true
is_at_work (Failing f) = true
is_at_work (Committing at) = true
is_at_work _ = false

-- an attempt that a master accepted the success of, or that had won before it
abbrev pub HasSucceeded : Seen → Attempt → Type 0
HasSucceeded s a = (In a s.accepted × (is_reduce a ≡ true)) ⊎ ((x : Todo_winner) × In x s.winners × (x.attempt ≡ a))

-- While the newest master runs, fails or commits, what is recorded of a reduce is exactly the attempt that succeeded for it. (That it lives is asked for one of the two: a crash
-- may cut its tail.)
pub record RecordedIsSucceeded (cfg : Config) (within : Limits) : Type 0 where
  pub succeeded : (es : List Event) (a : Attempt) → is_at_work (seen_by cfg (world_of cfg within es) (world_of cfg within es).fence).phase ≡ true →
      IsRecorded cfg (world_of cfg within es) a → HasSucceeded (seen_by cfg (world_of cfg within es) (world_of cfg within es).fence) a
  pub recorded : (es : List Event) (a : Attempt) → (world_of cfg within es).is_master (world_of cfg within es).fence ≡ true → is_at_work (seen_by cfg (world_of cfg within es) (world_of cfg within es).fence).phase ≡ true →
      HasSucceeded (seen_by cfg (world_of cfg within es) (world_of cfg within es).fence) a → IsRecorded cfg (world_of cfg within es) a

-- Take a container of a recorded attempt's master that was launched for the same reduce. If it lives, is not barred and was sent a yes, for whatever attempt, it was launched
-- for the recorded one. (The recorded attempt's own may be dead: DoneAck ends it before the flush.)
abbrev pub OnlyTheRecordedMayCommit : Config → Limits → Type 0
OnlyTheRecordedMayCommit cfg within = (es : List Event) (a b : Attempt) (c : ContainerId) (p : Place) → IsRecorded cfg (world_of cfg within es) a → c.app ≡ generation a →
    (world_of cfg within es).place c ≡ Some p → p.attempt.task ≡ a.task → (world_of cfg within es).is_alive c ≡ true → has (world_of cfg within es).barred p.attempt ≡ false →
    In (record { to = Container c; body = Answer b true }) (world_of cfg within es).bag → p.attempt ≡ a

-- a master that runs, or fails
abbrev pub runs_or_fails : Phase → Bool
runs_or_fails Running = true
runs_or_fails (Failing f) = true
runs_or_fails _ = false

-- While the newest master runs, or fails, and neither job commit nor job abort has begun, the newest committed directory of a recorded reduce is its own. (One that fails by what
-- it read is no such master: a failure is stable then.)
abbrev pub NewestCommittedIsItsOwn : Config → Limits → Type 0
NewestCommittedIsItsOwn cfg within = (es : List Event) (a : Attempt) → IsQuiet (world_of cfg within es) →
    runs_or_fails (seen_by cfg (world_of cfg within es) (world_of cfg within es).fence).phase ≡ true → IsRecorded cfg (world_of cfg within es) a →
    HoldsWhole (world_of cfg within es) (world_of cfg within es).fence a.task a

-- the wishes that only a yes leads to
abbrev pub needs_yes : Wish → Bool
needs_yes To_look = true
needs_yes To_clear = true
needs_yes To_rename = true
needs_yes To_report = true
needs_yes _ = false

-- a reduce's container had its rename answered
abbrev pub HasRenamed : World → ContainerId → Attempt → Type 0
HasRenamed w c a = (r : reply.Reply) × (is_fine r ≡ true) × In (Called (Rename (task_attempt c.app a) (committed c.app a.task)) r) (w.container_past c)

pub record CommitsAreAllowed (cfg : Config) (within : Limits) : Type 0 where
  -- a reduce's container that looks, clears, renames or reports was sent a yes
  pub yes : (es : List Event) (c : ContainerId) (p : Place) → (world_of cfg within es).place c ≡ Some p → is_reduce p.attempt ≡ true → needs_yes (wish_of cfg (world_of cfg within es) c) ≡ true →
      In (record { to = Container c; body = Answer p.attempt true }) (world_of cfg within es).bag
  -- one that reports had its rename answered
  pub reports : (es : List Event) (c : ContainerId) (p : Place) → (world_of cfg within es).place c ≡ Some p → is_reduce p.attempt ≡ true → wish_of cfg (world_of cfg within es) c ≡ To_report →
      HasRenamed (world_of cfg within es) c p.attempt
  -- and so had the one that a report in the bag is of
  pub done : (es : List Event) (k : ℕ) (a : Attempt) (bytes : Option ℕ) → is_reduce a ≡ true → In (record { to = Master k; body = Done a bytes }) (world_of cfg within es).bag →
      (c : ContainerId) × (p : Place) × (c.app ≡ k) × ((world_of cfg within es).place c ≡ Some p) × (p.attempt ≡ a) × HasRenamed (world_of cfg within es) c a

-- the wishes of a reduce's container from the answered close to the rename
abbrev pub has_closed : Wish → Bool
has_closed To_need = true
has_closed To_pend = true
has_closed To_poll = true
has_closed To_look = true
has_closed To_clear = true
has_closed To_rename = true
has_closed _ = false

-- a directory with one entry, reduce t's closed part file
pub record HasOneFile (w : World) (d : Path) (t : TaskId) (bytes : List ℕ) : Type 0 where
  pub dir : entry_at w.content d ≡ Some Dir
  pub file : entry_at w.content (d ++ part_name t ∷ []) ≡ Some (File bytes true)
  pub only : (x : Path) → (x ≡ [] → ⊥) → (x ≡ part_name t ∷ [] → ⊥) → entry_at w.content (d ++ x) ≡ None

-- From the close to the rename an attempt's directory has exactly its one file, with the bytes that were handed in. Or nothing is there: a job commit or abort took it away.
-- Nobody else adds to it, of whatever generation it is, and whatever the masters do.
abbrev pub AttemptsHoldTheirFiles : Config → Limits → Type 0
AttemptsHoldTheirFiles cfg within = (es : List Event) (c : ContainerId) (p : Place) → (world_of cfg within es).place c ≡ Some p → is_reduce p.attempt ≡ true →
    has_closed (wish_of cfg (world_of cfg within es) c) ≡ true →
    ((x : Path) → entry_at (world_of cfg within es).content (task_attempt c.app p.attempt ++ x) ≡ None) ⊎
    HasOneFile (world_of cfg within es) (task_attempt c.app p.attempt) p.attempt.task (computed ((world_of cfg within es).container_past c))

-- An attempt of a reduce that is over for its master: its container does not live and never will, or it is barred
abbrev pub OverIsGoneOrBarred : Config → Limits → Type 0
OverIsGoneOrBarred cfg within = (es fs : List Event) (k : ℕ) (l : Launched) → In l (seen_by cfg (world_of cfg within es) k).launched → is_reduce l.attempt ≡ true →
    is_over (seen_by cfg (world_of cfg within es) k).ended l.attempt ≡ true →
    ((world_of cfg within (es ++ fs)).is_alive l.container ≡ false) ⊎ (has (world_of cfg within es).barred l.attempt ≡ true)

abbrev pub is_committing : Phase → Bool
is_committing (Committing at) = true
is_committing _ = false

-- How a job commit begins
pub record BeginsToCommit (cfg : Config) (w : World) (e : Event) (k : ℕ) : Type 0 where
  pub event : e ≡ Duty k Calm
  pub call : duty cfg w k ≡ Some (Names (Create commit_started true))
  pub none_due : (seen_by cfg w k).due ≡ []
  pub none_unflushed : wants_flush (seen_by cfg w k).tail ≡ false
  pub newest : k ≡ w.fence
  pub none_unsuccessful : In JobUnsuccessful (records w) → ⊥

-- Only an answered COMMIT_STARTED, of a master with no record due and nothing unflushed that matters, leads to a job commit; no failure is stable then
abbrev pub OnlyStartedCommits : Config → Limits → Type 0
OnlyStartedCommits cfg within = (es : List Event) (e : Event) (k : ℕ) → is_committing (seen_by cfg (world_of cfg within es) k).phase ≡ false →
    is_committing (seen_by cfg (world_of cfg within (es ++ e ∷ [])) k).phase ≡ true → BeginsToCommit cfg (world_of cfg within es) e k

-- A master that aborts a job commit, of any generation, has COMMIT_FAIL there
abbrev pub AbortsAreMarked : Config → Limits → Type 0
AbortsAreMarked cfg within = (es : List Event) (k : ℕ) → (seen_by cfg (world_of cfg within es) k).phase ≡ Committing Aborting → is_some (entry_at (world_of cfg within es).content commit_fail) ≡ true

-- whether a master ran at some place of its past
unfoldable pub has_run : Config → ℕ → List Master_step → Bool
has_run cfg k [] = false
has_run cfg k (x ∷ h) = is_running (seen cfg k (x ∷ h)).phase || has_run cfg k h

-- Until a master runs it launches and accepts nothing, also where it stops, ends or fails by what it finds. As it begins to run, it is the newest, and no reduce has succeeded but
-- those that have winners among the records of the generations before it. These are the winners among all records there are then
pub record BeginsWithItsWinners (cfg : Config) (within : Limits) : Type 0 where
  pub launches : (es : List Event) (k : ℕ) → has_run cfg k ((world_of cfg within es).master_past k) ≡ false → (seen_by cfg (world_of cfg within es) k).launched ≡ []
  pub accepts : (es : List Event) (k : ℕ) → has_run cfg k ((world_of cfg within es).master_past k) ≡ false → (seen_by cfg (world_of cfg within es) k).accepted ≡ []
  pub none_accepted : (es : List Event) (e : Event) (k : ℕ) → is_running (seen_by cfg (world_of cfg within es) k).phase ≡ false → is_running (seen_by cfg (world_of cfg within (es ++ e ∷ [])) k).phase ≡ true →
      (seen_by cfg (world_of cfg within (es ++ e ∷ [])) k).accepted ≡ []
  pub none_recorded : (es : List Event) (e : Event) (k : ℕ) → is_running (seen_by cfg (world_of cfg within es) k).phase ≡ false → is_running (seen_by cfg (world_of cfg within (es ++ e ∷ [])) k).phase ≡ true →
      (a : Attempt) → In a (seen_by cfg (world_of cfg within (es ++ e ∷ [])) k).recorded → is_reduce a ≡ false
  pub winners : (es : List Event) (k : ℕ) → k ≤ (world_of cfg within es).fence → is_running (seen_by cfg (world_of cfg within es) k).phase ≡ true →
      (seen_by cfg (world_of cfg within es) k).winners ≡ winners_of (records_below (world_of cfg within es).history k) cfg.job cfg.reduces
  pub newest : (es : List Event) (e : Event) (k : ℕ) → is_running (seen_by cfg (world_of cfg within es) k).phase ≡ false → is_running (seen_by cfg (world_of cfg within (es ++ e ∷ [])) k).phase ≡ true →
      k ≡ (world_of cfg within (es ++ e ∷ [])).fence
  pub whole : (es : List Event) (e : Event) (k : ℕ) → is_running (seen_by cfg (world_of cfg within es) k).phase ≡ false → is_running (seen_by cfg (world_of cfg within (es ++ e ∷ [])) k).phase ≡ true →
      (seen_by cfg (world_of cfg within (es ++ e ∷ [])) k).winners ≡ winners_of (records (world_of cfg within (es ++ e ∷ []))) cfg.job cfg.reduces
