-- What keeps two tasks alike, whatever else they heard.
-- Two are alike where the same is read of both (Points); these are the calls after which they still are. Our own: it ties two sets of definitions.
use Rattle.std.specs.Prelude.{◌≡◌, ℕ, Bool, true, false, ◌&&◌, not}
use Rattle.mr_ids.specs.Attempt.{Attempt}
use Rattle.mr_ids.specs.declared.id.TaskId.{TaskId}
use Rattle.mr_grant.specs.Attempts as grant
use Rattle.mr_task.specs.Calls.{TaskCall, Hears, Fails, Ends, Dies, Loses}
use Rattle.mr_task.specs.Readings as task
use Rattle.mr_master_refinement.specs.Points.{Alike}

abbrev pub After : TaskId → ℕ → task.Seen → TaskCall → task.Seen
After t k r call = task.next_seen t k r call

-- Tasks that are alike stay so where they hear the same. An end of an attempt that is not live changes nothing, nor does the loss of one that is not
-- recorded or of a reduce. That an attempt is heard of changes nothing either. A second loss tells nothing new. Endings and losses may come in any
-- order.
pub record TasksStayAlike : Type 0 where
  pub same : (t : TaskId) (k : ℕ) (r x : task.Seen) (call : TaskCall) → Alike r x → Alike (After t k r call) (After t k x call)
  pub heard : (t : TaskId) (k : ℕ) (r : task.Seen) (a : Attempt) → Alike r (After t k r (Hears a))
  pub failed : (t : TaskId) (k : ℕ) (r : task.Seen) (a : Attempt) → task.is_live r a ≡ false → Alike r (After t k r (Fails a))
  pub ended : (t : TaskId) (k : ℕ) (r : task.Seen) (a : Attempt) (was_asked : Bool) → task.is_live r a ≡ false → Alike r (After t k r (Ends a was_asked))
  pub died : (t : TaskId) (k : ℕ) (r : task.Seen) (a : Attempt) → task.is_live r a ≡ false → Alike r (After t k r (Dies a))
  pub lost : (t : TaskId) (k : ℕ) (r : task.Seen) (a : Attempt) → (not (task.is_reduce a.task.kind) && grant.has r.recorded a) ≡ false → Alike r (After t k r (Loses a))
  pub lost_again : (t : TaskId) (k : ℕ) (r : task.Seen) (a : Attempt) → grant.has r.lost a ≡ true → Alike r (After t k r (Loses a))
  pub any_order : (t : TaskId) (k : ℕ) (r : task.Seen) (a b : Attempt) → Alike (After t k (After t k r (Dies a)) (Loses b)) (After t k (After t k r (Loses b)) (Dies a))
  pub deaths : (t : TaskId) (k : ℕ) (r : task.Seen) (a b : Attempt) → Alike (After t k (After t k r (Dies a)) (Dies b)) (After t k (After t k r (Dies b)) (Dies a))
