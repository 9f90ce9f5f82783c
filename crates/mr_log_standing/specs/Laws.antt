-- What stays of the standings when the log grows. Our own.
use Rattle.std.specs.Prelude.{◌≡◌, ◌≤◌, ℕ, true, false, count_by, List, [], ◌∷◌, ◌++◌, Some, None}
use Rattle.std.specs.List.{list_any}
use Rattle.mr_ids.specs.Attempt.{Attempt}
use Rattle.mr_ids.specs.declared.id.TaskId.{TaskId}
use Rattle.mr_log_entries.specs.declared.line.Line.{Line}
use Rattle.mr_log_entries.specs.declared.line.Line.TheVariants as line
use Rattle.mr_log_entries.specs.declared.entry.Entry.{Entry}
use Rattle.mr_log_entries.specs.Recorded.{lines_of}
use Rattle.mr_log_standing.specs.declared.job.Job.{Job}
use Rattle.mr_log_standing.specs.declared.order.Order.{Order}
use Rattle.mr_log_standing.specs.declared.decision.Conclusion.{Conclusion}
use Rattle.mr_log_standing.specs.declared.standing.Win.{Win}
use Rattle.mr_log_standing.specs.declared.standing.Standing.{Standing}
use Rattle.mr_log_standing.specs.declared.standing.Standing.TheVariants as stands
use Rattle.mr_log_standing.specs.Host.{Host}
use Rattle.mr_log_standing.specs.Standing.{is_of_job, is_start_of, gives_up, winner_of, has_won_all, is_over, is_publishable, standing, begun_in, win_of}
use Rattle.mr_log_standing.specs.Deciding.{decided, concluded, lines_put}
use Rattle.mr_log_standing.specs.Lawful.{are_lawful}

-- What any more lines leave as it is.
pub record WinnersStay : Type 0 where
  pub stays : (ls more : List Line) (t : TaskId) (a : Attempt) → winner_of ls t ≡ Some a → winner_of (ls ++ more) t ≡ Some a
  -- where there is none, what is added decides
  pub decided : (ls more : List Line) (t : TaskId) → winner_of ls t ≡ None → winner_of (ls ++ more) t ≡ winner_of more t
  pub of_task : (ls : List Line) (t : TaskId) (a : Attempt) → winner_of ls t ≡ Some a → a.task ≡ t
  -- what the winner handed in stays, too
  pub win_stays : (es more : List Entry) (t : TaskId) (w : Win) → win_of es t ≡ Some w → win_of (es ++ more) t ≡ Some w
  pub win_is : (es : List Entry) (t : TaskId) (w : Win) → win_of es t ≡ Some w → winner_of (lines_of es) t ≡ Some w.attempt
  pub has_win : (es : List Entry) (t : TaskId) (a : Attempt) → winner_of (lines_of es) t ≡ Some a → (w : Win) × (win_of es t ≡ Some w) × (w.attempt ≡ a)
  pub begun_stays : (es more : List Entry) (a : Attempt) (boot : ℕ) → begun_in es a ≡ Some boot → begun_in (es ++ more) a ≡ Some boot
  pub lines : (es more : List Entry) → lines_of (es ++ more) ≡ lines_of es ++ lines_of more

-- what is known of an attempt that is under way
pub record IsOpen (job : Job) (ls : List Line) (a : Attempt) : Type 0 where
  pub unwon : winner_of ls a.task ≡ None
  pub stands : list_any (gives_up a) ls ≡ false
  pub goes_on : is_over ls ≡ false
  pub started : list_any (is_start_of a) ls ≡ true
  pub of_job : is_of_job job a ≡ true

-- it can never win any more
abbrev pub IsLost : Standing → Type 0
IsLost stands.Won = ⊥
IsLost stands.Beaten = Unit {0}
IsLost stands.GivenUp = Unit {0}
IsLost stands.JobOver = Unit {0}
IsLost stands.UnderWay = ⊥
IsLost stands.Unknown = ⊥

pub record StandingsStay : Type 0 where
  pub won : (job : Job) (ls more : List Line) (a : Attempt) → standing job ls a ≡ stands.Won → standing job (ls ++ more) a ≡ stands.Won
  pub has_won : (job : Job) (ls : List Line) (a : Attempt) → standing job ls a ≡ stands.Won → winner_of ls a.task ≡ Some a
  pub is_open : (job : Job) (ls : List Line) (a : Attempt) → standing job ls a ≡ stands.UnderWay → IsOpen job ls a
  -- who has lost by some lines has by all that may follow them
  pub lost : (job : Job) (ls more : List Line) (a : Attempt) → IsLost (standing job ls a) → are_lawful job ls more ≡ true → IsLost (standing job (ls ++ more) a)
  -- of a lawful log: an attempt is started at most once
  pub once : (job : Job) (ls : List Line) (a : Attempt) → are_lawful job [] ls ≡ true → count_by (is_start_of a) ls ≤ 1

pub record JobsStay : Type 0 where
  pub all_won : (job : Job) (ls more : List Line) → has_won_all job ls ≡ true → has_won_all job (ls ++ more) ≡ true
  -- a failed job is never published, and one that may be published never fails
  pub failed : (job : Job) (ls more : List Line) → is_over ls ≡ true → is_publishable job (ls ++ more) ≡ false
  pub publishable : (job : Job) (ls more : List Line) → is_publishable job ls ≡ true → are_lawful job ls more ≡ true → is_publishable job (ls ++ more) ≡ true

-- What is decided from exactly the lines before it is lawful there.
pub record DecisionsAreLawful : Type 0 where
  pub decided : (o : Order) (job : Job) (host : Host) (es : List Entry) → are_lawful job (lines_of es) (lines_put (decided o job host es)) ≡ true
  pub concluded : (c : Conclusion) (a : Attempt) (job : Job) (es : List Entry) → are_lawful job (lines_of es) (lines_put (concluded c a job es)) ≡ true
  pub published : (job : Job) (ls : List Line) → is_publishable job ls ≡ true → are_lawful job ls (line.Published ∷ []) ≡ true
  -- entries that follow one another
  pub both : (job : Job) (ls more most : List Line) → are_lawful job ls more ≡ true → are_lawful job (ls ++ more) most ≡ true → are_lawful job ls (more ++ most) ≡ true
