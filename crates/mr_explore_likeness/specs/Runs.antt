-- When two runs of an exploration are so alike that whatever comes of the first comes of the second. Our own.
use Rattle.std.specs.Prelude.{◌≡◌, ◌≤◌, ◌-◌, ℕ, Bool, false, List, length}
use Rattle.mr_play.specs.Text.{job_as}
use Rattle.mr_explore_faults.specs.declared.fault.Fault.{Fault}
use Rattle.mr_explore.specs.Exploring.{is_stalled, outcome_of}
use Rattle.mr_explore.specs.Faults.{most_events}
use Rattle.mr_explore.specs.Runs.{Exploring}
use Rattle.mr_script_order.specs.Order.{sooner}
use Rattle.mr_explore_likeness.specs.Owed.{AreOneLater}
use Rattle.mr_explore_likeness.specs.Plays.{LikePlays, cluster}

-- how many events a world takes of it still
abbrev pub rest : Exploring → ℕ
rest e = most_events - length e.played.events

-- its script comes before that of another one
abbrev pub before : Exploring → Exploring → Bool
before s t = sooner s.played.events t.played.events

-- a limit forbids its last fault
abbrev pub void : Exploring → Bool
void e = e.past_limit

-- two runs at their ends have one end: both, or neither, made no progress
pub record HaveOneEnd (s t : Exploring) : Type 0 where
  pub outcome : outcome_of s.config (cluster s.config s.played) ≡ outcome_of t.config (cluster t.config t.played)
  pub stalled : is_stalled s ≡ is_stalled t

abbrev pub ends : Exploring → Exploring → Type 0
ends s t = HaveOneEnd s t

-- Two runs of one job, neither of which is deep, and in which these were put off: both have begun, no limit forbids their last faults, their plays go on alike, and the same was put off.
pub record AreLike (level : Bool) (s : Exploring) (o : List Fault) (t : Exploring) (p : List Fault) : Type 0 where
  pub job : s.job ≡ t.job
  pub config : s.config ≡ t.config
  pub goes : s.past_limit ≡ false
  pub goes_too : t.past_limit ≡ false
  pub shallow : s.deep ≡ false
  pub shallow_too : t.deep ≡ false
  pub begun : 1 ≤ length s.played.events
  pub begun_too : 1 ≤ length t.played.events
  pub plays : LikePlays level (job_as s.job) s.config s.played t.played
  pub owed : AreOneLater (cluster s.config s.played).bag (cluster s.config t.played).bag s.played.cursor t.played.cursor o p

abbrev pub like : Bool → Exploring → List Fault → Exploring → List Fault → Type 0
like level s o t p = AreLike level s o t p
