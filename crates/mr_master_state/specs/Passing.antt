-- Bars that are past: their attempts were accepted or are over, so none of them is live or ever will be.
use Rattle.std.specs.Prelude.{◌≡◌, ◌<◌, ◌≤◌, ℕ, Bool, true, false, ◌||◌, List, length, slice_get, Some}
use Rattle.mr_ids.specs.Attempt.{Attempt}
use Rattle.mr_grant.specs.Attempts.{has}
use Rattle.mr_task.specs.Readings as task
use Rattle.mr_master_model.specs.declared.setting.Setting.{Setting}
use Rattle.mr_master_model.specs.Past.{Step}
use Rattle.mr_master_model.specs.Readings.{Seen, of_task, is_live}
use Rattle.mr_master_model.specs.Next.{seen}
use Rattle.mr_master_state.specs.State.{Master, Keeps, StandsFor}

-- it was accepted, or is over
abbrev pub is_out_of : task.Seen → Attempt → Bool
is_out_of r a = has r.accepted a || task.is_over r.ended a

abbrev pub is_out : Setting → Seen → Attempt → Bool
is_out w s a = is_out_of (of_task w s a.task) a

-- so are the attempts of the first n bars
pub record ArePast (n : ℕ) (w : Setting) (s : Seen) : Type 0 where
  pub within : n ≤ length s.bars
  pub out : (i : ℕ) (a : Attempt) → i < n → slice_get s.bars i ≡ Some a → is_out w s a ≡ true

-- the machine stands for some past, in which the first n bars are past
abbrev pub HasPassed : Master → ℕ → Type 0
HasPassed m n = (past : List Step) × StandsFor m m.setting past × ArePast n m.setting (seen m.setting past)

-- whatever the machine keeps: none of the first n bars is of a live attempt
abbrev pub NoneLive : Master → ℕ → Type 0
NoneLive m n = (w : Setting) (s : Seen) (i : ℕ) (a : Attempt) → Keeps m w s → i < n → slice_get s.bars i ≡ Some a → is_live w s a ≡ false

-- whatever it keeps: where as many bars as `first` says are past, the first n are
abbrev pub Passes : Master → ℕ → ℕ → Type 0
Passes m first n = (w : Setting) (s : Seen) → Keeps m w s → ArePast first w s → ArePast n w s

-- the bar at place i is past
abbrev pub IsPastAt : Master → ℕ → Type 0
IsPastAt m i = (w : Setting) (s : Seen) → Keeps m w s → (a : Attempt) × (slice_get s.bars i ≡ Some a) × (is_out w s a ≡ true)
