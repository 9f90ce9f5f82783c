-- What follows from the table alone, for every list of events, the newest first.
use Rattle.std.specs.Prelude.{◌≡◌, true, false, List, ◌++◌, Some, ◌⊎◌}
use Rattle.mr_ids.specs.declared.id.TaskKind.{TaskKind}
use Rattle.mr_ids.specs.declared.id.TaskKind.TheVariants.{Map, Reduce}
use Rattle.mr_attempt.specs.declared.state.AttemptState.{AttemptState}
use Rattle.mr_attempt.specs.declared.state.AttemptState.TheVariants.{New, Recording, Succeeded, Failed, Killed}
use Rattle.mr_attempt.specs.declared.state.AttemptEvent.{AttemptEvent}
use Rattle.mr_attempt.specs.declared.state.AttemptEvent.TheVariants.{Launch, Fail, Kill, Done, Recorded, Lost}
use Rattle.mr_attempt.specs.Table.{next, state_after, is_live, is_won, is_over}

-- an attempt that failed or was killed is never heard of again
abbrev pub EndsAreFinal : Type 0
EndsAreFinal = (kind : TaskKind) (events more : List AttemptEvent) → is_over (state_after kind events) ≡ true
    → state_after kind (more ++ events) ≡ state_after kind events

-- what an attempt can still become once its `Done` was accepted
pub record Wins : Type 0 where
  -- of a reduce, nothing takes it back
  pub reduces : (events more : List AttemptEvent) → is_won (state_after Reduce events) ≡ true → is_won (state_after Reduce (more ++ events)) ≡ true
  -- a map's output that was recorded can be lost, and then the attempt counts as killed
  pub maps : (events more : List AttemptEvent) → is_won (state_after Map events) ≡ true
      → (is_won (state_after Map (more ++ events)) ≡ true) ⊎ (state_after Map (more ++ events) ≡ Killed)
  -- it never fails
  pub recorded : (kind : TaskKind) (event : AttemptEvent) (s : AttemptState) → next kind Recording event ≡ Some s → (event ≡ Recorded) × (s ≡ Succeeded)
  pub lost : (kind : TaskKind) (event : AttemptEvent) (s : AttemptState) → next kind Succeeded event ≡ Some s → (kind ≡ Map) × (event ≡ Lost) × (s ≡ Killed)

-- how an attempt comes to be live, to be over and to be done
pub record Lives : Type 0 where
  -- only a launch makes it live, and only once: from then on it is live, over or done
  pub begins : (kind : TaskKind) (event : AttemptEvent) (s : AttemptState) → next kind New event ≡ Some s → (event ≡ Launch) × (is_live s ≡ true)
  pub not_again : (kind : TaskKind) (events more : List AttemptEvent) → is_live (state_after kind events) ≡ false
      → (state_after kind events ≡ New) ⊎ (is_live (state_after kind (more ++ events)) ≡ false)
  -- a live one ends by `Fail` or `Kill` alone, and its `Done` is accepted
  pub fails : (kind : TaskKind) (s : AttemptState) → is_live s ≡ true → next kind s Fail ≡ Some Failed
  pub is_killed : (kind : TaskKind) (s : AttemptState) → is_live s ≡ true → next kind s Kill ≡ Some Killed
  pub is_done : (kind : TaskKind) (s : AttemptState) → is_live s ≡ true → next kind s Done ≡ Some Recording
  -- each state is new, live, done or over
  pub either : (s : AttemptState) → (s ≡ New) ⊎ (is_live s ≡ true) ⊎ (is_won s ≡ true) ⊎ (is_over s ≡ true)
