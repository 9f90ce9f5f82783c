-- What one event does to a state of each sort.
use Rattle.std.proofs.Common.{◌≡◌, Bool, true, false, ◌||◌, refl, ◌⊎◌, inl, inr}
use Rattle.mr_ids.specs.declared.id.TaskKind.{TaskKind}
use Rattle.mr_ids.specs.declared.id.TaskKind.TheVariants.{Map, Reduce}
use Rattle.mr_attempt.specs.declared.state.AttemptState.{AttemptState}
use Rattle.mr_attempt.specs.declared.state.AttemptState.TheVariants.{New, Assigned, Running, CommitPending, Recording, Succeeded, Failed, Killed}
use Rattle.mr_attempt.specs.declared.state.AttemptEvent.{AttemptEvent}
use Rattle.mr_attempt.specs.declared.state.AttemptEvent.TheVariants.{Recorded, Lost}
use Rattle.mr_attempt.specs.Table.{after, is_live, is_won, is_over}

-- a state that is over stays
pub over-stays : (kind : TaskKind) (s : AttemptState) (e : AttemptEvent) → is_over s ≡ true → after kind s e ≡ s
over-stays kind Failed e h = refl
over-stays kind Killed e h = refl
over-stays kind New e h = absurd (cc)
over-stays kind Assigned e h = absurd (cc)
over-stays kind Running e h = absurd (cc)
over-stays kind CommitPending e h = absurd (cc)
over-stays kind Recording e h = absurd (cc)
over-stays kind Succeeded e h = absurd (cc)

-- a reduce whose `Done` was accepted stays so
pub reduce-stays-won : (s : AttemptState) (e : AttemptEvent) → is_won s ≡ true → is_won (after Reduce s e) ≡ true
reduce-stays-won Recording Recorded h = refl
reduce-stays-won Recording e h = refl
reduce-stays-won Succeeded Lost h = refl
reduce-stays-won Succeeded e h = refl
reduce-stays-won New e h = absurd (cc)
reduce-stays-won Assigned e h = absurd (cc)
reduce-stays-won Running e h = absurd (cc)
reduce-stays-won CommitPending e h = absurd (cc)
reduce-stays-won Failed e h = absurd (cc)
reduce-stays-won Killed e h = absurd (cc)

-- a map whose `Done` was accepted stays so, or is lost
pub map-stays-won : (s : AttemptState) (e : AttemptEvent) → is_won s ≡ true → (is_won (after Map s e) ≡ true) ⊎ (after Map s e ≡ Killed)
map-stays-won Recording Recorded h = inl refl
map-stays-won Recording e h = inl refl
map-stays-won Succeeded Lost h = inr refl
map-stays-won Succeeded e h = inl refl
map-stays-won New e h = absurd (cc)
map-stays-won Assigned e h = absurd (cc)
map-stays-won Running e h = absurd (cc)
map-stays-won CommitPending e h = absurd (cc)
map-stays-won Failed e h = absurd (cc)
map-stays-won Killed e h = absurd (cc)

-- launched and no longer live
abbrev pub is_past : AttemptState → Bool
is_past s = is_won s || is_over s

pub past-stays : (kind : TaskKind) (s : AttemptState) (e : AttemptEvent) → is_past s ≡ true → is_past (after kind s e) ≡ true
past-stays kind Recording Recorded h = refl
past-stays kind Recording e h = refl
past-stays Map Succeeded Lost h = refl
past-stays Reduce Succeeded Lost h = refl
past-stays kind Succeeded e h = refl
past-stays kind Failed e h = refl
past-stays kind Killed e h = refl
past-stays kind New e h = absurd (cc)
past-stays kind Assigned e h = absurd (cc)
past-stays kind Running e h = absurd (cc)
past-stays kind CommitPending e h = absurd (cc)

pub past-is-dead : (s : AttemptState) → is_past s ≡ true → is_live s ≡ false
past-is-dead Recording h = refl
past-is-dead Succeeded h = refl
past-is-dead Failed h = refl
past-is-dead Killed h = refl
past-is-dead New h = refl
past-is-dead Assigned h = absurd (cc)
past-is-dead Running h = absurd (cc)
past-is-dead CommitPending h = absurd (cc)

pub new-or-past : (s : AttemptState) → is_live s ≡ false → (s ≡ New) ⊎ (is_past s ≡ true)
new-or-past New h = inl refl
new-or-past Recording h = inr refl
new-or-past Succeeded h = inr refl
new-or-past Failed h = inr refl
new-or-past Killed h = inr refl
new-or-past Assigned h = absurd (cc)
new-or-past Running h = absurd (cc)
new-or-past CommitPending h = absurd (cc)
