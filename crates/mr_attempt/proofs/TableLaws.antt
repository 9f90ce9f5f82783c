-- The laws of the table.
use Rattle.std.proofs.Common.{◌≡◌, true, false, List, [], ◌∷◌, ◌++◌, refl, ap, ◌∙◌, Some, ◌⊎◌, inl, inr}
use Rattle.mr_ids.specs.declared.id.TaskKind.{TaskKind}
use Rattle.mr_ids.specs.declared.id.TaskKind.TheVariants.{Map, Reduce}
use Rattle.mr_attempt.specs.declared.state.AttemptState.{AttemptState}
use Rattle.mr_attempt.specs.declared.state.AttemptState.TheVariants.{New, Assigned, Running, CommitPending, Recording, Succeeded, Failed, Killed}
use Rattle.mr_attempt.specs.declared.state.AttemptEvent.{AttemptEvent}
use Rattle.mr_attempt.specs.declared.state.AttemptEvent.TheVariants.{Launch, Done, Fail, Kill, Recorded, Lost}
use Rattle.mr_attempt.specs.Table.{next, after, state_after, is_live, is_won, is_over}
use Rattle.mr_attempt.specs.Laws.{EndsAreFinal, Wins, Lives}
use Rattle.mr_attempt.proofs.Steps.{over-stays, reduce-stays-won, map-stays-won, is_past, past-stays, past-is-dead, new-or-past}

pub ends_are_final : EndsAreFinal
ends_are_final kind events [] h = refl
ends_are_final kind events (e ∷ more) h =
    ap (λ s. after kind s e) (ends_are_final kind events more h) ∙ over-stays kind (state_after kind events) e h

reduces : (events more : List AttemptEvent) → is_won (state_after Reduce events) ≡ true → is_won (state_after Reduce (more ++ events)) ≡ true
reduces events [] h = h
reduces events (e ∷ more) h = reduce-stays-won (state_after Reduce (more ++ events)) e (reduces events more h)

maps : (events more : List AttemptEvent) → is_won (state_after Map events) ≡ true
    → (is_won (state_after Map (more ++ events)) ≡ true) ⊎ (state_after Map (more ++ events) ≡ Killed)
maps events [] h = inl h
maps events (e ∷ more) h = elim (maps events more h) [
  | inl w ↦ map-stays-won (state_after Map (more ++ events)) e w
  | inr k ↦ inr (ap (λ s. after Map s e) k)
]

recorded : (kind : TaskKind) (event : AttemptEvent) (s : AttemptState) → next kind Recording event ≡ Some s → (event ≡ Recorded) × (s ≡ Succeeded)
recorded kind Recorded s h = (refl, cc)
recorded kind event s h = absurd (cc)

lost : (kind : TaskKind) (event : AttemptEvent) (s : AttemptState) → next kind Succeeded event ≡ Some s → (kind ≡ Map) × (event ≡ Lost) × (s ≡ Killed)
lost Map Lost s h = (refl, refl, cc)
lost Reduce Lost s h = absurd (cc)
lost kind event s h = absurd (cc)

pub wins : Wins
wins = record { reduces = reduces; maps = maps; recorded = recorded; lost = lost }

begins : (kind : TaskKind) (event : AttemptEvent) (s : AttemptState) → next kind New event ≡ Some s → (event ≡ Launch) × (is_live s ≡ true)
begins kind Launch s h = (refl, let e : s ≡ Assigned = cc in ap is_live e)
begins kind event s h = absurd (cc)

stays-past : (kind : TaskKind) (events more : List AttemptEvent) → is_past (state_after kind events) ≡ true → is_past (state_after kind (more ++ events)) ≡ true
stays-past kind events [] h = h
stays-past kind events (e ∷ more) h = past-stays kind (state_after kind (more ++ events)) e (stays-past kind events more h)

not_again : (kind : TaskKind) (events more : List AttemptEvent) → is_live (state_after kind events) ≡ false
    → (state_after kind events ≡ New) ⊎ (is_live (state_after kind (more ++ events)) ≡ false)
not_again kind events more h = elim (new-or-past (state_after kind events) h) [
  | inl n ↦ inl n
  | inr p ↦ inr (past-is-dead (state_after kind (more ++ events)) (stays-past kind events more p))
]

fails : (kind : TaskKind) (s : AttemptState) → is_live s ≡ true → next kind s Fail ≡ Some Failed
fails kind Assigned h = refl
fails kind Running h = refl
fails kind CommitPending h = refl
fails kind _ h = absurd (cc)

is_killed : (kind : TaskKind) (s : AttemptState) → is_live s ≡ true → next kind s Kill ≡ Some Killed
is_killed kind Assigned h = refl
is_killed kind Running h = refl
is_killed kind CommitPending h = refl
is_killed kind _ h = absurd (cc)

is_done : (kind : TaskKind) (s : AttemptState) → is_live s ≡ true → next kind s Done ≡ Some Recording
is_done kind Assigned h = refl
is_done kind Running h = refl
is_done kind CommitPending h = refl
is_done kind _ h = absurd (cc)

either : (s : AttemptState) → (s ≡ New) ⊎ (is_live s ≡ true) ⊎ (is_won s ≡ true) ⊎ (is_over s ≡ true)
either New = inl refl
either Assigned = inr (inl refl)
either Running = inr (inl refl)
either CommitPending = inr (inl refl)
either Recording = inr (inr (inl refl))
either Succeeded = inr (inr (inl refl))
either Failed = inr (inr (inr refl))
either Killed = inr (inr (inr refl))

pub lives : Lives
lives = record { begins = begins; not_again = not_again; fails = fails; is_killed = is_killed; is_done = is_done; either = either }
