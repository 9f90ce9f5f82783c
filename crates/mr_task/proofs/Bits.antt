-- What was heard of one attempt, as truth values, and how its state in the table of attempts tells them.
use Rattle.std.proofs.Common.{◌≡◌, Bool, true, false, ◌&&◌, not, if◌then◌else◌, refl, sym, ap, ◌∙◌, true≢false, subst}
use Rattle.mr_ids.specs.Attempt.{Attempt}
use Rattle.mr_ids.specs.declared.id.TaskKind.{TaskKind}
use Rattle.mr_ids.specs.declared.id.TaskKind.TheVariants.{Map, Reduce}
use Rattle.mr_attempt.specs.declared.state.AttemptState.{AttemptState}
use Rattle.mr_attempt.specs.declared.state.AttemptState.TheVariants.{New, Assigned, Running, CommitPending, Recording, Succeeded, Failed, Killed}
use Rattle.mr_attempt.specs.declared.state.AttemptEvent.{AttemptEvent}
use Rattle.mr_attempt.specs.declared.state.AttemptEvent.TheVariants as event
use Rattle.mr_attempt.specs.Table as table
use Rattle.mr_grant.specs.Attempts.{has}
use Rattle.mr_task.specs.Readings.{Seen, is_over, has_failed, is_reduce}

pub record Bits : Type 0 where
  pub arrived : Bool
  pub accepted : Bool
  pub over : Bool
  pub failed : Bool
  pub recorded : Bool
  pub lost : Bool

abbrev pub bits : Seen → Attempt → Bits
bits s a = record { arrived = has s.arrived a; accepted = has s.accepted a; over = is_over s.ended a; failed = has_failed s.ended a; recorded = has s.recorded a; lost = has s.lost a }

abbrev pub bits_of : AttemptState → Bool → Bits
bits_of New l = record { arrived = false; accepted = false; over = false; failed = false; recorded = false; lost = false }
bits_of Assigned l = record { arrived = true; accepted = false; over = false; failed = false; recorded = false; lost = false }
bits_of Running l = record { arrived = true; accepted = false; over = false; failed = false; recorded = false; lost = false }
bits_of CommitPending l = record { arrived = true; accepted = false; over = false; failed = false; recorded = false; lost = false }
bits_of Recording l = record { arrived = true; accepted = true; over = false; failed = false; recorded = false; lost = false }
bits_of Succeeded l = record { arrived = true; accepted = true; over = false; failed = false; recorded = true; lost = false }
bits_of Failed l = record { arrived = true; accepted = false; over = true; failed = true; recorded = false; lost = false }
bits_of Killed false = record { arrived = true; accepted = false; over = true; failed = false; recorded = false; lost = false }
bits_of Killed true = record { arrived = true; accepted = true; over = false; failed = false; recorded = true; lost = true }

-- the state tells the truth values; of a killed one l says whether it was lost
pub record Fits (st : AttemptState) (b : Bits) : Type 0 where
  pub l : Bool
  pub is : b ≡ bits_of st l

-- ---- what the state tells

live_of : (st : AttemptState) (l : Bool) → ((bits_of st l).arrived && (not (bits_of st l).accepted && not (bits_of st l).over)) ≡ table.is_live st
live_of New l = refl
live_of Assigned l = refl
live_of Running l = refl
live_of CommitPending l = refl
live_of Recording l = refl
live_of Succeeded l = refl
live_of Failed l = refl
live_of Killed false = refl
live_of Killed true = refl

pub live-is : (st : AttemptState) (b : Bits) → Fits st b → (b.arrived && (not b.accepted && not b.over)) ≡ table.is_live st
live-is st b f = ap (λ (x : Bits). x.arrived && (not x.accepted && not x.over)) f.is ∙ live_of st f.l

won_of : (st : AttemptState) (l : Bool) → ((bits_of st l).accepted && not (bits_of st l).lost) ≡ table.is_won st
won_of New l = refl
won_of Assigned l = refl
won_of Running l = refl
won_of CommitPending l = refl
won_of Recording l = refl
won_of Succeeded l = refl
won_of Failed l = refl
won_of Killed false = refl
won_of Killed true = refl

pub won-is : (st : AttemptState) (b : Bits) → Fits st b → (b.accepted && not b.lost) ≡ table.is_won st
won-is st b f = ap (λ (x : Bits). x.accepted && not x.lost) f.is ∙ won_of st f.l

over_of : (st : AttemptState) (l : Bool) → (bits_of st l).over ≡ (table.is_over st && not (bits_of st l).accepted)
over_of New l = refl
over_of Assigned l = refl
over_of Running l = refl
over_of CommitPending l = refl
over_of Recording l = refl
over_of Succeeded l = refl
over_of Failed l = refl
over_of Killed false = refl
over_of Killed true = refl

pub over-is : (st : AttemptState) (b : Bits) → Fits st b → b.over ≡ (table.is_over st && not b.accepted)
over-is st b f = ap (λ (x : Bits). x.over) f.is ∙ over_of st f.l ∙ ap (λ (x : Bits). table.is_over st && not x.accepted) (sym f.is)

abbrev pub is_failed : AttemptState → Bool
is_failed Failed = true
is_failed _ = false

failed_of : (st : AttemptState) (l : Bool) → (bits_of st l).failed ≡ is_failed st
failed_of New l = refl
failed_of Assigned l = refl
failed_of Running l = refl
failed_of CommitPending l = refl
failed_of Recording l = refl
failed_of Succeeded l = refl
failed_of Failed l = refl
failed_of Killed false = refl
failed_of Killed true = refl

pub failed-is : (st : AttemptState) (b : Bits) → Fits st b → b.failed ≡ is_failed st
failed-is st b f = ap (λ (x : Bits). x.failed) f.is ∙ failed_of st f.l

accepted_of : (st : AttemptState) (l : Bool) → (bits_of st l).accepted ≡ true → (bits_of st l).over ≡ false
accepted_of New l e = refl
accepted_of Assigned l e = refl
accepted_of Running l e = refl
accepted_of CommitPending l e = refl
accepted_of Recording l e = refl
accepted_of Succeeded l e = refl
accepted_of Failed l e = absurd (true≢false (sym e))
accepted_of Killed false e = absurd (true≢false (sym e))
accepted_of Killed true e = refl

-- an accepted attempt is not over
pub accepted-stays : (st : AttemptState) (b : Bits) → Fits st b → b.accepted ≡ true → b.over ≡ false
accepted-stays st b f e = ap (λ (x : Bits). x.over) f.is ∙ accepted_of st f.l (sym (ap (λ (x : Bits). x.accepted) f.is) ∙ e)

arrived_of : (st : AttemptState) (l : Bool) → (bits_of st l).arrived ≡ false → bits_of st l ≡ bits_of New false
arrived_of New l e = refl
arrived_of Assigned l e = absurd (true≢false e)
arrived_of Running l e = absurd (true≢false e)
arrived_of CommitPending l e = absurd (true≢false e)
arrived_of Recording l e = absurd (true≢false e)
arrived_of Succeeded l e = absurd (true≢false e)
arrived_of Failed l e = absurd (true≢false e)
arrived_of Killed false e = absurd (true≢false e)
arrived_of Killed true e = absurd (true≢false e)

-- of an attempt that did not arrive nothing was heard
pub unknown-is : (st : AttemptState) (b : Bits) → Fits st b → b.arrived ≡ false → b ≡ bits_of New false
unknown-is st b f e = f.is ∙ arrived_of st f.l (sym (ap (λ (x : Bits). x.arrived) f.is) ∙ e)

new_of : (st : AttemptState) (l : Bool) → (bits_of st l).arrived ≡ false → st ≡ New
new_of New l e = refl
new_of Assigned l e = absurd (true≢false e)
new_of Running l e = absurd (true≢false e)
new_of CommitPending l e = absurd (true≢false e)
new_of Recording l e = absurd (true≢false e)
new_of Succeeded l e = absurd (true≢false e)
new_of Failed l e = absurd (true≢false e)
new_of Killed false e = absurd (true≢false e)
new_of Killed true e = absurd (true≢false e)

pub unknown-new : (st : AttemptState) (b : Bits) → Fits st b → b.arrived ≡ false → st ≡ New
unknown-new st b f e = new_of st f.l (sym (ap (λ (x : Bits). x.arrived) f.is) ∙ e)

-- ---- what a call of the attempt itself does to them

abbrev pub bits_done : Bool → Bits → Bits
bits_done may b = if b.arrived && (not b.accepted && may) then record b { accepted = true } else b

abbrev pub bits_ended : Bool → Bits → Bits
bits_ended is_failure b = if b.arrived && (not b.accepted && not b.over) then record b { over = true; failed = is_failure } else b

abbrev pub bits_recorded : Bits → Bits
bits_recorded b = if b.accepted then record b { recorded = true } else b

abbrev pub bits_lost : TaskKind → Bits → Bits
bits_lost kind b = if not (is_reduce kind) && b.recorded then record b { lost = true } else b

-- a state that moves by the event, if the test holds
abbrev pub moved : TaskKind → AttemptEvent → Bool → AttemptState → AttemptState
moved kind e true st = table.after kind st e
moved kind e false st = st

done_of : (kind : TaskKind) (may : Bool) (st : AttemptState) (l : Bool) → (may ≡ true → (bits_of st l).over ≡ false)
    → Fits (moved kind event.Done ((bits_of st l).arrived && (not (bits_of st l).accepted && may)) st) (bits_done may (bits_of st l))
done_of kind may New l h = record { l = false; is = refl }
done_of kind true Assigned l h = record { l = false; is = refl }
done_of kind false Assigned l h = record { l = false; is = refl }
done_of kind true Running l h = record { l = false; is = refl }
done_of kind false Running l h = record { l = false; is = refl }
done_of kind true CommitPending l h = record { l = false; is = refl }
done_of kind false CommitPending l h = record { l = false; is = refl }
done_of kind may Recording l h = record { l = false; is = refl }
done_of kind may Succeeded l h = record { l = false; is = refl }
done_of kind true Failed l h = absurd (true≢false (h refl))
done_of kind false Failed l h = record { l = false; is = refl }
done_of kind true Killed false h = absurd (true≢false (h refl))
done_of kind false Killed false h = record { l = false; is = refl }
done_of kind may Killed true h = record { l = true; is = refl }

pub done-fits : (kind : TaskKind) (may : Bool) (st : AttemptState) (b : Bits) → Fits st b → (may ≡ true → b.over ≡ false)
    → Fits (moved kind event.Done (b.arrived && (not b.accepted && may)) st) (bits_done may b)
done-fits kind may st b f h =
    subst (λ (x : Bits). Fits (moved kind event.Done (x.arrived && (not x.accepted && may)) st) (bits_done may x)) (sym f.is)
    (done_of kind may st f.l (λ m. sym (ap (λ (x : Bits). x.over) f.is) ∙ h m))

fail_of : (kind : TaskKind) (st : AttemptState) (l : Bool) → Fits (table.after kind st event.Fail) (bits_ended true (bits_of st l))
fail_of kind New l = record { l = false; is = refl }
fail_of kind Assigned l = record { l = false; is = refl }
fail_of kind Running l = record { l = false; is = refl }
fail_of kind CommitPending l = record { l = false; is = refl }
fail_of kind Recording l = record { l = false; is = refl }
fail_of kind Succeeded l = record { l = false; is = refl }
fail_of kind Failed l = record { l = false; is = refl }
fail_of kind Killed false = record { l = false; is = refl }
fail_of kind Killed true = record { l = true; is = refl }

pub fail-fits : (kind : TaskKind) (st : AttemptState) (b : Bits) → Fits st b → Fits (table.after kind st event.Fail) (bits_ended true b)
fail-fits kind st b f = subst (λ (x : Bits). Fits (table.after kind st event.Fail) (bits_ended true x)) (sym f.is) (fail_of kind st f.l)

kill_of : (kind : TaskKind) (st : AttemptState) (l : Bool) → Fits (table.after kind st event.Kill) (bits_ended false (bits_of st l))
kill_of kind New l = record { l = false; is = refl }
kill_of kind Assigned l = record { l = false; is = refl }
kill_of kind Running l = record { l = false; is = refl }
kill_of kind CommitPending l = record { l = false; is = refl }
kill_of kind Recording l = record { l = false; is = refl }
kill_of kind Succeeded l = record { l = false; is = refl }
kill_of kind Failed l = record { l = false; is = refl }
kill_of kind Killed false = record { l = false; is = refl }
kill_of kind Killed true = record { l = true; is = refl }

pub kill-fits : (kind : TaskKind) (st : AttemptState) (b : Bits) → Fits st b → Fits (table.after kind st event.Kill) (bits_ended false b)
kill-fits kind st b f = subst (λ (x : Bits). Fits (table.after kind st event.Kill) (bits_ended false x)) (sym f.is) (kill_of kind st f.l)

record_of : (kind : TaskKind) (st : AttemptState) (l : Bool) → Fits (table.after kind st event.Recorded) (bits_recorded (bits_of st l))
record_of kind New l = record { l = false; is = refl }
record_of kind Assigned l = record { l = false; is = refl }
record_of kind Running l = record { l = false; is = refl }
record_of kind CommitPending l = record { l = false; is = refl }
record_of kind Recording l = record { l = false; is = refl }
record_of kind Succeeded l = record { l = false; is = refl }
record_of kind Failed l = record { l = false; is = refl }
record_of kind Killed false = record { l = false; is = refl }
record_of kind Killed true = record { l = true; is = refl }

pub record-fits : (kind : TaskKind) (st : AttemptState) (b : Bits) → Fits st b → Fits (table.after kind st event.Recorded) (bits_recorded b)
record-fits kind st b f = subst (λ (x : Bits). Fits (table.after kind st event.Recorded) (bits_recorded x)) (sym f.is) (record_of kind st f.l)

lose_of : (kind : TaskKind) (st : AttemptState) (l : Bool) → Fits (table.after kind st event.Lost) (bits_lost kind (bits_of st l))
lose_of Map New l = record { l = false; is = refl }
lose_of Map Assigned l = record { l = false; is = refl }
lose_of Map Running l = record { l = false; is = refl }
lose_of Map CommitPending l = record { l = false; is = refl }
lose_of Map Recording l = record { l = false; is = refl }
lose_of Map Succeeded l = record { l = true; is = refl }
lose_of Map Failed l = record { l = false; is = refl }
lose_of Map Killed false = record { l = false; is = refl }
lose_of Map Killed true = record { l = true; is = refl }
lose_of Reduce New l = record { l = l; is = refl }
lose_of Reduce Assigned l = record { l = l; is = refl }
lose_of Reduce Running l = record { l = l; is = refl }
lose_of Reduce CommitPending l = record { l = l; is = refl }
lose_of Reduce Recording l = record { l = l; is = refl }
lose_of Reduce Succeeded l = record { l = l; is = refl }
lose_of Reduce Failed l = record { l = l; is = refl }
lose_of Reduce Killed l = record { l = l; is = refl }

pub lose-fits : (kind : TaskKind) (st : AttemptState) (b : Bits) → Fits st b → Fits (table.after kind st event.Lost) (bits_lost kind b)
lose-fits kind st b f = subst (λ (x : Bits). Fits (table.after kind st event.Lost) (bits_lost kind x)) (sym f.is) (lose_of kind st f.l)

hear_of : (kind : TaskKind) (st : AttemptState) (l : Bool) → Fits (table.after kind st event.Heard) (bits_of st l)
hear_of kind New l = record { l = l; is = refl }
hear_of kind Assigned l = record { l = l; is = refl }
hear_of kind Running l = record { l = l; is = refl }
hear_of kind CommitPending l = record { l = l; is = refl }
hear_of kind Recording l = record { l = l; is = refl }
hear_of kind Succeeded l = record { l = l; is = refl }
hear_of kind Failed l = record { l = l; is = refl }
hear_of kind Killed l = record { l = l; is = refl }

pub hear-fits : (kind : TaskKind) (st : AttemptState) (b : Bits) → Fits st b → Fits (table.after kind st event.Heard) b
hear-fits kind st b f = subst (λ (x : Bits). Fits (table.after kind st event.Heard) x) (sym f.is) (hear_of kind st f.l)

ask_of : (kind : TaskKind) (st : AttemptState) (l : Bool) → Fits (table.after kind st event.Pending) (bits_of st l)
ask_of kind New l = record { l = l; is = refl }
ask_of kind Assigned l = record { l = l; is = refl }
ask_of kind Running l = record { l = l; is = refl }
ask_of kind CommitPending l = record { l = l; is = refl }
ask_of kind Recording l = record { l = l; is = refl }
ask_of kind Succeeded l = record { l = l; is = refl }
ask_of kind Failed l = record { l = l; is = refl }
ask_of kind Killed l = record { l = l; is = refl }

pub ask-fits : (kind : TaskKind) (st : AttemptState) (b : Bits) → Fits st b → Fits (table.after kind st event.Pending) b
ask-fits kind st b f = subst (λ (x : Bits). Fits (table.after kind st event.Pending) x) (sym f.is) (ask_of kind st f.l)
