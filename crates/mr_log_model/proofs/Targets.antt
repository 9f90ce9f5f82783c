-- The marker is made where the whole output of each task is there for good.
use Rattle.std.proofs.Common.{inl, inr, List, [], ◌∷◌, Option, Some, None, sym, subst}
use Rattle.mr_ids.specs.Attempt.{Attempt}
use Rattle.mr_log_entries.specs.declared.entry.Entry.{Entry}
use Rattle.mr_log_disk.specs.declared.place.Place.{Place}
use Rattle.mr_log_disk.specs.declared.place.Place.TheVariants.{Marker}
use Rattle.mr_log_disk.specs.declared.call.Call.{Call}
use Rattle.mr_log_disk.specs.declared.call.Call.TheVariants as call
use Rattle.mr_log_disk.specs.Names.{Moments}
use Rattle.mr_log_standing.specs.declared.standing.Win.{Win}
use Rattle.mr_log_steps.specs.declared.phase.Step.{Step}
use Rattle.mr_log_steps.specs.declared.phase.Step.TheVariants as step
use Rattle.mr_log_steps.specs.declared.phase.Phase.{Phase}
use Rattle.mr_log_steps.specs.declared.phase.Phase.TheVariants.{HandingIn, Linking, Comparing, Marking, Over}
use Rattle.mr_log_steps.specs.Commands.{Command, handing_call, publishing_call, first_call, first_place, call_in}
use Rattle.mr_log_model.specs.Worlds.{Setting}
use Rattle.mr_log_model.proofs.Names.{IsTarget}
use Rattle.mr_log_model.proofs.Steps.{AllSteps, IsBelow, IsOwn, IsWin, AllShown}
use Rattle.mr_log_model.proofs.Invariant.{MarkAt, Source, SeesAt}

-- where the call makes the marker, all is shown
abbrev pub MarkerAny : Setting → List Entry → (Place → Moments) → Option Call → Type 0
MarkerAny s durable v None = Unit {0}
MarkerAny s durable v (Some x) = IsTarget x Marker → AllShown s durable v

no-marker : (s : Setting) (durable : List Entry) (v : Place → Moments) (a : Attempt) (x : Step) → IsOwn a x → IsTarget (publishing_call x) Marker → AllShown s durable v
no-marker s durable v a (step.Link from to file) own t = absurd (subst IsBelow t own.0)
no-marker s durable v a (step.MakeFolder p) own t = absurd (subst IsBelow t own)
no-marker s durable v a step.LinkMarker own t = absurd own
no-marker s durable v a (step.SyncFile p) own t = absurd t
no-marker s durable v a (step.SyncFolder f) own t = absurd t
no-marker s durable v a step.WriteList own t = absurd t

linking : (s : Setting) (durable : List Entry) (v : Place → Moments) (a : Attempt) (xs : List Step) → AllSteps (IsOwn a) xs → MarkerAny s durable v (first_call publishing_call xs)
linking s durable v a [] own = tt
linking s durable v a (x ∷ xs) own = λ t. no-marker s durable v a x own.0 t

handing : (s : Setting) (durable : List Entry) (v : Place → Moments) (a : Attempt) (c : Command) (xs : List Step) → MarkerAny s durable v (first_call (handing_call a c) xs)
handing s durable v a c [] = tt
handing s durable v a c (x ∷ xs) = by x
  where
    by : (y : Step) → IsTarget (handing_call a c y) Marker → AllShown s durable v
    by (step.SyncFile p) t = absurd t
    by (step.SyncFolder f) t = absurd t
    by step.WriteList t = absurd t
    by (step.Link from to file) t = absurd t
    by (step.MakeFolder p) t = absurd t
    by step.LinkMarker t = absurd t

looking : (s : Setting) (durable : List Entry) (v : Place → Moments) (xs : List Step) → MarkerAny s durable v (first_place xs)
looking s durable v [] = tt
looking s durable v (x ∷ xs) = λ t. absurd t

marks : (s : Setting) (durable : List Entry) (v : Place → Moments) (xs : List Step) → MarkAt s durable v xs → MarkerAny s durable v (first_call publishing_call xs)
marks s durable v xs (inl x) = let P : List Step → Type 0 = λ ys. MarkerAny s durable v (first_call publishing_call ys) in subst P (sym x.0) (λ t. absurd t)
marks s durable v xs (inr (inl x)) = let P : List Step → Type 0 = λ ys. MarkerAny s durable v (first_call publishing_call ys) in subst P (sym x.0) (λ t. x.1)
marks s durable v xs (inr (inr x)) = let P : List Step → Type 0 = λ ys. MarkerAny s durable v (first_call publishing_call ys) in subst P (sym x.0) (λ t. absurd t)

pub marker-made : (s : Setting) (durable : List Entry) (v : Place → Moments) (c : Command) (p : Phase) → SeesAt s durable v c.lines c.left c.todo p → MarkerAny s durable v (call_in p c)
marker-made s durable v c (HandingIn a) h = handing s durable v a c c.todo
marker-made s durable v c (Linking w) h = linking s durable v w.attempt c.todo h.1.own
marker-made s durable v c (Comparing w) h = looking s durable v c.todo
marker-made s durable v c Marking h = marks s durable v c.todo h
marker-made s durable v c (Over o) h = tt
marker-made s durable v c _ h = λ t. absurd t

-- ---- what is linked is a recorded winner's

abbrev pub SourceOf : List Entry → Call → Type 0
SourceOf durable (call.Link from to) = Source durable from to
SourceOf durable _ = Unit {0}

abbrev pub SourceAny : List Entry → Option Call → Type 0
SourceAny durable None = Unit {0}
SourceAny durable (Some x) = SourceOf durable x

handing-source : (durable : List Entry) (a : Attempt) (c : Command) (xs : List Step) → SourceAny durable (first_call (handing_call a c) xs)
handing-source durable a c [] = tt
handing-source durable a c (x ∷ xs) = by x
  where
    by : (y : Step) → SourceOf durable (handing_call a c y)
    by (step.SyncFile p) = tt
    by (step.SyncFolder f) = tt
    by step.WriteList = tt
    by (step.Link from to file) = tt
    by (step.MakeFolder p) = tt
    by step.LinkMarker = tt

linking-source : (durable : List Entry) (w : Win) → IsWin durable w → (xs : List Step) → AllSteps (IsOwn w.attempt) xs → SourceAny durable (first_call publishing_call xs)
linking-source durable w is [] own = tt
linking-source durable w is (x ∷ xs) own = by x own.0
  where
    by : (y : Step) → IsOwn w.attempt y → SourceOf durable (publishing_call y)
    by (step.SyncFile p) o = tt
    by (step.SyncFolder f) o = tt
    by step.WriteList o = tt
    by (step.Link from to file) o = record { win = w; task = is.task; is = is.is; own = o.1 }
    by (step.MakeFolder p) o = tt
    by step.LinkMarker o = absurd o

marking-source : (s : Setting) (durable : List Entry) (v : Place → Moments) (xs : List Step) → MarkAt s durable v xs → SourceAny durable (first_call publishing_call xs)
marking-source s durable v xs (inl x) = let P : List Step → Type 0 = λ ys. SourceAny durable (first_call publishing_call ys) in subst P (sym x.0) tt
marking-source s durable v xs (inr (inl x)) = let P : List Step → Type 0 = λ ys. SourceAny durable (first_call publishing_call ys) in subst P (sym x.0) tt
marking-source s durable v xs (inr (inr x)) = let P : List Step → Type 0 = λ ys. SourceAny durable (first_call publishing_call ys) in subst P (sym x.0) tt

looking-source : (durable : List Entry) (xs : List Step) → SourceAny durable (first_place xs)
looking-source durable [] = tt
looking-source durable (x ∷ xs) = tt

pub source-made : (s : Setting) (durable : List Entry) (v : Place → Moments) (c : Command) (p : Phase) → SeesAt s durable v c.lines c.left c.todo p → SourceAny durable (call_in p c)
source-made s durable v c (HandingIn a) h = handing-source durable a c c.todo
source-made s durable v c (Linking w) h = linking-source durable w h.0.wins.0 c.todo h.1.own
source-made s durable v c (Comparing w) h = looking-source durable c.todo
source-made s durable v c Marking h = marking-source s durable v c.todo h
source-made s durable v c _ h = tt
