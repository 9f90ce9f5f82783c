-- Where a command is once its call was answered.
use Rattle.std.proofs.Common.{◌≡◌, ◌⊎◌, inl, inr, Bool, true, false, cond, ◌||◌, List, [], ◌∷◌, ◌++◌, Option, Some, None, refl, sym, ap, subst, ◌∙◌, append_assoc}
use Rattle.std.specs.List.{list_any}
use Rattle.std.proofs.lemmas.List.Folds.{list_any-append}
use Rattle.mr_ids.specs.Attempt.{Attempt}
use Rattle.mr_ids.specs.Same.{same_attempt}
use Rattle.mr_ids.proofs.Same.{same_attempt-itself}
use Rattle.mr_log_entries.specs.declared.line.Line.{Line}
use Rattle.mr_log_entries.specs.declared.line.Line.TheVariants as line
use Rattle.mr_log_entries.specs.declared.line.Handed.{Handed}
use Rattle.mr_log_entries.specs.declared.entry.Entry.{Entry}
use Rattle.mr_log_entries.specs.Recorded.{lines_of}
use Rattle.mr_log_disk.specs.declared.call.Call.TheVariants as call
use Rattle.mr_log_disk.specs.declared.place.Folder.TheVariants as folder
use Rattle.mr_log_disk.specs.declared.place.Node.{Node}
use Rattle.mr_log_disk.specs.declared.place.Item.{Item}
use Rattle.mr_log_disk.specs.declared.answer.Reply.{Reply}
use Rattle.mr_log_disk.specs.declared.answer.Reply.TheVariants.{Done, Missing, Taken, Found, Odd, Grew, Held, Dead, Failed}
use Rattle.mr_log_standing.specs.declared.order.Order.{Order}
use Rattle.mr_log_standing.specs.declared.order.Order.TheVariants as order
use Rattle.mr_log_standing.specs.declared.order.Outcome.{Outcome}
use Rattle.mr_log_standing.specs.declared.order.Outcome.TheVariants as outcome
use Rattle.mr_log_standing.specs.declared.standing.Standing.{Standing}
use Rattle.mr_log_standing.specs.declared.standing.Win.{Win}
use Rattle.mr_log_standing.specs.Standing.{is_start_of}
use Rattle.mr_log_standing.specs.declared.decision.Conclusion.{Conclusion}
use Rattle.mr_log_standing.specs.declared.decision.Conclusion.TheVariants as conclusion
use Rattle.mr_log_steps.specs.declared.phase.Step.{Step}
use Rattle.mr_log_steps.specs.declared.phase.Step.TheVariants as step
use Rattle.mr_log_steps.specs.declared.phase.Phase.{Phase}
use Rattle.mr_log_steps.specs.declared.phase.Phase.TheVariants.{Reading, SyncingLog, Putting, SyncingPut, ReadingOn, MakingWork, Claiming, TakingNote, ListingKept, HandingIn, DroppingNote, SyncingKept, ReadingList, Linking, Comparing, Marking, Emptying, EmptyingAll, Forgetting, SyncingForgotten, Over}
use Rattle.mr_log_steps.specs.Commands.{Command}
use Rattle.mr_log_steps.specs.Lists.{handed_in}
use Rattle.mr_log_steps.specs.Turns as turns
use Rattle.mr_log_steps.specs.Turns.{hears, begun_by, with_start, finds, drops_for, decides, makes_work, has_begun, work_made, concludes, checked, after_drop, succeeds, step_failed, handed_on, handing_heard, linked_on, linking_heard, is_same, compared, comparing_heard, marked_on, marker_taken, marking_heard, knows, reads_on, same_origin, claimed, note_heard, not_listed, kept_synced, not_read, work_heard}
use Rattle.mr_log_model.specs.Promises.{IsFront}
use Rattle.mr_log_disk.specs.declared.place.Place.{Place}
use Rattle.mr_log_disk.specs.Names.{Moments}
use Rattle.mr_log_model.specs.Worlds.{Setting}
use Rattle.mr_log_model.proofs.Steps.{Progress, progress-done, to-show-next, IsShown}
use Rattle.mr_log_model.proofs.Fronts.{lines-more}
use Rattle.mr_log_model.proofs.Invariant.{Permits, AreBegun, Knows, stage, is_plain, marker_next, marker_last, MarkAt, Publishing, Fits, Amid}
use Rattle.mr_log_model.proofs.Deciding.{IsShowing, over-amid, publishes-amid, decides-amid}

-- of a command that fits, and knows a durable front
abbrev Lands : Setting → (Place → Moments) → List Entry → List Entry → Command → Command → Type 0
Lands s v durable all c new = Fits s durable v c.job c.host c.origin c.amiss c.is_shown → IsFront c.entries durable → Amid s v durable all new

-- by which the job may be published
abbrev LandsShown : Setting → (Place → Moments) → List Entry → List Entry → Command → Command → Type 0
LandsShown s v durable all c new = Fits s durable v c.job c.host c.origin c.amiss c.is_shown → IsShowing durable c → Amid s v durable all new

pub ends-so : (s : Setting) (v : Place → Moments) (durable all : List Entry) (c : Command) (o : Outcome) → is_plain o ≡ true → Fits s durable v c.job c.host c.origin c.amiss c.is_shown → Amid s v durable all (turns.over o c)
ends-so s v durable all c o e f = over-amid s v durable all c o f e

finds-amid : (s : Setting) (v : Place → Moments) (durable all : List Entry) (c : Command) (o : Outcome) → is_plain o ≡ true → Lands s v durable all c (finds o c)
finds-amid s v durable all c o e f k = record { fits = record { job = f.job; boot = f.boot; amiss = e; visible = f.visible }; here = k; sees = tt }

drops-amid : (s : Setting) (v : Place → Moments) (durable all : List Entry) (c : Command) (o : Outcome) (a : Attempt) → is_plain o ≡ true → Lands s v durable all c (drops_for o a c)
drops-amid s v durable all c o a e f k = record { fits = record { job = f.job; boot = f.boot; amiss = e; visible = f.visible }; here = k; sees = tt }

concludes-amid : (s : Setting) (v : Place → Moments) (durable all : List Entry) (c : Command) (x : Conclusion) → Lands s v durable all c (concludes x c)
concludes-amid s v durable all c x f k = decides-amid s v durable all (record c { conclusion = Some x }) f k

-- ---- beginning

pub makes-amid : (s : Setting) (v : Place → Moments) (durable all : List Entry) (xs : List Attempt) (c : Command) → Fits s durable v c.job c.host c.origin c.amiss c.is_shown → IsFront c.entries durable → AreBegun (lines_of c.entries) xs → Amid s v durable all (makes_work xs c)
makes-amid s v durable all [] c f k b = decides-amid s v durable all c f k
makes-amid s v durable all (a ∷ rest) c f k b = record { fits = f; here = (k, b); sees = tt }

-- it says that it began the attempt, which is recorded
started-amid : (s : Setting) (v : Place → Moments) (durable all : List Entry) (a : Attempt) (c : Command) → Fits s durable v c.job c.host c.origin c.amiss c.is_shown → IsFront c.entries durable → list_any (is_start_of a) (lines_of c.entries) ≡ true → Amid s v durable all (turns.over (outcome.Started a) c)
started-amid s v durable all a c f k b = record { fits = f; here = record { stands = λ x st about e. absurd (no-standing a st e); begun = λ x e. at x (same a x e) }; sees = tt }
  where
    no-standing : (x : Attempt) (st : Standing) → outcome.Started x ≡ outcome.Stands st → ⊥
    no-standing x st e = absurd (cc)

    same : (x y : Attempt) → outcome.Started x ≡ outcome.Started y → x ≡ y
    same x y e = cc

    at : (x : Attempt) → a ≡ x → Permits c.job durable (call.MakeWork x)
    at x e = let P : Attempt → Type 0 = λ y. list_any (is_start_of y) (lines_of c.entries) ≡ true in record { by = c.entries; front = k; allows = subst P e b }

begun-amid : (s : Setting) (v : Place → Moments) (durable all : List Entry) (o : Order) (a : Attempt) (c : Command) → Fits s durable v c.job c.host c.origin c.amiss c.is_shown → IsFront c.entries durable → list_any (is_start_of a) (lines_of c.entries) ≡ true → Amid s v durable all (has_begun o a c)
begun-amid s v durable all order.StartNext a c f k b = started-amid s v durable all a c f k b
begun-amid s v durable all (order.StartAt n) a c f k b = started-amid s v durable all a c f k b
begun-amid s v durable all (order.StartOver n) a c f k b = started-amid s v durable all a c f k b
begun-amid s v durable all _ a c f k b = decides-amid s v durable all c f k

made-amid : (s : Setting) (v : Place → Moments) (durable all : List Entry) (xs : List Attempt) (a : Attempt) (c : Command) → Fits s durable v c.job c.host c.origin c.amiss c.is_shown → IsFront c.entries durable → AreBegun (lines_of c.entries) (a ∷ xs) → Amid s v durable all (work_made xs a c)
made-amid s v durable all [] a c f k b = begun-amid s v durable all c.order a c f k b.0
made-amid s v durable all (x ∷ rest) a c f k b = makes-amid s v durable all (x ∷ rest) c f k b.1

pub on-work : (s : Setting) (v : Place → Moments) (durable all : List Entry) (r : Reply) (a : Attempt) (c : Command) → Fits s durable v c.job c.host c.origin c.amiss c.is_shown → IsFront c.entries durable → AreBegun (lines_of c.entries) (a ∷ c.begun) → Amid s v durable all (work_heard r a c)
on-work s v durable all Done a c f k b = made-amid s v durable all c.begun a c f k b
on-work s v durable all Taken a c f k b = made-amid s v durable all c.begun a c f k b
on-work s v durable all _ a c f k b = ends-so s v durable all c outcome.Failed refl f

-- the attempts that an entry begins are begun by the log that has it
begun-lines : (before lines after : List Line) → AreBegun (before ++ (lines ++ after)) (begun_by lines)
unfolding begun_by
begun-lines before [] after = tt
begun-lines before (l ∷ ls) after = by l (begun-lines (before ++ l ∷ []) ls after)
  where
    rest : (x : Line) → AreBegun ((before ++ x ∷ []) ++ (ls ++ after)) (begun_by ls) → AreBegun (before ++ (x ∷ (ls ++ after))) (begun_by ls)
    rest x h = let P : List Line → Type 0 = λ xs. AreBegun xs (begun_by ls) in subst P (append_assoc before (x ∷ []) (ls ++ after)) h

    any-right : (x y : Bool) → y ≡ true → (x || y) ≡ true
    any-right true y e = refl
    any-right false y e = e

    starts : (a : Attempt) (xs : List Line) → (same_attempt a a || list_any (is_start_of a) xs) ≡ true
    starts a xs = ap (λ b. b || list_any (is_start_of a) xs) (same_attempt-itself a)

    by : (x : Line) → AreBegun ((before ++ x ∷ []) ++ (ls ++ after)) (begun_by ls) → AreBegun (before ++ (x ∷ (ls ++ after))) (with_start x (begun_by ls))
    by (line.Started a) h =
        (list_any-append (is_start_of a) before (line.Started a ∷ (ls ++ after)) ∙ any-right (list_any (is_start_of a) before) (list_any (is_start_of a) (line.Started a ∷ (ls ++ after))) (starts a (ls ++ after)), rest (line.Started a) h)
    by (line.Won a x) h = rest (line.Won a x) h
    by (line.Failed a) h = rest (line.Failed a) h
    by (line.Interrupted a) h = rest (line.Interrupted a) h
    by line.Unsuccessful h = rest line.Unsuccessful h
    by line.Publish h = rest line.Publish h
    by line.Published h = rest line.Published h

pub begun-entry : (before more : List Entry) (e : Entry) → AreBegun (lines_of (before ++ e ∷ more)) (begun_by e.lines)
unfolding lines_of
begun-entry before more e = let P : List Line → Type 0 = λ xs. AreBegun xs (begun_by e.lines) in subst P (sym (lines-more before (e ∷ more))) (begun-lines (lines_of before) e.lines (lines_of more))

-- ---- handing in

on-claim : (s : Setting) (v : Place → Moments) (durable all : List Entry) (r : Reply) (a : Attempt) (c : Command) → Lands s v durable all c (claimed r a c)
on-claim s v durable all Done a c f k = record { fits = f; here = k; sees = tt }
on-claim s v durable all Taken a c f k = record { fits = f; here = k; sees = tt }
on-claim s v durable all Missing a c f k = finds-amid s v durable all c outcome.NoFile refl f k
on-claim s v durable all _ a c f k = finds-amid s v durable all c outcome.Failed refl f k

on-note : (s : Setting) (v : Place → Moments) (durable all : List Entry) (r : Reply) (a : Attempt) (c : Command) → Lands s v durable all c (note_heard r a c)
on-note s v durable all Done a c f k = record { fits = f; here = k; sees = tt }
on-note s v durable all Missing a c f k = finds-amid s v durable all c outcome.NoFile refl f k
on-note s v durable all Held a c f k = finds-amid s v durable all c outcome.StillSyncing refl f k
on-note s v durable all Dead a c f k = concludes-amid s v durable all c conclusion.Interrupted f k
on-note s v durable all _ a c f k = finds-amid s v durable all c outcome.Failed refl f k

on-not-listed : (s : Setting) (v : Place → Moments) (durable all : List Entry) (r : Reply) (a : Attempt) (c : Command) → Lands s v durable all c (not_listed r a c)
on-not-listed s v durable all Missing a c f k = drops-amid s v durable all c outcome.NoFile a refl f k
on-not-listed s v durable all Odd a c f k = drops-amid s v durable all c outcome.NotAFile a refl f k
on-not-listed s v durable all _ a c f k = drops-amid s v durable all c outcome.Failed a refl f k

checks : (s : Setting) (v : Place → Moments) (durable all : List Entry) (h : Option Handed) (items : List Item) (a : Attempt) (c : Command) → Lands s v durable all c (checked h items a c)
checks s v durable all (Some h) [] a c f k = drops-amid s v durable all c outcome.NoFile a refl f k
checks s v durable all (Some h) (i ∷ more) a c f k = record { fits = f; here = k; sees = tt }
checks s v durable all None [] a c f k = drops-amid s v durable all c outcome.NoFile a refl f k
checks s v durable all None (i ∷ more) a c f k = drops-amid s v durable all c outcome.NotAFile a refl f k

on-step-failed : (s : Setting) (v : Place → Moments) (durable all : List Entry) (xs : List Step) (a : Attempt) (c : Command) → Lands s v durable all c (step_failed xs a c)
on-step-failed s v durable all (step.SyncFile p ∷ rest) a c f k = concludes-amid s v durable all c conclusion.Failed f k
on-step-failed s v durable all _ a c f k = drops-amid s v durable all c outcome.Failed a refl f k

on-handed : (s : Setting) (v : Place → Moments) (durable all : List Entry) (xs : List Step) (a : Attempt) (c : Command) → Lands s v durable all c (handed_on xs a c)
on-handed s v durable all (x ∷ y ∷ rest) a c f k = record { fits = f; here = k; sees = tt }
on-handed s v durable all _ a c f k = record { fits = f; here = k; sees = tt }

on-handing : (s : Setting) (v : Place → Moments) (durable all : List Entry) (r : Reply) (a : Attempt) (c : Command) → Lands s v durable all c (handing_heard r a c)
on-handing s v durable all Done a c f k = on-handed s v durable all c.todo a c f k
on-handing s v durable all Missing a c f k = drops-amid s v durable all c outcome.NoFile a refl f k
on-handing s v durable all Grew a c f k = drops-amid s v durable all c outcome.StillWritten a refl f k
on-handing s v durable all Failed a c f k = on-step-failed s v durable all c.todo a c f k
on-handing s v durable all _ a c f k = drops-amid s v durable all c outcome.Failed a refl f k

on-dropped : (s : Setting) (v : Place → Moments) (durable all : List Entry) (x : Option Outcome) (a : Attempt) (c : Command) → Lands s v durable all c (after_drop x a c)
on-dropped s v durable all None a c f k = record { fits = f; here = k; sees = tt }
on-dropped s v durable all (Some o) a c f k = record { fits = f; here = k; sees = tt }

on-succeeded : (s : Setting) (v : Place → Moments) (durable all : List Entry) (h : Option Handed) (c : Command) → Lands s v durable all c (succeeds h c)
on-succeeded s v durable all (Some h) c f k = concludes-amid s v durable all c (conclusion.Succeeded h) f k
on-succeeded s v durable all None c f k = finds-amid s v durable all c outcome.NoFile refl f k

on-kept : (s : Setting) (v : Place → Moments) (durable all : List Entry) (r : Reply) (c : Command) → Lands s v durable all c (kept_synced r c)
on-kept s v durable all Done c f k = on-succeeded s v durable all (handed_in c.folders c.items) c f k
on-kept s v durable all _ c f k = finds-amid s v durable all c outcome.Failed refl f k

-- ---- publishing

abbrev pub rest_of : List Step → List Step
rest_of [] = []
rest_of (x ∷ xs) = xs

pub on-not-read : (s : Setting) (v : Place → Moments) (durable all : List Entry) (r : Reply) (w : Win) (c : Command) → LandsShown s v durable all c (not_read r w c)
on-not-read s v durable all Missing w c f k = finds-amid s v durable all c (outcome.Vanished w.attempt) refl f k.0
on-not-read s v durable all Odd w c f k = finds-amid s v durable all c (outcome.Vanished w.attempt) refl f k.0
on-not-read s v durable all _ w c f k = finds-amid s v durable all c outcome.Failed refl f k.0

on-linked : (s : Setting) (v : Place → Moments) (durable all : List Entry) (xs : List Step) (w : Win) (c : Command) → Fits s durable v c.job c.host c.origin c.amiss c.is_shown → IsShowing durable c
    → Publishing s durable v (w ∷ c.left) → Progress s v w (rest_of xs) → Amid s v durable all (linked_on xs w c)
on-linked s v durable all (x ∷ y ∷ rest) w c f k h g = record { fits = f; here = k; sees = (h, g) }
on-linked s v durable all (x ∷ []) w c f k h g = publishes-amid s v durable all c.left (record c { todo = [] }) f k (record { to_show = to-show-next s durable v w c.left (progress-done s v w g) h.to_show; wins = h.wins.1 })
on-linked s v durable all [] w c f k h g = publishes-amid s v durable all c.left (record c { todo = [] }) f k (record { to_show = to-show-next s durable v w c.left (progress-done s v w g) h.to_show; wins = h.wins.1 })

pub on-linking : (s : Setting) (v : Place → Moments) (durable all : List Entry) (r : Reply) (w : Win) (c : Command) → Fits s durable v c.job c.host c.origin c.amiss c.is_shown → IsShowing durable c
    → Publishing s durable v (w ∷ c.left) → Progress s v w c.todo → (r ≡ Done → Progress s v w (rest_of c.todo)) → Amid s v durable all (linking_heard r w c)
on-linking s v durable all Done w c f k h g n = on-linked s v durable all c.todo w c f k h (n refl)
on-linking s v durable all Taken w c f k h g n = record { fits = f; here = k; sees = (h, g) }
on-linking s v durable all Missing w c f k h g n = finds-amid s v durable all c (outcome.Vanished w.attempt) refl f k.0
on-linking s v durable all _ w c f k h g n = finds-amid s v durable all c outcome.Failed refl f k.0

on-compared : (s : Setting) (v : Place → Moments) (durable all : List Entry) (x : Node) (w : Win) (c : Command) → Fits s durable v c.job c.host c.origin c.amiss c.is_shown → IsShowing durable c
    → Publishing s durable v (w ∷ c.left) → (is_same c.todo x ≡ true → Progress s v w (rest_of c.todo)) → Amid s v durable all (compared x w c)
on-compared s v durable all x w c f k h n = by (is_same c.todo x) n
  where
    by : (b : Bool) → (b ≡ true → Progress s v w (rest_of c.todo)) → Amid s v durable all (cond b (linked_on c.todo w c) (finds (outcome.Foreign w.attempt) c))
    by true m = on-linked s v durable all c.todo w c f k h (m refl)
    by false m = finds-amid s v durable all c (outcome.Foreign w.attempt) refl f k.0

pub on-comparing : (s : Setting) (v : Place → Moments) (durable all : List Entry) (r : Reply) (w : Win) (c : Command) → Fits s durable v c.job c.host c.origin c.amiss c.is_shown → IsShowing durable c
    → Publishing s durable v (w ∷ c.left) → ((x : Node) → r ≡ Found x → is_same c.todo x ≡ true → Progress s v w (rest_of c.todo)) → Amid s v durable all (comparing_heard r w c)
on-comparing s v durable all (Found x) w c f k h n = on-compared s v durable all x w c f k h (n x refl)
on-comparing s v durable all Missing w c f k h n = finds-amid s v durable all c (outcome.Vanished w.attempt) refl f k.0
on-comparing s v durable all Odd w c f k h n = finds-amid s v durable all c (outcome.Foreign w.attempt) refl f k.0
on-comparing s v durable all _ w c f k h n = finds-amid s v durable all c outcome.Failed refl f k.0

-- where the marker's steps are then: some are left, or all is visible for good
abbrev pub MarkNext : Setting → List Entry → (Place → Moments) → List Step → Type 0
MarkNext s durable v rest = MarkAt s durable v rest ⊎ ((rest ≡ []) × IsShown s durable v)

no-step : (x : Step) (xs : List Step) → [] ≡ x ∷ xs → ⊥
no-step x xs e = absurd (cc)

-- what is next of no step
next-none : (s : Setting) (durable : List Entry) (v : Place → Moments) → MarkNext s durable v [] → IsShown s durable v
next-none s durable v (inl (inl x)) = absurd (no-step (step.SyncFolder folder.Output) marker_next x.0)
next-none s durable v (inl (inr (inl x))) = absurd (no-step step.LinkMarker marker_last x.0)
next-none s durable v (inl (inr (inr x))) = absurd (no-step (step.SyncFolder folder.Output) [] x.0)
next-none s durable v (inr x) = x.1

on-marked : (s : Setting) (v : Place → Moments) (durable all : List Entry) (xs : List Step) (c : Command) → Fits s durable v c.job c.host c.origin c.amiss c.is_shown → IsShowing durable c → MarkNext s durable v (rest_of xs)
    → Amid s v durable all (marked_on xs c)
on-marked s v durable all (x ∷ y ∷ rest) c f k (inl m) = record { fits = f; here = k; sees = m }
on-marked s v durable all (x ∷ y ∷ rest) c f k (inr e) = absurd (no-step y rest (sym e.0))
on-marked s v durable all (x ∷ []) c f k m = decides-amid s v durable all (record c { todo = []; is_shown = true }) (record { job = f.job; boot = f.boot; amiss = f.amiss; visible = λ e. next-none s durable v m }) k.0
on-marked s v durable all [] c f k m = decides-amid s v durable all (record c { todo = []; is_shown = true }) (record { job = f.job; boot = f.boot; amiss = f.amiss; visible = λ e. next-none s durable v m }) k.0

on-taken : (s : Setting) (v : Place → Moments) (durable all : List Entry) (xs : List Step) (c : Command) → Fits s durable v c.job c.host c.origin c.amiss c.is_shown → IsShowing durable c
    → ((rest : List Step) → xs ≡ step.LinkMarker ∷ rest → MarkNext s durable v rest) → Amid s v durable all (marker_taken xs c)
on-taken s v durable all (step.LinkMarker ∷ rest) c f k m = on-marked s v durable all (step.LinkMarker ∷ rest) c f k (m rest refl)
on-taken s v durable all _ c f k m = finds-amid s v durable all c outcome.Failed refl f k.0

pub on-marking : (s : Setting) (v : Place → Moments) (durable all : List Entry) (r : Reply) (c : Command) → Fits s durable v c.job c.host c.origin c.amiss c.is_shown → IsShowing durable c
    → (r ≡ Done → MarkNext s durable v (rest_of c.todo)) → (r ≡ Taken → (rest : List Step) → c.todo ≡ step.LinkMarker ∷ rest → MarkNext s durable v rest) → Amid s v durable all (marking_heard r c)
on-marking s v durable all Done c f k m t = on-marked s v durable all c.todo c f k (m refl)
on-marking s v durable all Taken c f k m t = on-taken s v durable all c.todo c f k (t refl)
on-marking s v durable all _ c f k m t = finds-amid s v durable all c outcome.Failed refl f k.0

pub on-forgetting : (s : Setting) (v : Place → Moments) (durable all : List Entry) (r : Reply) (c : Command) → Lands s v durable all c (turns.forgets r c)
on-forgetting s v durable all Done c f k = record { fits = f; here = k; sees = tt }
on-forgetting s v durable all Missing c f k = record { fits = f; here = k; sees = tt }
on-forgetting s v durable all _ c f k = ends-so s v durable all c outcome.Failed refl f

on-forgotten : (s : Setting) (v : Place → Moments) (durable all : List Entry) (r : Reply) (c : Command) → Lands s v durable all c (turns.forgotten r c)
on-forgotten s v durable all Done c f k = ends-so s v durable all c outcome.Finished refl f
on-forgotten s v durable all _ c f k = ends-so s v durable all c outcome.Failed refl f

-- ---- a word, of whoever knows a durable front

pub known-hears : (s : Setting) (v : Place → Moments) (durable all : List Entry) (c : Command) (p : Phase) → stage p ≡ Knows → (r : Reply) → Lands s v durable all c (hears p r c)
unfolding hears
known-hears s v durable all c Reading e r f k = ends-so s v durable all c outcome.Failed refl f
known-hears s v durable all c SyncingLog e r f k = absurd (cc)
known-hears s v durable all c Putting e r f k = absurd (cc)
known-hears s v durable all c SyncingPut e r f k = absurd (cc)
known-hears s v durable all c ReadingOn e r f k = ends-so s v durable all c outcome.NotKnown refl f
known-hears s v durable all c (MakingWork a) e r f k = absurd (cc)
known-hears s v durable all c (Claiming a) e r f k = on-claim s v durable all r a c f k
known-hears s v durable all c (TakingNote a) e r f k = on-note s v durable all r a c f k
known-hears s v durable all c (ListingKept a) e r f k = on-not-listed s v durable all r a c f k
known-hears s v durable all c (HandingIn a) e r f k = on-handing s v durable all r a c f k
known-hears s v durable all c (DroppingNote a) e r f k = on-dropped s v durable all c.amiss a c f k
known-hears s v durable all c (SyncingKept a) e r f k = on-kept s v durable all r c f k
known-hears s v durable all c (ReadingList w) e r f k = absurd (cc)
known-hears s v durable all c (Linking w) e r f k = absurd (cc)
known-hears s v durable all c (Comparing w) e r f k = absurd (cc)
known-hears s v durable all c Marking e r f k = absurd (cc)
known-hears s v durable all c (Emptying a o) e r f k = absurd (cc)
known-hears s v durable all c (EmptyingAll o) e r f k = absurd (cc)
known-hears s v durable all c Forgetting e r f k = absurd (cc)
known-hears s v durable all c SyncingForgotten e r f k = on-forgotten s v durable all r c f k
known-hears s v durable all c (Over o) e r f k = absurd (cc)

-- ---- entries, and lists

-- entries were read after those that are known
pub read-amid : (s : Setting) (v : Place → Moments) (durable all : List Entry) (c : Command) (es : List Entry) → Fits s durable v c.job c.host c.origin c.amiss c.is_shown → IsFront (c.entries ++ es) all → Amid s v durable all (knows es c)
read-amid s v durable all c es f k = record { fits = f; here = k; sees = tt }

pub read-on-amid : (s : Setting) (v : Place → Moments) (durable all : List Entry) (c : Command) (es : List Entry) → Fits s durable v c.job c.host c.origin c.amiss c.is_shown → IsFront (c.entries ++ es) all → Amid s v durable all (reads_on es c)
read-on-amid s v durable all c [] f k = read-amid s v durable all c [] f k
read-on-amid s v durable all c (e ∷ es) f k = by (same_origin e.origin c.origin)
  where
    by : (b : Bool) → Amid s v durable all (cond b (record c { entries = c.entries ++ e ∷ es; lines = e.lines; phase = SyncingPut }) (knows (e ∷ es) c))
    by true = record { fits = f; here = (k, begun-entry c.entries es e); sees = tt }
    by false = read-amid s v durable all c (e ∷ es) f k

pub on-listed : (s : Setting) (v : Place → Moments) (durable all : List Entry) (items : List Item) (a : Attempt) (c : Command) → Lands s v durable all c (checked (handed_in c.folders items) items a c)
on-listed s v durable all items a c f k = checks s v durable all (handed_in c.folders items) items a c f k
