-- Under hold nothing is visible where no command is told to publish.
use Rattle.std.proofs.Common.{◌≡◌, ◌≢◌, ℕ, Bool, true, false, cond, List, [], ◌∷◌, ◌++◌, Option, Some, None, refl, sym, ap, subst, ◌∙◌}
use Rattle.mr_ids.specs.Attempt.{Attempt}
use Rattle.mr_history.specs.declared.record.Record.{Record}
use Rattle.mr_history.specs.declared.record.Record.TheVariants.{AttemptStarted, MapSucceeded, ReduceSucceeded, AttemptFailed, JobUnsuccessful}
use Rattle.mr_out_disk.specs.declared.place.Place.{Place}
use Rattle.mr_out_disk.specs.declared.place.Place.TheVariants.{Part, Marker, Kept, Work, Decision}
use Rattle.mr_out_disk.specs.declared.call.Call.{Call}
use Rattle.mr_out_disk.specs.declared.answer.Answer.{Answer}
use Rattle.mr_out_disk.specs.declared.answer.Answer.TheVariants.{Says, Told, Listed}
use Rattle.mr_out_disk.specs.declared.answer.Reply.{Reply}
use Rattle.mr_out_disk.specs.declared.answer.Reply.TheVariants.{Done, Missing, Taken, Found, Odd, Grew, Failed}
use Rattle.mr_out_disk.specs.Disk.{Disk, seen, file_synced}
use Rattle.mr_out_disk.specs.Calls.{effect}
use Rattle.mr_out_steps.specs.declared.order.Order.{Order}
use Rattle.mr_out_steps.specs.declared.order.Order.TheVariants as order
use Rattle.mr_out_steps.specs.declared.order.Outcome.{Outcome}
use Rattle.mr_out_steps.specs.declared.phase.Phase.{Phase}
use Rattle.mr_out_steps.specs.declared.phase.Phase.TheVariants.{Deciding, SyncingDecision, SyncingFile, Appending, FindingMarker, Forgetting}
use Rattle.mr_out_steps.specs.declared.phase.Turn.{Turn}
use Rattle.mr_out_steps.specs.declared.phase.Turn.TheVariants.{Goes, Begins, Notes, Holds, LinksNext, EmptiesNext}
use Rattle.mr_out_steps.specs.Standing.{is_over, winners}
use Rattle.mr_out_steps.specs.Commands.{Command, call_in, outcome_in, next_call}
use Rattle.mr_out_steps.specs.Steps.{turn, goes, acts, begins, begins_with, own_work, is_to_end, publishes, lists, ends, holds, follows, noted, links, ends_or, empties, reads, listed, fails_now, is_reading, is_listing, heard}
use Rattle.mr_out_model.specs.Worlds.{Setting, World, begun}
use Rattle.mr_out_model.specs.Runs.{Move, Starts, Answers, Ends, Stops, Writes, Names, Cuts, answered, ended, answers, ends_with, happens, May, after, IsRun}
use Rattle.mr_out_model.specs.Promises.{IsPublication, NobodyPublishes, IsVisible, HeldJobsWait}
use Rattle.mr_out_model.proofs.Moments.{Every, every-left, every-settled}
use Rattle.mr_out_model.proofs.Invariant as inv
use Rattle.mr_out_model.proofs.Invariant.{view, IsThere, At, AmidAny}
use Rattle.mr_out_model.proofs.Moving.{moves-on}
use Rattle.mr_out_model.proofs.Keeping.{released-at, is-there, begun-holds}

-- ---- a command keeps its order

publishes-order : (c : Command) → (publishes c).order ≡ c.order
unfolding publishes
publishes-order c = by (is_over c.records) (winners c.job c.records c.tasks)
  where
    by : (b : Bool) (o : Option (List Attempt)) → (cond b (ends c) (lists o c)).order ≡ c.order
    by true o = refl
    by false None = refl
    by false (Some ws) = refl

begins-order : (c : Command) → (begins c).order ≡ c.order
begins-order c = by (is_to_end c) (own_work c.order c)
  where
    by : (b : Bool) (o : Option Phase) → (cond b (goes (Appending JobUnsuccessful) c) (begins_with o c)).order ≡ c.order
    by true o = refl
    by false None = publishes-order c
    by false (Some p) = refl

holds-order : (c : Command) (o : Order) → (holds o c).order ≡ c.order
holds-order c order.Abort = refl
holds-order c _ = refl

follows-order : (c : Command) (r : Record) → (follows r (noted r c)).order ≡ c.order
follows-order c (AttemptFailed a) = refl
follows-order c (AttemptStarted a node) = refl
follows-order c (MapSucceeded a node incarnation) = publishes-order (noted (MapSucceeded a node incarnation) c)
follows-order c (ReduceSucceeded a bytes) = publishes-order (noted (ReduceSucceeded a bytes) c)
follows-order c JobUnsuccessful = publishes-order (noted JobUnsuccessful c)

links-order : (c : Command) (left : List Attempt) → (links left c).order ≡ c.order
links-order c [] = refl
links-order c (a ∷ rest) = refl

or-order : (c : Command) (p : Phase) (o : Order) → (ends_or p o c).order ≡ c.order
or-order c p order.Forget = refl
or-order c p _ = refl

empties-order : (c : Command) (kept : List Attempt) → (empties kept c).order ≡ c.order
empties-order c [] = or-order c Forgetting c.order
empties-order c (a ∷ rest) = refl

acts-order : (c : Command) (t : Turn) → (acts t c).order ≡ c.order
acts-order c (Goes p) = refl
acts-order c Begins = begins-order c
acts-order c (Notes r) = follows-order c r
acts-order c Holds = holds-order c c.order
acts-order c LinksNext = links-order c c.left
acts-order c EmptiesNext = empties-order c c.kept

pub heard-order : (c : Command) (answer : Answer) → (heard c answer).order ≡ c.order
heard-order c (Says reply) = acts-order c (turn c.phase reply)
heard-order c (Told rs) = by (is_reading c.phase)
  where
    by : (b : Bool) → (cond b (reads rs c) (fails_now c)).order ≡ c.order
    by true = refl
    by false = refl
heard-order c (Listed attempts) = by (is_listing c.phase) attempts
  where
    by : (b : Bool) (xs : List Attempt) → (cond b (listed xs c) (fails_now c)).order ≡ c.order
    by true [] = or-order c FindingMarker c.order
    by true (a ∷ rest) = links-order (record c { kept = a ∷ rest }) c.left
    by false xs = refl

-- ---- nobody decides

abbrev IsNone : Option ℕ → Type 0
IsNone x = x ≡ None

abbrev Undecided : Disk → Type 0
Undecided d = Every IsNone (d.moments Decision)

abbrev NoPublisher : Option Command → Type 0
NoPublisher None = Unit {0}
NoPublisher (Some c) = c.order ≡ order.Publish → ⊥

record Unasked (w : World) : Type 0 where
  pub none : Undecided w.disk
  pub order : NoPublisher w.running

-- a call that was made decides nothing but where that is its phase
done : (w : World) (c : Command) (p : Phase) → Undecided w.disk → (p ≡ Deciding → ⊥) → Undecided (answered w (goes p c) (call_in p) (Says Done)).disk
done w c Deciding e never = absurd (never refl)
done w c SyncingDecision e never = every-settled IsNone (w.disk.moments Decision) e
done w c (SyncingFile a) e never = by (seen w.disk (Kept a))
  where
    by : (o : Option ℕ) → Undecided (file_synced o w.disk)
    by None = e
    by (Some f) = e
done w c _ e never = e

-- one that was not made changes nothing
unmade : (w : World) (c : Command) (o : Option Call) (answer : Answer) → ((d : Disk) (call : Call) → effect d call answer ≡ d) → Undecided w.disk → Undecided (answered w c o answer).disk
unmade w c None answer same e = e
unmade w c (Some call) answer same e = let P : Disk → Type 0 = λ d. Undecided d in subst P (sym (same w.disk call)) e

undecided : (w : World) (c : Command) (p : Phase) → Undecided w.disk → (p ≡ Deciding → ⊥) → (answer : Answer) → Undecided (answered w (goes p c) (call_in p) answer).disk
undecided w c p e never (Says Done) = done w c p e never
undecided w c p e never (Says Missing) = unmade w (goes p c) (call_in p) (Says Missing) (λ d call. refl) e
undecided w c p e never (Says Taken) = unmade w (goes p c) (call_in p) (Says Taken) (λ d call. refl) e
undecided w c p e never (Says (Found f)) = unmade w (goes p c) (call_in p) (Says (Found f)) (λ d call. refl) e
undecided w c p e never (Says Odd) = unmade w (goes p c) (call_in p) (Says Odd) (λ d call. refl) e
undecided w c p e never (Says Grew) = unmade w (goes p c) (call_in p) (Says Grew) (λ d call. refl) e
undecided w c p e never (Says Failed) = unmade w (goes p c) (call_in p) (Says Failed) (λ d call. refl) e
undecided w c p e never (Told rs) = unmade w (goes p c) (call_in p) (Told rs) (λ d call. refl) e
undecided w c p e never (Listed attempts) = unmade w (goes p c) (call_in p) (Listed attempts) (λ d call. refl) e

-- who decides was told to publish
not-deciding : (s : Setting) (w : World) (c : Command) → inv.Amid s (view w.disk) w.handed c → (c.order ≡ order.Publish → ⊥) → c.phase ≡ Deciding → ⊥
not-deciding s w c m never is = let P : Phase → Type 0 = λ p. At s (view w.disk) w.handed c p in never (subst P is m.here).2

still-asked : (w : World) (c : Command) (o : Option Call) (answer : Answer) → NoPublisher w.running → (c.order ≡ order.Publish → ⊥) → NoPublisher (answered w c o answer).running
still-asked w c None answer was never = was
still-asked w c (Some call) answer was never = λ e. never (sym (heard-order c answer) ∙ e)

on-answer : (s : Setting) (w : World) (r : Option Command) (answer : Answer) → Unasked w → AmidAny s (view w.disk) w.handed r → NoPublisher r → Unasked (answers w r answer)
on-answer s w None answer u m never = u
on-answer s w (Some c) answer u m never = record { none = undecided w c c.phase u.none (not-deciding s w c m never) answer; order = still-asked w c (next_call c) answer u.order never }

on-end : (w : World) (r : Option Command) → Unasked w → Unasked (ends_with w r)
on-end w None u = u
on-end w (Some c) u = by (outcome_in c.phase)
  where
    by : (o : Option Outcome) → Unasked (ended w c o)
    by None = u
    by (Some end) = record { none = u.none; order = tt }

unasked-on : (s : Setting) (w : World) (move : Move) → inv.Holds s w → May s w move → Unasked w → (IsPublication move → ⊥) → Unasked (happens s w move)
unfolding happens May
unasked-on s w (Starts o) h m u never = record { none = u.none; order = never }
unasked-on s w (Answers answer) h m u never = on-answer s w w.running answer u h.amid u.order
unasked-on s w Ends h m u never = on-end w w.running u
unasked-on s w Stops h m u never = record { none = u.none; order = tt }
unasked-on s w (Writes file bytes) h m u never = record { none = u.none; order = u.order }
unasked-on s w (Names a file) h m u never = record { none = u.none; order = u.order }
unasked-on s w (Cuts left) h m u never = record { none = every-left IsNone (w.disk.moments Decision) (left.moments Decision) (m.names Decision) u.none; order = tt }

record Waiting (s : Setting) (w : World) : Type 0 where
  pub holds : inv.Holds s w
  pub unasked : Unasked w

waits-on : (s : Setting) (moves : List Move) (w : World) → Waiting s w → IsRun s w moves → NobodyPublishes moves → Waiting s (after s w moves)
unfolding after IsRun NobodyPublishes
waits-on s [] w x r n = x
waits-on s (move ∷ moves) w x r n = waits-on s moves (happens s w move) (record { holds = (moves-on s w move x.holds r.0).holds; unasked = unasked-on s w move x.holds r.0 x.unasked n.0 }) r.1 n.1

some-none : (f : ℕ) → Some f ≡ None → ⊥
some-none f e = absurd (cc)

nothing-seen : (s : Setting) (w : World) → s.hold ≡ true → Waiting s w → (p : Place) → IsVisible p → seen w.disk p ≡ None
nothing-seen s w h x p out = by (seen w.disk p) refl
  where
    by : (o : Option ℕ) → seen w.disk p ≡ o → seen w.disk p ≡ None
    by None e = e
    by (Some f) e = absurd (is-there (seen w.disk Decision) (released-at s w x.holds p out (λ n. some-none f (sym e ∙ n)) h).0 x.unasked.none.0)

pub waits : HeldJobsWait
waits s bytes moves h r n p out =
    let w = after s (begun bytes) moves in
    nothing-seen s w h (waits-on s moves (begun bytes) (record { holds = begun-holds s bytes; unasked = record { none = (refl, tt); order = tt } }) r n) p out
