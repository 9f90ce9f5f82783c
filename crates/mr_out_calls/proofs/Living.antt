-- A directory in which recorded commands were carried out is as a run of the model leaves it.
use Rattle.std.proofs.Common.{◌≡◌, ◌≢◌, ◌⊎◌, inl, inr, ℕ, List, [], ◌∷◌, ◌++◌, Option, Some, None, refl, sym, ap, subst, ◌∙◌}
use Rattle.mr_ids.specs.Attempt.{Attempt}
use Rattle.mr_out_disk.specs.declared.place.Place.TheVariants.{Work, Home}
use Rattle.mr_out_disk.specs.declared.call.Call.{Call}
use Rattle.mr_out_disk.specs.declared.answer.Answer.{Answer}
use Rattle.mr_out_disk.specs.Disk.{Disk, seen}
use Rattle.mr_out_disk.specs.Calls.{effect, IsHonest}
use Rattle.mr_out_steps.specs.declared.standing.Standing.{Standing}
use Rattle.mr_out_steps.specs.declared.order.Order.{Order}
use Rattle.mr_out_steps.specs.declared.order.Order.TheVariants as order
use Rattle.mr_out_steps.specs.declared.order.Outcome.{Outcome}
use Rattle.mr_out_steps.specs.declared.order.Outcome.TheVariants as outcome
use Rattle.mr_out_steps.specs.Commands.{Command, opening, next_call, outcome_in}
use Rattle.mr_out_steps.specs.Steps.{heard}
use Rattle.mr_out_model.specs.Worlds.{Setting, Telling, World, begun, telling, handed_by}
use Rattle.mr_out_model.specs.Runs as model
use Rattle.mr_out_model.specs.Runs.{Move, answered, answers, ended, ends_with, happens, MayAnswer, MayHear, May, after, IsRun}
use Rattle.mr_out_model.proofs.Keeping.{keeps}
use Rattle.mr_out_model.proofs.Holding.{heard-order}
use Rattle.mr_out_calls.specs.Recorded.{behind, AreCallsOf, EndsAs}
use Rattle.mr_out_calls.specs.Lives.{Deed, Writes, Names, done_by, MayDo, Happening, Answered, Meanwhile, recorded, left_by, AreHonest, Event, Carried, Killed, Others, Cut, disk_behind, told_behind, disk_after, told_after, first_of, IsCommand, IsReal, AreReal, KeepsPromises, RecordedDirectoriesKeepPromises}

-- ---- two runs, one behind the other

after-both : (s : Setting) (w : World) (xs ys : List Move) → after s w (xs ++ ys) ≡ after s (after s w xs) ys
unfolding after
after-both s w [] ys = refl
after-both s w (x ∷ xs) ys = after-both s (happens s w x) xs ys

run-both : (s : Setting) (w : World) (xs ys : List Move) → IsRun s w xs → IsRun s (after s w xs) ys → IsRun s w (xs ++ ys)
unfolding after IsRun
run-both s w [] ys p q = q
run-both s w (x ∷ xs) ys p q = (p.0, run-both s (happens s w x) xs ys p.1 q)

-- ---- what others do

abbrev move_of : Deed → Move
move_of (Writes file bytes) = model.Writes file bytes
move_of (Names a file) = model.Names a file

abbrev with_disk : World → Disk → World
with_disk w d = record w { disk = d }

others : (s : Setting) (w : World) (deed : Deed) → happens s w (move_of deed) ≡ with_disk w (done_by deed w.disk)
unfolding happens
others s w (Writes file bytes) = refl
others s w (Names a file) = refl

others-may : (s : Setting) (w : World) (deed : Deed) → MayDo s w.disk deed → May s w (move_of deed)
unfolding May
others-may s w (Writes file bytes) may = may
others-may s w (Names a file) may = may

-- ---- the calls of a command

abbrev moves_in : List Happening → List Move
moves_in [] = []
moves_in (Answered call answer ∷ rest) = model.Answers answer ∷ moves_in rest
moves_in (Meanwhile deed ∷ rest) = move_of deed ∷ moves_in rest

behind-order : (c : Command) (made : List (Call × Answer)) → (behind c made).order ≡ c.order
unfolding behind
behind-order c [] = refl
behind-order c (one ∷ rest) = behind-order (heard c one.1) rest ∙ heard-order c one.1

-- these moves leave a disk, and a command that has heard the answers
record Goes (s : Setting) (w : World) (moves : List Move) (d : Disk) (c : Command) : Type 0 where
  run : IsRun s w moves
  disk : (after s w moves).disk ≡ d
  running : (after s w moves).running ≡ Some c
  told : (after s w moves).told ≡ w.told

-- one move comes first, that leads to the world u
one-more : (s : Setting) (w u : World) (move : Move) (moves : List Move) (d : Disk) (c : Command)
    → May s w move → happens s w move ≡ u → u.told ≡ w.told → Goes s u moves d c → Goes s w (move ∷ moves) d c
unfolding after IsRun
one-more s w u move moves d c may is told g = record {
  run = (may, subst (λ v. IsRun s v moves) (sym is) g.run);
  disk = ap (λ v. (after s v moves).disk) is ∙ g.disk;
  running = ap (λ v. (after s v moves).running) is ∙ g.running;
  told = ap (λ v. (after s v moves).told) is ∙ g.told ∙ told;
}

answers-to : (s : Setting) (w : World) (c : Command) (call : Call) (answer : Answer) → w.running ≡ Some c → next_call c ≡ Some call → happens s w (model.Answers answer) ≡ answered w c (Some call) answer
unfolding happens
answers-to s w c call answer runs is = ap (λ r. answers w r answer) runs ∙ ap (λ x. answered w c x answer) is

may-answer : (s : Setting) (w : World) (c : Command) (call : Call) (answer : Answer) → w.running ≡ Some c → next_call c ≡ Some call → IsHonest w.disk call answer → May s w (model.Answers answer)
unfolding May
may-answer s w c call answer runs is honest =
    let heard_so : MayHear w (Some c) answer = subst (λ x. MayAnswer w x answer) (sym is) honest in
    subst (λ r. MayHear w r answer) (sym runs) heard_so

spell : (s : Setting) (w : World) (c : Command) (happened : List Happening) → w.running ≡ Some c → AreCallsOf c (recorded happened) → AreHonest s w.disk happened
    → Goes s w (moves_in happened) (left_by w.disk happened) (behind c (recorded happened))
unfolding recorded left_by AreHonest AreCallsOf behind after IsRun
spell s w c [] runs calls honest = record { run = tt; disk = refl; running = runs; told = refl }
spell s w c (Answered call answer ∷ rest) runs calls honest =
    let u : World = answered w c (Some call) answer in
    one-more s w u (model.Answers answer) (moves_in rest) (left_by (effect w.disk call answer) rest) (behind (heard c answer) (recorded rest))
    (may-answer s w c call answer runs calls.0 honest.0) (answers-to s w c call answer runs calls.0) refl
    (spell s u (heard c answer) rest refl calls.1 honest.1)
spell s w c (Meanwhile deed ∷ rest) runs calls honest =
    let u : World = with_disk w (done_by deed w.disk) in
    one-more s w u (move_of deed) (moves_in rest) (left_by (done_by deed w.disk) rest) (behind c (recorded rest))
    (others-may s w deed honest.0) (others s w deed) refl
    (spell s u c rest runs calls honest.1)

-- ---- an event

-- these moves leave a disk and what was told, and nobody holds the lock
record Leaves (s : Setting) (w : World) (d : Disk) (told : List Telling) : Type 0 where
  moves : List Move
  run : IsRun s w moves
  disk : (after s w moves).disk ≡ d
  told_so : (after s w moves).told ≡ told
  idle : (after s w moves).running ≡ None

abbrev with_command : World → Command → World
with_command w c = record w { running = Some c }

-- a command that begins, and what happens then
session : (s : Setting) (w : World) (o : Order) (happened : List Happening) → w.running ≡ None → IsCommand s w.disk o happened
    → Goes s w (model.Starts o ∷ moves_in happened) (left_by w.disk happened) (behind (first_of s o) (recorded happened))
unfolding happens May
session s w o happened idle it =
    one-more s w (with_command w (first_of s o)) (model.Starts o) (moves_in happened) (left_by w.disk happened) (behind (first_of s o) (recorded happened))
    (idle, it.there) refl refl
    (spell s (with_command w (first_of s o)) (first_of s o) happened refl it.calls it.honest)

-- its end: it was killed, or gave up
stopped : (s : Setting) (w : World) (o : Order) (happened : List Happening) → w.running ≡ None → IsCommand s w.disk o happened → Leaves s w (left_by w.disk happened) w.told
unfolding happens May after IsRun
stopped s w o happened idle it =
    let g = session s w o happened idle it in
    let moves : List Move = model.Starts o ∷ moves_in happened in
    let both = after-both s w moves (model.Stops ∷ []) in
    record {
      moves = moves ++ model.Stops ∷ [];
      run = run-both s w moves (model.Stops ∷ []) g.run (tt, tt);
      disk = ap (λ v. v.disk) both ∙ g.disk;
      told_so = ap (λ v. v.told) both ∙ g.told;
      idle = ap (λ v. v.running) both;
    }

-- a world in which a command has ended so
record Ended (s : Setting) (w : World) (o : Order) (end : Outcome) : Type 0 where
  last : Command
  runs : w.running ≡ Some last
  asked : last.order ≡ o
  so : outcome_in last.phase ≡ Some end

tells-end : (s : Setting) (w : World) (o : Order) (end : Outcome) → Ended s w o end → happens s w model.Ends ≡ record w { running = None; told = telling o end ++ w.told }
unfolding happens
tells-end s w o end e =
    ap (λ r. ends_with w r) e.runs ∙ ap (λ x. ended w e.last x) e.so ∙ ap (λ p. record w { running = None; told = telling p end ++ w.told }) e.asked

finished : (s : Setting) (w : World) (o : Order) (happened : List Happening) (end : Outcome) → w.running ≡ None → IsCommand s w.disk o happened
    → outcome_in (behind (first_of s o) (recorded happened)).phase ≡ Some end → Leaves s w (left_by w.disk happened) (telling o end ++ w.told)
unfolding May after IsRun
finished s w o happened end idle it so =
    let g = session s w o happened idle it in
    let moves : List Move = model.Starts o ∷ moves_in happened in
    let u = after s w moves in
    let e : Ended s u o end = record { last = behind (first_of s o) (recorded happened); runs = g.running; asked = behind-order (first_of s o) (recorded happened); so = so } in
    let both = after-both s w moves (model.Ends ∷ []) ∙ tells-end s u o end e in
    record {
      moves = moves ++ model.Ends ∷ [];
      run = run-both s w moves (model.Ends ∷ []) g.run (tt, tt);
      disk = ap (λ v. v.disk) both ∙ g.disk;
      told_so = ap (λ v. v.told) both ∙ ap (λ t. telling o end ++ t) g.told;
      idle = ap (λ v. v.running) both;
    }

-- a command that gave up tells nothing
untold-memory : (o : Order) → telling o outcome.NoMemory ≡ []
untold-memory (order.Done a) = refl
untold-memory _ = refl

untold-failed : (o : Order) → telling o outcome.Failed ≡ []
untold-failed (order.Done a) = refl
untold-failed _ = refl

quiet : (s : Setting) (w : World) (o : Order) (end : Outcome) (d : Disk) → telling o end ≡ [] → Leaves s w d w.told → Leaves s w d (telling o end ++ w.told)
quiet s w o end d is l = record { moves = l.moves; run = l.run; disk = l.disk; told_so = l.told_so ∙ ap (λ t. t ++ w.told) (sym is); idle = l.idle }

untold : (o : Order) (e end : Outcome) → telling o e ≡ [] → end ≡ e → telling o end ≡ []
untold o e end none is = ap (λ x. telling o x) is ∙ none

carried : (s : Setting) (w : World) (o : Order) (happened : List Happening) (end : Outcome) → w.running ≡ None → IsCommand s w.disk o happened
    → EndsAs (first_of s o) (recorded happened) end → Leaves s w (left_by w.disk happened) (telling o end ++ w.told)
carried s w o happened end idle it (inl so) = finished s w o happened end idle it so
carried s w o happened end idle it (inr (inl none)) = quiet s w o end (left_by w.disk happened) (untold o outcome.NoMemory end (untold-memory o) none) (stopped s w o happened idle it)
carried s w o happened end idle it (inr (inr long)) = quiet s w o end (left_by w.disk happened) (untold o outcome.Failed end (untold-failed o) long.0) (stopped s w o happened idle it)

event : (s : Setting) (w : World) (e : Event) → w.running ≡ None → IsReal s w.disk e → Leaves s w (disk_behind w.disk e) (told_behind w.told e)
unfolding happens May after IsRun
event s w (Carried o happened end) idle it = carried s w o happened end idle it.0 it.1
event s w (Killed o happened) idle it = stopped s w o happened idle it
event s w (Others deed) idle it = record {
  moves = move_of deed ∷ [];
  run = (others-may s w deed it, tt);
  disk = ap (λ v. v.disk) (others s w deed);
  told_so = ap (λ v. v.told) (others s w deed);
  idle = ap (λ v. v.running) (others s w deed) ∙ idle;
}
event s w (Cut left) idle it = record { moves = model.Cuts left ∷ []; run = (it, tt); disk = refl; told_so = refl; idle = refl }

-- ---- a life

then : (s : Setting) (w : World) (d d' : Disk) (told told' : List Telling) → (first : Leaves s w d told) → Leaves s (after s w first.moves) d' told' → Leaves s w d' told'
then s w d d' told told' first rest =
    let both = after-both s w first.moves rest.moves in
    record {
      moves = first.moves ++ rest.moves;
      run = run-both s w first.moves rest.moves first.run rest.run;
      disk = ap (λ v. v.disk) both ∙ rest.disk;
      told_so = ap (λ v. v.told) both ∙ rest.told_so;
      idle = ap (λ v. v.running) both ∙ rest.idle;
    }

-- a world with this disk, in which this was told, and nobody holds the lock
life : (s : Setting) (w : World) (d : Disk) (told : List Telling) (events : List Event) → w.disk ≡ d → w.told ≡ told → w.running ≡ None → AreReal s d events
    → Leaves s w (disk_after d events) (told_after told events)
unfolding disk_after told_after AreReal after IsRun
life s w d told [] disk told_so idle real = record { moves = []; run = tt; disk = disk; told_so = told_so; idle = idle }
life s w d told (e ∷ events) disk told_so idle real =
    let first = event s w e idle (subst (λ x. IsReal s x e) (sym disk) real.0) in
    let u = after s w first.moves in
    let rest = life s u (disk_behind d e) (told_behind told e) events (first.disk ∙ ap (λ x. disk_behind x e) disk) (first.told_so ∙ ap (λ x. told_behind x e) told_so) first.idle real.1 in
    then s w (disk_behind w.disk e) (disk_after (disk_behind d e) events) (told_behind w.told e) (told_after (told_behind told e) events) first rest

pub keeps_promises : RecordedDirectoriesKeepPromises
keeps_promises s bytes events more real later =
    let first = life s (begun bytes) (begun bytes).disk [] events refl refl refl real in
    let w = after s (begun bytes) first.moves in
    let rest = life s w (disk_after (begun bytes).disk events) (told_after [] events) more first.disk first.told_so first.idle later in
    record {
      world = w;
      disk = first.disk;
      told_is = first.told_so;
      later_world = after s w rest.moves;
      later_disk = rest.disk;
      later_told = rest.told_so;
      promises = keeps s bytes first.moves rest.moves first.run rest.run;
    }
