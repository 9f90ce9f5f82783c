-- The same of the phases in which a job is published.
use Rattle.std.proofs.Common.{◌≡◌, ◌≢◌, ◌⊎◌, inl, inr, ◌<◌, ◌==◌, ℕ, Bool, true, false, cond, List, [], ◌∷◌, ◌++◌, Option, Some, None, refl, sym, ap, subst, ◌∙◌, append-nil}
use Rattle.std.proofs.lemmas.Bool.{eqb-true, eq-eqb}
use Rattle.mr_ids.specs.Attempt.{Attempt}
use Rattle.mr_ids.specs.Same.{same_attempt}
use Rattle.mr_ids.specs.declared.id.TaskId.{TaskId}
use Rattle.mr_history.specs.declared.record.Record.{Record}
use Rattle.mr_history.specs.declared.record.Record.TheVariants.{AttemptStarted, MapSucceeded, ReduceSucceeded, AttemptFailed, JobUnsuccessful}
use Rattle.mr_history.specs.Winner.{winner_in}
use Rattle.mr_history.proofs.Winners.{winner-of}
use Rattle.mr_out_disk.specs.declared.place.Place.TheVariants.{Part, Marker, Kept, Work, Decision, Home}
use Rattle.mr_out_disk.specs.declared.place.Folder.TheVariants as folder
use Rattle.mr_out_disk.specs.declared.call.Call.{Call}
use Rattle.mr_out_disk.specs.declared.call.Call.TheVariants as call
use Rattle.mr_out_disk.specs.declared.answer.Answer.{Answer}
use Rattle.mr_out_disk.specs.declared.answer.Answer.TheVariants.{Says, Told, Listed}
use Rattle.mr_out_disk.specs.declared.answer.Reply.{Reply}
use Rattle.mr_out_disk.specs.declared.answer.Reply.TheVariants.{Done, Missing, Taken, Found, Odd, Grew, Failed}
use Rattle.mr_out_disk.specs.Disk.{Moments, Disk, records, seen, moved, settled, named, folder_synced, file_synced}
use Rattle.mr_out_disk.specs.Calls.{made, effect, CanMake, MaySay, IsHonest}
use Rattle.mr_out_disk.specs.Cuts.{IsFront}
use Rattle.mr_out_steps.specs.declared.order.Order.{Order}
use Rattle.mr_out_steps.specs.declared.order.Order.TheVariants as order
use Rattle.mr_out_steps.specs.declared.order.Outcome.{Outcome}
use Rattle.mr_out_steps.specs.declared.order.Outcome.TheVariants as outcome
use Rattle.mr_out_steps.specs.declared.phase.Phase.{Phase}
use Rattle.mr_out_steps.specs.declared.phase.Phase.TheVariants.{Reading, SyncingEnd, FindingClaim, FindingWork, Claiming, SyncingFile, SyncingClaim, Appending, Committing, DroppingClaim, DroppingWork, FindingDecision, Deciding, SyncingDecision, Listing, FindingKept, Linking, Comparing, SyncingParts, Marking, SyncingMarker, Emptying, FindingMarker, Forgetting, SyncingForgotten, Over}
use Rattle.mr_out_steps.specs.declared.phase.Turn.TheVariants.{Goes, LinksNext}
use Rattle.mr_out_steps.specs.Standing.{task_of}
use Rattle.mr_out_steps.specs.Commands.{Command, call_in}
use Rattle.mr_out_steps.specs.Steps.{turn, acts, compared, goes, begins, holds, follows, noted, links, ends_or, empties, ends, reads, listed, fails_now, is_reading, is_listing}
use Rattle.mr_out_model.specs.Worlds.{Setting, World, handed_by}
use Rattle.mr_out_model.specs.Runs.{IsWriters}
use Rattle.mr_out_model.proofs.Moments.{Every, EveryOf, every-if, every-moved, every-settled}
use Rattle.mr_out_model.proofs.Standings.{IsOpen}
use Rattle.mr_out_model.proofs.Invariant as inv
use Rattle.mr_out_model.proofs.Invariant.{View, view, all_records, IsFile, IsThere, IfThere, IsGone, Wins, PartOf, IsPart, Shown, Stand, IsStored, File, OfJob, Core, Known, Held, Durable, Opens, MayAppend, Fate, IsAmong, AreWinners, Seen, ToLink, At, Amid, IsReleased, FinishedOf}
use Rattle.mr_out_model.proofs.Records.{some-one, none-some, no-winner, one-winner, wins-own, none-all, appended_too, synced_too, core-success, core-plain, core-sync, told-success, told-plain, told-sync, stand-grows, stand-handed, handed-other, another, failure-plain, start-plain, map-plain, end-plain}
use Rattle.mr_out_model.proofs.Names.{core-output, core-kept, core-whole, core-claim, core-empty, core-link, core-mark, core-decide, core-home, core-forget, output_synced, stand-output, not-yet, kept_named, part_named, marker_named}
use Rattle.mr_out_model.proofs.Turns.{ends-amid, holds-amid, links-amid, or-amid, empties-amid, begins-amid, follows-amid}
use Rattle.mr_out_model.proofs.Answering.{Grows, Before, Behind, front-itself, same, stays, fail, After, itself}

there-now : (x : Option ℕ) → (x ≡ None → ⊥) → IsThere x
there-now None no-way = no-way refl
there-now (Some f) no-way = tt

-- ---- the decision

pub on-finding-decision : (s : Setting) (w : World) (c : Command) → Before s w c → At s (view w.disk) w.handed c FindingDecision → (reply : Reply) → MaySay w.disk (call.Look Decision) reply → After s w c FindingDecision (call.Look Decision) reply
unfolding turn
on-finding-decision s w c b at (Found f) m = stays s w c SyncingDecision b (at.0, at.1, subst IsThere (sym m) tt)
on-finding-decision s w c b at Missing m = same s w c (holds c.order c) b (holds-amid s (view w.disk) w.handed c c.order b.fits at.0)
on-finding-decision s w c b at _ m = fail s w c b

pub on-deciding : (s : Setting) (w : World) (c : Command) → Before s w c → At s (view w.disk) w.handed c Deciding → (reply : Reply) → MaySay w.disk (call.Create Decision) reply → After s w c Deciding (call.Create Decision) reply
unfolding turn
on-deciding s w c b at Done m = record {
  core = core-decide s (view w.disk) w.handed 0 b.core;
  work = b.work;
  told = b.told;
  amid = record { fits = b.fits; here = (at.0, at.1, tt) };
  grows = record { front = front-itself w.disk.synced; stand = λ st. st; handed = λ x y. refl; bytes = λ x g y z. refl; decision = λ e. every-moved IsThere (w.disk.moments Decision) (Some 0) tt e; marker = λ e. e; home = λ e. e };
}
on-deciding s w c b at Taken m = stays s w c SyncingDecision b (at.0, at.1, there-now (seen w.disk Decision) m)
on-deciding s w c b at _ m = fail s w c b

pub on-syncing-decision : (s : Setting) (w : World) (c : Command) → Before s w c → At s (view w.disk) w.handed c SyncingDecision → (reply : Reply) → After s w c SyncingDecision (call.SyncFolder folder.Home) reply
unfolding turn
on-syncing-decision s w c b at Done = record {
  core = core-home s (view w.disk) w.handed b.core;
  work = b.work;
  told = b.told;
  amid = record { fits = b.fits; here = (at.0, at.1, λ held. (at.2, tt)) };
  grows = record { front = front-itself w.disk.synced; stand = λ st. st; handed = λ x y. refl; bytes = λ x g y z. refl; decision = λ e. every-settled IsThere (w.disk.moments Decision) e; marker = λ e. e; home = λ e. e };
}
on-syncing-decision s w c b at _ = fail s w c b

-- ---- the winners' files

pub on-finding-kept : (s : Setting) (w : World) (c : Command) (a : Attempt) → Before s w c → At s (view w.disk) w.handed c (FindingKept a) → (reply : Reply) → MaySay w.disk (call.Look (Kept a)) reply → After s w c (FindingKept a) (call.Look (Kept a)) reply
unfolding turn
on-finding-kept s w c a b at (Found f) m = stays s w c (Linking a f) b (at.0, at.1, m, at.2)
on-finding-kept s w c a b at Missing m = stays s w c (Comparing a None) b at
on-finding-kept s w c a b at _ m = fail s w c b

-- ---- a winner's file gets its visible name

-- the first of those that are to be linked is a winner, of a task of the job
first-wins : (s : Setting) (v : View) (h : Attempt → Option ℕ) (a : Attempt) (left : List Attempt) → Core s v h → v.appended ≡ [] → ToLink s v.synced v.part h (a ∷ left) → OfJob s a
first-wins s v h a left core none l = core.of_job a (ap (λ (rs : List Record). winner_in rs a.task) (none-all v none) ∙ l.are.0)

-- the kept file of a winner that is not visible yet is what it handed in
handed-in : (s : Setting) (v : View) (h : Attempt → Option ℕ) (a : Attempt) (f : ℕ) → Core s v h → v.appended ≡ [] → Wins v.synced a → (v.kept a).now ≡ Some f → (v.part a.task.number).now ≡ None → h a ≡ Some f
handed-in s v h a f core none w now free =
    let x = core.files a (ap (λ (rs : List Record). winner_in rs a.task) (none-all v none) ∙ w) in
    x.handed ∙ ap (λ n. Some n) (by x.file x.stored)
  where
    by : (g : ℕ) → IsStored g (v.kept a) (v.part a.task.number) v.marker → g ≡ f
    by g (inl e) = some-one g f (sym e.0 ∙ now)
    by g (inr p) = absurd (none-some (v.part a.task.number).now g free p.0.0)

-- one winner's file more is visible
linked-one : (s : Setting) (synced : List Record) (part : ℕ → Moments) (h : Attempt → Option ℕ) (a : Attempt) (f : ℕ) (left : List Attempt) → (part a.task.number).now ≡ None → h a ≡ Some f → ToLink s synced part h (a ∷ left)
    → ToLink s synced (λ m. cond (a.task.number == m) (moved (Some f) (part m)) (part m)) h left
linked-one s synced part h a f left free handed l = record { all = l.all; each = λ b w. by b (l.each b w); are = l.are.1 }
  where
    now : (b : Attempt) (g : ℕ) → (part b.task.number).now ≡ Some g → (m : Bool) → (a.task.number == b.task.number) ≡ m → (cond m (moved (Some f) (part b.task.number)) (part b.task.number)).now ≡ Some g
    now b g e true is = absurd (none-some (part b.task.number).now g (ap (λ n. (part n).now) (sym (eqb-true _ _ is)) ∙ free) e)
    now b g e false is = e

    own : (b : Attempt) → a ≡ b → Seen (λ m. cond (a.task.number == m) (moved (Some f) (part m)) (part m)) h b
    own b e =
        let P : Attempt → Type 0 = λ x. Seen (λ m. cond (a.task.number == m) (moved (Some f) (part m)) (part m)) h x in
        subst P e (record { file = f; handed = handed; now = ap (λ x. (cond x (moved (Some f) (part a.task.number)) (part a.task.number)).now) (itself a.task.number) })

    by : (b : Attempt) → IsAmong b (a ∷ left) ⊎ Seen part h b → IsAmong b left ⊎ Seen (λ m. cond (a.task.number == m) (moved (Some f) (part m)) (part m)) h b
    by b (inl (inl e)) = inr (own b e)
    by b (inl (inr i)) = inl i
    by b (inr x) = inr (record { file = x.file; handed = x.handed; now = now b x.file x.now (a.task.number == b.task.number) refl })

pub on-linking : (s : Setting) (w : World) (c : Command) (a : Attempt) (f : ℕ) → Before s w c → At s (view w.disk) w.handed c (Linking a f) → (reply : Reply) → MaySay w.disk (call.Link (Kept a) (Part a.task.number)) reply
    → After s w c (Linking a f) (call.Link (Kept a) (Part a.task.number)) reply
unfolding turn
on-linking s w c a f b at Done m =
    let P : Option ℕ → Type 0 = λ o. Behind s w (named (Part a.task.number) o w.disk) w.handed (links c.left c) in
    subst P (sym at.2) linked
  where
    wins : Wins w.disk.synced a
    wins = at.1.are.0

    own : OfJob s a
    own = first-wins s (view w.disk) w.handed a c.left b.core at.0.none at.1

    handed : w.handed a ≡ Some f
    handed = handed-in s (view w.disk) w.handed a f b.core at.0.none wins at.2 m.1

    linked : Behind s w (named (Part a.task.number) (Some f) w.disk) w.handed (links c.left c)
    linked = record {
      core = core-link s (view w.disk) w.handed a f b.core wins own handed m.1 at.3;
      work = b.work;
      told = b.told;
      amid = links-amid s (part_named a.task.number (Some f) (view w.disk)) w.handed c c.left b.fits at.0 (linked-one s w.disk.synced (view w.disk).part w.handed a f c.left m.1 handed at.1) at.3;
      grows = record { front = front-itself w.disk.synced; stand = λ st. absurd (not-yet s w.disk.synced (view w.disk).part w.handed a wins m.1 st); handed = λ x y. refl; bytes = λ x g y z. refl; decision = λ e. e; marker = λ e. e; home = λ e. e };
    }
on-linking s w c a f b at Taken m = stays s w c (Comparing a (Some f)) b (at.0, at.1, at.3)
on-linking s w c a f b at _ m = fail s w c b

-- ---- the visible name was there

-- what is visible of a winner's task is its file
seen-own : (s : Setting) (v : View) (h : Attempt → Option ℕ) (a : Attempt) (g : ℕ) → Core s v h → Wins v.synced a → OfJob s a → (v.part a.task.number).now ≡ Some g → h a ≡ Some g
seen-own s v h a g core w own now =
    let P : Option ℕ → Type 0 = λ x. IsPart s v.synced h a.task.number x in
    by (subst P now (core.parts a.task.number).0)
  where
    by : PartOf s v.synced h a.task.number g → h a ≡ Some g
    by p =
        let same : p.winner ≡ a = one-winner v.synced a.task p.winner a (ap (λ (t : TaskId). winner_in v.synced t) own.task ∙ p.recorded) w in
        ap h (sym same) ∙ p.handed

compared-one : (s : Setting) (synced : List Record) (part : ℕ → Moments) (h : Attempt → Option ℕ) (a : Attempt) (g : ℕ) (left : List Attempt) → h a ≡ Some g → (part a.task.number).now ≡ Some g → ToLink s synced part h (a ∷ left) → ToLink s synced part h left
compared-one s synced part h a g left handed now l = record { all = l.all; each = λ b w. by b (l.each b w); are = l.are.1 }
  where
    by : (b : Attempt) → IsAmong b (a ∷ left) ⊎ Seen part h b → IsAmong b left ⊎ Seen part h b
    by b (inl (inl e)) = let P : Attempt → Type 0 = λ x. Seen part h x in inr (subst P e (record { file = g; handed = handed; now = now }))
    by b (inl (inr i)) = inl i
    by b (inr x) = inr x

pub on-comparing : (s : Setting) (w : World) (c : Command) (a : Attempt) (file : Option ℕ) → Before s w c → At s (view w.disk) w.handed c (Comparing a file) → (reply : Reply) → MaySay w.disk (call.Look (Part a.task.number)) reply
    → After s w c (Comparing a file) (call.Look (Part a.task.number)) reply
unfolding turn
on-comparing s w c a file b at (Found g) m = by file
  where
    handed : w.handed a ≡ Some g
    handed = seen-own s (view w.disk) w.handed a g b.core at.1.are.0 (first-wins s (view w.disk) w.handed a c.left b.core at.0.none at.1) m

    next : Behind s w w.disk w.handed (links c.left c)
    next = same s w c (links c.left c) b (links-amid s (view w.disk) w.handed c c.left b.fits at.0 (compared-one s w.disk.synced (view w.disk).part w.handed a g c.left handed m at.1) at.2)

    test : (x : Bool) → Behind s w w.disk w.handed (acts (cond x LinksNext (Goes (Over (outcome.Foreign a)))) c)
    test true = next
    test false = stays s w c (Over (outcome.Foreign a)) b tt

    by : (o : Option ℕ) → Behind s w w.disk w.handed (acts (compared a o g) c)
    by None = next
    by (Some f) = test (g == f)
on-comparing s w c a file b at Missing m = stays s w c (Over (outcome.Vanished a)) b tt
on-comparing s w c a file b at Odd m = stays s w c (Over (outcome.Foreign a)) b tt
on-comparing s w c a file b at _ m = fail s w c b

-- ---- the marker

standing-now : (s : Setting) (synced : List Record) (part : ℕ → Moments) (h : Attempt → Option ℕ) → ToLink s synced part h [] → Stand s synced (λ n. settled (part n)) h
standing-now s synced part h l = record { all = l.all; each = λ a w. by a (l.each a w) }
  where
    by : (a : Attempt) → IsAmong a [] ⊎ Seen part h a → Shown (λ n. settled (part n)) h a
    by a (inl i) = absurd i
    by a (inr x) = record { file = x.file; handed = x.handed; every = (x.now, tt) }

pub on-syncing-parts : (s : Setting) (w : World) (c : Command) → Before s w c → At s (view w.disk) w.handed c SyncingParts → (reply : Reply) → After s w c SyncingParts (call.SyncFolder folder.Output) reply
unfolding turn
on-syncing-parts s w c b at Done = record {
  core = core-output s (view w.disk) w.handed b.core;
  work = b.work;
  told = b.told;
  amid = record { fits = b.fits; here = (at.0, standing-now s w.disk.synced (view w.disk).part w.handed at.1, at.2) };
  grows = record { front = front-itself w.disk.synced; stand = stand-output s (view w.disk) w.handed; handed = λ x y. refl; bytes = λ x g y z. refl; decision = λ e. e; marker = every-settled IsThere (w.disk.moments Marker); home = every-settled IsGone (w.disk.moments Home) };
}
on-syncing-parts s w c b at _ = fail s w c b

pub on-marking : (s : Setting) (w : World) (c : Command) → Before s w c → At s (view w.disk) w.handed c Marking → (reply : Reply) → MaySay w.disk (call.Create Marker) reply → After s w c Marking (call.Create Marker) reply
unfolding turn
on-marking s w c b at Done m = record {
  core = core-mark s (view w.disk) w.handed 0 b.core at.1 at.2;
  work = b.work;
  told = b.told;
  amid = record { fits = b.fits; here = (at.0, at.1, tt) };
  grows = record { front = front-itself w.disk.synced; stand = λ st. st; handed = λ x y. refl; bytes = λ x g y z. refl; decision = λ e. e; marker = every-moved IsThere (w.disk.moments Marker) (Some 0) tt; home = λ e. e };
}
on-marking s w c b at Taken m = stays s w c SyncingMarker b (at.0, at.1, there-now (seen w.disk Marker) m)
on-marking s w c b at _ m = fail s w c b

pub on-syncing-marker : (s : Setting) (w : World) (c : Command) → Before s w c → At s (view w.disk) w.handed c SyncingMarker → (reply : Reply) → After s w c SyncingMarker (call.SyncFolder folder.Output) reply
unfolding turn
on-syncing-marker s w c b at Done = record {
  core = core-output s (view w.disk) w.handed b.core;
  work = b.work;
  told = b.told;
  amid = empties-amid s (output_synced (view w.disk)) w.handed c c.kept b.fits at.0 (stand-output s (view w.disk) w.handed at.1) (at.2, tt);
  grows = record { front = front-itself w.disk.synced; stand = stand-output s (view w.disk) w.handed; handed = λ x y. refl; bytes = λ x g y z. refl; decision = λ e. e; marker = every-settled IsThere (w.disk.moments Marker); home = every-settled IsGone (w.disk.moments Home) };
}
on-syncing-marker s w c b at _ = fail s w c b

pub on-emptying : (s : Setting) (w : World) (c : Command) (a : Attempt) → Before s w c → At s (view w.disk) w.handed c (Emptying a) → (reply : Reply) → After s w c (Emptying a) (call.Remove (Kept a)) reply
unfolding turn
on-emptying s w c a b at Done = record {
  core = core-empty s (view w.disk) w.handed a b.core at.0.none at.1 at.2;
  work = b.work;
  told = b.told;
  amid = empties-amid s (kept_named a None (view w.disk)) w.handed c c.kept b.fits at.0 at.1 at.2;
  grows = record { front = front-itself w.disk.synced; stand = λ st. st; handed = λ x y. refl; bytes = λ x g y z. refl; decision = λ e. e; marker = λ e. e; home = λ e. e };
}
on-emptying s w c a b at Missing = same s w c (empties c.kept c) b (empties-amid s (view w.disk) w.handed c c.kept b.fits at.0 at.1 at.2)
on-emptying s w c a b at _ = fail s w c b

-- ---- the history is forgotten

pub on-finding-marker : (s : Setting) (w : World) (c : Command) → Before s w c → At s (view w.disk) w.handed c FindingMarker → (reply : Reply) → MaySay w.disk (call.Look Marker) reply → After s w c FindingMarker (call.Look Marker) reply
unfolding turn
on-finding-marker s w c b at (Found f) m =
    let P : Option ℕ → Type 0 = λ x. IfThere (Stand s w.disk.synced (view w.disk).part w.handed) x in
    stays s w c SyncingMarker b (at, subst P m b.core.marker.0, subst IsThere (sym m) tt)
on-finding-marker s w c b at Missing m = stays s w c (Over outcome.Unpublished) b tt
on-finding-marker s w c b at Odd m = stays s w c (Over outcome.Unpublished) b tt
on-finding-marker s w c b at _ m = fail s w c b

pub on-forgetting : (s : Setting) (w : World) (c : Command) → Before s w c → At s (view w.disk) w.handed c Forgetting → (reply : Reply) → After s w c Forgetting (call.Remove Home) reply
unfolding turn
on-forgetting s w c b at Done = record {
  core = core-forget s (view w.disk) w.handed b.core at.1 at.2;
  work = b.work;
  told = b.told;
  amid = record { fits = b.fits; here = refl };
  grows = record { front = front-itself w.disk.synced; stand = λ st. st; handed = λ x y. refl; bytes = λ x g y z. refl; decision = λ e. e; marker = λ e. e; home = every-moved IsGone (w.disk.moments Home) None refl };
}
on-forgetting s w c b at _ = fail s w c b

finished : (o : Order) (home : Moments) → Every IsGone home → FinishedOf home o
finished order.Forget home e = e
finished _ home e = tt

pub on-syncing-forgotten : (s : Setting) (w : World) (c : Command) → Before s w c → At s (view w.disk) w.handed c SyncingForgotten → (reply : Reply) → After s w c SyncingForgotten (call.SyncFolder folder.Output) reply
unfolding turn
on-syncing-forgotten s w c b at Done = record {
  core = core-output s (view w.disk) w.handed b.core;
  work = b.work;
  told = b.told;
  amid = record { fits = b.fits; here = finished c.order (settled (w.disk.moments Home)) (at, tt) };
  grows = record { front = front-itself w.disk.synced; stand = stand-output s (view w.disk) w.handed; handed = λ x y. refl; bytes = λ x g y z. refl; decision = λ e. e; marker = every-settled IsThere (w.disk.moments Marker); home = every-settled IsGone (w.disk.moments Home) };
}
on-syncing-forgotten s w c b at _ = fail s w c b

-- ---- lists

pub on-listing : (s : Setting) (w : World) (c : Command) (attempts : List Attempt) → Before s w c → At s (view w.disk) w.handed c Listing → Behind s w w.disk w.handed (listed attempts c)
on-listing s w c [] b at = same s w c (ends_or FindingMarker c.order c) b (or-amid s (view w.disk) w.handed c FindingMarker c.order b.fits at.0 at.0)
on-listing s w c (a ∷ rest) b at =
    let e : Command = record c { kept = a ∷ rest } in
    same s w c (links c.left e) b (links-amid s (view w.disk) w.handed e c.left b.fits at.0 at.1 at.2)

pub on-reading : (s : Setting) (w : World) (c : Command) (rs : List Record) → Before s w c → rs ≡ records w.disk → Behind s w w.disk w.handed (reads rs c)
on-reading s w c rs b e = same s w c (reads rs c) b (record { fits = b.fits; here = e })
