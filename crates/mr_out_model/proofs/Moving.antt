-- Each move keeps the invariant, and what was there.
use Rattle.std.proofs.Common.{◌≡◌, ◌≢◌, ◌⊎◌, inl, inr, ◌<◌, ◌==◌, ℕ, Bool, true, false, cond, List, [], ◌∷◌, ◌++◌, Option, Some, None, refl, sym, ap, subst, ◌∙◌}
use Rattle.std.proofs.lemmas.Bool.{eqb-true}
use Rattle.mr_ids.specs.Attempt.{Attempt}
use Rattle.mr_ids.specs.Same.{same_attempt}
use Rattle.mr_ids.proofs.Same.{same_attempt-is}
use Rattle.mr_history.specs.declared.record.Record.{Record}
use Rattle.mr_history.specs.declared.record.Record.TheVariants.{AttemptStarted, MapSucceeded, ReduceSucceeded, AttemptFailed, JobUnsuccessful}
use Rattle.mr_history.specs.Winner.{winner_in}
use Rattle.mr_out_disk.specs.declared.place.Place.TheVariants.{Part, Marker, Kept, Work, Decision, Home}
use Rattle.mr_out_disk.specs.declared.call.Call.{Call}
use Rattle.mr_out_disk.specs.declared.call.Call.TheVariants as call
use Rattle.mr_out_disk.specs.declared.answer.Answer.{Answer}
use Rattle.mr_out_disk.specs.declared.answer.Answer.TheVariants.{Says, Told, Listed}
use Rattle.mr_out_disk.specs.declared.answer.Reply.{Reply}
use Rattle.mr_out_disk.specs.declared.answer.Reply.TheVariants.{Done}
use Rattle.mr_out_disk.specs.Disk.{Moments, Disk, records, moved, named}
use Rattle.mr_out_disk.specs.Calls.{effect, IsHonest}
use Rattle.mr_out_disk.specs.Cuts.{IsFront, IsCut}
use Rattle.mr_out_steps.specs.declared.standing.Standing.{Standing}
use Rattle.mr_out_steps.specs.declared.standing.Standing.TheVariants.{Won, Beaten, GivenUp, JobOver}
use Rattle.mr_out_steps.specs.declared.order.Order.{Order}
use Rattle.mr_out_steps.specs.declared.order.Order.TheVariants as order
use Rattle.mr_out_steps.specs.declared.order.Outcome.{Outcome}
use Rattle.mr_out_steps.specs.declared.order.Outcome.TheVariants as outcome
use Rattle.mr_out_steps.specs.declared.phase.Phase.{Phase}
use Rattle.mr_out_steps.specs.declared.phase.Phase.TheVariants.{Reading, SyncingEnd, FindingClaim, FindingWork, Claiming, SyncingFile, SyncingClaim, Appending, Committing, DroppingClaim, DroppingWork, FindingDecision, Deciding, SyncingDecision, Listing, FindingKept, Linking, Comparing, SyncingParts, Marking, SyncingMarker, Emptying, FindingMarker, Forgetting, SyncingForgotten, MakingFolder, Over}
use Rattle.mr_out_steps.specs.Standing.{standing}
use Rattle.mr_out_steps.specs.Commands.{Command, call_in, outcome_in, opening}
use Rattle.mr_out_steps.specs.Steps.{goes, heard, turn}
use Rattle.mr_out_model.specs.Worlds.{Setting, Telling, World, handed_by, telling, IsClaimed}
use Rattle.mr_out_model.specs.Runs.{Move, Starts, Answers, Ends, Stops, Writes, Names, Cuts, answered, ended, answers, ends_with, written, happens, MayAnswer, MayHear, IsWriters, May}
use Rattle.mr_out_model.specs.Promises.{HasTold, HasToldLoss}
use Rattle.mr_out_model.proofs.Moments.{Every, every-if, every-moved, every-left}
use Rattle.mr_out_model.proofs.Standings.{has-won, has-lost, IsLost, HasLost}
use Rattle.mr_out_model.proofs.Invariant as inv
use Rattle.mr_out_model.proofs.Invariant.{View, view, all_records, IsFile, IsThere, IsGone, Wins, Stand, File, Core, Lost, Known, Held, Durable, MayAppend, Ending, At, Amid, AmidAny, Holds}
use Rattle.mr_out_model.proofs.Records.{none-all, some-one, wins-more}
use Rattle.mr_out_model.proofs.Cutting.{cut-view, core-cut, told-cut, stand-left, core-written, no_longer_whole, claimed, still-whole}
use Rattle.mr_out_model.proofs.Answering.{Grows, Before, Behind, same-grows, fail, on-syncing-end, on-finding-claim, on-finding-work, on-claiming, on-syncing-file, on-syncing-claim, on-appending, on-committing, on-dropping-claim, on-dropping-work, on-making-folder}
use Rattle.mr_out_model.proofs.Publishing.{on-finding-decision, on-deciding, on-syncing-decision, on-finding-kept, on-linking, on-comparing, on-syncing-parts, on-marking, on-syncing-marker, on-emptying, on-finding-marker, on-forgetting, on-syncing-forgotten, on-listing, on-reading}

pub record Onward (s : Setting) (w u : World) : Type 0 where
  pub holds : Holds s u
  pub grows : Grows s w u.disk u.handed
  pub told : (a : Attempt) (st : Standing) → HasTold w.told a st → HasTold u.told a st

-- ---- an answer

abbrev with_answer : World → Disk → (Attempt → Option ℕ) → Command → World
with_answer w d k c = record { disk = d; running = Some c; handed = k; told = w.told }

onward : (s : Setting) (w : World) (d : Disk) (k : Attempt → Option ℕ) (c : Command) → Behind s w d k c → Onward s w (with_answer w d k c)
onward s w d k c b = record { holds = record { core = b.core; work = b.work; told = b.told; amid = b.amid }; grows = b.grows; told = λ a st t. t }

-- a word where a list or the records were asked for
read-word : (s : Setting) (w : World) (c : Command) → Before s w c → (reply : Reply) → Behind s w (effect w.disk call.ReadHistory (Says reply)) (handed_by call.ReadHistory (Says reply) w) (goes (Over outcome.Failed) c)
read-word s w c b Done = fail s w c b
read-word s w c b _ = fail s w c b

list-word : (s : Setting) (w : World) (c : Command) → Before s w c → (reply : Reply) → Behind s w (effect w.disk call.ListKept (Says reply)) (handed_by call.ListKept (Says reply) w) (goes (Over outcome.Failed) c)
list-word s w c b Done = fail s w c b
list-word s w c b _ = fail s w c b

says : (s : Setting) (w : World) (c : Command) (p : Phase) → Before s w (goes p c) → At s (view w.disk) w.handed (goes p c) p → (reply : Reply) → MayAnswer w (call_in p) (Says reply) → Onward s w (answered w (goes p c) (call_in p) (Says reply))
unfolding turn
says s w c Reading b at reply m = onward s w _ _ _ (read-word s w (goes Reading c) b reply)
says s w c SyncingEnd b at reply m = onward s w _ _ _ (on-syncing-end s w (goes SyncingEnd c) b at reply m)
says s w c (FindingClaim a) b at reply m = onward s w _ _ _ (on-finding-claim s w (goes (FindingClaim a) c) a b at reply)
says s w c (FindingWork a) b at reply m = onward s w _ _ _ (on-finding-work s w (goes (FindingWork a) c) a b at reply)
says s w c (Claiming a) b at reply m = onward s w _ _ _ (on-claiming s w (goes (Claiming a) c) a b at reply)
says s w c (SyncingFile a) b at reply m = onward s w _ _ _ (on-syncing-file s w (goes (SyncingFile a) c) a b at reply m)
says s w c (SyncingClaim a) b at reply m = onward s w _ _ _ (on-syncing-claim s w (goes (SyncingClaim a) c) a b at reply)
says s w c (Appending r) b at reply m = onward s w _ _ _ (on-appending s w (goes (Appending r) c) r b at reply)
says s w c (Committing r) b at reply m = onward s w _ _ _ (on-committing s w (goes (Committing r) c) r b at reply)
says s w c (DroppingClaim a) b at reply m = onward s w _ _ _ (on-dropping-claim s w (goes (DroppingClaim a) c) a b at reply)
says s w c (DroppingWork a) b at reply m = onward s w _ _ _ (on-dropping-work s w (goes (DroppingWork a) c) a b at reply)
says s w c FindingDecision b at reply m = onward s w _ _ _ (on-finding-decision s w (goes FindingDecision c) b at reply m)
says s w c Deciding b at reply m = onward s w _ _ _ (on-deciding s w (goes Deciding c) b at reply m)
says s w c SyncingDecision b at reply m = onward s w _ _ _ (on-syncing-decision s w (goes SyncingDecision c) b at reply)
says s w c Listing b at reply m = onward s w _ _ _ (list-word s w (goes Listing c) b reply)
says s w c (FindingKept a) b at reply m = onward s w _ _ _ (on-finding-kept s w (goes (FindingKept a) c) a b at reply m)
says s w c (Linking a f) b at reply m = onward s w _ _ _ (on-linking s w (goes (Linking a f) c) a f b at reply m)
says s w c (Comparing a f) b at reply m = onward s w _ _ _ (on-comparing s w (goes (Comparing a f) c) a f b at reply m)
says s w c SyncingParts b at reply m = onward s w _ _ _ (on-syncing-parts s w (goes SyncingParts c) b at reply)
says s w c Marking b at reply m = onward s w _ _ _ (on-marking s w (goes Marking c) b at reply m)
says s w c SyncingMarker b at reply m = onward s w _ _ _ (on-syncing-marker s w (goes SyncingMarker c) b at reply)
says s w c (Emptying a) b at reply m = onward s w _ _ _ (on-emptying s w (goes (Emptying a) c) a b at reply)
says s w c FindingMarker b at reply m = onward s w _ _ _ (on-finding-marker s w (goes FindingMarker c) b at reply m)
says s w c Forgetting b at reply m = onward s w _ _ _ (on-forgetting s w (goes Forgetting c) b at reply)
says s w c SyncingForgotten b at reply m = onward s w _ _ _ (on-syncing-forgotten s w (goes SyncingForgotten c) b at reply)
says s w c (MakingFolder a) b at reply m = onward s w _ _ _ (on-making-folder s w (goes (MakingFolder a) c) a b reply)
says s w c (Over o) b at reply m = absurd m

tells : (s : Setting) (w : World) (c : Command) (p : Phase) → Before s w (goes p c) → At s (view w.disk) w.handed (goes p c) p → (rs : List Record) → MayAnswer w (call_in p) (Told rs) → Onward s w (answered w (goes p c) (call_in p) (Told rs))
tells s w c Reading b at rs m = onward s w _ _ _ (on-reading s w (goes Reading c) rs b m)
tells s w c _ b at rs m = absurd m

lists-kept : (s : Setting) (w : World) (c : Command) (p : Phase) → Before s w (goes p c) → At s (view w.disk) w.handed (goes p c) p → (attempts : List Attempt) → MayAnswer w (call_in p) (Listed attempts) → Onward s w (answered w (goes p c) (call_in p) (Listed attempts))
lists-kept s w c Listing b at attempts m = onward s w _ _ _ (on-listing s w (goes Listing c) attempts b at)
lists-kept s w c _ b at attempts m = absurd m

answers-on : (s : Setting) (w : World) (c : Command) (p : Phase) → Before s w (goes p c) → At s (view w.disk) w.handed (goes p c) p → (answer : Answer) → MayAnswer w (call_in p) answer → Onward s w (answered w (goes p c) (call_in p) answer)
answers-on s w c p b at (Says reply) m = says s w c p b at reply m
answers-on s w c p b at (Told rs) m = tells s w c p b at rs m
answers-on s w c p b at (Listed attempts) m = lists-kept s w c p b at attempts m

before : (s : Setting) (w : World) (c : Command) → Holds s w → Amid s (view w.disk) w.handed c → Before s w c
before s w c h m = record { core = h.core; work = h.work; told = h.told; fits = m.fits }

any-answer : (s : Setting) (w : World) (r : Option Command) → Holds s w → AmidAny s (view w.disk) w.handed r → (answer : Answer) → MayHear w r answer → Onward s w (answers w r answer)
any-answer s w None h m answer may = absurd may
any-answer s w (Some c) h m answer may = answers-on s w c c.phase (before s w c h m) m.here answer may

-- ---- an end

unchanged : (s : Setting) (w : World) → Holds s w → Onward s w w
unchanged s w h = record { holds = h; grows = same-grows s w; told = λ a st t. t }

-- the command is gone, and told this
gone : (s : Setting) (w : World) (ts : List Telling) → Holds s w → inv.Told w.disk.synced (records w.disk) (ts ++ w.told) → ((a : Attempt) (st : Standing) → HasTold w.told a st → HasTold (ts ++ w.told) a st) → Onward s w (record w { running = None; told = ts ++ w.told })
gone s w ts h t more = record { holds = record { core = h.core; work = h.work; told = t; amid = tt }; grows = same-grows s w; told = more }

tell-one : (s : Setting) (w : World) (a : Attempt) (st : Standing) → Holds s w → (w.disk.appended ≡ []) → standing s.job s.tasks w.disk.synced a ≡ st → Onward s w (record w { running = None; told = record { attempt = a; standing = st } ∷ w.told })
tell-one s w a st h none is = gone s w (record { attempt = a; standing = st } ∷ []) h (record { won = won; lost = lost }) (λ b u t. inr t)
  where
    won : (b : Attempt) → HasTold (record { attempt = a; standing = st } ∷ w.told) b Won → Wins w.disk.synced b
    won b (inl e) = let P : Attempt → Type 0 = λ x. Wins w.disk.synced x in subst P e.0 (has-won s.job s.tasks w.disk.synced a (is ∙ e.1))
    won b (inr t) = h.told.won b t

    lost-now : (b : Attempt) (u : Standing) → IsLost u → a ≡ b → st ≡ u → Lost w.disk.synced (records w.disk) b
    lost-now b u l e f =
        let P : Attempt → Type 0 = λ x. Lost w.disk.synced (records w.disk) x in
        let x = has-lost s.job s.tasks w.disk.synced a u (is ∙ f) l in
        subst P e (record { why = x.why; never = λ v. x.never (ap (λ (rs : List Record). winner_in rs a.task) (sym (none-all (view w.disk) none)) ∙ v) })

    lost : (b : Attempt) → HasToldLoss (record { attempt = a; standing = st } ∷ w.told) b → Lost w.disk.synced (records w.disk) b
    lost b (inl (inl e)) = lost-now b Beaten tt e.0 e.1
    lost b (inl (inr t)) = h.told.lost b (inl t)
    lost b (inr (inl (inl e))) = lost-now b GivenUp tt e.0 e.1
    lost b (inr (inl (inr t))) = h.told.lost b (inr (inl t))
    lost b (inr (inr (inl e))) = lost-now b JobOver tt e.0 e.1
    lost b (inr (inr (inr t))) = h.told.lost b (inr (inr t))

tell-none : (s : Setting) (w : World) → Holds s w → Onward s w (record w { running = None; told = w.told })
tell-none s w h = gone s w [] h h.told (λ a st t. t)

ends-so : (s : Setting) (w : World) (o : Order) (end : Outcome) → Holds s w → Ending s (view w.disk) o end → Onward s w (record w { running = None; told = telling o end ++ w.told })
ends-so s w (order.Done a) (outcome.Stands st) h e = tell-one s w a st h e.0 e.1
ends-so s w (order.Done a) _ h e = tell-none s w h
ends-so s w (order.Fail a) (outcome.Stands st) h e = tell-one s w a st h e.0 e.1
ends-so s w (order.Fail a) _ h e = tell-none s w h
ends-so s w (order.Ask a) (outcome.Stands st) h e = tell-one s w a st h e.0 e.1
ends-so s w (order.Ask a) _ h e = tell-none s w h
ends-so s w order.Resume _ h e = tell-none s w h
ends-so s w order.Abort _ h e = tell-none s w h
ends-so s w order.Publish _ h e = tell-none s w h
ends-so s w order.Forget _ h e = tell-none s w h
ends-so s w order.StartNext _ h e = tell-none s w h
ends-so s w (order.StartAt n) _ h e = tell-none s w h
ends-so s w (order.StartOver n) _ h e = tell-none s w h

end-at : (s : Setting) (w : World) (c : Command) (p : Phase) → Holds s w → At s (view w.disk) w.handed c p → Onward s w (ended w c (outcome_in p))
end-at s w c (Over o) h at = ends-so s w c.order o h at
end-at s w c _ h at = unchanged s w h

any-end : (s : Setting) (w : World) (r : Option Command) → Holds s w → AmidAny s (view w.disk) w.handed r → Onward s w (ends_with w r)
any-end s w None h m = unchanged s w h
any-end s w (Some c) h m = end-at s w c c.phase h m.here

-- ---- what others do

-- a file that was handed in is claimed
held-claimed : (s : Setting) (d : Disk) (h : Attempt → Option ℕ) (a : Attempt) (f : ℕ) → Core s (view d) h → (d.moments (Kept a)).now ≡ Some f → IsClaimed s d f
held-claimed s d h a f core now =
    let P : Option ℕ → Type 0 = λ x. IsWriters s a x in
    let writer : s.writer f ≡ a = subst P now (core.kept a).0 in
    inl (ap (λ (b : Attempt). (d.moments (Kept b)).now) writer ∙ now)

whole-kept : (s : Setting) (d : Disk) (h : Attempt → Option ℕ) (a : Attempt) (f file : ℕ) → Core s (view d) h → (IsClaimed s d file → ⊥) → (d.moments (Kept a)).now ≡ Some f → d.is_whole f ≡ true → (written file 0 d).is_whole f ≡ true
whole-kept s d h a f file core free now is =
    let P : ℕ → Type 0 = λ x. IsClaimed s d x in
    still-whole (f == file) (d.is_whole f) (λ e. free (subst P (eqb-true _ _ e) (held-claimed s d h a f core now))) is

at-written : (s : Setting) (d : Disk) (h : Attempt → Option ℕ) (c : Command) (file bytes : ℕ) (p : Phase) → Core s (view d) h → (IsClaimed s d file → ⊥) → At s (view d) h c p → At s (view (written file bytes d)) h c p
at-written s d h c file bytes (SyncingClaim a) core free at = (at.0, at.1, record { file = at.2.file; now = at.2.now; is_whole = whole-kept s d h a at.2.file file core free at.2.now at.2.is_whole })
at-written s d h c file bytes (Appending r) core free at = (at.0, by r at.1)
  where
    by : (q : Record) → MayAppend s (view d) q → MayAppend s (view (written file bytes d)) q
    by (ReduceSucceeded a b) m = (m.0, record { file = m.1.file; every = m.1.every; is_whole = whole-kept s d h a m.1.file file core free m.1.every.0 m.1.is_whole })
    by (AttemptFailed a) m = m
    by (AttemptStarted a node) m = m
    by (MapSucceeded a node incarnation) m = m
    by JobUnsuccessful m = m
at-written s d h c file bytes _ core free at = at

amid-written : (s : Setting) (d : Disk) (h : Attempt → Option ℕ) (file bytes : ℕ) (r : Option Command) → Core s (view d) h → (IsClaimed s d file → ⊥) → AmidAny s (view d) h r → AmidAny s (view (written file bytes d)) h r
amid-written s d h file bytes None core free m = tt
amid-written s d h file bytes (Some c) core free m = record { fits = m.fits; here = at-written s d h c file bytes c.phase core free m.here }

amid-named : (s : Setting) (d : Disk) (h : Attempt → Option ℕ) (a : Attempt) (file : Option ℕ) (r : Option Command) → AmidAny s (view d) h r → AmidAny s (view (named (Work a) file d)) h r
amid-named s d h a file None m = tt
amid-named s d h a file (Some c) m = m

-- a winner's bytes are not written
bytes-kept : (b : Bool) (m n : ℕ) → (b ≡ true → ⊥) → cond b m n ≡ n
bytes-kept true m n no-way = absurd (no-way refl)
bytes-kept false m n no-way = refl

-- ---- each move

pub moves-on : (s : Setting) (w : World) (move : Move) → Holds s w → May s w move → Onward s w (happens s w move)
unfolding happens May
moves-on s w (Starts o) h m = record { holds = record { core = h.core; work = h.work; told = h.told; amid = record { fits = record { job = refl; tasks = refl; hold = refl }; here = tt } }; grows = same-grows s w; told = λ a st t. t }
moves-on s w (Answers answer) h m = any-answer s w w.running h h.amid answer m
moves-on s w Ends h m = any-end s w w.running h h.amid
moves-on s w Stops h m = record { holds = record { core = h.core; work = h.work; told = h.told; amid = tt }; grows = same-grows s w; told = λ a st t. t }
moves-on s w (Writes file bytes) h m = record {
  holds = record { core = core-written s w.disk w.handed file h.core m; work = h.work; told = h.told; amid = amid-written s w.disk w.handed file bytes w.running h.core m h.amid };
  grows = record {
    front = (same-grows s w).front;
    stand = λ st. st;
    handed = λ a x. refl;
    bytes = λ a f x e. bytes-kept (f == file) bytes (w.disk.bytes f) (λ is. winners-own a f x e (eqb-true _ _ is));
    decision = λ e. e;
    marker = λ e. e;
    home = λ e. e;
  };
  told = λ a st t. t;
}
  where
    winners-own : (a : Attempt) (f : ℕ) → Wins w.disk.synced a → w.handed a ≡ Some f → f ≡ file → ⊥
    winners-own a f x e is =
        let y = h.core.files a (wins-more w.disk.synced w.disk.appended a x) in
        let P : ℕ → Type 0 = λ g. IsClaimed s w.disk g in
        m (subst P (some-one y.file f (sym y.handed ∙ e) ∙ is) (claimed s w.disk w.handed a y))
moves-on s w (Names a file) h m = record {
  holds = record {
    core = h.core;
    work = λ b. every-if (IsWriters s b) (same_attempt a b) (moved file (w.disk.moments (Work b))) (w.disk.moments (Work b)) (λ e. every-moved (IsWriters s b) (w.disk.moments (Work b)) file (let P : Attempt → Type 0 = λ x. IsWriters s x file in subst P (same_attempt-is a b e) m) (h.work b)) (λ e. h.work b);
    told = h.told;
    amid = amid-named s w.disk w.handed a file w.running h.amid;
  };
  grows = record { front = (same-grows s w).front; stand = λ st. st; handed = λ x y. refl; bytes = λ x f y z. refl; decision = λ e. e; marker = λ e. e; home = λ e. e };
  told = λ b st t. t;
}
moves-on s w (Cuts left) h m =
    let c = cut-view w.disk left m in
    record {
      holds = record { core = core-cut s (view w.disk) (view left) w.handed h.core c; work = λ a. every-left (IsWriters s a) (w.disk.moments (Work a)) (left.moments (Work a)) (m.names (Work a)) (h.work a); told = told-cut (view w.disk) (view left) w.told h.told c; amid = tt };
      grows = record { front = record { rest = m.kept; is = m.synced }; stand = stand-left s (view w.disk) (view left) w.handed h.core c; handed = λ a x. refl; bytes = λ a f x e. m.bytes f (whole a f x e); decision = every-left IsThere (w.disk.moments Decision) (left.moments Decision) (m.names Decision); marker = every-left IsThere (w.disk.moments Marker) (left.moments Marker) (m.names Marker); home = every-left IsGone (w.disk.moments Home) (left.moments Home) (m.names Home) };
      told = λ a st t. t;
    }
  where
    whole : (a : Attempt) (f : ℕ) → Wins w.disk.synced a → w.handed a ≡ Some f → w.disk.is_whole f ≡ true
    whole a f x e = let y = h.core.files a (wins-more w.disk.synced w.disk.appended a x) in let P : ℕ → Type 0 = λ g. w.disk.is_whole g ≡ true in subst P (some-one y.file f (sym y.handed ∙ e)) y.is_whole
