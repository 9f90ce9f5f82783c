-- What is promised of a run of any number of commands: decisions stay. That one execution of a task counts, whoever else ran it, is Dean and Ghemawat's
-- (3.3); that a job is not committed and aborted both is the committer document's.
use Rattle.std.specs.Prelude.{◌≡◌, ◌≢◌, ◌⊎◌, ℕ, zero, suc, true, false, List, [], ◌∷◌, ◌++◌, Option, Some, None}
use Rattle.std.specs.List.{list_any}
use Rattle.mr_ids.specs.Attempt.{Attempt}
use Rattle.mr_log_entries.specs.declared.line.Line.{Line}
use Rattle.mr_log_entries.specs.declared.line.Line.TheVariants as line
use Rattle.mr_log_entries.specs.declared.entry.Entry.{Entry}
use Rattle.mr_log_entries.specs.Recorded.{lines_of}
use Rattle.mr_log_disk.specs.declared.call.Call.{Call}
use Rattle.mr_log_disk.specs.declared.call.Call.TheVariants as call
use Rattle.mr_log_disk.specs.Log.{LogName, Absent, Fresh, Durable, Disk}
use Rattle.mr_log_standing.specs.declared.job.Job.{Job}
use Rattle.mr_log_standing.specs.declared.standing.Standing.{Standing}
use Rattle.mr_log_standing.specs.declared.standing.Standing.TheVariants.{Won, Beaten, GivenUp, JobOver}
use Rattle.mr_log_standing.specs.declared.order.Order.{Order}
use Rattle.mr_log_standing.specs.declared.order.Order.TheVariants as order
use Rattle.mr_log_standing.specs.declared.order.Outcome.TheVariants as outcome
use Rattle.mr_log_standing.specs.declared.decision.Conclusion.{Conclusion}
use Rattle.mr_log_standing.specs.declared.decision.Decision.{Decision}
use Rattle.mr_log_standing.specs.declared.decision.Decision.TheVariants.{Ends, Publishes, HandsIn, Puts, Begins, Forgets}
use Rattle.mr_log_standing.specs.Host.{Host}
use Rattle.mr_log_standing.specs.Standing.{is_start_of, winner_of, is_over, is_published, is_publishable, standing}
use Rattle.mr_log_standing.specs.Laws.{IsLost}
use Rattle.mr_log_steps.specs.Turns.{decision_of}
use Rattle.mr_log_model.specs.Worlds.{Setting, Saying, World, begun}
use Rattle.mr_log_model.specs.Runs.{Move, after, IsRun}

-- ---- what a log holds

-- These entries are the log: they are durable, but for one at the end at most, and no name comes after.
abbrev pub name_at : List Entry → Option Entry → ℕ → LogName
name_at [] None n = Absent
name_at [] (Some e) zero = Fresh e
name_at [] (Some e) (suc n) = Absent
name_at (e ∷ es) last zero = Durable e
name_at (e ∷ es) last (suc n) = name_at es last n

pub record IsLog (d : Disk) (durable : List Entry) (last : Option Entry) : Type 0 where
  pub names : (n : ℕ) → d.log n ≡ name_at durable last n

abbrev pub with_last : List Entry → Option Entry → List Entry
with_last es None = es
with_last es (Some e) = es ++ e ∷ []

-- one log begins with another
pub record IsFront (xs ys : List Entry) : Type 0 where
  pub rest : List Entry
  pub is : ys ≡ xs ++ rest

-- ---- decisions

-- these lines are put by who decides so; who publishes notes that it has
abbrev pub IsPutBy : Decision → List Line → Type 0
IsPutBy (Puts ls) lines = lines ≡ ls
IsPutBy (Begins ls) lines = lines ≡ ls
IsPutBy (Publishes o) lines = lines ≡ line.Published ∷ []
IsPutBy (Ends o) lines = ⊥
IsPutBy (HandsIn a) lines = ⊥
IsPutBy Forgets lines = ⊥

-- The entry is what some order decides from exactly these entries before it, in the boot that the entry names.
pub record IsDecided (job : Job) (before : List Entry) (e : Entry) : Type 0 where
  pub order : Order
  pub host : Host
  pub conclusion : Option Conclusion
  pub boot : e.origin.boot ≡ host.boot
  pub put : IsPutBy (decision_of conclusion order job host before) e.lines

-- each of these entries is, after those before it
unfoldable pub AreDecided : Job → List Entry → List Entry → Type 0
AreDecided job before [] = Unit {0}
AreDecided job before (e ∷ es) = IsDecided job before e × AreDecided job (before ++ e ∷ []) es

-- ---- what was said

abbrev pub IsAbout : Order → Attempt → Type 0
IsAbout (order.Done b) a = b ≡ a
IsAbout (order.Fail b) a = b ≡ a
IsAbout (order.Ask b) a = b ≡ a
IsAbout _ a = ⊥

-- a command said that the attempt stands so
abbrev pub HasSaid : List Saying → Attempt → Standing → Type 0
HasSaid [] a standing = ⊥
HasSaid (t ∷ ts) a standing = (IsAbout t.order a × (t.outcome ≡ outcome.Stands standing)) ⊎ HasSaid ts a standing

-- it said that the attempt lost
abbrev pub HasSaidLoss : List Saying → Attempt → Type 0
HasSaidLoss ts a = HasSaid ts a Beaten ⊎ (HasSaid ts a GivenUp ⊎ HasSaid ts a JobOver)

-- it said that it began the attempt
abbrev pub HasSaidStart : List Saying → Attempt → Type 0
HasSaidStart [] a = ⊥
HasSaidStart (t ∷ ts) a = (t.outcome ≡ outcome.Started a) ⊎ HasSaidStart ts a

-- ---- what is made and removed

-- These lines allow the call: what is visible is made where the job may be published, what an attempt left is removed where it can't win any more, and all
-- where the job is published for good; then its log may be forgotten, too.
abbrev pub IsAllowed : Job → List Line → Call → Type 0
IsAllowed job ls (call.Link from to) = is_publishable job ls ≡ true
IsAllowed job ls (call.MakeFolder p) = is_publishable job ls ≡ true
IsAllowed job ls call.LinkMarker = is_publishable job ls ≡ true
IsAllowed job ls (call.MakeWork a) = list_any (is_start_of a) ls ≡ true
IsAllowed job ls (call.Empty a) = IsLost (standing job ls a)
IsAllowed job ls call.EmptyAll = is_published ls ≡ true
IsAllowed job ls call.Forget = is_published ls ≡ true
IsAllowed job ls other = Unit {0}

-- the call was made
abbrev pub IsAmong : Call → List Call → Type 0
IsAmong x [] = ⊥
IsAmong x (y ∷ ys) = (y ≡ x) ⊎ IsAmong x ys

-- What holds of a world w, and of any later one v.
pub record Promises (s : Setting) (w v : World) : Type 0 where
  -- the entries that are durable, and one more at most
  pub durable : List Entry
  pub last : Option Entry
  pub log : IsLog w.disk durable last
  pub durable_later : List Entry
  pub last_later : Option Entry
  pub log_later : IsLog v.disk durable_later last_later
  -- durable entries stay
  pub stay : IsFront durable durable_later
  -- each entry was decided from exactly the entries before it
  pub decided : AreDecided s.job [] (with_last durable_later last_later)
  -- of whom a command said that it won, it is the recorded winner from then on
  pub won : (a : Attempt) → HasSaid w.said a Won → winner_of (lines_of durable_later) a.task ≡ Some a
  -- and of whom one said that it lost, it never is
  pub lost : (a : Attempt) → HasSaidLoss w.said a → winner_of (lines_of (with_last durable_later last_later)) a.task ≢ Some a
  -- an attempt of which a command said that it began it is recorded from then on
  pub started : (a : Attempt) → HasSaidStart w.said a → list_any (is_start_of a) (lines_of durable_later) ≡ true
  -- what was made or removed was allowed by durable entries, and is so for good
  pub allowed : (x : Call) → IsAmong x w.calls → IsAllowed s.job (lines_of durable) x × IsAllowed s.job (lines_of durable_later) x
  -- a job that was ended as failed can never be published
  pub ended : is_over (lines_of durable) ≡ true → is_publishable s.job (lines_of (with_last durable_later last_later)) ≡ false
  -- and one that is published for good is never ended as failed
  pub published : is_published (lines_of durable) ≡ true → is_over (lines_of (with_last durable_later last_later)) ≡ false

-- After every list of moves that begins with what an honest `begin` left, and any more moves.
abbrev pub DecisionsStay : Type 0
DecisionsStay = (s : Setting) (moves more : List Move) → IsRun s begun moves → IsRun s (after s begun moves) more
    → Promises s (after s begun moves) (after s (after s begun moves) more)
