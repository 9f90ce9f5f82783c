-- Where a command is behind its turn.
use Rattle.std.proofs.Common.{◌≡◌, ◌⊎◌, inl, inr, ◌<◌, ◌≤◌, ℕ, zero, suc, Bool, true, false, not, ◌||◌, ◌&&◌, cond, nat_lt, count_by, is_some, List, [], ◌∷◌, ◌++◌, Option, Some, None, refl, sym, ap, subst, ◌∙◌, arith, true≢false}
use Rattle.std.proofs.lemmas.Bool.{cases_lt}
use Rattle.std.specs.List.{list_any}
use Rattle.mr_ids.specs.Attempt.{Attempt}
use Rattle.mr_ids.specs.Same.{same_task}
use Rattle.mr_ids.proofs.Same.{task-is}
use Rattle.mr_ids.specs.declared.id.JobId.{JobId}
use Rattle.mr_ids.specs.declared.id.TaskId.{TaskId}
use Rattle.mr_history.specs.declared.record.Record.{Record}
use Rattle.mr_history.specs.declared.record.Record.TheVariants.{AttemptStarted, MapSucceeded, ReduceSucceeded, AttemptFailed, JobUnsuccessful}
use Rattle.mr_history.specs.Winner.{winner_in}
use Rattle.mr_out_disk.specs.Disk.{Moments}
use Rattle.mr_out_steps.specs.declared.standing.Standing.{Standing}
use Rattle.mr_out_steps.specs.declared.standing.Standing.TheVariants.{Won, Beaten, GivenUp, JobOver, UnderWay, Unknown}
use Rattle.mr_out_steps.specs.declared.order.Order.{Order}
use Rattle.mr_out_steps.specs.declared.order.Order.TheVariants as order
use Rattle.mr_out_steps.specs.declared.order.Outcome.TheVariants as outcome
use Rattle.mr_out_steps.specs.declared.phase.Phase.{Phase}
use Rattle.mr_out_steps.specs.declared.phase.Phase.TheVariants.{FindingDecision, Deciding, Listing, FindingClaim, Appending, Forgetting, MakingFolder, Over}
use Rattle.mr_out_steps.specs.Standing.{task_of, tells_failure, standing, winners, with_winner, is_over, has_winner, is_alive_at, next_attempt, first_alive, first_idle}
use Rattle.mr_out_steps.specs.Commands.{Command}
use Rattle.mr_out_steps.specs.Steps.{answer_to, answer_early, ends, decides, releases, lists, holds, publishes, is_under_way, own_work, goes, begins_with, begins, is_settled, is_to_end, starts, starts_one, starts_first, starts_beside, gives_up, starts_over, follows, noted, links, ends_or, empties}
use Rattle.mr_out_model.specs.Worlds.{Setting}
use Rattle.mr_out_model.proofs.Moments.{Every}
use Rattle.mr_out_model.proofs.Standings.{IsOpen, is-open}
use Rattle.mr_out_model.proofs.Invariant.{View, all_records, IsThere, Wins, Stand, IsReleased, OfJob, Core, IsOf, Known, Opens, MayAppend, Fate, IsAmong, AreWinners, Seen, ToLink, Ending, At, Amid}
use Rattle.mr_out_model.proofs.Records.{wins-own, one-winner, none-all, no-winner, same-winner, failure-plain, synced_too}

-- ---- the winners of all tasks

pub record ListOf (job : JobId) (rs : List Record) (n : ℕ) (ws : List Attempt) : Type 0 where
  pub all : (m : ℕ) → m < n → (a : Attempt) × (winner_in rs (task_of job m) ≡ Some a)
  pub among : (m : ℕ) (a : Attempt) → m < n → winner_in rs (task_of job m) ≡ Some a → IsAmong a ws
  pub are : AreWinners rs ws

below : (m n : ℕ) → m < suc n → (m < n) ⊎ (m ≡ n)
below m n l = by (cases_lt m n)
  where
    by : (m < n) ⊎ (n ≤ m) → (m < n) ⊎ (m ≡ n)
    by (inl k) = inl k
    by (inr k) = inr (omega arith)

nothing-below : (m : ℕ) → m < 0 → ⊥
nothing-below m l = omega arith

same-list : (xs ys : List Attempt) → Some xs ≡ Some ys → xs ≡ ys
same-list xs ys e = cc

first-list : (job : JobId) (rs : List Record) → ListOf job rs 0 []
first-list job rs = record { all = λ m l. absurd (nothing-below m l); among = λ m a l w. absurd (nothing-below m l); are = tt }

more-list : (job : JobId) (rs : List Record) (n : ℕ) (a : Attempt) (ws : List Attempt) → winner_in rs (task_of job n) ≡ Some a → ListOf job rs n ws → ListOf job rs (suc n) (a ∷ ws)
more-list job rs n a ws w g = record {
  all = λ m l. there m (below m n l);
  among = λ m b l v. one m b v (below m n l);
  are = (wins-own rs (task_of job n) a w, g.are);
}
  where
    there : (m : ℕ) → (m < n) ⊎ (m ≡ n) → (b : Attempt) × (winner_in rs (task_of job m) ≡ Some b)
    there m (inl l) = g.all m l
    there m (inr e) = (a, ap (λ k. winner_in rs (task_of job k)) e ∙ w)

    one : (m : ℕ) (b : Attempt) → winner_in rs (task_of job m) ≡ Some b → (m < n) ⊎ (m ≡ n) → IsAmong b (a ∷ ws)
    one m b v (inl l) = inr (g.among m b l v)
    one m b v (inr e) = inl (one-winner rs (task_of job n) a b w (ap (λ k. winner_in rs (task_of job k)) (sym e) ∙ v))

pub list-of : (job : JobId) (rs : List Record) (n : ℕ) (ws : List Attempt) → winners job rs n ≡ Some ws → ListOf job rs n ws
unfolding winners
list-of job rs zero ws e = let P : List Attempt → Type 0 = λ xs. ListOf job rs 0 xs in subst P (same-list [] ws e) (first-list job rs)
list-of job rs (suc n) ws e = by (winner_in rs (task_of job n)) refl (winners job rs n) refl (list-of job rs n) e
  where
    by : (o : Option Attempt) → winner_in rs (task_of job n) ≡ o → (p : Option (List Attempt)) → winners job rs n ≡ p → ((xs : List Attempt) → winners job rs n ≡ Some xs → ListOf job rs n xs)
        → with_winner o p ≡ Some ws → ListOf job rs (suc n) ws
    by None w p q go e = absurd (cc)
    by (Some a) w None q go e = absurd (cc)
    by (Some a) w (Some xs) q go e = let P : List Attempt → Type 0 = λ ys. ListOf job rs (suc n) ys in subst P (same-list (a ∷ xs) ws e) (more-list job rs n a xs w (go xs q))

-- ---- the end

stands-so : (s : Setting) (v : View) (c : Command) (a : Attempt) → c.job ≡ s.job → c.tasks ≡ s.tasks → c.records ≡ v.synced → standing s.job s.tasks v.synced a ≡ standing c.job c.tasks c.records a
stands-so s v c a job tasks rs = λ i. standing (sym job i) (sym tasks i) (sym rs i) a

ending : (s : Setting) (v : View) (c : Command) → IsOf s c → Known v.synced v.appended c.records → (o : Order) → Ending s v o (answer_to o c)
ending s v c fits k o = by o
  where
    aborted : (b : Bool) → Ending s v order.Abort (cond b outcome.Finished outcome.AllWon)
    aborted true = tt
    aborted false = tt

    published : (b : Bool) → Ending s v order.Publish (cond b outcome.JobOver outcome.Finished)
    published true = tt
    published false = tt

    started : (p : Order) → Unit {0} → (b : Bool) → Ending s v p (cond b outcome.JobOver outcome.AllWon)
    started p u true = tt
    started p u false = tt

    by : (p : Order) → Ending s v p (answer_to p c)
    by (order.Done a) = (k.none, stands-so s v c a fits.job fits.tasks k.records)
    by (order.Fail a) = (k.none, stands-so s v c a fits.job fits.tasks k.records)
    by (order.Ask a) = (k.none, stands-so s v c a fits.job fits.tasks k.records)
    by order.Resume = tt
    by order.Abort = aborted (is_over c.records)
    by order.Publish = published (is_over c.records)
    by order.Forget = tt
    by order.StartNext = started order.StartNext tt (is_over c.records)
    by (order.StartAt n) = started (order.StartAt n) tt (is_over c.records)
    by (order.StartOver n) = started (order.StartOver n) tt (is_over c.records)

pub ends-amid : (s : Setting) (v : View) (h : Attempt → Option ℕ) (c : Command) → IsOf s c → Known v.synced v.appended c.records → Amid s v h (ends c)
ends-amid s v h c fits k = record { fits = fits; here = ending s v c fits k c.order }

-- some task has no winner
early-amid : (s : Setting) (v : View) (h : Attempt → Option ℕ) (c : Command) → IsOf s c → Known v.synced v.appended c.records → Amid s v h (lists None c)
early-amid s v h c fits k = record { fits = fits; here = by c.order }
  where
    by : (o : Order) → Ending s v o (answer_early o c)
    by (order.Done a) = ending s v c fits k (order.Done a)
    by (order.Fail a) = ending s v c fits k (order.Fail a)
    by (order.Ask a) = ending s v c fits k (order.Ask a)
    by order.Resume = ending s v c fits k order.Resume
    by order.Abort = ending s v c fits k order.Abort
    by order.Publish = tt
    by order.Forget = ending s v c fits k order.Forget
    by order.StartNext = ending s v c fits k order.StartNext
    by (order.StartAt n) = ending s v c fits k (order.StartAt n)
    by (order.StartOver n) = ending s v c fits k (order.StartOver n)

-- under hold, publishing was not decided
pub holds-amid : (s : Setting) (v : View) (h : Attempt → Option ℕ) (c : Command) (o : Order) → IsOf s c → Known v.synced v.appended c.records → Amid s v h (holds o c)
holds-amid s v h c order.Abort fits k = record { fits = fits; here = (k, tt) }
holds-amid s v h c _ fits k = ends-amid s v h c fits k

-- ---- what is published

-- where the winners' files are to be linked, a held job waits for the decision
released-at : (s : Setting) (v : View) (h : Attempt → Option ℕ) (c : Command) (ws : List Attempt) → IsOf s c → Known v.synced v.appended c.records → ToLink s v.synced v.part h ws
    → At s v h (record c { left = ws; phase = releases c.hold c.order }) (releases c.hold c.order)
released-at s v h c ws fits k l = by c.hold refl
  where
    e : Command
    e = record c { left = ws; phase = releases c.hold c.order }

    decided : (o : Order) → c.order ≡ o → At s v h e (decides o)
    decided order.Publish is = (k, l, is)
    decided _ is = (k, l)

    by : (b : Bool) → c.hold ≡ b → At s v h e (cond b (decides c.order) Listing)
    by true is = decided c.order refl
    by false is = (k, l, λ held. absurd (true≢false (sym held ∙ sym fits.hold ∙ is)))

pub publishes-amid : (s : Setting) (v : View) (h : Attempt → Option ℕ) (c : Command) → Core s v h → IsOf s c → Known v.synced v.appended c.records → Amid s v h (publishes c)
unfolding publishes
publishes-amid s v h c core fits k = by (is_over c.records)
  where
    all : (ws : List Attempt) → ListOf c.job c.records c.tasks ws → ListOf s.job v.synced s.tasks ws
    all ws l = let P : JobId → Type 0 = λ j. ListOf j c.records c.tasks ws in let Q : List Record → Type 0 = λ rs. ListOf s.job rs c.tasks ws in let R : ℕ → Type 0 = λ n. ListOf s.job v.synced n ws in
        subst R fits.tasks (subst Q k.records (subst P fits.job l))

    to_link : (ws : List Attempt) → ListOf s.job v.synced s.tasks ws → ToLink s v.synced v.part h ws
    to_link ws l = record {
      all = l.all;
      each = λ a w.
          let own = core.of_job a (ap (λ (rs : List Record). winner_in rs a.task) (none-all v k.none) ∙ w) in
          inl (l.among a.task.number a own.number (ap (λ (t : TaskId). winner_in v.synced t) (sym own.task) ∙ w));
      are = l.are;
    }

    listing : (o : Option (List Attempt)) → winners c.job c.records c.tasks ≡ o → Amid s v h (lists o c)
    listing None e = early-amid s v h c fits k
    listing (Some ws) e = record { fits = fits; here = released-at s v h c ws fits k (to_link ws (all ws (list-of c.job c.records c.tasks ws e))) }

    by : (b : Bool) → Amid s v h (cond b (ends c) (lists (winners c.job c.records c.tasks) c))
    by true = ends-amid s v h c fits k
    by false = listing (winners c.job c.records c.tasks) refl

pub links-amid : (s : Setting) (v : View) (h : Attempt → Option ℕ) (c : Command) (left : List Attempt) → IsOf s c → Known v.synced v.appended c.records → ToLink s v.synced v.part h left → IsReleased s.hold v.decision → Amid s v h (links left c)
links-amid s v h c [] fits k l release = record { fits = fits; here = (k, l, release) }
links-amid s v h c (a ∷ rest) fits k l release = record { fits = fits; here = (k, l, release) }

-- nothing is left to publish
pub or-amid : (s : Setting) (v : View) (h : Attempt → Option ℕ) (c : Command) (p : Phase) (o : Order) → IsOf s c → Known v.synced v.appended c.records → At s v h (goes p c) p → Amid s v h (ends_or p o c)
or-amid s v h c p order.Forget fits k at = record { fits = fits; here = at }
or-amid s v h c p _ fits k at = ends-amid s v h c fits k

pub empties-amid : (s : Setting) (v : View) (h : Attempt → Option ℕ) (c : Command) (left : List Attempt) → IsOf s c → Known v.synced v.appended c.records → Stand s v.synced v.part h → Every IsThere v.marker → Amid s v h (empties left c)
empties-amid s v h c [] fits k st there = or-amid s v h c Forgetting c.order fits k (k, st, there)
empties-amid s v h c (a ∷ rest) fits k st there = record { fits = fits; here = (k, st, there) }

-- ---- its own work

is-none : (o : Option Attempt) → is_some o ≡ false → o ≡ None
is-none None e = refl
is-none (Some a) e = absurd (cc)

right-false : (x y : Bool) → (x || y) ≡ false → y ≡ false
right-false true y e = absurd (cc)
right-false false y e = e

-- who is under way at a task attempts it
alive-at : (rs : List Record) (t : TaskId) (qs : List Record) (a : Attempt) → first_alive rs t qs ≡ Some a → a.task ≡ t
unfolding first_alive
alive-at rs t [] a e = absurd (cc)
alive-at rs t (AttemptStarted b node ∷ qs) a e = by (same_task b.task t) refl (not (list_any (tells_failure b) rs)) (alive-at rs t qs a) e
  where
    same : b ≡ a → same_task b.task t ≡ true → a.task ≡ t
    same f is = ap (λ (x : Attempt). x.task) (sym f) ∙ task-is b.task t is

    by : (m : Bool) → same_task b.task t ≡ m → (q : Bool) → (first_alive rs t qs ≡ Some a → a.task ≡ t) → cond (m && q) (Some b) (first_alive rs t qs) ≡ Some a → a.task ≡ t
    by true is true go e = same (cc) is
    by true is false go e = go e
    by false is q go e = go e
alive-at rs t (MapSucceeded b node incarnation ∷ qs) a e = alive-at rs t qs a e
alive-at rs t (ReduceSucceeded b bytes ∷ qs) a e = alive-at rs t qs a e
alive-at rs t (AttemptFailed b ∷ qs) a e = alive-at rs t qs a e
alive-at rs t (JobUnsuccessful ∷ qs) a e = alive-at rs t qs a e

pub begins-amid : (s : Setting) (v : View) (h : Attempt → Option ℕ) (c : Command) → Core s v h → IsOf s c → Known v.synced v.appended c.records → Amid s v h (begins c)
begins-amid s v h c core fits k = first (is_to_end c)
  where
    published : Amid s v h (publishes c)
    published = publishes-amid s v h c core fits k

    opens : (a : Attempt) → standing c.job c.tasks c.records a ≡ UnderWay → Opens s v a
    opens a e = is-open s.job s.tasks v.synced a (stands-so s v c a fits.job fits.tasks k.records ∙ e)

    done : (a : Attempt) (st : Standing) → standing c.job c.tasks c.records a ≡ st → Amid s v h (begins_with (cond (is_under_way st) (Some (FindingClaim a)) None) c)
    done a Won e = published
    done a Beaten e = published
    done a GivenUp e = published
    done a JobOver e = published
    done a UnderWay e = record { fits = fits; here = (k, opens a e) }
    done a Unknown e = published

    fail : (a : Attempt) (st : Standing) → standing c.job c.tasks c.records a ≡ st → Amid s v h (begins_with (cond (is_under_way st) (Some (Appending (AttemptFailed a))) None) c)
    fail a Won e = published
    fail a Beaten e = published
    fail a GivenUp e = published
    fail a JobOver e = published
    fail a UnderWay e = let o = opens a e in record { fits = fits; here = (k, λ w. no-winner (winner_in v.synced a.task) a o.unwon w) }
    fail a Unknown e = published

    abort : (b : Bool) → Amid s v h (begins_with (cond b None (Some (Appending JobUnsuccessful))) c)
    abort true = published
    abort false = record { fits = fits; here = (k, tt) }

    asked : (a : Attempt) → c.order ≡ order.Ask a → Ending s v c.order (answer_to (order.Ask a) c)
    asked a e = let P : Order → Type 0 = λ o. Ending s v o (answer_to (order.Ask a) c) in subst P (sym e) (k.none, stands-so s v c a fits.job fits.tasks k.records)

    -- an attempt is begun at a task, or there is no room for one
    start : (o : Option Attempt) → Amid s v h (begins_with (Some (starts_one o)) c)
    start (Some a) = record { fits = fits; here = (k, tt) }
    start None = record { fits = fits; here = tt }

    waits : (b : Bool) → Amid s v h (begins_with (cond b None (Some (Over outcome.Busy))) c)
    waits true = published
    waits false = record { fits = fits; here = tt }

    first_one : (o : Option ℕ) → Amid s v h (begins_with (starts_first o c) c)
    first_one (Some n) = start (next_attempt c.records (task_of c.job n))
    first_one None = waits (is_settled c)

    next : (b : Bool) → Amid s v h (begins_with (cond b None (starts_first (first_idle c.job c.records c.tasks) c)) c)
    next true = published
    next false = first_one (first_idle c.job c.records c.tasks)

    two : (n : ℕ) (b : Bool) → Amid s v h (begins_with (Some (cond b (starts n c) (Over outcome.Busy))) c)
    two n true = start (next_attempt c.records (task_of c.job n))
    two n false = record { fits = fits; here = tt }

    beside : (n : ℕ) (b : Bool) → Amid s v h (begins_with (cond b None (Some (cond (nat_lt (count_by (is_alive_at c.records (task_of c.job n)) c.records) 2) (starts n c) (Over outcome.Busy)))) c)
    beside n true = published
    beside n false = two n (nat_lt (count_by (is_alive_at c.records (task_of c.job n)) c.records) 2)

    given_up : (n : ℕ) (o : Option Attempt) → winner_in v.synced (task_of c.job n) ≡ None → ((a : Attempt) → o ≡ Some a → a.task ≡ task_of c.job n) → Amid s v h (begins_with (Some (gives_up o n c)) c)
    given_up n None none at = start (next_attempt c.records (task_of c.job n))
    given_up n (Some a) none at = record { fits = fits; here = (k, λ w. no-winner (winner_in v.synced a.task) a (ap (λ (t : TaskId). winner_in v.synced t) (at a refl) ∙ none) w) }

    over : (n : ℕ) (b : Bool) → (is_over c.records || has_winner c.records (task_of c.job n)) ≡ b → Amid s v h (begins_with (cond b None (Some (gives_up (first_alive c.records (task_of c.job n) c.records) n c))) c)
    over n true e = published
    over n false e = given_up n (first_alive c.records (task_of c.job n) c.records) (ap (λ (rs : List Record). winner_in rs (task_of c.job n)) (sym k.records) ∙ is-none (winner_in c.records (task_of c.job n)) (right-false (is_over c.records) (has_winner c.records (task_of c.job n)) e)) (λ a. alive-at c.records (task_of c.job n) c.records a)

    by : (o : Order) → c.order ≡ o → Amid s v h (begins_with (own_work o c) c)
    by (order.Done a) e = done a (standing c.job c.tasks c.records a) refl
    by (order.Fail a) e = fail a (standing c.job c.tasks c.records a) refl
    by (order.Ask a) e = record { fits = fits; here = asked a e }
    by order.Resume e = published
    by order.Abort e = abort (is_settled c)
    by order.Publish e = published
    by order.Forget e = published
    by order.StartNext e = next (is_over c.records)
    by (order.StartAt n) e = beside n (is_over c.records || has_winner c.records (task_of c.job n))
    by (order.StartOver n) e = over n (is_over c.records || has_winner c.records (task_of c.job n)) refl

    first : (b : Bool) → Amid s v h (cond b (goes (Appending JobUnsuccessful) c) (begins_with (own_work c.order c) c))
    first true = record { fits = fits; here = (k, tt) }
    first false = by c.order refl

-- ---- a record is durable now

pub follows-amid : (s : Setting) (v : View) (h : Attempt → Option ℕ) (c : Command) (r : Record) → Core s (synced_too v) h → IsOf s c → c.records ≡ v.synced → v.appended ≡ r ∷ [] → Fate v r
    → Amid s (synced_too v) h (follows r (noted r c))
follows-amid s v h c r core fits rs one fate = by r one fate
  where
    known : (q : Record) → v.appended ≡ q ∷ [] → Known (v.synced ++ v.appended) [] (c.records ++ q ∷ [])
    known q e = record { records = λ i. rs i ++ sym e i; none = refl }

    published : (q : Record) → v.appended ≡ q ∷ [] → Amid s (synced_too v) h (publishes (noted q c))
    published q e = publishes-amid s (synced_too v) h (noted q c) core fits (known q e)

    by : (q : Record) → v.appended ≡ q ∷ [] → Fate v q → Amid s (synced_too v) h (follows q (noted q c))
    by (AttemptStarted a node) e f = record { fits = fits; here = tt }
    by (MapSucceeded a node incarnation) e f = published (MapSucceeded a node incarnation) e
    by (ReduceSucceeded a bytes) e f = published (ReduceSucceeded a bytes) e
    by (AttemptFailed a) e f = record { fits = fits; here = (known (AttemptFailed a) e, λ w. f (sym (same-winner v.synced (AttemptFailed a) a.task (failure-plain a)) ∙ (ap (λ (qs : List Record). winner_in (v.synced ++ qs) a.task) (sym e) ∙ w))) }
    by JobUnsuccessful e f = published JobUnsuccessful e
