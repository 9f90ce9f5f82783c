-- The records of successes, put into their places, are the winners.
use Rattle.std.proofs.Common.{◌≡◌, ℕ, Bool, true, false, ◌||◌, cond, List, [], ◌∷◌, Option, Some, None, refl, sym, ap, ◌∙◌, true≢false, if◌then◌else◌}
use Rattle.std.specs.Option.{option_map}
use Rattle.mr_ids.specs.Attempt.{Attempt}
use Rattle.mr_ids.specs.Same.{same_task}
use Rattle.mr_ids.specs.declared.id.TaskId.{TaskId}
use Rattle.mr_ids.proofs.Same.{task-is, task-itself}
use Rattle.mr_history.specs.declared.record.Record.{Record}
use Rattle.mr_history.specs.declared.record.Record.TheVariants.{AttemptStarted, MapSucceeded, ReduceSucceeded, AttemptFailed, JobUnsuccessful}
use Rattle.mr_history.specs.Winner.{winner_in, length_in}
use Rattle.mr_recover.specs.declared.winner.TaskWinner.{TaskWinner}
use Rattle.mr_recover.specs.Plan.{winner_of, listed, before, ComesBefore, IsRising, AreWinners}
use Rattle.mr_recover.specs.inner.Placing.{is_there, placed, put, put_record, put_all}
use Rattle.mr_recover.proofs.Order.{total}

abbrev or_that : Option TaskWinner → Option TaskWinner → Option TaskWinner
or_that (Some w) other = Some w
or_that None other = other

-- ---- what is listed after one was put

abbrev here : TaskWinner → TaskId → Option TaskWinner
here w t = if same_task w.task t then Some w else None

-- whoever is there is listed
there-listed : (ws : List TaskWinner) (t : TaskId) → is_there ws t ≡ true → (other : Option TaskWinner) → or_that (listed ws t) other ≡ listed ws t
there-listed [] t e other = absurd (true≢false (sym e))
there-listed (x ∷ xs) t e other = by (same_task x.task t) e (λ f. there-listed xs t f other)
  where
    by : (b : Bool) → (b || is_there xs t) ≡ true → (is_there xs t ≡ true → or_that (listed xs t) other ≡ listed xs t)
        → or_that (cond b (Some x) (listed xs t)) other ≡ cond b (Some x) (listed xs t)
    by true f go = refl
    by false f go = go f

none-listed : (ws : List TaskWinner) (t : TaskId) → is_there ws t ≡ false → listed ws t ≡ None
none-listed [] t e = refl
none-listed (x ∷ xs) t e = by (same_task x.task t) e (none-listed xs t)
  where
    by : (b : Bool) → (b || is_there xs t) ≡ false → (is_there xs t ≡ false → listed xs t ≡ None) → cond b (Some x) (listed xs t) ≡ None
    by true f go = absurd (true≢false f)
    by false f go = go f

or_none : (o : Option TaskWinner) → or_that o None ≡ o
or_none None = refl
or_none (Some x) = refl

-- of a task that is not there, one is listed where it is placed, and the others are as before
placed-listed : (ws : List TaskWinner) (w : TaskWinner) (t : TaskId) → is_there ws w.task ≡ false → listed (placed ws w) t ≡ cond (same_task w.task t) (Some w) (listed ws t)
placed-listed [] w t e = refl
placed-listed (x ∷ xs) w t e = by (before w.task x.task) (same_task x.task w.task) refl e (placed-listed xs w t)
  where
    apart : (b c : Bool) → same_task x.task t ≡ b → same_task w.task t ≡ c → same_task x.task w.task ≡ false
        → cond b (Some x) (cond c (Some w) (listed xs t)) ≡ cond c (Some w) (cond b (Some x) (listed xs t))
    apart true true p q f =
        let same : x.task ≡ w.task = task-is x.task t p ∙ sym (task-is w.task t q) in
        absurd (true≢false (sym (task-itself w.task) ∙ ap (λ u. same_task u w.task) (sym same) ∙ f))
    apart true false p q f = refl
    apart false true p q f = refl
    apart false false p q f = refl

    by : (b c : Bool) → same_task x.task w.task ≡ c → (c || is_there xs w.task) ≡ false → (is_there xs w.task ≡ false → listed (placed xs w) t ≡ cond (same_task w.task t) (Some w) (listed xs t))
        → listed (cond b (w ∷ x ∷ xs) (x ∷ placed xs w)) t ≡ cond (same_task w.task t) (Some w) (listed (x ∷ xs) t)
    by b true q f go = absurd (true≢false f)
    by true false q f go = refl
    by false false q f go = ap (λ o. cond (same_task x.task t) (Some x) o) (go f) ∙ apart (same_task x.task t) (same_task w.task t) refl refl q

put-listed : (ws : List TaskWinner) (w : TaskWinner) (t : TaskId) → listed (put ws w) t ≡ or_that (listed ws t) (here w t)
put-listed ws w t = by (is_there ws w.task) refl
  where
    none : (c : Bool) → same_task w.task t ≡ c → is_there ws w.task ≡ false → cond c (Some w) (listed ws t) ≡ or_that (listed ws t) (cond c (Some w) None)
    none true q e = sym (ap (λ o. or_that o (Some w)) (ap (λ u. listed ws u) (sym (task-is w.task t q)) ∙ none-listed ws w.task e))
    none false q e = sym (or_none (listed ws t))

    some : (c : Bool) → same_task w.task t ≡ c → is_there ws w.task ≡ true → listed ws t ≡ or_that (listed ws t) (cond c (Some w) None)
    some true q e = sym (there-listed ws t (ap (λ u. is_there ws u) (sym (task-is w.task t q)) ∙ e) (Some w))
    some false q e = sym (or_none (listed ws t))

    by : (b : Bool) → is_there ws w.task ≡ b → listed (cond b ws (placed ws w)) t ≡ or_that (listed ws t) (here w t)
    by true e = some (same_task w.task t) refl e
    by false e = placed-listed ws w t e ∙ none (same_task w.task t) refl e

-- ---- the order

first-after : (t : TaskId) (ws : List TaskWinner) (w : TaskWinner) → ComesBefore t ws → before t w.task ≡ true → ComesBefore t (placed ws w)
first-after t [] w o e = e
first-after t (x ∷ xs) w o e = by (before w.task x.task)
  where
    by : (b : Bool) → ComesBefore t (cond b (w ∷ x ∷ xs) (x ∷ placed xs w))
    by true = e
    by false = o

pub placed-rising : (ws : List TaskWinner) (w : TaskWinner) → is_there ws w.task ≡ false → IsRising ws → IsRising (placed ws w)
placed-rising [] w e o = (tt, tt)
placed-rising (x ∷ xs) w e o = by (before w.task x.task) refl (same_task x.task w.task) refl e (λ f. placed-rising xs w f o.1)
  where
    by : (b : Bool) → before w.task x.task ≡ b → (c : Bool) → same_task x.task w.task ≡ c → (c || is_there xs w.task) ≡ false → (is_there xs w.task ≡ false → IsRising (placed xs w)) → IsRising (cond b (w ∷ x ∷ xs) (x ∷ placed xs w))
    by b p true q f go = absurd (true≢false f)
    by true p false q f go = (p, o)
    by false p false q f go = (first-after x.task xs w o.0 (later (before x.task w.task) refl), go f)
      where
        later : (d : Bool) → before x.task w.task ≡ d → d ≡ true
        later true r = refl
        later false r = absurd (true≢false (sym (total x.task w.task r p) ∙ q))

put-rising : (ws : List TaskWinner) (w : TaskWinner) → IsRising ws → IsRising (put ws w)
put-rising ws w o = by (is_there ws w.task) refl
  where
    by : (b : Bool) → is_there ws w.task ≡ b → IsRising (cond b ws (placed ws w))
    by true e = o
    by false e = placed-rising ws w e o

-- ---- all records

record_rising : (ws : List TaskWinner) (r : Record) → IsRising ws → IsRising (put_record ws r)
record_rising ws (ReduceSucceeded a bytes) o = put-rising ws _ o
record_rising ws (AttemptStarted a node) o = o
record_rising ws (MapSucceeded a node incarnation) o = o
record_rising ws (AttemptFailed a) o = o
record_rising ws JobUnsuccessful o = o

all_rising : (rs : List Record) (ws : List TaskWinner) → IsRising ws → IsRising (put_all ws rs)
all_rising [] ws o = o
all_rising (r ∷ rs) ws o = all_rising rs (put_record ws r) (record_rising ws r o)

or_assoc : (a b c : Option TaskWinner) → or_that (or_that a b) c ≡ or_that a (or_that b c)
or_assoc (Some x) b c = refl
or_assoc None b c = refl

-- one more success in front
more : (a : Attempt) (bytes : Option ℕ) (rs : List Record) (t : TaskId) → or_that (here (record { task = a.task; attempt = a; bytes = bytes }) t) (winner_of rs t) ≡ winner_of (ReduceSucceeded a bytes ∷ rs) t
unfolding winner_in length_in
more a bytes rs t = by (same_task a.task t) refl
  where
    by : (b : Bool) → same_task a.task t ≡ b
        → or_that (cond b (Some (record { task = a.task; attempt = a; bytes = bytes })) None) (winner_of rs t)
        ≡ option_map (λ x. record { task = t; attempt = x; bytes = cond b bytes (length_in rs t) }) (cond b (Some a) (winner_in rs t))
    by true q = let e = task-is a.task t q in λ i. Some (record { task = e i; attempt = a; bytes = bytes })
    by false q = refl

all-listed : (rs : List Record) (ws : List TaskWinner) (t : TaskId) → listed (put_all ws rs) t ≡ or_that (listed ws t) (winner_of rs t)
unfolding winner_in length_in
all-listed [] ws t = sym (or_none (listed ws t))
all-listed (ReduceSucceeded a bytes ∷ rs) ws t =
    let w : TaskWinner = record { task = a.task; attempt = a; bytes = bytes } in
    all-listed rs (put ws w) t
    ∙ ap (λ o. or_that o (winner_of rs t)) (put-listed ws w t)
    ∙ or_assoc (listed ws t) (here w t) (winner_of rs t)
    ∙ ap (λ o. or_that (listed ws t) o) (more a bytes rs t)
all-listed (AttemptStarted a node ∷ rs) ws t = all-listed rs ws t
all-listed (MapSucceeded a node incarnation ∷ rs) ws t = all-listed rs ws t
all-listed (AttemptFailed a ∷ rs) ws t = all-listed rs ws t
all-listed (JobUnsuccessful ∷ rs) ws t = all-listed rs ws t

pub are_winners : (rs : List Record) → AreWinners rs (put_all [] rs)
are_winners rs = record { rising = all_rising rs [] tt; exact = λ t. all-listed rs [] t }
