-- The first success of a task stays the first, with what was handed in.
use Rattle.std.proofs.Common.{◌≡◌, ℕ, Bool, true, false, cond, List, [], ◌∷◌, ◌++◌, Option, Some, None, refl, sym, ap, ◌∙◌, append_assoc}
use Rattle.std.specs.List.{list_any}
use Rattle.mr_ids.specs.Attempt.{Attempt}
use Rattle.mr_ids.specs.Same.{same_task}
use Rattle.mr_ids.specs.declared.id.TaskId.{TaskId}
use Rattle.mr_ids.proofs.Same.{task-is}
use Rattle.mr_log_entries.specs.declared.line.Line.{Line}
use Rattle.mr_log_entries.specs.declared.line.Line.TheVariants.{Started, Won, Failed, Interrupted, Unsuccessful, Publish, Published}
use Rattle.mr_log_entries.specs.declared.entry.Entry.{Entry}
use Rattle.mr_log_entries.specs.Recorded.{lines_of}
use Rattle.mr_log_standing.specs.declared.standing.Win.{Win}
use Rattle.mr_log_standing.specs.Standing.{first_or, success_at, winner_of, win_by, win_among, win_of, is_start_of, begun_in}

first-assoc : (A : Type 0) (x y z : Option A) → first_or A (first_or A x y) z ≡ first_or A x (first_or A y z)
first-assoc A (Some a) y z = refl
first-assoc A None y z = refl

pub first-stays : (A : Type 0) (x y : Option A) (a : A) → x ≡ Some a → first_or A x y ≡ Some a
first-stays A x y a e = ap (λ o. first_or A o y) e

pub first-none : (A : Type 0) (x y : Option A) → x ≡ None → first_or A x y ≡ y
first-none A x y e = ap (λ o. first_or A o y) e

pub winner-both : (ls more : List Line) (t : TaskId) → winner_of (ls ++ more) t ≡ first_or Attempt (winner_of ls t) (winner_of more t)
unfolding winner_of
winner-both [] more t = refl
winner-both (l ∷ ls) more t = ap (λ o. first_or Attempt (success_at t l) o) (winner-both ls more t) ∙ sym (first-assoc Attempt (success_at t l) (winner_of ls t) (winner_of more t))

pub winner-stays : (ls more : List Line) (t : TaskId) (a : Attempt) → winner_of ls t ≡ Some a → winner_of (ls ++ more) t ≡ Some a
winner-stays ls more t a e = winner-both ls more t ∙ first-stays Attempt (winner_of ls t) (winner_of more t) a e

pub winner-decided : (ls more : List Line) (t : TaskId) → winner_of ls t ≡ None → winner_of (ls ++ more) t ≡ winner_of more t
winner-decided ls more t e = winner-both ls more t ∙ first-none Attempt (winner_of ls t) (winner_of more t) e

pub success-task : (l : Line) (t : TaskId) (a : Attempt) → success_at t l ≡ Some a → a.task ≡ t
success-task (Won b handed) t a e = by (same_task b.task t) refl e
  where
    by : (m : Bool) → same_task b.task t ≡ m → cond m (Some b) None ≡ Some a → a.task ≡ t
    by true is e = let same : b ≡ a = cc in ap (λ (x : Attempt). x.task) (sym same) ∙ task-is b.task t is
    by false is e = absurd (cc)
success-task (Started b) t a e = absurd (cc)
success-task (Failed b) t a e = absurd (cc)
success-task (Interrupted b) t a e = absurd (cc)
success-task Unsuccessful t a e = absurd (cc)
success-task Publish t a e = absurd (cc)
success-task Published t a e = absurd (cc)

pub winner-task : (ls : List Line) (t : TaskId) (a : Attempt) → winner_of ls t ≡ Some a → a.task ≡ t
unfolding winner_of
winner-task [] t a e = absurd (cc)
winner-task (l ∷ ls) t a e = by (success_at t l) refl e (winner-task ls t a)
  where
    by : (o : Option Attempt) → success_at t l ≡ o → first_or Attempt o (winner_of ls t) ≡ Some a → (winner_of ls t ≡ Some a → a.task ≡ t) → a.task ≡ t
    by (Some b) is e go = success-task l t a (is ∙ e)
    by None is e go = go e

-- ---- what was handed in

abbrev pub attempt_of : Option Win → Option Attempt
attempt_of None = None
attempt_of (Some w) = Some w.attempt

attempt-first : (x y : Option Win) → attempt_of (first_or Win x y) ≡ first_or Attempt (attempt_of x) (attempt_of y)
attempt-first (Some w) y = refl
attempt-first None y = refl

win-line : (id : ℕ) (t : TaskId) (l : Line) → attempt_of (win_by id t l) ≡ success_at t l
win-line id t (Won b handed) = by (same_task b.task t)
  where
    by : (m : Bool) → attempt_of (cond m (Some (record { attempt = b; handed = handed; id = id })) None) ≡ cond m (Some b) None
    by true = refl
    by false = refl
win-line id t (Started b) = refl
win-line id t (Failed b) = refl
win-line id t (Interrupted b) = refl
win-line id t Unsuccessful = refl
win-line id t Publish = refl
win-line id t Published = refl

win-among : (id : ℕ) (ls : List Line) (t : TaskId) → attempt_of (win_among id ls t) ≡ winner_of ls t
unfolding win_among winner_of
win-among id [] t = refl
win-among id (l ∷ ls) t =
    attempt-first (win_by id t l) (win_among id ls t)
    ∙ ap (λ o. first_or Attempt o (attempt_of (win_among id ls t))) (win-line id t l)
    ∙ ap (λ o. first_or Attempt (success_at t l) o) (win-among id ls t)

pub win-attempt : (es : List Entry) (t : TaskId) → attempt_of (win_of es t) ≡ winner_of (lines_of es) t
unfolding win_of winner_of lines_of
win-attempt [] t = refl
win-attempt (e ∷ es) t =
    attempt-first (win_among e.origin.id e.lines t) (win_of es t)
    ∙ ap (λ o. first_or Attempt o (attempt_of (win_of es t))) (win-among e.origin.id e.lines t)
    ∙ ap (λ o. first_or Attempt (winner_of e.lines t) o) (win-attempt es t)
    ∙ sym (winner-both e.lines (lines_of es) t)

pub win-stays : (es more : List Entry) (t : TaskId) (w : Win) → win_of es t ≡ Some w → win_of (es ++ more) t ≡ Some w
unfolding win_of
win-stays [] more t w e = absurd (cc)
win-stays (f ∷ es) more t w e = by (win_among f.origin.id f.lines t) e (win-stays es more t w)
  where
    by : (o : Option Win) → first_or Win o (win_of es t) ≡ Some w → (win_of es t ≡ Some w → win_of (es ++ more) t ≡ Some w) → first_or Win o (win_of (es ++ more) t) ≡ Some w
    by (Some v) e go = e
    by None e go = go e

pub win-is : (es : List Entry) (t : TaskId) (w : Win) → win_of es t ≡ Some w → winner_of (lines_of es) t ≡ Some w.attempt
win-is es t w e = sym (win-attempt es t) ∙ ap attempt_of e

pub has-win : (es : List Entry) (t : TaskId) (a : Attempt) → winner_of (lines_of es) t ≡ Some a → (w : Win) × (win_of es t ≡ Some w) × (w.attempt ≡ a)
has-win es t a e = by (win_of es t) refl (win-attempt es t ∙ e)
  where
    by : (o : Option Win) → win_of es t ≡ o → attempt_of o ≡ Some a → (w : Win) × (win_of es t ≡ Some w) × (w.attempt ≡ a)
    by (Some w) is e = let same : w.attempt ≡ a = cc in (w, is, same)
    by None is e = absurd (cc)

pub begun-stays : (es more : List Entry) (a : Attempt) (boot : ℕ) → begun_in es a ≡ Some boot → begun_in (es ++ more) a ≡ Some boot
unfolding begun_in
begun-stays [] more a boot e = absurd (cc)
begun-stays (f ∷ es) more a boot e = by (list_any (is_start_of a) f.lines) e (begun-stays es more a boot)
  where
    by : (m : Bool) → cond m (Some f.origin.boot) (begun_in es a) ≡ Some boot → (begun_in es a ≡ Some boot → begun_in (es ++ more) a ≡ Some boot) → cond m (Some f.origin.boot) (begun_in (es ++ more) a) ≡ Some boot
    by true e go = e
    by false e go = go e

pub lines-both : (es more : List Entry) → lines_of (es ++ more) ≡ lines_of es ++ lines_of more
unfolding lines_of
lines-both [] more = refl
lines-both (e ∷ es) more = ap (λ ls. e.lines ++ ls) (lines-both es more) ∙ sym (append_assoc e.lines (lines_of es) (lines_of more))
