-- The first success of a reduce stays the first, and so does its length.
use Rattle.std.proofs.Common.{◌≡◌, ℕ, Bool, true, false, cond, nat_eq, List, [], ◌∷◌, ◌++◌, Option, Some, None, is_some, is_none, refl, sym, ap, ◌∙◌}
use Rattle.std.specs.List.{AllByRecursion}
use Rattle.mr_ids.specs.Attempt.{Attempt}
use Rattle.mr_ids.specs.Same.{same_task}
use Rattle.mr_ids.specs.declared.id.TaskId.{TaskId}
use Rattle.mr_ids.proofs.Same.{task-is}
use Rattle.mr_history.specs.declared.record.Record.{Record}
use Rattle.mr_history.specs.declared.record.Record.TheVariants.{AttemptStarted, MapSucceeded, ReduceSucceeded, AttemptFailed, JobUnsuccessful}
use Rattle.mr_history.specs.State.{SegmentState}
use Rattle.mr_history.specs.Line.{IsRecordOf}
use Rattle.mr_history.specs.Reading.{records_of}
use Rattle.mr_history.specs.Segment.{IsSound}
use Rattle.mr_history.specs.Calls.{records_in}
use Rattle.mr_history.specs.Laws.{MadeIn}
use Rattle.mr_history.specs.Winner.{winner_in, length_in}
use Rattle.mr_history.proofs.Segments.{sound_stable}

pub winner-stays : (rs more : List Record) (t : TaskId) (a : Attempt) → winner_in rs t ≡ Some a → (winner_in (rs ++ more) t ≡ Some a) × (length_in (rs ++ more) t ≡ length_in rs t)
unfolding winner_in length_in
winner-stays [] more t a e = absurd (cc)
winner-stays (ReduceSucceeded b bytes ∷ rs) more t a e = by (same_task b.task t) e (winner-stays rs more t a)
  where
    by : (m : Bool) → cond m (Some b) (winner_in rs t) ≡ Some a → (winner_in rs t ≡ Some a → (winner_in (rs ++ more) t ≡ Some a) × (length_in (rs ++ more) t ≡ length_in rs t)) →
        (cond m (Some b) (winner_in (rs ++ more) t) ≡ Some a) × (cond m bytes (length_in (rs ++ more) t) ≡ cond m bytes (length_in rs t))
    by true e go = (e, refl)
    by false e go = go e
winner-stays (AttemptStarted b node ∷ rs) more t a e = winner-stays rs more t a e
winner-stays (MapSucceeded b node incarnation ∷ rs) more t a e = winner-stays rs more t a e
winner-stays (AttemptFailed b ∷ rs) more t a e = winner-stays rs more t a e
winner-stays (JobUnsuccessful ∷ rs) more t a e = winner-stays rs more t a e

-- with no winner yet, what is added decides
pub winner-decided : (rs more : List Record) (t : TaskId) → winner_in rs t ≡ None → (winner_in (rs ++ more) t ≡ winner_in more t) × (length_in (rs ++ more) t ≡ length_in more t)
unfolding winner_in length_in
winner-decided [] more t e = (refl, refl)
winner-decided (ReduceSucceeded b bytes ∷ rs) more t e = by (same_task b.task t) e (winner-decided rs more t)
  where
    by : (m : Bool) → cond m (Some b) (winner_in rs t) ≡ None → (winner_in rs t ≡ None → (winner_in (rs ++ more) t ≡ winner_in more t) × (length_in (rs ++ more) t ≡ length_in more t)) →
        (cond m (Some b) (winner_in (rs ++ more) t) ≡ winner_in more t) × (cond m bytes (length_in (rs ++ more) t) ≡ length_in more t)
    by true e go = absurd (cc)
    by false e go = go e
winner-decided (AttemptStarted b node ∷ rs) more t e = winner-decided rs more t e
winner-decided (MapSucceeded b node incarnation ∷ rs) more t e = winner-decided rs more t e
winner-decided (AttemptFailed b ∷ rs) more t e = winner-decided rs more t e
winner-decided (JobUnsuccessful ∷ rs) more t e = winner-decided rs more t e

pub winner-of : (rs : List Record) (t : TaskId) (a : Attempt) → winner_in rs t ≡ Some a → a.task ≡ t
unfolding winner_in
winner-of [] t a e = absurd (cc)
winner-of (ReduceSucceeded b bytes ∷ rs) t a e = by (same_task b.task t) refl e (winner-of rs t a)
  where
    by : (m : Bool) → same_task b.task t ≡ m → cond m (Some b) (winner_in rs t) ≡ Some a → (winner_in rs t ≡ Some a → a.task ≡ t) → a.task ≡ t
    by true is e go = let same : b ≡ a = cc in ap (λ (x : Attempt). x.task) (sym same) ∙ task-is b.task t is
    by false is e go = go e
winner-of (AttemptStarted b node ∷ rs) t a e = winner-of rs t a e
winner-of (MapSucceeded b node incarnation ∷ rs) t a e = winner-of rs t a e
winner-of (AttemptFailed b ∷ rs) t a e = winner-of rs t a e
winner-of (JobUnsuccessful ∷ rs) t a e = winner-of rs t a e

-- ---- lengths

has_length : (two : Bool) (bytes : Option ℕ) → cond two (is_some bytes) (is_none bytes) ≡ true → is_some bytes ≡ two
has_length true bytes e = e
has_length false None e = refl
has_length false (Some n) e = sym e

winner-length : (version : ℕ) (rs : List Record) (t : TaskId) (a : Attempt) → AllByRecursion (IsRecordOf version) rs → winner_in rs t ≡ Some a → is_some (length_in rs t) ≡ nat_eq version 2
unfolding winner_in length_in
winner-length version [] t a h e = absurd (cc)
winner-length version (ReduceSucceeded b bytes ∷ rs) t a h e = by (same_task b.task t) e (winner-length version rs t a h.1)
  where
    by : (m : Bool) → cond m (Some b) (winner_in rs t) ≡ Some a → (winner_in rs t ≡ Some a → is_some (length_in rs t) ≡ nat_eq version 2) → is_some (cond m bytes (length_in rs t)) ≡ nat_eq version 2
    by true e go = has_length (nat_eq version 2) bytes h.0.1
    by false e go = go e
winner-length version (AttemptStarted b node ∷ rs) t a h e = winner-length version rs t a h.1 e
winner-length version (MapSucceeded b node incarnation ∷ rs) t a h e = winner-length version rs t a h.1 e
winner-length version (AttemptFailed b ∷ rs) t a h e = winner-length version rs t a h.1 e
winner-length version (JobUnsuccessful ∷ rs) t a h e = winner-length version rs t a h.1 e

none-in : (t : TaskId) → winner_in [] t ≡ None
unfolding winner_in
none-in t = refl

none-is : (t : TaskId) (a : Attempt) → winner_in [] t ≡ Some a → ⊥
unfolding winner_in
none-is t a e = absurd (cc)

pub made_in : (segments : List SegmentState) (t : TaskId) (a : Attempt) → AllByRecursion IsSound segments → winner_in (records_in segments) t ≡ Some a → MadeIn segments t a
made_in [] t a h e = absurd (none-is t a e)
made_in (s ∷ ss) t a h e = by (winner_in (records_of s.stable) t) refl (made_in ss t a h.1)
  where
    here : (b : Attempt) → winner_in (records_of s.stable) t ≡ Some b → MadeIn (s ∷ ss) t a
    here b w =
        let stay = winner-stays (records_of s.stable) (records_in ss) t b w in
        let same : Some b ≡ Some a = sym stay.0 ∙ e in
        record {
          before = [];
          by = s;
          after = ss;
          is = refl;
          none_before = none-in t;
          first = w ∙ same;
          same_length = stay.1;
          has_length = ap is_some stay.1 ∙ winner-length s.version (records_of s.stable) t b (sound_stable s h.0) w;
        }

    later : winner_in (records_of s.stable) t ≡ None → MadeIn ss t a → MadeIn (s ∷ ss) t a
    later w m =
        let all = (winner-decided (records_of s.stable) (records_in ss) t w).1 in
        record {
          before = s ∷ m.before;
          by = m.by;
          after = m.after;
          is = ap (λ l. s ∷ l) m.is;
          none_before = (winner-decided (records_of s.stable) (records_in m.before) t w).0 ∙ m.none_before;
          first = m.first;
          same_length = all ∙ m.same_length;
          has_length = ap is_some all ∙ m.has_length;
        }

    by : (o : Option Attempt) → winner_in (records_of s.stable) t ≡ o → (winner_in (records_in ss) t ≡ Some a → MadeIn ss t a) → MadeIn (s ∷ ss) t a
    by (Some b) w go = here b w
    by None w go = later w (go (sym (winner-decided (records_of s.stable) (records_in ss) t w).0 ∙ e))
