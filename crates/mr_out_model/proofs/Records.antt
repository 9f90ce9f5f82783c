-- What a record that is appended or made durable leaves of the invariant.
use Rattle.std.proofs.Common.{if◌then◌else◌, ◌≡◌, ◌⊎◌, inl, inr, ◌<◌, ℕ, Bool, true, false, ◌||◌, ◌&&◌, cond, nat_lt, List, [], ◌∷◌, ◌++◌, Option, Some, None, refl, sym, ap, subst, ◌∙◌, append_assoc, append-nil, true≢false}
use Rattle.std.specs.List.{list_any}
use Rattle.std.proofs.lemmas.List.Folds.{list_any-append}
use Rattle.std.proofs.lemmas.Bool.{ltb-true}
use Rattle.mr_ids.specs.Attempt.{Attempt}
use Rattle.mr_ids.specs.Same.{same_task, same_attempt}
use Rattle.mr_ids.specs.declared.id.TaskId.{TaskId}
use Rattle.mr_ids.proofs.Same.{task-is, same_attempt-is, same_attempt-itself}
use Rattle.mr_history.specs.declared.record.Record.{Record}
use Rattle.mr_history.specs.declared.record.Record.TheVariants.{AttemptStarted, MapSucceeded, ReduceSucceeded, AttemptFailed, JobUnsuccessful}
use Rattle.mr_history.specs.Winner.{winner_in}
use Rattle.mr_history.proofs.Winners.{winner-stays, winner-decided, winner-of}
use Rattle.mr_out_disk.specs.Disk.{Moments}
use Rattle.mr_out_steps.specs.Standing.{task_of, is_of_job, tells_failure, tells_end, is_over}
use Rattle.mr_out_model.specs.Worlds.{Setting, Telling}
use Rattle.mr_out_model.specs.Runs.{IsWriters}
use Rattle.mr_out_model.specs.Promises.{HasTold, HasToldLoss}
use Rattle.mr_out_model.proofs.Moments.{Every, EveryOf, every-map}
use Rattle.mr_out_model.proofs.Standings.{IsOpen, Why}
use Rattle.mr_out_model.proofs.Invariant.{View, all_records, IsFile, IsThere, IfThere, IfGone, Wins, PartOf, IsPart, Shown, Stand, Published, IsStored, File, OfJob, Core, Lost, Told, Durable, Opens}

pub some-one : (m n : ℕ) → Some m ≡ Some n → m ≡ n
some-one m n e = cc

pub none-some : (x : Option ℕ) (f : ℕ) → x ≡ None → x ≡ Some f → ⊥
none-some x f n e = absurd (cc)

pub no-winner : (x : Option Attempt) (a : Attempt) → x ≡ None → x ≡ Some a → ⊥
no-winner x a n e = absurd (cc)

-- ---- winners

pub wins-more : (rs more : List Record) (a : Attempt) → Wins rs a → Wins (rs ++ more) a
wins-more rs more a w = (winner-stays rs more a.task a w).0

-- two winners of one task are one
pub one-winner : (rs : List Record) (t : TaskId) (a b : Attempt) → winner_in rs t ≡ Some a → winner_in rs t ≡ Some b → a ≡ b
one-winner rs t a b v w = cc

-- a winner of a task wins
pub wins-own : (rs : List Record) (t : TaskId) (a : Attempt) → winner_in rs t ≡ Some a → Wins rs a
wins-own rs t a w = ap (λ (u : TaskId). winner_in rs u) (winner-of rs t a w) ∙ w

-- a record that tells no success changes no winner
abbrev pub IsPlain : Record → Type 0
IsPlain r = (t : TaskId) → winner_in (r ∷ []) t ≡ None

pub same-winner : (rs : List Record) (r : Record) (t : TaskId) → IsPlain r → winner_in (rs ++ r ∷ []) t ≡ winner_in rs t
same-winner rs r t plain = by (winner_in rs t) refl
  where
    by : (o : Option Attempt) → winner_in rs t ≡ o → winner_in (rs ++ r ∷ []) t ≡ winner_in rs t
    by None w = (winner-decided rs (r ∷ []) t w).0 ∙ plain t ∙ sym w
    by (Some b) w = (winner-stays rs (r ∷ []) t b w).0 ∙ sym w

pub failure-plain : (a : Attempt) → IsPlain (AttemptFailed a)
unfolding winner_in
failure-plain a t = refl

pub start-plain : (a : Attempt) (node : ℕ) → IsPlain (AttemptStarted a node)
unfolding winner_in
start-plain a node t = refl

pub map-plain : (a : Attempt) (node incarnation : ℕ) → IsPlain (MapSucceeded a node incarnation)
unfolding winner_in
map-plain a node incarnation t = refl

pub end-plain : IsPlain JobUnsuccessful
unfolding winner_in
end-plain t = refl

success-of : (a : Attempt) (bytes : Option ℕ) (t : TaskId) (b : Attempt) → winner_in (ReduceSucceeded a bytes ∷ []) t ≡ Some b → a ≡ b
unfolding winner_in
success-of a bytes t b w = by (same_task a.task t) w
  where
    by : (m : Bool) → cond m (Some a) None ≡ Some b → a ≡ b
    by true e = cc
    by false e = absurd (cc)

-- ---- a success is appended

abbrev pub appended_too : View → Record → View
appended_too v r = record v { appended = v.appended ++ r ∷ [] }

regrouped : (v : View) (r : Record) → all_records (appended_too v r) ≡ all_records v ++ r ∷ []
regrouped v r = sym (append_assoc v.synced v.appended (r ∷ []))

-- who wins behind the record won before it, or is its attempt
before-or-now : (v : View) (a : Attempt) (bytes : Option ℕ) (b : Attempt) → Wins (all_records (appended_too v (ReduceSucceeded a bytes))) b → Wins (all_records v) b ⊎ (a ≡ b)
before-or-now v a bytes b w =
    let at : winner_in (all_records v ++ ReduceSucceeded a bytes ∷ []) b.task ≡ Some b = ap (λ (rs : List Record). winner_in rs b.task) (sym (regrouped v (ReduceSucceeded a bytes))) ∙ w in
    by (winner_in (all_records v) b.task) refl at
  where
    by : (o : Option Attempt) → winner_in (all_records v) b.task ≡ o → winner_in (all_records v ++ ReduceSucceeded a bytes ∷ []) b.task ≡ Some b → Wins (all_records v) b ⊎ (a ≡ b)
    by None n w = inr (success-of a bytes b.task b (sym (winner-decided (all_records v) (ReduceSucceeded a bytes ∷ []) b.task n).0 ∙ w))
    by (Some x) n w =
        let stays : winner_in (all_records v ++ ReduceSucceeded a bytes ∷ []) b.task ≡ Some x = (winner-stays (all_records v) (ReduceSucceeded a bytes ∷ []) b.task x n).0 in
        let same : x ≡ b = one-winner (all_records v ++ ReduceSucceeded a bytes ∷ []) b.task x b stays w in
        inl (n ∙ ap (λ (y : Attempt). Some y) same)

-- the file that an attempt handed in, once its success was appended
abbrev pub handed_now : (Attempt → Option ℕ) → Attempt → Option ℕ → Attempt → Option ℕ
handed_now h a file = λ b. if same_attempt a b then file else h b

-- no other attempt's file is another one
pub handed-other : (h : Attempt → Option ℕ) (a b : Attempt) (file : Option ℕ) → (a ≡ b → ⊥) → handed_now h a file b ≡ h b
handed-other h a b file other = by (same_attempt a b) refl
  where
    by : (m : Bool) → same_attempt a b ≡ m → cond m file (h b) ≡ h b
    by true e = absurd (other (same_attempt-is a b e))
    by false e = refl

handed-own : (h : Attempt → Option ℕ) (a b : Attempt) (file : Option ℕ) → a ≡ b → handed_now h a file b ≡ file
handed-own h a b file e = ap (λ m. cond m file (h b)) (ap (same_attempt a) (sym e) ∙ same_attempt-itself a)

-- who won before is another
pub another : (synced : List Record) (a b : Attempt) → winner_in synced a.task ≡ None → Wins synced b → a ≡ b → ⊥
another synced a b none w e = no-winner (winner_in synced b.task) b (ap (λ (x : Attempt). winner_in synced x.task) (sym e) ∙ none) w

pub part-handed : (s : Setting) (synced : List Record) (h k : Attempt → Option ℕ) (n : ℕ) → ((b : Attempt) → Wins synced b → k b ≡ h b) → (x : Option ℕ) → IsPart s synced h n x → IsPart s synced k n x
part-handed s synced h k n same None p = tt
part-handed s synced h k n same (Some f) p = record { winner = p.winner; recorded = p.recorded; handed = same p.winner (wins-own synced (task_of s.job n) p.winner p.recorded) ∙ p.handed }

pub stand-handed : (s : Setting) (synced : List Record) (part : ℕ → Moments) (h k : Attempt → Option ℕ) → ((b : Attempt) → Wins synced b → k b ≡ h b) → Stand s synced part h → Stand s synced part k
stand-handed s synced part h k same st = record { all = st.all; each = λ a w. let x = st.each a w in record { file = x.file; handed = same a w ∙ x.handed; every = x.every } }

pub if-there-map : (X Y : Type 0) → (X → Y) → (x : Option ℕ) → IfThere X x → IfThere Y x
if-there-map X Y f None i = tt
if-there-map X Y f (Some n) i = f i

pub if-gone-map : (X Y : Type 0) → (X → Y) → (x : Option ℕ) → IfGone X x → IfGone Y x
if-gone-map X Y f None i = f i
if-gone-map X Y f (Some n) i = tt

-- what stood published stands so still, at each moment in which the history was forgotten
pub forgotten-map : (s : Setting) (rs qs : List Record) (part part_later : ℕ → Moments) (marker marker_later : Moments) (h k : Attempt → Option ℕ) (home : Moments)
    → (Stand s rs part h → Stand s qs part_later k) → (Every IsThere marker → Every IsThere marker_later)
    → Every (IfGone (Published s rs part marker h)) home → Every (IfGone (Published s qs part_later marker_later k)) home
forgotten-map s rs qs part part_later marker marker_later h k home f g e =
    every-map (IfGone (Published s rs part marker h)) (IfGone (Published s qs part_later marker_later k)) home (if-gone-map (Published s rs part marker h) (Published s qs part_later marker_later k) still) e
  where
    still : Published s rs part marker h → Published s qs part_later marker_later k
    still p = record { stand = f p.stand; marked = g p.marked }

pub none-all : (v : View) → v.appended ≡ [] → all_records v ≡ v.synced
none-all v e = ap (λ (rs : List Record). v.synced ++ rs) e ∙ append-nil v.synced

both : (x y : Bool) → (x && y) ≡ true → (x ≡ true) × (y ≡ true)
both true true e = (refl, refl)
both true false e = absurd (cc)
both false y e = absurd (cc)

pub of-job : (s : Setting) (a : Attempt) → is_of_job s.job s.tasks a ≡ true → OfJob s a
of-job s a e = let p = both (same_task a.task (task_of s.job a.task.number)) (nat_lt a.task.number s.tasks) e in record { task = task-is a.task (task_of s.job a.task.number) p.0; number = ltb-true _ _ p.1 }

pub core-success : (s : Setting) (v : View) (h : Attempt → Option ℕ) (a : Attempt) (bytes : Option ℕ) → Core s v h → v.appended ≡ [] → Opens s v a → Durable (v.kept a) v.whole
    → Core s (appended_too v (ReduceSucceeded a bytes)) (handed_now h a (v.kept a).now)
core-success s v h a bytes c none opens durable = record {
  parts = λ n. every-map (IsPart s v.synced h n) (IsPart s v.synced k n) (v.part n) (part-handed s v.synced h k n same) (c.parts n);
  marker = every-map (IfThere (Stand s v.synced v.part h)) (IfThere (Stand s v.synced v.part k)) v.marker (if-there-map _ _ (stand-handed s v.synced v.part h k same)) c.marker;
  files = λ b w. file b (before-or-now v a bytes b w);
  of_job = λ b w. own b (before-or-now v a bytes b w);
  kept = c.kept;
  released = c.released;
  released_mark = c.released_mark;
  forgotten = forgotten-map s v.synced v.synced v.part v.part v.marker v.marker h k v.home (stand-handed s v.synced v.part h k same) (λ e. e) c.forgotten;
}
  where
    k : Attempt → Option ℕ
    k = handed_now h a (v.kept a).now

    same : (b : Attempt) → Wins v.synced b → k b ≡ h b
    same b w = handed-other h a b (v.kept a).now (another v.synced a b opens.unwon w)

    durable_file : (b : Attempt) → a ≡ b → File s v.whole (v.kept b) (v.part b.task.number) v.marker k b
    durable_file b e =
        let now : (v.kept a).now ≡ Some durable.file = durable.every.0 in
        let P : Attempt → Type 0 = λ x. Every (IsFile durable.file) (v.kept x) in
        let W : Option ℕ → Type 0 = λ x. IsWriters s a x in
        record {
          file = durable.file;
          handed = handed-own h a b (v.kept a).now e ∙ now;
          is_whole = durable.is_whole;
          writer = subst W now (c.kept a).0 ∙ e;
          stored = inl (subst P e durable.every);
        }

    file : (b : Attempt) → Wins (all_records v) b ⊎ (a ≡ b) → File s v.whole (v.kept b) (v.part b.task.number) v.marker k b
    file b (inl w) =
        let x = c.files b w in
        let synced : Wins v.synced b = ap (λ (rs : List Record). winner_in rs b.task) (sym (none-all v none)) ∙ w in
        record { file = x.file; handed = same b synced ∙ x.handed; is_whole = x.is_whole; writer = x.writer; stored = x.stored }
    file b (inr e) = durable_file b e

    own : (b : Attempt) → Wins (all_records v) b ⊎ (a ≡ b) → OfJob s b
    own b (inl w) = c.of_job b w
    own b (inr e) = let P : Attempt → Type 0 = λ x. OfJob s x in subst P e (of-job s a opens.of_job)

-- ---- another record is appended

pub plain-all : (v : View) (r : Record) (t : TaskId) → IsPlain r → winner_in (all_records (appended_too v r)) t ≡ winner_in (all_records v) t
plain-all v r t plain = ap (λ (rs : List Record). winner_in rs t) (regrouped v r) ∙ same-winner (all_records v) r t plain

pub core-plain : (s : Setting) (v : View) (h : Attempt → Option ℕ) (r : Record) → Core s v h → IsPlain r → Core s (appended_too v r) h
core-plain s v h r c plain = record {
  parts = c.parts;
  marker = c.marker;
  files = λ a w. c.files a (sym (plain-all v r a.task plain) ∙ w);
  of_job = λ a w. c.of_job a (sym (plain-all v r a.task plain) ∙ w);
  kept = c.kept;
  released = c.released;
  released_mark = c.released_mark;
  forgotten = c.forgotten;
}

-- ---- what was appended is made durable

abbrev pub synced_too : View → View
synced_too v = record v { synced = v.synced ++ v.appended; appended = [] }

pub part-grows : (s : Setting) (synced more : List Record) (h : Attempt → Option ℕ) (n : ℕ) (x : Option ℕ) → IsPart s synced h n x → IsPart s (synced ++ more) h n x
part-grows s synced more h n None p = tt
part-grows s synced more h n (Some f) p = record { winner = p.winner; recorded = (winner-stays synced more (task_of s.job n) p.winner p.recorded).0; handed = p.handed }

-- where every task has a winner, there are no others later
pub no-others : (s : Setting) (synced more : List Record) → ((n : ℕ) → n < s.tasks → (a : Attempt) × (winner_in synced (task_of s.job n) ≡ Some a)) → (a : Attempt) → OfJob s a → Wins (synced ++ more) a → Wins synced a
no-others s synced more all a own w =
    let p = all a.task.number own.number in
    let was : winner_in synced a.task ≡ Some p.0 = ap (λ (t : TaskId). winner_in synced t) own.task ∙ p.1 in
    let is : winner_in (synced ++ more) a.task ≡ Some p.0 = (winner-stays synced more a.task p.0 was).0 in
    was ∙ ap (λ (x : Attempt). Some x) (one-winner (synced ++ more) a.task p.0 a is w)

pub stand-grows : (s : Setting) (synced more : List Record) (part : ℕ → Moments) (h : Attempt → Option ℕ) → ((a : Attempt) → Wins (synced ++ more) a → OfJob s a) → Stand s synced part h → Stand s (synced ++ more) part h
stand-grows s synced more part h own st = record {
  all = λ n l. let p = st.all n l in (p.0, (winner-stays synced more (task_of s.job n) p.0 p.1).0);
  each = λ a w. st.each a (no-others s synced more st.all a (own a w) w);
}

pub core-sync : (s : Setting) (v : View) (h : Attempt → Option ℕ) → Core s v h → Core s (synced_too v) h
core-sync s v h c = record {
  parts = λ n. every-map (IsPart s v.synced h n) (IsPart s (v.synced ++ v.appended) h n) (v.part n) (part-grows s v.synced v.appended h n) (c.parts n);
  marker = every-map (IfThere (Stand s v.synced v.part h)) (IfThere (Stand s (v.synced ++ v.appended) v.part h)) v.marker (if-there-map _ _ (stand-grows s v.synced v.appended v.part h c.of_job)) c.marker;
  files = λ a w. c.files a (was a w);
  of_job = λ a w. c.of_job a (was a w);
  kept = c.kept;
  released = c.released;
  released_mark = c.released_mark;
  forgotten = forgotten-map s v.synced (v.synced ++ v.appended) v.part v.part v.marker v.marker h h v.home (stand-grows s v.synced v.appended v.part h c.of_job) (λ e. e) c.forgotten;
}
  where
    was : (a : Attempt) → Wins (all_records (synced_too v)) a → Wins (all_records v) a
    was a w = ap (λ (rs : List Record). winner_in rs a.task) (sym (append-nil (v.synced ++ v.appended))) ∙ w

-- ---- what was told

or-left : (x y : Bool) → x ≡ true → (x || y) ≡ true
or-left true y e = refl
or-left false y e = absurd (cc)

pub why-grows : (rs more : List Record) (a : Attempt) → Why rs a → Why (rs ++ more) a
why-grows rs more a (inl f) = inl (list_any-append (tells_failure a) rs more ∙ or-left (list_any (tells_failure a) rs) (list_any (tells_failure a) more) f)
why-grows rs more a (inr (inl o)) = inr (inl (list_any-append tells_end rs more ∙ or-left (list_any tells_end rs) (list_any tells_end more) o))
why-grows rs more a (inr (inr p)) = inr (inr (p.0, (winner-stays rs more a.task p.0 p.1).0))

-- who can win no more is not under way
pub why-not-open : (s : Setting) (v : View) (a : Attempt) → Why v.synced a → Opens s v a → ⊥
why-not-open s v a (inl f) o = true≢false (sym f ∙ o.stands)
why-not-open s v a (inr (inl e)) o = true≢false (sym e ∙ o.goes_on)
why-not-open s v a (inr (inr p)) o = no-winner (winner_in v.synced a.task) p.0 o.unwon p.1

pub told-success : (s : Setting) (v : View) (ts : List Telling) (a : Attempt) (bytes : Option ℕ) → Told v.synced (all_records v) ts → Opens s v a → Told v.synced (all_records (appended_too v (ReduceSucceeded a bytes))) ts
told-success s v ts a bytes t opens = record { won = t.won; lost = λ b l. let x = t.lost b l in record { why = x.why; never = λ w. by b x (before-or-now v a bytes b w) } }
  where
    by : (b : Attempt) → Lost v.synced (all_records v) b → Wins (all_records v) b ⊎ (a ≡ b) → ⊥
    by b x (inl w) = x.never w
    by b x (inr e) = let P : Attempt → Type 0 = λ y. Why v.synced y in why-not-open s v a (subst P (sym e) x.why) opens

pub told-plain : (v : View) (ts : List Telling) (r : Record) → Told v.synced (all_records v) ts → IsPlain r → Told v.synced (all_records (appended_too v r)) ts
told-plain v ts r t plain = record { won = t.won; lost = λ b l. let x = t.lost b l in record { why = x.why; never = λ w. x.never (sym (plain-all v r b.task plain) ∙ w) } }

pub told-sync : (v : View) (ts : List Telling) → Told v.synced (all_records v) ts → Told (v.synced ++ v.appended) (all_records (synced_too v)) ts
told-sync v ts t = record {
  won = λ a e. wins-more v.synced v.appended a (t.won a e);
  lost = λ a l. let x = t.lost a l in record { why = why-grows v.synced v.appended a x.why; never = λ w. x.never (ap (λ (rs : List Record). winner_in rs a.task) (sym (append-nil (v.synced ++ v.appended))) ∙ w) };
}
