-- What a node's restart and its being given up change, as attempts that end and outputs that are lost.
use Rattle.std.proofs.Common.{ℕ, zero, suc, ◌+◌, ◌≡◌, refl, sym, ◌∙◌, ap, Bool, true, false, ◌||◌, cond, List, [], ◌∷◌, ◌++◌, filter, flat_map, Option, Some, None, append-nil, append_assoc, true≢false, add-one}
use Rattle.std.specs.List.{find}
use Rattle.std.proofs.lemmas.Grind.{flat_map-append}
use Rattle.mr_ids.specs.Attempt.{Attempt}
use Rattle.mr_ids.specs.declared.id.TaskId.{TaskId}
use Rattle.mr_ids.specs.declared.id.TaskKind.{TaskKind}
use Rattle.mr_ids.specs.declared.id.TaskKind.TheVariants.{Map, Reduce}
use Rattle.mr_grant.specs.Attempts.{same_attempt, has}
use Rattle.mr_grant.proofs.Same.{same-is, same-itself}
use Rattle.mr_task.specs.Calls.{Dies, Loses}
use Rattle.mr_task.specs.Readings as task
use Rattle.mr_task.proofs.Arrivals.{arrivals}
use Rattle.mr_master_model.specs.declared.setting.Setting.{Setting}
use Rattle.mr_master_model.specs.Job.{task_of, first_tasks, all_maps, all_reduces, all_tasks}
use Rattle.mr_master_model.specs.Readings.{Seen, of_task, place_of, succeeded, succeeded_where, if_passes, live_where, tell_each}
use Rattle.mr_master_model.specs.Hearing.{of_maps, dead_below, lost_below, after_restart, with_known, given_up_of_maps, lost_on}
use Rattle.mr_master_tables.specs.declared.gone.Gone.{Gone}
use Rattle.mr_master_tables.specs.declared.gone.Gone.TheVariants.{Restarted, GivenUp}
use Rattle.mr_master_tables.specs.Gone.{gone_of, lost_of, is_lost}
use Rattle.mr_master_tasks.specs.Told.{told_all}
use Rattle.mr_master_state.specs.inner.Leaving.{without}
use Rattle.mr_master_tasks.proofs.Telling.{Own, told-all-is}

-- ---- each is of its task

or-second : (b c : Bool) → c ≡ true → (b || c) ≡ true
or-second true c e = refl
or-second false c e = e

pub among-passing : (p : Attempt → Bool) (xs : List Attempt) (a : Attempt) → has (filter p xs) a ≡ true → has xs a ≡ true
among-passing p [] a e = e
among-passing p (x ∷ xs) a e = by (p x) e (among-passing p xs a)
  where
    by : (b : Bool) → has (cond b (x ∷ filter p xs) (filter p xs)) a ≡ true → (has (filter p xs) a ≡ true → has xs a ≡ true) → (same_attempt a x || has xs a) ≡ true
    by true q go = one (same_attempt a x) q
      where
        one : (c : Bool) → (c || has (filter p xs) a) ≡ true → (c || has xs a) ≡ true
        one true r = refl
        one false r = go r
    by false q go = or-second (same_attempt a x) (has xs a) (go q)

live-own : (w : Setting) (s : Seen) (p : Attempt → Bool) (t : TaskId) (a : Attempt) → has (live_where w s p t) a ≡ true → a.task ≡ t
live-own w s p t a e =
    (arrivals t w.app (s.calls t)).of_task a
    (among-passing (task.is_live (of_task w s t)) (of_task w s t).arrived a (among-passing p (task.live (of_task w s t)) a e))

pub gone-own : (w : Setting) (s : Seen) (g : Gone) → Own (gone_of w s g)
gone-own w s (Restarted n i) t a e = live-own w s _ t a e
gone-own w s (GivenUp n) t a e = live-own w s _ t a e

found-among : (p : Attempt → Bool) (xs : List Attempt) (a : Attempt) → find p xs ≡ Some a → has xs a ≡ true
found-among p [] a e = cc
found-among p (x ∷ xs) a e = by (p x) e (found-among p xs a)
  where
    by : (b : Bool) → cond b (Some x) (find p xs) ≡ Some a → (find p xs ≡ Some a → has xs a ≡ true) → (same_attempt a x || has xs a) ≡ true
    by true q go = let same : x ≡ a = cc in ap (λ y. same_attempt a y || has xs a) same ∙ ap (λ b. b || has xs a) (same-itself a)
    by false q go = or-second (same_attempt a x) (has xs a) (go q)

passed-own : (w : Setting) (s : Seen) (p : Attempt → Bool) (t : TaskId) (o : Option Attempt) → succeeded w s t ≡ o → (a : Attempt) → has (if_passes p o) a ≡ true → a.task ≡ t
passed-own w s p t None q a e = absurd (true≢false (sym e))
passed-own w s p t (Some b) q a e = by (p b) e
  where
    own : b.task ≡ t
    own = (arrivals t w.app (s.calls t)).of_task b (found-among (task.has_succeeded (of_task w s t)) (of_task w s t).arrived b q)

    one : (c : Bool) → same_attempt a b ≡ c → (c || false) ≡ true → a.task ≡ t
    one true f r = ap (λ (x : Attempt). x.task) (same-is a b f) ∙ own
    one false f r = absurd (true≢false (sym r))

    by : (c : Bool) → has (cond c (b ∷ []) []) a ≡ true → a.task ≡ t
    by true r = one (same_attempt a b) refl r
    by false r = absurd (true≢false (sym r))

of-maps-own : (t : TaskId) (kind : TaskKind) (xs : List Attempt) → ((a : Attempt) → has xs a ≡ true → a.task ≡ t) → (a : Attempt) → has (of_maps kind xs) a ≡ true → a.task ≡ t
of-maps-own t Map xs h a e = h a e
of-maps-own t Reduce xs h a e = absurd (true≢false (sym e))

pub lost-own : (w : Setting) (s : Seen) (g : Gone) → Own (lost_of w s g)
lost-own w s g t a e = of-maps-own t t.kind (succeeded_where w s (λ b. is_lost g (place_of w s b)) t) (λ b. passed-own w s (λ b. is_lost g (place_of w s b)) t (succeeded w s t) refl b) a e

-- ---- of reduces no output is lost

none-of-reduces : (w : Setting) (s : Seen) (g : Gone) (n : ℕ) → flat_map (lost_of w s g) (first_tasks w Reduce n) ≡ []
unfolding first_tasks
none-of-reduces w s g zero = refl
none-of-reduces w s g (suc n) = flat_map-append (lost_of w s g) (first_tasks w Reduce n) (task_of w Reduce n ∷ []) ∙ ap (λ (l : List Attempt). l ++ []) (none-of-reduces w s g n)

pub lost-of-all : (w : Setting) (s : Seen) (g : Gone) → flat_map (lost_of w s g) (all_maps w) ≡ flat_map (lost_of w s g) (all_tasks w)
lost-of-all w s g = sym (flat_map-append (lost_of w s g) (all_maps w) (all_reduces w) ∙ ap (λ (l : List Attempt). flat_map (lost_of w s g) (all_maps w) ++ l) (none-of-reduces w s g w.reduces) ∙ append-nil (flat_map (lost_of w s g) (all_maps w)))

-- ---- all together

-- the attempts of each task end, and then its output is lost
pub left-is : (w : Setting) (s : Seen) (dead lost : List Attempt) (which those : TaskId → List Attempt) → Own which → Own those → dead ≡ flat_map which (all_tasks w) → lost ≡ flat_map those (all_tasks w)
    → without w s dead lost ≡ tell_each w (tell_each w s (λ a. Dies a) which) (λ a. Loses a) those
left-is w s dead lost which those own owned e f =
    (λ i. record s { calls = told_all w Loses (f i) (told_all w Dies (e i) s.calls) })
    ∙ (λ i. record s { calls = told_all w Loses (flat_map those (all_tasks w)) (told-all-is w Dies which s.calls own i) })
    ∙ (λ i. record s { calls = told-all-is w Loses those (tell_each w s (λ a. Dies a) which).calls owned i })

-- what is seen once a node restarted
pub restart-is : (w : Setting) (s : Seen) (n i : ℕ) (dead lost : List Attempt) → dead ≡ flat_map (gone_of w s (Restarted n i)) (all_tasks w) → lost ≡ flat_map (lost_of w s (Restarted n i)) (all_maps w)
    → with_known (without w s dead lost) n i ≡ with_known (after_restart w s n i) n i
restart-is w s n i dead lost e f =
    ap (λ (r : Seen). with_known r n i)
    (left-is w s dead lost (dead_below w s n i) (lost_below w s n i) (gone-own w s (Restarted n i)) (lost-own w s (Restarted n i)) e (f ∙ lost-of-all w s (Restarted n i)))

-- ---- the loop over maps

pub next-map : {Y : Type 0} (w : Setting) (f : TaskId → List Y) (n : ℕ) (old mid new : List Y) → mid ≡ old ++ flat_map f (first_tasks w Map n) → new ≡ mid ++ f (task_of w Map n) → new ≡ old ++ flat_map f (first_tasks w Map (n + 1))
unfolding first_tasks
next-map {Y} w f n old mid new before now =
    now
    ∙ (λ i. before i ++ f (task_of w Map n))
    ∙ append_assoc old (flat_map f (first_tasks w Map n)) (f (task_of w Map n))
    ∙ ap (λ (l : List Y). old ++ l)
    (ap (λ (l : List Y). flat_map f (first_tasks w Map n) ++ l) (sym (append-nil (f (task_of w Map n))))
    ∙ sym (flat_map-append f (first_tasks w Map n) (task_of w Map n ∷ [])))
    ∙ ap (λ (m : ℕ). old ++ flat_map f (first_tasks w Map m)) (sym (add-one n))

-- ---- a node that is given up

given-of-maps : (w : Setting) (s : Seen) (n m : ℕ) → flat_map (given_up_of_maps w s n) (first_tasks w Reduce m) ≡ []
unfolding first_tasks
given-of-maps w s n zero = refl
given-of-maps w s n (suc m) = flat_map-append (given_up_of_maps w s n) (first_tasks w Reduce m) (task_of w Reduce m ∷ []) ∙ ap (λ (l : List Attempt). l ++ []) (given-of-maps w s n m)

pub given-same : (w : Setting) (s : Seen) (n m : ℕ) → flat_map (gone_of w s (GivenUp n)) (first_tasks w Map m) ≡ flat_map (given_up_of_maps w s n) (first_tasks w Map m)
unfolding first_tasks
given-same w s n zero = refl
given-same w s n (suc m) =
    flat_map-append (gone_of w s (GivenUp n)) (first_tasks w Map m) (task_of w Map m ∷ [])
    ∙ ap (λ (l : List Attempt). l ++ (gone_of w s (GivenUp n) (task_of w Map m) ++ [])) (given-same w s n m)
    ∙ sym (flat_map-append (given_up_of_maps w s n) (first_tasks w Map m) (task_of w Map m ∷ []))

given-all : (w : Setting) (s : Seen) (n : ℕ) → flat_map (gone_of w s (GivenUp n)) (all_maps w) ≡ flat_map (given_up_of_maps w s n) (all_tasks w)
given-all w s n =
    given-same w s n w.maps
    ∙ sym (flat_map-append (given_up_of_maps w s n) (all_maps w) (all_reduces w) ∙ ap (λ (l : List Attempt). flat_map (given_up_of_maps w s n) (all_maps w) ++ l) (given-of-maps w s n w.reduces) ∙ append-nil (flat_map (given_up_of_maps w s n) (all_maps w)))

given-own : (w : Setting) (s : Seen) (n : ℕ) → Own (given_up_of_maps w s n)
given-own w s n t a e = of-maps-own t t.kind (gone_of w s (GivenUp n) t) (λ b. gone-own w s (GivenUp n) t b) a e

pub given-up-is : (w : Setting) (s : Seen) (n : ℕ) (dead lost : List Attempt) → dead ≡ flat_map (gone_of w s (GivenUp n)) (all_maps w) → lost ≡ flat_map (lost_of w s (GivenUp n)) (all_maps w)
    → without w s dead lost ≡ tell_each w (tell_each w s (λ a. Dies a) (given_up_of_maps w s n)) (λ a. Loses a) (lost_on w s n)
given-up-is w s n dead lost e f =
    left-is w s dead lost (given_up_of_maps w s n) (lost_on w s n) (given-own w s n) (lost-own w s (GivenUp n)) (e ∙ given-all w s n) (f ∙ lost-of-all w s (GivenUp n))
