-- What is kept of the successes that records tell, record by record.
use Rattle.std.proofs.Common.{◌≡◌, Bool, true, false, cond, ◌&&◌, ◌==◌, ℕ, List, [], ◌∷◌, ◌++◌, Option, Some, None, refl, sym, ap, ◌∙◌, true≢false}
use Rattle.std.specs.Map.{lookup}
use Rattle.std.specs.Option.{option_map, is_some}
use Rattle.mr_ids.proofs.Same.{task-is}
use Rattle.mr_recover.specs.declared.winner.TaskWinner.{TaskWinner}
use Rattle.mr_recover.specs.Plan.{listed}
use Rattle.mr_ids.specs.Attempt.{Attempt}
use Rattle.mr_ids.specs.Same.{same_task}
use Rattle.mr_ids.specs.declared.id.TaskId.{TaskId}
use Rattle.mr_ids.specs.declared.id.TaskKind.{TaskKind}
use Rattle.mr_ids.specs.declared.id.TaskKind.TheVariants.{Map, Reduce}
use Rattle.mr_ids.specs.contracts.id.AttemptIdPartialEq.TheImpl.{eq-value as attempt-test}
use Rattle.mr_ids.specs.contracts.id.TaskIdPartialEq.TheImpl.{eq-value as task-test}
use Rattle.mr_grant.specs.Attempts.{same_attempt}
use Rattle.mr_grant.proofs.Same.{eq-same, the_same, same-is, same-itself}
use Rattle.mr_history.specs.declared.record.Record.{Record}
use Rattle.mr_history.specs.declared.record.Record.TheVariants.{AttemptStarted, MapSucceeded, ReduceSucceeded, AttemptFailed, JobUnsuccessful}
use Rattle.mr_master_model.specs.Readings.{Place, place_in, newest_in, or_else}
use Rattle.mr_master_tables.specs.Earlier.{told_place, where_told, success_told, TellsPlaces, TellsNewest, TellsSpots, SaysListed}
use Rattle.mr_master_tables.specs.Spots.{Spread, has_spot, Grows}

-- ---- a record as the last

later : {A : Type 0} (a b c : Option A) → or_else (or_else a b) c ≡ or_else a (or_else b c)
later None b c = refl
later (Some x) b c = refl

none-else : {A : Type 0} (o : Option A) → or_else o None ≡ o
none-else None = refl
none-else (Some x) = refl

place-append : (rs : List Record) (r : Record) (a : Attempt) → place_in (rs ++ r ∷ []) a ≡ or_else (place_in (r ∷ []) a) (place_in rs a)
place-append [] r a = sym (none-else (place_in (r ∷ []) a))
place-append (MapSucceeded b n i ∷ rs) r a = ap (λ o. or_else o (place_in (MapSucceeded b n i ∷ []) a)) (place-append rs r a) ∙ later (place_in (r ∷ []) a) (place_in rs a) (place_in (MapSucceeded b n i ∷ []) a)
place-append (ReduceSucceeded b bytes ∷ rs) r a = place-append rs r a
place-append (AttemptStarted b n ∷ rs) r a = place-append rs r a
place-append (AttemptFailed b ∷ rs) r a = place-append rs r a
place-append (JobUnsuccessful ∷ rs) r a = place-append rs r a

newest-append : (rs : List Record) (r : Record) (t : TaskId) → newest_in (rs ++ r ∷ []) t ≡ or_else (newest_in (r ∷ []) t) (newest_in rs t)
newest-append [] r t = sym (none-else (newest_in (r ∷ []) t))
newest-append (MapSucceeded b n i ∷ rs) r t = ap (λ o. or_else o (newest_in (MapSucceeded b n i ∷ []) t)) (newest-append rs r t) ∙ later (newest_in (r ∷ []) t) (newest_in rs t) (newest_in (MapSucceeded b n i ∷ []) t)
newest-append (ReduceSucceeded b bytes ∷ rs) r t = newest-append rs r t
newest-append (AttemptStarted b n ∷ rs) r t = newest-append rs r t
newest-append (AttemptFailed b ∷ rs) r t = newest-append rs r t
newest-append (JobUnsuccessful ∷ rs) r t = newest-append rs r t

-- which record it is that tells a success
pub told-is : (r : Record) (b : Attempt) (n i : ℕ) → Some (b, n, i) ≡ success_told r → r ≡ MapSucceeded b n i
told-is (MapSucceeded c m j) b n i e = sym (ap back e)
  where
    back : Option (Attempt × ℕ × ℕ) → Record
    back None = JobUnsuccessful
    back (Some p) = MapSucceeded p.0 p.1 p.2
told-is (ReduceSucceeded c bytes) b n i e = absurd (cc)
told-is (AttemptStarted c m) b n i e = absurd (cc)
told-is (AttemptFailed c) b n i e = absurd (cc)
told-is JobUnsuccessful b n i e = absurd (cc)

-- ---- the newest takes the place of what was told before

replaced : {A B : Type 0} (f : A → B) (c : Bool) (x : A) (old : Option A) → cond c (Some (f x)) (option_map f old) ≡ option_map f (or_else (cond c (Some x) None) old)
replaced f true x old = refl
replaced f false x old = refl

turned : (a b : Attempt) → attempt-test.it b a ≡ same_attempt a b
turned a b = eq-same b a ∙ by (same_attempt a b) (same_attempt b a) refl refl
  where
    by : (c d : Bool) → same_attempt a b ≡ c → same_attempt b a ≡ d → same_attempt b a ≡ same_attempt a b
    by true d e f = ap (λ (x : Attempt). same_attempt b x) (same-is a b e) ∙ same-itself b ∙ sym e
    by false false e f = f ∙ sym e
    by false true e f = absurd (true≢false (sym (ap (λ (x : Attempt). same_attempt a x) (same-is b a f) ∙ same-itself a) ∙ e))

pub places-more : (old new : List (Attempt × (ℕ × ℕ))) (b : Attempt) (n i : ℕ)
    → ((a : Attempt) → lookup (attempt-test.it a) new ≡ cond (attempt-test.it b a) (Some (n, i)) (lookup (attempt-test.it a) old))
    → (rs : List Record) → TellsPlaces old rs → TellsPlaces new (rs ++ MapSucceeded b n i ∷ [])
places-more old new b n i updates rs tells = λ a.
    (λ k. lookup (sym the_same k a) new) ∙ updates a
    ∙ (λ k. cond (turned a b k) (Some (n, i)) (((λ l. lookup (the_same l a) old) ∙ tells a) k))
    ∙ replaced where_told (same_attempt a b) (record { node = n; incarnation = i }) (place_in rs a)
    ∙ ap (λ (o : Option Place). option_map where_told o) (sym (place-append rs (MapSucceeded b n i) a))

-- a record that tells no success says no place
no-place : (r : Record) (a : Attempt) → None ≡ success_told r → place_in (r ∷ []) a ≡ None
no-place (MapSucceeded c m j) a f = absurd (cc)
no-place (ReduceSucceeded c bytes) a f = refl
no-place (AttemptStarted c m) a f = refl
no-place (AttemptFailed c) a f = refl
no-place JobUnsuccessful a f = refl

pub places-same : (places : List (Attempt × (ℕ × ℕ))) (r : Record) → None ≡ success_told r → (rs : List Record) → TellsPlaces places rs → TellsPlaces places (rs ++ r ∷ [])
places-same places r e rs tells = λ a.
    tells a ∙ ap (λ (o : Option Place). option_map where_told o) (ap (λ (o : Option Place). or_else o (place_in rs a)) (sym (no-place r a e)) ∙ sym (place-append rs r a))

-- ---- the same of the newest of each task

grouped : (p k t : Bool) → (p && (k && t)) ≡ ((p && k) && t)
grouped true k t = refl
grouped false k t = refl

pub task-eq : (t u : TaskId) → task-test.it t u ≡ same_task t u
task-eq t u = by t.kind u.kind
  where
    with_kind : TaskId → TaskKind → TaskId
    with_kind x k = record { job = x.job; kind = k; number = x.number }

    jobs : Bool
    jobs = (t.job.start == u.job.start) && (t.job.number == u.job.number)

    numbers : Bool
    numbers = t.number == u.number

    by : (k l : TaskKind) → task-test.it (with_kind t k) (with_kind u l) ≡ same_task (with_kind t k) (with_kind u l)
    by Map Map = grouped jobs true numbers
    by Map Reduce = grouped jobs false numbers
    by Reduce Map = grouped jobs false numbers
    by Reduce Reduce = grouped jobs true numbers

-- what `==` of tasks answers
pub the-task : task-test.it ≡ same_task
the-task = λ i t u. task-eq t u i

pub newest-more : (old new : List (TaskId × (Attempt × ℕ × ℕ))) (b : Attempt) (n i : ℕ)
    → ((t : TaskId) → lookup (task-test.it t) new ≡ cond (task-test.it b.task t) (Some (b, n, i)) (lookup (task-test.it t) old))
    → (rs : List Record) → TellsNewest old rs → TellsNewest new (rs ++ MapSucceeded b n i ∷ [])
newest-more old new b n i updates rs tells = λ t.
    (λ k. lookup (sym the-task k t) new) ∙ updates t
    ∙ (λ k. cond (task-eq b.task t k) (Some (b, n, i)) (((λ l. lookup (the-task l t) old) ∙ tells t) k))
    ∙ replaced told_place (same_task b.task t) (b, record { node = n; incarnation = i }) (newest_in rs t)
    ∙ ap (λ (o : Option (Attempt × Place)). option_map told_place o) (sym (newest-append rs (MapSucceeded b n i) t))

pub newest-same : (newest : List (TaskId × (Attempt × ℕ × ℕ))) (r : Record) → None ≡ success_told r → (rs : List Record) → TellsNewest newest rs → TellsNewest newest (rs ++ r ∷ [])
newest-same newest r e rs tells = λ t.
    tells t ∙ ap (λ (o : Option (Attempt × Place)). option_map told_place o) (ap (λ (o : Option (Attempt × Place)). or_else o (newest_in rs t)) (sym (nothing r t e)) ∙ sym (newest-append rs r t))
  where
    nothing : (x : Record) (t : TaskId) → None ≡ success_told x → newest_in (x ∷ []) t ≡ None
    nothing (MapSucceeded c m j) t f = absurd (cc)
    nothing (ReduceSucceeded c bytes) t f = refl
    nothing (AttemptStarted c m) t f = refl
    nothing (AttemptFailed c) t f = refl
    nothing JobUnsuccessful t f = refl

-- ---- the nodes of the places

pub spots-more : (old new : Spread) (b : Attempt) (n i : ℕ) → Grows old new → has_spot new b.task.kind n b.task.number ≡ true
    → (rs : List Record) → TellsSpots old rs → TellsSpots new (rs ++ MapSucceeded b n i ∷ [])
spots-more old new b n i grows there rs tells a p at = by (same_attempt a b) refl (sym (place-append rs (MapSucceeded b n i) a) ∙ at)
  where
    place : Option Place → Place
    place None = p
    place (Some q) = q

    by : (c : Bool) → same_attempt a b ≡ c → or_else (cond c (Some (record { node = n; incarnation = i })) None) (place_in rs a) ≡ Some p → has_spot new a.task.kind p.node a.task.number ≡ true
    by true e f =
        let who : a ≡ b = same-is a b e in
        let what : ◌≡◌ {A = Place} (record { node = n; incarnation = i }) p = ap place f in
        (λ k. has_spot new (who k).task.kind (sym what k).node (who k).task.number) ∙ there
    by false e f = grows a.task.kind p.node a.task.number (tells a p f)

pub spots-same : (spread : Spread) (r : Record) → None ≡ success_told r → (rs : List Record) → TellsSpots spread rs → TellsSpots spread (rs ++ r ∷ [])
spots-same spread r e rs tells a p at = tells a p (ap (λ (o : Option Place). or_else o (place_in rs a)) (sym (no-place r a e)) ∙ sym (place-append rs r a) ∙ at)

-- ---- winners by task: the first of each

listed-append : (ws : List TaskWinner) (w : TaskWinner) (t : TaskId) → listed (ws ++ w ∷ []) t ≡ or_else (listed ws t) (cond (same_task w.task t) (Some w) None)
listed-append [] w t = refl
listed-append (x ∷ ws) w t = by (same_task x.task t) (listed-append ws w t)
  where
    by : (b : Bool) → listed (ws ++ w ∷ []) t ≡ or_else (listed ws t) (cond (same_task w.task t) (Some w) None)
        → cond b (Some x) (listed (ws ++ w ∷ []) t) ≡ or_else (cond b (Some x) (listed ws t)) (cond (same_task w.task t) (Some w) None)
    by true rest = refl
    by false rest = rest

-- one of the task is there
pub winners-kept : (m : List (TaskId × TaskWinner)) (w : TaskWinner) → is_some (lookup (task-test.it w.task) m) ≡ true → (ws : List TaskWinner) → SaysListed m ws → SaysListed m (ws ++ w ∷ [])
winners-kept m w there ws says = λ t. says t ∙ sym (listed-append ws w t ∙ by t (same_task w.task t) refl)
  where
    first : (o other : Option TaskWinner) → is_some o ≡ true → or_else o other ≡ o
    first None other e = absurd (cc)
    first (Some x) other e = refl

    by : (t : TaskId) (b : Bool) → same_task w.task t ≡ b → or_else (listed ws t) (cond b (Some w) None) ≡ listed ws t
    by t true e = first (listed ws t) (Some w)
        (ap (λ (u : TaskId). is_some (listed ws u)) (sym (task-is w.task t e)) ∙ ap (λ (o : Option TaskWinner). is_some o) (sym (says w.task)) ∙ (λ k. is_some (lookup (sym the-task k w.task) m)) ∙ there)
    by t false e = none-else (listed ws t)

-- none is
pub winners-more : (old new : List (TaskId × TaskWinner)) (w : TaskWinner) → is_some (lookup (task-test.it w.task) old) ≡ false
    → ((t : TaskId) → lookup (task-test.it t) new ≡ cond (task-test.it w.task t) (Some w) (lookup (task-test.it t) old))
    → (ws : List TaskWinner) → SaysListed old ws → SaysListed new (ws ++ w ∷ [])
winners-more old new w absent updates ws says = λ t.
    (λ k. lookup (sym the-task k t) new) ∙ updates t
    ∙ (λ k. cond (task-eq w.task t k) (Some w) (((λ l. lookup (the-task l t) old) ∙ says t) k))
    ∙ by t (same_task w.task t) refl ∙ sym (listed-append ws w t)
  where
    nothing : (o : Option TaskWinner) → is_some o ≡ false → o ≡ None
    nothing None e = refl
    nothing (Some x) e = absurd (cc)

    by : (t : TaskId) (b : Bool) → same_task w.task t ≡ b → cond b (Some w) (listed ws t) ≡ or_else (listed ws t) (cond b (Some w) None)
    by t true e = ap (λ (o : Option TaskWinner). or_else o (Some w)) (sym (nothing (listed ws t)
        (ap (λ (u : TaskId). is_some (listed ws u)) (sym (task-is w.task t e)) ∙ ap (λ (o : Option TaskWinner). is_some o) (sym (says w.task)) ∙ (λ k. is_some (lookup (sym the-task k w.task) old)) ∙ absent)))
    by t false e = sym (none-else (listed ws t))
