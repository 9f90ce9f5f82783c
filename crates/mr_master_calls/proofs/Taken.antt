-- What succeeded under earlier masters is taken over.
use Rattle.std.proofs.Common.{ℕ, zero, suc, ◌+◌, ◌≡◌, refl, sym, ◌∙◌, ap, subst, Bool, true, false, ◌||◌, cond, List, [], ◌∷◌, ◌++◌, flat_map, append-nil, Option, Some, None, nat_lt, if◌then◌else◌, true≢false}
use Rattle.std.proofs.lemmas.Grind.{flat_map-append}
use Rattle.mr_ids.specs.Attempt.{Attempt}
use Rattle.mr_ids.specs.Same.{same_task}
use Rattle.mr_ids.proofs.Same.{task-is}
use Rattle.mr_ids.specs.declared.id.TaskId.{TaskId}
use Rattle.mr_ids.specs.declared.id.TaskKind.{TaskKind}
use Rattle.mr_ids.specs.declared.id.TaskKind.TheVariants.{Map, Reduce}
use Rattle.mr_grant.specs.Attempts.{same_attempt, has}
use Rattle.mr_grant.proofs.Same.{same-is}
use Rattle.mr_history.specs.declared.record.Record.{Record}
use Rattle.mr_history.specs.declared.record.Record.TheVariants.{MapSucceeded}
use Rattle.mr_recover.specs.declared.winner.TaskWinner.{TaskWinner}
use Rattle.mr_task.specs.Calls.{TaskCall, Recovers}
use Rattle.mr_master_model.specs.declared.setting.Setting.{Setting}
use Rattle.mr_master_model.specs.Job.{task_of, first_tasks, all_maps, all_reduces, all_tasks}
use Rattle.mr_master_model.specs.Readings.{Seen, Place, or_else, newest_in}
use Rattle.mr_master_model.specs.Hearing.{of_maps}
use Rattle.mr_master_model.specs.Answered.{taken, taken_of, with_maps}
use Rattle.mr_master_state.specs.mr_master_tasks.specs.Tasks.{Tasks, KeepsTasks, Enters}
use Rattle.mr_master_state.specs.mr_master_tasks.specs.Told.{told_all}
use Rattle.mr_master_state.specs.mr_master_phase.specs.Taking.{after_winner, after_table}
use Rattle.mr_master_state.specs.mr_master_tasks.proofs.Telling.{Own, told-all-is}

-- ---- the maps' newest successes

newest-own : (t : TaskId) (rs : List Record) (p : Attempt × Place) → newest_in rs t ≡ Some p → p.0.task ≡ t
newest-own t [] p e = cc
newest-own t (MapSucceeded b n j ∷ rs) p e = by (newest_in rs t) refl e (λ q. newest-own t rs p q)
  where
    one : (c : Bool) → same_task b.task t ≡ c → (if c then Some (b, record { node = n; incarnation = j }) else None) ≡ Some p → p.0.task ≡ t
    one true q f = let g : ◌≡◌ {A = Attempt × Place} (b, record { node = n; incarnation = j }) p = cc in ap (λ (x : Attempt × Place). x.0.task) (sym g) ∙ task-is b.task t q
    one false q f = cc

    by : (o : Option (Attempt × Place)) → newest_in rs t ≡ o → or_else o (if same_task b.task t then Some (b, record { node = n; incarnation = j }) else None) ≡ Some p → (newest_in rs t ≡ Some p → p.0.task ≡ t) → p.0.task ≡ t
    by None q f go = one (same_task b.task t) refl f
    by (Some x) q f go = go (q ∙ f)
newest-own t (_ ∷ rs) p e = newest-own t rs p e

taken-here : (s : Seen) (t : TaskId) (o : Option (Attempt × Place)) → newest_in s.earlier t ≡ o → (a : Attempt) → has (taken s o) a ≡ true → a.task ≡ t
taken-here s t None q a e = absurd (true≢false (sym e))
taken-here s t (Some p) q a e = by (nat_lt p.1.incarnation (s.known p.1.node)) e
  where
    one : (c : Bool) → same_attempt a p.0 ≡ c → (c || false) ≡ true → a.task ≡ t
    one true f r = ap (λ (x : Attempt). x.task) (same-is a p.0 f) ∙ newest-own t s.earlier p q
    one false f r = absurd (true≢false (sym r))

    by : (c : Bool) → has (cond c [] (p.0 ∷ [])) a ≡ true → a.task ≡ t
    by true r = absurd (true≢false (sym r))
    by false r = one (same_attempt a p.0) refl r

taken-own : (s : Seen) → Own (taken_of s)
taken-own s t a e = by t.kind e
  where
    by : (kind : TaskKind) → has (of_maps kind (taken s (newest_in s.earlier t))) a ≡ true → a.task ≡ t
    by Map r = taken-here s t (newest_in s.earlier t) refl a r
    by Reduce r = absurd (true≢false (sym r))

none-of-reduces : (w : Setting) (s : Seen) (n : ℕ) → flat_map (taken_of s) (first_tasks w Reduce n) ≡ []
unfolding first_tasks
none-of-reduces w s zero = refl
none-of-reduces w s (suc n) = flat_map-append (taken_of s) (first_tasks w Reduce n) (task_of w Reduce n ∷ []) ∙ ap (λ (l : List Attempt). l ++ []) (none-of-reduces w s n)

taken-of-all : (w : Setting) (s : Seen) → flat_map (taken_of s) (all_maps w) ≡ flat_map (taken_of s) (all_tasks w)
taken-of-all w s = sym (flat_map-append (taken_of s) (all_maps w) (all_reduces w) ∙ ap (λ (l : List Attempt). flat_map (taken_of s) (all_maps w) ++ l) (none-of-reduces w s w.reduces) ∙ append-nil (flat_map (taken_of s) (all_maps w)))

-- entering them is what is seen where the master begins to run
pub maps-enter : (old new : Tasks) (v w : Setting) (s : Seen) (xs : List Attempt) → v ≡ w → xs ≡ flat_map (taken_of s) (all_maps w) → Enters old v xs new → (calls : TaskId → List TaskCall) → KeepsTasks old w calls
    → KeepsTasks new w (with_maps w (record s { calls = calls })).calls
maps-enter old new v w s xs e q enters calls k =
    subst (λ (c : TaskId → List TaskCall). KeepsTasks new w c)
    (ap (λ (l : List Attempt). told_all w (λ y. Recovers y) l calls) (q ∙ taken-of-all w s) ∙ told-all-is w (λ y. Recovers y) (taken_of s) calls (taken-own s))
    (subst (λ (x : Setting). Enters old x xs new) e enters calls k)

-- ---- after the last call of a table

pub begins-so : (new : Tasks) (w : Setting) (s : Seen) (o : Option TaskWinner) (runs : Bool) → runs ≡ true → KeepsTasks new w (with_maps w (after_winner s o)).calls → KeepsTasks new w (after_table w s o runs).calls
begins-so new w s o runs e k = subst (λ (b : Bool). KeepsTasks new w (after_table w s o b).calls) (sym e) k
