-- What happens to the committed directories, and so that the invariant on directories is kept.
use Rattle.std.proofs.Common.{ℕ, ◌≤◌, ◌<◌, ◌≡◌, refl, sym, ◌∙◌, ap, subst, Bool, true, false, List, [], ◌∷◌, ◌++◌, Some, None, is_none, ◌⊎◌, inl, inr, append-nil, arith, length}
use Rattle.std.proofs.lemmas.Bool.{false≢true, true≢false, cases_lt}
use Rattle.mr_world_model.specs.Ids.{Path, Attempt, ContainerId, task_attempt, committed, job_attempt, commit_started, task_name, TaskId, is_reduce, task_eq}
use Rattle.mr_world_model.proofs.Names.{task_eq-true, task_eq-false}
use Rattle.mr_world_model.specs.Content.{Content, Dir, File, entry_at, beneath, Op, MkDirs, Create, Delete, Rename, left, refusal}
use Rattle.mr_world_model.specs.Records.{winner_in}
use Rattle.mr_world_model.specs.Packets.{Config, Reply, Names}
use Rattle.mr_world_model.specs.Pasts.{Wish, To_rename, wished_op, computed, Place, Step, Got, Sent, Computed, Called}
use Rattle.mr_container.specs.declared.reply.Reply as heard
use Rattle.mr_container.specs.Readings as container
use Rattle.mr_world_model.specs.Hearing.{Recovering, Recover_step, Clear_own, Move_from, Todo_winner, is_over}
use Rattle.mr_world_model.specs.World.{World, Event, caller_as, reply_to, Weather, reply_under, seen_by, as_heard}
use Rattle.mr_world_model.specs.Effect.{content_after, effect, not_now}
use Rattle.mr_world_model.specs.Claims.{IsWhole}
use Rattle.mr_world_model.proofs.Basic.{if_cases, winner-append}
use Rattle.mr_world_model.proofs.Paths.{without-beneath, moved-gone}
use Rattle.mr_world_model.proofs.Files.{Absent, Holds, OwnDir, Absent-same, Holds-same, Holds-moved}
use Rattle.mr_world_model.proofs.Commits.{rename-commits, rename-parts}
use Rattle.mr_world_model.proofs.Apart.{Diverge, Diverge-sym, elsewhere-away, diverge-beneath0}
use Rattle.mr_world_model.proofs.Wishes.{renamed, renames, renamed-done, computed-same, done-late}
use Rattle.mr_world_model.proofs.Reports.{wish_as, renamed_as, place_was, whole_after, computed_kept}
use Rattle.mr_world_model.proofs.Masters.{is_early, over-stays}
use Rattle.mr_world_model.proofs.Steps.{Calls, Case, still, hears, asks, calls, starts, case_of, newest}
use Rattle.mr_world_model.proofs.Regions
use Rattle.mr_world_model.proofs.Regions.{AwayFrom, away-same, commits, op-region, attempt_other_job, committed_other_job, job_other_job, committed_other, attempt_from_committed, attempt_apart_name, committed_name, setup-away, is_loud, Quiet_op, looks, measures, sets_up, clears, moves, commits_now, bars_now, answered-to, quiet-op, Leaves, did, made-left, Answered, good, no, lost, answered}
use Rattle.mr_world_model.proofs.Own.{PastCase, stays, takes, called, past_case, plain-own, call-own}
use Rattle.mr_world_model.proofs.Dirs.{Known, R, HoldsAt, Old, RecDirs, Dirs, calls-reduce, calls-new, calls-free, calls-away, move-head, clear-head, none-some}
use Rattle.mr_world_model.proofs.Files.{same_at, at_itself}
pub use Rattle.mr_world_model.proofs.Winners.{winner-In, winner-split, named-not-over, Each-map, one-small, is-more, winners-small, once-more, winners-once, winners-has, spot, commit-op, empty-launched, accepted-holds}

module _ (cfg : Config) (w : World) (e : Event) (kn : Known cfg w) (n : not_now cfg w e ≡ None) (loud : is_loud (newest cfg w).phase ≡ false) (dirs : Dirs cfg w) where
  abbrev pub Kept : ℕ → TaskId → Type 0
  Kept j t = (x : Path) → entry_at (effect cfg w e).content (committed j t ++ x) ≡ entry_at w.content (committed j t ++ x)

  abbrev IsDir : ℕ → TaskId → Type 0
  IsDir j t = entry_at (effect cfg w e).content (committed j t) ≡ Some Dir

  pub data Fate (j : ℕ) (t : TaskId) : Type 0 where
    kept : Kept j t → Fate j t
    by_container : (k : Calls cfg w e) → commits (wish_as cfg w k.who k.place) ≡ true → j ≡ w.fence → k.place.attempt.task ≡ t → Absent (effect cfg w e).content (committed j t) ⊎ IsDir j t → Fate j t
    by_clear : (x : Todo_winner) → (ws : List Todo_winner) → (i : ℕ) → (newest cfg w).phase ≡ Recovering (x ∷ ws) (Clear_own i) → j ≡ w.fence → x.task ≡ t → Absent (effect cfg w e).content (committed j t) → Fate j t

  pub record Moving (t : TaskId) : Type 0 where
    pub winner : Todo_winner
    pub todo : List Todo_winner
    pub from : ℕ
    pub phase : (newest cfg w).phase ≡ Recovering (winner ∷ todo) (Move_from from)
    pub task : winner.task ≡ t
    pub holds : HoldsAt (effect cfg w e) w.fence t winner.attempt
    pub rest : (j : ℕ) → (j ≡ w.fence) ⊎ (Absent (effect cfg w e).content (committed j t) ⊎ Kept j t)

  pub whole : (a : Attempt) (bytes : List ℕ) → IsWhole w a bytes → IsWhole (effect cfg w e) a bytes
  whole a bytes = whole_after cfg w e kn.cluster kn.reports n a bytes

  pub move-holds : (x : Todo_winner) (ws : List Todo_winner) (j : ℕ) → (newest cfg w).phase ≡ Recovering (x ∷ ws) (Move_from j) → refusal w.content (Rename (committed j x.task) (committed w.fence x.task)) ≡ None →
      (bytes : List ℕ) × IsWhole w x.attempt bytes × Holds (left w.content (Rename (committed j x.task) (committed w.fence x.task))) (committed w.fence x.task) x.task (File bytes true)
  move-holds x ws j ph ok = by (cases_lt o.at j) (cases_lt j o.at)
    where
      h : RecDirs cfg w w.fence (R w) (x ∷ ws) (Move_from j)
      h = move-head cfg w e kn n loud dirs x ws j ph

      o : Old w x.task x.attempt
      o = dirs.old x.task x.attempt h.wins.0.0

      there : is_none (entry_at w.content (committed j x.task)) ≡ false
      there = (rename-parts w.content (committed j x.task) (committed w.fence x.task) ok).0

      gone : (i : ℕ) → Absent w.content (committed i x.task) → is_none (entry_at w.content (committed i x.task)) ≡ true
      gone i a = rw (at_itself w.content (committed i x.task) None (a [])) refl

      Out : Type 0
      Out = (bytes : List ℕ) × IsWhole w x.attempt bytes × Holds (left w.content (Rename (committed j x.task) (committed w.fence x.task))) (committed w.fence x.task) x.task (File bytes true)

      absent : Absent w.content (committed o.at x.task) → Out
      absent a = none-some (sym (at_itself w.content (committed o.at x.task) None (a [])) ∙ o.here.holds.dir)

      by : (o.at < j) ⊎ (j ≤ o.at) → (j < o.at) ⊎ (o.at ≤ j) → Out
      by (inl l) m = let u = h.head.0 in absurd (true≢false (sym (gone j (o.none_newer j l (omega arith))) ∙ there))
      by (inr l) (inl m) = new (cases_lt o.at w.fence)
        where
          new : (o.at < w.fence) ⊎ (w.fence ≤ o.at) → Out
          new (inl v) = absent (h.head.1 o.at m v)
          new (inr v) = let q = o.old in let r : w.fence ≡ o.at = omega arith in absent (subst (λ z. Absent w.content (committed z x.task)) r h.absent.0)
      by (inr l) (inr m) = let r : o.at ≡ j = omega arith in
          (o.here.bytes, o.here.whole, Holds-moved w.content (committed j x.task) (committed w.fence x.task) x.task (File o.here.bytes true) (subst (λ z. Holds w.content (committed z x.task) x.task (File o.here.bytes true)) r o.here.holds) h.absent.0)

  kept-if : (j : ℕ) (t : TaskId) → ((x : Path) → entry_at (effect cfg w e).content (committed j t ++ x) ≡ entry_at w.content (committed j t ++ x)) → Fate j t
  kept-if j t f = kept f

  container-fate : (k : Calls cfg w e) → (j : ℕ) (t : TaskId) → Fate j t
  unfolding left
  container-fate k j t = by (commits (wish_as cfg w k.who k.place)) refl (spot k.who.app j k.place.attempt.task t)
    where
      v : Wish
      v = wish_as cfg w k.who k.place

      away : (commits v ≡ true → Diverge (committed k.who.app k.place.attempt.task) (committed j t)) → Fate j t
      away f = kept (λ x. ap (λ z. entry_at z (committed j t ++ x)) k.content ∙ away-same w.content k.op (committed j t) (calls-away cfg w e kn n k (committed j t) (attempt_from_committed k.who.app j k.place.attempt t) f) x)

      by : (b : Bool) → commits v ≡ b → ((k.who.app ≡ j) × (k.place.attempt.task ≡ t)) ⊎ Diverge (committed k.who.app k.place.attempt.task) (committed j t) → Fate j t
      by false m s = away (λ q. absurd (false≢true (sym m ∙ q)))
      by true m (inr d) = away (λ q. d)
      by true m (inl s) = by_container k m (sym s.0 ∙ k.app) s.1 (op (commit-op k.who.app k.place.attempt (computed (w.container_past k.who)) v k.op k.wished m))
        where
          back : (P : ℕ → TaskId → Type 0) → P k.who.app k.place.attempt.task → P j t
          back P o = subst (λ z. P z t) s.0 (subst (P k.who.app) s.1 o)

          op : (k.op ≡ Delete (committed k.who.app k.place.attempt.task)) ⊎ ((k.op ≡ Rename (task_attempt k.who.app k.place.attempt) (committed k.who.app k.place.attempt.task)) × (v ≡ To_rename)) →
              Absent (effect cfg w e).content (committed j t) ⊎ IsDir j t
          op (inl q) = inl (back (λ a b. Absent (effect cfg w e).content (committed a b)) (λ x. ap (λ z. entry_at z (committed k.who.app k.place.attempt.task ++ x)) (k.content ∙ ap (left w.content) q) ∙ without-beneath w.content (committed k.who.app k.place.attempt.task) x))
          op (inr q) = inr (back IsDir (ap (λ z. entry_at z (committed k.who.app k.place.attempt.task)) (k.content ∙ ap (left w.content) q.0) ∙
              (rename-commits w.content k.who.app k.place.attempt (computed (w.container_past k.who)) (dirs.tidy k.who.app k.place.attempt.task)
              (subst (OwnDir w.content (task_attempt k.who.app k.place.attempt) k.place.attempt.task (computed (w.container_past k.who))) q.1 (dirs.own k.who k.place k.app k.placed (calls-reduce cfg w e kn n k)))
              (subst (λ z. refusal w.content z ≡ None) q.0 k.accepted)).dir))

  abbrev pub Fates : TaskId → Type 0
  Fates t = Moving t ⊎ ((j : ℕ) → Fate j t)

  no-data : {A : Type 0} (o : A ⊎ ⊥) → A
  no-data (inl a) = a
  no-data (inr b) = absurd b

  op-fate : (c' : Content) → (effect cfg w e).content ≡ c' → (op : Op) → c' ≡ left w.content op → refusal w.content op ≡ None → Quiet_op w.fence (newest cfg w).phase op → (t : TaskId) → Fates t
  unfolding left
  op-fate c' ce op l ok (measures q) t = inr (λ j. kept (λ x. ap (λ z. entry_at z (committed j t ++ x)) (ce ∙ l)))
  op-fate c' ce op l ok (looks q) t = inr (λ j. kept (λ x. ap (λ z. entry_at z (committed j t ++ x)) (ce ∙ l)))
  op-fate c' ce op l ok (sets_up q) t = inr (λ j. kept (λ x. ap (λ z. entry_at z (committed j t ++ x)) (ce ∙ l) ∙ away-same w.content (MkDirs (job_attempt w.fence)) (committed j t) (setup-away w.fence j (task_name t) []) x))
  op-fate c' ce op l ok (bars_now a q) t = inr (λ j. kept (λ x. ap (λ z. entry_at z (committed j t ++ x)) (ce ∙ l)))
  op-fate c' ce op l ok (commits_now q) t = inr (λ j. kept (λ x. ap (λ z. entry_at z (committed j t ++ x)) (ce ∙ l) ∙ away-same w.content (Create commit_started true) (committed j t) (λ y. elsewhere-away (Create commit_started true) (committed j t) y (inl refl)) x))
  op-fate c' ce op l ok (clears x ws i ph) t = inr (λ j. by j (spot w.fence j x.task t))
    where
      by : (j : ℕ) → ((w.fence ≡ j) × (x.task ≡ t)) ⊎ Diverge (committed w.fence x.task) (committed j t) → Fate j t
      by j (inl s) = by_clear x ws i ph (sym s.0) s.1 (subst (λ z. Absent (effect cfg w e).content (committed z t)) s.0 (subst (λ z. Absent (effect cfg w e).content (committed w.fence z)) s.1
          (λ y. ap (λ z. entry_at z (committed w.fence x.task ++ y)) (ce ∙ l) ∙ without-beneath w.content (committed w.fence x.task) y)))
      by j (inr d) = kept (λ y. ap (λ z. entry_at z (committed j t ++ y)) (ce ∙ l) ∙ away-same w.content (Delete (committed w.fence x.task)) (committed j t) (λ y. elsewhere-away (Delete (committed w.fence x.task)) (committed j t) y d) y)
  op-fate c' ce op l ok (moves x ws i ph) t = by (task_eq x.task t) refl
    where
      other : (j : ℕ) → Diverge (committed i x.task) (committed j t) → Diverge (committed w.fence x.task) (committed j t) → Kept j t
      other j d g = λ y. ap (λ z. entry_at z (committed j t ++ y)) (ce ∙ l) ∙ away-same w.content (Rename (committed i x.task) (committed w.fence x.task)) (committed j t) (λ y. elsewhere-away (Rename (committed i x.task) (committed w.fence x.task)) (committed j t) y (d, g)) y

      by : (b : Bool) → task_eq x.task t ≡ b → Fates t
      by false q = inr (λ j. kept (other j (committed_other i j x.task t (λ u v. let z = task_eq-false x.task t q in z v)) (committed_other w.fence j x.task t (λ u v. let z = task_eq-false x.task t q in z v))))
      by true q = inl (record { winner = x; todo = ws; from = i; phase = ph; task = xt; holds = there; rest = rest })
        where
          xt : x.task ≡ t
          xt = task_eq-true x.task t q

          m : (bytes : List ℕ) × IsWhole w x.attempt bytes × Holds (left w.content (Rename (committed i x.task) (committed w.fence x.task))) (committed w.fence x.task) x.task (File bytes true)
          m = move-holds x ws i ph ok

          there : HoldsAt (effect cfg w e) w.fence t x.attempt
          there = subst (λ z. HoldsAt (effect cfg w e) w.fence z x.attempt) xt (record { bytes = m.0; whole = whole x.attempt m.0 m.1; holds = subst (λ z. Holds z (committed w.fence x.task) x.task (File m.0 true)) (sym (ce ∙ l)) m.2 })

          h : RecDirs cfg w w.fence (R w) (x ∷ ws) (Move_from i)
          h = move-head cfg w e kn n loud dirs x ws i ph

          apart : Diverge (committed i x.task) (committed w.fence x.task)
          apart = committed_other i w.fence x.task x.task (λ u v. let z = h.head.0 in omega arith)

          gone : Absent (effect cfg w e).content (committed i t)
          gone = subst (λ z. Absent (effect cfg w e).content (committed i z)) xt (λ y. ap (λ z. entry_at z (committed i x.task ++ y)) (ce ∙ l) ∙
              moved-gone w.content (committed i x.task) (committed w.fence x.task) y (subst (λ z. beneath (committed i x.task) z ≡ None) (append-nil (committed w.fence x.task)) (diverge-beneath0 (committed i x.task) (committed w.fence x.task) [] apart))
              (diverge-beneath0 (committed w.fence x.task) (committed i x.task) y (Diverge-sym (committed i x.task) (committed w.fence x.task) apart)))

          rest : (j : ℕ) → (j ≡ w.fence) ⊎ (Absent (effect cfg w e).content (committed j t) ⊎ Kept j t)
          rest j = at (spot i j x.task t) (spot w.fence j x.task t)
            where
              at : ((i ≡ j) × (x.task ≡ t)) ⊎ Diverge (committed i x.task) (committed j t) → ((w.fence ≡ j) × (x.task ≡ t)) ⊎ Diverge (committed w.fence x.task) (committed j t) → (j ≡ w.fence) ⊎ (Absent (effect cfg w e).content (committed j t) ⊎ Kept j t)
              at s (inl u) = inl (sym u.0)
              at (inl s) (inr u) = inr (inl (subst (λ z. Absent (effect cfg w e).content (committed z t)) s.0 gone))
              at (inr s) (inr u) = inr (inr (other j s u))

  pub fates : (t : TaskId) → Fates t
  fates t = by (case_of cfg w e kn.honest kn.cluster n)
    where
      all : (effect cfg w e).content ≡ w.content → Fates t
      all c = inr (λ j. kept (λ x. ap (λ z. entry_at z (committed j t ++ x)) c))

      by : Case cfg w e → Fates t
      by (still fe c s) = all c
      by (hears y h al sf fe c s) = all c
      by (starts fe c s) = all c
      by (calls k) = inr (λ j. container-fate k j t)
      by (asks call v ev du fe c s) = lv (made-left w w.fence call v)
        where
          lv : Leaves w.content call (content_after w (Some (record { app = w.fence; call = call; fault = v }))) → Fates t
          lv (Regions.same q) = all (c ∙ q)
          lv (did op q ok l) = op-fate _ c op l ok (quiet-op cfg w.fence (newest cfg w) op loud (du ∙ ap Some q)) t

  pub tidy_after : (j : ℕ) (t : TaskId) → entry_at (effect cfg w e).content (committed j t) ≡ None → Absent (effect cfg w e).content (committed j t)
  tidy_after j t none = by (fates t)
    where
      from-kept : Kept j t → Absent (effect cfg w e).content (committed j t)
      from-kept f = Absent-same w.content (effect cfg w e).content (committed j t) f (dirs.tidy j t (sym (same_at w.content (effect cfg w e).content (committed j t) f) ∙ none))

      one : Fate j t → Absent (effect cfg w e).content (committed j t)
      one (kept f) = from-kept f
      one (by_container k m q r (inl a)) = a
      one (by_container k m q r (inr d)) = none-some (sym none ∙ d)
      one (by_clear x ws i ph q r a) = a

      moving : (m : Moving t) → (j ≡ w.fence) ⊎ (Absent (effect cfg w e).content (committed j t) ⊎ Kept j t) → Absent (effect cfg w e).content (committed j t)
      moving m (inl q) = none-some (sym none ∙ subst (λ z. entry_at (effect cfg w e).content (committed z t) ≡ Some Dir) (sym q) m.holds.holds.dir)
      moving m (inr (inl a)) = a
      moving m (inr (inr f)) = from-kept f

      by : Fates t → Absent (effect cfg w e).content (committed j t)
      by (inl m) = moving m (m.rest j)
      by (inr f) = one (f j)

  pub early-recovering : (x : Todo_winner) (ws : List Todo_winner) (i : Recover_step) → (newest cfg w).phase ≡ Recovering (x ∷ ws) i → is_early (newest cfg w).phase ≡ true
  early-recovering x ws i q = subst (λ z. is_early z ≡ true) (sym q) refl

  renamed_kept : (c : ContainerId) (p : Place) → c.app ≡ w.fence → w.place c ≡ Some p → is_reduce p.attempt ≡ true → renamed_as cfg w c p ≡ true → is_over (newest cfg w).ended p.attempt ≡ false →
      Holds (effect cfg w e).content (committed c.app p.attempt.task) p.attempt.task (File (computed (w.container_past c)) true)
  renamed_kept c p app q d r o = by (fates p.attempt.task)
    where
      one : Fate c.app p.attempt.task → Holds (effect cfg w e).content (committed c.app p.attempt.task) p.attempt.task (File (computed (w.container_past c)) true)
      one (kept f) = Holds-same w.content (effect cfg w e).content (committed c.app p.attempt.task) p.attempt.task _ f (dirs.renamed c p app q d r o)
      one (by_container k m u v x) = absurd (calls-free cfg w e kn n k m c p app q d r o v)
      one (by_clear x ws i ph u v a) = absurd (empty-launched cfg w kn (early-recovering x ws (Clear_own i) ph) c p app q)

      by : Fates p.attempt.task → Holds (effect cfg w e).content (committed c.app p.attempt.task) p.attempt.task (File (computed (w.container_past c)) true)
      by (inl m) = absurd (empty-launched cfg w kn (early-recovering m.winner m.todo (Move_from m.from) m.phase) c p app q)
      by (inr f) = one (f c.app)

  not-over-before : (a : Attempt) → is_over (seen_by cfg (effect cfg w e) w.fence).ended a ≡ false → is_over (newest cfg w).ended a ≡ false
  not-over-before a o = by (is_over (newest cfg w).ended a) refl
    where
      by : (b : Bool) → is_over (newest cfg w).ended a ≡ b → is_over (newest cfg w).ended a ≡ false
      by false q = q
      by true q = absurd (false≢true (sym o ∙ over-stays cfg w e w.fence a q))

  renames-is : (v : Wish) (s : Step) → renames v s ≡ true → (v ≡ To_rename) × (op : Op) × (r : heard.Reply) × (s ≡ Called op r) × (container.is_fine r ≡ true)
  renames-is To_rename (Called op r) q = (refl, op, r, refl, q)
  renames-is v s q = absurd (false≢true q)

  good-rename : (k : ℕ) (a : Attempt) (op : Op) (g : Weather) (c' : Content) → op ≡ Rename (task_attempt k a) (committed k a.task) → (r : Reply) → Answered w.content op c' r → container.is_fine (as_heard r) ≡ true → (refusal w.content op ≡ None) × (c' ≡ left w.content op)
  good-rename k a op g c' o _ (good ok l) q = (ok, l)
  good-rename k a op g c' o _ (no f l) q = absurd (false≢true q)
  good-rename k a op g c' o _ lost q = absurd (false≢true q)

  rename-op : (k : ℕ) (a : Attempt) (bytes : List ℕ) (v : Wish) (op : Op) → wished_op k a bytes v ≡ Some op → v ≡ To_rename → op ≡ Rename (task_attempt k a) (committed k a.task)
  unfolding wished_op
  rename-op k a bytes v op q m = let z : wished_op k a bytes To_rename ≡ Some op = subst (λ u. wished_op k a bytes u ≡ Some op) m q in cc

  pub renamed_after : (c : ContainerId) (p : Place) → c.app ≡ w.fence → (effect cfg w e).place c ≡ Some p → is_reduce p.attempt ≡ true → renamed_as cfg (effect cfg w e) c p ≡ true →
      is_over (seen_by cfg (effect cfg w e) w.fence).ended p.attempt ≡ false → Holds (effect cfg w e).content (committed c.app p.attempt.task) p.attempt.task (File (computed ((effect cfg w e).container_past c)) true)
  unfolding renamed
  renamed_after c p app q d r o = by (place_was cfg w e kn.cluster kn.heard n c p q)
    where
      Out : List Step → Type 0
      Out h = Holds (effect cfg w e).content (committed c.app p.attempt.task) p.attempt.task (File (computed h) true)

      by : (w.place c ≡ Some p) ⊎ ((w.place c ≡ None) × ((effect cfg w e).container_past c ≡ [])) → Out ((effect cfg w e).container_past c)
      by (inr z) = absurd (false≢true (sym (subst (λ h. renamed (length cfg.splits) p.attempt h ≡ false) (sym z.1) refl) ∙ r))
      by (inl z) = past (past_case cfg w e n c p z)
        where
          before : renamed_as cfg w c p ≡ true → Out ((effect cfg w e).container_past c)
          before t = let late = done-late _ (renamed-done (length cfg.splits) p.attempt (w.container_past c) t) in let k = computed_kept cfg w e kn.reports n c p z (kn.reports.late c p z ∙ late) in
              subst (λ b. Holds (effect cfg w e).content (committed c.app p.attempt.task) p.attempt.task (File b true)) (sym k.0) (renamed_kept c p app z d t (not-over-before p.attempt o))

          plain : (s : Step) → Rattle.mr_world_model.proofs.Own.IsPlain s → (v : Wish) → renames v s ≡ true → ⊥
          plain (Called op a) i v t = i
          plain (Got a) i v t = let u = renames-is v (Got a) t in cc (u.3)
          plain (Sent a) i v t = let u = renames-is v (Sent a) t in cc (u.3)
          plain (Computed a) i v t = let u = renames-is v (Computed a) t in cc (u.3)

          now : (s : Step) → (effect cfg w e).container_past c ≡ s ∷ w.container_past c → (renames (wish_as cfg w c p) s ≡ true → Out ((effect cfg w e).container_past c)) → Out ((effect cfg w e).container_past c)
          now s u f = split (Rattle.mr_world_model.proofs.Basic.or_parts _ _ (subst (λ h. renamed (length cfg.splits) p.attempt h ≡ true) u r))
            where
              split : (renamed_as cfg w c p ≡ true) ⊎ (renames (wish_as cfg w c p) s ≡ true) → Out ((effect cfg w e).container_past c)
              split (inl t) = before t
              split (inr t) = f t

          past : PastCase cfg w e c p → Out ((effect cfg w e).container_past c)
          past (stays u v) = before (subst (λ h. renamed (length cfg.splits) p.attempt h ≡ true) u r)
          past (takes s u i k v) = now s u (λ t. absurd (plain s i (wish_as cfg w c p) t))
          past (called op g ev wi u v) = now (Called op (as_heard (reply_under g (reply_to w (caller_as c p.attempt) (Names op))))) u (λ t. new (renames-is (wish_as cfg w c p) _ t))
            where
              new : (wish_as cfg w c p ≡ To_rename) × (op2 : Op) × (r2 : heard.Reply) × (Called op (as_heard (reply_under g (reply_to w (caller_as c p.attempt) (Names op)))) ≡ Called op2 r2) × (container.is_fine r2 ≡ true) → Out ((effect cfg w e).container_past c)
              new t =
                  let ro = rename-op c.app p.attempt (computed (w.container_past c)) (wish_as cfg w c p) op wi t.0 in
                  let same : as_heard (reply_under g (reply_to w (caller_as c p.attempt) (Names op))) ≡ t.2 = let tt2 = t.3 in cc in let fine = ap container.is_fine same ∙ t.4 in
                  let gr = good-rename c.app p.attempt op g _ ro _ (answered-to w (caller_as c p.attempt) op g) fine in
                  subst Out (sym u) (subst (λ b. Holds (effect cfg w e).content (committed c.app p.attempt.task) p.attempt.task (File b true)) (sym (computed-same _ (w.container_past c) refl))
                  (subst (λ y. Holds y (committed c.app p.attempt.task) p.attempt.task (File (computed (w.container_past c)) true)) (sym (v ∙ (gr.1 ∙ ap (left w.content) ro)))
                  (rename-commits w.content c.app p.attempt (computed (w.container_past c)) (dirs.tidy c.app p.attempt.task)
                  (subst (OwnDir w.content (task_attempt c.app p.attempt) p.attempt.task (computed (w.container_past c))) t.0 (dirs.own c p app z d)) (subst (λ y. refusal w.content y ≡ None) ro gr.0))))

  pub old_kept : (t : TaskId) (a : Attempt) → winner_in (R w) t ≡ Some a → (effect cfg w e).fence ≡ w.fence → Old (effect cfg w e) t a
  old_kept t a q fe = by (fates t)
    where
      o : Old w t a
      o = dirs.old t a q

      no-container : (k : Calls cfg w e) → k.place.attempt.task ≡ t → ⊥
      no-container k v = none-some (sym (calls-new cfg w e kn n k) ∙ subst (λ z. winner_in (R w) z ≡ Some a) (sym v) q)

      by : Fates t → Old (effect cfg w e) t a
      by (inl m) = record { at = w.fence; old = omega (arith, fe); here = subst (HoldsAt (effect cfg w e) w.fence t) same m.holds; none_newer = λ i l u. absurd (omega (arith, fe, l, u)) }
        where
          h : RecDirs cfg w w.fence (R w) (m.winner ∷ m.todo) (Move_from m.from)
          h = move-head cfg w e kn n loud dirs m.winner m.todo m.from m.phase

          same : m.winner.attempt ≡ a
          same = let z : winner_in (R w) t ≡ Some m.winner.attempt = subst (λ z. winner_in (R w) z ≡ Some m.winner.attempt) m.task h.wins.0.0 in cc (z, q)
      by (inr f) = record { at = o.at; old = let u = o.old in omega (arith, fe); here = here (f o.at); none_newer = λ i l u. newer i l (subst (λ z. i ≤ z) fe u) (f i) }
        where
          here : Fate o.at t → HoldsAt (effect cfg w e) o.at t a
          here (kept g) = record { bytes = o.here.bytes; whole = whole a o.here.bytes o.here.whole; holds = Holds-same w.content (effect cfg w e).content (committed o.at t) t _ g o.here.holds }
          here (by_container k m u v x) = absurd (no-container k v)
          here (by_clear x ws i ph u v z) = let h = clear-head cfg w e kn n loud dirs x ws i ph in
              none-some (sym (at_itself w.content (committed o.at t) None (subst (λ y. Absent w.content (committed o.at y)) v (subst (λ y. Absent w.content (committed y x.task)) (sym u) h.absent.0) [])) ∙ o.here.holds.dir)

          newer : (i : ℕ) → o.at < i → i ≤ w.fence → Fate i t → Absent (effect cfg w e).content (committed i t)
          newer i l u (kept g) = Absent-same w.content (effect cfg w e).content (committed i t) g (o.none_newer i l u)
          newer i l u (by_container k m p v x) = absurd (no-container k v)
          newer i l u (by_clear x ws j ph p v z) = z
