-- Whatever the masters do, an attempt's directory holds what its container made there, or nothing.
use Rattle.std.proofs.Common.{ℕ, ◌≡◌, refl, sym, ◌∙◌, ap, subst, true, false, List, [], ◌∷◌, ◌++◌, Some, None, ◌⊎◌, inl, inr, length}
use Rattle.std.proofs.lemmas.Bool.{false≢true}
use Rattle.mr_world_model.specs.Ids.{Path, Attempt, ContainerId, TaskId, is_reduce, task_attempt, committed, job_attempt, temporary, temporary_name, dest, marker, commit_started, commit_success, commit_fail, generation_name, attempt_name, part_name}
use Rattle.mr_world_model.specs.Content.{Content, Op, MkDirs, Create, Delete, Rename, ListDir, Exist, Read, Bar, File, entry_at, left}
use Rattle.mr_world_model.specs.Packets.{Config, Names}
use Rattle.mr_world_model.specs.Pasts.{Place, Step, Wish, To_need, To_pend, To_poll, To_look, To_clear, To_rename, wish, computed, Called}
use Rattle.mr_world_model.proofs.Nexts.{wish-step}
use Rattle.mr_world_model.specs.Hearing.{Phase, Opening, Setting_up, Recovering, Running, Committing, Failing, Finished, Stopped, List_job, Merging, Cleaning, Marking, Succeeding, Failing_mark, Aborting, Merge_step}
use Rattle.mr_world_model.specs.Duties.{duty_of, merge_call}
use Rattle.mr_world_model.specs.World.{World, Event, caller_as, reply_to, reply_under, wish_at, opening_world, as_heard}
use Rattle.mr_world_model.specs.Effect.{effect, not_now, content_after}
use Rattle.mr_world_model.specs.Claims.{Limits, world_of}
use Rattle.mr_world_model.specs.Beside.{HasOneFile, AttemptsHoldTheirFiles, has_closed}
use Rattle.mr_world_model.proofs.Basic.{along}
use Rattle.mr_world_model.proofs.Names.{part_name-visible}
use Rattle.mr_world_model.proofs.Paths.{without-beneath}
use Rattle.mr_world_model.proofs.Files.{Absent, Holds, OwnDir, Absent-same, OwnDir-same, OwnDir-absent}
use Rattle.mr_world_model.proofs.Apart.{Diverge, Diverge-longer, elsewhere-away, other_attempt, attempt_committed}
use Rattle.mr_world_model.proofs.Opening.{opening-dest}
use Rattle.mr_world_model.proofs.Cluster.{Cluster}
use Rattle.mr_world_model.proofs.Sends.{cluster}
use Rattle.mr_world_model.proofs.Wishes.{computed-same}
use Rattle.mr_world_model.proofs.Reports.{wish_as, place_kept, place_was}
use Rattle.mr_world_model.proofs.Steps.{Calls, Case, still, hears, asks, calls, starts, case_of, newest}
use Rattle.mr_world_model.proofs.Regions
use Rattle.mr_world_model.proofs.Regions.{AwayFrom, away-same, setup-away, attempt_visible, Quiet_op, looks, measures, sets_up, clears, moves, commits_now, bars_now, is_loud, quiet-op, answered-to, Leaves, did, made-left}
use Rattle.mr_world_model.proofs.Own.{PastCase, stays, takes, called, past_case, plain-own, call-own}
use Rattle.mr_world_model.proofs.Dirs.{Known, calls-away, same_attempt, none-some}
use Rattle.mr_world_model.proofs.Merge.{Merge, MergePhase, Stage, waits, lists, looking, moving, fail-op}
use Rattle.mr_world_model.proofs.Outcomes.{All, all_after, opening-all}

-- What an event does to an attempt's directory that is not its container's call: it stays, or is wiped
pub data Reach (c c' : Content) (d : Path) : Type 0 where
  kept : ((x : Path) → entry_at c' (d ++ x) ≡ entry_at c (d ++ x)) → Reach c c' d
  wiped : Absent c' d → Reach c c' d

-- a path that parts from a visible one
visible-apart : (t : TaskId) (k : ℕ) (a : Attempt) → Diverge (dest ++ part_name t ∷ []) (task_attempt k a)
visible-apart t k a = Rattle.mr_world_model.proofs.Apart.Diverge-sym (task_attempt k a) (dest ++ part_name t ∷ []) (attempt_visible k a (part_name t) (part_name-visible t))

module _ (cfg : Config) (w : World) (e : Event) (kn : Known cfg w) (mg : Merge cfg w) (n : not_now cfg w e ≡ None) (k : ℕ) (a : Attempt) where
  abbrev D : Path
  D = task_attempt k a

  abbrev C' : Content
  C' = (effect cfg w e).content

  op-kept : (op : Op) → C' ≡ left w.content op → AwayFrom op D → Reach w.content C' D
  op-kept op c f = kept (λ x. ap (λ z. entry_at z (D ++ x)) c ∙ away-same w.content op D f x)

  op-wiped : C' ≡ left w.content (Delete temporary) → Reach w.content C' D
  unfolding left
  op-wiped c = wiped (λ x. ap (λ z. entry_at z (D ++ x)) c ∙ without-beneath w.content temporary (generation_name k ∷ temporary_name ∷ attempt_name a ∷ x))

  quiet-reach : (op : Op) → Quiet_op w.fence (newest cfg w).phase op → C' ≡ left w.content op → Reach w.content C' D
  quiet-reach _ (looks q) c = op-kept (Exist q) c (λ x. tt)
  quiet-reach _ (measures q) c = op-kept (Read q) c (λ x. tt)
  quiet-reach _ (bars_now b q) c = op-kept (Bar b) c (λ x. tt)
  quiet-reach _ (sets_up q) c = op-kept (MkDirs (job_attempt w.fence)) c (setup-away w.fence k temporary_name (attempt_name a ∷ []))
  quiet-reach _ (clears x ws j q) c = op-kept (Delete (committed w.fence x.task)) c (λ y. elsewhere-away (Delete (committed w.fence x.task)) D y (attempt_committed k w.fence a x.task))
  quiet-reach _ (moves x ws j q) c = op-kept (Rename (committed j x.task) (committed w.fence x.task)) c
      (λ y. elsewhere-away (Rename (committed j x.task) (committed w.fence x.task)) D y (attempt_committed k j a x.task, attempt_committed k w.fence a x.task))
  quiet-reach _ (commits_now q) c = op-kept (Create commit_started true) c (λ y. elsewhere-away (Create commit_started true) D y (inl refl))

  stage-reach : (now : TaskId) (rest : List TaskId) (todo : List Merge_step) → Stage w.fence now rest todo → (op : Op) → merge_call todo ≡ Some (Names op) → C' ≡ left w.content op → Reach w.content C' D
  stage-reach now rest _ waits op d c = op-kept op c (subst (λ o. AwayFrom o D) (same-op (Exist dest) op d) (λ x. tt))
    where
      same-op : (o op : Op) → Some (Names o) ≡ Some (Names op) → o ≡ op
      same-op o op e = cc
  stage-reach now rest _ lists op d c = let q : ListDir (committed w.fence now) ≡ op = cc in op-kept op c (subst (λ o. AwayFrom o D) q (λ x. tt))
  stage-reach now rest _ (looking b) op d c = let q : Exist (dest ++ part_name now ∷ []) ≡ op = cc in op-kept op c (subst (λ o. AwayFrom o D) q (λ x. tt))
  stage-reach now rest _ moving op d c = let q : Rename (committed w.fence now ++ part_name now ∷ []) (dest ++ part_name now ∷ []) ≡ op = cc in
      op-kept op c (subst (λ o. AwayFrom o D) q (λ y. elsewhere-away (Rename (committed w.fence now ++ part_name now ∷ []) (dest ++ part_name now ∷ [])) D y
      (Diverge-longer (committed w.fence now) D (part_name now ∷ []) (attempt_committed k w.fence a now), visible-apart now k a)))

  op-reach : (op : Op) (p : Phase) → (newest cfg w).phase ≡ p → duty_of cfg w.fence (newest cfg w) p ≡ Some (Names op) → MergePhase cfg w w.fence p → C' ≡ left w.content op → Reach w.content C' D
  unfolding duty_of
  op-reach op p ph du m c = by p ph du m
    where
      quiet : (p : Phase) → (newest cfg w).phase ≡ p → duty_of cfg w.fence (newest cfg w) p ≡ Some (Names op) → is_loud p ≡ false → Reach w.content C' D
      quiet p z d l = quiet-reach op (quiet-op cfg w.fence (newest cfg w) op (subst (λ q. is_loud q ≡ false) (sym z) l) (subst (λ q. duty_of cfg w.fence (newest cfg w) q ≡ Some (Names op)) (sym z) d)) c

      wipe : Delete temporary ≡ op → Reach w.content C' D
      wipe q = op-wiped (c ∙ ap (λ z. left w.content z) (sym q))

      make : (q : Path) → Create q true ≡ op → Diverge q D → Reach w.content C' D
      make q u v = op-kept op c (subst (λ o. AwayFrom o D) u (λ y. elsewhere-away (Create q true) D y v))

      by : (p : Phase) → (newest cfg w).phase ≡ p → duty_of cfg w.fence (newest cfg w) p ≡ Some (Names op) → MergePhase cfg w w.fence p → Reach w.content C' D
      by (Opening i) z d m = quiet (Opening i) z d refl
      by Setting_up z d m = quiet Setting_up z d refl
      by (Recovering ws at) z d m = quiet (Recovering ws at) z d refl
      by Running z d m = quiet Running z d refl
      by (Failing f) z d m = wipe (sym (fail-op cfg w.fence (newest cfg w) f op d).0)
      by (Committing List_job) z d m = let q : ListDir (job_attempt w.fence) ≡ op = cc in op-kept op c (subst (λ o. AwayFrom o D) q (λ x. tt))
      by (Committing (Merging ms)) z d m = let x = m.1.1 in stage-reach x.now x.rest ms x.stage op d c
      by (Committing Cleaning) z d m = wipe (cc)
      by (Committing Marking) z d m = make marker (cc) (inr (inl refl))
      by (Committing Succeeding) z d m = make commit_success (cc) (inl refl)
      by (Committing Failing_mark) z d m = make commit_fail (cc) (inl refl)
      by (Committing Aborting) z d m = wipe (cc)
      by (Finished b) z d m = cc
      by Stopped z d m = cc

  pub reach : ((c : Calls cfg w e) → c.who.app ≡ k → c.place.attempt ≡ a → ⊥) → Reach w.content C' D
  reach f = by (case_of cfg w e kn.honest kn.cluster n)
    where
      by : Case cfg w e → Reach w.content C' D
      by (still fe c s) = kept (λ x. ap (λ z. entry_at z (D ++ x)) c)
      by (hears y h al sf fe c s) = kept (λ x. ap (λ z. entry_at z (D ++ x)) c)
      by (starts fe c s) = kept (λ x. ap (λ z. entry_at z (D ++ x)) c)
      by (calls c) = op-kept c.op c.content (calls-away cfg w e kn n c D (other_attempt c.who.app k c.place.attempt a (λ u v. f c u v)) (λ t. attempt_committed k c.who.app a c.place.attempt.task))
      by (asks call g ev du fe c s) = lv (made-left w w.fence call g)
        where
          lv : Leaves w.content call (content_after w (Some (record { app = w.fence; call = call; fault = g }))) → Reach w.content C' D
          lv (Regions.same q) = kept (λ x. ap (λ z. entry_at z (D ++ x)) (c ∙ q))
          lv (did op q ok l) = op-reach op (newest cfg w).phase refl (du ∙ ap Some q) mg.phase (c ∙ l)

-- What every attempt's directory holds

abbrev pub NoPlaceAt : World → ℕ → Attempt → Type 0
NoPlaceAt w k a = (c : ContainerId) (p : Place) → c.app ≡ k → w.place c ≡ Some p → p.attempt ≡ a → ⊥

pub record Owned (cfg : Config) (w : World) : Type 0 where
  pub all : All cfg w
  pub unplaced : (k : ℕ) (a : Attempt) → NoPlaceAt w k a → Absent w.content (task_attempt k a)
  pub own : (c : ContainerId) (p : Place) → w.place c ≡ Some p → is_reduce p.attempt ≡ true →
      OwnDir w.content (task_attempt c.app p.attempt) p.attempt.task (computed (w.container_past c)) (wish_as cfg w c p)

reach-absent : {c c' : Content} {d : Path} → Reach c c' d → Absent c d → Absent c' d
reach-absent {c} {c'} {d} (kept f) o = Absent-same c c' d f o
reach-absent (wiped z) o = z

reach-own : {c c' : Content} {d : Path} (t : TaskId) (bytes : List ℕ) (v : Wish) → Reach c c' d → OwnDir c d t bytes v → OwnDir c' d t bytes v
reach-own {c} {c'} {d} t bytes v (kept f) o = OwnDir-same c c' d t bytes v f o
reach-own {c} {c'} {d} t bytes v (wiped z) o = OwnDir-absent c' d t bytes v z

module _ (cfg : Config) (w : World) (e : Event) (o : Owned cfg w) (n : not_now cfg w e ≡ None) where
  abbrev kn : Known cfg w
  kn = o.all.sures.known

  unplaced-on : (k : ℕ) (a : Attempt) → NoPlaceAt (effect cfg w e) k a → Absent (effect cfg w e).content (task_attempt k a)
  unplaced-on k a f = reach-absent (reach cfg w e kn o.all.merge n k a (λ c u v. f c.who c.place u (place_kept cfg w e kn.cluster c.who c.place c.placed) v))
      (o.unplaced k a (λ c p u q v. f c p u (place_kept cfg w e kn.cluster c p q) v))

  own-on : (c : ContainerId) (p : Place) → (effect cfg w e).place c ≡ Some p → is_reduce p.attempt ≡ true →
      OwnDir (effect cfg w e).content (task_attempt c.app p.attempt) p.attempt.task (computed ((effect cfg w e).container_past c)) (wish_as cfg (effect cfg w e) c p)
  own-on c p q d = by (place_was cfg w e kn.cluster kn.heard n c p q)
    where
      h' : Cluster cfg (effect cfg w e)
      h' = cluster cfg w e kn.cluster n

      Out : List Step → Type 0
      Out h = OwnDir (effect cfg w e).content (task_attempt c.app p.attempt) p.attempt.task (computed h) (wish (length cfg.splits) p.attempt h)

      by : (w.place c ≡ Some p) ⊎ ((w.place c ≡ None) × ((effect cfg w e).container_past c ≡ [])) → Out ((effect cfg w e).container_past c)
      by (inr z) = OwnDir-absent (effect cfg w e).content (task_attempt c.app p.attempt) p.attempt.task _ _
          (reach-absent (reach cfg w e kn o.all.merge n c.app p.attempt (λ k u v. nobody k.who k.place u k.placed v)) (o.unplaced c.app p.attempt nobody))
        where
          nobody : NoPlaceAt w c.app p.attempt
          nobody c2 p2 app2 q2 v = let same : c2 ≡ c = same_attempt cfg (effect cfg w e) h' c2 c p2 p (place_kept cfg w e kn.cluster c2 p2 q2) q app2 v in
              none-some (sym z.0 ∙ subst (λ z. w.place z ≡ Some p2) same q2)
      by (inl z) = past (past_case cfg w e n c p z)
        where
          mine : OwnDir w.content (task_attempt c.app p.attempt) p.attempt.task (computed (w.container_past c)) (wish_as cfg w c p)
          mine = o.own c p z d

          past : PastCase cfg w e c p → Out ((effect cfg w e).container_past c)
          past (stays u v) = subst Out (sym u) (reach-own p.attempt.task (computed (w.container_past c)) (wish_as cfg w c p)
              (reach cfg w e kn o.all.merge n c.app p.attempt (λ k app m. v k (same_attempt cfg w kn.cluster k.who c k.place p k.placed z app m))) mine)
          past (takes s u i k v) = subst Out (sym u) (OwnDir-same w.content (effect cfg w e).content (task_attempt c.app p.attempt) p.attempt.task (computed (s ∷ w.container_past c)) (wish (length cfg.splits) p.attempt (s ∷ w.container_past c))
              (λ x. ap (λ y. entry_at y (task_attempt c.app p.attempt ++ x)) v)
              (subst (OwnDir w.content (task_attempt c.app p.attempt) p.attempt.task (computed (s ∷ w.container_past c))) (sym (wish-step (length cfg.splits) p.attempt (w.container_past c) s))
              (plain-own w.content (task_attempt c.app p.attempt) p.attempt.task (length cfg.splits) p.attempt (w.container_past c) (wish_as cfg w c p) s k i mine)))
          past (called op g ev wi u v) = subst Out (sym u)
              (subst (λ b. OwnDir (effect cfg w e).content (task_attempt c.app p.attempt) p.attempt.task b (wish (length cfg.splits) p.attempt (Called op (as_heard (reply_under g (reply_to w (caller_as c p.attempt) (Names op)))) ∷ w.container_past c))) (sym (computed-same _ (w.container_past c) refl))
              (subst (λ y. OwnDir y (task_attempt c.app p.attempt) p.attempt.task (computed (w.container_past c)) (wish (length cfg.splits) p.attempt (Called op (as_heard (reply_under g (reply_to w (caller_as c p.attempt) (Names op)))) ∷ w.container_past c))) (sym v)
              (subst (OwnDir _ (task_attempt c.app p.attempt) p.attempt.task (computed (w.container_past c))) (sym (wish-step (length cfg.splits) p.attempt (w.container_past c) _))
              (call-own w.content _ c.app p.attempt (computed (w.container_past c)) (length cfg.splits) (wish_as cfg w c p) op _ wi mine (answered-to w (caller_as c p.attempt) op g)))))

owned : (cfg : Config) (w : World) (e : Event) → Owned cfg w → not_now cfg w e ≡ None → Owned cfg (effect cfg w e)
owned cfg w e o n = record { all = all_after cfg w e o.all n; unplaced = unplaced-on cfg w e o n; own = own-on cfg w e o n }

opening-owned : (cfg : Config) → Owned cfg opening_world
opening-owned cfg = record { all = opening-all cfg; unplaced = λ k a f x. opening-dest (temporary_name ∷ generation_name k ∷ temporary_name ∷ attempt_name a ∷ x); own = λ c p e. cc }

pub always-owned : (cfg : Config) (within : Limits) (es : List Event) → Owned cfg (world_of cfg within es)
always-owned cfg within es = along (Owned cfg) cfg within (λ w e o n. owned cfg w e o n) opening_world es (opening-owned cfg)

-- from the close to the rename
closed-own : (w : World) (d : Path) (t : TaskId) (bytes : List ℕ) (v : Wish) → has_closed v ≡ true → OwnDir w.content d t bytes v → Absent w.content d ⊎ Holds w.content d t (File bytes true)
closed-own w d t bytes To_need e o = o
closed-own w d t bytes To_pend e o = o
closed-own w d t bytes To_poll e o = o
closed-own w d t bytes To_look e o = o
closed-own w d t bytes To_clear e o = o
closed-own w d t bytes To_rename e o = o
closed-own w d t bytes v e o = absurd (false≢true e)

one-file : (w : World) (d : Path) (t : TaskId) (bytes : List ℕ) → Absent w.content d ⊎ Holds w.content d t (File bytes true) → ((x : Path) → entry_at w.content (d ++ x) ≡ None) ⊎ HasOneFile w d t bytes
one-file w d t bytes (inl f) = inl f
one-file w d t bytes (inr h) = inr (record { dir = h.dir; file = h.file; only = h.only })

pub attempts_hold_their_files : (cfg : Config) (within : Limits) → AttemptsHoldTheirFiles cfg within
attempts_hold_their_files cfg within es c p q d e =
    one-file (world_of cfg within es) (task_attempt c.app p.attempt) p.attempt.task (computed ((world_of cfg within es).container_past c))
    (closed-own (world_of cfg within es) (task_attempt c.app p.attempt) p.attempt.task (computed ((world_of cfg within es).container_past c)) (wish_as cfg (world_of cfg within es) c p)
    (subst (λ o. has_closed (wish_at cfg c o ((world_of cfg within es).container_past c)) ≡ true) q e) ((always-owned cfg within es).own c p q d))
