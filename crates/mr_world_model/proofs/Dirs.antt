-- Until job commit or abort: where each attempt's file lies, and that the newest committed directory of a recorded reduce holds its winner's whole file.
use Rattle.std.proofs.Common.{ℕ, ◌≤◌, ◌<◌, ◌≡◌, refl, sym, ◌∙◌, ap, subst, Bool, true, false, List, [], ◌∷◌, ◌++◌, Some, None, ◌⊎◌, inl, inr, arith, length, is_some}
use Rattle.std.proofs.lemmas.Bool.{false≢true}
use Rattle.mr_world_model.specs.Claims.{IsReduce}
use Rattle.mr_world_model.specs.Ids.{Name, Path, Attempt, ContainerId, task_attempt, committed, job_attempt, commit_started, task_name, TaskId, is_reduce, attempt_name, temporary_name}
use Rattle.mr_world_model.specs.Content.{File, entry_at, Op, MkDirs, Create, Delete, Rename}
use Rattle.mr_world_model.specs.Records.{Record, records_below, winner_in}
use Rattle.mr_world_model.specs.Packets.{Config, Answer, Container, Names}
use Rattle.mr_world_model.specs.Pasts.{Wish, To_clear, To_rename, wish, computed, Place, Step, Called}
use Rattle.mr_world_model.proofs.Nexts.{wish-step}
use Rattle.mr_world_model.specs.Hearing.{has, Phase, Opening, Setting_up, Recovering, Running, Committing, Failing, Finished, Stopped, Recover_step, Look_below, Measure, Clear_own, Move_from, Todo_winner, Launched, has_winner, is_over, named_in}
use Rattle.mr_world_model.specs.Duties.{is_temporary}
use Rattle.mr_world_model.specs.World.{World, caller_as, reply_to, Event, reply_under, seen_by, as_heard}
use Rattle.mr_world_model.specs.Effect.{content_after, effect, not_now}
use Rattle.mr_world_model.specs.Claims.{IsWhole}
use Rattle.mr_world_model.proofs.Lists.{Each, Each-In}
use Rattle.mr_world_model.proofs.Files.{Absent, Holds, OwnDir, Absent-same, OwnDir-same, OwnDir-absent}
use Rattle.mr_world_model.proofs.Apart.{Diverge, elsewhere-away, other_attempt, attempt_committed}
use Rattle.mr_world_model.proofs.Phases.{Wins}
use Rattle.mr_world_model.proofs.Closed.{NamedOrOver}
use Rattle.mr_world_model.proofs.Told.{Honest, honest, fence_grows}
use Rattle.mr_world_model.proofs.Cluster.{Cluster, lives-on, IsLaunched, launched_as, PacketFits, EnvelopeFits}
use Rattle.mr_world_model.proofs.Sends.{cluster}
use Rattle.mr_world_model.proofs.Told_yes.{Heard_yes, heard_yes, WasTold}
use Rattle.mr_world_model.proofs.Yes.{past_yes}
use Rattle.mr_world_model.proofs.Wishes.{renamed-done, done-no_op, map-wish, maps-no_op, computed-same}
use Rattle.mr_world_model.proofs.Reports.{Reports, reports, wish_as, renamed_as, place_kept, place_was}
use Rattle.mr_world_model.proofs.Masters.{Masters, masters}
use Rattle.mr_world_model.proofs.Steps.{Calls, Case, still, hears, asks, calls, starts, case_of, newest}
use Rattle.mr_world_model.proofs.Regions
use Rattle.mr_world_model.proofs.Regions.{AwayFrom, away-same, commits, op-region, attempt_other_job, committed_other_job, job_other_job, committed_other, attempt_from_committed, attempt_apart_name, committed_name, setup-away, is_loud, Quiet_op, looks, measures, sets_up, clears, moves, commits_now, bars_now, answered-to, quiet-op, Leaves, did, made-left, Answered, good, no, lost, answered}
use Rattle.mr_world_model.proofs.Own.{PastCase, stays, takes, called, past_case, plain-own, call-own}

pub record Known (cfg : Config) (w : World) : Type 0 where
  pub honest : Honest cfg w
  pub cluster : Cluster cfg w
  pub heard : Heard_yes cfg w
  pub reports : Reports cfg w
  pub masters : Masters cfg w

pub known_step : (cfg : Config) (w : World) (e : Event) → Known cfg w → not_now cfg w e ≡ None → Known cfg (effect cfg w e)
known_step cfg w e k n = record {
  honest = honest cfg w e k.honest n;
  cluster = cluster cfg w e k.cluster n;
  heard = heard_yes cfg w e k.cluster k.heard n;
  reports = reports cfg w e k.cluster k.heard k.reports n;
  masters = masters cfg w e k.masters n;
}

abbrev pub R : World → List Record
R w = records_below w.history w.fence

pub record HoldsAt (w : World) (k : ℕ) (t : TaskId) (a : Attempt) : Type 0 where
  pub bytes : List ℕ
  pub whole : IsWhole w a bytes
  pub holds : Holds w.content (committed k t) t (File bytes true)

pub record Old (w : World) (t : TaskId) (a : Attempt) : Type 0 where
  pub at : ℕ
  pub old : at ≤ w.fence
  pub here : HoldsAt w at t a
  pub none_newer : (i : ℕ) → at < i → i ≤ w.fence → Absent w.content (committed i t)

abbrev pub AllHold : Config → World → ℕ → List Record → Type 0
AllHold cfg w k rs = (t : TaskId) (a : Attempt) → IsReduce cfg t → winner_in rs t ≡ Some a → HoldsAt w k t a

abbrev pub NoTwice : List Todo_winner → Type 0
NoTwice [] = Unit {0}
NoTwice (x ∷ xs) = (has_winner xs x.task ≡ false) × NoTwice xs

abbrev pub Looked : World → ℕ → TaskId → ℕ → Type 0
Looked w k t j = (j < k) × ((i : ℕ) → j < i → i < k → Absent w.content (committed i t))

abbrev pub RecoverHead : World → ℕ → List Todo_winner → Recover_step → Type 0
RecoverHead w k [] at = Unit {0}
RecoverHead w k (x ∷ ws) (Look_below j) = Looked w k x.task j
RecoverHead w k (x ∷ ws) (Measure j) = (is_some x.bytes ≡ true) × Looked w k x.task j
RecoverHead w k (x ∷ ws) (Clear_own j) = Looked w k x.task j
RecoverHead w k (x ∷ ws) (Move_from j) = Looked w k x.task j

abbrev pub AbsentAt : World → ℕ → Todo_winner → Type 0
AbsentAt w k x = Absent w.content (committed k x.task)

abbrev pub IsSmall : Config → Todo_winner → Type 0
IsSmall cfg x = IsReduce cfg x.task

pub record RecDirs (cfg : Config) (w : World) (k : ℕ) (rs : List Record) (todo : List Todo_winner) (at : Recover_step) : Type 0 where
  pub small : Each (IsSmall cfg) todo
  pub once : NoTwice todo
  pub wins : Each (Wins rs) todo
  pub absent : Each (AbsentAt w k) todo
  pub head : RecoverHead w k todo at
  pub others : (t : TaskId) (a : Attempt) → IsReduce cfg t → winner_in rs t ≡ Some a → (has_winner todo t ≡ true) ⊎ HoldsAt w k t a

abbrev pub PhaseDirs : Config → World → ℕ → List Record → Phase → Type 0
PhaseDirs cfg w k rs (Opening n) = (t : TaskId) → Absent w.content (committed k t)
PhaseDirs cfg w k rs Setting_up = (t : TaskId) → Absent w.content (committed k t)
PhaseDirs cfg w k rs (Recovering todo at) = RecDirs cfg w k rs todo at
PhaseDirs cfg w k rs Running = AllHold cfg w k rs
PhaseDirs cfg w k rs (Failing false) = AllHold cfg w k rs
PhaseDirs cfg w k rs (Failing true) = Unit {0}
PhaseDirs cfg w k rs (Committing at) = Unit {0}
PhaseDirs cfg w k rs (Finished b) = Unit {0}
PhaseDirs cfg w k rs Stopped = Unit {0}

abbrev pub NoPlace : World → Attempt → Type 0
NoPlace w a = (c : ContainerId) (p : Place) → c.app ≡ w.fence → w.place c ≡ Some p → p.attempt ≡ a → ⊥

pub record Dirs (cfg : Config) (w : World) : Type 0 where
  pub unborn : (k : ℕ) → w.fence < k → Absent w.content (job_attempt k)
  pub unplaced : (a : Attempt) → NoPlace w a → Absent w.content (task_attempt w.fence a)
  pub own : (c : ContainerId) (p : Place) → c.app ≡ w.fence → w.place c ≡ Some p → is_reduce p.attempt ≡ true →
      OwnDir w.content (task_attempt c.app p.attempt) p.attempt.task (computed (w.container_past c)) (wish_as cfg w c p)
  pub tidy : (j : ℕ) (t : TaskId) → entry_at w.content (committed j t) ≡ None → Absent w.content (committed j t)
  pub renamed : (c : ContainerId) (p : Place) → c.app ≡ w.fence → w.place c ≡ Some p → is_reduce p.attempt ≡ true → renamed_as cfg w c p ≡ true →
      is_over (newest cfg w).ended p.attempt ≡ false → Holds w.content (committed c.app p.attempt.task) p.attempt.task (File (computed (w.container_past c)) true)
  pub old : (t : TaskId) (a : Attempt) → winner_in (R w) t ≡ Some a → Old w t a
  pub names : (n : Name) → is_temporary n ≡ false → ((t : TaskId) → IsReduce cfg t → n ≡ task_name t → ⊥) → Absent w.content (job_attempt w.fence ++ n ∷ [])
  pub phase : PhaseDirs cfg w w.fence (R w) (newest cfg w).phase

-- Containers of one task

dead-over : (cfg : Config) (w : World) → Cluster cfg w → (c : ContainerId) (p : Place) → w.is_alive c ≡ true → w.place c ≡ Some p → is_reduce p.attempt ≡ true → has w.barred p.attempt ≡ false → is_over (seen_by cfg w c.app).ended p.attempt ≡ false
dead-over cfg w h c p a q r f = lives-on cfg w h c.app (launched_as c p.attempt p.node p.incarnation) (h.places c p q).0 r a f

told-named : (cfg : Config) (w : World) → Cluster cfg w → (c : ContainerId) (p : Place) → WasTold w c p.attempt → is_over (seen_by cfg w c.app).ended p.attempt ≡ false →
    named_in (seen_by cfg w c.app).asked (seen_by cfg w c.app).ended p.attempt.task ≡ Some p.attempt
told-named cfg w h c p t o = let f : PacketFits cfg w (Container c) (Answer p.attempt true) = Each-In (EnvelopeFits cfg w) w.bag h.packets _ t in by f.4
  where
    by : NamedOrOver p.attempt (seen_by cfg w c.app) → named_in (seen_by cfg w c.app).asked (seen_by cfg w c.app).ended p.attempt.task ≡ Some p.attempt
    by (inl v) = absurd (false≢true (sym o ∙ v))
    by (inr v) = v

pub same_task : (cfg : Config) (w : World) → Cluster cfg w → (c d : ContainerId) (p q : Place) → w.place c ≡ Some p → w.place d ≡ Some q → c.app ≡ d.app → p.attempt.task ≡ q.attempt.task →
    WasTold w c p.attempt → WasTold w d q.attempt → is_over (seen_by cfg w c.app).ended p.attempt ≡ false → is_over (seen_by cfg w d.app).ended q.attempt ≡ false → c ≡ d
same_task cfg w h c d p q pc qd app task tc td oc od =
    let nc = told-named cfg w h c p tc oc in let nd = told-named cfg w h d q td od in
    let nd' : named_in (seen_by cfg w c.app).asked (seen_by cfg w c.app).ended p.attempt.task ≡ Some q.attempt =
    subst (λ z. named_in (seen_by cfg w z).asked (seen_by cfg w z).ended p.attempt.task ≡ Some q.attempt) (sym app)
    (subst (λ t. named_in (seen_by cfg w d.app).asked (seen_by cfg w d.app).ended t ≡ Some q.attempt) (sym task) nd) in
    let ab : p.attempt ≡ q.attempt = cc (nc, nd') in
    let i : IsLaunched cfg w c.app (launched_as d q.attempt q.node q.incarnation) = subst (λ z. IsLaunched cfg w z (launched_as d q.attempt q.node q.incarnation)) (sym app) (h.places d q qd).0 in
    ap (λ (z : Launched). z.container) ((h.distinct c.app).attempts (launched_as c p.attempt p.node p.incarnation) (launched_as d q.attempt q.node q.incarnation) (h.places c p pc).0 i ab)

-- two places with one attempt and one generation are one container's
pub same_attempt : (cfg : Config) (w : World) → Cluster cfg w → (c d : ContainerId) (p q : Place) → w.place c ≡ Some p → w.place d ≡ Some q → c.app ≡ d.app → p.attempt ≡ q.attempt → c ≡ d
same_attempt cfg w h c d p q pc qd app ab =
    let i : IsLaunched cfg w c.app (launched_as d q.attempt q.node q.incarnation) = subst (λ z. IsLaunched cfg w z (launched_as d q.attempt q.node q.incarnation)) (sym app) (h.places d q qd).0 in
    ap (λ (z : Launched). z.container) ((h.distinct c.app).attempts (launched_as c p.attempt p.node p.incarnation) (launched_as d q.attempt q.node q.incarnation) (h.places c p pc).0 i ab)

commits-yes : (v : Wish) → commits v ≡ true → past_yes v ≡ true
commits-yes To_clear e = refl
commits-yes To_rename e = refl
commits-yes v e = absurd (false≢true e)

pub none-some : {A : Type 0} {x : A} {P : Type 0} → None ≡ Some x → P
none-some e = cc

module _ (cfg : Config) (w : World) (e : Event) (kn : Known cfg w) (n : not_now cfg w e ≡ None) where
  abbrev wish_k : Calls cfg w e → Wish
  wish_k k = wish_as cfg w k.who k.place

  pub calls-reduce : (k : Calls cfg w e) → is_reduce k.place.attempt ≡ true
  calls-reduce k = by (is_reduce k.place.attempt) refl
    where
      by : (b : Bool) → is_reduce k.place.attempt ≡ b → is_reduce k.place.attempt ≡ true
      by true q = q
      by false q = none-some (sym (maps-no_op k.who.app k.place.attempt (computed (w.container_past k.who)) _ (map-wish (length cfg.splits) k.place.attempt (w.container_past k.who) q)) ∙ k.wished)

  pub calls-small : (k : Calls cfg w e) → IsReduce cfg k.place.attempt.task
  calls-small k = kn.masters.small k.who.app (launched_as k.who k.place.attempt k.place.node k.place.incarnation) (kn.cluster.places k.who k.place k.placed).0 (calls-reduce k)

  -- a task with a winner of an earlier generation is none of theirs
  pub calls-new : (k : Calls cfg w e) → winner_in (R w) k.place.attempt.task ≡ None
  calls-new k = (kn.honest.steady w.fence (omega arith)).launches (launched_as k.who k.place.attempt k.place.node k.place.incarnation)
      (subst (λ z. IsLaunched cfg w z (launched_as k.who k.place.attempt k.place.node k.place.incarnation)) k.app (kn.cluster.places k.who k.place k.placed).0) (calls-reduce k)

  -- and a container that has renamed has its task to itself
  pub calls-free : (k : Calls cfg w e) → commits (wish_k k) ≡ true → (c : ContainerId) (p : Place) → c.app ≡ w.fence → w.place c ≡ Some p → is_reduce p.attempt ≡ true → renamed_as cfg w c p ≡ true →
      is_over (newest cfg w).ended p.attempt ≡ false → k.place.attempt.task ≡ p.attempt.task → ⊥
  calls-free k m c p app q d r o t =
      let over : is_over (seen_by cfg w c.app).ended p.attempt ≡ false = subst (λ z. is_over (seen_by cfg w z).ended p.attempt ≡ false) (sym app) o in
      let told = kn.heard.yes k.who k.place k.placed (calls-reduce k) (commits-yes _ m) in
      let same : k.who ≡ c = same_task cfg w kn.cluster k.who c k.place p k.placed q (k.app ∙ sym app) t told (kn.reports.told c p q d r) (dead-over cfg w kn.cluster k.who k.place k.alive k.placed (calls-reduce k) k.free) over in
      let pl : w.place c ≡ Some k.place = subst (λ z. w.place z ≡ Some k.place) same k.placed in
      let kp : k.place ≡ p = cc (pl, q) in
      let r' : renamed_as cfg w k.who k.place ≡ true = subst (λ z. renamed_as cfg w z k.place ≡ true) (sym same) (subst (λ (z : Place). renamed_as cfg w c z ≡ true) (sym kp) r) in
      none-some (sym (done-no_op k.who.app k.place.attempt (computed (w.container_past k.who)) _ (renamed-done (length cfg.splits) k.place.attempt (w.container_past k.who) r')) ∙ k.wished)

  pub calls-away : (k : Calls cfg w e) (d : Path) → Diverge (task_attempt k.who.app k.place.attempt) d → (commits (wish_k k) ≡ true → Diverge (committed k.who.app k.place.attempt.task) d) → AwayFrom k.op d
  calls-away k d = op-region k.who.app k.place.attempt (computed (w.container_past k.who)) (wish_k k) k.op d k.wished

  module _ (loud : is_loud (newest cfg w).phase ≡ false) (dirs : Dirs cfg w) where
    -- a part of the layout that no call reaches
    pub region : (d : Path) → ((op : Op) → Quiet_op w.fence (newest cfg w).phase op → AwayFrom op d) → ((k : Calls cfg w e) → AwayFrom k.op d) → (x : Path) → entry_at (effect cfg w e).content (d ++ x) ≡ entry_at w.content (d ++ x)
    region d f g x = by (case_of cfg w e kn.honest kn.cluster n)
      where
        by : Case cfg w e → entry_at (effect cfg w e).content (d ++ x) ≡ entry_at w.content (d ++ x)
        by (still fe c s) = ap (λ z. entry_at z (d ++ x)) c
        by (hears y h al sf fe c s) = ap (λ z. entry_at z (d ++ x)) c
        by (starts fe c s) = ap (λ z. entry_at z (d ++ x)) c
        by (calls k) = ap (λ z. entry_at z (d ++ x)) k.content ∙ away-same w.content k.op d (g k) x
        by (asks call v ev du fe c s) = ap (λ z. entry_at z (d ++ x)) c ∙ lv (made-left w w.fence call v)
          where
            lv : Leaves w.content call (content_after w (Some (record { app = w.fence; call = call; fault = v }))) → entry_at (content_after w (Some (record { app = w.fence; call = call; fault = v }))) (d ++ x) ≡ entry_at w.content (d ++ x)
            lv (Regions.same q) = ap (λ z. entry_at z (d ++ x)) q
            lv (did op q ok l) = ap (λ z. entry_at z (d ++ x)) l ∙ away-same w.content op d (f op (quiet-op cfg w.fence (newest cfg w) op loud (du ∙ ap Some q))) x

    pub move-head : (x : Todo_winner) (ws : List Todo_winner) (j : ℕ) → (newest cfg w).phase ≡ Recovering (x ∷ ws) (Move_from j) → RecDirs cfg w w.fence (R w) (x ∷ ws) (Move_from j)
    move-head x ws j q = subst (PhaseDirs cfg w w.fence (R w)) q dirs.phase

    pub clear-head : (x : Todo_winner) (ws : List Todo_winner) (j : ℕ) → (newest cfg w).phase ≡ Recovering (x ∷ ws) (Clear_own j) → RecDirs cfg w w.fence (R w) (x ∷ ws) (Clear_own j)
    clear-head x ws j q = subst (PhaseDirs cfg w w.fence (R w)) q dirs.phase

    pub quiet-away : (d : Path) → AwayFrom (MkDirs (job_attempt w.fence)) d → ((j : ℕ) (t : TaskId) → j ≤ w.fence → IsReduce cfg t → Diverge (committed j t) d) → Diverge commit_started d →
        (op : Op) → Quiet_op w.fence (newest cfg w).phase op → AwayFrom op d
    quiet-away d a b c _ (looks q) = λ x. tt
    quiet-away d a b c _ (measures q) = λ x. tt
    quiet-away d a b c _ (sets_up q) = a
    quiet-away d a b c _ (clears x ws j q) = λ y. elsewhere-away (Delete (committed w.fence x.task)) d y (b w.fence x.task (omega arith) (clear-head x ws j q).small.0)
    quiet-away d a b c _ (moves x ws j q) = let h = move-head x ws j q in let l = h.head.0 in λ y. elsewhere-away (Rename (committed j x.task) (committed w.fence x.task)) d y (b j x.task (omega arith) h.small.0, b w.fence x.task (omega arith) h.small.0)
    quiet-away d a b c _ (bars_now x q) = λ y. tt
    quiet-away d a b c _ (commits_now q) = λ y. elsewhere-away (Create commit_started true) d y c

    pub unborn_after : (k : ℕ) → (effect cfg w e).fence < k → Absent (effect cfg w e).content (job_attempt k)
    unborn_after k l = let g = fence_grows cfg w e n in let m : w.fence < k = omega arith in
        Absent-same w.content (effect cfg w e).content (job_attempt k) (region (job_attempt k)
        (quiet-away (job_attempt k) (λ y. elsewhere-away (MkDirs (job_attempt w.fence)) (job_attempt k) y (job_other_job w.fence k (λ q. omega arith)))
        (λ j t i s. committed_other_job j k t (λ q. omega arith)) (inl refl))
        (λ c. let u = c.app in calls-away c (job_attempt k) (attempt_other_job c.who.app k c.place.attempt (λ q. omega arith)) (λ t. committed_other_job c.who.app k c.place.attempt.task (λ q. omega arith)))) (dirs.unborn k m)

    pub names_after : (f : (effect cfg w e).fence ≡ w.fence) (x : Name) → is_temporary x ≡ false → ((t : TaskId) → IsReduce cfg t → x ≡ task_name t → ⊥) → Absent (effect cfg w e).content (job_attempt w.fence ++ x ∷ [])
    names_after f x i o = Absent-same w.content (effect cfg w e).content (job_attempt w.fence ++ x ∷ []) (region (job_attempt w.fence ++ x ∷ [])
        (quiet-away (job_attempt w.fence ++ x ∷ []) (setup-away w.fence w.fence x []) (λ j t l s. committed_name j w.fence t x (o t s)) (inl refl))
        (λ c. calls-away c (job_attempt w.fence ++ x ∷ []) (attempt_apart_name c.who.app w.fence c.place.attempt x i) (λ t. committed_name c.who.app w.fence c.place.attempt.task x (o c.place.attempt.task (calls-small c))))) (dirs.names x i o)

    -- the directory of an attempt that none of the calling containers has
    attempt-kept : (k : ℕ) (a : Attempt) → k ≡ w.fence → ((c : Calls cfg w e) → c.place.attempt ≡ a → ⊥) → (x : Path) → entry_at (effect cfg w e).content (task_attempt k a ++ x) ≡ entry_at w.content (task_attempt k a ++ x)
    attempt-kept k a kf o = region (task_attempt k a)
        (quiet-away (task_attempt k a) (setup-away w.fence k temporary_name (attempt_name a ∷ [])) (λ j t l s. attempt_committed k j a t) (inl refl))
        (λ c. calls-away c (task_attempt k a) (other_attempt c.who.app k c.place.attempt a (λ u v. o c v)) (λ t. attempt_committed k c.who.app a c.place.attempt.task))

    pub unplaced_after : (effect cfg w e).fence ≡ w.fence → (a : Attempt) → NoPlace (effect cfg w e) a → Absent (effect cfg w e).content (task_attempt w.fence a)
    unplaced_after f a o = Absent-same w.content (effect cfg w e).content (task_attempt w.fence a)
        (attempt-kept w.fence a refl (λ c q. o c.who c.place (c.app ∙ sym f) (place_kept cfg w e kn.cluster c.who c.place c.placed) q))
        (dirs.unplaced a (λ c p u v q. o c p (u ∙ sym f) (place_kept cfg w e kn.cluster c p v) q))

    pub own_after : (c : ContainerId) (p : Place) → c.app ≡ w.fence → (effect cfg w e).place c ≡ Some p → is_reduce p.attempt ≡ true →
        OwnDir (effect cfg w e).content (task_attempt c.app p.attempt) p.attempt.task (computed ((effect cfg w e).container_past c)) (wish_as cfg (effect cfg w e) c p)
    own_after c p app q d = by (place_was cfg w e kn.cluster kn.heard n c p q)
      where
        h' : Cluster cfg (effect cfg w e)
        h' = cluster cfg w e kn.cluster n

        Out : List Step → Type 0
        Out h = OwnDir (effect cfg w e).content (task_attempt c.app p.attempt) p.attempt.task (computed h) (wish (length cfg.splits) p.attempt h)

        by : (w.place c ≡ Some p) ⊎ ((w.place c ≡ None) × ((effect cfg w e).container_past c ≡ [])) → Out ((effect cfg w e).container_past c)
        by (inr z) = OwnDir-absent (effect cfg w e).content (task_attempt c.app p.attempt) p.attempt.task _ _
            (Absent-same w.content (effect cfg w e).content (task_attempt c.app p.attempt) (attempt-kept c.app p.attempt app (λ k v. nobody k.who k.place k.app k.placed v))
            (subst (λ z. Absent w.content (task_attempt z p.attempt)) (sym app) (dirs.unplaced p.attempt nobody)))
          where
            nobody : NoPlace w p.attempt
            nobody c2 p2 app2 q2 v = let same : c2 ≡ c = same_attempt cfg (effect cfg w e) h' c2 c p2 p (place_kept cfg w e kn.cluster c2 p2 q2) q (app2 ∙ sym app) v in
                none-some (sym z.0 ∙ subst (λ z. w.place z ≡ Some p2) same q2)
        by (inl z) = past (past_case cfg w e n c p z)
          where
            own : OwnDir w.content (task_attempt c.app p.attempt) p.attempt.task (computed (w.container_past c)) (wish_as cfg w c p)
            own = dirs.own c p app z d

            past : PastCase cfg w e c p → Out ((effect cfg w e).container_past c)
            past (stays u v) = subst Out (sym u) (OwnDir-same w.content (effect cfg w e).content (task_attempt c.app p.attempt) p.attempt.task (computed (w.container_past c)) (wish_as cfg w c p)
                (attempt-kept c.app p.attempt app (λ k m. v k (same_attempt cfg w kn.cluster k.who c k.place p k.placed z (k.app ∙ sym app) m))) own)
            past (takes s u i k v) = subst Out (sym u) (OwnDir-same w.content (effect cfg w e).content (task_attempt c.app p.attempt) p.attempt.task (computed (s ∷ w.container_past c)) (wish (length cfg.splits) p.attempt (s ∷ w.container_past c))
                (λ x. ap (λ y. entry_at y (task_attempt c.app p.attempt ++ x)) v)
                (subst (OwnDir w.content (task_attempt c.app p.attempt) p.attempt.task (computed (s ∷ w.container_past c))) (sym (wish-step (length cfg.splits) p.attempt (w.container_past c) s))
                (plain-own w.content (task_attempt c.app p.attempt) p.attempt.task (length cfg.splits) p.attempt (w.container_past c) (wish_as cfg w c p) s k i own)))
            past (called op g ev wi u v) = subst Out (sym u)
                (subst (λ b. OwnDir (effect cfg w e).content (task_attempt c.app p.attempt) p.attempt.task b (wish (length cfg.splits) p.attempt (Called op (as_heard (reply_under g (reply_to w (caller_as c p.attempt) (Names op)))) ∷ w.container_past c))) (sym (computed-same _ (w.container_past c) refl))
                (subst (λ y. OwnDir y (task_attempt c.app p.attempt) p.attempt.task (computed (w.container_past c)) (wish (length cfg.splits) p.attempt (Called op (as_heard (reply_under g (reply_to w (caller_as c p.attempt) (Names op)))) ∷ w.container_past c))) (sym v)
                (subst (OwnDir _ (task_attempt c.app p.attempt) p.attempt.task (computed (w.container_past c))) (sym (wish-step (length cfg.splits) p.attempt (w.container_past c) _))
                (call-own w.content _ c.app p.attempt (computed (w.container_past c)) (length cfg.splits) (wish_as cfg w c p) op _ wi own (answered-to w (caller_as c p.attempt) op g)))))
