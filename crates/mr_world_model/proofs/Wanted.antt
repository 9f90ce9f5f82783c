-- The task that is wanted may be launched, and is the first.
use Rattle.std.proofs.Common.{ℕ, zero, suc, ◌≡◌, ◌<◌, refl, sym, ◌∙◌, ap, subst, Bool, true, false, ◌&&◌, not, nat_eq, nat_lt, Option, Some, None, if◌then◌else◌, length, ◌⊎◌, inl, inr, arith}
use Rattle.std.proofs.lemmas.Bool.{and_parts, true≢false, eq-eqb, eqb-true, eqb-false, lt-ltb}
use Rattle.std.specs.Option.{option_or}
use Rattle.mr_ids.specs.declared.id.JobId.{JobId}
use Rattle.mr_world_model.specs.Ids.{TaskId, Map, Reduce, of_reduces, map_of, reduce_of, same_job}
use Rattle.mr_world_model.specs.Packets.{Config}
use Rattle.mr_world_model.specs.Hearing.{Seen, is_running, is_won}
use Rattle.mr_world_model.specs.World.{World, LaunchOn, seen_by}
use Rattle.mr_world_model.specs.Effect.{is_task, live_count, task_fault, not_now, unless, NoMaster, NotRunning, NoTask, NoNode}
use Rattle.mr_world_model.specs.Wanted.{waits, map_succeeded, maps_succeeded, first_waiting, wanted, wanted_reduce, WantedMayBeLaunched}
use Rattle.mr_world_model.proofs.Names.{same_job-true}

-- below, and not the last
not-equal : (m n : ℕ) → m < suc n → (m ≡ n → ⊥) → m < n
not-equal m n l f = grind (arith, l, f)

-- the first that waits of some tasks
pub record First (s : Seen) (task : ℕ → TaskId) (n : ℕ) (t : TaskId) : Type 0 where
  pub number : ℕ
  pub is : t ≡ task number
  pub small : number < n
  pub waiting : waits s t ≡ true
  pub before : (m : ℕ) → m < number → waits s (task m) ≡ false

-- none waits
none-waits : (s : Seen) (task : ℕ → TaskId) (n : ℕ) → first_waiting s task n ≡ None → (m : ℕ) → m < n → waits s (task m) ≡ false
none-waits s task zero e m l = absurd (omega (arith, l))
none-waits s task (suc n) e m l = by (first_waiting s task n) refl (waits s (task n)) refl e (λ p. none-waits s task n p m)
  where
    by : (o : Option TaskId) → first_waiting s task n ≡ o → (b : Bool) → waits s (task n) ≡ b → option_or o (if b then Some (task n) else None) ≡ None →
        (first_waiting s task n ≡ None → m < n → waits s (task m) ≡ false) → waits s (task m) ≡ false
    by (Some t) p b q e go = cc
    by None p true q e go = cc
    by None p false q e go = at (nat_eq m n) refl
      where
        at : (b : Bool) → nat_eq m n ≡ b → waits s (task m) ≡ false
        at true d = subst (λ z. waits s (task z) ≡ false) (sym (eqb-true m n d)) q
        at false d = go p (not-equal m n l (eqb-false m n d))

first-is : (s : Seen) (task : ℕ → TaskId) (n : ℕ) (t : TaskId) → first_waiting s task n ≡ Some t → First s task n t
first-is s task zero t e = cc
first-is s task (suc n) t e = by (first_waiting s task n) refl (waits s (task n)) refl e (first-is s task n t)
  where
    by : (o : Option TaskId) → first_waiting s task n ≡ o → (b : Bool) → waits s (task n) ≡ b → option_or o (if b then Some (task n) else None) ≡ Some t →
        (first_waiting s task n ≡ Some t → First s task n t) → First s task (suc n) t
    by (Some u) p b q e go = let d : u ≡ t = cc in let f = go (p ∙ ap Some d) in let l = f.small in
        record { number = f.number; is = f.is; small = omega (arith, l); waiting = f.waiting; before = f.before }
    by None p true q e go = let d : task n ≡ t = cc in
        record { number = n; is = sym d; small = omega arith; waiting = subst (λ z. waits s z ≡ true) d q; before = none-waits s task n p }
    by None p false q e go = cc

-- a wanted task is a map, or a reduce after all maps
pub record IsMap (cfg : Config) (s : Seen) (t : TaskId) : Type 0 where
  pub first : First s (map_of cfg.job) (length cfg.splits) t

pub record IsReduce (cfg : Config) (s : Seen) (t : TaskId) : Type 0 where
  pub first : First s (reduce_of cfg.job) cfg.reduces t
  pub maps : maps_succeeded s (length cfg.splits) ≡ true

wanted-is : (cfg : Config) (s : Seen) (t : TaskId) → wanted cfg s ≡ Some t → (is_running s.phase ≡ true) × (IsMap cfg s t ⊎ IsReduce cfg s t)
wanted-is cfg s t e = by (is_running s.phase) refl e
  where
    maps : (o : Option TaskId) → first_waiting s (map_of cfg.job) (length cfg.splits) ≡ o → (b : Bool) → maps_succeeded s (length cfg.splits) ≡ b →
        option_or o (if b then first_waiting s (reduce_of cfg.job) cfg.reduces else None) ≡ Some t → IsMap cfg s t ⊎ IsReduce cfg s t
    maps (Some u) p b q e = let d : u ≡ t = cc in inl (record { first = first-is s (map_of cfg.job) (length cfg.splits) t (p ∙ ap Some d) })
    maps None p true q e = inr (record { first = first-is s (reduce_of cfg.job) cfg.reduces t e; maps = q })
    maps None p false q e = cc

    by : (b : Bool) → is_running s.phase ≡ b → (if b then option_or (first_waiting s (map_of cfg.job) (length cfg.splits)) (wanted_reduce cfg s) else None) ≡ Some t → (is_running s.phase ≡ true) × (IsMap cfg s t ⊎ IsReduce cfg s t)
    by true r e = (r, maps (first_waiting s (map_of cfg.job) (length cfg.splits)) refl (maps_succeeded s (length cfg.splits)) refl e)
    by false r e = cc

own-job : (j : JobId) → same_job j j ≡ true
own-job j = let a = eq-eqb j.start j.start refl in let b = eq-eqb j.number j.number refl in λ i. a i && b i

of-job : (cfg : Config) (s : Seen) (t : TaskId) → IsMap cfg s t ⊎ IsReduce cfg s t → (is_task cfg t ≡ true) × (waits s t ≡ true)
of-job cfg s t (inl m) = (
  subst (λ u. is_task cfg u ≡ true) (sym m.first.is) (let a = own-job cfg.job in let b = lt-ltb m.first.number (length cfg.splits) m.first.small in λ i. a i && b i),
  m.first.waiting,
)
of-job cfg s t (inr r) = (
  subst (λ u. is_task cfg u ≡ true) (sym r.first.is) (let a = own-job cfg.job in let b = lt-ltb r.first.number cfg.reduces r.first.small in λ i. a i && b i),
  r.first.waiting,
)

-- it has no fault
no-fault : (s : Seen) (t : TaskId) → waits s t ≡ true → task_fault s t ≡ None
no-fault s t e =
    let a = and_parts (nat_eq (live_count s t s.launched) 0) _ e in let b = and_parts (not (is_won s (of_reduces t.kind) t)) _ a.1 in
    let none : live_count s t s.launched ≡ 0 = eqb-true (live_count s t s.launched) 0 a.0 in
    let few : nat_lt (live_count s t s.launched) 2 ≡ true = lt-ltb (live_count s t s.launched) 2 (omega (arith, none)) in
    rw (b.0, few, b.1) refl

may : (cfg : Config) (w : World) (k n : ℕ) (t : TaskId) → w.is_master k ≡ true → nat_lt n cfg.nodes ≡ true → wanted cfg (seen_by cfg w k) ≡ Some t → not_now cfg w (LaunchOn k t n) ≡ None
unfolding not_now
may cfg w k n t m l e =
    let i = wanted-is cfg (seen_by cfg w k) t e in let j = of-job cfg (seen_by cfg w k) t i.1 in
    let r = i.0 in let u = j.0 in let f = no-fault (seen_by cfg w k) t j.1 in
    λ x. unless (m x) NoMaster (unless (r x) NotRunning (unless (u x) NoTask (unless (l x) NoNode (f x))))

-- a task of the job is the one of its number
as-map : (cfg : Config) (u : TaskId) → is_task cfg u ≡ true → u.kind ≡ Map → u ≡ map_of cfg.job u.number
as-map cfg u i e = let q = same_job-true u.job cfg.job (and_parts (same_job u.job cfg.job) _ i).0 in λ x. record { job = q x; kind = e x; number = u.number }

as-reduce : (cfg : Config) (u : TaskId) → is_task cfg u ≡ true → u.kind ≡ Reduce → u ≡ reduce_of cfg.job u.number
as-reduce cfg u i e = let q = same_job-true u.job cfg.job (and_parts (same_job u.job cfg.job) _ i).0 in λ x. record { job = q x; kind = e x; number = u.number }

first-waits : (cfg : Config) (s : Seen) (t u : TaskId) → IsMap cfg s t ⊎ IsReduce cfg s t → is_task cfg u ≡ true → u.kind ≡ t.kind → u.number < t.number → waits s u ≡ false
first-waits cfg s t u (inl m) i e l =
    let same : t.number ≡ m.first.number = ap (λ (x : TaskId). x.number) m.first.is in
    subst (λ x. waits s x ≡ false) (sym (as-map cfg u i (e ∙ ap (λ (x : TaskId). x.kind) m.first.is))) (m.first.before u.number (omega (arith, l, same)))
first-waits cfg s t u (inr r) i e l =
    let same : t.number ≡ r.first.number = ap (λ (x : TaskId). x.number) r.first.is in
    subst (λ x. waits s x ≡ false) (sym (as-reduce cfg u i (e ∙ ap (λ (x : TaskId). x.kind) r.first.is))) (r.first.before u.number (omega (arith, l, same)))

each-map : (s : Seen) (n m : ℕ) → maps_succeeded s n ≡ true → m < n → map_succeeded s m ≡ true
each-map s zero m e l = absurd (omega (arith, l))
each-map s (suc n) m e l = let q = and_parts (map_succeeded s n) (maps_succeeded s n) e in by (nat_eq m n) refl q (each-map s n m)
  where
    by : (b : Bool) → nat_eq m n ≡ b → (map_succeeded s n ≡ true) × (maps_succeeded s n ≡ true) → (maps_succeeded s n ≡ true → m < n → map_succeeded s m ≡ true) → map_succeeded s m ≡ true
    by true d q go = subst (λ z. map_succeeded s z ≡ true) (sym (eqb-true m n d)) q.0
    by false d q go = go q.1 (not-equal m n l (eqb-false m n d))

maps-first : (cfg : Config) (s : Seen) (t : TaskId) (m : ℕ) → IsMap cfg s t ⊎ IsReduce cfg s t → of_reduces t.kind ≡ true → m < length cfg.splits → map_succeeded s m ≡ true
maps-first cfg s t m (inl x) d l = absurd (true≢false (sym d ∙ ap (λ (u : TaskId). of_reduces u.kind) x.first.is))
maps-first cfg s t m (inr r) d l = each-map s (length cfg.splits) m r.maps l

pub wanted_may_be_launched : WantedMayBeLaunched
wanted_may_be_launched = record {
  may = may;
  waiting = λ cfg s t e. (of-job cfg s t (wanted-is cfg s t e).1).1;
  first = λ cfg s t u e i d l. first-waits cfg s t u (wanted-is cfg s t e).1 i d l;
  maps_first = λ cfg s t m e d l. maps-first cfg s t m (wanted-is cfg s t e).1 d l;
}
