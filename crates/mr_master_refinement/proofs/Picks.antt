-- Which attempts end, and which outputs are lost, where a node restarts or is given up: the machine picks those of each task that the master does.
use Rattle.std.proofs.Common.{ℕ, ◌≡◌, refl, sym, ◌∙◌, ap, subst, Bool, true, false, ◌&&◌, ◌||◌, not, cond, List, [], ◌∷◌, Option, Some, None, if◌then◌else◌, filter, nat_eq, nat_lt, inl, inr}
use Rattle.std.specs.List.{find}
use Rattle.std.specs.Option.{option_map}
use Rattle.std.proofs.lemmas.Bool.{and_parts, false≢true, true≢false}
use Rattle.mr_ids.specs.Attempt.{Attempt}
use Rattle.mr_ids.specs.declared.id.TaskId.{TaskId}
use Rattle.mr_ids.specs.declared.id.TaskKind.{TaskKind}
use Rattle.mr_ids.specs.declared.id.TaskKind.TheVariants.{Map, Reduce}
use Rattle.mr_grant.specs.Attempts as grant
use Rattle.mr_grant.specs.Attempts.{same_attempt}
use Rattle.mr_grant.proofs.Same.{same-is, same-itself}
use Rattle.mr_task.specs.Readings as task
use Rattle.mr_task.proofs.Arrivals.{arrivals}
use Rattle.mr_task.proofs.Growth.{recorded-arrived}
use Rattle.mr_master_model.specs.declared.launch.Launch.{Launch}
use Rattle.mr_master_model.specs.declared.setting.Setting.{Setting}
use Rattle.mr_master_model.specs.Job as job
use Rattle.mr_master_model.specs.Readings as read
use Rattle.mr_master_model.specs.Readings.{Place}
use Rattle.mr_master_model.specs.Hearing as hears
use Rattle.mr_world_model.specs.Ids.{task_eq, attempt_eq, is_reduce, of_reduces}
use Rattle.mr_world_model.specs.Packets.{Config}
use Rattle.mr_world_model.specs.Hearing.{Seen, Launched, Placed, is_running, has, find_launched}
use Rattle.mr_world_model.specs.Duties.{Master_step, seen, attempts_of}
use Rattle.mr_world_model.specs.Claims.{In}
use Rattle.mr_world_model.specs.Calls.{calls, of_task, below, maps_on}
use Rattle.mr_world_model.specs.Made.{AllMade}
use Rattle.mr_world_model.proofs.Lists.{attempt_eq-true}
use Rattle.mr_world_model.proofs.Agree.{eq-same, apart}
use Rattle.mr_world_model.proofs.Names.{task_eq-is}
use Rattle.mr_world_model.proofs.Standing.{Once, Stood, gone}
use Rattle.mr_master_refinement.specs.Steps.{setting}
use Rattle.mr_master_refinement.specs.Points.{View, view, Alike, launch_as}
use Rattle.mr_master_refinement.specs.Begins.{attempts_in}
use Rattle.mr_master_refinement.specs.Holds.{Holds}
use Rattle.mr_master_refinement.proofs.Points.{task-test, job-is}
use Rattle.mr_master_refinement.proofs.Alike.{live_in, can_lose}
use Rattle.mr_master_refinement.proofs.Launches.{places, found, found-in}
use Rattle.mr_master_refinement.proofs.Lies.{place_as, lies, lies-is}
use Rattle.mr_master_refinement.proofs.Succeeds.{succeeds, stood, there}

abbrev pub passes : {A : Type 0} → (A → Bool) → Option A → Bool
passes p None = false
passes p (Some x) = p x

-- ---- of launches

abbrev pub picked : (Launched → Bool) → List Launched → List Attempt
picked p [] = []
picked p (l ∷ ls) = if p l then l.attempt ∷ picked p ls else picked p ls

pub picked-is : (p : Launched → Bool) (ls : List Launched) (a : Attempt) → ((l m : Launched) → In l ls → In m ls → l.attempt ≡ m.attempt → l ≡ m) → has (picked p ls) a ≡ passes p (find_launched ls a)
picked-is p [] a d = refl
picked-is p (l ∷ ls) a d = by (attempt_eq a l.attempt) refl (p l) refl (picked-is p ls a (λ x y i j. d x y (inr i) (inr j)))
  where
    -- where it was found further on, it is the same launch
    again : attempt_eq a l.attempt ≡ true → p l ≡ false → (f : Option Launched) → find_launched ls a ≡ f → passes p f ≡ false
    again e q None f = refl
    again e q (Some x) f = let u = found-in ls a x f in ap p (d x l (inr u.0) (inl refl) (u.1 ∙ attempt_eq-true a l.attempt e)) ∙ q

    by : (b : Bool) → attempt_eq a l.attempt ≡ b → (c : Bool) → p l ≡ c → has (picked p ls) a ≡ passes p (find_launched ls a) →
        has (if c then l.attempt ∷ picked p ls else picked p ls) a ≡ passes p (if b then Some l else find_launched ls a)
    by true e true q rest = (λ i. e i || has (picked p ls) a) ∙ sym q
    by true e false q rest = rest ∙ (again e q (find_launched ls a) refl ∙ sym q)
    by false e true q rest = (λ i. e i || has (picked p ls) a) ∙ rest
    by false e false q rest = rest

abbrev pub is_under : ℕ → ℕ → Launched → Bool
is_under n i l = nat_eq l.node n && nat_lt l.incarnation i

abbrev pub is_map_on : ℕ → Launched → Bool
is_map_on n l = nat_eq l.node n && not (is_reduce l.attempt)

pub below-picked : (n i : ℕ) (ls : List Launched) → below n i ls ≡ picked (is_under n i) ls
below-picked n i [] = refl
below-picked n i (l ∷ ls) = ap (λ xs. if is_under n i l then l.attempt ∷ xs else xs) (below-picked n i ls)

pub maps-picked : (n : ℕ) (ls : List Launched) → maps_on n ls ≡ picked (is_map_on n) ls
maps-picked n [] = refl
maps-picked n (l ∷ ls) = ap (λ xs. if is_map_on n l then l.attempt ∷ xs else xs) (maps-picked n ls)

-- ---- of what stands

abbrev find_placed : List Placed → Attempt → Option Placed
find_placed [] a = None
find_placed (p ∷ ps) a = if attempt_eq a p.attempt then Some p else find_placed ps a

not-placed : (ps : List Placed) (a : Attempt) → has (attempts_of ps) a ≡ false → find_placed ps a ≡ None
not-placed [] a e = refl
not-placed (p ∷ ps) a e = by (attempt_eq a p.attempt) e (not-placed ps a)
  where
    by : (b : Bool) → (b || has (attempts_of ps) a) ≡ false → (has (attempts_of ps) a ≡ false → find_placed ps a ≡ None) → (if b then Some p else find_placed ps a) ≡ None
    by true e go = absurd (true≢false e)
    by false e go = go e

placed-there : (ps : List Placed) (a : Attempt) → has (attempts_of ps) a ≡ true → (p : Placed) × In p ps × (p.attempt ≡ a) × (find_placed ps a ≡ Some p)
placed-there [] a e = absurd (false≢true e)
placed-there (p ∷ ps) a e = by (attempt_eq a p.attempt) refl e (placed-there ps a)
  where
    by : (b : Bool) → attempt_eq a p.attempt ≡ b → (b || has (attempts_of ps) a) ≡ true → (has (attempts_of ps) a ≡ true → (x : Placed) × In x ps × (x.attempt ≡ a) × (find_placed ps a ≡ Some x)) →
        (x : Placed) × In x (p ∷ ps) × (x.attempt ≡ a) × ((if b then Some p else find_placed ps a) ≡ Some x)
    by true q e go = (p, inl refl, sym (attempt_eq-true a p.attempt q), refl)
    by false q e go = let u = go e in (u.0, inr u.1, u.2, u.3)

gone-is : (t : TaskId) (f : Placed → Bool) (ps : List Placed) (a : Attempt) → Once t ps → a.task ≡ t → has (gone f ps) a ≡ passes f (find_placed ps a)
gone-is t f [] a o q = refl
gone-is t f (p ∷ ps) a o q = by (attempt_eq a p.attempt) refl (f p) refl (gone-is t f ps a o.1 q)
  where
    none : attempt_eq a p.attempt ≡ true → find_placed ps a ≡ None
    none e = not-placed ps a (o.0 (subst (λ (x : Attempt). task_eq x.task t ≡ true) (attempt_eq-true a p.attempt e) (task_eq-is a.task t q)) a q)

    by : (b : Bool) → attempt_eq a p.attempt ≡ b → (c : Bool) → f p ≡ c → has (gone f ps) a ≡ passes f (find_placed ps a) →
        has (if c then p.attempt ∷ gone f ps else gone f ps) a ≡ passes f (if b then Some p else find_placed ps a)
    by true e true g rest = (λ i. e i || has (gone f ps) a) ∙ sym g
    by true e false g rest = rest ∙ ((λ i. passes f (none e i)) ∙ sym g)
    by false e true g rest = (λ i. e i || has (gone f ps) a) ∙ rest
    by false e false g rest = rest

-- ---- of one task

pub has-in : (t : TaskId) (xs : List Attempt) (a : Attempt) → a.task ≡ t → grant.has (attempts_in t xs) a ≡ has xs a
has-in t [] a q = refl
has-in t (x ∷ xs) a q = by (task_eq x.task t) refl (has-in t xs a q)
  where
    by : (b : Bool) → task_eq x.task t ≡ b → grant.has (attempts_in t xs) a ≡ has xs a → grant.has (if b then x ∷ attempts_in t xs else attempts_in t xs) a ≡ (attempt_eq a x || has xs a)
    by true e rest = let here = eq-same a x in λ i. sym here i || rest i
    by false e rest = rest ∙ ap (λ b. b || has xs a) (sym (apart t a x q e))

pub has-filter : (f : Attempt → Bool) (xs : List Attempt) (a : Attempt) → grant.has (filter f xs) a ≡ (f a && grant.has xs a)
has-filter f [] a = none (f a)
  where
    none : (b : Bool) → false ≡ (b && false)
    none true = refl
    none false = refl
has-filter f (x ∷ xs) a = by (f x) refl (same_attempt a x) refl (has-filter f xs a)
  where
    take : (c : Bool) → f x ≡ c → same_attempt a x ≡ true → f a ≡ c
    take c e q = ap f (same-is a x q) ∙ e

    by : (b : Bool) → f x ≡ b → (c : Bool) → same_attempt a x ≡ c → grant.has (filter f xs) a ≡ (f a && grant.has xs a) →
        grant.has (cond b (x ∷ filter f xs) (filter f xs)) a ≡ (f a && (same_attempt a x || grant.has xs a))
    by true e true q rest = (λ i. q i || grant.has (filter f xs) a) ∙ (λ i. sym (take true e q) i && (sym q i || grant.has xs a))
    by true e false q rest = (λ i. q i || grant.has (filter f xs) a) ∙ (rest ∙ (λ i. f a && (sym q i || grant.has xs a)))
    by false e true q rest = rest ∙ ((λ i. take false e q i && grant.has xs a) ∙ (λ i. sym (take false e q) i && (same_attempt a x || grant.has xs a)))
    by false e false q rest = rest ∙ (λ i. f a && (sym q i || grant.has xs a))

-- ---- at a point of a past

module _ (cfg : Config) (k : ℕ) (h : List Master_step) (m : read.Seen) (made : AllMade cfg k h) (o : Holds cfg k h m) (run : is_running (seen cfg k h).phase ≡ true) (t : TaskId) (own : job.is_task (setting cfg k) t ≡ true) where
  abbrev W : Setting
  W = setting cfg k

  abbrev S : Seen
  S = seen cfg k h

  abbrev R : task.Seen
  R = of_task cfg k h t

  alike : Alike R (read.of_task W m t)
  alike = o.stands.tasks run t own

  is-its : (a : Attempt) → grant.has R.arrived a ≡ true → a.task ≡ t
  is-its a e = (arrivals t k (calls cfg k h t)).of_task a e

  -- those of its live attempts that were launched so
  pub live-picked : (f : Option Launch → Bool) (p : Launched → Bool) → f None ≡ false → ((l : Launched) → l.attempt.task ≡ t → f (Some (launch_as l)) ≡ p l) → (a : Attempt) → live_in (view R) a ≡ true →
      grant.has (read.live_where W m (λ b. f (read.launch_of W m b)) t) a ≡ grant.has (attempts_in t (picked p S.launched)) a
  live-picked f p none same a e =
      has-filter (λ b. f (read.launch_of W m b)) (task.live (read.of_task W m t)) a
      ∙ ((λ i. f ((found cfg k h m made o run).launch a i) && has-filter (task.is_live (read.of_task W m t)) (read.of_task W m t).arrived a i)
      ∙ ((λ i. f (option_map launch_as (find_launched S.launched a)) && (lives i && arrived i))
      ∙ (all (f (option_map launch_as (find_launched S.launched a)))
      ∙ (by (find_launched S.launched a) refl
      ∙ (sym (picked-is p S.launched a (places cfg k h made).0.attempts) ∙ sym (has-in t (picked p S.launched) a here))))))
    where
      here : a.task ≡ t
      here = is-its a (and_parts (grant.has R.arrived a) _ e).0

      lives : task.is_live (read.of_task W m t) a ≡ true
      lives = ap (λ v. live_in v a) alike ∙ e

      arrived : grant.has (read.of_task W m t).arrived a ≡ true
      arrived = (and_parts (grant.has (read.of_task W m t).arrived a) _ lives).0

      all : (b : Bool) → (b && true) ≡ b
      all true = refl
      all false = refl

      by : (x : Option Launched) → find_launched S.launched a ≡ x → f (option_map launch_as x) ≡ passes p x
      by None q = none
      by (Some l) q = same l (ap (λ (b : Attempt). b.task) (found-in S.launched a l q).1 ∙ here)

  -- its Succeeded attempt, if its output lies so
  pub lost-picked : (g : Option Place → Bool) (p : Placed → Bool) → ((x : Placed) → g (Some (place_as x)) ≡ p x) → (a : Attempt) → can_lose (view R) a ≡ true → grant.has R.lost a ≡ false →
      grant.has (hears.of_maps t.kind (read.succeeded_where W m (λ b. g (read.place_of W m b)) t)) a ≡ grant.has (attempts_in t (gone (λ x. has S.recorded x.attempt && p x) S.standing)) a
  lost-picked g p same a e kept =
      (λ i. grant.has (hears.of_maps (kind i) (read.if_passes (λ b. g (read.place_of W m b)) (one i))) a)
      ∙ (lone (g (read.place_of W m a)) ∙ (ap g place ∙ (same it.0 ∙ (sym passing
      ∙ ((λ i. passes (λ x. has S.recorded x.attempt && p x) (sym it.3 i)) ∙ (sym (gone-is t (λ x. has S.recorded x.attempt && p x) S.standing a st.once here) ∙ sym (has-in t _ a here)))))))
    where
      recorded : grant.has R.recorded a ≡ true
      recorded = (and_parts (not (task.is_reduce a.task.kind)) _ e).1

      here : a.task ≡ t
      here = is-its a (recorded-arrived t k (calls cfg k h t) a recorded)

      is-map : (x : TaskKind) → not (task.is_reduce x) ≡ true → x ≡ Map
      is-map Map q = refl
      is-map Reduce q = absurd (false≢true q)

      kind : t.kind ≡ Map
      kind = ap (λ (u : TaskId). u.kind) (sym here) ∙ is-map a.task.kind (and_parts (not (task.is_reduce a.task.kind)) _ e).0

      map : of_reduces t.kind ≡ false
      map = ap of_reduces kind

      of-job : t.job ≡ cfg.job
      of-job = job-is cfg t (sym (task-test cfg k t) ∙ own)

      succeeded : task.has_succeeded R a ≡ true
      succeeded = λ i. recorded i && not (kept i)

      one : read.succeeded W m t ≡ Some a
      one = ap (λ (v : View). find (λ b. grant.has v.recorded b && not (v.lost b)) v.arrived) alike ∙ succeeds cfg k h made t map of-job a succeeded

      st : Stood t S.standing S.recorded R.accepted R.recorded R.lost
      st = stood cfg k h made t map of-job

      it : (x : Placed) × In x S.standing × (x.attempt ≡ a) × (find_placed S.standing a ≡ Some x)
      it = placed-there S.standing a (there cfg k h made t map of-job a succeeded)

      place : read.place_of W m a ≡ Some (place_as it.0)
      place = (λ i. read.place_by ((found cfg k h m made o run).launch a i) (read.place_in (o.earlier i) a))
          ∙ ((λ i. read.place_by (option_map launch_as (find_launched S.launched (sym it.2 i))) (read.place_in S.history (sym it.2 i))) ∙ lies-is cfg k S.launched S.history it.0 ((lies cfg k h made).lie it.0 it.1))

      passing : (has S.recorded it.0.attempt && p it.0) ≡ p it.0
      passing = λ i. (ap (has S.recorded) it.2 ∙ (sym (st.recs a here) ∙ recorded)) i && p it.0

      lone : (b : Bool) → grant.has (if b then a ∷ [] else []) a ≡ b
      lone true = ap (λ c. c || false) (same-itself a)
      lone false = refl
