-- What an attempt was launched as, and for which attempt a container was: a machine finds what the master does.
use Rattle.std.proofs.Common.{ℕ, zero, suc, ◌≡◌, refl, sym, ◌∙◌, ap, subst, Bool, true, false, ◌&&◌, List, [], ◌∷◌, ◌++◌, Option, Some, None, cond, if◌then◌else◌, is_some, nat_eq, length, slice_get, inl, inr, arith}
use Rattle.std.specs.Map.{lookup}
use Rattle.std.specs.Option.{option_map}
use Rattle.std.proofs.lemmas.Bool.{eqb-true, eq-eqb}
use Rattle.std.proofs.lemmas.Bool.Decides.{nat_tests}
use Rattle.mr_ids.specs.Attempt.{Attempt}
use Rattle.mr_ids.specs.declared.id.TaskId.{TaskId}
use Rattle.mr_grant.specs.Attempts as grant
use Rattle.mr_grant.specs.Attempts.{same_attempt}
use Rattle.mr_packet.specs.declared.packet.ContainerId.{ContainerId}
use Rattle.mr_master_model.specs.declared.launch.Launch.{Launch}
use Rattle.mr_master_model.specs.declared.setting.Setting.{Setting}
use Rattle.mr_master_model.specs.Job as job
use Rattle.mr_master_model.specs.Readings as read
use Rattle.mr_master_model.specs.Readings.{if_known}
use Rattle.mr_world_model.specs.Ids.{attempt_eq, container_eq, of_reduces}
use Rattle.mr_world_model.specs.Packets.{Config}
use Rattle.mr_world_model.specs.Hearing.{Seen, Launched, is_running, find_launched, find_container}
use Rattle.mr_world_model.specs.Duties.{Master_step, Came, Launches, Expires, Asks, seen}
use Rattle.mr_world_model.specs.Claims.{In}
use Rattle.mr_world_model.specs.Calls.{of_task}
use Rattle.mr_world_model.specs.Made.{AllMade, IsMade, BelongsTo}
use Rattle.mr_world_model.proofs.Lists.{attempt_eq-true, attempt_eq-refl, found_launched}
use Rattle.mr_world_model.proofs.Closed.{Closed, LaunchFits, next-closed, found_container}
use Rattle.mr_world_model.proofs.Distinct.{Distinct, IsNext, distinct-closed}
use Rattle.mr_world_model.proofs.Agree.{eq-same}
use Rattle.mr_world_model.proofs.Made.{fitted, all-fit, all-of-job}
use Rattle.mr_world_model.proofs.Maps as maps
use Rattle.mr_world_model.proofs.Wins as wins
use Rattle.mr_master_refinement.specs.Steps.{setting}
use Rattle.mr_master_refinement.specs.Points.{View, Alike, launch_as, in_order}
use Rattle.mr_master_refinement.specs.Holds.{Holds, LaunchesAgree, LaunchesFound, pair_of}
use Rattle.mr_master_refinement.proofs.Early.{same-if}
use Rattle.mr_master_refinement.proofs.Points.{task-test, job-is}

-- ---- the number of a container is its place

abbrev pub Numbered : ℕ → List Launched → Type 0
Numbered k [] = Unit {0}
Numbered k (l ∷ ls) = (l.container ≡ record { app = k; number = length ls }) × Numbered k ls

abbrev pub Places : ℕ → Seen → Type 0
Places k s = Distinct k s.launched × Numbered k s.launched

places-closed : (cfg : Config) (k : ℕ) → Closed cfg (IsNext k) (Places k)
places-closed cfg k = record {
  asks = λ s a o. o;
  ends = λ s a f due p o. o;
  accepts = λ s a st due o. o;
  knows = λ s f ps o. o;
  calls = λ s p ws st rs ks h due tail o. o;
  expires = λ s ks bs o. o;
  launches = λ s l due u o. ((distinct-closed cfg k).launches s l due u o.0, (subst (λ (x : Launched). x.container ≡ record { app = k; number = length s.launched }) u.2 refl, o.1));
}

pub places : (cfg : Config) (k : ℕ) (h : List Master_step) → AllMade cfg k h → Places k (seen cfg k h)
unfolding seen
places cfg k [] m = (record { apps = λ l i. absurd i; numbers = λ l i. absurd i; counts = λ l i. absurd i; containers = λ l m i j e. absurd i; attempts = λ l m i j e. absurd i }, tt)
places cfg k (x ∷ h) m = next-closed cfg (IsNext k) (Places k) (places-closed cfg k) k (seen cfg k h) x (fits x m.0) (places cfg k h m.1)
  where
    fits : (x : Master_step) → IsMade cfg k (seen cfg k h) x → LaunchFits (IsNext k) (seen cfg k h) x
    fits (Launches l) u = (l.attempt.task, l.node, sym u.0)
    fits (Came p) u = tt
    fits (Expires n) u = tt
    fits (Asks call r) u = tt

-- ---- by attempt

lookup-last : (p : Attempt → Bool) (xs : List (Attempt × Launch)) (e : Attempt × Launch) → lookup p (xs ++ e ∷ []) ≡ read.or_else (lookup p xs) (if p e.0 then Some e.1 else None)
lookup-last p [] e = refl
lookup-last p (x ∷ xs) e = by (p x.0) (lookup-last p xs e)
  where
    by : (b : Bool) → lookup p (xs ++ e ∷ []) ≡ read.or_else (lookup p xs) (if p e.0 then Some e.1 else None) →
        cond b (Some x.1) (lookup p (xs ++ e ∷ [])) ≡ read.or_else (cond b (Some x.1) (lookup p xs)) (if p e.0 then Some e.1 else None)
    by true rest = refl
    by false rest = rest

pub found-in : (ls : List Launched) (a : Attempt) (m : Launched) → find_launched ls a ≡ Some m → In m ls × (m.attempt ≡ a)
found-in [] a m e = cc
found-in (x ∷ ls) a m e = here (attempt_eq a x.attempt) refl e (found-in ls a m)
  where
    here : (b : Bool) → attempt_eq a x.attempt ≡ b → (if b then Some x else find_launched ls a) ≡ Some m → (find_launched ls a ≡ Some m → In m ls × (m.attempt ≡ a)) → In m (x ∷ ls) × (m.attempt ≡ a)
    here true q e go = let same : x ≡ m = cc in (inl same, ap (λ (y : Launched). y.attempt) (sym same) ∙ sym (attempt_eq-true a x.attempt q))
    here false q e go = let z = go e in (inr z.0, z.1)

abbrev Apart : List Launched → Type 0
Apart ls = (l m : Launched) → In l ls → In m ls → l.attempt ≡ m.attempt → l ≡ m

lookup-is : (ls : List Launched) (a : Attempt) → Apart ls → lookup (same_attempt a) (in_order ls) ≡ option_map launch_as (find_launched ls a)
lookup-is [] a d = refl
lookup-is (l ∷ ls) a d =
    lookup-last (same_attempt a) (in_order ls) (l.attempt, launch_as l)
    ∙ ((let rest = lookup-is ls a (λ x y i j. d x y (inr i) (inr j)) in let e = eq-same a l.attempt in λ i. read.or_else (rest i) (if sym e i then Some (launch_as l) else None))
    ∙ by (find_launched ls a) refl (attempt_eq a l.attempt) refl)
  where
    by : (o : Option Launched) → find_launched ls a ≡ o → (b : Bool) → attempt_eq a l.attempt ≡ b →
        read.or_else (option_map launch_as o) (if b then Some (launch_as l) else None) ≡ option_map launch_as (if b then Some l else o)
    by None e b f = one b
      where
        one : (b : Bool) → (if b then Some (launch_as l) else None) ≡ option_map launch_as (if b then Some l else None)
        one true = refl
        one false = refl
    by (Some m) e false f = refl
    by (Some m) e true f = let q = found-in ls a m e in ap (λ (x : Launched). Some (launch_as x)) (d m l (inr q.0) (inl refl) (q.1 ∙ attempt_eq-true a l.attempt f))

-- ---- by container

slice-last : {A : Type 0} (xs : List A) (e : A) (n : ℕ) → slice_get (xs ++ e ∷ []) n ≡ (if nat_eq n (length xs) then Some e else slice_get xs n)
slice-last [] e zero = refl
slice-last [] e (suc n) = ap (λ (b : Bool). if b then Some e else None) (sym (more n))
  where
    more : (n : ℕ) → nat_eq (suc n) 0 ≡ false
    more n = grind (arith, nat_tests)
slice-last (x ∷ xs) e zero = ap (λ (b : Bool). if b then Some e else Some x) (sym (less (length xs)))
  where
    less : (n : ℕ) → nat_eq 0 (suc n) ≡ false
    less n = grind (arith, nat_tests)
slice-last (x ∷ xs) e (suc n) = slice-last xs e n ∙ ap (λ (b : Bool). if b then Some e else slice_get xs n) (sym (both n (length xs)))
  where
    both : (m n : ℕ) → nat_eq (suc m) (suc n) ≡ nat_eq m n
    both m n = grind (arith, nat_tests)

length-last : (xs : List (Attempt × Launch)) (e : Attempt × Launch) → length (xs ++ e ∷ []) ≡ suc (length xs)
length-last [] e = refl
length-last (x ∷ xs) e = ap suc (length-last xs e)

pub order-length : (ls : List Launched) → length (in_order ls) ≡ length ls
order-length [] = refl
order-length (l ∷ ls) = length-last (in_order ls) (l.attempt, launch_as l) ∙ ap suc (order-length ls)

slice-is : (k : ℕ) (ls : List Launched) (n : ℕ) → Numbered k ls → slice_get (in_order ls) n ≡ option_map pair_of (find_container ls (record { app = k; number = n }))
slice-is k [] n o = refl
slice-is k (l ∷ ls) n o =
    slice-last (in_order ls) (l.attempt, launch_as l) n
    ∙ ((let rest = slice-is k ls n o.1 in let q = ap (λ z. nat_eq n z) (order-length ls) ∙ sym here in λ i. if q i then Some (pair_of l) else rest i)
    ∙ by (container_eq (record { app = k; number = n }) l.container))
  where
    here : container_eq (record { app = k; number = n }) l.container ≡ nat_eq n (length ls)
    here = ap (λ (c : ContainerId). container_eq (record { app = k; number = n }) c) o.0 ∙ ap (λ b. b && nat_eq n (length ls)) (eq-eqb k k refl)

    by : (b : Bool) → (if b then Some (pair_of l) else option_map pair_of (find_container ls (record { app = k; number = n }))) ≡ option_map pair_of (if b then Some l else find_container ls (record { app = k; number = n }))
    by true = refl
    by false = refl

other-app : (k : ℕ) (ls : List Launched) (c : ContainerId) → Numbered k ls → nat_eq c.app k ≡ false → find_container ls c ≡ None
other-app k [] c o e = refl
other-app k (l ∷ ls) c o e = (λ i. if here i then Some l else other-app k ls c o.1 e i)
  where
    here : container_eq c l.container ≡ false
    here = ap (λ (d : ContainerId). container_eq c d) o.0 ∙ ap (λ b. b && nat_eq c.number (length ls)) e

pub launched-found : (ls : List Launched) (l : Launched) → In l ls → is_some (find_launched ls l.attempt) ≡ true
launched-found [] l i = absurd i
launched-found (x ∷ ls) l (inl e) = ap (λ (b : Bool). is_some (if b then Some x else find_launched ls l.attempt)) (subst (λ (y : Launched). attempt_eq l.attempt y.attempt ≡ true) (sym e) (attempt_eq-refl l.attempt))
launched-found (x ∷ ls) l (inr i) = at (attempt_eq l.attempt x.attempt) (launched-found ls l i)
  where
    at : (b : Bool) → is_some (find_launched ls l.attempt) ≡ true → is_some (if b then Some x else find_launched ls l.attempt) ≡ true
    at true e = refl
    at false e = e

-- ---- at a point of a past

-- the tasks of the job have heard alike
abbrev pub AllAlike : Config → ℕ → List Master_step → read.Seen → Type 0
AllAlike cfg k h m = (t : TaskId) → job.is_task (setting cfg k) t ≡ true → Alike (of_task cfg k h t) (read.of_task (setting cfg k) m t)

module _ (cfg : Config) (k : ℕ) (h : List Master_step) (m : read.Seen) (made : AllMade cfg k h) (order : m.launched ≡ in_order (seen cfg k h).launched) (alike : AllAlike cfg k h m) where
  abbrev W : Setting
  W = setting cfg k

  abbrev S : Seen
  S = seen cfg k h

  arrived-at : (a : Attempt) → a.task.job ≡ cfg.job → is_some (find_launched S.launched a) ≡ true → grant.has (of_task cfg k h a.task).arrived a ≡ true
  arrived-at a j e = by (of_reduces a.task.kind) refl
    where
      by : (b : Bool) → of_reduces a.task.kind ≡ b → grant.has (of_task cfg k h a.task).arrived a ≡ true
      by true q = (wins.both cfg k h a.task q (all-fit cfg k h made)).agrees.arrived a refl e
      by false q = (maps.both cfg k h a.task q j (all-fit cfg k h made) (all-of-job cfg k h made)).agrees.arrived a refl e

  pub is-known : (a : Attempt) → is_some (find_launched S.launched a) ≡ true → read.is_known W m a ≡ true
  is-known a e =
      let f = found_launched S.launched a e in
      let here = (subst (BelongsTo cfg k) f.2 ((fitted cfg k h made).launches f.0 f.1)).1 in
      let j = task-test cfg k a.task ∙ here in
      let there = ap (λ (v : View). grant.has v.arrived a) (alike a.task j) ∙ arrived-at a (job-is cfg a.task here) e in
      λ i. and-both j there i
    where
      and-both : {x y : Bool} → x ≡ true → y ≡ true → (x && y) ≡ true
      and-both p q = λ i. p i && q i

  launch-is : (a : Attempt) → read.launch_of W m a ≡ option_map launch_as (find_launched S.launched a)
  launch-is a = ap (λ l. if read.is_known W m a then l else None) (ap (lookup (same_attempt a)) order ∙ lookup-is S.launched a (places cfg k h made).0.attempts) ∙ by (find_launched S.launched a) refl
    where
      by : (f : Option Launched) → find_launched S.launched a ≡ f → (if read.is_known W m a then option_map launch_as f else None) ≡ option_map launch_as f
      by None e = same-if (read.is_known W m a) None
      by (Some l) e = ap (λ (b : Bool). if b then Some (launch_as l) else None) (is-known a (ap (λ x. is_some x) e))

  container-is : (c : ContainerId) → read.launched_in W m c ≡ option_map pair_of (find_container S.launched c)
  container-is c = ap (λ ls. if nat_eq c.app k then if_known W m (slice_get ls c.number) else None) order ∙ by (nat_eq c.app k) refl
    where
      known : (c : ContainerId) (f : Option Launched) → find_container S.launched c ≡ f → if_known W m (option_map pair_of f) ≡ option_map pair_of f
      known c None e = refl
      known c (Some l) e = ap (λ (b : Bool). if b then Some (pair_of l) else None) (is-known l.attempt (launched-found S.launched l (found_container S.launched c l e).0))

      by : (b : Bool) → nat_eq c.app k ≡ b → (if b then if_known W m (slice_get (in_order S.launched) c.number) else None) ≡ option_map pair_of (find_container S.launched c)
      by false e = ap (λ f. option_map pair_of f) (sym (other-app k S.launched c (places cfg k h made).1 e))
      by true e =
          let q = eqb-true c.app k e in
          let same : record { app = k; number = c.number } ≡ c = (λ i. record { app = sym q i; number = c.number }) in
          subst (λ d. if_known W m (slice_get (in_order S.launched) c.number) ≡ option_map pair_of (find_container S.launched d)) same
          (ap (if_known W m) (slice-is k S.launched c.number (places cfg k h made).1) ∙ known (record { app = k; number = c.number }) _ refl)

  pub found-by : LaunchesFound cfg k S m
  found-by = record { launch = launch-is; container = container-is }

pub found : (cfg : Config) (k : ℕ) (h : List Master_step) (m : read.Seen) → AllMade cfg k h → Holds cfg k h m → is_running (seen cfg k h).phase ≡ true → LaunchesFound cfg k (seen cfg k h) m
found cfg k h m made o run = found-by cfg k h m made o.launched (o.stands.tasks run)

pub launches_agree : LaunchesAgree
launches_agree cfg k h m made o run = found cfg k h m made o run
