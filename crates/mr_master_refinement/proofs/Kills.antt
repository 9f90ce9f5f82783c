-- Kills: to each of some launches, and which containers were sent one.
use Rattle.std.proofs.Common.{ℕ, zero, suc, ◌≡◌, refl, sym, ◌∙◌, ap, Bool, true, false, ◌&&◌, ◌||◌, not, List, [], ◌∷◌, ◌++◌, flat_map, append_assoc, Option, Some, None, if◌then◌else◌, is_some, nat_eq, ◌⊎◌, inl, inr}
use Rattle.std.specs.Option.{option_map}
use Rattle.std.proofs.lemmas.Bool.{false≢true, eq-eqb}
use Rattle.std.proofs.lemmas.List.Concat.{flat_map-cons}
use Rattle.mr_ids.specs.Attempt.{Attempt}
use Rattle.mr_ids.specs.declared.id.TaskId.{TaskId}
use Rattle.mr_packet.specs.declared.packet.Envelope.{Envelope}
use Rattle.mr_packet.specs.declared.packet.Packet.TheVariants as packet
use Rattle.mr_master_model.specs.declared.setting.Setting.{Setting}
use Rattle.mr_master_model.specs.Readings as read
use Rattle.mr_master_model.specs.Sends as sends
use Rattle.mr_master_model.specs.Sends.{killed_by}
use Rattle.mr_task.specs.Readings as task
use Rattle.mr_world_model.specs.Ids.{task_eq, attempt_eq, container_eq}
use Rattle.mr_world_model.specs.Packets.{Config}
use Rattle.mr_world_model.specs.Hearing.{Seen, Launched, is_live, find_launched, has_container, containers_of}
use Rattle.mr_world_model.specs.Duties.{Master_step, seen, rivals, all_rivals}
use Rattle.mr_world_model.specs.Sending.{to_node, to_all, kills_of, live_of}
use Rattle.mr_world_model.specs.Effect as cluster
use Rattle.mr_world_model.specs.Claims.{In}
use Rattle.mr_world_model.specs.Made.{AllMade}
use Rattle.mr_world_model.proofs.Lists.{attempt_eq-true, In-parts}
use Rattle.mr_master_refinement.specs.Steps.{setting}
use Rattle.mr_master_refinement.specs.Points.{launch_as, in_order}
use Rattle.mr_master_refinement.specs.Holds.{LaunchesFound}
use Rattle.mr_master_refinement.specs.inner.Arrivals.{at_task, attempts}
use Rattle.mr_master_refinement.proofs.Early.{nat-sym, same_sym}
use Rattle.mr_master_refinement.proofs.Points.{task-test, job-is}
use Rattle.mr_master_refinement.proofs.Launches.{AllAlike, places, found-by, found-in, launched-found}
use Rattle.mr_master_refinement.proofs.Arrivals.{live-as}

-- ---- which launches

pub in-task : (t : TaskId) (ls : List Launched) (l : Launched) → In l (at_task t ls) → In l ls
in-task t [] l i = i
in-task t (x ∷ ls) l i = by (task_eq x.attempt.task t) i (in-task t ls l)
  where
    last : In l (at_task t ls) ⊎ In l (x ∷ []) → (In l (at_task t ls) → In l ls) → In l (x ∷ ls)
    last (inl j) go = inr (go j)
    last (inr (inl e)) go = inl e
    last (inr (inr j)) go = absurd j

    by : (b : Bool) → In l (if b then at_task t ls ++ x ∷ [] else at_task t ls) → (In l (at_task t ls) → In l ls) → In l (x ∷ ls)
    by true j go = last (In-parts l (at_task t ls) (x ∷ []) j) go
    by false j go = inr (go j)

pub in-live : (s : Seen) (ls : List Launched) (l : Launched) → In l (live_of s ls) → In l ls
in-live s [] l i = i
in-live s (x ∷ ls) l i = by (is_live s x.attempt) i (in-live s ls l)
  where
    by : (b : Bool) → In l (if b then x ∷ live_of s ls else live_of s ls) → (In l (live_of s ls) → In l ls) → In l (x ∷ ls)
    by true (inl e) go = inl e
    by true (inr j) go = inr (go j)
    by false j go = inr (go j)

task-turned : (t u : TaskId) → task_eq t u ≡ task_eq u t
unfolding task_eq
task-turned t u = same_sym t u

-- the rivals of an attempt that is not live: all live attempts of its task
pub rivals-are : (s : Seen) (a : Attempt) (ls : List Launched) → is_live s a ≡ false → rivals s a ls ≡ at_task a.task (live_of s ls)
rivals-are s a [] dead = refl
rivals-are s a (l ∷ ls) dead = by (is_live s l.attempt) refl (attempt_eq a l.attempt) refl (rivals-are s a ls dead)
  where
    rest : (b c : Bool) → b ≡ c → rivals s a ls ≡ at_task a.task (live_of s ls) →
        (if b then rivals s a ls ++ l ∷ [] else rivals s a ls) ≡ (if c then at_task a.task (live_of s ls) ++ l ∷ [] else at_task a.task (live_of s ls))
    rest true c q e = ap (λ z. z ++ l ∷ []) e ∙ ap (λ (b : Bool). if b then at_task a.task (live_of s ls) ++ l ∷ [] else at_task a.task (live_of s ls)) q
    rest false c q e = e ∙ ap (λ (b : Bool). if b then at_task a.task (live_of s ls) ++ l ∷ [] else at_task a.task (live_of s ls)) q

    by : (b : Bool) → is_live s l.attempt ≡ b → (c : Bool) → attempt_eq a l.attempt ≡ c → rivals s a ls ≡ at_task a.task (live_of s ls) →
        (if b && (not c && task_eq a.task l.attempt.task) then rivals s a ls ++ l ∷ [] else rivals s a ls) ≡ at_task a.task (if b then l ∷ live_of s ls else live_of s ls)
    by true q true f e = absurd (false≢true (sym dead ∙ (ap (λ x. is_live s x) (attempt_eq-true a l.attempt f) ∙ q)))
    by true q false f e = rest (task_eq a.task l.attempt.task) (task_eq l.attempt.task a.task) (sym (task-turned l.attempt.task a.task)) e
    by false q c f e = e

-- ---- which containers

abbrev pub Sent_to : ℕ → List Launched → ℕ → Bool
Sent_to k ls n = has_container (containers_of ls) (record { app = k; number = n })

pub or-turn : (x y z : Bool) → (x || (y || z)) ≡ ((y || x) || z)
or-turn true true z = refl
or-turn true false z = refl
or-turn false true z = refl
or-turn false false z = refl

-- Kills to containers of this master's
pub kills-note : (k : ℕ) (ls : List Launched) (g : ℕ → Bool) (n : ℕ) → ((l : Launched) → In l ls → l.container.app ≡ k) → killed_by (kills_of ls) g n ≡ (Sent_to k ls n || g n)
unfolding killed_by
kills-note k [] g n o = refl
kills-note k (l ∷ ls) g n o =
    let app = ap (λ x. nat_eq k x) (o l (inl refl)) ∙ eq-eqb k k refl in
    let turned = nat-sym l.container.number n in
    kills-note k ls (λ i. nat_eq l.container.number i || g i) n (λ m i. o m (inr i))
    ∙ (or-turn (Sent_to k ls n) (nat_eq l.container.number n) (g n)
    ∙ (λ i. ((sym app i && turned i) || Sent_to k ls n) || g n))

pub killed-append : (es fs : List Envelope) (g : ℕ → Bool) → killed_by (es ++ fs) g ≡ killed_by fs (killed_by es g)
unfolding killed_by
killed-append [] fs g = refl
killed-append (e ∷ es) fs g = killed-append es fs (sends.with_kill e.body g)

pub all-quiet : (n : ℕ) (t : TaskId) (a : Attempt) (g : ℕ → Bool) → killed_by (to_all n (packet.Won t a)) g ≡ g
unfolding killed_by to_all
all-quiet zero t a g = refl
all-quiet (suc n) t a g = killed-append (to_all n (packet.Won t a)) (to_node n (packet.Won t a) ∷ []) g ∙ all-quiet n t a g

pub sent-append : (k : ℕ) (xs ys : List Launched) (n : ℕ) → Sent_to k (xs ++ ys) n ≡ (Sent_to k xs n || Sent_to k ys n)
sent-append k [] ys n = refl
sent-append k (x ∷ xs) ys n = ap (λ b. container_eq (record { app = k; number = n }) x.container || b) (sent-append k xs ys n) ∙ assoc (container_eq (record { app = k; number = n }) x.container) (Sent_to k xs n) (Sent_to k ys n)
  where
    assoc : (x y z : Bool) → (x || (y || z)) ≡ ((x || y) || z)
    assoc true y z = refl
    assoc false y z = refl

pub rivals-append : (s : Seen) (xs ys : List Attempt) → all_rivals s (xs ++ ys) ≡ all_rivals s xs ++ all_rivals s ys
rivals-append s [] ys = refl
rivals-append s (x ∷ xs) ys = ap (λ z. rivals s x s.launched ++ z) (rivals-append s xs ys) ∙ sym (append_assoc (rivals s x s.launched) (all_rivals s xs) (all_rivals s ys))

-- ---- a machine that launched the same, and whose tasks have heard alike

module _ (cfg : Config) (k : ℕ) (h : List Master_step) (m : read.Seen) (made : AllMade cfg k h) (order : m.launched ≡ in_order (seen cfg k h).launched) (alike : AllAlike cfg k h m) where
  abbrev W : Setting
  W = setting cfg k

  abbrev S : Seen
  S = seen cfg k h

  finds : LaunchesFound cfg k S m
  finds = found-by cfg k h m made order alike

  pub launch-found : (l : Launched) → In l S.launched → find_launched S.launched l.attempt ≡ Some l
  launch-found l i = at (find_launched S.launched l.attempt) refl
    where
      at : (f : Option Launched) → find_launched S.launched l.attempt ≡ f → f ≡ Some l
      at None e = absurd (false≢true (sym (ap (λ x. is_some x) e) ∙ launched-found S.launched l i))
      at (Some x) e = let q = found-in S.launched l.attempt x e in ap Some ((places cfg k h made).0.attempts x l q.0 i q.1)

  pub kill-is : (l : Launched) → In l S.launched → sends.kill_of W m l.attempt ≡ to_node l.node (packet.Kill l.container) ∷ []
  kill-is l i = ap (λ f. sends.kill_at f) (finds.launch l.attempt ∙ ap (option_map launch_as) (launch-found l i))

  pub kills-are : (ls : List Launched) → ((l : Launched) → In l ls → In l S.launched) → flat_map (sends.kill_of W m) (attempts ls) ≡ kills_of ls
  kills-are [] o = refl
  kills-are (l ∷ ls) o = flat_map-cons (sends.kill_of W m) l.attempt (attempts ls) ∙ (let one = kill-is l (o l (inl refl)) in let rest = kills-are ls (λ x i. o x (inr i)) in λ i. one i ++ rest i)

  -- to each live attempt of a task
  pub task-kills : (t : TaskId) → cluster.is_task cfg t ≡ true → sends.kills_of W m t ≡ kills_of (at_task t (live_of S S.launched))
  task-kills t e =
      let here = task-test cfg k t ∙ e in
      ap (λ (b : Bool). if b then flat_map (sends.kill_of W m) (task.live (read.of_task W m t)) else []) here
      ∙ (ap (flat_map (sends.kill_of W m)) (live-as cfg k h m t made (job-is cfg t e) (alike t here))
      ∙ kills-are (at_task t (live_of S S.launched)) (λ l i. in-live S S.launched l (in-task t (live_of S S.launched) l i)))

  pub rival-kills : (a : Attempt) → cluster.is_task cfg a.task ≡ true → is_live S a ≡ false → sends.kills_of W m a.task ≡ kills_of (rivals S a S.launched)
  rival-kills a e dead = task-kills a.task e ∙ ap kills_of (sym (rivals-are S a S.launched dead))
