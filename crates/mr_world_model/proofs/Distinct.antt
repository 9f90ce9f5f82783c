-- A master's launches have different containers and different attempts.
use Rattle.std.proofs.Common.{ℕ, suc, ◌+◌, ◌-◌, ◌*◌, ◌≤◌, ◌<◌, ◌≡◌, refl, sym, ◌∙◌, ap, subst, List, ◌∷◌, inl, inr, arith, length}
use Rattle.mr_world_model.specs.Ids.{Attempt, ContainerId, TaskId, task_eq}
use Rattle.mr_world_model.proofs.Names.{task_eq-refl}
use Rattle.mr_world_model.specs.Packets.{Config}
use Rattle.mr_world_model.specs.Hearing.{Seen, Launched}
use Rattle.mr_world_model.specs.World.{launch_of, count_of}
use Rattle.mr_world_model.specs.Claims.{In}
use Rattle.mr_world_model.proofs.Basic.{if_cases}
use Rattle.mr_world_model.proofs.Closed.{Closed}

pub record Distinct (k : ℕ) (ls : List Launched) : Type 0 where
  pub apps : (l : Launched) → In l ls → l.container.app ≡ k
  pub numbers : (l : Launched) → In l ls → l.container.number < length ls
  pub counts : (l : Launched) → In l ls → l.attempt.number < 1000 * (k - 1) + count_of ls l.attempt.task
  pub containers : (l m : Launched) → In l ls → In m ls → l.container ≡ m.container → l ≡ m
  pub attempts : (l m : Launched) → In l ls → In m ls → l.attempt ≡ m.attempt → l ≡ m

count-more : (l : Launched) (ls : List Launched) (t : TaskId) → count_of ls t ≤ count_of (l ∷ ls) t
count-more l ls t = if_cases (λ n. count_of ls t ≤ n) (task_eq l.attempt.task t) _ _ (λ e. omega arith) (λ e. omega arith)

count-own : (l : Launched) (ls : List Launched) → count_of (l ∷ ls) l.attempt.task ≡ suc (count_of ls l.attempt.task)
count-own l ls = rw (task_eq-refl l.attempt.task) refl

pub distinct-launch : (k : ℕ) (s : Seen) (t : TaskId) (n : ℕ) → Distinct k s.launched → Distinct k (launch_of k s t n ∷ s.launched)
distinct-launch k s t n d = record { apps = apps; numbers = numbers; counts = counts; containers = containers; attempts = attempts }
  where
    new : Launched
    new = launch_of k s t n

    apps : (l : Launched) → In l (new ∷ s.launched) → l.container.app ≡ k
    apps l (inl e) = subst (λ (x : Launched). x.container.app ≡ k) e refl
    apps l (inr i) = d.apps l i

    numbers : (l : Launched) → In l (new ∷ s.launched) → l.container.number < suc (length s.launched)
    numbers l (inl e) = subst (λ (x : Launched). x.container.number < suc (length s.launched)) e (omega arith)
    numbers l (inr i) = let q = d.numbers l i in omega arith

    counts : (l : Launched) → In l (new ∷ s.launched) → l.attempt.number < 1000 * (k - 1) + count_of (new ∷ s.launched) l.attempt.task
    counts l (inl e) = subst (λ (x : Launched). x.attempt.number < 1000 * (k - 1) + count_of (new ∷ s.launched) x.attempt.task) e
        (let q = count-own new s.launched in omega arith)
    counts l (inr i) = let q = d.counts l i in let u = count-more new s.launched l.attempt.task in omega arith

    not_container : (m : Launched) → In m s.launched → new.container ≡ m.container → ⊥
    not_container m i e = let q = d.numbers m i in let u : length s.launched ≡ m.container.number = ap (λ (x : ContainerId). x.number) e in omega arith

    not_attempt : (m : Launched) → In m s.launched → new.attempt ≡ m.attempt → ⊥
    not_attempt m i e = let q = subst (λ (x : Attempt). x.number < 1000 * (k - 1) + count_of s.launched x.task) (sym e) (d.counts m i) in omega arith

    containers : (l m : Launched) → In l (new ∷ s.launched) → In m (new ∷ s.launched) → l.container ≡ m.container → l ≡ m
    containers l m (inl e) (inl f) q = sym e ∙ f
    containers l m (inl e) (inr j) q = absurd (not_container m j (ap (λ (x : Launched). x.container) e ∙ q))
    containers l m (inr i) (inl f) q = absurd (not_container l i (ap (λ (x : Launched). x.container) f ∙ sym q))
    containers l m (inr i) (inr j) q = d.containers l m i j q

    attempts : (l m : Launched) → In l (new ∷ s.launched) → In m (new ∷ s.launched) → l.attempt ≡ m.attempt → l ≡ m
    attempts l m (inl e) (inl f) q = sym e ∙ f
    attempts l m (inl e) (inr j) q = absurd (not_attempt m j (ap (λ (x : Launched). x.attempt) e ∙ q))
    attempts l m (inr i) (inl f) q = absurd (not_attempt l i (ap (λ (x : Launched). x.attempt) f ∙ sym q))
    attempts l m (inr i) (inr j) q = d.attempts l m i j q

-- l is what the master launches next
abbrev pub IsNext : ℕ → Seen → Launched → Type 0
IsNext k s l = (t : TaskId) × (n : ℕ) × (launch_of k s t n ≡ l)

pub distinct-closed : (cfg : Config) (k : ℕ) → Closed cfg (IsNext k) (λ s. Distinct k s.launched)
distinct-closed cfg k = record {
  asks = λ s b o. o;
  ends = λ s b f due p o. o;
  accepts = λ s b st due o. o;
  knows = λ s f ps o. o;
  calls = λ s p ws st rs ks h due tail o. o;
  expires = λ s ks bs o. o;
  launches = λ s l due u o. subst (λ x. Distinct k (x ∷ s.launched)) u.2 (distinct-launch k s u.0 u.1 o);
}
