-- Of a map at most one attempt is Succeeded: the one that stands there and is recorded.
use Rattle.std.proofs.Common.{ℕ, ◌≡◌, refl, sym, ◌∙◌, ap, Bool, true, false, ◌&&◌, ◌||◌, not, List, [], ◌∷◌, Some, if◌then◌else◌, inl, inr}
use Rattle.std.specs.List.{find}
use Rattle.std.proofs.lemmas.Bool.{and_parts, false≢true}
use Rattle.mr_ids.specs.Attempt.{Attempt}
use Rattle.mr_ids.specs.declared.id.TaskId.{TaskId}
use Rattle.mr_grant.specs.Attempts as grant
use Rattle.mr_grant.specs.Attempts.{same_attempt}
use Rattle.mr_grant.proofs.Same.{same-is}
use Rattle.mr_task.specs.Readings as task
use Rattle.mr_task.proofs.Arrivals.{arrivals}
use Rattle.mr_task.proofs.Growth.{recorded-arrived}
use Rattle.mr_world_model.specs.Ids.{of_reduces, attempt_eq}
use Rattle.mr_world_model.specs.Packets.{Config}
use Rattle.mr_world_model.specs.Hearing.{Seen, Placed, has}
use Rattle.mr_world_model.specs.Duties.{Master_step, seen, attempts_of}
use Rattle.mr_world_model.specs.Claims.{In}
use Rattle.mr_world_model.specs.Calls.{calls, of_task}
use Rattle.mr_world_model.specs.Made.{AllMade}
use Rattle.mr_world_model.proofs.Names.{task_eq-is}
use Rattle.mr_world_model.proofs.Lists.{attempt_eq-true}
use Rattle.mr_world_model.proofs.Standing.{Once, Stood}
use Rattle.mr_world_model.proofs.Map_steps.{within}
use Rattle.mr_world_model.proofs.Maps as maps
use Rattle.mr_world_model.proofs.Made.{all-fit, all-of-job}

-- ---- at most one stands

pub stands-once : (t : TaskId) (ps : List Placed) (a b : Attempt) → Once t ps → a.task ≡ t → b.task ≡ t → has (attempts_of ps) a ≡ true → has (attempts_of ps) b ≡ true → a ≡ b
stands-once t [] a b o q r e f = absurd (false≢true e)
stands-once t (p ∷ ps) a b o q r e f = by (attempt_eq a p.attempt) refl (attempt_eq b p.attempt) refl e f (stands-once t ps a b o.1 q r)
  where
    alone : (x y : Attempt) → x.task ≡ t → y.task ≡ t → attempt_eq x p.attempt ≡ true → has (attempts_of ps) y ≡ true → ⊥
    alone x y v w here there = false≢true (sym (o.0 (task_eq-is p.attempt.task t (ap (λ (z : Attempt). z.task) (sym (attempt_eq-true x p.attempt here)) ∙ v)) y w) ∙ there)

    by : (c : Bool) → attempt_eq a p.attempt ≡ c → (d : Bool) → attempt_eq b p.attempt ≡ d → (c || has (attempts_of ps) a) ≡ true → (d || has (attempts_of ps) b) ≡ true →
        (has (attempts_of ps) a ≡ true → has (attempts_of ps) b ≡ true → a ≡ b) → a ≡ b
    by true g true h e f go = attempt_eq-true a p.attempt g ∙ sym (attempt_eq-true b p.attempt h)
    by true g false h e f go = absurd (alone a b q r g f)
    by false g true h e f go = absurd (alone b a r q h e)
    by false g false h e f go = go e f

find-one : (p : Attempt → Bool) (xs : List Attempt) (b : Attempt) → grant.has xs b ≡ true → p b ≡ true → ((x : Attempt) → In x xs → p x ≡ true → x ≡ b) → find p xs ≡ Some b
find-one p [] b i e one = absurd (false≢true i)
find-one p (x ∷ xs) b i e one = by (p x) refl (same_attempt b x) refl i (λ j. find-one p xs b j e (λ y k. one y (inr k)))
  where
    by : (c : Bool) → p x ≡ c → (d : Bool) → same_attempt b x ≡ d → (d || grant.has xs b) ≡ true → (grant.has xs b ≡ true → find p xs ≡ Some b) → (if c then Some x else find p xs) ≡ Some b
    by true f d g j go = ap Some (one x (inl refl) f)
    by false f true g j go = absurd (false≢true (sym f ∙ (ap p (sym (same-is b x g)) ∙ e)))
    by false f false g j go = go j

both : {x y : Bool} → x ≡ true → y ≡ true → (x && y) ≡ true
both e f = λ i. e i && f i

-- ---- at a point of a past

module _ (cfg : Config) (k : ℕ) (h : List Master_step) (made : AllMade cfg k h) (t : TaskId) (map : of_reduces t.kind ≡ false) (job : t.job ≡ cfg.job) where
  abbrev S : Seen
  S = seen cfg k h

  abbrev R : task.Seen
  R = of_task cfg k h t

  pub stood : Stood t S.standing S.recorded R.accepted R.recorded R.lost
  stood = (maps.both cfg k h t map job (all-fit cfg k h made) (all-of-job cfg k h made)).maps.stood

  pub own : (b : Attempt) → grant.has R.recorded b ≡ true → b.task ≡ t
  own b e = (arrivals t k (calls cfg k h t)).of_task b (recorded-arrived t k (calls cfg k h t) b e)

  pub there : (b : Attempt) → task.has_succeeded R b ≡ true → has (attempts_of S.standing) b ≡ true
  there b e = let u = and_parts (grant.has R.recorded b) (not (grant.has R.lost b)) e in
      sym (stood.stand b (own b u.0)) ∙ both ((within t k (calls cfg k h t)).recorded b u.0) u.1

  pub succeeds : (b : Attempt) → task.has_succeeded R b ≡ true → task.succeeded R ≡ Some b
  succeeds b e = let u = and_parts (grant.has R.recorded b) (not (grant.has R.lost b)) e in
      find-one (task.has_succeeded R) R.arrived b (recorded-arrived t k (calls cfg k h t) b u.0) e
      (λ x i f. let v = and_parts (grant.has R.recorded x) (not (grant.has R.lost x)) f in
      stands-once t S.standing x b stood.once (own x v.0) (own b u.0) (there x f) (there b e))
