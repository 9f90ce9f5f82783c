-- That a reduce is won, read off its calls.
use Rattle.std.proofs.Common.{ℕ, ◌≡◌, refl, sym, ◌∙◌, ap, Bool, true, false, ◌&&◌, ◌||◌, not, List, [], ◌∷◌, is_some, is_none}
use Rattle.std.specs.List.{list_any}
use Rattle.std.proofs.lemmas.Bool.{and_parts, false≢true}
use Rattle.mr_grant.specs.Attempts as grant
use Rattle.mr_grant.specs.Attempts.{same_attempt, first_of}
use Rattle.mr_grant.proofs.Same.{same-is, same-itself}
use Rattle.mr_task.specs.Calls as task_call
use Rattle.mr_task.specs.Calls.{TaskCall}
use Rattle.mr_task.specs.Readings as task
use Rattle.mr_task.proofs.Arrivals.{arrivals}
use Rattle.mr_task.proofs.Growth.{accepted-arrived}
use Rattle.mr_world_model.specs.Ids.{Attempt, TaskId, TaskKind, Map, Reduce, of_reduces}
use Rattle.mr_world_model.proofs.Basic.{if_cases}

-- ---- a reduce's output is not lost, so it is won where an attempt is accepted

pub unlost : (t : TaskId) (k : ℕ) (h : List TaskCall) (a : Attempt) → grant.has (task.seen t k h).lost a ≡ true → of_reduces a.task.kind ≡ false
unfolding task.seen task.next_seen
unlost t k [] a = λ e. absurd (false≢true e)
unlost t k (task_call.Launches ∷ h) a = let o = unlost t k h a in if_cases (λ (y : task.Seen). grant.has y.lost a ≡ true → of_reduces a.task.kind ≡ false) (is_none (task.launch_refusal (task.seen t k h))) _ _ (λ e. o) (λ e. o)
unlost t k (task_call.Hears b ∷ h) a = unlost t k h a
unlost t k (task_call.Asks b ∷ h) a = let o = unlost t k h a in if_cases (λ (y : task.Seen). grant.has y.lost a ≡ true → of_reduces a.task.kind ≡ false) (grant.has (task.seen t k h).arrived b && not (grant.has (task.seen t k h).asked b)) _ _ (λ e. o) (λ e. o)
unlost t k (task_call.Reports b ∷ h) a = let o = unlost t k h a in if_cases (λ (y : task.Seen). grant.has y.lost a ≡ true → of_reduces a.task.kind ≡ false) (task.may_accept (task.seen t k h) b) _ _ (λ e. o) (λ e. o)
unlost t k (task_call.Fails b ∷ h) a = let o = unlost t k h a in if_cases (λ (y : task.Seen). grant.has y.lost a ≡ true → of_reduces a.task.kind ≡ false) (task.is_live (task.seen t k h) b) _ _ (λ e. o) (λ e. o)
unlost t k (task_call.Ends b was_asked ∷ h) a = let o = unlost t k h a in if_cases (λ (y : task.Seen). grant.has y.lost a ≡ true → of_reduces a.task.kind ≡ false) (task.is_live (task.seen t k h) b) _ _ (λ e. o) (λ e. o)
unlost t k (task_call.Dies b ∷ h) a = let o = unlost t k h a in if_cases (λ (y : task.Seen). grant.has y.lost a ≡ true → of_reduces a.task.kind ≡ false) (task.is_live (task.seen t k h) b) _ _ (λ e. o) (λ e. o)
unlost t k (task_call.Records b ∷ h) a = let o = unlost t k h a in if_cases (λ (y : task.Seen). grant.has y.lost a ≡ true → of_reduces a.task.kind ≡ false) (grant.has (task.seen t k h).accepted b) _ _ (λ e. o) (λ e. o)
unlost t k (task_call.Recovers b ∷ h) a = let o = unlost t k h a in if_cases (λ (y : task.Seen). grant.has y.lost a ≡ true → of_reduces a.task.kind ≡ false) (task.may_recover t (task.seen t k h) b) _ _ (λ e. o) (λ e. o)
unlost t k (task_call.Loses b ∷ h) a = let o = unlost t k h a in if_cases (λ (y : task.Seen). grant.has y.lost a ≡ true → of_reduces a.task.kind ≡ false) (not (task.is_reduce b.task.kind) && grant.has (task.seen t k h).recorded b) _ _ (λ e. lost (and_parts _ _ e).0 o (same_attempt a b) refl) (λ e. o)
  where
    map : (z : TaskKind) → not (task.is_reduce z) ≡ true → of_reduces z ≡ false
    map Map e = refl
    map Reduce e = absurd (false≢true e)

    lost : not (task.is_reduce b.task.kind) ≡ true → (grant.has (task.seen t k h).lost a ≡ true → of_reduces a.task.kind ≡ false) → (c : Bool) → same_attempt a b ≡ c →
        (c || grant.has (task.seen t k h).lost a) ≡ true → of_reduces a.task.kind ≡ false
    lost m o true q e = ap (λ (x : Attempt). of_reduces x.task.kind) (same-is a b q) ∙ map b.task.kind m
    lost m o false q e = o e

pub none-any : (p : Attempt → Bool) (xs : List Attempt) → ((x : Attempt) → p x ≡ false) → list_any p xs ≡ false
none-any p [] h = refl
none-any p (x ∷ xs) h = let here = h x in let rest = none-any p xs h in λ i. here i || rest i

pub in-any : (p : Attempt → Bool) (xs : List Attempt) (a : Attempt) → grant.has xs a ≡ true → p a ≡ true → list_any p xs ≡ true
in-any p [] a e h = absurd (false≢true e)
in-any p (x ∷ xs) a e h = by (same_attempt a x) refl e (λ f. in-any p xs a f h)
  where
    or-true : (z : Bool) → (z || true) ≡ true
    or-true true = refl
    or-true false = refl

    by : (b : Bool) → same_attempt a x ≡ b → (b || grant.has xs a) ≡ true → (grant.has xs a ≡ true → list_any p xs ≡ true) → (p x || list_any p xs) ≡ true
    by true q e go = ap (λ z. z || list_any p xs) (ap (λ y. p y) (sym (same-is a x q)) ∙ h)
    by false q e go = ap (λ z. p x || z) (go e) ∙ or-true (p x)

pub reduce-won : (t : TaskId) (k : ℕ) (h : List TaskCall) → of_reduces t.kind ≡ true → task.is_won (task.seen t k h) ≡ is_some (first_of (task.seen t k h).accepted)
reduce-won t k h reduces = by (task.seen t k h).accepted refl
  where
    stands : (x : Attempt) (xs : List Attempt) → (task.seen t k h).accepted ≡ x ∷ xs → (b : Bool) → grant.has (task.seen t k h).lost x ≡ b → task.stands (task.seen t k h) x ≡ true
    stands x xs q false e = (λ i. grant.has (q i) x && not (e i)) ∙ ap (λ b. (b || grant.has xs x) && true) (same-itself x)
    stands x xs q true e =
        let there = accepted-arrived t k h x (ap (λ l. grant.has l x) q ∙ ap (λ b. b || grant.has xs x) (same-itself x)) in
        let kind = ap (λ (u : TaskId). of_reduces u.kind) ((arrivals t k h).of_task x there) ∙ reduces in
        absurd (false≢true (sym (unlost t k h x e) ∙ kind))

    by : (xs : List Attempt) → (task.seen t k h).accepted ≡ xs → task.is_won (task.seen t k h) ≡ is_some (first_of xs)
    by [] q = none-any (task.stands (task.seen t k h)) (task.seen t k h).arrived (λ x. ap (λ l. grant.has l x && not (grant.has (task.seen t k h).lost x)) q)
    by (x ∷ xs) q = in-any (task.stands (task.seen t k h)) (task.seen t k h).arrived x
        (accepted-arrived t k h x (ap (λ l. grant.has l x) q ∙ ap (λ b. b || grant.has xs x) (same-itself x))) (stands x xs q (grant.has (task.seen t k h).lost x) refl)

-- ---- the relation, over the parts that it speaks of
