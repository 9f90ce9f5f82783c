-- What may be launched is a task of the cluster's job.
use Rattle.std.proofs.Common.{ℕ, zero, suc, ◌≡◌, refl, sym, ◌∙◌, ap, subst, Bool, true, false, ◌&&◌, nat_eq, nat_lt, ◌⊎◌, inl, inr, arith}
use Rattle.std.proofs.lemmas.Bool.{and_parts, false≢true, true≢false, ltb-true, eqb-true, eqb-false}
use Rattle.mr_world_model.specs.Ids.{Name, Path, TaskId, JobId, TaskKind, Map, Reduce, of_reduces, same_job, reduce_of, name_eq, path_eq, task_name, part_name, part}
use Rattle.mr_world_model.specs.Packets.{Config}
use Rattle.mr_world_model.specs.Effect.{is_task, tasks_of}
use Rattle.mr_world_model.specs.Claims.{IsOf, IsReduce}
use Rattle.mr_world_model.proofs.Names.{same_job-true, name_eq-true, name_eq-refl, part_name-inj}
use Rattle.mr_world_model.proofs.Paths.{path_eq-true, path_eq-refl}

pub reduce-of : (cfg : Config) (t : TaskId) → of_reduces t.kind ≡ true → is_task cfg t ≡ true → IsReduce cfg t
reduce-of cfg t e f = by t.kind refl e f
  where
    by : (k : TaskKind) → t.kind ≡ k → of_reduces k ≡ true → (same_job t.job cfg.job && nat_lt t.number (tasks_of cfg k)) ≡ true → IsReduce cfg t
    by Map q r s = absurd (false≢true r)
    by Reduce q r s = let p = and_parts _ _ s in let j = same_job-true t.job cfg.job p.0 in
        record { is = λ i. record { job = j i; kind = q i; number = t.number }; small = ltb-true _ _ p.1 }

-- two reduces of the job with one number are one
pub one-number : (cfg : Config) (t u : TaskId) → IsReduce cfg t → IsReduce cfg u → t.number ≡ u.number → t ≡ u
one-number cfg t u a b e = a.is ∙ (ap (λ n. record { job = cfg.job; kind = Reduce; number = n }) e ∙ sym b.is)

pub is-reduce : (cfg : Config) (t : TaskId) → IsReduce cfg t → of_reduces t.kind ≡ true
is-reduce cfg t a = subst (λ (x : TaskId). of_reduces x.kind ≡ true) (sym a.is) refl

pub is-more : (j : JobId) (n : ℕ) (t : TaskId) → IsOf j n t → IsOf j (suc n) t
is-more j n t l = let q = l.small in record { is = l.is; small = omega (arith, q) }

-- the reduces of a job, looked through for one that passes a test
pub search-of : (P : TaskId → Bool) (j : JobId) (n : ℕ) → ((t : TaskId) × (P t ≡ true) × IsOf j n t) ⊎ ((t : TaskId) → IsOf j n t → P t ≡ false)
search-of P j zero = inr (λ t l. absurd (let q = l.small in omega arith))
search-of P j (suc n) = by (P (reduce_of j n)) refl (search-of P j n)
  where
    by : (b : Bool) → P (reduce_of j n) ≡ b → ((t : TaskId) × (P t ≡ true) × IsOf j n t) ⊎ ((t : TaskId) → IsOf j n t → P t ≡ false) →
        ((t : TaskId) × (P t ≡ true) × IsOf j (suc n) t) ⊎ ((t : TaskId) → IsOf j (suc n) t → P t ≡ false)
    by true e o = inl (reduce_of j n, e, record { is = refl; small = omega arith })
    by false e (inl q) = inl (q.0, q.1, is-more j n q.0 q.2)
    by false e (inr f) = inr (λ t l. at t l (nat_eq t.number n) refl)
      where
        at : (t : TaskId) → IsOf j (suc n) t → (b : Bool) → nat_eq t.number n ≡ b → P t ≡ false
        at t l true q = subst (λ z. P z ≡ false) (sym (l.is ∙ ap (λ x. reduce_of j x) (eqb-true t.number n q))) e
        at t l false q = let d = eqb-false t.number n q in let s = l.small in f t (record { is = l.is; small = omega (arith, d) })

-- a name that is the name of a reduce's directory, or of none's
pub is-task : (x : Name) (j : JobId) (n : ℕ) → ((t : TaskId) × (x ≡ task_name t) × IsOf j n t) ⊎ ((t : TaskId) → IsOf j n t → x ≡ task_name t → ⊥)
is-task x j n = by (search-of (λ t. name_eq x (task_name t)) j n)
  where
    by : ((t : TaskId) × (name_eq x (task_name t) ≡ true) × IsOf j n t) ⊎ ((t : TaskId) → IsOf j n t → name_eq x (task_name t) ≡ false) →
        ((t : TaskId) × (x ≡ task_name t) × IsOf j n t) ⊎ ((t : TaskId) → IsOf j n t → x ≡ task_name t → ⊥)
    by (inl q) = inl (q.0, name_eq-true x (task_name q.0) q.1, q.2)
    by (inr f) = inr (λ t l q. true≢false (sym (subst (λ z. name_eq x z ≡ true) q (name_eq-refl x)) ∙ f t l))

-- a path that is the path of a reduce's part, or of none's
pub is-part : (p : Path) (j : JobId) (n : ℕ) → ((t : TaskId) × (p ≡ part t) × IsOf j n t) ⊎ ((t : TaskId) → IsOf j n t → p ≡ part t → ⊥)
is-part p j n = by (search-of (λ t. path_eq p (part t)) j n)
  where
    by : ((t : TaskId) × (path_eq p (part t) ≡ true) × IsOf j n t) ⊎ ((t : TaskId) → IsOf j n t → path_eq p (part t) ≡ false) →
        ((t : TaskId) × (p ≡ part t) × IsOf j n t) ⊎ ((t : TaskId) → IsOf j n t → p ≡ part t → ⊥)
    by (inl q) = inl (q.0, path_eq-true p (part q.0) q.1, q.2)
    by (inr f) = inr (λ t l q. true≢false (sym (subst (λ z. path_eq p z ≡ true) q (path_eq-refl p)) ∙ f t l))

-- two parts of reduces of the job are of one reduce
pub part-same : (cfg : Config) (t u : TaskId) → IsReduce cfg t → IsReduce cfg u → part t ≡ part u → t ≡ u
part-same cfg t u a b e = one-number cfg t u a b (part_name-inj t u (let q : part_name t ≡ part_name u = cc in q))
