-- Where tasks stand.
use Rattle.std.proofs.Common.{ℕ, ◌<◌, ◌≡◌, refl, sym, ◌∙◌, true, nat_lt, arith}
use Rattle.std.proofs.lemmas.Bool.{and_parts, eqb-true, ltb-true}
use Rattle.mr_ids.specs.declared.id.TaskId.{TaskId}
use Rattle.mr_ids.specs.declared.id.TaskKind.{TaskKind}
use Rattle.mr_ids.specs.declared.id.TaskKind.TheVariants.{Map, Reduce}
use Rattle.mr_master_model.specs.declared.setting.Setting.{Setting}
use Rattle.mr_master_model.specs.Job.{is_task, count_of}
use Rattle.mr_master_tasks.specs.Places.{place_of, place_by}

by_kind : (w : Setting) (a b : TaskKind) (m n : ℕ) → nat_lt m (count_of w a) ≡ true → nat_lt n (count_of w b) ≡ true → place_by w a m ≡ place_by w b n → (a ≡ b) × (m ≡ n)
by_kind w Map Map m n p q e = (refl, e)
by_kind w Map Reduce m n p q e = let f : m < w.maps = ltb-true _ _ p in absurd (omega arith)
by_kind w Reduce Map m n p q e = let f : n < w.maps = ltb-true _ _ q in absurd (omega arith)
by_kind w Reduce Reduce m n p q e = (refl, omega arith)

-- two tasks of the job stand apart
pub places-apart : (w : Setting) (t u : TaskId) → is_task w t ≡ true → is_task w u ≡ true → place_of w t ≡ place_of w u → t ≡ u
places-apart w t u p q e =
    let a = and_parts _ _ p in let b = and_parts _ _ a.0 in
    let c = and_parts _ _ q in let d = and_parts _ _ c.0 in
    let k = by_kind w t.kind u.kind t.number u.number a.1 c.1 e in
    let x : t.job.start ≡ u.job.start = eqb-true _ _ b.0 ∙ sym (eqb-true _ _ d.0) in
    let y : t.job.number ≡ u.job.number = eqb-true _ _ b.1 ∙ sym (eqb-true _ _ d.1) in
    λ i. record { job = record { start = x i; number = y i }; kind = k.0 i; number = k.1 i }
