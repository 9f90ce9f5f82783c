-- An order of attempts: what a finite set of them is made with. Nothing else asks for this order. Our own.
use Rattle.std.specs.Prelude.{◌≡◌, ℕ, refl}
use Rattle.std.specs.declared.cmp.Ordering.{Ordering}
use Rattle.std.specs.declared.cmp.Ordering.TheVariants.{Less, Equal, Greater}
use Rattle.std.specs.Ordering.{nat_cmp, on, then_cmp, ordering_then}
use Rattle.std.specs.Cmp.{IsTotalOrder, then_total, on_total, nat_cmp_total}
use Rattle.std.specs.FinSet.{IsAntisymmetric, nat_cmp-IsAntisymmetric}
use Rattle.mr_ids.specs.declared.id.TaskKind.{TaskKind}
use Rattle.mr_ids.specs.declared.id.TaskKind.TheVariants.{Map, Reduce}
use Rattle.mr_ids.specs.Attempt.{Attempt}

abbrev pub kind_place : TaskKind → ℕ
kind_place Map = 0
kind_place Reduce = 1

-- by job, kind, task and number
abbrev pub attempt_cmp : Attempt → Attempt → Ordering
attempt_cmp =
    then_cmp (on (λ a. a.task.job.start) nat_cmp)
    (then_cmp (on (λ a. a.task.job.number) nat_cmp)
    (then_cmp (on (λ a. kind_place a.task.kind) nat_cmp)
    (then_cmp (on (λ a. a.task.number) nat_cmp) (on (λ a. a.number) nat_cmp))))

pub attempt_total : IsTotalOrder attempt_cmp
attempt_total =
    then_total (on_total (λ (a : Attempt). a.task.job.start) nat_cmp_total)
    (then_total (on_total (λ (a : Attempt). a.task.job.number) nat_cmp_total)
    (then_total (on_total (λ (a : Attempt). kind_place a.task.kind) nat_cmp_total)
    (then_total (on_total (λ (a : Attempt). a.task.number) nat_cmp_total) (on_total (λ (a : Attempt). a.number) nat_cmp_total))))

-- two attempts that tie are one

both : (o p : Ordering) → ordering_then o p ≡ Equal → (o ≡ Equal) × (p ≡ Equal)
both Less p e = absurd (cc)
both Equal p e = (refl, e)
both Greater p e = absurd (cc)

same_kind : (k l : TaskKind) → kind_place k ≡ kind_place l → k ≡ l
same_kind Map Map e = refl
same_kind Map Reduce e = absurd (cc)
same_kind Reduce Map e = absurd (cc)
same_kind Reduce Reduce e = refl

pub attempt_exact : IsAntisymmetric attempt_cmp
attempt_exact a b tied =
    let p = both _ _ tied in
    let q = both _ _ p.1 in
    let r = both _ _ q.1 in
    let s = both _ _ r.1 in
    let start : a.task.job.start ≡ b.task.job.start = nat_cmp-IsAntisymmetric _ _ p.0 in
    let job : a.task.job.number ≡ b.task.job.number = nat_cmp-IsAntisymmetric _ _ q.0 in
    let kind : a.task.kind ≡ b.task.kind = same_kind a.task.kind b.task.kind (nat_cmp-IsAntisymmetric _ _ r.0) in
    let task : a.task.number ≡ b.task.number = nat_cmp-IsAntisymmetric _ _ s.0 in
    let number : a.number ≡ b.number = nat_cmp-IsAntisymmetric _ _ s.1 in
    λ i. record { task = record { job = record { start = start i; number = job i }; kind = kind i; number = task i }; number = number i }
