-- An attempt as its numbers, and whether it is a reduce's: what sets and maps of attempts are made with. Our own: an order of attempts.
use Rattle.std.specs.Prelude.{◌≡◌, refl, ℕ, Bool, true, false}
use Rattle.std.specs.Coded.{Coded, code_by, coded×, coded_ℕ, coded_bool}
use Rattle.mr_ids.specs.Attempt.{Attempt}
use Rattle.mr_ids.specs.Kind.{is_reduce}
use Rattle.mr_ids.specs.declared.id.TaskKind.{TaskKind}
use Rattle.mr_ids.specs.declared.id.TaskKind.TheVariants.{Map, Reduce}

abbrev pub kind_from : Bool → TaskKind
kind_from false = Map
kind_from true = Reduce

pub kind_back : (k : TaskKind) → kind_from (is_reduce k) ≡ k
kind_back Map = refl
kind_back Reduce = refl

abbrev pub kind_code : Coded TaskKind
kind_code = code_by Bool coded_bool is_reduce kind_from kind_back

abbrev pub attempt_code : Coded Attempt
attempt_code =
    code_by (((ℕ × ℕ) × TaskKind) × (ℕ × ℕ)) (coded× (coded× (coded× coded_ℕ coded_ℕ) kind_code) (coded× coded_ℕ coded_ℕ))
    (λ a. (((a.task.job.start, a.task.job.number), a.task.kind), (a.task.number, a.number)))
    (λ p. record { task = record { job = record { start = p.0.0.0; number = p.0.0.1 }; kind = p.0.1; number = p.1.0 }; number = p.1.1 })
    (λ _. refl)
