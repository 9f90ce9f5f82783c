-- How the end of an order is told.
use Rattle.std.proofs.Common.{◌≡◌, inl, inr, ℕ, false, List, codes, Option, Some, None, Result, Ok, Err, refl, sym, ap, subst, ◌∙◌}
use Rattle.std.specs.Prelude.{IfOk, IfErr}
use Rattle.mr_ids.specs.Attempt.{Attempt}
use Rattle.mr_out_layout.specs.Faults.{IsFailure}
use Rattle.mr_out_layout.specs.declared.fault.Fault.{Fault}
use Rattle.mr_out_layout.specs.declared.job.Job.{Job}
use Rattle.mr_out_steps.specs.declared.order.Order.{Order}
use Rattle.mr_out_steps.specs.declared.order.Order.TheVariants as order
use Rattle.mr_out_steps.specs.declared.order.Outcome.{Outcome}
use Rattle.mr_out_steps.specs.declared.order.Outcome.TheVariants as outcome
use Rattle.mr_out_files.specs.declared.directory.Directory.{Directory}
use Rattle.mr_out_program.specs.declared.answering.Answered.{Answered}
use Rattle.mr_out_program.specs.declared.saying.Saying.{Saying}
use Rattle.mr_out_program.specs.Sayings.{order_saying, attempt_saying}
use Rattle.mr_out_program.specs.Faults.{IsFaultOf}
use Rattle.mr_out_program.specs.Carried.{is_fault, CarriesAndSettles, Never, Says, SaysIfAny, Tells, CarriesAndTells, TellsStart, StartsOrFails, Begins, TellsForgotten, Forgets}

-- an order that was settled so, and of whose end this is said
pub tells_ok : (order : Order) (says : Outcome → Option Saying) (refuses : Fault → Type 0) (old new : Directory) (end : Outcome) (result : Result Answered Fault)
    → CarriesAndSettles order old new (Ok end) → SaysIfAny refuses (says end) result → CarriesAndTells order says refuses old new result
tells_ok order says refuses old new end result (last, it, settled) said =
    (last, it, by result (says end) (ap says settled.0) said)
  where
    by : (r : Result Answered Fault) (s : Option Saying) → s ≡ says last → SaysIfAny refuses s r → Tells says (IsFaultOf order old new) refuses last r
    by (Ok a) None is said = absurd said
    by (Ok a) (Some saying) is said = (settled.1, (saying, sym is, said))
    by (Err f) None is said = inr (inl (sym is, said))
    by (Err f) (Some saying) is said = inr (inr said)

pub tells_err : (order : Order) (says : Outcome → Option Saying) (refuses : Fault → Type 0) (old new : Directory) (f : Fault)
    → CarriesAndSettles order old new (Err f) → CarriesAndTells order says refuses old new (Err f)
tells_err order says refuses old new f (last, it, settled) = (last, it, inl settled)

pub begins_ok : (order : Order) (old new : Directory) (end : Outcome) (result : Result Answered Fault)
    → CarriesAndSettles order old new (Ok end) → (is_fault end ≡ false → IfOk result (TellsStart new.job end)) → IfErr result (IsFailure (codes "look") (codes ".")) → Begins order old new result
begins_ok order old new end result (last, it, settled) told failed =
    let known : is_fault end ≡ false = ap is_fault settled.0 ∙ settled.1 in
    let here : IfOk result (TellsStart new.job end) = told known in
    let there : IfOk result (TellsStart old.job end) = subst (λ (job : Job). IfOk result (TellsStart job end)) it.job here in
    (last, it, by result (subst (λ (o : Outcome). IfOk result (TellsStart old.job o)) settled.0 there) failed)
  where
    by : (r : Result Answered Fault) → IfOk r (TellsStart old.job last) → IfErr r (IsFailure (codes "look") (codes ".")) → StartsOrFails old.job (IsFaultOf order old new) last r
    by (Ok a) h g = h
    by (Err f) h g = inr g

pub begins_err : (order : Order) (old new : Directory) (f : Fault) → CarriesAndSettles order old new (Err f) → Begins order old new (Err f)
begins_err order old new f (last, it, settled) = (last, it, inl settled)

pub forgets_ok : (old new : Directory) (end : Outcome) (result : Result Answered Fault)
    → CarriesAndSettles order.Forget old new (Ok end) → IfOk result (Says (order_saying end)) → IfErr result (IsFailure (codes "remove") (codes "_mrout.forgotten")) → Forgets old new result
forgets_ok old new end result (last, it, settled) said failed =
    (last, it, by result (subst (λ (o : Outcome). IfOk result (Says (order_saying o))) settled.0 said) failed)
  where
    by : (r : Result Answered Fault) → IfOk r (Says (order_saying last)) → IfErr r (IsFailure (codes "remove") (codes "_mrout.forgotten")) → TellsForgotten (IsFaultOf order.Forget old new) last r
    by (Ok a) h g = (settled.1, h)
    by (Err f) h g = inr g

pub forgets_err : (old new : Directory) (f : Fault) → CarriesAndSettles order.Forget old new (Err f) → Forgets old new (Err f)
forgets_err old new f (last, it, settled) = (last, it, inl settled)

pub said_ok : (saying : Saying) (result : Result Answered Fault) → SaysIfAny Never (Some saying) result → IfOk result (Says saying)
said_ok saying (Ok a) h = h
said_ok saying (Err f) h = tt

pub said_err : (saying : Saying) (call path : List ℕ) (result : Result Answered Fault) → SaysIfAny Never (Some saying) result → IfErr result (IsFailure call path)
said_err saying call path (Ok a) h = tt
said_err saying call path (Err f) h = subst (λ (x : Fault). IsFailure call path x) (sym h) tt

-- an end that is no start
pub tells_other : (job : Job) (end : Outcome) (result : Result Answered Fault) → ((a : Attempt) → end ≡ outcome.Started a → ⊥) → is_fault end ≡ false → SaysIfAny Never (Some (attempt_saying end)) result → IfOk result (TellsStart job end)
tells_other job end (Err f) other known h = tt
tells_other job (outcome.Started a) (Ok answered) other known h = absurd (other a refl)
tells_other job _ (Ok answered) other known h = (known, h)
