-- Calls that are made one after another.
use Rattle.std.proofs.Common.{◌≡◌, ◌+◌, ◌≤◌, ◌^◌, ℕ, List, [], ◌∷◌, ◌++◌, length, Option, Some, None, Result, Ok, Err, refl, sym, ap, subst, ◌∙◌, append_assoc, arith}
use Rattle.std.proofs.lemmas.List.{length-append}
use Rattle.std.specs.String.{string_bytes}
use Rattle.mr_out_layout.specs.declared.fault.Fault.{Fault}
use Rattle.mr_out_layout.specs.declared.job.Job.{Job}
use Rattle.mr_out_disk.specs.declared.call.Call.{Call}
use Rattle.mr_out_disk.specs.declared.answer.Answer.{Answer}
use Rattle.mr_out_disk.specs.declared.answer.Answer.TheVariants.{Says}
use Rattle.mr_out_disk.specs.declared.answer.Reply.TheVariants.{Failed}
use Rattle.mr_out_steps.specs.declared.order.Order.{Order}
use Rattle.mr_out_steps.specs.declared.order.Outcome.{Outcome}
use Rattle.mr_out_steps.specs.declared.order.Outcome.TheVariants as outcome
use Rattle.mr_out_steps.specs.Commands.{Command, next_call, outcome_in}
use Rattle.mr_out_calls.specs.Recorded.{IsCarriedOut}
use Rattle.mr_out_calls.proofs.Going.{Going, begins-going, goes-on, ends-going, stops-going, ended}
use Rattle.mr_out_files.specs.declared.directory.Directory.{Directory}
use Rattle.mr_out_files.specs.Made.{calls_of, Keeps}
use Rattle.mr_out_files.specs.Troubles.{trouble_of, IsTroubleOf, HasTrouble}
use Rattle.mr_out_program.specs.Faults.{TellsTrouble, IsOfLast, IsNotKnown, IsNotKnownOfLast, IsFileFault, IsFaultOf}
use Rattle.mr_out_program.specs.Carried.{first_of, CarriesOut, CarriesAndSettles}
use Rattle.mr_out_program.specs.inner.Advance.{Advances}
use Rattle.mr_out_program.specs.inner.Settled.{IsToldBy, IsEndFault, SettlesAs}

pub ended_so : (c : Command) (d : Directory) (e : Option Outcome) → next_call c ≡ None → e ≡ outcome_in c.phase → Advances c d c d e
ended_so c d (Some end) none is = (sym is, refl)
ended_so c d None none is = absurd (ended c.phase none (sym is))

-- ---- the last call

abbrev Call1 : Type 0
Call1 = Call × Answer

last_of : List Call1 → Option Call1
last_of [] = None
last_of (x ∷ []) = Some x
last_of (x ∷ (y ∷ rest)) = last_of (y ∷ rest)

last_behind : (xs : List Call1) (x : Call1) → last_of (xs ++ x ∷ []) ≡ Some x
unfolding last_of
last_behind [] x = refl
last_behind (y ∷ []) x = refl
last_behind (y ∷ (z ∷ rest)) x = last_behind (z ∷ rest) x

one_last : (xs ys : List Call1) (x y : Call1) → xs ++ x ∷ [] ≡ ys ++ y ∷ [] → x ≡ y
one_last xs ys x y e =
    let same : Some x ≡ Some y = sym (last_behind xs x) ∙ ap last_of e ∙ last_behind ys y in
    cc

no_call_yet : (xs front : List Call1) (x : Call1) → xs ≡ xs ++ (front ++ x ∷ []) → ⊥
no_call_yet xs front x e =
    let all : length xs ≡ length xs + length (front ++ x ∷ []) = ap length e ∙ length-append xs (front ++ x ∷ []) in
    let more : length (front ++ x ∷ []) ≡ length front + 1 = length-append front (x ∷ []) in
    absurd (omega arith)

-- ---- so many calls of an order were made

pub record Making (order : Order) (first now : Directory) (c : Command) (n : ℕ) : Type 0 where
  pub going : Going (first_of order first.job) (calls_of first) (calls_of now) c n
  pub job : now.job ≡ first.job
  pub trouble : TellsTrouble first now

pub none_made : (order : Order) (d : Directory) (c : Command) → c ≡ first_of order d.job → Making order d d c 0
none_made order d c is = record {
  going = subst (λ (x : Command). Going (first_of order d.job) (calls_of d) (calls_of d) x 0) (sym is) (begins-going (first_of order d.job) (calls_of d));
  job = refl;
  trouble = λ front call e. absurd (no_call_yet (calls_of d) front (call, Says Failed) e);
}

failed_last : (first old new : Directory) (call : Call) (answer : Answer) → calls_of new ≡ calls_of old ++ (call, answer) ∷ [] → old.job ≡ first.job
    → (answer ≡ Says Failed → HasTrouble new (string_bytes old.job.suffix) call) → TellsTrouble first new
failed_last first old new call answer noted job failed = λ front other e.
    let both : calls_of old ++ (call, answer) ∷ [] ≡ (calls_of first ++ front) ++ (other, Says Failed) ∷ [] = sym noted ∙ e ∙ sym (append_assoc (calls_of first) front ((other, Says Failed) ∷ [])) in
    let same : (call, answer) ≡ (other, Says Failed) = one_last (calls_of old) (calls_of first ++ front) (call, answer) (other, Says Failed) both in
    let one : call ≡ other = ap (λ (p : Call1). p.0) same in
    let fails : answer ≡ Says Failed = ap (λ (p : Call1). p.1) same in
    let here : HasTrouble new (string_bytes first.job.suffix) call = subst (λ (job : Job). HasTrouble new (string_bytes job.suffix) call) job (failed fails) in
    subst (λ (x : Call). HasTrouble new (string_bytes first.job.suffix) x) one here

pub one_made : (order : Order) (first old new : Directory) (c d : Command) (n : ℕ) (r : Option Outcome) → Making order first old c n → Advances c old d new r → r ≡ None → Making order first new d (n + 1)
one_made order first old new c d n (Some end) m a is = absurd (cc)
one_made order first old new c d n None m (call, answer, next, noted, job, takes, failed) is = record {
  going = goes-on (first_of order first.job) (calls_of first) (calls_of old) (calls_of new) c d n call answer m.going next noted takes;
  job = job ∙ m.job;
  trouble = failed_last first old new call answer noted m.job failed;
}

abbrev Carried : Order → Directory → Directory → Outcome → Type 0
Carried order first now end = CarriesOut order first now end × TellsTrouble first now

pub all_made : (order : Order) (first old new : Directory) (c d : Command) (n : ℕ) (end : Outcome) → Making order first old c n → Advances c old d new (Some end) → CarriesOut order first new end × TellsTrouble first new
all_made order first old new c d n end m a =
    subst (λ (x : Directory). Carried order first x end) (sym a.1)
    (record { calls = ends-going (first_of order first.job) (calls_of first) (calls_of old) c n end m.going a.0; job = m.job }, m.trouble)

pub too_many : (order : Order) (first now : Directory) (c : Command) (n : ℕ) → Making order first now c n → 2 ^ 64 ≤ n + 1 → CarriesOut order first now outcome.Failed × TellsTrouble first now
too_many order first now c n m many =
    (record { calls = stops-going (first_of order first.job) (calls_of first) (calls_of now) c n m.going many; job = m.job }, m.trouble)

-- ---- what keeps the calls keeps what was carried out

pub still : (order : Order) (first old new : Directory) (end : Outcome) → CarriesOut order first old end → Keeps old new → CarriesOut order first new end
still order first old new end it k = record {
  calls = subst (λ (xs : List (Call × Answer)). IsCarriedOut (first_of order first.job) (calls_of first) xs end) (sym k.0) it.calls;
  job = k.1 ∙ it.job;
}

-- what the directory tells is of the call that failed last
told_trouble : (first old : Directory) (call : Call) (f : Fault) → HasTrouble old (string_bytes first.job.suffix) call → IsToldBy (trouble_of old) f → IsTroubleOf (string_bytes first.job.suffix) call f
told_trouble first old call f (told, is, of) by =
    let same : f ≡ told = subst (λ (o : Option Fault). IsToldBy o f) is by in
    subst (λ (x : Fault). IsTroubleOf (string_bytes first.job.suffix) call x) (sym same) of

of_last : (first old new : Directory) (f : Fault) → TellsTrouble first old → Keeps old new → IsToldBy (trouble_of old) f → IsOfLast first new f
of_last first old new f t k by = λ front call e. told_trouble first old call f (t front call (sym k.0 ∙ e)) by

unknown_of_last : (first old new : Directory) (told f : Fault) → TellsTrouble first old → Keeps old new → IsToldBy (trouble_of old) told → IsNotKnown told f → IsNotKnownOfLast first new f
unknown_of_last first old new told f t k by is = λ front call e. (told, told_trouble first old call told (t front call (sym k.0 ∙ e)) by, is)

end_fault : (order : Order) (first old new : Directory) (end : Outcome) (f : Fault) → old.job ≡ first.job → TellsTrouble first old → Keeps old new → IsEndFault order old end f → IsFaultOf order first new end f
end_fault order first old new outcome.NoMemory f job t k is = is
end_fault order first old new outcome.Failed f job t k is = of_last first old new f t k is
end_fault order first old new outcome.NotKnown f job t k (told, by, is) = unknown_of_last first old new told f t k by is
end_fault order first old new end f job t k is = subst (λ (j : Job). IsFileFault order j end f) job is

pub settles : (order : Order) (first old new : Directory) (end : Outcome) (result : Result Outcome Fault)
    → CarriesOut order first old end × TellsTrouble first old → Keeps old new → SettlesAs order old end result → CarriesAndSettles order first new result
settles order first old new end (Ok told) it k is = (end, still order first old new end it.0 k, is)
settles order first old new end (Err f) it k is = (end, still order first old new end it.0 k, (is.0, end_fault order first old new end f it.0.job it.1 k is.1))
