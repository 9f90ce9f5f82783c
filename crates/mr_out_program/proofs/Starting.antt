-- Attempts that are begun one after another.
use Rattle.std.proofs.Common.{◌≡◌, inl, inr, ℕ, zero, suc, ◌==◌, Bool, true, false, List, [], ◌∷◌, ◌++◌, length, arith, Result, Ok, Err, refl, sym, subst, append-nil}
use Rattle.std.specs.Prelude.{IfOk, IsErrAnd}
use Rattle.std.proofs.lemmas.Bool.Decides.{nat_tests}
use Rattle.std.specs.String.{string_bytes}
use Rattle.mr_ids.specs.Attempt.{Attempt}
use Rattle.mr_out_layout.specs.declared.fault.Fault.{Fault}
use Rattle.mr_out_layout.specs.declared.job.Job.{Job}
use Rattle.mr_out_steps.specs.declared.order.Order.TheVariants as order
use Rattle.mr_out_steps.specs.declared.order.Outcome.{Outcome}
use Rattle.mr_out_steps.specs.declared.order.Outcome.TheVariants as outcome
use Rattle.mr_out_files.specs.declared.directory.Directory.{Directory}
use Rattle.mr_out_program.specs.declared.answering.Answered.{Answered}
use Rattle.mr_out_program.specs.Carried.{CarriesAndSettles, Begins}
use Rattle.mr_out_program.specs.Turns.{IsTurn, TurnsOf, IsStart}
use Rattle.mr_out_program.specs.Starting.{IsLineOfEnd, StartsNext, Starts, StartsAll, TellsStarts}
use Rattle.mr_out_program.specs.inner.Begun.{StartsNextOrTurns, StartsOrTurns}
use Rattle.mr_out_program.proofs.Turning.{turns_more, begun_turn}

-- ---- one

pub one_started : (old new : Directory) (end : Outcome) (before after : List ℕ) (result : Result Bool Fault) → CarriesAndSettles order.StartNext old new (Ok end)
    → IfOk result (λ more. (line : List ℕ) × IsLineOfEnd new.job end line × (after ≡ before ++ line)) → StartsNextOrTurns old new before after result
one_started old new end before after (Ok more) (last, it, settled) (line, told, lines) = record {
  end = last;
  carried = it;
  line = line;
  told = subst (λ (o : Outcome). IsLineOfEnd old.job o line) settled.0 (subst (λ (job : Job). IsLineOfEnd job end line) it.job told);
  lines = lines;
}
one_started old new end before after (Err f) (last, it, settled) told = inl (order.StartNext, refl, last, it)

pub none_started : (old new : Directory) (before after : List ℕ) (f : Fault) → CarriesAndSettles order.StartNext old new (Err f) → StartsNextOrTurns old new before after (Err f)
none_started old new before after f it = inl (order.StartNext, refl, it.0, it.1)

-- where none was begun, there is no line
pub line_none : (job : Job) (end : Outcome) (text : List ℕ) → ((a : Attempt) → end ≡ outcome.Started a → ⊥) → (line : List ℕ) × IsLineOfEnd job end line × (text ≡ text ++ line)
line_none job (outcome.Started a) text other = absurd (other a refl)
line_none job _ text other = ([], refl, sym (append-nil text))

-- ---- one behind the other

pub starts_none : (d : Directory) (lines : List ℕ) → StartsAll d d lines lines
starts_none d lines = (0, ((refl, refl), refl))

pub starts_more : (first old new : Directory) (before lines after : List ℕ) → StartsAll first old before lines → StartsNext old new lines after → StartsAll first new before after
starts_more first old new before lines after (n, all) next = (suc n, (old, lines, all, next))

pub next_turn : (old new : Directory) (before after : List ℕ) → StartsNext old new before after → IsTurn IsStart old new
next_turn old new before after it = inl (order.StartNext, refl, it.end, it.carried)

turns_of : (n : ℕ) (first now : Directory) (before after : List ℕ) → Starts n first now before after → TurnsOf IsStart first now
turns_of zero first now before after it = (0, it.0)
turns_of (suc n) first now before after (mid, lines, all, next) = turns_more IsStart first mid now (turns_of n first mid before lines all) (next_turn mid now lines after next)

pub all_turns : (first now : Directory) (before after : List ℕ) → StartsAll first now before after → TurnsOf IsStart first now
all_turns first now before after (n, all) = turns_of n first now before after all

pub stops_more : (first old new : Directory) (before lines : List ℕ) → StartsAll first old before lines → IsTurn IsStart old new → TurnsOf IsStart first new
stops_more first old new before lines all turn = turns_more IsStart first old new (all_turns first old before lines all) turn

-- ---- what is told

pub tells_lines : (old new : Directory) (lines : List ℕ) (a : Answered) → StartsAll old new [] lines → string_bytes a.output ≡ lines → a.status ≡ 0 → TellsStarts old new (Ok a)
tells_lines old new lines a all prints ends = inl (subst (λ (x : List ℕ). StartsAll old new [] x) (sym prints) all, ends)

pub tells_none : (old mid new : Directory) (result : Result Answered Fault) → StartsAll old mid [] [] → Begins order.StartNext mid new result → TellsStarts old new result
tells_none old mid new (Ok a) all it = inr (mid, all, it)
tells_none old mid new (Err f) all it = stops_more old mid new [] [] all (begun_turn mid new (Err f) it)

nil_of : (xs : List ℕ) → (length xs == 0) ≡ true → xs ≡ []
nil_of [] e = refl
nil_of (x ∷ xs) e =
    let some : (length (x ∷ xs) == 0) ≡ false = grind (arith, nat_tests) in
    absurd (cc)

pub tells_empty : (old mid new : Directory) (before after : List ℕ) (r : Result Answered Fault) → before ≡ [] → (length after == 0) ≡ true → StartsAll old mid before after → Begins order.StartNext mid new r → TellsStarts old new r
tells_empty old mid new before after r first none all it =
    tells_none old mid new r (subst (λ (x : List ℕ). StartsAll old mid x []) first (subst (λ (x : List ℕ). StartsAll old mid before x) (nil_of after none) all)) it

-- where one failed, orders were carried out
pub stopped : {T : Type 0} (old new : Directory) (before after : List ℕ) (r : Result T Fault) (f : Fault) → IsErrAnd r (λ e. e ≡ f) → TurnsOf IsStart old new → StartsOrTurns old new before after r
stopped old new before after (Ok x) f e turns = absurd e
stopped old new before after (Err g) f e turns = turns
