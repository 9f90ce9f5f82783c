-- Attempts that are begun one after another, and their lines. Our own.
use Rattle.std.specs.Prelude.{◌≡◌, ◌⊎◌, ℕ, zero, suc, List, [], ◌++◌, Result, Ok, Err}
use Rattle.std.specs.String.{string_bytes}
use Rattle.mr_out_layout.specs.declared.fault.Fault.{Fault}
use Rattle.mr_out_layout.specs.declared.job.Job.{Job}
use Rattle.mr_out_steps.specs.declared.order.Order.TheVariants as order
use Rattle.mr_out_steps.specs.declared.order.Outcome.{Outcome}
use Rattle.mr_out_steps.specs.declared.order.Outcome.TheVariants as outcome
use Rattle.mr_out_files.specs.declared.directory.Directory.{Directory}
use Rattle.mr_out_files.specs.Made.{Keeps}
use Rattle.mr_out_program.specs.declared.answering.Answered.{Answered}
use Rattle.mr_out_program.specs.Carried.{CarriesOut, started_line, Begins}
use Rattle.mr_out_program.specs.Turns.{TurnsOf, IsStart}

-- the line of the attempt that was begun, if one was
abbrev pub IsLineOfEnd : Job → Outcome → List ℕ → Type 0
IsLineOfEnd job (outcome.Started a) line = (here : List ℕ) × (line ≡ started_line job a here)
IsLineOfEnd job _ line = line ≡ []

-- an order to begin one was carried out, and its line stands behind the others
pub record StartsNext (old new : Directory) (before after : List ℕ) : Type 0 where
  pub end : Outcome
  pub carried : CarriesOut order.StartNext old new end
  pub line : List ℕ
  pub told : IsLineOfEnd old.job end line
  pub lines : after ≡ before ++ line

-- that came so many times, and nothing else
abbrev pub Starts : ℕ → Directory → Directory → List ℕ → List ℕ → Type 0
Starts zero old new before after = Keeps old new × (after ≡ before)
Starts (suc n) old new before after = (mid : Directory) × (lines : List ℕ) × Starts n old mid before lines × StartsNext mid new lines after

abbrev pub StartsAll : Directory → Directory → List ℕ → List ℕ → Type 0
StartsAll old new before after = (n : ℕ) × Starts n old new before after

-- The lines of all attempts that were begun are printed; where there was none, why. Where something failed, such orders were carried out.
abbrev pub TellsStarts : Directory → Directory → Result Answered Fault → Type 0
TellsStarts old new (Ok a) =
    (StartsAll old new [] (string_bytes a.output) × (a.status ≡ 0))
    ⊎ ((mid : Directory) × StartsAll old mid [] [] × Begins order.StartNext mid new (Ok a))
TellsStarts old new (Err f) = TurnsOf IsStart old new
