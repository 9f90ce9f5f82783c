-- What is printed of an input does not depend on how the runs are made, and nothing is printed of one that is refused (our own profile).
use Rattle.std.specs.Prelude.{◌≡◌, ℕ, List}
use Rattle.std.specs.List.{AllByRecursion}
use Rattle.mr_script_writer.specs.Repeating.{repeating}
use Rattle.mr_sim_commands.specs.declared.fault.JobTextFault.{JobTextFault}
use Rattle.mr_play.specs.Text.{IsBadPlayJob, IsBadPlayLine}
use Rattle.mr_explore.specs.Ends.{LeadsTo}
use Rattle.mr_explore.specs.Runs.{Exploring, IsRunOf}
use Rattle.mr_explore_least.specs.Table.{Arrival}
use Rattle.mr_explore_merged.specs.declared.question.Question.{Question}
use Rattle.mr_explore_merged.specs.Came.{CameCarefully, CameSo, SomePassLimit}
use Rattle.mr_explore_merged.specs.Merged.{IsFullMerged, PrintsMerged, WouldPass}

-- No run of the input with at most so many faults comes so near to a limit that it matters: no fault of one passes it, and no look ahead does.
pub record IsFarFromLimits (most : ℕ) (input : List ℕ) : Type 0 where
  pub within : (first : Exploring) → IsRunOf input first → SomePassLimit most first → ⊥
  pub careful : (first : Exploring) (a : Arrival) → IsRunOf input first → CameSo most first a → CameCarefully most first a

-- Of such an input one text is printed.
abbrev pub OneTextIsPrinted : Type 0
OneTextIsPrinted = (asked : Question) (input text other : List ℕ) → IsFarFromLimits asked.faults input → PrintsMerged asked input text → PrintsMerged asked input other → text ≡ other

-- each script that is printed leads to the end that it stands beside
abbrev pub MergedScriptsLead : Type 0
MergedScriptsLead = (asked : Question) (input text : List ℕ) (p : PrintsMerged asked input text) → AllByRecursion (λ r. LeadsTo input (repeating r.events) r.end) p.table.rows

-- Nothing is printed of an input that is refused. Where something is printed, a run may pass a limit: one that need not be made. The script does not, nor the start of the first
-- master.
pub record MergedOrRefused : Type 0 where
  pub not_bad_job : (asked : Question) (input text : List ℕ) (e : JobTextFault) → PrintsMerged asked input text → IsBadPlayJob input e → ⊥
  pub not_bad_line : (asked : Question) (input text : List ℕ) (n : ℕ) → PrintsMerged asked input text → IsBadPlayLine input n → ⊥
  pub limit_is_of_a_run : (asked : Question) (input text : List ℕ) → PrintsMerged asked input text → IsFullMerged asked.faults input → WouldPass asked.faults input
