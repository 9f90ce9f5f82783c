-- The script of each run of an exploration, behind the job text of its input, is played to the end to which the run came. Our own.
use Rattle.std.specs.Prelude.{ℕ, Bool, List}
use Rattle.std.specs.List.{AllByRecursion}
use Rattle.mr_script_writer.specs.Repeating.{repeating}
use Rattle.mr_explore_search.specs.Runs.{Run}
use Rattle.mr_explore_search.specs.Laws.{IsOneBy}
use Rattle.mr_explore_ends.specs.Table.{End}
use Rattle.mr_explore.specs.declared.asked.Asked.{Asked}
use Rattle.mr_explore.specs.Ends.{LeadsTo}
use Rattle.mr_explore.specs.Explored.{PrintsExplored, found_in}
use Rattle.mr_explore.specs.Exploring.{outcome_of}
use Rattle.mr_explore.specs.Runs.{Exploring, IsRunOf, explored, world_of}

-- a run that comes of the run of an input by at most so many faults, deep or not
abbrev pub ComesOf : (input : List ℕ) (most faults k : ℕ) (deep : Bool) → Exploring → Type 0
ComesOf input most faults k deep s = (first : Exploring) × IsRunOf input first × IsOneBy explored most faults (record first { deep = deep }) (Run k s)

-- the script of each of them leads to its end
abbrev pub ScriptsLeadToTheirEnds : Type 0
ScriptsLeadToTheirEnds = (input : List ℕ) (most faults k : ℕ) (deep : Bool) (s : Exploring) → ComesOf input most faults k deep s
    → LeadsTo input (repeating s.played.events) (outcome_of s.config (world_of s))

-- each script leads to the end that it stands beside
abbrev pub LeadToEnds : (input : List ℕ) → List End → Type 0
LeadToEnds input ends = AllByRecursion (λ e. LeadsTo input e.script e.end) ends

-- so does each that is printed
abbrev pub ExploredScriptsLead : Type 0
ExploredScriptsLead = (asked : Asked) (input text : List ℕ) (p : PrintsExplored asked input text) → LeadToEnds input (found_in asked.faults p.made p.rest).table.ends
